use Rattle.std.proofs.Common.{rules, ◌≡◌, ℕ, ◌<◌, List, [], ◌∷◌, ◌++◌, Some, refl, ap, sym, ◌∙◌, subst, arith}
use Rattle.std.specs.Prelude.{slice_get}
use Rattle.atomic_table.specs.Seated.{TableId}
use Rattle.intake.specs.Views.{LazyInletView}
use Rattle.sections.specs.Glossary.{CookieView, SightView, GivesCookieBehind}
use Rattle.calls.specs.Glossary.{Entry, Arrival, Deed, calls_in, deed, deeds_of, queued_in, AreTrue, IsBeginning, list_seat, IsPlaced, IsAboutTo, NoteView, ListKey, GoesOn, IsGiven, IsIntake, IsReceipt}
use Rattle.calls.specs.declared.view.Act.TheVariants.{Queue}
use Rattle.calls.specs.declared.view.ListRight.TheVariants.{OfCall}
use Rattle.calls.proofs.Counting.{queued_here, same_queued}
use Rattle.calls.proofs.Keeping.{goes_on_noted, given_noted}
use Rattle.calls.proofs.Once.{calls_counted, calls_here, call_found, same_calls}
use Rattle.calls.proofs.Arriving.{intake_as, intake_later, intake_pushed, follows_in}
use Rattle.calls.proofs.seat.CallSeat.queue.Goals as goal

pub copy_given-copy-requires : goal.copy_given-copy-requires
copy_given-copy-requires g c = let note = c.cookie_behind-cookie.ensures in ap (λ (k : CookieView). k.domain) note.cookie_is ∙ sym note.adds.same.0

pub push-requires : goal.push-requires
push-requires g c =
    let v = c.self.invariant in
    let p : ℕ = c.self.inside.processor in
    let k : CookieView = c.copy_given-copy.new.given in
    let e : Entry g.row.J.Denot = record { job = c.args.job; cookie = k } in
    let a = c.announce-call.ensures in
    let t : SightView = c.cookie_behind-cookie.new.sight in
    let domain = c.requires.domain ∙ ap (λ s. s.domain) (sym c.self.view_is) in
    let note : GivesCookieBehind c.self.inside.sight c.args.cpu.now c.cookie_behind-cookie.new.self k t = subst (λ (z : CookieView). GivesCookieBehind c.self.inside.sight c.args.cpu.now c.cookie_behind-cookie.new.self z t) (sym c.copy_given-copy.ensures.same) c.cookie_behind-cookie.ensures in
    let on : GoesOn c.self.inside.sight t = goes_on_noted _ _ _ _ k domain note in
    follows_in v.intake (queued_in p c.self.inside.seat.me.0.seen) (calls_counted p c.self.inside.seat.me.0.seen) (record { entry = e; sight = c.copy_sight-sight.result; call = c.announce-call.result }) a.call_is
    (subst (λ (z : SightView). GoesOn c.self.inside.sight z) (sym c.copy_sight-sight.ensures.copy) on)
    (subst (λ (z : SightView). IsGiven z e) (sym c.copy_sight-sight.ensures.copy) (given_noted _ t _ _ k c.args.job note))

pub withdraw-requires : goal.withdraw-requires
withdraw-requires g c = (
  omega arith,
  (
    search rules,
    (let v = c.self.invariant in
        let p : ℕ = c.self.inside.processor in
        let k : CookieView = c.copy_given-copy.new.given in
        let e : Entry g.row.J.Denot = record { job = c.args.job; cookie = k } in
        let a = c.announce-call.ensures in
        let t : SightView = c.cookie_behind-cookie.new.sight in
        let domain = c.requires.domain ∙ ap (λ s. s.domain) (sym c.self.view_is) in
        let note : GivesCookieBehind c.self.inside.sight c.args.cpu.now c.cookie_behind-cookie.new.self k t = subst (λ (z : CookieView). GivesCookieBehind c.self.inside.sight c.args.cpu.now c.cookie_behind-cookie.new.self z t) (sym c.copy_given-copy.ensures.same) c.cookie_behind-cookie.ensures in
        let about : IsAboutTo p c.deref.result.now.shared.key e c.announce-call.new.seat.me.0 = record {
          who = ap (λ m. m.0.role) a.me ∙ v.rests.who;
          there = subst (λ z. p < z.shared.key.processors) (sym c.deref.ensures) v.rests.there;
          calling = ap (λ m. m.0.client.list) a.me;
          no_batch = ap (λ m. m.0.client.batch) a.me ∙ v.rests.no_batch;
        } in
        let x = c.in-Err.ensures.0 in
        let table = a.call_is.seated ∙ (v.placed.seated ∙ ap (λ z. z.shared.table_id) (sym c.deref.ensures)) in
        let seen = ap (λ m. m.0.seen) a.me in
        (p, e, about, record { seated = ap (λ z. z.call.table_id) x ∙ table; me = ap (λ z. z.call.me) x ∙ (a.call_is.me ∙ ap (λ (l : List (Deed g.row.J.Denot)). (list_seat (OfCall p (queued_in p l) e), [])) (sym seen)) })),
  ),
)

pub invariant_of-self : goal.invariant_of-self
invariant_of-self g c =
    let v = c.self.invariant in
    let p : ℕ = c.self.inside.processor in
    let k : CookieView = c.copy_given-copy.new.given in
    let a = c.announce-call.ensures in
    let t : SightView = c.cookie_behind-cookie.new.sight in
    let domain = c.requires.domain ∙ ap (λ s. s.domain) (sym c.self.view_is) in
    let note : GivesCookieBehind c.self.inside.sight c.args.cpu.now c.cookie_behind-cookie.new.self k t = subst (λ (z : CookieView). GivesCookieBehind c.self.inside.sight c.args.cpu.now c.cookie_behind-cookie.new.self z t) (sym c.copy_given-copy.ensures.same) c.cookie_behind-cookie.ensures in
    let on : GoesOn c.self.inside.sight t = goes_on_noted _ _ _ _ k domain note in
    let w = c.withdraw.ensures in
    let seen : c.withdraw.new.seat.me.0.seen ≡ c.self.inside.seat.me.0.seen = ap (λ m. m.0.seen) w.me ∙ ap (λ m. m.0.seen) a.me in record {
      placed = record { seated = w.table ∙ (a.table ∙ v.placed.seated); wide = v.placed.wide; bare = ap (λ m. m.1) w.me ∙ (ap (λ m. m.1) a.me ∙ v.placed.bare) };
      rests = record { who = ap (λ m. m.0.role) w.me ∙ (ap (λ m. m.0.role) a.me ∙ v.rests.who); there = v.rests.there; no_list = ap (λ m. m.0.client.list) w.me; no_batch = ap (λ m. m.0.client.batch) w.me ∙ (ap (λ m. m.0.client.batch) a.me ∙ v.rests.no_batch) };
      loads = subst (λ (l : List (Deed g.row.J.Denot)). AreTrue l) (sym seen) v.loads;
      queued = v.queued ∙ ap (queued_in p) (sym seen);
      few = v.few;
      intake = subst (λ (z : LazyInletView (Arrival g.row.J.Denot) ListKey × SightView). IsIntake c.withdraw.new.seat.table_id p z.0 z.1 (calls_in p c.withdraw.new.seat.me.0.seen))
          (λ i. (sym c.in-Err.ensures.1 i, sym c.copy_sight-sight.ensures.same i)) (intake_later (intake_as v.intake (w.table ∙ a.table) (ap (calls_in p) seen)) on);
    }

pub add_queued-k-requires : goal.add_queued-k-requires
add_queued-k-requires g c = (
  omega arith,
  (
    search rules,
    (
      (let v = c.self.invariant in
          let p : ℕ = c.self.inside.processor in
          let k : CookieView = c.copy_given-copy.new.given in
          let e : Entry g.row.J.Denot = record { job = c.args.job; cookie = k } in
          let a = c.announce-call.ensures in
          let t : SightView = c.cookie_behind-cookie.new.sight in
          let domain = c.requires.domain ∙ ap (λ s. s.domain) (sym c.self.view_is) in
          let note : GivesCookieBehind c.self.inside.sight c.args.cpu.now c.cookie_behind-cookie.new.self k t = subst (λ (z : CookieView). GivesCookieBehind c.self.inside.sight c.args.cpu.now c.cookie_behind-cookie.new.self z t) (sym c.copy_given-copy.ensures.same) c.cookie_behind-cookie.ensures in
          let about : IsAboutTo p c.deref.result.now.shared.key e c.announce-call.new.seat.me.0 = record {
            who = ap (λ m. m.0.role) a.me ∙ v.rests.who;
            there = subst (λ z. p < z.shared.key.processors) (sym c.deref.ensures) v.rests.there;
            calling = ap (λ m. m.0.client.list) a.me;
            no_batch = ap (λ m. m.0.client.batch) a.me ∙ v.rests.no_batch;
          } in
          (e, about)),
      search rules,
    ),
  ),
)

pub invariant_of-self-2 : goal.invariant_of-self-2
invariant_of-self-2 g c =
    let v = c.self.invariant in
    let p : ℕ = c.self.inside.processor in
    let k : CookieView = c.copy_given-copy.new.given in
    let e : Entry g.row.J.Denot = record { job = c.args.job; cookie = k } in
    let a = c.announce-call.ensures in
    let t : SightView = c.cookie_behind-cookie.new.sight in
    let domain = c.requires.domain ∙ ap (λ s. s.domain) (sym c.self.view_is) in
    let note : GivesCookieBehind c.self.inside.sight c.args.cpu.now c.cookie_behind-cookie.new.self k t = subst (λ (z : CookieView). GivesCookieBehind c.self.inside.sight c.args.cpu.now c.cookie_behind-cookie.new.self z t) (sym c.copy_given-copy.ensures.same) c.cookie_behind-cookie.ensures in
    let on : GoesOn c.self.inside.sight t = goes_on_noted _ _ _ _ k domain note in
    let about : IsAboutTo p c.deref.result.now.shared.key e c.announce-call.new.seat.me.0 = record {
      who = ap (λ m. m.0.role) a.me ∙ v.rests.who;
      there = subst (λ z. p < z.shared.key.processors) (sym c.deref.ensures) v.rests.there;
      calling = ap (λ m. m.0.client.list) a.me;
      no_batch = ap (λ m. m.0.client.batch) a.me ∙ v.rests.no_batch;
    } in
    let q = c.add_queued-k.ensures.queues e about in
    let seen : c.announce-call.new.seat.me.0.seen ≡ c.self.inside.seat.me.0.seen = ap (λ m. m.0.seen) a.me in
    let own : deeds_of p q.does.before ≡ deeds_of p c.self.inside.seat.me.0.seen = q.does.own ∙ ap (deeds_of p) seen in
    let before = same_queued p q.does.before c.self.inside.seat.me.0.seen own in
    let more = ap (queued_in p) q.does.seen ∙ queued_here p e q.does.before in
    let was = v.queued in
    let few = v.few in
    let full = c.if-self-eq-MOST_CALLS.false in
    let table = c.add_queued-k.ensures.placed.seated ∙ (ap (λ z. z.shared.table_id) c.deref.ensures ∙ sym v.placed.seated) in
    let calls : calls_in p c.add_queued-k.new.seat.me.0.seen ≡ calls_in p c.self.inside.seat.me.0.seen ++ e ∷ [] = ap (calls_in p) q.does.seen ∙ (calls_here p e q.does.before ∙ ap (λ z. z ++ e ∷ []) (same_calls p q.does.before c.self.inside.seat.me.0.seen own)) in record {
      placed = subst (λ z. IsPlaced z.shared.key z.shared.table_id c.add_queued-k.new.seat) c.deref.ensures c.add_queued-k.ensures.placed;
      rests = record { who = q.does.who ∙ about.who; there = v.rests.there; no_list = q.no_list; no_batch = q.no_batch };
      loads = q.does.loads;
      queued = omega (arith, more, before, was);
      few = omega (arith, few, full);
      intake =
          intake_as (intake_pushed v.intake (record { entry = e; sight = c.copy_sight-sight.result; call = c.announce-call.result }) c.push.new.self c.copy_sight-sight.new.sight c.in_default.ensures
          (c.copy_sight-sight.ensures.copy ∙ sym c.copy_sight-sight.ensures.same) (subst (λ (z : SightView). GoesOn c.self.inside.sight z) (sym c.copy_sight-sight.ensures.same) on)) table calls;
    }

pub invariant_of-result : goal.invariant_of-result
invariant_of-result g c =
    let v = c.self.invariant in
    let p : ℕ = c.self.inside.processor in
    let k : CookieView = c.copy_given-copy.new.given in
    let e : Entry g.row.J.Denot = record { job = c.args.job; cookie = k } in
    let a = c.announce-call.ensures in
    let t : SightView = c.cookie_behind-cookie.new.sight in
    let domain = c.requires.domain ∙ ap (λ s. s.domain) (sym c.self.view_is) in
    let note : GivesCookieBehind c.self.inside.sight c.args.cpu.now c.cookie_behind-cookie.new.self k t = subst (λ (z : CookieView). GivesCookieBehind c.self.inside.sight c.args.cpu.now c.cookie_behind-cookie.new.self z t) (sym c.copy_given-copy.ensures.same) c.cookie_behind-cookie.ensures in
    let about : IsAboutTo p c.deref.result.now.shared.key e c.announce-call.new.seat.me.0 = record {
      who = ap (λ m. m.0.role) a.me ∙ v.rests.who;
      there = subst (λ z. p < z.shared.key.processors) (sym c.deref.ensures) v.rests.there;
      calling = ap (λ m. m.0.client.list) a.me;
      no_batch = ap (λ m. m.0.client.batch) a.me ∙ v.rests.no_batch;
    } in
    let q = c.add_queued-k.ensures.queues e about in
    let seen : c.announce-call.new.seat.me.0.seen ≡ c.self.inside.seat.me.0.seen = ap (λ m. m.0.seen) a.me in
    let own : deeds_of p q.does.before ≡ deeds_of p c.self.inside.seat.me.0.seen = q.does.own ∙ ap (deeds_of p) seen in
    let held : c.add_queued-k.result ≡ queued_in p c.self.inside.seat.me.0.seen = q.own ∙ ap (queued_in p) seen in
    let before = same_queued p q.does.before c.self.inside.seat.me.0.seen own in
    let more = ap (queued_in p) q.does.seen ∙ queued_here p e q.does.before in
    let r : CookieView = c.copy_given-copy.result in
    let one : k ≡ r = c.copy_given-copy.ensures.same ∙ sym c.copy_given-copy.ensures.copy in
    let table = c.add_queued-k.ensures.placed.seated ∙ ap (λ z. z.shared.table_id) c.deref.ensures in
    let wide = v.placed.wide in
    let there = v.rests.there in
    let words = ap (λ (z : TableId). z.words) table in
    subst (λ (z : NoteView g.row.J.Denot). IsReceipt (record { processor = p; k = c.add_queued-k.result; cookie = r; note = z })) (sym c.note.ensures.note) record {
      there = omega (arith, there, words, wide);
      queued = omega (arith, more, before, held);
      call = (c.args.job, ap (λ (l : List (Deed g.row.J.Denot)). slice_get (calls_in p l) c.add_queued-k.result) q.does.seen ∙ (call_found p c.add_queued-k.result e q.does.before (held ∙ sym before) ∙ ap (λ (z : CookieView). Some record { job = c.args.job; cookie = z }) one));
    }

pub returns : goal.returns
returns g c =
    let v = c.self.invariant in
    let p : ℕ = c.self.inside.processor in
    let k : CookieView = c.copy_given-copy.new.given in
    let e : Entry g.row.J.Denot = record { job = c.args.job; cookie = k } in
    let a = c.announce-call.ensures in
    let t : SightView = c.cookie_behind-cookie.new.sight in
    let domain = c.requires.domain ∙ ap (λ s. s.domain) (sym c.self.view_is) in
    let note : GivesCookieBehind c.self.inside.sight c.args.cpu.now c.cookie_behind-cookie.new.self k t = subst (λ (z : CookieView). GivesCookieBehind c.self.inside.sight c.args.cpu.now c.cookie_behind-cookie.new.self z t) (sym c.copy_given-copy.ensures.same) c.cookie_behind-cookie.ensures in
    let on : GoesOn c.self.inside.sight t = goes_on_noted _ _ _ _ k domain note in
    let about : IsAboutTo p c.deref.result.now.shared.key e c.announce-call.new.seat.me.0 = record {
      who = ap (λ m. m.0.role) a.me ∙ v.rests.who;
      there = subst (λ z. p < z.shared.key.processors) (sym c.deref.ensures) v.rests.there;
      calling = ap (λ m. m.0.client.list) a.me;
      no_batch = ap (λ m. m.0.client.batch) a.me ∙ v.rests.no_batch;
    } in
    let q = c.add_queued-k.ensures.queues e about in
    let seen : c.announce-call.new.seat.me.0.seen ≡ c.self.inside.seat.me.0.seen = ap (λ m. m.0.seen) a.me in
    let own : deeds_of p q.does.before ≡ deeds_of p c.self.inside.seat.me.0.seen = q.does.own ∙ ap (deeds_of p) seen in
    let held : c.add_queued-k.result ≡ queued_in p c.self.inside.seat.me.0.seen = q.own ∙ ap (queued_in p) seen in
    let before = same_queued p q.does.before c.self.inside.seat.me.0.seen own in
    let more = ap (queued_in p) q.does.seen ∙ queued_here p e q.does.before in
    let r : CookieView = c.copy_given-copy.result in
    let one : k ≡ r = c.copy_given-copy.ensures.same ∙ sym c.copy_given-copy.ensures.copy in
    let over : c.add_queued-k.result < queued_in p c.add_queued-k.new.seat.me.0.seen = omega (arith, more, before, held) in
    rw (c.note.ensures.same, ← c.self.view_is) (record {
      behind = c.self.inside.sight;
      sight = t;
      note = subst (λ (z : CookieView). GivesCookieBehind c.self.inside.sight c.args.cpu.now c.cookie_behind-cookie.new.self z t) one note;
      tally = record {
        same = (c.add_queued-k.ensures.placed.seated ∙ (ap (λ z. z.shared.table_id) c.deref.ensures ∙ sym v.placed.seated), refl, refl, ap (λ (z : SightView). z.domain) c.copy_sight-sight.ensures.same ∙ on.domain);
        before = q.does.before;
        since = subst (λ (l : List (Deed g.row.J.Denot)). IsBeginning l q.does.before) seen q.does.since;
        own = own;
        seen = q.does.seen ∙ ap (λ (z : CookieView). q.does.before ++ deed p (Queue record { job = c.args.job; cookie = z }) ∷ []) one;
        loads = q.does.loads;
      };
      processor = refl;
      counted = held;
      noted = (ap (λ (n : NoteView g.row.J.Denot). n.tallies) c.note.ensures.note, ap (λ (n : NoteView g.row.J.Denot). n.seen) c.note.ensures.note);
      known = subst (λ (n : NoteView g.row.J.Denot). c.add_queued-k.result < queued_in p n.seen) (sym c.note.ensures.note) over;
    })
