use Rattle.std.proofs.Common.{rules, ℕ, ◌+◌, ◌≤◌, [], ◌∷◌, ◌++◌, Option, Some, length, inr, refl, sym, ap, ◌∙◌, subst, arith}
use Rattle.std.proofs.lemmas.List.{length-append}
use Rattle.segs.specs.MarkedList.{Next, assigned}
use Rattle.intake.specs.Rule.{MayFollow}
use Rattle.calls.specs.Glossary.{Arrival, Known, list_seat, known_moved, ListKey, known_in, next_known, Follows}
use Rattle.calls.specs.declared.view.ListRight.TheVariants.{OfCall}
use Rattle.calls.proofs.Lining.{length_moved}
use Rattle.calls.proofs.Keeping.{arrived_waiting}
use Rattle.calls.proofs.Listing.{entries_queued, list_from}
use Rattle.calls.proofs.Arriving.{comes_behind}
use Rattle.calls.proofs.list.List.move_one.Goals as goal

pub move_call-requires : goal.move_call-requires
move_call-requires g c = (
  omega arith,
  (
    search rules,
    (
      (let v = c.self.invariant in
          let f : Follows _ c.self.inside.outlet.taken c.wait-entry.result = subst (λ (k : Option ListKey). MayFollow Follows k c.self.inside.outlet.taken c.wait-entry.result) v.key c.wait-entry.ensures.follows_is in
          let same = ap (λ l. l.tallies) c.self.view_is ∙ sym c.requires.table in
          let there = v.there in
          let words = ap (λ t. t.words) same in
          let wide = c.requires.wide in (
            c.self.inside.processor,
            c.wait-entry.result.entry,
            record { seated = same; me = v.seated.me },
            record { seated = f.call.seated ∙ same; me = f.call.me ∙ ap (λ (n : ℕ). (list_seat (OfCall c.self.inside.processor n c.wait-entry.result.entry), [])) (sym v.arrived ∙ v.numbered) },
            omega (arith, there, words, wide),
          )),
      search rules,
    ),
  ),
)

pub overflow_add-self : goal.overflow_add-self
overflow_add-self g c = let few = c.self.invariant.few in let most = c.self.invariant.most in omega (arith, few, most)

pub invariant_of-self-2 : goal.invariant_of-self-2
invariant_of-self-2 g c =
    let v = c.self.invariant in
    let k : Known g.row.J.Denot = known_in c.self.inside.seat.me.0.client.list in
    let x : Arrival g.row.J.Denot = c.wait-entry.result in
    let f : Follows _ c.self.inside.outlet.taken x = subst (λ (z : Option ListKey). MayFollow Follows z c.self.inside.outlet.taken x) v.key c.wait-entry.ensures.follows_is in
    let same = ap (λ l. l.tallies) c.self.view_is ∙ sym c.requires.table in
    let m = c.move_call.ensures c.self.inside.processor x.entry record { seated = same; me = v.seated.me } record { seated = f.call.seated ∙ same; me = f.call.me ∙ ap (λ (n : ℕ). (list_seat (OfCall c.self.inside.processor n x.entry), [])) (sym v.arrived ∙ v.numbered) } in
    let more : next_known k + 1 ≤ k.queued = let h = c.requires.more in let a = ap (λ l. l.counted) c.self.view_is in let b = ap Rattle.calls.specs.Views.next_of c.self.view_is in omega (arith, h, a, b) in
    let long = length-append c.self.inside.outlet.taken (x ∷ []) in
    let one = length_moved x.entry k.waiting in
    let arrived = v.arrived in
    let numbered = v.numbered in
    let there = v.there in
    let words = ap (λ t. t.words) m.table in
    let outlet = c.wait-entry.ensures.is in
    let taken = ap (λ o. o.taken) outlet in
    list_from _ (known_moved x.entry k) m.list_is
    (entries_queued c.self.inside.waiting.entries c.assign.new.self.entries k.waiting x.entry x.entry.cookie.number v.wrapping
    (c.assign.ensures.entries ∙ (ap (λ (n : ℕ). assigned n c.push.new.self.entries) c.number-number.ensures.value ∙ ap (assigned x.entry.cookie.number) (c.in-Ok.ensures.added ∙ ap (λ l. l ++ (Some x.entry, Next) ∷ []) c.reserve.ensures.unchanged))))
    (arrived_waiting c.self.inside.given x.sight c.self.inside.sight x.entry k.waiting (comes_behind _ c.self.inside.outlet.taken c.self.inside.given k.waiting x v.last (omega (arith, arrived, numbered)) f) f.given v.waiting)
    v.out record {
      one_domain = f.domain;
      key = ap (λ o. o.key) outlet ∙ (v.key ∙ (λ i. Some record { domain = c.self.inside.sight.domain; tallies = sym m.table i; processor = c.self.inside.processor }));
      last = inr (c.self.inside.outlet.taken, x, taken, refl);
      arrived = let total = ap length taken in omega (arith, total, long, arrived);
      numbered = omega (arith, numbered, one);
      few = omega (arith, numbered, more);
      most = v.most;
      there = omega (arith, there, words);
    }

pub returns : goal.returns
returns g c =
    let v = c.self.invariant in
    let x : Arrival g.row.J.Denot = c.wait-entry.result in
    let f : Follows _ c.self.inside.outlet.taken x = subst (λ (z : Option ListKey). MayFollow Follows z c.self.inside.outlet.taken x) v.key c.wait-entry.ensures.follows_is in
    let same = ap (λ l. l.tallies) c.self.view_is ∙ sym c.requires.table in
    let m = c.move_call.ensures c.self.inside.processor x.entry record { seated = same; me = v.seated.me } record { seated = f.call.seated ∙ same; me = f.call.me ∙ ap (λ (n : ℕ). (list_seat (OfCall c.self.inside.processor n x.entry), [])) (sym v.arrived ∙ v.numbered) } in
    rw (← c.self.view_is) (record {
      entry = x.entry;
      is = λ i. let k = known_in (m.list_is i).0.client.list in record { tallies = m.table i; processor = c.self.inside.processor; counted = k.queued; finished = k.finished; out = k.out; moved = k.moved; entries = k.waiting; given = x.sight; sight = c.self.inside.sight };
    })
