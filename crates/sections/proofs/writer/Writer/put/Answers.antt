use Rattle.std.proofs.Common.{◌≡◌, ◌≢◌, ℕ, ◌+◌, ◌<◌, List, [], ◌∷◌, ◌++◌, Some, get_or, set, get_or-set_other, length, rules, refl, sym, ap, ◌∙◌, subst, arith}
use mathlib.Core.Logic.{dite}
use native.Mathlib.Decide.{ℕ_discrete}
use Rattle.atomic_table.specs.Seated.{TableId}
use Rattle.sseq.specs.Numbers.{cookie_at}
use Rattle.onedom.specs.declared.event.Event.{Event}
use Rattle.onedom.specs.declared.event.Event.TheVariants.{Put, Note}
use Rattle.onedom.specs.declared.event.Maker.TheVariants.{Processor}
use Rattle.onedom.specs.Histories.{slot_of, version_of, IsBeginning}
use Rattle.onedom.proofs.CallerLemmas.{version_put, slot_put}
use Rattle.sections.specs.Glossary.{Text, View, slot_words, offer_of, cells_in, bearer, informed, Adds, EndsWithText, Plan, offered, plan_put, words_with, plan_with, view_of_writer, WriterView, SlotView, IsOwn, IsRetired, IsAtRest, view_of_cpu, CpuView, AddsEvent}
use Rattle.sections.proofs.CpuViews.{seen_as, adds_cut, notes_from, rests_cut, whole_cookie}
use Rattle.sections.proofs.Staying.{maker_of, stays_told}
use Rattle.sections.proofs.Writing.{as_shelf, slot_quiet}
use Rattle.sections.specs.declared.writer.Standing.TheVariants.{Blank, Out, Current, Retired}
use Rattle.sections.proofs.Standings.{HasHomes, homes_back, stands_over, retires, put_stands, put_count, out_clear}
use Rattle.sections.proofs.Putting.{has_put, offered_put}
use Rattle.sections.proofs.writer.Writer.put.Goals as goal

pub note_number-requires-clause-placed : goal.note_number-requires-clause-placed
note_number-requires-clause-placed g c =
    let P = c.put_in.ensures in
    let a = P.adds c.cpu.inside.processor (words_with c.self.inside.seat.me.0.right) c.self.inside.seat.me.0.seen (plan_with c.self.inside.seat.me.0.right) c.cpu.invariant.role c.self.invariant.right in
    rw c.deref-table.ensures (record {
      seated = P.same_table.0 ∙ c.cpu.invariant.placed.seated;
      wide = c.cpu.invariant.placed.wide;
      cells = c.cpu.invariant.placed.cells;
      bare = ap (λ m. m.1) P.stays;
      sized = ap (λ m. m.0.processors) P.stays ∙ (a.0.processors ∙ c.cpu.invariant.placed.sized);
    })

pub note_number-requires-clause-role : goal.note_number-requires-clause-role
note_number-requires-clause-role g c =
    let P = c.put_in.ensures in
    let a = P.adds c.cpu.inside.processor (words_with c.self.inside.seat.me.0.right) c.self.inside.seat.me.0.seen (plan_with c.self.inside.seat.me.0.right) c.cpu.invariant.role c.self.invariant.right in
    rw c.deref-table.ensures (c.cpu.inside.processor, ap (λ m. m.0.role) P.stays ∙ (a.0.role ∙ c.cpu.invariant.role), c.cpu.invariant.there)

pub refresh_in-requires-clause-placed : goal.refresh_in-requires-clause-placed
refresh_in-requires-clause-placed g c =
    let P = c.put_in.ensures in
    let N = c.note_number.ensures in
    let a = P.adds c.cpu.inside.processor (words_with c.self.inside.seat.me.0.right) c.self.inside.seat.me.0.seen (plan_with c.self.inside.seat.me.0.right) c.cpu.invariant.role c.self.invariant.right in
    let b = N.adds c.cpu.inside.processor (ap (λ m. m.0.role) P.stays ∙ (a.0.role ∙ c.cpu.invariant.role)) in
    rw c.deref-table.ensures (
      record {
        seated = N.same_table ∙ (P.same_table.0 ∙ c.cpu.invariant.placed.seated);
        wide = c.cpu.invariant.placed.wide;
        cells = c.cpu.invariant.placed.cells;
        bare = N.bare ∙ ap (λ m. m.1) P.stays;
        sized = b.processors ∙ (ap (λ m. m.0.processors) P.stays ∙ (a.0.processors ∙ c.cpu.invariant.placed.sized));
      },
      record { free = N.right ∙ ap (λ m. m.0.right) P.stays; told = b.told; sound = b.sound },
    )

pub refresh_in-requires-clause-pen : goal.refresh_in-requires-clause-pen
refresh_in-requires-clause-pen g c =
    let P = c.put_in.ensures in
    let a = P.adds c.cpu.inside.processor (words_with c.self.inside.seat.me.0.right) c.self.inside.seat.me.0.seen (plan_with c.self.inside.seat.me.0.right) c.cpu.invariant.role c.self.invariant.right in
    rw c.deref-table.ensures (record {
      seated = P.same_table.1 ∙ c.cpu.invariant.placed.seated;
      bare = ap (λ m. m.1) P.given;
      own = words_with c.self.inside.seat.me.0.right;
      upto = P.after.seen;
      plan = plan_put (plan_with c.self.inside.seat.me.0.right) c.slot.inside.slot;
      right = ap (λ m. m.0.right) P.given ∙ a.1;
      free = refl;
      inside = subst (λ (t : TableId). c.self.inside.cell < cells_in t) (ap (λ z. z.domain) c.self.view_is ∙ (sym c.requires.here ∙ (ap (λ z. z.domain) (sym c.cpu.view_is) ∙ c.cpu.invariant.placed.seated))) c.self.invariant.inside;
    })

pub invariant_of-self : goal.invariant_of-self
invariant_of-self g c =
    let i = c.self.invariant in
    let p : ℕ = c.cpu.inside.processor in
    let P = c.put_in.ensures in
    let N = c.note_number.ensures in
    let R = c.refresh_in.ensures.pen in
    let cell : ℕ = c.self.inside.cell in
    let slot : ℕ = c.slot.inside.slot in
    let cur : ℕ = c.self.inside.current in
    let W : List ℕ = words_with c.self.inside.seat.me.0.right in
    let old : List Event = c.self.inside.seat.me.0.seen in
    let Q : Plan = plan_with c.self.inside.seat.me.0.right in
    let a = P.adds p W old Q c.cpu.invariant.role i.right in
    let b = N.adds p (ap (λ m. m.0.role) P.stays ∙ (a.0.role ∙ c.cpu.invariant.role)) in
    let k = R.keeps W P.after.seen (plan_put Q slot) (ap (λ m. m.0.right) P.given ∙ a.1) in
    let new : List Event = c.refresh_in.new.pen.me.0.seen in
    let own : IsOwn (record {
      domain = c.self.inside.seat.table_id;
      cell = cell;
      slots = c.self.inside.slots;
      version = c.self.inside.version;
      current = cur;
      standings = c.self.inside.standings;
      words = W;
      plan = plan_with c.self.inside.seat.me.0.right;
      seen = old;
      changes = c.self.inside.seat.me.0.changes;
      texts = c.self.inside.seat.me.0.texts;
    }) (record { domain = c.slot.inside.home; cell = c.slot.inside.cell; slot = slot }) =
    subst (λ (z : WriterView × SlotView). IsOwn z.0 z.1) (λ n. (sym c.self.view_is n, sym c.slot.view_is n)) c.requires.own in
    let low = own.inside in
    let most = i.most in
    let few = i.low in
    let eight : length c.self.inside.standings ≡ 8 = search rules in
    let lx : slot < length c.self.inside.standings = omega (arith, low, most, eight) in
    let lc : cur < length c.self.inside.standings = omega (arith, few, most, eight) in
    let clear = out_clear old cell slot _ own.out (i.stands slot low) in
    let apart : slot ≢ cur = λ e. clear.resting (e ∙ sym i.current) in
    let on : IsBeginning (a.3.before ++ Put cell slot (version_of cell old + 1) (Processor p) ∷ []) new = subst (λ (l : List Event). IsBeginning l new) a.3.whole k.0.goes_on in
    let later : version_of cell new ≡ version_of cell (a.3.before ++ Put cell slot (version_of cell old + 1) (Processor p) ∷ []) = k.0.same ∙ ap (version_of cell) a.3.whole in
    let put_slot : slot_of cell P.after.seen ≡ slot = ap (slot_of cell) a.3.whole ∙ slot_put cell slot (version_of cell old + 1) (Processor p) a.3.before in
    let now : slot_of cell new ≡ slot = slot_quiet cell P.after.seen new k.0.goes_on k.0.legal k.0.same ∙ put_slot in
    let noted : IsBeginning (b.before ++ Note (cookie_at c.note_number.result) (Processor p) ∷ []) new = subst (λ (l : List Event). IsBeginning l new) b.seen k.0.since in
    let retired : IsRetired new cell cur (cookie_at c.note_number.result) = retires cell cur (cookie_at c.note_number.result) (Processor p) P.after.seen b.before new k.0.legal
    (subst (λ (l : List Event). IsBeginning l b.before) (ap (λ m. m.0.seen) P.stays) b.since) noted k.0.same (λ e. apart (sym (e ∙ put_slot))) (whole_cookie c.note_number.result) in
    let is = c.snap-cookie.ensures.meaning in
    let count = put_count c.self.inside.standings cur slot c.snap-cookie.result lc lx apart own.out in
    let small = i.small in
    let eight_homes : length c.self.inside.homes ≡ 8 = search rules in
    let same_home : c.slot.inside.home ≡ c.refresh_in.new.pen.table_id = own.domain ∙ (ap (λ z. z.domain) c.self.view_is ∙ (sym c.requires.here ∙ (ap (λ z. z.domain) (sym c.cpu.view_is) ∙ sym (R.same_table ∙ (N.same_table ∙ P.same_table.0))))) in
    let only : (z : ℕ) → z < c.self.inside.slots → z ≢ slot → get_or (set (set c.self.inside.standings cur (Retired c.snap-cookie.result)) slot Current) z Blank ≢ Out → get_or c.self.inside.standings z Blank ≢ Out =
    λ z lz nx there. dite (ℕ_discrete z cur)
    (λ e o. (out_clear old cell cur _ (ap (λ n. get_or c.self.inside.standings n Blank) (sym e) ∙ o) (i.stands cur few)).resting (sym i.current))
    (λ n o. there (get_or-set_other (set c.self.inside.standings cur (Retired c.snap-cookie.result)) slot z Current Blank nx ∙ (get_or-set_other c.self.inside.standings cur z (Retired c.snap-cookie.result) Blank n ∙ o))) in
    let next = i.version in record {
      bare = R.bare;
      right = as_shelf _ cell W new (plan_put Q slot) k.1;
      free = ap (λ y. (plan_with y).hand) k.1;
      long = ap length (ap words_with k.1) ∙ i.long;
      legal = k.0.legal;
      inside = subst (λ (t : TableId). cell < cells_in t) (sym own.domain ∙ same_home) i.inside;
      some = i.some;
      most = i.most;
      version = ap (λ n. n + 1) i.version ∙ sym (later ∙ version_put cell slot (version_of cell old + 1) (Processor p) a.3.before);
      current = now;
      low = low;
      small = omega (arith, small, count);
      homes = subst (λ (t : TableId). HasHomes t c.self.inside.slots (set (set c.self.inside.standings cur (Retired c.snap-cookie.result)) slot Current) (set c.self.inside.homes slot (Some c.slot.inside.home))) same_home
          (homes_back c.slot.inside.home c.self.inside.slots slot c.self.inside.standings (set (set c.self.inside.standings cur (Retired c.snap-cookie.result)) slot Current) c.self.inside.homes (omega (arith, low, most, eight_homes)) only
          (subst (λ (t : TableId). HasHomes t c.self.inside.slots c.self.inside.standings c.self.inside.homes) (sym own.domain) i.homes));
      stands = put_stands new cell c.self.inside.slots c.self.inside.standings cur slot c.snap-cookie.result lc lx apart
          (λ z lz nx nc. stands_over cell z slot (version_of cell old + 1) (Processor p) old a.3.before new k.0.legal a.3.goes_on a.3.same on later nx (λ e. nc (e ∙ i.current)) _ (i.stands z lz))
          (subst (λ (n : ℕ). IsRetired new cell cur n) (sym is) retired) (sym now);
    }

pub invariant_of-cpu : goal.invariant_of-cpu
invariant_of-cpu g c =
    let P = c.put_in.ensures in
    let N = c.note_number.ensures in
    let S = c.refresh_in.ensures.seat in
    let a = P.adds c.cpu.inside.processor (words_with c.self.inside.seat.me.0.right) c.self.inside.seat.me.0.seen (plan_with c.self.inside.seat.me.0.right) c.cpu.invariant.role c.self.invariant.right in
    let b = N.adds c.cpu.inside.processor (ap (λ m. m.0.role) P.stays ∙ (a.0.role ∙ c.cpu.invariant.role)) in
    let first = stays_told c.cpu.invariant {s = c.put_in.new.seat} P.same_table.0 (ap (λ m. m.1) P.stays) (rests_cut _ _ _ _ (ap (λ m. m.0) P.stays) a.0) refl (ap (λ m. maker_of m.0) P.stays) a.0 refl (λ _. refl) (λ _. refl) in
    stays_told first (S.0 ∙ N.same_table) (ap (λ m. m.1) S.1 ∙ (N.bare ∙ ap (λ m. m.1) P.stays)) (subst (λ (z : View). IsAtRest z) (sym (ap (λ m. m.0) S.1)) record { free = N.right ∙ ap (λ m. m.0.right) P.stays; told = b.told; sound = b.sound })
    refl (ap (λ m. maker_of m.0) S.1) b refl (λ _. refl) (λ _. refl)

pub returns-clause-puts : goal.returns-clause-puts
returns-clause-puts g c =
    let i = c.self.invariant in
    let p : ℕ = c.cpu.inside.processor in
    let P = c.put_in.ensures in
    let N = c.note_number.ensures in
    let R = c.refresh_in.ensures.pen in
    let S = c.refresh_in.ensures.seat in
    let cell : ℕ = c.self.inside.cell in
    let slot : ℕ = c.slot.inside.slot in
    let W : List ℕ = words_with c.self.inside.seat.me.0.right in
    let old : List Event = c.self.inside.seat.me.0.seen in
    let v : View = c.cpu.inside.seat.me.0 in
    let o : View = bearer c.self.inside.seat.me.0 in
    let Q : Plan = plan_with c.self.inside.seat.me.0.right in
    let a = P.adds p W old Q c.cpu.invariant.role i.right in
    let role = ap (λ m. m.0.role) P.stays ∙ (a.0.role ∙ c.cpu.invariant.role) in
    let sized = ap (λ m. m.0.processors) P.stays ∙ (a.0.processors ∙ c.cpu.invariant.placed.sized) in
    let b = N.adds p role in
    let k = R.keeps W P.after.seen (plan_put Q slot) (ap (λ m. m.0.right) P.given ∙ a.1) in
    let free = N.right ∙ ap (λ m. m.0.right) P.stays in
    let w : View = c.note_number.new.seat.me.0 in
    let between : CpuView = seen_as c.put_in.new.seat.table_id (view_of_cpu c.cpu.inside).processors c.cpu.inside.limit p c.put_in.new.seat.me.0 in
    let puts : AddsEvent old c.self.inside.seat.me.0.changes (Put cell slot (c.self.inside.version + 1) (Processor p)) (view_of_cpu c.cpu.inside) between =
    adds_cut (Put cell slot (c.self.inside.version + 1) (Processor p)) _ _ _ _ p v o (informed v o) P.after c.put_in.new.seat.me.0 P.same_table.0 c.cpu.invariant.placed.sized c.cpu.invariant.role refl (ap (λ m. m.0) P.stays)
    (subst (λ (n : ℕ). Adds (informed v o) (Put cell slot (n + 1) (Processor p)) P.after) (sym i.version) a.0) in
    let offer : offer_of cell (c.self.inside.version + 1) c.put_in.new.seat.me.0.texts ≡ offered Q slot = (λ j. offer_of cell (i.version j + 1) (ap (λ m. m.0.texts) P.stays j)) ∙ a.4 in
    rw (← c.self.view_is, ← c.cpu.view_is, ← c.slot.view_is) (record {
      between = between;
      number = c.note_number.result;
      puts = puts;
      text = subst (λ (l : List Text). EndsWithText cell (slot_words slot W) l) (sym (ap (λ m. m.0.texts) P.stays)) a.2;
      notes = notes_from _ _ _ _ _ _ c.put_in.new.seat.me.0 w c.refresh_in.new.seat.me.0 (S.0 ∙ N.same_table) sized role (ap (λ m. m.0) S.1 ∙ (λ n. record w { right = free n })) N.finds b;
      cookie_is = c.snap-cookie.ensures.meaning;
      cell = λ _. cell;
      domain = R.same_table ∙ (N.same_table ∙ (P.same_table.0 ∙ (ap (λ z. z.domain) c.cpu.view_is ∙ (c.requires.here ∙ ap (λ z. z.domain) (sym c.self.view_is)))));
      slots = λ _. c.self.inside.slots;
      version = λ _. c.self.inside.version + 1;
      current = λ _. slot;
      standings = refl;
      words = ap words_with k.1;
      plan = ap plan_with k.1;
      offers = ap (λ m. offer_of cell (c.self.inside.version + 1) m.0.texts) S.1 ∙ offered_put slot (view_of_writer c.self.inside) (view_of_cpu c.cpu.inside) between w.texts (offered Q slot) puts b.texts.since offer;
      since = subst (λ (l : List Event). IsBeginning l c.refresh_in.new.pen.me.0.seen) (sym (ap (λ m. m.0.seen) S.1)) k.0.since;
    })

pub returns-clause-has : goal.returns-clause-has
returns-clause-has g c = has_put _ _ _ _ _ _ (returns-clause-puts g c)
