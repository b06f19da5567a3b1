-- The row at the place is taken out where it has the key; else no row has it.
use Rattle.std.proofs.Common.{◌≡◌, ◌<◌, List, length, get_or, sym, ap, ◌∙◌, subst, arith}
use Rattle.std.proofs.lemmas.List.{get_or_default}
use Rattle.plugs.specs.declared.rows.Row.{Row}
use Rattle.plugs.specs.Tables.{IsFull, Unmaps}
use Rattle.plugs.specs.Parts.{IsFirstFrom, IsBetween}
use Rattle.plugs.proofs.Changing.{none_there, kept, between_lacks, taken_between, taken_out, room_taken}
use Rattle.plugs.proofs.rows.Rows.take_out.Goals as goal
use Rattle.plugs.proofs.rows.Rows.take_out.Goals.{else-place-len-via-then-place-len+else-deref-place, else-place-len-via-else-place-len}

-- the row at the place has the key
taken : (c : goal.After-remove) → Unmaps c.args.key c.self.inside.rows.items c.remove.new.self.items × IsBetween c.place_of-place.result c.args.key c.remove.new.self.items × (length c.remove.new.self.items ≡ 15 → IsFull c.args.key c.self.inside.rows.items)
taken c =
    let place = c.place_of-place.result in
    let rows = c.self.inside.rows.items in
    let first : IsFirstFrom place c.args.key rows = subst (λ (l : List Row). IsFirstFrom place c.args.key l) c.as_slice.ensures.value c.place_of-place.ensures in
    let here : place < length rows = let t = c.if-place-len.true in let n = c.len.ensures.value in omega (arith, t, n) in
    let same : c.remove.result.key ≡ c.args.key =
    ap (λ (r : Row). r.key) (c.remove.ensures.value ∙ get_or_default rows place c.remove.result (record { key = 0; plug = 0 }) here)
    ∙ (ap (λ (l : List Row). (get_or l place (record { key = 0; plug = 0 })).key) (sym c.deref.ensures.0) ∙ c.if-deref-place.true) in
    let items = sym c.remove.ensures.items in (
      subst (λ (l : List Row). Unmaps c.args.key rows l) items (taken_out place c.args.key rows c.self.invariant first c.remove.result here c.remove.ensures.value same),
      subst (λ (l : List Row). IsBetween place c.args.key l) items (taken_between place c.args.key rows c.self.invariant first c.remove.result here c.remove.ensures.value same),
      subst (λ (l : List Row). length l ≡ 15 → IsFull c.args.key rows) items (room_taken place c.args.key rows c.self.invariant first c.remove.result here c.remove.ensures.value same),
    )

pub invariant_of-self : goal.invariant_of-self
invariant_of-self c = (taken c).0.table

pub returns-then-deref-place-clause-unmaps : goal.returns-then-deref-place-clause-unmaps
returns-then-deref-place-clause-unmaps c = rw (← c.self.view_is) (taken c).0

pub returns-then-deref-place-clause-between : goal.returns-then-deref-place-clause-between
returns-then-deref-place-clause-between c = (taken c).1

pub returns-then-deref-place-clause-room : goal.returns-then-deref-place-clause-room
returns-then-deref-place-clause-room c = rw (← c.self.view_is) (taken c).2

-- no row has it
left : (c : goal.Joined-else-place-len) → IsBetween c.place_of-place.result c.args.key c.self.inside.rows.items
left c =
    let place = c.place_of-place.result in
    let rows = c.self.inside.rows.items in
    let first : IsFirstFrom place c.args.key rows = subst (λ (l : List Row). IsFirstFrom place c.args.key l) c.as_slice.ensures.value c.place_of-place.ensures in
    none_there place c.args.key rows c.self.invariant first (λ d here. elim c.else-place-len.branch [
      | else-place-len-via-then-place-len+else-deref-place w ↦ λ e. w.if-deref-place.false (ap (λ (l : List Row). (get_or l place (record { key = 0; plug = 0 })).key) w.deref.ensures.0 ∙ (ap (λ (r : Row). r.key) (get_or_default rows place (record { key = 0; plug = 0 }) d here) ∙ e))
      | else-place-len-via-else-place-len w ↦ let f = w.if-place-len.false in let n = c.len.ensures.value in absurd (omega (arith, f, n, here))
    ])

pub returns-else-place-len-clause-unmaps : goal.returns-else-place-len-clause-unmaps
returns-else-place-len-clause-unmaps c =
    let first : IsFirstFrom c.place_of-place.result c.args.key c.self.inside.rows.items = subst (λ (l : List Row). IsFirstFrom c.place_of-place.result c.args.key l) c.as_slice.ensures.value c.place_of-place.ensures in
    rw (← c.self.view_is) (kept c.place_of-place.result c.args.key c.self.inside.rows.items c.self.invariant first (left c))

pub returns-else-place-len-clause-between : goal.returns-else-place-len-clause-between
returns-else-place-len-clause-between c = rw (← c.self.view_is) (left c)

pub returns-else-place-len-clause-room : goal.returns-else-place-len-clause-room
returns-else-place-len-clause-room c = rw (← c.self.view_is) (λ all. record { count = all; absent = between_lacks c.place_of-place.result c.args.key c.self.inside.rows.items (left c) })
