use Rattle.std.proofs.Common.{◌≡◌, ℕ, ◌↔◌, IsTrue, true, List, All, Some, map, length, ap, sym, ◌∙◌, subst}
use Rattle.std.specs.Prelude.{IsSome}
use Rattle.sections.specs.Glossary.{AllClosed, AsksHowFarBehind}
use Rattle.calls.specs.Glossary.{Entry, some_out, IsPlaced, IsBatchSeat, entries_of, AreHanded, view_of_list, IsList}
use Rattle.calls.proofs.Wrapping.{items_length, entries_wrap}
use Rattle.calls.proofs.Keeping.{handed_all, closed_all}
use Rattle.calls.proofs.Listing.{taken_none, taken_some, flag_as}
use Rattle.calls.proofs.Turning.{IsTake, list_after, some_flag, some_out_some, took_moved, took_list, took_seat, took_gives, took_right, took_first}
use Rattle.calls.proofs.list.List.take_ready.Goals as goal

pub invariant_of-self : goal.invariant_of-self
invariant_of-self g c =
    let v = c.self.invariant in
    let took : IsTake c.self.inside c.args.cpu.now c.how_far_behind.new.self c.seat.inside c.get-number.result c.args.max c.take_first-entries.result.items
    c.take_first-entries.new.waiting c.how_far_behind.new.sight c.take_out-right.new.seat c.take_out-right.new.list c.take_out-right.result = record {
      old = v;
      caller = c.seat.invariant;
      none = ap (λ l. l.out) c.self.view_is ∙ c.requires.none_out;
      domain = c.requires.fits.domain ∙ ap (λ l. l.sight.domain) (sym c.self.view_is);
      asks = subst (λ (n : ℕ). AsksHowFarBehind n c.self.inside.given c.self.inside.sight c.args.cpu.now c.how_far_behind.new.self c.how_far_behind.new.sight) (sym c.get-number.ensures.value) c.how_far_behind.ensures.asks;
      goes = c.take_first-entries.ensures _ v.wrapping;
      takes = c.take_out-right.ensures.takes;
      placed = subst (λ t. IsPlaced t.shared.key t.shared.table_id c.take_out-right.new.seat) c.deref.ensures c.take_out-right.ensures.placed;
    } in
    let none : length took.goes.gone ≡ 0 = sym (items_length _ took.goes.gone took.goes.items_are) ∙ (sym c.len-count.ensures.value ∙ c.if-count-eq0.true) in
    subst (λ (z : _). IsList z) (λ i. record (list_after _ _ _ _ _ _ _ _ _ _ _ _ took c.self.inside.out) { given = sym c.how_far_behind.ensures.same i })
    (took_list _ _ _ _ _ _ _ _ _ _ _ _ took c.self.inside.out (subst (λ (n : ℕ). IsTrue c.self.inside.out ↔ IsSome (some_out n)) (sym none) (flag_as c.self.inside.out _ v.out took.none)))

pub invariant_of-seat : goal.invariant_of-seat
invariant_of-seat g c =
    let v = c.self.invariant in
    let took : IsTake c.self.inside c.args.cpu.now c.how_far_behind.new.self c.seat.inside c.get-number.result c.args.max c.take_first-entries.result.items
    c.take_first-entries.new.waiting c.how_far_behind.new.sight c.take_out-right.new.seat c.take_out-right.new.list c.take_out-right.result = record {
      old = v;
      caller = c.seat.invariant;
      none = ap (λ l. l.out) c.self.view_is ∙ c.requires.none_out;
      domain = c.requires.fits.domain ∙ ap (λ l. l.sight.domain) (sym c.self.view_is);
      asks = subst (λ (n : ℕ). AsksHowFarBehind n c.self.inside.given c.self.inside.sight c.args.cpu.now c.how_far_behind.new.self c.how_far_behind.new.sight) (sym c.get-number.ensures.value) c.how_far_behind.ensures.asks;
      goes = c.take_first-entries.ensures _ v.wrapping;
      takes = c.take_out-right.ensures.takes;
      placed = subst (λ t. IsPlaced t.shared.key t.shared.table_id c.take_out-right.new.seat) c.deref.ensures c.take_out-right.ensures.placed;
    } in
    took_seat _ _ _ _ _ _ _ _ _ _ _ _ took

pub returns-then-count-eq0-clause-takes : goal.returns-then-count-eq0-clause-takes
returns-then-count-eq0-clause-takes g c =
    let v = c.self.invariant in
    let took : IsTake c.self.inside c.args.cpu.now c.how_far_behind.new.self c.seat.inside c.get-number.result c.args.max c.take_first-entries.result.items
    c.take_first-entries.new.waiting c.how_far_behind.new.sight c.take_out-right.new.seat c.take_out-right.new.list c.take_out-right.result = record {
      old = v;
      caller = c.seat.invariant;
      none = ap (λ l. l.out) c.self.view_is ∙ c.requires.none_out;
      domain = c.requires.fits.domain ∙ ap (λ l. l.sight.domain) (sym c.self.view_is);
      asks = subst (λ (n : ℕ). AsksHowFarBehind n c.self.inside.given c.self.inside.sight c.args.cpu.now c.how_far_behind.new.self c.how_far_behind.new.sight) (sym c.get-number.ensures.value) c.how_far_behind.ensures.asks;
      goes = c.take_first-entries.ensures _ v.wrapping;
      takes = c.take_out-right.ensures.takes;
      placed = subst (λ t. IsPlaced t.shared.key t.shared.table_id c.take_out-right.new.seat) c.deref.ensures c.take_out-right.ensures.placed;
    } in
    let none : length took.goes.gone ≡ 0 = sym (items_length _ took.goes.gone took.goes.items_are) ∙ (sym c.len-count.ensures.value ∙ c.if-count-eq0.true) in
    let gives = took_gives _ _ _ _ _ _ _ _ _ _ _ _ took c.self.inside.out in
    rw (← c.self.view_is, ← c.seat.view_is, c.how_far_behind.ensures.same) (record {
      none_out = took.none;
      gone = took.goes.gone;
      gives = gives;
      taken_is = taken_none (view_of_list c.self.inside) _ took.goes.gone none (gives.out ∙ ap some_out none);
    })

pub invariant_of-result : goal.invariant_of-result
invariant_of-result g c =
    let v = c.self.invariant in
    let took : IsTake c.self.inside c.args.cpu.now c.how_far_behind.new.self c.seat.inside c.get-number.result c.args.max c.take_first-entries.result.items
    c.take_first-entries.new.waiting c.how_far_behind.new.sight c.take_out-right.new.seat c.take_out-right.new.list c.take_out-right.result = record {
      old = v;
      caller = c.seat.invariant;
      none = ap (λ l. l.out) c.self.view_is ∙ c.requires.none_out;
      domain = c.requires.fits.domain ∙ ap (λ l. l.sight.domain) (sym c.self.view_is);
      asks = subst (λ (n : ℕ). AsksHowFarBehind n c.self.inside.given c.self.inside.sight c.args.cpu.now c.how_far_behind.new.self c.how_far_behind.new.sight) (sym c.get-number.ensures.value) c.how_far_behind.ensures.asks;
      goes = c.take_first-entries.ensures _ v.wrapping;
      takes = c.take_out-right.ensures.takes;
      placed = subst (λ t. IsPlaced t.shared.key t.shared.table_id c.take_out-right.new.seat) c.deref.ensures c.take_out-right.ensures.placed;
    } in
    let count : c.len-count.result ≡ length took.goes.gone = c.len-count.ensures.value ∙ items_length _ took.goes.gone took.goes.items_are in
    let right = took_right _ _ _ _ _ _ _ _ _ _ _ _ took (λ z. c.if-count-eq0.false (count ∙ z)) in
    record { seated = subst (λ (n : ℕ). IsBatchSeat c.take_out-right.result.table_id c.self.inside.processor n c.take_out-right.result) (sym count) right; wrapping = took.goes.items_are ∙ ap (map Some) (sym (ap entries_of took.goes.items_are ∙ entries_wrap took.goes.gone)) }

pub invariant_of-self-2 : goal.invariant_of-self-2
invariant_of-self-2 g c =
    let v = c.self.invariant in
    let took : IsTake c.self.inside c.args.cpu.now c.how_far_behind.new.self c.seat.inside c.get-number.result c.args.max c.take_first-entries.result.items
    c.take_first-entries.new.waiting c.how_far_behind.new.sight c.take_out-right.new.seat c.take_out-right.new.list c.take_out-right.result = record {
      old = v;
      caller = c.seat.invariant;
      none = ap (λ l. l.out) c.self.view_is ∙ c.requires.none_out;
      domain = c.requires.fits.domain ∙ ap (λ l. l.sight.domain) (sym c.self.view_is);
      asks = subst (λ (n : ℕ). AsksHowFarBehind n c.self.inside.given c.self.inside.sight c.args.cpu.now c.how_far_behind.new.self c.how_far_behind.new.sight) (sym c.get-number.ensures.value) c.how_far_behind.ensures.asks;
      goes = c.take_first-entries.ensures _ v.wrapping;
      takes = c.take_out-right.ensures.takes;
      placed = subst (λ t. IsPlaced t.shared.key t.shared.table_id c.take_out-right.new.seat) c.deref.ensures c.take_out-right.ensures.placed;
    } in
    let some : length took.goes.gone ≡ 0 → ⊥ = λ z. c.if-count-eq0.false (c.len-count.ensures.value ∙ (items_length _ took.goes.gone took.goes.items_are ∙ z)) in
    subst (λ (z : _). IsList z) (λ i. record (list_after _ _ _ _ _ _ _ _ _ _ _ _ took true) { given = sym c.how_far_behind.ensures.same i }) (took_list _ _ _ _ _ _ _ _ _ _ _ _ took true (some_flag (length took.goes.gone) some))

pub invariant_of-seat-2 : goal.invariant_of-seat-2
invariant_of-seat-2 g c =
    let v = c.self.invariant in
    let took : IsTake c.self.inside c.args.cpu.now c.how_far_behind.new.self c.seat.inside c.get-number.result c.args.max c.take_first-entries.result.items
    c.take_first-entries.new.waiting c.how_far_behind.new.sight c.take_out-right.new.seat c.take_out-right.new.list c.take_out-right.result = record {
      old = v;
      caller = c.seat.invariant;
      none = ap (λ l. l.out) c.self.view_is ∙ c.requires.none_out;
      domain = c.requires.fits.domain ∙ ap (λ l. l.sight.domain) (sym c.self.view_is);
      asks = subst (λ (n : ℕ). AsksHowFarBehind n c.self.inside.given c.self.inside.sight c.args.cpu.now c.how_far_behind.new.self c.how_far_behind.new.sight) (sym c.get-number.ensures.value) c.how_far_behind.ensures.asks;
      goes = c.take_first-entries.ensures _ v.wrapping;
      takes = c.take_out-right.ensures.takes;
      placed = subst (λ t. IsPlaced t.shared.key t.shared.table_id c.take_out-right.new.seat) c.deref.ensures c.take_out-right.ensures.placed;
    } in
    took_seat _ _ _ _ _ _ _ _ _ _ _ _ took

pub returns-clause-takes : goal.returns-clause-takes
returns-clause-takes g c =
    let v = c.self.invariant in
    let took : IsTake c.self.inside c.args.cpu.now c.how_far_behind.new.self c.seat.inside c.get-number.result c.args.max c.take_first-entries.result.items
    c.take_first-entries.new.waiting c.how_far_behind.new.sight c.take_out-right.new.seat c.take_out-right.new.list c.take_out-right.result = record {
      old = v;
      caller = c.seat.invariant;
      none = ap (λ l. l.out) c.self.view_is ∙ c.requires.none_out;
      domain = c.requires.fits.domain ∙ ap (λ l. l.sight.domain) (sym c.self.view_is);
      asks = subst (λ (n : ℕ). AsksHowFarBehind n c.self.inside.given c.self.inside.sight c.args.cpu.now c.how_far_behind.new.self c.how_far_behind.new.sight) (sym c.get-number.ensures.value) c.how_far_behind.ensures.asks;
      goes = c.take_first-entries.ensures _ v.wrapping;
      takes = c.take_out-right.ensures.takes;
      placed = subst (λ t. IsPlaced t.shared.key t.shared.table_id c.take_out-right.new.seat) c.deref.ensures c.take_out-right.ensures.placed;
    } in
    let count : c.len-count.result ≡ length took.goes.gone = c.len-count.ensures.value ∙ items_length _ took.goes.gone took.goes.items_are in
    let some : length took.goes.gone ≡ 0 → ⊥ = λ z. c.if-count-eq0.false (count ∙ z) in
    let gives = took_gives _ _ _ _ _ _ _ _ _ _ _ _ took true in
    let entries : entries_of c.take_first-entries.result.items ≡ took.goes.gone = ap entries_of took.goes.items_are ∙ entries_wrap took.goes.gone in
    let first = took_first _ _ _ _ _ _ _ _ _ _ _ _ took some in
    rw (← c.self.view_is, ← c.seat.view_is, c.how_far_behind.ensures.same) (record {
      none_out = took.none;
      gone = took.goes.gone;
      gives = gives;
      taken_is = taken_some (view_of_list c.self.inside) _ took.goes.gone _ some (λ i. record { tallies = took.takes.batch_table i; processor = c.self.inside.processor; first = first i; count = count i; entries = entries i }) (gives.out ∙ some_out_some (length took.goes.gone) some);
    })

pub returns-clause-handed : goal.returns-clause-handed
returns-clause-handed g c =
    let v = c.self.invariant in
    let took : IsTake c.self.inside c.args.cpu.now c.how_far_behind.new.self c.seat.inside c.get-number.result c.args.max c.take_first-entries.result.items
    c.take_first-entries.new.waiting c.how_far_behind.new.sight c.take_out-right.new.seat c.take_out-right.new.list c.take_out-right.result = record {
      old = v;
      caller = c.seat.invariant;
      none = ap (λ l. l.out) c.self.view_is ∙ c.requires.none_out;
      domain = c.requires.fits.domain ∙ ap (λ l. l.sight.domain) (sym c.self.view_is);
      asks = subst (λ (n : ℕ). AsksHowFarBehind n c.self.inside.given c.self.inside.sight c.args.cpu.now c.how_far_behind.new.self c.how_far_behind.new.sight) (sym c.get-number.ensures.value) c.how_far_behind.ensures.asks;
      goes = c.take_first-entries.ensures _ v.wrapping;
      takes = c.take_out-right.ensures.takes;
      placed = subst (λ t. IsPlaced t.shared.key t.shared.table_id c.take_out-right.new.seat) c.deref.ensures c.take_out-right.ensures.placed;
    } in
    let moved = took_moved _ _ _ _ _ _ _ _ _ _ _ _ took in
    let entries : entries_of c.take_first-entries.result.items ≡ took.goes.gone = ap entries_of took.goes.items_are ∙ entries_wrap took.goes.gone in
    subst (λ (z : List (Entry g.row.J.Denot)). AreHanded z c.how_far_behind.new.self.seen) (sym entries)
    (handed_all c.get-number.result c.self.inside.given c.self.inside.sight c.how_far_behind.new.sight c.args.cpu.now c.how_far_behind.new.self took.asks took.goes.gone took.goes.rest moved.waiting moved.since)

pub returns-clause-closed : goal.returns-clause-closed
returns-clause-closed g c =
    let v = c.self.invariant in
    let took : IsTake c.self.inside c.args.cpu.now c.how_far_behind.new.self c.seat.inside c.get-number.result c.args.max c.take_first-entries.result.items
    c.take_first-entries.new.waiting c.how_far_behind.new.sight c.take_out-right.new.seat c.take_out-right.new.list c.take_out-right.result = record {
      old = v;
      caller = c.seat.invariant;
      none = ap (λ l. l.out) c.self.view_is ∙ c.requires.none_out;
      domain = c.requires.fits.domain ∙ ap (λ l. l.sight.domain) (sym c.self.view_is);
      asks = subst (λ (n : ℕ). AsksHowFarBehind n c.self.inside.given c.self.inside.sight c.args.cpu.now c.how_far_behind.new.self c.how_far_behind.new.sight) (sym c.get-number.ensures.value) c.how_far_behind.ensures.asks;
      goes = c.take_first-entries.ensures _ v.wrapping;
      takes = c.take_out-right.ensures.takes;
      placed = subst (λ t. IsPlaced t.shared.key t.shared.table_id c.take_out-right.new.seat) c.deref.ensures c.take_out-right.ensures.placed;
    } in
    let moved = took_moved _ _ _ _ _ _ _ _ _ _ _ _ took in
    let entries : entries_of c.take_first-entries.result.items ≡ took.goes.gone = ap entries_of took.goes.items_are ∙ entries_wrap took.goes.gone in
    subst (λ (z : List (Entry g.row.J.Denot)). All (λ e. AllClosed e.cookie.seen c.how_far_behind.new.self.seen) z) (sym entries)
    (closed_all c.get-number.result c.self.inside.sight c.how_far_behind.new.sight c.args.cpu.now c.how_far_behind.new.self took.asks.asks took.goes.gone
    (handed_all c.get-number.result c.self.inside.given c.self.inside.sight c.how_far_behind.new.sight c.args.cpu.now c.how_far_behind.new.self took.asks took.goes.gone took.goes.rest moved.waiting moved.since))
