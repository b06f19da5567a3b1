-- From what the steps on keys do to a writer's seat to what a caller sees.
use Rattle.std.proofs.Common.{◌≡◌, ℕ, suc, ◌+◌, ◌*◌, ◌<◌, ◌≤◌, List, [], Option, Some, None, length, get_or, refl, sym, ap, ◌∙◌, subst, arith}
use Rattle.std.specs.Arc.{arc_value}
use Rattle.atomic_table.specs.Seated.{TableId}
use Rattle.vault.specs.declared.pile.Pile.{Pile}
use Rattle.vault.specs.Rule.{count_of}
use Rattle.onedom.specs.declared.event.Event.{Event}
use Rattle.onedom.specs.Histories.{slot_of, version_of, IsClear, IsLegal}
use Rattle.sections.specs.Glossary.{Slot, Plan, cells_in, bank_of, with_bank, vault_in, bank_laid, bank_emptied, DomainSeat, CanWrite, IsCpu, Stands, words_with, plan_with, view_of_writer, IsWriter, IsNextKey, LaysKey, HasKey, HasRoom, LaysParts, IsNextToCollect, Collects}
use Rattle.sections.specs.declared.cpu.Cpu.TheInside as cpu
use Rattle.sections.specs.declared.view.Right.TheVariants.{Shelf}
use Rattle.sections.specs.declared.writer.Standing.TheVariants.{Blank, Out}
use Rattle.sections.specs.declared.writer.Writer.TheInside as writer
use Rattle.sections.specs.Handling as seats
use Rattle.sections.proofs.Seating.{cells_are}
use Rattle.sections.proofs.Standings.{out_clear}
use Rattle.sections.proofs.Writing.{as_shelf, same_shelf_right}

module _ {w : writer.Inside} (i : IsWriter w) where
  -- Before the step

  same_plan : (c : ℕ) (words : List ℕ) (h : List Event) (q : Plan) → w.seat.me.0.right ≡ Shelf c words h q → (h ≡ w.seat.me.0.seen) × (q ≡ plan_with w.seat.me.0.right)
  same_plan c words h q right = let same = same_shelf_right c w.cell words (words_with w.seat.me.0.right) h w.seat.me.0.seen q (plan_with w.seat.me.0.right) (sym right ∙ i.right) in (same.2, same.3)

  -- a slot that is out
  pub can_write : (slot : ℕ) → slot < w.slots → get_or w.standings slot Blank ≡ Out → CanWrite w.cell slot w.seat
  can_write slot low out words h q right = subst (λ l. IsClear l w.cell slot) (sym (same_plan w.cell words h q right).0) (out_clear w.seat.me.0.seen w.cell slot (get_or w.standings slot Blank) out (i.stands slot low))

  pub lays_few : (slot count round : ℕ) → 0 < count → HasRoom slot count round (view_of_writer w) → seats.LaysFew slot count round w.seat
  lays_few slot count round some_more room c words h q right = subst (λ z. (0 < count) × ((bank_of z slot).laid + count ≤ 9223372036854775808) × (0 < (bank_of z slot).laid → round ≡ (bank_of z slot).round)) (sym (same_plan c words h q right).1) (some_more, room.most, room.one_round)

  pub is_next : (p slot : ℕ) → IsNextToCollect p slot (view_of_writer w) → seats.IsNext slot p w.seat
  is_next p slot next c words h q right = ap (λ z. (bank_of z slot).emptied) (same_plan c words h q right).1 ∙ next

  pub next_key : (processors p slot : ℕ) (key : Slot) → IsNextKey processors p slot key (view_of_writer w) → seats.IsNextKey slot p key w.seat
  next_key processors p slot key next = (next.empty, λ c words h q right some_keys. let same = (same_plan c words h q right).1 in next.of (subst (λ (z : Plan). 0 < z.keys) same some_keys) ∙ ap (λ (z : Plan). vault_in z.vault) (sym same))

  module _ {A : Type 0} {c : cpu.Inside A} (k : IsCpu c) (here : w.seat.table_id ≡ c.seat.table_id) where
    seated : w.seat.table_id ≡ (arc_value c.table).shared.table_id
    seated = here ∙ k.placed.seated

    low_cell : w.cell < 4
    low_cell = let inside : w.cell < cells_in (arc_value c.table).shared.table_id = subst (λ (t : TableId). w.cell < cells_in t) seated i.inside in let count = cells_are _ _ k.placed.wide k.placed.cells in let few = k.placed.cells in omega (arith, inside, count, few)

    there_is : (slot : ℕ) → slot < 8 → 8 * w.cell + slot < (arc_value c.table).shared.table_id.words
    there_is slot low = let cell = low_cell in let wide = k.placed.wide in omega (arith, low, cell, wide)

    pub can_equip : (p slot : ℕ) (key : Slot) → IsNextKey (arc_value c.table).shared.key.processors p slot key (view_of_writer w) → seats.CanEquip (arc_value c.table).shared.key (arc_value c.table).shared.table_id w.cell slot p w.seat
    can_equip p slot key next = record {
      seated = seated;
      some = there_is slot next.low;
      cells = k.placed.cells;
      bare = i.bare;
      own = words_with w.seat.me.0.right;
      upto = w.seat.me.0.seen;
      plan = plan_with w.seat.me.0.right;
      right = i.right;
      free = i.free;
      low = next.low;
      inside = low_cell;
      there = next.there;
      next = next.next;
    }

    pub can_handle : (p slot : ℕ) (vault : TableId) → slot < 8 → HasKey (arc_value c.table).shared.key.processors p slot vault (view_of_writer w) → seats.CanHandle (arc_value c.table).shared.key (arc_value c.table).shared.table_id vault w.cell slot p w.seat
    can_handle p slot vault low key = record {
      seated = seated;
      some = there_is slot low;
      cells = k.placed.cells;
      bare = i.bare;
      own = words_with w.seat.me.0.right;
      upto = w.seat.me.0.seen;
      plan = plan_with w.seat.me.0.right;
      right = i.right;
      free = i.free;
      low = low;
      inside = low_cell;
      there = key.there;
      keyed = key.laid;
      vault_is = key.of;
    }

  -- Behind it

  module _ (seat' : DomainSeat) (q : Plan) (table : seat'.table_id ≡ w.seat.table_id) (me : seat'.me ≡ (record w.seat.me.0 { right = Shelf w.cell (words_with w.seat.me.0.right) w.seat.me.0.seen q }, [])) where
    pub plan_kept : q.hand ≡ None → IsWriter (record w { seat = seat' })
    plan_kept free = let right = ap (λ m. m.0.right) me in let seen = ap (λ m. m.0.seen) me in record {
      bare = ap (λ m. m.1) me;
      right = as_shelf seat'.me.0.right w.cell (words_with w.seat.me.0.right) seat'.me.0.seen q (right ∙ (λ j. Shelf w.cell (words_with w.seat.me.0.right) (sym seen j) q));
      free = ap (λ y. (plan_with y).hand) right ∙ free;
      long = ap length (ap words_with right) ∙ i.long;
      legal = subst (λ (l : List Event). IsLegal l) (sym seen) i.legal;
      inside = subst (λ (t : TableId). w.cell < cells_in t) (sym table) i.inside;
      some = i.some;
      most = i.most;
      version = i.version ∙ ap (version_of w.cell) (sym seen);
      current = ap (slot_of w.cell) seen ∙ i.current;
      low = i.low;
      small = i.small;
      homes = λ x lx there. i.homes x lx there ∙ ap Some (sym table);
      stands = λ x lx. subst (λ (l : List Event). Stands l w.cell x (get_or w.standings x Blank)) (sym seen) (i.stands x lx);
    }

    pub plan_seen : view_of_writer (record w { seat = seat' }) ≡ record (view_of_writer w) { plan = q }
    plan_seen = λ j. record {
      domain = table j;
      cell = w.cell;
      slots = w.slots;
      version = w.version;
      current = w.current;
      standings = w.standings;
      words = ap (λ m. words_with m.0.right) me j;
      plan = ap (λ m. plan_with m.0.right) me j;
      seen = ap (λ m. m.0.seen) me j;
      changes = ap (λ m. m.0.changes) me j;
      texts = ap (λ m. m.0.texts) me j;
    }

  module _ {key : Slot} {seat' : DomainSeat} (e : seats.Equips w.cell key w.seat seat') where
    pub equips_writer : IsWriter (record w { seat = seat' })
    equips_writer = plan_kept seat' (record (plan_with w.seat.me.0.right) { keys = suc (plan_with w.seat.me.0.right).keys; vault = Some key; hand = None }) e.same_table (e.after (words_with w.seat.me.0.right) w.seat.me.0.seen (plan_with w.seat.me.0.right) i.right) refl

    pub equips : LaysKey key (view_of_writer w) (view_of_writer (record w { seat = seat' }))
    equips = plan_seen seat' (record (plan_with w.seat.me.0.right) { keys = suc (plan_with w.seat.me.0.right).keys; vault = Some key; hand = None }) e.same_table (e.after (words_with w.seat.me.0.right) w.seat.me.0.seen (plan_with w.seat.me.0.right) i.right)
        ∙ (λ j. record (view_of_writer w) { plan = record (plan_with w.seat.me.0.right) { keys = suc (plan_with w.seat.me.0.right).keys; vault = Some key; hand = sym i.free j } })

  module _ {slot p count round : ℕ} {seat' : DomainSeat} (e : seats.Lays w.cell slot p count round w.seat seat') where
    pub lays_writer : IsWriter (record w { seat = seat' })
    lays_writer = plan_kept seat' (with_bank (plan_with w.seat.me.0.right) slot (bank_laid (bank_of (plan_with w.seat.me.0.right) slot) p count round)) e.same_table (e.after (words_with w.seat.me.0.right) w.seat.me.0.seen (plan_with w.seat.me.0.right) i.right) refl

    pub lays : LaysParts p slot count round (view_of_writer w) (view_of_writer (record w { seat = seat' }))
    lays = plan_seen seat' (with_bank (plan_with w.seat.me.0.right) slot (bank_laid (bank_of (plan_with w.seat.me.0.right) slot) p count round)) e.same_table (e.after (words_with w.seat.me.0.right) w.seat.me.0.seen (plan_with w.seat.me.0.right) i.right)

  module _ {X : Type 0} {processors slot p : ℕ} {seat' : DomainSeat} (pile : Option (Pile X)) (e : seats.Empties processors w.cell slot p w.seat seat' pile) where
    pub empties_writer : IsWriter (record w { seat = seat' })
    empties_writer = plan_kept seat' (with_bank (plan_with w.seat.me.0.right) slot (bank_emptied (bank_of (plan_with w.seat.me.0.right) slot) p (count_of pile))) e.same_table (e.after (words_with w.seat.me.0.right) w.seat.me.0.seen (plan_with w.seat.me.0.right) i.right) refl

    pub collects : Collects processors p slot (view_of_writer w) (view_of_writer (record w { seat = seat' })) pile
    collects = let few = e.few (words_with w.seat.me.0.right) w.seat.me.0.seen (plan_with w.seat.me.0.right) i.right in record {
      after = plan_seen seat' (with_bank (plan_with w.seat.me.0.right) slot (bank_emptied (bank_of (plan_with w.seat.me.0.right) slot) p (count_of pile))) e.same_table (e.after (words_with w.seat.me.0.right) w.seat.me.0.seen (plan_with w.seat.me.0.right) i.right);
      few = few.0;
      one_round = few.1;
      all = λ last. sym (e.all (words_with w.seat.me.0.right) w.seat.me.0.seen (plan_with w.seat.me.0.right) i.right last);
    }
