-- A seat with the right to a section finds a box.
use Rattle.std.specs.Prelude.{MatchOption}
use Rattle.std.proofs.Common.{◌≡◌, ℕ, ◌+◌, ◌*◌, ◌/◌, ◌%◌, ◌<◌, ◌≤◌, List, [], ◌∷◌, ◌++◌, Option, None, refl, sym, ap, ◌∙◌, subst, inl, arith}
use mathlib.Core.Logic.{dite}
use native.Mathlib.Decide.{dec_le}
use Rattle.atomic_table.specs.Seated.{TableId}
use Rattle.onedom.specs.declared.event.Maker.{Maker}
use Rattle.onedom.specs.declared.event.Maker.TheVariants.{Processor}
use Rattle.onedom.specs.declared.event.Event.{Event}
use Rattle.onedom.specs.declared.event.Event.TheVariants.{Find}
use Rattle.sections.specs.Glossary.{Bounds, View, cells_in, IsKnown, offer_of, vault_in, KnowsVault, moment_of, Adds, KnowsFound, CanTake, DomainSeat, IsPlaced, CpuView, ReadingView, HasSection, HasNoneAt, FindsAndEnds}
use Rattle.sections.specs.declared.view.Role.TheVariants.{Cpu}
use Rattle.sections.proofs.Drawing.{match_map}
use Rattle.sections.proofs.Finding.{texts_are}
use Rattle.sections.proofs.Offered.{vault_stays}
use Rattle.sections.proofs.Pinning.{finds_current}
use Rattle.sections.proofs.Seating.{cells_are}

-- the seat has seen the find that it made itself
pub knows_here : (at : View) (s c x n : ℕ) (before : List Event) (by : Maker) → at.seen ≡ before ++ Find s c x n by ∷ [] → IsKnown c n at.texts → x < 8 → KnowsFound at s ((8 * c + x) / 8) ((8 * c + x) % 8) n (offer_of c n at.texts)
knows_here at s c x n before by is known low = let cc : (8 * c + x) / 8 ≡ c = omega (arith, low) in let xx : (8 * c + x) % 8 ≡ x = omega (arith, low) in
    subst (λ (z : ℕ × ℕ). KnowsFound at s z.0 z.1 n (offer_of c n at.texts)) (λ k. (sym cc k, sym xx k)) record { moment = moment_of at; among = inl refl; met = record { before = before; by = by; after = []; whole = is }; known = known; offer = refl }

-- who knew the cell's vault finds a version that offers all of its keys
pub offer_here : (c keys : ℕ) (vault : TableId) (v at : View) (s x n : ℕ) (by : Maker) → KnowsVault c keys vault v.texts → Adds v (Find s c x n by) at → IsKnown c n at.texts → (keys ≤ (offer_of c n at.texts).keys) × (vault_in (offer_of c n at.texts).vault ≡ vault)
offer_here c keys vault v at s x n by knew adds known =
    let k = vault_stays c keys vault v.texts at.texts adds.texts.since knew in
    let counted = texts_are c at.texts at.seen adds.sound.legal adds.sound.texts in
    let current = (finds_current s c x n by v.seen adds.before at.seen adds.seen adds.sound.legal adds.since).1 in
    let there = k.known in
    let le : k.version ≤ n = omega (arith, counted, current, there) in
    let least = k.laid in let some = k.some in let more = adds.sound.vaults.more c k.version n le known in
    (omega (arith, least, more), adds.sound.vaults.vault c k.version n le known (omega (arith, least, some)) ∙ k.of)

pub can_take : (bounds : Bounds) (table : TableId) (p cell word : ℕ) (vault : TableId) (seat seat' : DomainSeat) (sec : HasSection seat) → IsPlaced bounds table seat
    → seat.me.0.role ≡ Cpu p → p < bounds.processors → cell < cells_in table → KnowsVault cell (8 * bounds.processors) vault seat.me.0.texts
    → seat'.table_id ≡ seat.table_id → seat'.me.1 ≡ seat.me.1 → seat'.me.0.right ≡ seat.me.0.right
    → Adds seat.me.0 (Find sec.section cell (word % 16) (word / 16) (Processor p)) seat'.me.0 × IsKnown cell (word / 16) seat'.me.0.texts × (word % 16 < 8)
    → (can : CanTake bounds table p (8 * cell + word % 16) seat') × (vault_in can.offer.vault ≡ vault) × (can.offer ≡ offer_of cell (word / 16) seat'.me.0.texts)
can_take bounds table p cell word vault seat seat' sec placed role there inside knew same_table carried right found =
    let wide = placed.wide in let few = placed.cells in
    let counted = cells_are _ _ placed.wide placed.cells in
    let lt : cell < bounds.cells = omega (arith, counted, inside) in let low = found.2 in
    let cc : (8 * cell + word % 16) / 8 ≡ cell = omega (arith, low) in
    let offers = offer_here cell (8 * bounds.processors) vault seat.me.0 seat'.me.0 sec.section (word % 16) (word / 16) (Processor p) knew found.0 found.1 in (
      record {
        seated = same_table ∙ placed.seated;
        some = omega (arith, wide, few, lt, low);
        bare = carried ∙ placed.bare;
        sized = found.0.processors ∙ placed.sized;
        role = found.0.role ∙ role;
        there = there;
        cell = omega (arith, cc, lt);
        low = omega (arith, few, lt, low);
        section = sec.section;
        begun_on = sec.begun_on;
        index = sec.index;
        units = [];
        right = right ∙ sec.right;
        version = word / 16;
        offer = offer_of cell (word / 16) seat'.me.0.texts;
        found = knows_here seat'.me.0 sec.section cell (word % 16) (word / 16) found.0.before (Processor p) found.0.seen found.1 found.2;
        all_keys = offers.0;
      },
      offers.1,
      refl,
    )

-- What a caller sees of it

-- for whoever doesn't ask why nothing was shown
pub shown_or_not : {U : Type 0} (cell : ℕ) (r : ReadingView) (c c' : CpuView) (P : U → Type 0) (shown : Option U) → (ends : FindsAndEnds cell r c c') × MatchOption shown (HasNoneAt c.processor ends.found) P → FindsAndEnds cell r c c' × MatchOption shown (Unit {0}) P
shown_or_not cell r c c' P shown h = (h.0, match_map shown (λ _. tt) (λ u is. is) h.1)
