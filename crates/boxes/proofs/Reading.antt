-- What a find tells, of what each of its three calls tells.
use Rattle.std.proofs.Common.{◌≡◌, ℕ, ◌*◌, ◌≤◌, List, [], ◌∷◌, ◌++◌, sym, ap, ◌∙◌, subst, arith}
use Rattle.atomic_table.specs.Seated.{TableId}
use Rattle.onedom.specs.declared.event.Event.{Event}
use Rattle.onedom.specs.declared.event.Event.TheVariants.{Find}
use Rattle.onedom.specs.declared.event.Maker.TheVariants.{Processor}
use Rattle.onedom.specs.Histories.{version_of, IsLegal, IsBeginning}
use Rattle.onedom.proofs.CallerLemmas.{beginning_trans, versions_up}
use Rattle.sections.specs.declared.view.Text.{Text}
use Rattle.sections.specs.Shelves.{IsStart}
use Rattle.sections.specs.Views.{CpuView, ReadingView, FoundView}
use Rattle.sections.specs.Calls.{IsSameCpu, Hears}
use Rattle.sections.specs.Reads.{Finds}
use Rattle.sections.specs.Loans.{CatchesUp, OffersBy}
use Rattle.sections.specs.Showing.{LacksParts}
use Rattle.sections.specs.Boxes.{KnowsVault}
use Rattle.sections.proofs.CallerLemmas.{start_trans, vault_stays, finds_offer}
use Rattle.boxes.specs.Boxes.{BoxesView, PinView}
use Rattle.boxes.specs.Reading.{FindsVersion, FindsBox, FindsNoBox}

-- a version that was seen earlier is no later one
versions_since : (cell : ℕ) (seen later : List Event) → IsBeginning seen later → IsLegal later → version_of cell seen ≤ version_of cell later
versions_since cell seen later since legal = subst (λ (l : List Event). version_of cell seen ≤ version_of cell l) (sym since.whole) (versions_up cell seen since.rest (subst IsLegal since.whole legal))

same_both : (a b c : CpuView) → IsSameCpu a b → IsSameCpu b c → IsSameCpu a c
same_both a b c h k = (k.0 ∙ h.0, k.1 ∙ h.1, k.2 ∙ h.2, k.3 ∙ h.3)

pub finds_version : (cell : ℕ) (r : ReadingView) (f : FoundView) (c caught at c' : CpuView) (seen : List Event) (reached : ℕ) → Hears c seen reached caught → Finds cell r caught at f → CatchesUp r f at c' → FindsVersion cell r f c c'
finds_version cell r f c caught at c' seen reached hears finds behind = record {
  same = same_both c caught c' hears.looks.same (same_both caught at c' finds.adds.same behind.same);
  since = beginning_trans hears.looks.since (beginning_trans (beginning_trans finds.adds.since (record { rest = event ∷ []; whole = finds.adds.seen })) behind.since);
  mine = behind.mine ∙ (finds.adds.mine ∙ (ap (λ l. l ++ event ∷ []) hears.looks.mine ∙ ap (λ p. c.mine ++ Find r.section cell f.slot f.version (Processor p) ∷ []) hears.looks.same.3));
  index = hears.value;
  steps = behind.steps ∙ (finds.adds.steps ∙ hears.looks.steps);
  texts = subst (IsStart c.texts) (sym (ap (λ (z : FoundView). z.texts) finds.found_is)) (start_trans hears.looks.texts finds.adds.texts);
  not_older = (let up = versions_since cell c.seen caught.seen hears.looks.since hears.looks.history.legal in let old = finds.not_older in omega (arith, up, old));
  caught = caught;
  at = at;
  finds = finds;
  catches = behind;
}
  where
    event : Event
    event = Find r.section cell f.slot f.version (Processor caught.processor)

-- what was found was put by a writer that had laid all keys of the vault
pub offers_by : (cell n : ℕ) (vault : TableId) (known : List Text) (r : ReadingView) (caught at : CpuView) (f : FoundView) → KnowsVault cell (8 * n) vault known → IsStart known caught.texts → Finds cell r caught at f → OffersBy n vault f
offers_by cell n vault known r caught at f k start finds = finds_offer cell (8 * n) vault r caught at f finds (vault_stays cell (8 * n) vault caught.texts at.texts finds.adds.texts (vault_stays cell (8 * n) vault known caught.texts start k))

-- for whoever counts the processors, and names the vault, otherwise
pub offers_here : (cell n m : ℕ) (vault here : TableId) (known : List Text) (r : ReadingView) (caught at : CpuView) (f : FoundView) → KnowsVault cell (8 * n) vault known → IsStart known caught.texts → Finds cell r caught at f → n ≡ m → vault ≡ here → OffersBy m here f
offers_here cell n m vault here known r caught at f k start finds count is = subst (λ (z : ℕ × TableId). OffersBy z.0 z.1 f) (λ i. (count i, is i)) (offers_by cell n vault known r caught at f k start finds)

pub finds_box : {V : Type 0} (b : BoxesView) (r r' : ReadingView) (f : FoundView) (c caught at c' : CpuView) (seen : List Event) (reached : ℕ) (p : PinView V)
    → Hears c seen reached caught → Finds b.cell r caught at f → CatchesUp r' f at c' → r' ≡ r → p.section ≡ r' → p.found ≡ f → OffersBy b.processors b.vault f → FindsBox b r c c' p
finds_box b r r' f c caught at c' seen reached p hears finds behind same section found offers = record {
  section = section ∙ same;
  finds = subst (λ (g : FoundView). FindsVersion b.cell r g c c') (sym found) (finds_version b.cell r f c caught at c' seen reached hears finds (subst (λ (z : ReadingView). CatchesUp z f at c') same behind));
  of = subst (λ (g : FoundView). OffersBy b.processors b.vault g) (sym found) offers;
}

pub finds_no_box : (b : BoxesView) (r r' back : ReadingView) (f : FoundView) (c caught at c' : CpuView) (seen : List Event) (reached : ℕ) → Hears c seen reached caught → Finds b.cell r caught at f → CatchesUp r' f at c' → r' ≡ r → (back ≡ r') × LacksParts f c' → FindsNoBox b r c c' back
finds_no_box b r r' back f c caught at c' seen reached hears finds behind same lacks = record {
  section = lacks.0 ∙ same;
  lacks = lacks.1;
  found = f;
  finds = finds_version b.cell r f c caught at c' seen reached hears finds (subst (λ (z : ReadingView). CatchesUp z f at c') same behind);
}
