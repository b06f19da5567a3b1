-- Who knows a version that was put with keys knows the vault of all versions that it finds from then on.
use Rattle.std.proofs.Common.{◌≡◌, ℕ, ◌+◌, ◌<◌, ◌≤◌, List, sym, ap, ◌∙◌, subst, arith}
use Rattle.atomic_table.specs.Seated.{TableId}
use Rattle.onedom.specs.declared.event.Maker.TheVariants.{Processor}
use Rattle.onedom.specs.Histories.{version_of}
use Rattle.onedom.proofs.CallerLemmas.{version_put}
use Rattle.sections.specs.Glossary.{Offer, Text, offer_of, IsStart, IsKnown, vault_in, KnowsVault, Finds, CpuView, ReadingView, FoundView, WriterView, PutsSlot}
use Rattle.sections.proofs.Finding.{texts_are}
use Rattle.sections.proofs.Offers.{offer_stays, known_later}

pub vault_stays : (cell keys : ℕ) (vault : TableId) (a b : List Text) → IsStart a b → KnowsVault cell keys vault a → KnowsVault cell keys vault b
vault_stays cell keys vault a b start h = let same = offer_stays cell h.version a b start h.known in record {
  version = h.version;
  known = known_later cell h.version a b start h.known;
  some = h.some;
  laid = (let e = ap (λ (o : Offer). o.keys) same in let le = h.laid in omega (arith, e, le));
  of = ap (λ (o : Offer). vault_in o.vault) same ∙ h.of;
}

-- who has put it
pub put_knows : (slot cookie keys : ℕ) (w : WriterView) (c : CpuView) (w' : WriterView) (c' : CpuView) → PutsSlot slot cookie w c w' c' → 0 < keys → keys ≤ w.plan.keys → KnowsVault w.cell keys (vault_in w.plan.vault) c'.texts
put_knows slot cookie keys w c w' c' h some le =
    let counted = texts_are w.cell h.between.texts h.between.seen h.puts.history.legal h.puts.history.texts in
    let version : version_of w.cell h.between.seen ≡ w.version + 1 = ap (version_of w.cell) h.puts.seen ∙ version_put w.cell slot (w.version + 1) (Processor c.processor) h.puts.before in
    let new = h.version in
    let known : IsKnown w.cell w'.version h.between.texts = omega (arith, counted, version, new) in record {
      version = w'.version;
      known = known_later w.cell w'.version h.between.texts c'.texts h.notes.adds.texts known;
      some = some;
      laid = (let e = ap (λ (o : Offer). o.keys) h.offers in omega (arith, e, le));
      of = ap (λ (o : Offer). vault_in o.vault) h.offers;
    }

-- who finds another version then, or this one
pub finds_offer : (cell keys : ℕ) (vault : TableId) (r : ReadingView) (c d : CpuView) (f : FoundView) → Finds cell r c d f → KnowsVault cell keys vault d.texts → (keys ≤ (offer_of f.cell f.version f.texts).keys) × (vault_in (offer_of f.cell f.version f.texts).vault ≡ vault)
finds_offer cell keys vault r c d f h k =
    let all = h.adds.history in
    let counted = texts_are cell d.texts d.seen all.legal all.texts in
    let current = h.current.1 in let known = k.known in
    let le : k.version ≤ f.version = omega (arith, counted, current, known) in
    let least = k.laid in let some = k.some in let more = all.vaults.more cell k.version f.version le h.known in
    let here : (keys ≤ (offer_of cell f.version d.texts).keys) × (vault_in (offer_of cell f.version d.texts).vault ≡ vault) = (omega (arith, least, more), all.vaults.vault cell k.version f.version le h.known (omega (arith, least, some)) ∙ k.of) in
    subst (λ (z : ℕ × List Text). (keys ≤ (offer_of z.0 f.version z.1).keys) × (vault_in (offer_of z.0 f.version z.1).vault ≡ vault)) (λ i. (ap (λ z. z.cell) (sym h.found_is) i, ap (λ z. z.texts) (sym h.found_is) i)) here
