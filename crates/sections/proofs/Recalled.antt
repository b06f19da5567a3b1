-- Who has put a version knows its text.
use Rattle.std.proofs.Common.{◌≡◌, ℕ, ◌+◌, ap, ◌∙◌, arith}
use Rattle.onedom.specs.declared.event.Maker.TheVariants.{Processor}
use Rattle.onedom.specs.Histories.{version_of}
use Rattle.onedom.proofs.CallerLemmas.{version_put}
use Rattle.sections.specs.Glossary.{IsKnown, CpuView, WriterView, PutsSlot}
use Rattle.sections.proofs.Finding.{texts_are}
use Rattle.sections.proofs.Offers.{known_later}

pub put_known : (slot cookie : ℕ) (w : WriterView) (c : CpuView) (w' : WriterView) (c' : CpuView) → PutsSlot slot cookie w c w' c' → IsKnown w.cell w'.version c'.texts
put_known slot cookie w c w' c' h =
    let counted = texts_are w.cell h.between.texts h.between.seen h.puts.history.legal h.puts.history.texts in
    let version : version_of w.cell h.between.seen ≡ w.version + 1 = ap (version_of w.cell) h.puts.seen ∙ version_put w.cell slot (w.version + 1) (Processor c.processor) h.puts.before in
    let new = h.version in
    known_later w.cell w'.version h.between.texts c'.texts h.notes.adds.texts (omega (arith, counted, version, new))
