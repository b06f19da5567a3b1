-- The version that was put has the words that its slot had, and offers its parts.
use Rattle.std.proofs.Common.{◌≡◌, ℕ, ◌+◌, [], ◌∷◌, ◌++◌, List, length, get_or, ap, ◌∙◌, length-append, arith}
use Rattle.std.proofs.lemmas.List.{get_or_push}
use Rattle.onedom.specs.declared.event.Event.TheVariants.{Put}
use Rattle.onedom.specs.declared.event.Maker.TheVariants.{Processor}
use Rattle.onedom.specs.Histories.{version_of}
use Rattle.onedom.proofs.CallerLemmas.{version_put}
use Rattle.sections.specs.Glossary.{Offer, Text, texts_of, blank_words, words_of, slot_words, offer_of, IsStart, IsKnown, AddsEvent, CpuView, WriterView, PutsSlot}
use Rattle.sections.proofs.Finding.{texts_are, texts_of_append, words_stay}
use Rattle.sections.proofs.Offers.{offer_stays}
use Rattle.sections.proofs.Writing.{one_text}

pub has_put : (slot cookie : ℕ) (w : WriterView) (c : CpuView) (w' : WriterView) (c' : CpuView) → PutsSlot slot cookie w c w' c' → words_of w.cell w'.version c'.texts ≡ slot_words slot w.words
has_put slot cookie w c w' c' h =
    let cell : ℕ = w.cell in
    let words : List ℕ = slot_words slot w.words in
    let first : List Text = h.text.before in
    let texts : List Text = h.between.texts in
    let all : texts_of cell texts ≡ texts_of cell first ++ words ∷ [] = ap (texts_of cell) h.text.whole ∙ (texts_of_append cell first (h.text.last ∷ []) ∙ (ap (λ l. texts_of cell first ++ l) (one_text cell h.text.last h.text.cell) ∙ ap (λ ws. texts_of cell first ++ ws ∷ []) h.text.same)) in
    let counted = texts_are cell texts h.between.seen h.puts.history.legal h.puts.history.texts in
    let version : version_of cell h.between.seen ≡ w.version + 1 = ap (version_of cell) h.puts.seen ∙ version_put cell slot (w.version + 1) (Processor c.processor) h.puts.before in
    let long = ap length all in
    let sum = length-append (texts_of cell first) (words ∷ []) in
    let at : length (texts_of cell first) ≡ w.version = omega (arith, counted, version, long, sum) in
    let new = h.version in
    let known : IsKnown cell w'.version texts = omega (arith, new, counted, version) in
    words_stay cell w'.version texts c'.texts h.notes.adds.texts known
    ∙ (ap (λ n. words_of cell n texts) new
    ∙ (ap (λ l. get_or (blank_words ∷ l) (w.version + 1) blank_words) all
    ∙ get_or_push (blank_words ∷ texts_of cell first) words blank_words (w.version + 1) (omega (arith, at))))

-- what it offers stays as it was
pub offered_put : (slot : ℕ) (w : WriterView) (c between : CpuView) (texts : List Text) (o : Offer) → AddsEvent w.seen w.changes (Put w.cell slot (w.version + 1) (Processor c.processor)) c between
    → IsStart between.texts texts → offer_of w.cell (w.version + 1) between.texts ≡ o → offer_of w.cell (w.version + 1) texts ≡ o
offered_put slot w c between texts o puts start is =
    let counted = texts_are w.cell between.texts between.seen puts.history.legal puts.history.texts in
    let version : version_of w.cell between.seen ≡ w.version + 1 = ap (version_of w.cell) puts.seen ∙ version_put w.cell slot (w.version + 1) (Processor c.processor) puts.before in
    offer_stays w.cell (w.version + 1) between.texts texts start (omega (arith, counted, version)) ∙ is
