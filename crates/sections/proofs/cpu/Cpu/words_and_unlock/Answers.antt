use Rattle.std.proofs.Common.{◌≡◌, List, ℕ, ◌∙◌, sym, subst}
use Rattle.sections.specs.Showing.{ReadsAndEnds}
use Rattle.sections.proofs.cpu.Cpu.words_and_unlock.Goals as goal

pub returns : goal.returns
returns g c =
    let h = c.show_words_and_unlock.ensures in
    let same : c.show_words_and_unlock.result ≡ h.2.0.now = h.2.1 in
    subst (λ (l : List ℕ). ReadsAndEnds c.args.cell c.args.reading l c.args.self.now c.show_words_and_unlock.new.self) (sym (same ∙ h.2.2)) h.1
