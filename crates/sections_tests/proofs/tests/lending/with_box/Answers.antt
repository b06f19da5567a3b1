use Rattle.std.proofs.Common.{◌≡◌, ℕ, ◌<◌, List, sym, ◌∙◌, subst}
use Rattle.atomic_table.specs.Seated.{TableId}
use Rattle.sections.specs.declared.view.Text.{Text}
use Rattle.sections.specs.Words.{cells_in}
use Rattle.sections.specs.Boxes.{KnowsVault}
use Rattle.sections_tests.specs.Ready.{CanSee}
use Rattle.sections_tests.proofs.Seeing.{can_later}
use Rattle.sections_tests.proofs.tests.lending.with_box.Goals as goal

pub returns : goal.returns
returns c =
    let made = c.in_ok-first.ensures in
    let put = c.put_parts.ensures.cpu in
    let t = c.tie.ensures in
    let can : CanSee c.in_ok-vault.vault c.put_parts.new.cpu = record {
      two = put.1 ∙ made.3;
      cell = subst (λ (t : TableId). 0 < cells_in t) (sym put.0) made.2;
      knows = subst (λ (n : ℕ). KnowsVault n 16 c.in_ok-vault.vault c.put_parts.new.cpu.texts) (c.equip_all.ensures.same.2 ∙ made.6) c.in-Some.ensures.knows;
    } in
    let mine = can_later _ _ t.looks.same t.looks.texts can in
    let home : c.tie.new.other.domain ≡ c.tie.new.self.domain = t.accepts.same.0 ∙ (made.0 ∙ sym (t.looks.same.0 ∙ put.0)) in (
      home,
      mine,
      record {
        two = t.accepts.same.1 ∙ made.4;
        cell = subst (λ (t : TableId). 0 < cells_in t) (sym home) mine.cell;
        knows = subst (λ (l : List Text). KnowsVault 0 16 c.in_ok-vault.vault l) (sym t.accepts.texts) mine.knows;
      },
    )
