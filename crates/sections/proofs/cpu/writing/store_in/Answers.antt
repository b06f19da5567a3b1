use Rattle.std.proofs.Common.{ℕ, arith, sym, ap, subst, ◌∙◌}
use mathlib.Core.Option.{none}
use Rattle.atomic_table.specs.Table.{step, Allows}
use Rattle.sections.specs.Glossary.{word_place, Kept, stored}
use Rattle.sections.proofs.Seating.{cells_are}
use Rattle.sections.proofs.Finding.{word_there}
use Rattle.sections.proofs.Writing.{stores_here}
use Rattle.sections.proofs.cpu.writing.store_in.Goals as goal

pub store-requires : goal.store-requires
store-requires g c = (
  c.requires.pen.0.seated,
  word_there _ _ _ _ _ _ (let h = cells_are _ _ c.requires.wide.0 c.requires.wide.1 in let i = c.requires.pen.0.inside in omega (arith, h, i)) c.requires.place.0 c.requires.place.1 c.requires.wide.0 c.place_of_word-place.ensures,
  subst (λ (n : ℕ). Allows (Kept c.args.table.now.shared.key) c.args.table.now.shared.table_id.slots c.args.pen.now.id c.args.pen.now.me c.place_of_word-place.result
      (λ _. c.args.value) (λ _. stored n (step c.args.table.now.shared.table_id.slots c.place_of_word-place.result c.args.value 0 none) c.args.pen.now.me c.args.value))
      (sym c.requires.sized) (stores_here c.args.table.now.shared.key _ _ _ c.args.value c.args.pen.now.me c.args.cell c.args.slot c.args.place c.requires.pen.0.own c.requires.pen.0.upto c.requires.pen.0.plan c.requires.pen.0.right
      (c.requires.pen.1 _ _ _ c.requires.pen.0.right) c.requires.place.0 c.requires.place.1 c.place_of_word-place.ensures),
)

pub returns : goal.returns
returns g c = record {
  same_table = c.store.ensures.0;
  bare = c.store.ensures.2.0 ∙ c.requires.pen.0.bare;
  keeps = λ own h q right. c.store.ensures.2.1 c.args.cell c.args.slot c.args.place own h q right c.requires.place.0 c.requires.place.1 (c.place_of_word-place.ensures ∙ ap (λ n. word_place n c.args.cell c.args.slot c.args.place) (sym c.requires.sized));
}
