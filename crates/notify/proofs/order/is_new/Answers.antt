-- Where it left no mark no block has it.
use Rattle.std.proofs.Common.{rules, ◌≡◌, ℕ, map, subst, bit_and}
use Rattle.notify.specs.Blocks.{block_at}
use Rattle.notify.proofs.Marks.{new_where_unmarked}
use Rattle.notify.proofs.order.is_new.Goals as goal

pub returns-then-marks-mark_of-eq0 : goal.returns-then-marks-mark_of-eq0
returns-then-marks-mark_of-eq0 c = (
  λ _. new_where_unmarked c.args.marks c.args.id (map block_at c.args.used.now) c.requires (subst (λ (n : ℕ). bit_and c.args.marks n ≡ 0) c.mark_of.ensures c.if-marks-mark_of-eq0.true),
  λ _. search rules,
)
