use Rattle.std.proofs.Common.{rules}
use Rattle.lines.proofs.Names.{padded_by}
use Rattle.lines.proofs.name.Name.new.Goals as goal

pub invariant_of-result : goal.invariant_of-result
invariant_of-result c = padded_by c.args.word.now _ (search rules) c.copy_from_slice.ensures.after
