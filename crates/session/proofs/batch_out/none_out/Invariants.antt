-- So many are there, each with none out, and there is room for all.
use Rattle.std.proofs.Common.{◌≡◌, ◌≤◌, None, replicate, vec_capacity}
use Rattle.session.proofs.batch_out.none_out.Given as goal

abbrev pub invariant-loop-processor : goal.invariant-loop-processor
invariant-loop-processor g l = record {
  room : l.processors ≤ vec_capacity l.all;
  none : l.all.items ≡ replicate l._processor None;
}
