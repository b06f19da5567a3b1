-- The words before this place are loaded.
use Rattle.std.proofs.Common.{◌≡◌, [], length}
use Rattle.sections.specs.Rule.{bearer}
use Rattle.sections.proofs.Wholes.{SoFar}
use Rattle.sections.proofs.cpu.pinning.words_in.Given as goal

abbrev pub invariant-loop-place : goal.invariant-loop-place
invariant-loop-place g l = record {
  same_table : l.seat.table_id ≡ l.fn.seat.table_id;
  bare : l.seat.me.1 ≡ [];
  long : length l.words ≡ 16;
  so_far : SoFar l.cell l.slot l.place l.fn.seat.me.0 (bearer l.fn.found.me.0) (bearer l.fn.lender.me.0) l.words l.seat.me.0;
}
