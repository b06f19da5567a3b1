-- The seats so far are dealt, in order.
use Rattle.std.proofs.Common.{◌≡◌, length}
use Rattle.std.specs.Vec.{vec_len, vec_capacity}
use Rattle.desk.specs.BaySeats.{IsFounder}
use Rattle.desk.proofs.BayDealing.{AreNewSoFar, bay_of}
use Rattle.desk.proofs.bay.Bay.new.Given as goal

abbrev pub invariant-loop-number : goal.invariant-loop-number
invariant-loop-number g l = record {
  dealer : IsFounder l.table.shared.key l.table.shared.table_id l.number l.dealer;
  long : vec_len l.dealt ≡ l.number;
  room : vec_capacity l.dealt ≡ l.seats;
  count : length l.dealt.items ≡ l.number;
  dealt : AreNewSoFar (bay_of l.table.shared.table_id l.table.shared.key) l.dealt.items;
}
