-- The seats so far are dealt, in order.
use Rattle.std.proofs.Common.{◌≡◌, length}
use Rattle.std.specs.Vec.{vec_len, vec_capacity}
use Rattle.desk.specs.Seats.{IsFounder}
use Rattle.desk.proofs.Dealing.{AreNewSoFar}
use Rattle.desk.proofs.desk.Desk.new.Given as goal

abbrev pub invariant-loop-number : goal.invariant-loop-number
invariant-loop-number g l = record {
  dealer : IsFounder l.table.shared.key l.table.shared.table_id l.number l.dealer;
  long : vec_len l.dealt ≡ l.number;
  room : vec_capacity l.dealt ≡ l.seats;
  count : length l.dealt.items ≡ l.number;
  dealt : AreNewSoFar record { desk = l.table.shared.table_id; domain = l.table.shared.key.home; seats = l.table.shared.key.seats } l.dealt.items;
}
