-- The seats so far, from the last one on, are over.
use Rattle.std.proofs.Common.{◌≡◌, ◌++◌, List, map}
use Rattle.std.specs.Vec.{vec_len}
use Rattle.desk.specs.Glossary.{SeatView, IsGathering, account}
use Rattle.desk.proofs.desk.Desk.close.Given as goal

abbrev pub invariant-loop-seat : goal.invariant-loop-seat
invariant-loop-seat g l = (over : List (SeatView g.row.T.Denot)) × (l.fn.seats.items ≡ l.seats.items ++ over) × IsGathering l.table.shared.table_id (map account over) l.keeper

abbrev pub decreases-loop-seat : goal.decreases-loop-seat
decreases-loop-seat g l = vec_len l.seats
