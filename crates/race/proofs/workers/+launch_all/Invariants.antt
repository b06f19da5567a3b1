-- Each call has one reader less to start.
use Rattle.std.specs.Vec.{vec_len}
use Rattle.race.proofs.workers.+launch_all.Given as goal

abbrev pub decreases-launch_all : goal.decreases-launch_all
decreases-launch_all g l = vec_len l.readers.now
