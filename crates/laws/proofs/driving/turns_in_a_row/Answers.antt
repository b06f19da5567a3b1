use Rattle.laws.proofs.Turns.{driving_leaves, turns_short, later_turns, running}
use Rattle.laws.proofs.driving.turns_in_a_row.Goals as goal

pub returns : goal.returns
returns g c = record { whole = driving_leaves; short = turns_short; later = later_turns; running = running }
