-- What the command line asks for.
use Rattle.std.specs.Prelude.{◌≤◌, ◌^◌}
use Rattle.srcubench.specs.declared.command_line.Job.{Job}
use Rattle.srcubench.specs.declared.command_line.Job.TheVariants.{Count, Time, Alone}

-- there is something to measure, and a domain for it
abbrev pub IsMeasurable : Job → Type 0
IsMeasurable Count = Unit {0}
IsMeasurable (Time pairs repetitions) = (1 ≤ pairs) × (pairs ≤ 2 ^ 54) × (1 ≤ repetitions)
IsMeasurable (Alone which times) = 1 ≤ times
