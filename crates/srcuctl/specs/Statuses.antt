-- The status that the program ends with.
use Rattle.std.specs.Prelude.{ℕ, Bool, true, false, if◌then◌else◌}
use Rattle.clap.specs.Words.{kind_of}
use Rattle.clap.specs.declared.error.kind.ErrorKind.{ErrorKind}
use Rattle.clap.specs.declared.error.kind.ErrorKind.TheVariants as kind
use Rattle.srcuctl.specs.declared.status.Ending.{Ending}
use Rattle.srcuctl.specs.declared.status.Ending.TheVariants as ending

-- whether the command line asks for the help or the version, and is not a wrong one
abbrev pub asks_for_a_text : ErrorKind → Bool
asks_for_a_text kind.DisplayHelp = true
asks_for_a_text kind.DisplayVersion = true
asks_for_a_text _ = false

-- 0 where a whole script was run and no line was faulty, where there was a race, and where the help or the version was asked for; 1 where a whole script was run and one or more lines were faulty; 2 where the run or the race ended early, where a run is not shown, and where the command line is wrong or can't be read
abbrev pub status_of : Ending → ℕ
status_of (ending.Ran outcome) = if outcome.faulty then 1 else 0
status_of ending.Raced = 0
status_of (ending.Stopped error) = 2
status_of (ending.Unshown why) = 2
status_of (ending.Answered error) = if asks_for_a_text (kind_of error) then 0 else 2
status_of (ending.Unread error) = 2
