-- The numbers before this one are plain.
use Rattle.std.proofs.Common.{◌≡◌, true, take}
use Rattle.std.specs.List.{list_all}
use Rattle.clap.specs.Matches.{first_value}
use Rattle.clap.specs.Words.{found_of}
use Rattle.options.specs.Views.{is_plain}
use Rattle.options.proofs.view.odd_number.Given as goal

abbrev pub invariant-loop-id : goal.invariant-loop-id
invariant-loop-id l = list_all (λ option. is_plain (first_value (found_of l.matches) option.0.now)) (take l.id-index l.id-items) ≡ true
