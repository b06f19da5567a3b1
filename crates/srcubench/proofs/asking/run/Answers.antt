-- The seats were those of a new tree.
use Rattle.srcubench.proofs.AllAsked.{all_can, askers_of_one}
use Rattle.srcubench.proofs.asking.run.Goals as goal

pub ask_at_once-requires-after_bounds : goal.ask_at_once-requires-after_bounds
ask_at_once-requires-after_bounds g c κs within = all_can _ _ c.requires.few c.in_ok-seats.ensures.seats

pub returns : goal.returns
returns g c = let made = c.in_ok-seats.ensures.made.made in askers_of_one _ _ _ _ _ _ _ made.count made.seats_new c.in_ok-askers.ensures
