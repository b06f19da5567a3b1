-- How the fields of a sign are seen.
use Rattle.driver.specs.declared.stop.Stop.TheInside as stop
use Rattle.driver.specs.Signs.{StopView}

abbrev pub view_of_stop : {J A : Type 0} → stop.Inside J A → StopView
view_of_stop s = record { stop = s.trail.lock; domain = s.trail.key }
