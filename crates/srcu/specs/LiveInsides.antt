-- How the fields of a live value are seen.
use Rattle.srcu.specs.declared.live.Live.TheInside as live
use Rattle.srcu.specs.Living.{LiveView}

abbrev pub view_of_live : {V : Type 0} → live.Inside V → LiveView
view_of_live l = record { lock = l.trail.lock; boxes = l.trail.key }
