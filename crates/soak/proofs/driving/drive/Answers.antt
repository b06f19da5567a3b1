-- Serving leaves both processors in their domain, with no reading open.
use Rattle.soak.proofs.driving.drive.Goals as goal

pub serve_with-served-requires-clause-here : goal.serve_with-served-requires-clause-here
serve_with-served-requires-clause-here g c = c.requires.idle.0.here

pub serve_with-served-requires-clause-none : goal.serve_with-served-requires-clause-none
serve_with-served-requires-clause-none g c = c.requires.idle.0.closed

pub returns-clause-cpu : goal.returns-clause-cpu
returns-clause-cpu g c = record { here = c.serve_with-served.ensures.here; closed = c.serve_with-served.ensures.none }
