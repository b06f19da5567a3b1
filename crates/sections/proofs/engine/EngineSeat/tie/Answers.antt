use Rattle.sections.proofs.Meeting.{ties_engine, now_tied}
use Rattle.sections.proofs.engine.EngineSeat.tie.Goals as goal

pub returns-clause-ties : goal.returns-clause-ties
returns-clause-ties g c = ties_engine _ _ _ _ _ _ _ _ c.cover.ensures.engine c.cover.ensures.cpu c.admit.ensures.engine c.admit.ensures.cpu c.note.ensures.cpu c.note.ensures.engine

pub returns-clause-tied : goal.returns-clause-tied
returns-clause-tied g c = now_tied _ _ _ c.admit.new.cpu c.admit.ensures.engine c.admit.ensures.cpu.changes c.note.ensures.there c.note.ensures.engine
