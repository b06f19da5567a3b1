use Rattle.account.proofs.Walks.{noted}
use Rattle.account.proofs.span.note.Goals as goal

pub returns-in_ok-insert : goal.returns-in_ok-insert
returns-in_ok-insert c = rw (c.in-Some-Ends.is-0, c.in-Some-Ends.is-1) (noted c.args.ends.now c.insert.new.self _ _ _ c.in_ok-insert.ensures.updates.0)
