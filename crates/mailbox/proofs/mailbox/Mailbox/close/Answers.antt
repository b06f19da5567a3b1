-- The place is closed, so it is empty.
use Rattle.std.proofs.Common.{◌∙◌}
use Rattle.mailbox.proofs.Keeping.{closes}
use Rattle.mailbox.proofs.mailbox.Mailbox.close.Goals as goal

pub free_all-requires : goal.free_all-requires
free_all-requires g c = closes g.T.Posted.fits c.self.inside.table.shared.key.key _ _ _ c.shut_place-value.ensures.pins (c.close_with.ensures.counts.1 ∙ c.self.invariant.1) c.close_with.ensures.values
