-- Nothing lies in a new one.
use Rattle.mailbox.proofs.Keeping.{opens}
use Rattle.mailbox.proofs.mailbox.Mailbox.new.Goals as goal

pub vacant-requires : goal.vacant-requires
vacant-requires g c = opens g.T.Posted.fits c.of.result.key
