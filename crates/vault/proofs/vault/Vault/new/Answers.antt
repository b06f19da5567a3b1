use Rattle.vault.proofs.Dealing.{opens_new}
use Rattle.vault.proofs.vault.Vault.new.Goals as goal

pub vacant-requires : goal.vacant-requires
vacant-requires g c = opens_new c.args.places
