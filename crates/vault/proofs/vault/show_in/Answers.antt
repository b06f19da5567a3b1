use Rattle.std.proofs.Common.{refl}
use Rattle.vault.proofs.vault.show_in.Goals as goal

pub returns-in-Some : goal.returns-in-Some
returns-in-Some g c = (c.in-Some.pile, c.in-Some.is, (_, c.show.ensures, refl))
