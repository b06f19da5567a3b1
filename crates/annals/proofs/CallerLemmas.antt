-- What a crate above may cite of this one.

pub use Rattle.annals.proofs.Logs.{same_maker_refl, same_maker_else, beginning_refl, beginning_empty, beginning_more, beginning_on, shorter_begins, made_append, made_own, made_other, own_between}
pub use Rattle.annals.proofs.Views.{at_below, at_snoc, views_set}
-- a new table keeps the rule, and so do seats that are dealt, cut in two and joined
pub use Rattle.annals.proofs.Sharing.{opens, deals, Beside, Cut, Glued, gives_part, takes_part, gives_token, takes_token}
-- a step keeps the rule where the caller's part of it does
pub use Rattle.annals.proofs.Steps.{Apart, IsNew, MayHave, Made, Noted, Looked, Sees, makes, notes, looks}
-- no cut or join of seats claims an entry, where others may make more
pub use Rattle.annals.proofs.Forging.{never_forged}
pub use Rattle.annals.proofs.DeedForging.{no_deed_forged}
