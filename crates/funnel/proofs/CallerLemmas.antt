-- What a crate above may cite of this one; the other files of proofs/ are its own.
-- `root_has_greatest` is also a clause of `needs_of_a_tree`, which anyone may call (`root`).

-- Beginnings of a history

-- a history is a beginning of itself
pub use Rattle.funnel.proofs.Values.{begins_itself}
-- a beginning of a beginning is one
pub use Rattle.funnel.proofs.Values.{begins_on}
-- of one processor, the raises in two histories, one behind the other
pub use Rattle.funnel.proofs.Own.{made_on}
-- Who raised

-- each raise has one maker, so what the makers in hand raised is all
pub use Rattle.funnel.proofs.Alone.{raised_alone}
-- all raises of a call are its processor's
pub use Rattle.funnel.proofs.Alone.{climb_is_own}
-- and no other's
pub use Rattle.funnel.proofs.Alone.{climb_of_no_other}
-- What is asked for

-- where no call is on its way, the root holds the greatest number that was asked
pub use Rattle.funnel.proofs.Asked.{root_has_greatest}
-- behind a call the greatest number is that of before, or the one that it asked for
pub use Rattle.funnel.proofs.Alone.{greatest_climbed}
