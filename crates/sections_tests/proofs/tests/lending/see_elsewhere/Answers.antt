use Rattle.std.proofs.Common.{refl, sym, ap, ◌∙◌}
use Rattle.sections_tests.proofs.Seeing.{can_caught, can_found, can_told, offers, offers_as}
use Rattle.sections_tests.proofs.tests.lending.see_elsewhere.Goals as goal

pub draw-requires-clause-vault : goal.draw-requires-clause-vault
draw-requires-clause-vault c = offers c.find_held-found.ensures.finds c.requires.can.0

pub pay-held-requires-clause-vault : goal.pay-held-requires-clause-vault
pay-held-requires-clause-vault c = offers_as (ap (λ l. l.found) c.in-Ok.ensures.lends.0) (c.requires.can.1.two ∙ sym (can_found c.find_held-found.ensures.finds c.requires.can.0).two) (offers c.find_held-found.ensures.finds c.requires.can.0)

pub returns-in-Ok-clause-can : goal.returns-in-Ok-clause-can
returns-in-Ok-clause-can c = (can_caught c.draw.ensures.catches (can_found c.find_held-found.ensures.finds c.requires.can.0), can_told c.up_read.ensures.ends (can_caught c.pay-held.ensures.catches c.requires.can.1))

pub returns-in-Err-clause-can : goal.returns-in-Err-clause-can
returns-in-Err-clause-can c = (can_told c.up_read-in-Err.ensures.ends (can_caught c.draw.ensures.catches (can_found c.find_held-found.ensures.finds c.requires.can.0)), c.requires.can.1)
