use Rattle.std.proofs.Common.{ap}
use Rattle.sections_tests.proofs.Seeing.{can_caught, can_found, offers, offers_as}
use Rattle.sections_tests.proofs.tests.lending.see.Goals as goal

pub draw-requires-clause-vault : goal.draw-requires-clause-vault
draw-requires-clause-vault c = offers c.find_held-found.ensures.finds c.requires.can

pub pay-requires-clause-vault : goal.pay-requires-clause-vault
pay-requires-clause-vault c = offers_as (ap (λ l. l.found) c.in-Ok.ensures.lends.0) c.draw.ensures.catches.same.1 (offers c.find_held-found.ensures.finds c.requires.can)

pub returns-in-Ok-clause-can : goal.returns-in-Ok-clause-can
returns-in-Ok-clause-can c = can_caught c.pay.ensures.catches (can_caught c.draw.ensures.catches (can_found c.find_held-found.ensures.finds c.requires.can))

pub returns-in-Err-clause-can : goal.returns-in-Err-clause-can
returns-in-Err-clause-can c = can_caught c.draw.ensures.catches (can_found c.find_held-found.ensures.finds c.requires.can)
