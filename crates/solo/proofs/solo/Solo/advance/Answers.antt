use Rattle.solo.proofs.Calling.{in_items, first_small, lent, all_stay, not_busy, advance_says}
use Rattle.domain.proofs.CallerLemmas.{same_advanced_in}
use Rattle.solo.proofs.solo.Solo.advance.Goals as goal

pub index_mut-requires : goal.index_mut-requires
index_mut-requires g c = in_items c.self.invariant.met c.self.view_is (first_small c.self.invariant.met c.self.view_is) _ c.self.inside.members.cpus.ok.0

pub advance-answer-requires : goal.advance-answer-requires
advance-answer-requires g c = lent c.self.invariant.met c.self.view_is (first_small c.self.invariant.met c.self.view_is) c.index_mut.ensures.value

pub settle-requires : goal.settle-requires
settle-requires g c = let same = same_advanced_in _ _ c.advance-answer.result c.advance-answer.ensures.advances in all_stay c.self.invariant.met c.self.view_is (first_small c.self.invariant.met c.self.view_is) c.index_mut.ensures.value c.advance-answer.ensures.here same.cpu same.needs

pub told-requires : goal.told-requires
told-requires g c = not_busy _ _ _ _ _ _ _ c.self.invariant.met c.index_mut.ensures.value c.settle.ensures.meets _ c.advance-answer.result c.advance-answer.ensures.advances

pub invariant_of-self : goal.invariant_of-self
invariant_of-self g c = record { engine = c.settle.ensures.meets.left; met = (advance_says _ _ _ _ _ _ _ _ c.self.invariant.met c.index_mut.ensures.value c.settle.ensures.all c.settle.ensures.meets _ c.self.view_is c.advance-answer.result c.advance-answer.ensures.advances c.told.result c.told.ensures).met }

pub returns : goal.returns
returns g c = let it = advance_says _ _ _ _ _ _ _ _ c.self.invariant.met c.index_mut.ensures.value c.settle.ensures.all c.settle.ensures.meets _ c.self.view_is c.advance-answer.result c.advance-answer.ensures.advances c.told.result c.told.ensures in record { same = it.same; answer = it.what }
