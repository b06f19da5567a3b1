use Rattle.solo.proofs.Calling.{in_items, first_small, lent, all_stay, not_busy, step_says}
use Rattle.domain.proofs.CallerLemmas.{same_stepped_in}
use Rattle.solo.proofs.solo.Solo.step.Goals as goal

pub index_mut-requires : goal.index_mut-requires
index_mut-requires g c = in_items c.self.invariant.met c.self.view_is (first_small c.self.invariant.met c.self.view_is) _ c.self.inside.members.cpus.ok.0

pub step-answer-requires : goal.step-answer-requires
step-answer-requires g c = lent c.self.invariant.met c.self.view_is (first_small c.self.invariant.met c.self.view_is) c.index_mut.ensures.value

pub settle-requires : goal.settle-requires
settle-requires g c = let same = same_stepped_in _ _ c.step-answer.result c.step-answer.ensures.steps in all_stay c.self.invariant.met c.self.view_is (first_small c.self.invariant.met c.self.view_is) c.index_mut.ensures.value c.step-answer.ensures.here same.cpu same.needs

pub told-requires : goal.told-requires
told-requires g c = not_busy _ _ _ _ _ _ _ c.self.invariant.met c.index_mut.ensures.value c.settle.ensures.meets _ c.step-answer.result c.step-answer.ensures.steps

pub invariant_of-self : goal.invariant_of-self
invariant_of-self g c = record { engine = c.settle.ensures.meets.left; met = (step_says _ _ _ _ _ _ _ _ c.self.invariant.met c.index_mut.ensures.value c.settle.ensures.all c.settle.ensures.meets _ c.self.view_is c.step-answer.result c.step-answer.ensures.steps c.told.result c.told.ensures).met }

pub returns : goal.returns
returns g c = let it = step_says _ _ _ _ _ _ _ _ c.self.invariant.met c.index_mut.ensures.value c.settle.ensures.all c.settle.ensures.meets _ c.self.view_is c.step-answer.result c.step-answer.ensures.steps c.told.result c.told.ensures in record { same = it.same; answer = it.what }
