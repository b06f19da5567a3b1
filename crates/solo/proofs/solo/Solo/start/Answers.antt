use Rattle.solo.proofs.Calling.{in_items, first_small, lent, all_stay, none_busy, start_says}
use Rattle.domain.proofs.CallerLemmas.{same_started_in}
use Rattle.solo.proofs.solo.Solo.start.Goals as goal

pub index_mut-requires : goal.index_mut-requires
index_mut-requires g c = in_items c.self.invariant.met c.self.view_is (first_small c.self.invariant.met c.self.view_is) _ c.self.inside.members.cpus.ok.0

pub start-answer-requires : goal.start-answer-requires
start-answer-requires g c = lent c.self.invariant.met c.self.view_is (first_small c.self.invariant.met c.self.view_is) c.index_mut.ensures.value

pub settle-requires : goal.settle-requires
settle-requires g c = let same = same_started_in _ _ c.start-answer.result c.start-answer.ensures.starts in all_stay c.self.invariant.met c.self.view_is (first_small c.self.invariant.met c.self.view_is) c.index_mut.ensures.value c.start-answer.ensures.here same.cpu same.needs

pub started-requires : goal.started-requires
started-requires g c = none_busy _ _ _ _ _ _ _ c.self.invariant.met c.index_mut.ensures.value c.settle.ensures.meets _ c.start-answer.result c.start-answer.ensures.starts

pub invariant_of-self : goal.invariant_of-self
invariant_of-self g c = record { engine = c.settle.ensures.meets.left; met = (start_says _ _ _ _ _ _ _ _ c.self.invariant.met c.index_mut.ensures.value c.settle.ensures.all c.settle.ensures.meets _ c.self.view_is c.start-answer.result c.start-answer.ensures.starts c.started.result c.started.ensures).met }

pub returns : goal.returns
returns g c = let it = start_says _ _ _ _ _ _ _ _ c.self.invariant.met c.index_mut.ensures.value c.settle.ensures.all c.settle.ensures.meets _ c.self.view_is c.start-answer.result c.start-answer.ensures.starts c.started.result c.started.ensures in record { same = it.same; start = it.what }
