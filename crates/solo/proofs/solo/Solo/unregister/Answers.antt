use Rattle.std.proofs.Common.{◌≡◌, sym, ◌∙◌, subst}
use Rattle.solo.proofs.Calling.{Hand, hand_of, in_items, all_stay, lent, own_table, s', by_unregister, unregister_says}
use Rattle.solo.proofs.Words.{MatchResult, ChainState, IsSameChain, IsCurrent as IsCurrentChain, Unregisters, RefusesUnregister, with_current}
use Rattle.notify.specs.Blocks.{text_of as blocks_text}
use Rattle.solo.proofs.solo.Solo.unregister.Goals as goal

abbrev current : (g : _) (c : goal.After-settle g) → IsCurrentChain c.args.self.now c.notifier.inside.chain
current g c = subst (λ (s : ChainState). IsCurrentChain c.args.self.now s) (sym c.notifier.view_is) c.requires.current

abbrev hand : (g : _) → goal.After-settle g → Hand g.row.J.Denot
hand g c = hand_of c.args.processor c.unregister-answer.new.cpu c.self.invariant.met c.self.view_is c.requires.processor c.index_mut-cpu.ensures.value c.settle.ensures.all c.settle.ensures.meets

pub index_mut-cpu-requires : goal.index_mut-cpu-requires
index_mut-cpu-requires g c = in_items c.self.invariant.met c.self.view_is c.requires.processor _ c.self.inside.members.cpus.ok.0

pub unregister-answer-requires-clause-domain : goal.unregister-answer-requires-clause-domain
unregister-answer-requires-clause-domain g c = lent c.self.invariant.met c.self.view_is c.requires.processor c.index_mut-cpu.ensures.value

pub unregister-answer-requires-clause-here : goal.unregister-answer-requires-clause-here
unregister-answer-requires-clause-here g c = rw c.notifier.view_is (c.requires.current.here ∙ own_table c.self.invariant.met c.self.view_is)

pub settle-requires : goal.settle-requires
settle-requires g c =
    let kept = by_unregister c.args.id c.notifier.inside.chain c.unregister-answer.new.self c.index_mut-cpu.result.now c.unregister-answer.new.cpu c.unregister-answer.result c.unregister-answer.ensures.unregisters in
    all_stay c.self.invariant.met c.self.view_is c.requires.processor c.index_mut-cpu.ensures.value c.unregister-answer.ensures.here kept.cpu kept.needs

pub invariant_of-self : goal.invariant_of-self
invariant_of-self g c = record { engine = c.settle.ensures.meets.left; met = (unregister_says (hand g c) c.notifier.inside.chain c.unregister-answer.new.self c.unregister-answer.ensures.same (current g c) c.args.id c.unregister-answer.result c.unregister-answer.ensures.unregisters c.unregister-answer.ensures.has).met }

pub returns : goal.returns
returns g c =
    let it = unregister_says (hand g c) c.notifier.inside.chain c.unregister-answer.new.self c.unregister-answer.ensures.same (current g c) c.args.id c.unregister-answer.result c.unregister-answer.ensures.unregisters c.unregister-answer.ensures.has in record {
      same = it.same;
      chain = subst (λ (s : ChainState). IsSameChain s c.unregister-answer.new.self) c.notifier.view_is c.unregister-answer.ensures.same;
      current = it.what.2;
      unregisters = subst (λ (s : ChainState). MatchResult c.unregister-answer.result (λ _. Unregisters c.args.processor c.args.id s c.unregister-answer.new.self c.args.self.now.course (s' (hand g c)).course) (λ e. RefusesUnregister c.args.processor c.args.id e s c.unregister-answer.new.self c.args.self.now.course (s' (hand g c)).course)) c.notifier.view_is it.what.0;
      shelf = subst (λ (s : ChainState). MatchResult c.unregister-answer.result (λ _. (s' (hand g c)).shelf ≡ with_current s.writer.cell (blocks_text c.unregister-answer.new.self.blocks) c.args.self.now.shelf) (λ _. (s' (hand g c)).shelf ≡ c.args.self.now.shelf)) c.notifier.view_is it.what.1;
    }
