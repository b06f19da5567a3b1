use Rattle.std.proofs.Common.{◌≡◌, ℕ, ℤ, w32, to_z, of_z, sym, ◌∙◌, subst}
use Rattle.solo.proofs.Calling.{Hand, hand_of, in_items, all_stay, lent, own_table, s', by_register, register_says}
use Rattle.solo.proofs.Words.{MatchResult, ChainState, IsSameChain, IsCurrent as IsCurrentChain, Block, Registers, RefusesRegister, with_current}
use Rattle.notify.specs.Blocks.{text_of as blocks_text}
use Rattle.std.proofs.lemmas.Int.{to_z-of_z}
use Rattle.solo.proofs.solo.Solo.register.Goals as goal

-- the block as it is handed on
abbrev put_block : ℕ → ℤ → Block
put_block id priority = record { id = id; priority = to_z w32 (of_z w32 priority) }

abbrev current : (g : _) (c : goal.After-settle g) → IsCurrentChain c.args.self.now c.notifier.inside.chain
current g c = subst (λ (s : ChainState). IsCurrentChain c.args.self.now s) (sym c.notifier.view_is) c.requires.current

abbrev hand : (g : _) → goal.After-settle g → Hand g.row.J.Denot
hand g c = hand_of c.args.processor c.register-answer.new.cpu c.self.invariant.met c.self.view_is c.requires.processor c.index_mut-cpu.ensures.value c.settle.ensures.all c.settle.ensures.meets

pub index_mut-cpu-requires : goal.index_mut-cpu-requires
index_mut-cpu-requires g c = in_items c.self.invariant.met c.self.view_is c.requires.processor _ c.self.inside.members.cpus.ok.0

pub register-answer-requires-clause-domain : goal.register-answer-requires-clause-domain
register-answer-requires-clause-domain g c = lent c.self.invariant.met c.self.view_is c.requires.processor c.index_mut-cpu.ensures.value

pub register-answer-requires-clause-here : goal.register-answer-requires-clause-here
register-answer-requires-clause-here g c = rw c.notifier.view_is (c.requires.current.here ∙ own_table c.self.invariant.met c.self.view_is)

pub settle-requires : goal.settle-requires
settle-requires g c =
    let kept = by_register c.args.id (put_block c.args.id c.args.priority) c.notifier.inside.chain c.register-answer.new.self c.index_mut-cpu.result.now c.register-answer.new.cpu c.register-answer.result c.register-answer.ensures.registers in
    all_stay c.self.invariant.met c.self.view_is c.requires.processor c.index_mut-cpu.ensures.value c.register-answer.ensures.here kept.cpu kept.needs

pub invariant_of-self : goal.invariant_of-self
invariant_of-self g c = record { engine = c.settle.ensures.meets.left; met = (register_says (hand g c) c.notifier.inside.chain c.register-answer.new.self c.register-answer.ensures.same (current g c) c.args.id (put_block c.args.id c.args.priority) c.register-answer.result c.register-answer.ensures.registers c.register-answer.ensures.has).met }

pub returns : goal.returns
returns g c =
    let it = register_says (hand g c) c.notifier.inside.chain c.register-answer.new.self c.register-answer.ensures.same (current g c) c.args.id (put_block c.args.id c.args.priority) c.register-answer.result c.register-answer.ensures.registers c.register-answer.ensures.has in record {
      same = it.same;
      chain = subst (λ (s : ChainState). IsSameChain s c.register-answer.new.self) c.notifier.view_is c.register-answer.ensures.same;
      current = it.what.2;
      registers = subst (λ (z : ChainState × ℤ). MatchResult c.register-answer.result (λ _. Registers c.args.processor (record { id = c.args.id; priority = z.1 }) z.0 c.register-answer.new.self c.args.self.now.course (s' (hand g c)).course) (λ e. RefusesRegister c.args.processor c.args.id e z.0 c.register-answer.new.self c.args.self.now.course (s' (hand g c)).course)) (λ i. (c.notifier.view_is i, to_z-of_z w32 c.args.priority c.ranges.priority i)) it.what.0;
      shelf = subst (λ (s : ChainState). MatchResult c.register-answer.result (λ _. (s' (hand g c)).shelf ≡ with_current s.writer.cell (blocks_text c.register-answer.new.self.blocks) c.args.self.now.shelf) (λ _. (s' (hand g c)).shelf ≡ c.args.self.now.shelf)) c.notifier.view_is it.what.1;
    }
