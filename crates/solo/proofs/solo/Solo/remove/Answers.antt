use Rattle.std.proofs.Common.{◌≡◌, sym, ◌∙◌, subst}
use Rattle.solo.proofs.Calling.{Hand, hand_of, in_items, all_stay, lent, own_table, s', by_remove, remove_says}
use Rattle.solo.proofs.Words.{MatchResult, text_of, TableState, IsSameTable, Removes, IsNotRemoved, with_current}
use Rattle.solo.specs.Tables.{IsCurrent as IsCurrentTable}
use Rattle.solo.proofs.solo.Solo.remove.Goals as goal

abbrev current : (g : _) (c : goal.After-settle g) → IsCurrentTable c.args.self.now c.board.inside.table
current g c = subst (λ (s : TableState). IsCurrentTable c.args.self.now s) (sym c.board.view_is) c.requires.current

abbrev hand : (g : _) → goal.After-settle g → Hand g.row.J.Denot
hand g c = hand_of c.args.processor c.remove-answer.new.cpu c.self.invariant.met c.self.view_is c.requires.processor c.index_mut-cpu.ensures.value c.settle.ensures.all c.settle.ensures.meets

pub index_mut-cpu-requires : goal.index_mut-cpu-requires
index_mut-cpu-requires g c = in_items c.self.invariant.met c.self.view_is c.requires.processor _ c.self.inside.members.cpus.ok.0

pub remove-answer-requires-clause-domain : goal.remove-answer-requires-clause-domain
remove-answer-requires-clause-domain g c = lent c.self.invariant.met c.self.view_is c.requires.processor c.index_mut-cpu.ensures.value

pub remove-answer-requires-clause-table : goal.remove-answer-requires-clause-table
remove-answer-requires-clause-table g c = rw c.board.view_is (c.requires.current.here ∙ own_table c.self.invariant.met c.self.view_is)

pub settle-requires : goal.settle-requires
settle-requires g c =
    let kept = by_remove c.args.key c.board.inside.table c.remove-answer.new.self c.index_mut-cpu.result.now c.remove-answer.new.cpu c.remove-answer.result c.remove-answer.ensures.removes in
    all_stay c.self.invariant.met c.self.view_is c.requires.processor c.index_mut-cpu.ensures.value c.remove-answer.ensures.here kept.cpu kept.needs

pub invariant_of-self : goal.invariant_of-self
invariant_of-self g c = record { engine = c.settle.ensures.meets.left; met = (remove_says (hand g c) c.board.inside.table c.remove-answer.new.self (record { domain = c.remove-answer.ensures.same.0; cell = c.remove-answer.ensures.same.1 }) (current g c) c.args.key c.remove-answer.result c.remove-answer.ensures.removes c.remove-answer.ensures.has).met }

pub returns : goal.returns
returns g c =
    let it = remove_says (hand g c) c.board.inside.table c.remove-answer.new.self (record { domain = c.remove-answer.ensures.same.0; cell = c.remove-answer.ensures.same.1 }) (current g c) c.args.key c.remove-answer.result c.remove-answer.ensures.removes c.remove-answer.ensures.has in record {
      same = it.same;
      table = subst (λ (s : TableState). IsSameTable s c.remove-answer.new.self) c.board.view_is (record { domain = c.remove-answer.ensures.same.0; cell = c.remove-answer.ensures.same.1 });
      current = it.what.2;
      removes = subst (λ (s : TableState). MatchResult c.remove-answer.result (λ v. Removes c.args.processor c.args.key v s c.remove-answer.new.self c.args.self.now.course (s' (hand g c)).course) (λ e. IsNotRemoved c.args.processor c.args.key e s c.remove-answer.new.self c.args.self.now.course (s' (hand g c)).course)) c.board.view_is it.what.0;
      shelf = subst (λ (s : TableState). MatchResult c.remove-answer.result (λ _. (s' (hand g c)).shelf ≡ with_current s.writer.cell (text_of c.remove-answer.new.self.rows) c.args.self.now.shelf) (λ _. (s' (hand g c)).shelf ≡ c.args.self.now.shelf)) c.board.view_is it.what.1;
    }
