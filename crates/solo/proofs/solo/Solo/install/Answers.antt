use Rattle.std.proofs.Common.{◌≡◌, sym, ◌∙◌, subst}
use Rattle.solo.proofs.Calling.{Hand, hand_of, in_items, all_stay, lent, own_table, s', by_install, install_says}
use Rattle.solo.proofs.Words.{MatchResult, text_of, TableState, IsSameTable, Installs, IsNotInstalled, with_current}
use Rattle.solo.specs.Tables.{IsCurrent as IsCurrentTable}
use Rattle.solo.proofs.solo.Solo.install.Goals as goal

abbrev current : (g : _) (c : goal.After-settle g) → IsCurrentTable c.args.self.now c.board.inside.table
current g c = subst (λ (s : TableState). IsCurrentTable c.args.self.now s) (sym c.board.view_is) c.requires.current

abbrev hand : (g : _) → goal.After-settle g → Hand g.row.J.Denot
hand g c = hand_of c.args.processor c.install-answer.new.cpu c.self.invariant.met c.self.view_is c.requires.processor c.index_mut-cpu.ensures.value c.settle.ensures.all c.settle.ensures.meets

pub index_mut-cpu-requires : goal.index_mut-cpu-requires
index_mut-cpu-requires g c = in_items c.self.invariant.met c.self.view_is c.requires.processor _ c.self.inside.members.cpus.ok.0

pub install-answer-requires-clause-domain : goal.install-answer-requires-clause-domain
install-answer-requires-clause-domain g c = lent c.self.invariant.met c.self.view_is c.requires.processor c.index_mut-cpu.ensures.value

pub install-answer-requires-clause-table : goal.install-answer-requires-clause-table
install-answer-requires-clause-table g c = rw c.board.view_is (c.requires.current.here ∙ own_table c.self.invariant.met c.self.view_is)

pub settle-requires : goal.settle-requires
settle-requires g c =
    let kept = by_install c.args.key c.args.plug c.board.inside.table c.install-answer.new.self c.index_mut-cpu.result.now c.install-answer.new.cpu c.install-answer.result c.install-answer.ensures.installs in
    all_stay c.self.invariant.met c.self.view_is c.requires.processor c.index_mut-cpu.ensures.value c.install-answer.ensures.here kept.cpu kept.needs

pub invariant_of-self : goal.invariant_of-self
invariant_of-self g c = record { engine = c.settle.ensures.meets.left; met = (install_says (hand g c) c.board.inside.table c.install-answer.new.self (record { domain = c.install-answer.ensures.same.0; cell = c.install-answer.ensures.same.1 }) (current g c) c.args.key c.args.plug c.install-answer.result c.install-answer.ensures.installs c.install-answer.ensures.has).met }

pub returns : goal.returns
returns g c =
    let it = install_says (hand g c) c.board.inside.table c.install-answer.new.self (record { domain = c.install-answer.ensures.same.0; cell = c.install-answer.ensures.same.1 }) (current g c) c.args.key c.args.plug c.install-answer.result c.install-answer.ensures.installs c.install-answer.ensures.has in record {
      same = it.same;
      table = subst (λ (s : TableState). IsSameTable s c.install-answer.new.self) c.board.view_is (record { domain = c.install-answer.ensures.same.0; cell = c.install-answer.ensures.same.1 });
      current = it.what.2;
      installs = subst (λ (s : TableState). MatchResult c.install-answer.result (λ v. Installs c.args.processor c.args.key c.args.plug v s c.install-answer.new.self c.args.self.now.course (s' (hand g c)).course) (λ e. IsNotInstalled c.args.processor c.args.key e s c.install-answer.new.self c.args.self.now.course (s' (hand g c)).course)) c.board.view_is it.what.0;
      shelf = subst (λ (s : TableState). MatchResult c.install-answer.result (λ _. (s' (hand g c)).shelf ≡ with_current s.writer.cell (text_of c.install-answer.new.self.rows) c.args.self.now.shelf) (λ _. (s' (hand g c)).shelf ≡ c.args.self.now.shelf)) c.board.view_is it.what.1;
    }
