use Rattle.std.proofs.Common.{◌≡◌, ◌+◌, ◌/◌, ℕ, sym, ap, ◌∙◌}
use Rattle.sseq.specs.declared.index.Index.{Index}
use Rattle.onedom.specs.Histories.{WasEmpty, IsBeginning}
use Rattle.onedom.proofs.CallerLemmas.{beginning_trans}
use Rattle.sections.specs.Views.{EngineView}
use Rattle.sections.specs.EngineCalls.{IsSeenByEngine}
use Rattle.sections_tests.proofs.tests.scan.Goals as goal

-- what was empty since the start was so later too, while the engine changes nothing
later : (i : Index) (e f : EngineView) → IsBeginning e.seen f.seen → f.changes ≡ e.changes → IsSeenByEngine e → IsSeenByEngine f → WasEmpty i e.seen → WasEmpty i f.seen
later i e f since same before after was = record {
  moment = was.moment;
  upto = beginning_trans was.upto since;
  since_start = was.since_start ∙ (before.reaches.started ∙ (ap (λ (n : ℕ). (n + 3) / 4) (sym same) ∙ sym after.reaches.started));
  empty = was.empty;
}

pub returns-clause-still : goal.returns-clause-still
returns-clause-still c =
    let a = c.unlocks-ended.ensures.step in
    let b = c.unlocks-ended_there.ensures.step in
    let d = c.locks-begun.ensures.step in
    let e = c.locks-begun_there.ensures.step in
    λ i was. later i c.args.engine.now c.locks-begun_there.new.self (beginning_trans a.since (beginning_trans b.since (beginning_trans d.since e.since))) (e.changes_are ∙ (d.changes_are ∙ (b.changes_are ∙ a.changes_are))) c.processors.ensures.history e.history was
