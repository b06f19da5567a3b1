-- One call more.
use Rattle.std.proofs.Common.{◌≡◌, List, ControlFlow, Break, refl, sym, subst}
use Rattle.std.specs.ControlFlow.{MatchControlFlow}
use denote.Param.Always.{mut_next}
use Rattle.registry.specs.declared.index.Entry.{Entry}
use Rattle.registry.specs.Using.{FoldsIn}
use Rattle.registry.proofs.index.Index.try_fold.Goals as goal

pub loop-entry-preserved : goal.loop-entry-preserved
loop-entry-preserved g c =
    let v = c.loop-entry.invariant in
    let f = c.step.new.self in (
      mut_next g.F.FnMut c.loop-entry.step (c.loop-entry.so_far, (c.in-Some.entry.now.key, (c.get.result, tt))) c.step.result f f c.step.ensures refl v.0,
      λ last h. v.1 last (subst (λ (es : List (Entry _ _)). FoldsIn g.F.FnMut c.loop-entry.step c.loop-entry.so_far es last) (sym c.in-Some.ensures.cases.0)
          (c.step.result, f, (c.get.result, c.get.ensures, c.step.ensures), subst (λ (a : ControlFlow _ _). MatchControlFlow a (λ next. FoldsIn g.F.FnMut f next c.in-Some.others.now last) (λ _. last ≡ a)) (sym c.in-Continue.is) h)),
    )

pub returns-in-Break : goal.returns-in-Break
returns-in-Break g c =
    let f = c.step.new.self in
    let last : ControlFlow _ _ = Break c.in-Break.answer in
    c.loop-entry.invariant.1 last (subst (λ (es : List (Entry _ _)). FoldsIn g.F.FnMut c.loop-entry.step c.loop-entry.so_far es last) (sym c.in-Some.ensures.cases.0)
    (c.step.result, f, (c.get.result, c.get.ensures, c.step.ensures), subst (λ (a : ControlFlow _ _). MatchControlFlow a (λ next. FoldsIn g.F.FnMut f next c.in-Some.others.now last) (λ _. last ≡ a)) (sym c.in-Break.is) refl))
