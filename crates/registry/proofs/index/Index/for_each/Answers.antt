-- One call more.
use Rattle.std.proofs.Common.{◌≡◌, List, ControlFlow, Break, refl, sym, subst}
use Rattle.std.specs.ControlFlow.{MatchControlFlow}
use denote.Param.Always.{mut_next}
use Rattle.registry.specs.declared.index.Entry.{Entry}
use Rattle.registry.specs.Using.{VisitsIn}
use Rattle.registry.proofs.index.Index.for_each.Goals as goal

pub loop-entry-preserved : goal.loop-entry-preserved
loop-entry-preserved g c =
    let v = c.loop-entry.invariant in
    let f = c.visit.new.self in (
      mut_next g.F.FnMut c.loop-entry.visit (c.in-Some.entry.now.key, (c.get.result, tt)) c.visit.result f f c.visit.ensures refl v.0,
      λ last h. v.1 last (subst (λ (es : List (Entry _ _)). VisitsIn g.F.FnMut c.loop-entry.visit es last) (sym c.in-Some.ensures.cases.0)
          (c.visit.result, f, (c.get.result, c.get.ensures, c.visit.ensures), subst (λ (a : ControlFlow _ _). MatchControlFlow a (λ _. VisitsIn g.F.FnMut f c.in-Some.others.now last) (λ _. last ≡ a)) (sym c.in-Continue.is) h)),
    )

pub returns-in-Break : goal.returns-in-Break
returns-in-Break g c =
    let f = c.visit.new.self in
    let last : ControlFlow _ _ = Break c.in-Break.answer in
    c.loop-entry.invariant.1 last (subst (λ (es : List (Entry _ _)). VisitsIn g.F.FnMut c.loop-entry.visit es last) (sym c.in-Some.ensures.cases.0)
    (c.visit.result, f, (c.get.result, c.get.ensures, c.visit.ensures), subst (λ (a : ControlFlow _ _). MatchControlFlow a (λ _. VisitsIn g.F.FnMut f c.in-Some.others.now last) (λ _. last ≡ a)) (sym c.in-Break.is) refl))
