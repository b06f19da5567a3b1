use Rattle.std.proofs.Common.{rules, ◌≡◌, ◌∷◌, List, sym, subst, arith}
use Rattle.domain.specs.Glossary.{CpuView, IsOf, Each, AreAllThere, IsJudged}
use Rattle.domain.proofs.Judging.{no_more_closed, still_here, still_there, judged}
use Rattle.domain.proofs.domain.Domain.judge_all.Goals as goal

pub count_history-opened-requires-clause-here : goal.count_history-opened-requires-clause-here
count_history-opened-requires-clause-here g c =
    let split : c.args.cpus.now ≡ c.unwrap.result.0.now ∷ c.unwrap.result.1.now = search rules in
    subst (λ (l : List (CpuView _)). Each (IsOf c.args.self.now) l) split c.requires.here

pub count_history-opened-requires-clause-all : goal.count_history-opened-requires-clause-all
count_history-opened-requires-clause-all g c =
    let split : c.args.cpus.now ≡ c.unwrap.result.0.now ∷ c.unwrap.result.1.now = search rules in
    subst (λ (l : List (CpuView _)). AreAllThere c.args.self.now l) split c.requires.all

pub count_calls-calls-requires-clause-here : goal.count_calls-calls-requires-clause-here
count_calls-calls-requires-clause-here g c = still_here _ _ _ _ _ _ c.count_history-opened.ensures

pub count_calls-calls-requires-clause-all : goal.count_calls-calls-requires-clause-all
count_calls-calls-requires-clause-all g c =
    let split : c.args.cpus.now ≡ c.unwrap.result.0.now ∷ c.unwrap.result.1.now = search rules in
    still_there _ _ _ _ _ _ c.count_history-opened.ensures (subst (λ (l : List (CpuView _)). AreAllThere c.args.self.now l) split c.requires.all)

pub judge-requires-clause-closed : goal.judge-requires-clause-closed
judge-requires-clause-closed g c = no_more_closed _ _ _ _ _ _ c.count_history-opened.ensures

pub judge-requires-clause-finished : goal.judge-requires-clause-finished
judge-requires-clause-finished g c = c.count_calls-calls.ensures.within

pub returns : goal.returns
returns g c =
    let split : c.args.cpus.now ≡ c.unwrap.result.0.now ∷ c.unwrap.result.1.now = search rules in
    subst (λ (l : List (CpuView _)). IsJudged c.args.self.now l c.judge.result (c.count_calls-calls.new.first ∷ c.count_calls-calls.new.others)) (sym split)
    (judged _ _ _ _ _ _ c.count_history-opened.ensures _ _ _ c.count_calls-calls.ensures (omega arith) c.completed.result c.judge.result c.completed.ensures c.judge.ensures)
