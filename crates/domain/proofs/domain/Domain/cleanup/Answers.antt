use Rattle.std.proofs.Common.{◌≡◌, List, length, sym, ap, subst, arith}
use Rattle.domain.specs.Glossary.{CpuView, IsOf, Each, AreAllThere, IsJudged, IsHandedBack, missing_of}
use Rattle.domain.proofs.Judging.{all_there, nothing_changed, handed_back, all_kept}
use Rattle.domain.proofs.domain.Domain.cleanup.Goals as goal

pub judge_all-requires-clause-here : goal.judge_all-requires-clause-here
judge_all-requires-clause-here g c = subst (λ (l : List (CpuView _)). Each (IsOf c.args.self) l) (sym c.as_mut_slice.ensures.value) c.requires

pub judge_all-requires-clause-all : goal.judge_all-requires-clause-all
judge_all-requires-clause-all g c =
    let count = c.count_missing-missing.ensures.count in
    let zero = c.if-missing-gt0.false in
    let same = ap (λ l. missing_of c.args.self.processors l) c.as_slice.ensures.value in
    let none : missing_of c.args.self.processors c.args.cpus.items ≡ 0 = omega (arith, count, zero, same) in
    subst (λ (l : List (CpuView _)). AreAllThere c.args.self l) (sym c.as_mut_slice.ensures.value) (all_there c.args.self c.args.cpus.items none)

pub judge_all-requires-clause-some : goal.judge_all-requires-clause-some
judge_all-requires-clause-some g c =
    let count = c.count_missing-missing.ensures.count in
    let zero = c.if-missing-gt0.false in
    let same = ap (λ l. missing_of c.args.self.processors l) c.as_slice.ensures.value in
    let none : missing_of c.args.self.processors c.args.cpus.items ≡ 0 = omega (arith, count, zero, same) in
    let one = all_there c.args.self c.args.cpus.items none 0 c.count_missing-missing.ensures.some in
    let lt = one.1 in
    let long = ap (λ (l : List (CpuView _)). length l) c.as_mut_slice.ensures.value in
    omega (arith, lt, long)

pub returns-then-missing-gt0-clause-back : goal.returns-then-missing-gt0-clause-back
returns-then-missing-gt0-clause-back g c = nothing_changed _ _ c.requires

pub returns-in-Err-clause-back : goal.returns-in-Err-clause-back
returns-in-Err-clause-back g c =
    let judged = subst (λ (l : List (CpuView _)). IsJudged c.args.self l c.judge_all.result c.judge_all.new.cpus) c.as_mut_slice.ensures.value c.judge_all.ensures in
    let count = judged.back.count in
    let long = c.args.cpus.ok.0 in
    let same : c.args.cpus.len ≡ length c.judge_all.new.cpus = omega (arith, count, long) in
    subst (λ (l : List (CpuView _)). IsHandedBack c.args.self c.args.cpus.items c.args.self l) (sym (all_kept c.args.cpus.len c.judge_all.new.cpus _ same)) (handed_back _ _ _ _ _ judged.back)
