-- Both were pushed, and come back.
use Rattle.std.proofs.Common.{◌≡◌, List, [], ◌∷◌, ◌++◌, ap, sym, ◌∙◌, subst}
use Rattle.std.proofs.lemmas.List.Elements.{All-cons, All-nil, All-pop}
use Rattle.domain.specs.Views.{CpuView, IsOf}
use Rattle.domain.specs.Parts.{Each}
use Rattle.domain_tests.proofs.tests.cleanup.refused.Goals as goal

pub cleanup-requires : goal.cleanup-requires
cleanup-requires g c =
    let empty : c.expect-cpus.result.items ≡ [] = rw c.expect-cpus.ensures at c.with_capacity.ensures.items in
    let items : c.push_reserved-2.new.self.items ≡ c.args.first ∷ c.args.second ∷ [] =
    c.push_reserved-2.ensures.items ∙ ap (λ (l : List (CpuView _)). l ++ c.args.second ∷ []) (c.push_reserved.ensures.items ∙ ap (λ (l : List (CpuView _)). l ++ c.args.first ∷ []) empty) in
    subst (λ (l : List (CpuView _)). Each (IsOf c.args.domain) l) (sym items) (All-cons (IsOf c.args.domain) c.args.first (c.args.second ∷ []) c.requires.0 (All-cons (IsOf c.args.domain) c.args.second [] c.requires.1 (All-nil (IsOf c.args.domain))))

pub returns-clause-here : goal.returns-clause-here
returns-clause-here g c =
    let back = c.in-Err.ensures.back in
    let last = All-pop (IsOf c.in-Err.domain) _ _ _ c.pop.ensures.items back.here in
    let other = All-pop (IsOf c.in-Err.domain) _ _ _ c.pop-2.ensures.items last.0 in
    (rw c.unwrap-first.ensures at other.1, rw c.unwrap-second.ensures at last.1)
