use Rattle.std.proofs.Common.{List, subst, ◌∙◌}
use Rattle.domain.specs.Glossary.{CpuView, TurnCovers, EachBecomes, IsTurned}
use Rattle.domain.proofs.Gathering.{taken_at_once, nobody_has_it}
use Rattle.domain.proofs.domain.Domain.take_at_once.Goals as goal

pub returns-in-Some-clause-takes : goal.returns-in-Some-clause-takes
returns-in-Some-clause-takes g c = taken_at_once _ _ _ _ _ c.cover_turns.ensures.turn c.in-Some.ensures.takes

pub unreachable-requires : goal.unreachable-requires
unreachable-requires g c =
    let busy = c.in_default.ensures.takes in
    let same = c.cover_turns.ensures.others in
    let again = subst (λ (l : List (CpuView _)). TurnCovers c.take.new.self l c.cover_turns-2.new.turn) same c.cover_turns-2.ensures.turn in
    let admitted = subst (λ (l : List (CpuView _)). EachBecomes (IsTurned c.cover_turns-2.new.turn) l c.admit_turns.new.others) (c.cover_turns-2.ensures.others ∙ same) c.admit_turns.ensures.others in
    nobody_has_it c.args.turn.now _ _ _ c.args.others.now _ c.requires.all c.cover_turns.ensures.turn busy.swap busy.elsewhere again admitted
