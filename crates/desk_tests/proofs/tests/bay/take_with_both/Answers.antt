use Rattle.desk.proofs.BothTied.{never_in_vain}
use Rattle.desk_tests.proofs.tests.bay.take_with_both.Goals as goal

pub unreachable-requires : goal.unreachable-requires
unreachable-requires c = let f = c.requires.first in let s = c.requires.second in
    never_in_vain c.args.first.now c.args.second.now c.tie.new.self c.tie.new.other c.take.new.self c.tie-in-None.new.self c.tie-in-None.new.other c.tie.ensures c.in-None.ensures.swap c.tie-in-None.ensures f.1 f.2 s.1 f.3 s.2
