-- The parts so far are written.
use Rattle.std.proofs.Common.{◌≡◌}
use Rattle.srcuctl.specs.Shown.{WritesParts}
use Rattle.srcuctl.proofs.showing.write_parts.Given as goal

abbrev pub invariant-loop-at : goal.invariant-loop-at
invariant-loop-at g l =
    goal.F-IsAlwaysCallable g l.make
    × WritesParts (λ f given f'. (s : _) × (r : _) × goal.F-step g f s r given f' × (s.now ≡ l.script) × (r.now ≡ l.recorded)) l.fn.make l.make (g.W.Write.contents l.fn.writer) (g.W.Write.contents l.writer)
    × (l.at ≡ 0 → l.writer ≡ l.fn.writer)
