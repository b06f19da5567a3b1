-- What was read was fed, and its whole lines were run.
use Rattle.std.proofs.Common.{ℕ, List}
use Rattle.std.specs.Io.KnownBytes.{Appends, Consumes}
use Rattle.lines.specs.Runs.{IsSoFar}
use Rattle.lines.proofs.run.run_lines.Given as goal

abbrev pub invariant-loop : goal.invariant-loop
invariant-loop g l = (taken : List ℕ) × (given : List ℕ)
    × Consumes (g.R.Read.remaining l.fn.reader) (g.R.Read.remaining l.reader) taken
    × Appends (g.W.Write.contents l.fn.writer) (g.W.Write.contents l.writer) given
    × IsSoFar g.S.Answers.gives l.fn.answerer taken given l.runner.line l.runner.number l.runner.faulty l.answerer
