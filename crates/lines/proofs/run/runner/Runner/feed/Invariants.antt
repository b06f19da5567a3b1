-- The run went on over the bytes before `byte`.
use Rattle.std.proofs.Common.{ℕ, List, ◌++◌, take}
use Rattle.std.specs.Io.KnownBytes.{Appends}
use Rattle.lines.specs.Runs.{IsSoFar}
use Rattle.lines.proofs.run.runner.Runner.feed.Given as goal

abbrev pub invariant-loop-byte : goal.invariant-loop-byte
invariant-loop-byte g l =
    (start : g.row.S.Denot) (taken given : List ℕ) → IsSoFar g.S.Answers.gives start taken given l.fn.self.line l.fn.self.number l.fn.self.faulty l.fn.answerer
    → ((more : List ℕ) × Appends (g.W.Write.contents l.fn.writer) (g.W.Write.contents l.writer) more
    × IsSoFar g.S.Answers.gives start (taken ++ take l.byte-index l.fn.bytes) (given ++ more) l.self.line l.self.number l.self.faulty l.answerer)
