-- What stands behind the last line feed is run where it is a line.
use Rattle.std.proofs.Common.{◌≡◌, ◌≢◌, [], Some, rules}
use borrow.Author.Tests.{tests}
use Rattle.std.proofs.KnownBytes.{Appends-nil}
use Rattle.std.proofs.lemmas.Result.{err_from_is_err_and}
use Rattle.lines.proofs.SoFar.{finish-empty, finish-fails, finish-line}
use Rattle.lines.proofs.run.runner.Runner.finish.Goals.{then-not-is_empty+in_ok-end_line, else-not-is_empty}
use Rattle.lines.proofs.run.runner.Runner.finish.Goals as goal

pub returns-in_err-end_line : goal.returns-in_err-end_line
returns-in_err-end_line g c = λ start taken given so_far.
    let some : c.args.self.line ≢ Some [] = λ none. absurd (search (rules, tests, c.is_empty.ensures.1 none)) in
    let (more, went, ends) = finish-fails _ so_far _ _ _ _ some c.in_err-end_line.ensures in
    let exit = err_from_is_err_and c.from_residual.result c.from_residual.ensures.1 in
    (more, went, rw (exit.1, exit.2) ends)

pub returns : goal.returns
returns g c = λ start taken given so_far.
    elim c.if-not-is_empty.branch [
      | then-not-is_empty+in_ok-end_line w ↦
          let some : c.args.self.line ≢ Some [] = λ none. absurd (search (rules, tests, c.is_empty.ensures.1 none)) in
          let (reply, bad, gave, went, empty, next, any) = w.in_ok-end_line.ensures in
          rw (w.self-is, w.answerer-is, w.writer-is) (reply, went, finish-line _ so_far reply bad _ _ some gave any)
      | else-not-is_empty w ↦
          let none : c.args.self.line ≡ Some [] = c.is_empty.ensures.0 (search (rules, tests)) in
          rw (w.self-is, w.answerer-is, w.writer-is) ([], Appends-nil _, finish-empty _ so_far none)
    ]
