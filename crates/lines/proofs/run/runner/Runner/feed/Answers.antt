use Rattle.std.proofs.Common.{[], ◌++◌}
use Rattle.std.proofs.KnownBytes.{Appends-nil, Appends-trans}
use Rattle.std.proofs.lemmas.Result.{err_from_is_err_and}
use Rattle.lines.proofs.SoFar.{fed-all, fed-byte, fed-fails, fed-line, fed-none}
use Rattle.lines.proofs.run.runner.Runner.feed.Goals.{then-byte-eq10+in_ok-end_line, else-byte-eq10}
use Rattle.lines.proofs.run.runner.Runner.feed.Goals as goal

pub loop-byte-init : goal.loop-byte-init
loop-byte-init g c = λ start taken given so_far. ([], Appends-nil _, fed-none _ taken given so_far)

pub returns-in_err-end_line : goal.returns-in_err-end_line
returns-in_err-end_line g c = λ start taken given so_far.
    let (more, wrote, far) = c.loop-byte.invariant start taken given so_far in
    let (all, went, ends) = fed-fails _ taken given c.args.bytes.now c.loop-byte.byte-index c.loop-byte-test.true more far _ _ _ _ _ c.if-byte-eq10.true wrote c.in_err-end_line.ensures in
    let exit = err_from_is_err_and c.from_residual.result c.from_residual.ensures.1 in
    (all, went, rw (exit.1, exit.2) ends)

pub loop-byte-preserved : goal.loop-byte-preserved
loop-byte-preserved g c = λ start taken given so_far.
    let (more, wrote, far) = c.loop-byte.invariant start taken given so_far in
    elim c.if-byte-eq10.branch [
      | then-byte-eq10+in_ok-end_line w ↦
          let (reply, bad, gave, went, empty, next, any) = w.in_ok-end_line.ensures in
          rw (w.self-is, w.answerer-is, w.writer-is) (
            more ++ reply,
            Appends-trans _ _ _ more reply wrote went,
            fed-line _ taken given c.args.bytes.now c.loop-byte.byte-index c.loop-byte-test.true more far reply bad _ _ _ _ w.if-byte-eq10.true gave empty next any,
          )
      | else-byte-eq10 w ↦
          rw (w.self-is, w.answerer-is, w.writer-is) (
            more,
            wrote,
            fed-byte _ taken given c.args.bytes.now c.loop-byte.byte-index c.loop-byte-test.true more far _ w.if-byte-eq10.false w.push.ensures,
          )
    ]

pub returns : goal.returns
returns g c = λ start taken given so_far.
    let (more, wrote, far) = c.loop-byte.invariant start taken given so_far in
    (more, wrote, fed-all _ taken given c.args.bytes.now c.loop-byte.byte-index c.loop-byte-test.false more far)
