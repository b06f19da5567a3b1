-- Each part that is read is fed.
use Rattle.std.proofs.Common.{◌<◌, [], ◌++◌, length, take, arith}
use Rattle.std.proofs.KnownBytes.{Appends-nil, Appends-trans, Consumes-kept, Consumes-nil, Consumes-trans}
use Rattle.std.proofs.lemmas.Result.{err_from_is_err_and}
use Rattle.lines.proofs.Reading.{Consumes-none, MatchResult-and}
use Rattle.lines.proofs.SoFar.{EndsEarly-read, IsSoFar-begin}
use Rattle.lines.proofs.run.run_lines.Goals as goal

pub loop-init : goal.loop-init
loop-init g c =
    let ready = c.new-runner.ensures in
    ([], [], Consumes-nil _, Appends-nil _, IsSoFar-begin _ _ _ _ _ ready.line ready.number ready.faulty)

pub returns-in-Ok-eq0 : goal.returns-in-Ok-eq0
returns-in-Ok-eq0 g c =
    let (taken, given, read, wrote, far) = c.loop.invariant in
    let (more, went, ends) = c.finish.ensures _ taken given far in
    let bytes = c.in-Ok-eq0.ensures.bytes in
    let room : 0 < length c.read.new.buf = omega arith in (
      taken,
      given ++ more,
      Consumes-none _ _ _ taken c.read.new.buf c.in-Ok-eq0.field-0 c.in-Ok-eq0.field-0-test read bytes.0,
      Appends-trans _ _ _ given more wrote went,
      MatchResult-and c.finish.result _ _ _ ends (bytes.1 c.in-Ok-eq0.field-0-test room),
    )

pub loop-preserved : goal.loop-preserved
loop-preserved g c =
    let (taken, given, read, wrote, far) = c.loop.invariant in
    let (more, went, goes) = c.in_ok-feed-in-Ok.ensures _ taken given far in
    let bytes = c.in-Ok.ensures.bytes in
    (taken ++ take c.in-Ok.count c.read.new.buf, given ++ more, Consumes-trans _ _ _ taken _ read bytes.0, Appends-trans _ _ _ given more wrote went, goes)

pub returns-in_err-feed-in-Ok : goal.returns-in_err-feed-in-Ok
returns-in_err-feed-in-Ok g c =
    let (taken, given, read, wrote, far) = c.loop.invariant in
    let (more, went, ends) = c.in_err-feed-in-Ok.ensures _ taken given far in
    let bytes = c.in-Ok.ensures.bytes in
    let exit = err_from_is_err_and c.from_residual.result c.from_residual.ensures.1 in (
      taken ++ take c.in-Ok.count c.read.new.buf,
      given ++ more,
      Consumes-trans _ _ _ taken _ read bytes.0,
      Appends-trans _ _ _ given more wrote went,
      rw (exit.1, exit.2) ends,
    )

pub returns-in-Err : goal.returns-in-Err
returns-in-Err g c =
    let (taken, given, read, wrote, far) = c.loop.invariant in
    (taken, given, Consumes-kept _ _ _ taken read c.in-Err.ensures.bytes, wrote, EndsEarly-read _ far)
