-- All parts are written that were made of the whole script and its run.
use Rattle.std.proofs.Common.{rules, ◌≡◌}
use Rattle.std.specs.Io.KnownBytes.{Consumes, IsAtEnd}
use Rattle.std.proofs.lemmas.Result.{err_from_is_err_and}
use Rattle.srcuctl.specs.Handlers.{Gives}
use Rattle.srcuctl.specs.Programs.{Runs}
use Rattle.srcuctl.proofs.Parts.{or_more}
use Rattle.srcuctl.proofs.showing.show.Goals as goal

pub returns : goal.returns
returns g c =
    let whole : Consumes (g.R.Read.remaining c.args.reader.now) (g.R.Read.remaining c.read.new.reader) c.deref-2.result.now × IsAtEnd (g.R.Read.remaining c.read.new.reader) = search rules in
    let run : Runs Gives c.args.limits c.deref-2.result.now c.in_ok-recorded.recorded.replies.items c.in_ok-recorded.recorded.outcome.faulty = search rules in
    (_, _, c.in_ok-write_parts.ensures, run, whole.0, whole.1)

pub returns-in_err-write_parts : goal.returns-in_err-write_parts
returns-in_err-write_parts g c =
    let run : Runs Gives c.args.limits c.deref-2.result.now c.in_ok-recorded.recorded.replies.items c.in_ok-recorded.recorded.outcome.faulty = search rules in
    let given = err_from_is_err_and c.from_residual-in_err-write_parts.result c.from_residual-in_err-write_parts.ensures.1 in
    let same : given.0 ≡ c.in_err-write_parts.field-0.0 = search rules in
    rw (given.1, same) (λ none. or_more (λ some. (_, _, some, run)) (c.in_err-write_parts.ensures none))
