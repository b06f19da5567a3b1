use Rattle.std.proofs.Common.{◌≡◌, ℕ, ap, ◌∙◌, subst, MatchResult}
use Rattle.std.specs.Io.KnownBytes.{IsAtEnd}
use Rattle.std.specs.Prelude.{Some}
use Rattle.notify.specs.Calling.{GivesAt}
use Rattle.session.specs.Scripts.{LineGives}
use Rattle.srcuctl.specs.Programs.{Runs, RunsInPart}
use Rattle.srcuctl.proofs.Programs.{ended}
use Rattle.srcuctl.proofs.Whole.{runs_whole}
use Rattle.srcuctl.proofs.recording.record.Goals as goal

pub returns-in-Ok : goal.returns-in-Ok
returns-in-Ok g c =
    let may : ℕ → ℕ → ℕ → Type 0 = λ value id x. GivesAt (λ h y. (g.dyn-1.0.entry h.vtable).1.answers h.value 1 value y) c.args.handlers.now id x in
    let (taken, given, read, wrote, how) = c.run_lines-outcome.ensures in
    let all = ended
    (λ s number line reply faulty s'. LineGives (λ value id x. GivesAt (λ h y. (g.dyn-1.0.entry h.vtable).1.answers h.value 1 value y) s.handlers.now id x) s.session.limits s.session.state number line reply faulty s'.session.state × (s'.session.limits ≡ s.session.limits) × (s'.handlers ≡ s.handlers))
    (λ a. a.session.state) (λ a. (a.session.limits ≡ c.args.limits) × (a.handlers.now ≡ c.args.handlers.now))
    may c.args.limits
    _ taken given c.run_lines-outcome.new.answerer _ c.run_lines-outcome.result how (ap (λ z. z.state) c.new.ensures) (ap (λ z. z.limits) c.new.ensures, c.in-Some.ensures.cases.same)
    (λ s number line reply faulty s' k done. (rw (← k.0) (rw (← k.1) done.0), (done.1 ∙ k.0, ap (λ h. h.now) done.2 ∙ k.1))) in
    let (run, at_end) = subst (λ r. MatchResult r (λ o. Runs may c.args.limits taken given o.faulty × IsAtEnd (Some c.run_lines-outcome.new.reader.now)) (λ e. RunsInPart may c.args.limits taken given e)) c.in-Ok.is all in
    runs_whole may c.args.limits c.args.script.now _ taken _ given _ c.in-Ok.outcome.faulty read at_end wrote c.new-replies.ensures.items run
