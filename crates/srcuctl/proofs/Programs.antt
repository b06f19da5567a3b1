-- From a run of what answers lines to a run of the definitions.
use Rattle.std.proofs.Common.{◌≡◌, ℕ, ◌+◌, Bool, List, [], ◌∷◌, Option, length, ap, subst, Result, Ok, Err, MatchResult}
use Rattle.sections.specs.declared.limits.Limits.{Limits}
use Rattle.lines.specs.declared.error.Outcome.{Outcome}
use Rattle.lines.specs.declared.error.RunError.{RunError}
use Rattle.lines.specs.declared.error.RunError.TheVariants as error
use Rattle.lines.specs.Lines.{lines_of, text_of, whole_lines_of}
use Rattle.session.specs.States.{State, nothing_yet}
use Rattle.session.specs.Scripts.{LineGives}
use Rattle.lines.specs.Runs.{Answering, IsRun, BreaksOff, EndsEarly}
use Rattle.srcuctl.specs.Programs.{Runs, RunsInPart}

-- what answers lines has the state of a script, and what no line changes: the limits, and the handlers, which may give such results. Each line that it answers gives what the definitions say
module _ {S : Type 0} (answering : Answering S) (state : S → State) (Keeps : S → Type 0) (gives : ℕ → ℕ → ℕ → Type 0) (limits : Limits)
    (each : (s : S) (number : ℕ) (line : Option (List ℕ)) (reply : List ℕ) (faulty : Bool) (s' : S) → Keeps s → answering s number line reply faulty s' → LineGives gives limits (state s) number line reply faulty (state s') × Keeps s') where
  record IsRunOf (s : S) (number : ℕ) (lines : List (List ℕ)) (written : List ℕ) (faulty : Bool) (s' : S) : Type 0 where
    run : IsRun (LineGives gives limits) (state s) number lines written faulty (state s')
    keeps : Keeps s'

  run_of : (lines : List (List ℕ)) (s : S) (number : ℕ) (written : List ℕ) (faulty : Bool) (s' : S) → Keeps s → IsRun answering s number lines written faulty s' → IsRunOf s number lines written faulty s'
  run_of [] s number written faulty s' k (none, well, same) = record { run = (none, well, ap state same); keeps = rw same k }
  run_of (line ∷ lines) s number written faulty s' k (reply, replies, bad, others_bad, between, given, rest, whole, either) =
      let here = each s number (text_of line) reply bad between k given in
      let later = run_of lines between (number + 1) replies others_bad s' here.1 rest in record {
        run = (reply, replies, bad, others_bad, state between, here.0, later.run, whole, either);
        keeps = later.keeps;
      }

  breaks_off : (s : S) (lines : List (List ℕ)) → Keeps s → BreaksOff answering s lines → BreaksOff (LineGives gives limits) (state s) lines
  breaks_off s lines k b = let r = run_of b.first s 1 b.replies b.faulty b.state k b.run in record {
    first = b.first;
    line = b.line;
    others = b.others;
    in_order = b.in_order;
    replies = b.replies;
    faulty = b.faulty;
    state = state b.state;
    run = r.run;
  }

  runs_in_part : (s : S) (taken given : List ℕ) (why : RunError) (s' : S) → state s ≡ nothing_yet → Keeps s → EndsEarly answering s taken given why s' → RunsInPart gives limits taken given why
  unfolding breaks_off
  runs_in_part s taken given error.Read s' start k (faulty, run) =
      let r = run_of (whole_lines_of taken) s 1 given faulty s' k run in
      (state s', (faulty, subst (λ (d : State). IsRun (LineGives gives limits) d 1 (whole_lines_of taken) given faulty (state s')) start r.run))
  runs_in_part s taken given error.Write s' start k (ended, reply, faulty, count, gave, some, written) =
      let r = run_of ended.first s 1 ended.replies ended.faulty ended.state k ended.run in
      let b = breaks_off s (lines_of taken) k ended in
      let here = each ended.state (length ended.first + 1) (text_of ended.line) reply faulty s' r.keeps gave in
      (state s', subst (λ (d : State). EndsEarly (LineGives gives limits) d taken given error.Write (state s')) start (b, reply, faulty, count, here.0, some, written))
  runs_in_part s taken given error.Memory s' start k (ended, written) =
      let b = breaks_off s (lines_of taken) k ended in
      (state s', subst (λ (d : State). EndsEarly (LineGives gives limits) d taken given error.Memory (state s')) start (b, written))

  pub runs : (s : S) (taken given : List ℕ) (faulty : Bool) (s' : S) → state s ≡ nothing_yet → Keeps s → IsRun answering s 1 (lines_of taken) given faulty s' → Runs gives limits taken given faulty
  runs s taken given faulty s' start k run =
      let r = run_of (lines_of taken) s 1 given faulty s' k run in
      (state s', subst (λ (d : State). IsRun (LineGives gives limits) d 1 (lines_of taken) given faulty (state s')) start r.run)

  ends : (s : S) (taken given : List ℕ) (s' : S) (AtEnd : Type 0) (result : Result Outcome RunError) → state s ≡ nothing_yet → Keeps s
      → MatchResult result (λ o. IsRun answering s 1 (lines_of taken) given o.faulty s' × AtEnd) (λ e. EndsEarly answering s taken given e s')
      → MatchResult result (λ o. Runs gives limits taken given o.faulty × AtEnd) (λ e. RunsInPart gives limits taken given e)
  ends s taken given s' AtEnd (Ok o) start k (run, at_end) = (runs s taken given o.faulty s' start k run, at_end)
  ends s taken given s' AtEnd (Err e) start k early = runs_in_part s taken given e s' start k early

-- what is told of each line comes last, when it is known what answers
pub ended : {S : Type 0} (answering : Answering S) (state : S → State) (Keeps : S → Type 0) (gives : ℕ → ℕ → ℕ → Type 0) (limits : Limits) (s : S) (taken given : List ℕ) (s' : S) (AtEnd : Type 0) (result : Result Outcome RunError)
    → MatchResult result (λ o. IsRun answering s 1 (lines_of taken) given o.faulty s' × AtEnd) (λ e. EndsEarly answering s taken given e s')
    → state s ≡ nothing_yet → Keeps s
    → ((s : S) (number : ℕ) (line : Option (List ℕ)) (reply : List ℕ) (faulty : Bool) (s' : S) → Keeps s → answering s number line reply faulty s' → LineGives gives limits (state s) number line reply faulty (state s') × Keeps s')
    → MatchResult result (λ o. Runs gives limits taken given o.faulty × AtEnd) (λ e. RunsInPart gives limits taken given e)
ended answering state Keeps gives limits s taken given s' AtEnd result how start k each = ends answering state Keeps gives limits each s taken given s' AtEnd result start k how
