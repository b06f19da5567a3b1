-- A run over bytes that are there as a whole.
use Rattle.std.proofs.Common.{◌≡◌, ℕ, Bool, List, [], ◌++◌, Result, Ok, Err, MatchResult, sym, ◌∙◌, ap, subst, append-nil}
use Rattle.sections.specs.declared.limits.Limits.{Limits}
use Rattle.lines.specs.declared.error.RunError.{RunError}
use Rattle.lines.specs.declared.error.RunError.TheVariants as error
use Rattle.srcuctl.specs.declared.recording.Recorded.{Recorded}
use Rattle.srcuctl.specs.Programs.{Runs}
use Rattle.srcuctl.proofs.Telling.{runs_as_told}

-- all of the script was taken, and the replies are what was given
pub runs_whole : (gives : ℕ → ℕ → ℕ → Type 0) (limits : Limits) (script left taken before given replies : List ℕ) (faulty : Bool)
    → script ≡ taken ++ left → left ≡ [] → replies ≡ before ++ given → before ≡ [] → Runs gives limits taken given faulty → Runs gives limits script replies faulty
runs_whole gives limits script left taken before given replies faulty whole none wrote empty run =
    let all : script ≡ taken = whole ∙ ap (λ l. taken ++ l) none ∙ append-nil taken in
    let same : replies ≡ given = wrote ∙ ap (λ l. l ++ given) empty in
    subst (λ (s : List ℕ). Runs gives limits s replies faulty) (sym all) (subst (λ (r : List ℕ). Runs gives limits taken r faulty) (sym same) run)

-- handlers give what more is known of
pub recorded_as_told : (may told : ℕ → ℕ → ℕ → Type 0) (limits : Limits) (script : List ℕ) (result : Result Recorded RunError)
    → ((value id result : ℕ) → may value id result → told value id result)
    → MatchResult result (λ r. Runs may limits script r.replies.items r.outcome.faulty) (λ e. e ≡ error.Memory)
    → MatchResult result (λ r. Runs told limits script r.replies.items r.outcome.faulty) (λ e. e ≡ error.Memory)
recorded_as_told may told limits script (Ok r) only run = runs_as_told may told only limits script r.replies.items r.outcome.faulty run
recorded_as_told may told limits script (Err e) only memory = memory
