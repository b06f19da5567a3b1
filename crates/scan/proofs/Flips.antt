-- What is known after the steps between two scans.
use Rattle.std.proofs.Common.{◌≡◌, ℕ, ◌+◌, ◌*◌, ◌%◌, ◌<◌, ◌≤◌, ◌≢◌, inl, inr, ⊎_elim, Bool, cond, [], ◌∷◌, refl, sym, ap, ◌∙◌, subst, eq-eqb, ne_eqb, ◌++◌, append-nil, append_assoc, arith}
use mathlib.Core.Logic.{dite}
use native.Mathlib.Decide.{ℕ_discrete}
use Rattle.sseq.specs.declared.index.Index.{Index}
use Rattle.sseq.specs.declared.index.Index.TheVariants.{Zero, One}
use Rattle.sseq.specs.Indexes.{low_bit, other_index}
use Rattle.sseq.specs.declared.number.Phase.{Phase}
use Rattle.sseq.specs.declared.number.Phase.TheVariants.{Idle, Scan1, Scan2}
use Rattle.sseq.specs.Numbers.{state_bits}
use Rattle.onedom.specs.declared.event.Maker.TheVariants.{Engine}
use Rattle.onedom.specs.declared.event.Event.{Event}
use Rattle.onedom.specs.declared.event.Event.TheVariants.{Start, Finish}
use Rattle.onedom.specs.Histories.{starts_in, WasEmpty, IsBeginning}
use Rattle.onedom.proofs.CallerLemmas.{beginning_trans, beginning_append, empty_grows}
use Rattle.sections.specs.declared.view.Step.TheVariants.{AddIndex, AddNumber}
use Rattle.sections.specs.Glossary.{index_word, number_word, IsIdle, IsBeforeFlip, IsBehindFlip, EngineView, IsSeenByEngine, AddsEngineEvent, Flips, MovesOn}
use Rattle.sections.proofs.CallerLemmas.{busy_running}
use Rattle.scan.specs.declared.place.Place.TheVariants as place
use Rattle.scan.specs.declared.progress.Progress.TheVariants as answer
use Rattle.scan.specs.Glossary.{current, not_current, number_at_rest, seen_at_load, IsScanning, HasPassed, IsHalfFlipped, IsAt, Moves}
use Rattle.scan.proofs.Scans.{first_unlocks, seen_still, others_before}

-- Indexes

abbrev low : Bool → Index
low even = cond even Zero One

pub flipped_bit : (n : ℕ) → low_bit (n + 1) ≡ other_index (low_bit n)
flipped_bit n = dite (ℕ_discrete (n % 2) 0)
    (λ even. let a : low_bit n ≡ Zero = ap low (eq-eqb (n % 2) 0 even) in let b : low_bit (n + 1) ≡ One = ap low (ne_eqb ((n + 1) % 2) 0 (λ h. omega (arith, even, h))) in b ∙ sym (ap other_index a))
    (λ odd. let a : low_bit n ≡ One = ap low (ne_eqb (n % 2) 0 odd) in let b : low_bit (n + 1) ≡ Zero = ap low (eq-eqb ((n + 1) % 2) 0 (omega (arith, odd))) in b ∙ sym (ap other_index a))

pub either_index : (P : Index → Type 0) (i : Index) → P i → P (other_index i) → (j : Index) → P j
either_index P Zero a b Zero = a
either_index P Zero a b One = b
either_index P One a b Zero = b
either_index P One a b One = a

-- The moments at which the indexes were empty last on

module _ (e f : EngineView) (seen : IsSeenByEngine e) (now : IsSeenByEngine f) (since : IsBeginning e.seen f.seen) (changes : f.changes ≡ e.changes + 1) where
  same_starts : 0 < e.changes % 4 → starts_in e.seen ≡ starts_in f.seen
  same_starts busy = let a = seen.reaches.started in let b = now.reaches.started in omega (arith, a, b, changes, busy)

  empty_still : (i : Index) → 0 < e.changes % 4 → WasEmpty i e.seen → WasEmpty i f.seen
  empty_still i busy empty = empty_grows i since (same_starts busy) empty

-- A step that is no event

pub flipped_moves : (e f : EngineView) (i : Index) → IsSeenByEngine e → 1 ≤ e.processors → HasPassed e → IsBeforeFlip e.changes → Flips e f → i ≡ low_bit (index_word f.changes) → Moves e place.Passed f (place.Flipped i) answer.Step
flipped_moves e f i seen some here before flips is =
    let changes = flips.changes_are in
    let same = flips.same.1 in
    let word : index_word f.changes ≡ index_word e.changes + 1 = omega (arith, changes, before) in
    let new : i ≡ not_current e.changes = is ∙ (ap low_bit word ∙ flipped_bit (index_word e.changes)) in record {
      same = flips.same;
      history = flips.history;
      events = flips.mine ∙ sym (append-nil e.mine);
      made = AddIndex (index_word f.changes) ∷ [];
      steps = flips.steps;
      one = refl;
      in_order = inr (AddIndex (index_word f.changes), refl, refl);
      others = flips.since.rest;
      answered = record {
        same = (flips.same.1, flips.same.2);
        events = others_before e f answer.Step flips.since refl;
        legal = flips.history.legal;
        agree = flips.history.reaches;
        changes = omega (arith, changes, same);
        says = λ _. empty_still e f seen flips.history flips.since changes (not_current e.changes) (omega (arith, before)) here.empty;
      };
      shows = tt;
      counts = omega (arith, same);
      place_is = record {
        flipping = omega (arith, changes, before);
        index = is;
        empty = subst (λ j. WasEmpty j f.seen) (sym new) (empty_still e f seen flips.history flips.since changes (not_current e.changes) (omega (arith, before)) here.empty);
      };
      not_wanted = λ n h. cc;
      scan = λ _. record { before = λ _. (ap (λ l. seen_at_load (2 * f.processors) l) flips.steps ∙ (seen_still (2 * f.processors) e.steps (AddIndex (index_word f.changes) ∷ []) refl ∙ ap (λ n. seen_at_load (2 * n) e.steps) flips.same.1)); now = λ none. absurd (omega (arith, none, some)) };
    }

pub second_scan_moves : (e f : EngineView) (i : Index) → IsSeenByEngine e → 1 ≤ e.processors → IsHalfFlipped e i → MovesOn e f → Moves e (place.Flipped i) f (place.Unlocks 0 0) (answer.Flipped i)
second_scan_moves e f i seen some here moves =
    let changes = moves.changes_are in
    let flipping = here.flipping in
    let word : index_word f.changes ≡ index_word e.changes = omega (arith, changes, flipping) in
    let index : i ≡ current f.changes = here.index ∙ ap low_bit (sym word) in
    let empty = empty_still e f seen moves.history moves.since changes i (omega (arith, flipping)) here.empty in
    let ended = moves.history.reaches.ended in
    let same = moves.same.1 in record {
      same = moves.same;
      history = moves.history;
      events = moves.mine ∙ sym (append-nil e.mine);
      made = AddNumber (number_word f.changes) ∷ [];
      steps = moves.steps;
      one = refl;
      in_order = inr (AddNumber (number_word f.changes), refl, refl);
      others = moves.since.rest;
      answered = record {
        same = (moves.same.1, moves.same.2);
        events = others_before e f (answer.Flipped i) moves.since refl;
        legal = moves.history.legal;
        agree = moves.history.reaches;
        changes = omega (arith, changes);
        says = record {
          running = busy_running f.changes f.seen (omega (arith, changes, flipping)) moves.history.reaches;
          behind = omega (arith, changes, flipping);
          index = index ∙ ap low_bit (omega (arith, changes, flipping, ended));
          empty = empty;
        };
      };
      shows = record { before = e.steps; number = number_word f.changes; flip = moves.steps };
      counts = (omega arith, refl);
      place_is = first_unlocks f (record { running = inr (omega (arith, changes, flipping)); first_scan = λ _. subst (λ j. WasEmpty j f.seen) index empty }) (omega (arith, some, same));
      not_wanted = λ n h. cc;
      scan = λ so_far. absurd (omega (arith, so_far));
    }

-- Events

since_event : (e f : EngineView) (ev : Event) → AddsEngineEvent ev e f → IsBeginning e.seen f.seen
since_event e f ev a = subst (λ l. IsBeginning e.seen l) (sym a.seen) (beginning_trans a.since (beginning_append a.before (ev ∷ [])))

pub all_empty : (e : EngineView) → HasPassed e → IsBehindFlip e.changes → (i : Index) → WasEmpty i e.seen
all_empty e here behind = either_index (λ i. WasEmpty i e.seen) (current e.changes) (here.scanning.first_scan behind) here.empty

-- what was seen since: what others did, and then this event
pub others_first : (e f : EngineView) (ev : Event) (a : AddsEngineEvent ev e f) → f.seen ≡ e.seen ++ (a.since.rest ++ ev ∷ [])
others_first e f ev a = a.seen ∙ (ap (λ l. l ++ ev ∷ []) a.since.whole ∙ append_assoc e.seen a.since.rest (ev ∷ []))

pub ended_moves : (e f : EngineView) (n : ℕ) → IsSeenByEngine e → 1 ≤ e.processors → HasPassed e → IsBehindFlip e.changes → AddsEngineEvent (Finish Engine) e f → n ≡ number_word f.changes → Moves e place.Passed f place.Idle (answer.Ended n)
ended_moves e f n seen some here behind a is =
    let changes = a.changes_are in
    let ended = a.history.reaches.ended in
    let since = since_event e f (Finish Engine) a in record {
      same = a.same;
      history = a.history;
      events = a.mine;
      made = [];
      steps = a.steps ∙ sym (append-nil e.steps);
      one = refl;
      in_order = inl refl;
      others = a.since.rest;
      answered = record {
        same = (a.same.1, a.same.2);
        events = others_first e f (Finish Engine) a;
        legal = a.history.legal;
        agree = a.history.reaches;
        changes = omega (arith, changes);
        says = (omega (arith, is, ended, changes, behind), λ i. empty_still e f seen a.history since changes i (omega (arith, behind)) (all_empty e here behind i));
      };
      shows = tt;
      counts = (refl, refl);
      place_is = omega (arith, changes, behind);
      not_wanted = λ n h. cc;
      scan = λ so_far. absurd (omega (arith, so_far));
    }

pub number_at_start : (e f : EngineView) (n : ℕ) → IsIdle e.changes → AddsEngineEvent (Start Engine) e f → n ≡ number_word f.changes → n ≡ number_at_rest f.seen + 1
number_at_start e f n idle a is = let changes = a.changes_are in let ended = a.history.reaches.ended in omega (arith, is, ended, changes, idle)

pub in_first_scan : (e f : EngineView) → IsIdle e.changes → 1 ≤ e.processors → AddsEngineEvent (Start Engine) e f → IsAt f (place.Unlocks 0 0)
in_first_scan e f idle some a = let changes = a.changes_are in let same = a.same.1 in
    first_unlocks f (record { running = inl (omega (arith, changes, idle)); first_scan = λ behind. absurd (omega (arith, changes, idle, behind)) }) (omega (arith, some, same))

pub started_moves : (e f : EngineView) (need n : ℕ) → IsSeenByEngine e → 1 ≤ e.processors → IsAt e (place.Wanted need) → AddsEngineEvent (Start Engine) e f → n ≡ number_word f.changes → Moves e (place.Wanted need) f (place.Unlocks 0 0) (answer.Started n)
started_moves e f need n seen some at a is =
    let idle = at.0 in
    let room = at.1 in
    let below = at.2 in
    let periods = a.same.2 in
    let changes = a.changes_are in
    let now = a.history.reaches.ended in record {
      same = a.same;
      history = a.history;
      events = a.mine;
      made = [];
      steps = a.steps ∙ sym (append-nil e.steps);
      one = refl;
      in_order = inl refl;
      others = a.since.rest;
      answered = record {
        same = (a.same.1, a.same.2);
        events = others_first e f (Start Engine) a;
        legal = a.history.legal;
        agree = a.history.reaches;
        changes = omega (arith, changes, some);
        says = (number_at_start e f n idle a is, omega (arith, now, changes, idle, below), omega (arith, now, changes, idle, room, periods));
      };
      shows = tt;
      counts = (refl, refl);
      place_is = in_first_scan e f idle some a;
      not_wanted = λ n h. cc;
      scan = λ so_far. absurd (omega (arith, so_far));
    }

-- Which of the two scans

phase_two : (p : Phase) → state_bits p ≡ 2 → p ≡ Scan2
phase_two Idle h = absurd (omega arith)
phase_two Scan1 h = absurd (omega arith)
phase_two Scan2 h = refl

pub in_second_scan : (e : EngineView) (number : ℕ) → IsScanning e → number ≡ number_word e.changes → number % 4 ≡ 2 → IsBehindFlip e.changes
in_second_scan e number s is two = ⊎_elim (λ (h : IsBeforeFlip e.changes). absurd (omega (arith, is, two, h))) (λ (h : IsBehindFlip e.changes). h) s.running

pub in_other_scan : (e : EngineView) (number : ℕ) (p : Phase) → IsScanning e → number ≡ number_word e.changes → number % 4 ≡ state_bits p → p ≢ Scan2 → IsBeforeFlip e.changes
in_other_scan e number p s is bits other = ⊎_elim (λ (h : IsBeforeFlip e.changes). h) (λ (h : IsBehindFlip e.changes). absurd (other (phase_two p (omega (arith, is, bits, h))))) s.running
