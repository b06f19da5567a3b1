-- From what a step tells the engine's seat to what a caller of it sees.
use Rattle.std.proofs.Common.{◌≡◌, ℕ, ◌+◌, List, [], ◌∷◌, ◌++◌, refl, ap, ◌∙◌, subst, append_assoc, arith}
use Rattle.atomic_table.specs.Seated.{TableId}
use Rattle.onedom.specs.declared.event.Maker.TheVariants.{Engine}
use Rattle.onedom.specs.declared.event.Event.{Event}
use Rattle.onedom.specs.declared.event.Event.TheVariants.{Start, Finish}
use Rattle.onedom.specs.Histories.{is_start, begins_of, ends_of, IsOpen, WasOpenAtStart, starts_in, ended_in, IsLegal, IsBeginning}
use Rattle.onedom.proofs.CallerLemmas.{count_append, begins_of_push, ends_of_push, starts_in_push, ended_in_push, starts_grow, legal_beginning, beginning_append, one_period}
use Rattle.sections.specs.Glossary.{Step, View, Sees, Adds, EngineView, IsBehindFlip, Reaches, TakesStep, OpenAtStartAreClosed, steps_of}
use Rattle.sections.specs.declared.view.Role.TheVariants.{Driver}
use Rattle.sections.specs.Seats as seats
use Rattle.sections.specs.EngineCalls.{Covers}
use Rattle.sections.proofs.Deeds.{engine_makes}
use Rattle.sections.proofs.CpuViews.{engine_history_of, last_may_follow}

abbrev pub engine_as : TableId → ℕ → ℕ → View → EngineView
engine_as d n periods v = record { domain = d; processors = n; periods = periods; seen = v.seen; changes = v.changes; texts = v.texts; shown = v.shown; mine = v.mine; steps = steps_of Engine v.done }

pub takes_step : (l : Step) (changes : ℕ) (d d' : TableId) (n periods k : ℕ) (v w : View) → d' ≡ d → v.processors ≡ n → v.role ≡ Driver k → w.changes ≡ changes → Sees l v w → TakesStep l changes (engine_as d n periods v) (engine_as d' n periods w)
takes_step l changes d d' n periods k v w same sized is known h = record {
  same = (same, refl, refl);
  mine = h.mine;
  steps = h.steps Engine (engine_makes k v.role is);
  changes_are = known;
  shown = h.shown;
  since = h.since;
  texts = h.texts.since;
  history = engine_history_of n k w (h.processors ∙ sized) (h.role ∙ is) h.sound;
}

-- a load that covers what another has seen
pub covers_engine : (d d' : TableId) (n periods k : ℕ) (v o w : View) → d' ≡ d → v.processors ≡ n → v.role ≡ Driver k → seats.Covers v o w → Covers (engine_as d n periods v) o.seen o.changes (engine_as d' n periods w)
covers_engine d d' n periods k v o w same sized is h = record {
  value = h.value;
  current = h.current;
  step = record {
    same = (same, refl, refl);
    mine = h.mine;
    steps = h.steps Engine (engine_makes k v.role is);
    changes_are = h.driven k is;
    shown = h.shown;
    since = h.since;
    texts = h.texts;
    history = engine_history_of n k w (h.processors ∙ sized) (h.role ∙ is) h.sound;
  };
  covers = h.covers;
  not_before = h.not_before;
}

-- The end of a period

-- a section that was open at the start was so after a longer history too, in which no period started
was_open_later : (seen later : List Event) (s : ℕ) → IsBeginning seen later → starts_in seen ≡ starts_in later → WasOpenAtStart seen s → WasOpenAtStart later s
was_open_later seen later s since same was = record {
  before = was.before;
  started = record {
    by = was.started.by;
    since = was.started.since ++ since.rest;
    whole = since.whole ∙ (ap (λ l. l ++ since.rest) was.started.whole ∙ append_assoc was.before (Start was.started.by ∷ was.started.since) since.rest);
    last = let last = was.started.last in let a = count_append is_start was.started.since since.rest in let b : starts_in later ≡ starts_in (seen ++ since.rest) = ap starts_in since.whole in let c = count_append is_start seen since.rest in omega (arith, last, a, b, c, same);
  };
  was_open = was.was_open;
}

-- at the end of a period nothing is open that was open at its start
pub all_closed : (v w : View) → IsBehindFlip v.changes → w.changes ≡ v.changes + 1 → Reaches v.changes v.seen → Adds v (Finish Engine) w → OpenAtStartAreClosed v.seen w.seen
all_closed v w behind next reached a s was still =
    let legal : IsLegal (a.before ++ Finish Engine ∷ []) = subst IsLegal a.seen a.sound.legal in
    let follows = last_may_follow a.before (Finish Engine) legal in
    let began = reached.started in
    let before_starts : starts_in w.seen ≡ starts_in a.before + 0 = ap starts_in a.seen ∙ starts_in_push a.before (Finish Engine) in
    let more = starts_grow a.since in
    let one = one_period a.before (legal_beginning (beginning_append a.before (Finish Engine ∷ [])) legal) in
    let running = follows.0 in
    let ended = ended_in_push a.before (Finish Engine) in
    let ends : ended_in w.seen ≡ ended_in (a.before ++ Finish Engine ∷ []) = ap ended_in a.seen in
    let reaches = a.sound.reaches in
    let r1 = reaches.started in
    let r2 = reaches.ended in
    follows.1 s (was_open_later v.seen a.before s a.since (omega (arith, began, before_starts, more, r1, r2, ended, ends, one.0, one.1, running, behind, next)) was) (reopen s a.before w.seen a.seen still)
  where
    reopen : (s : ℕ) (before after : List Event) → after ≡ before ++ Finish Engine ∷ [] → IsOpen after s → IsOpen before s
    reopen s before after is o = let x : begins_of s after ≡ begins_of s before + 0 = ap (begins_of s) is ∙ begins_of_push s before (Finish Engine) in let y : ends_of s after ≡ ends_of s before + 0 = ap (ends_of s) is ∙ ends_of_push s before (Finish Engine) in
        let some = o.0 in let none = o.1 in (omega (arith, x, some), omega (arith, y, none))
