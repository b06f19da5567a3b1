-- What a turn finds is an engine of the processor's domain, and what its answer says of that domain.
use Rattle.std.proofs.Common.{◌≡◌, ◌≢◌, ℕ, ◌<◌, true, false, List, [], ◌∷◌, ◌++◌, Some, None, Ok, Err, inl, inr, refl, sym, ap, ◌∙◌, subst, append_assoc, arith}
use Rattle.std.specs.Prelude.{Option, IfSome, IfOk, MatchOption, Result, MatchResult}
use Rattle.onedom.specs.declared.event.Event.{Event}
use Rattle.onedom.specs.declared.event.Event.TheVariants.{Start}
use Rattle.onedom.specs.declared.event.Maker.TheVariants.{Engine as EngineMaker}
use Rattle.onedom.specs.Histories.{IsLegal, IsRunning, IsBeginning}
use Rattle.onedom.proofs.CallerLemmas.{beginning_refl, beginning_trans, legal_after_append, legal_beginning, beginning_append, one_period, starts_in_push, ended_in_push}
use Rattle.sections.specs.Glossary.{Reaches, EngineView, IsSameEngine}
use Rattle.sections.proofs.CallerLemmas.{busy_running}
use Rattle.scan.specs.declared.progress.Progress.{Progress}
use Rattle.scan.specs.declared.progress.Progress.TheVariants as answer
use Rattle.scan.specs.declared.refusals.AdvanceRefusal.{AdvanceRefusal}
use Rattle.scan.specs.declared.refusals.AdvanceRefusal.TheVariants as advance
use Rattle.scan.specs.declared.refusals.StartRefusal.{StartRefusal}
use Rattle.scan.specs.declared.refusals.StartRefusal.TheVariants as start
use Rattle.scan.specs.Glossary.{number_at_rest, leads_on, events_of, steps_for, Counts, IsWithin, IsOutOfPeriods, Stage, NeedsLoaded, AdvancesTo, AdvancesThrough, known_by, standing_of, at_work, IsOfStation, IsWithinLimit}
use Rattle.funnel.specs.Glossary.{FunnelView, LoadsRoot}
use Rattle.domain.specs.Glossary.{Engine, Working, DomainView, CpuView, IsEngineOf, IsOf, Lends, StepsIn, AdvancesIn, CarriesOnIn, IsRefused, StartsIn, IsNotStarted, IsDue, EndsOrWaits, HasCome, SaysOf, SaysAtLast, HasStarted, SaysWhy, SaysWhyNone}

-- What is due

step_due : (p : ℕ) (a : Progress) (before after : ℕ) → Counts p a before after → IsDue p a before after
step_due p answer.Idle before after h = let one = h.0 in (omega (arith, one), h.1)
step_due p (answer.Started n) before after h = let one = h.0 in (omega (arith, one), h.1)
step_due p (answer.Flipped i) before after h = let one = h.0 in (omega (arith, one), h.1)
step_due p (answer.Ended n) before after h = let one = h.0 in (omega (arith, one), h.1)
step_due p (answer.Waiting i) before after h = let one = h.0 in (omega (arith, one), h.1)
step_due p answer.Step before after h = h

answer_due : (p : ℕ) (a : Progress) (before after : ℕ) → a ≢ answer.Step → before < steps_for p a → after ≡ 0 → IsDue p a before after
answer_due p answer.Idle before after is few done = (few, done)
answer_due p (answer.Started n) before after is few done = (few, done)
answer_due p (answer.Flipped i) before after is few done = (few, done)
answer_due p (answer.Ended n) before after is few done = (few, done)
answer_due p (answer.Waiting i) before after is few done = (few, done)
answer_due p answer.Step before after is few done = absurd (is refl)

-- Several answers

-- behind a start or a flip a period runs
runs_behind : (v w : Working) (a : Progress) → AdvancesTo LoadsRoot v a w → leads_on a ≡ true → IsRunning w.seat.seen
runs_behind v w answer.Idle h on = absurd cc
runs_behind v w (answer.Started n) h on =
    let front : List Event = v.seat.seen ++ h.goes_on.others in
    let one : List Event = Start EngineMaker ∷ [] in
    let whole : w.seat.seen ≡ front ++ one = h.answered.events ∙ sym (append_assoc v.seat.seen h.goes_on.others one) in
    let legal : IsLegal (front ++ one) = subst IsLegal whole h.answered.legal in
    let fewer = (one_period front (legal_beginning (beginning_append front one) legal)).0 in
    let started = starts_in_push front (Start EngineMaker) in
    let ended = ended_in_push front (Start EngineMaker) in
    subst IsRunning (sym whole) (omega (arith, fewer, started, ended))
runs_behind v w (answer.Flipped i) h on = h.answered.says.running
runs_behind v w (answer.Ended n) h on = absurd cc
runs_behind v w (answer.Waiting i) h on = absurd cc
runs_behind v w answer.Step h on = absurd cc

-- and where one runs with nothing half done, what comes next is its end or that it is held up, or leads on
ends_or_waits : (v w : Working) (a : Progress) → AdvancesTo LoadsRoot v a w → IsRunning v.seat.seen → Reaches v.seat.changes v.seat.seen → v.so_far ≡ 0 → leads_on a ≡ false → EndsOrWaits a
ends_or_waits v w answer.Idle h runs reaches none off =
    let started = reaches.started in let ended = reaches.ended in let changes = h.answered.changes in let done = h.done in
    absurd (h.answered.says.0 (busy_running w.seat.changes w.seat.seen (omega (arith, runs, started, ended, none, changes, done)) h.answered.agree))
ends_or_waits v w (answer.Started n) h runs reaches none off = absurd cc
ends_or_waits v w (answer.Flipped i) h runs reaches none off = absurd cc
ends_or_waits v w (answer.Ended n) h runs reaches none off = tt
ends_or_waits v w (answer.Waiting i) h runs reaches none off = tt
ends_or_waits v w answer.Step h runs reaches none off = absurd (h.advances.answer refl)

grown : (v w : Working) (a : Progress) → AdvancesTo LoadsRoot v a w → IsBeginning v.seat.seen w.seat.seen
grown v w a h = record { rest = h.goes_on.others ++ events_of a; whole = h.answered.events }

-- the last answer of a turn, from where it began
record EndsFrom (v : Working) (a : Progress) (w : Working) : Type 0 where
  pub begun : Working
  pub since : IsBeginning v.seat.seen begun.seat.seen
  pub runs : IsRunning begun.seat.seen
  pub whole : begun.so_far ≡ 0
  pub advances : AdvancesTo LoadsRoot begun a w
  pub last : EndsOrWaits a

ends_from : (ss : List (Stage FunnelView)) (v w : Working) (a : Progress) → AdvancesThrough LoadsRoot ss v a w → IsRunning v.seat.seen → Reaches v.seat.changes v.seat.seen → v.so_far ≡ 0 → leads_on a ≡ false → EndsFrom v a w
ends_from [] v w a h runs reaches none off = record { begun = v; since = beginning_refl v.seat.seen; runs = runs; whole = none; advances = h; last = ends_or_waits v w a h runs reaches none off }
ends_from (s ∷ ss) v w a h runs reaches none off =
    let rest = ends_from ss s.engine w a h.2 (runs_behind v s.engine s.answer h.0 h.1) h.0.answered.agree h.0.done off in
    record { begun = rest.begun; since = beginning_trans (grown v s.engine s.answer h.0) rest.since; runs = rest.runs; whole = rest.whole; advances = rest.advances; last = rest.last }

module _ {J : Type 0} (d : DomainView) (c : CpuView J) (is : IsOf d c) where
  -- one that is like the engine that lay there first is of the domain too
  pub engine_here : (v : Engine) → IsOfStation c.turn v → IsEngineOf d v
  engine_here v size = go c.turn.first is.first size
    where
      go : (first : Option Engine) → MatchOption first ⊥ (IsEngineOf d) → IfSome first (λ e. IsSameEngine e.seat v.seat) → IsEngineOf d v
      go None here like = absurd here
      go (Some e) here like = (like.0 ∙ here.0, like.1 ∙ here.1, like.2 ∙ here.2)

  -- the limit of the engine that lay there first is the domain's
  pub within : (r : Result Progress AdvanceRefusal) → IfOk r (λ a. IsWithinLimit c.turn a) → IfOk r (λ a. IsWithin d.periods a)
  within (Err refusal) h = h
  within (Ok a) h = go c.turn.first is.first h
    where
      go : (first : Option Engine) → MatchOption first ⊥ (IsEngineOf d) → IfSome first (λ e. IsWithin e.seat.periods a) → IsWithin d.periods a
      go None here most = absurd here
      go (Some e) here most = subst (λ p. IsWithin p a) here.2 most

  -- how far the engine had come with its work is how far the domain had
  module _ {work : Working → Working → Type 0} (c' : CpuView J) (h : Lends work c c') where
    has_come : IsSameEngine h.found.seat h.worked.seat → IsBeginning h.found.seat.seen h.worked.seat.seen → HasCome d h.found (standing_of h.worked) c c'
    has_come same on =
        let here = engine_here h.found h.size in record {
          left = h.left;
          turn = h.turn;
          processors = same.1 ∙ here.1;
          periods = same.2 ∙ here.2;
          half = sym (ap (λ (v : Engine). v.so_far) h.rest);
          since = on;
          upto = subst (λ l. IsBeginning h.worked.seat.seen l) (sym (h.ties.accepts.seen ∙ ap (λ (e : EngineView). e.seen) h.ties.notes)) h.ties.covers.step.since;
          changes = sym (h.ties.accepts.changes ∙ (ap (λ (e : EngineView). e.changes) h.ties.notes ∙ h.ties.covers.step.changes_are));
          agree = h.ties.accepts.history.reaches;
          covers = h.ties.since;
        }

    -- it did nothing, but for loads of the need
    has_stayed : (needs : FunnelView) → h.worked ≡ at_work needs h.found → HasCome d h.found (known_by h.found) c c'
    has_stayed needs same =
        let there = subst (λ (v : Working). IsSameEngine h.found.seat v.seat × IsBeginning h.found.seat.seen v.seat.seen) (sym same) ((refl, refl, refl), beginning_refl h.found.seat.seen) in
        subst (λ (v : Working). HasCome d h.found (standing_of v) c c') same (has_come there.0 there.1)

    -- the need was loaded at the processor's seat
    abbrev loaded : (n : NeedsLoaded LoadsRoot (at_work c.needs h.found) h.worked) → NeedsLoaded LoadsRoot (at_work c.needs h.found) (at_work c'.needs h.found)
    loaded n = record {
      count = n.count;
      need = n.need;
      at_rest = λ resting nothing. let one = n.at_rest resting nothing in (one.0, subst (λ (z : FunnelView). LoadsRoot c.needs n.need z) (sym h.needs) one.1);
      busy = λ some. let none = n.busy some in (none.0, h.needs ∙ none.1, none.2);
    }

    due_here : (a : Progress) → IsDue h.found.seat.processors a h.found.so_far h.worked.so_far → IsDue d.processors a h.found.so_far h.worked.so_far
    due_here a due = subst (λ p. IsDue p a h.found.so_far h.worked.so_far) (engine_here h.found h.size).1 due

    one_answer : (a : Progress) → AdvancesTo LoadsRoot (at_work c.needs h.found) a h.worked → SaysOf d a c c'
    one_answer a t = record {
      found = h.found;
      at = standing_of h.worked;
      here = has_come t.goes_on.same (grown _ h.worked a t);
      others = t.goes_on.others;
      needs = loaded t.needs;
      due = due_here a (answer_due _ a _ _ t.advances.answer t.due t.done);
      answered = t.answered;
    }

    last_answer : (a : Progress) → leads_on a ≡ false → IsSameEngine h.found.seat h.worked.seat → (ss : List (Stage FunnelView)) → AdvancesThrough LoadsRoot ss (at_work c.needs h.found) a h.worked → SaysAtLast d a c c'
    last_answer a off same [] t = inl (off, one_answer a t)
    last_answer a off same (s ∷ ss) t =
        let first = t.0 in
        let rest = ends_from ss s.engine h.worked a t.2 (runs_behind _ s.engine s.answer first t.1) first.answered.agree first.done off in
        let since = beginning_trans (grown _ s.engine s.answer first) rest.since in
        inr record {
          found = h.found;
          before = standing_of rest.begun;
          at = standing_of h.worked;
          here = has_come same (beginning_trans since (grown rest.begun h.worked a rest.advances));
          since = since;
          runs = rest.runs;
          whole = rest.whole;
          others = rest.advances.goes_on.others;
          need = rest.advances.needs.need;
          last = rest.last;
          answered = rest.advances.answered;
        }

  -- Answers

  module _ (c' : CpuView J) where
    -- where a turn found that no more periods may start, as many have ended as may in this domain
    why : (refusal : AdvanceRefusal) → IsRefused c refusal c' → SaysWhy d refusal c c'
    why advance.Busy h = h
    why advance.Exhausted h = record {
      out = record { found = h.found; here = has_stayed c' h h.worked.needs h.works.rest; out = subst (λ (v : Working). IsOutOfPeriods (standing_of v)) h.works.rest h.works.out };
      need = h.works.need;
      load = subst (λ (z : FunnelView). LoadsRoot c.needs h.works.need z) (sym h.needs) h.works.load;
      asked = subst (λ (z : EngineView). number_at_rest z.seen < h.works.need) h.works.seat h.works.asked;
    }

    pub says_stepped : (r : Result Progress AdvanceRefusal) → MatchResult r (λ a. StepsIn c a c') (λ refusal. IsRefused c refusal c') → MatchResult r (λ a. SaysOf d a c c') (λ refusal. SaysWhy d refusal c c')
    says_stepped (Ok a) h = record {
      found = h.found;
      at = standing_of h.worked;
      here = has_come c' h h.works.goes_on.same record { rest = h.works.goes_on.others ++ events_of a; whole = h.works.step.answered.events };
      others = h.works.goes_on.others;
      needs = loaded c' h h.works.needs;
      due = due_here c' h a (step_due _ a _ _ h.works.step.counts);
      answered = h.works.step.answered;
    }
    says_stepped (Err refusal) h = why refusal h

    pub says_advanced : (r : Result Progress AdvanceRefusal) → MatchResult r (λ a. AdvancesIn c a c') (λ refusal. IsRefused c refusal c') → MatchResult r (λ a. SaysOf d a c c') (λ refusal. SaysWhy d refusal c c')
    says_advanced (Ok a) h = one_answer c' h a h.works
    says_advanced (Err refusal) h = why refusal h

    pub says_carried : (r : Result Progress AdvanceRefusal) → MatchResult r (λ a. CarriesOnIn c a c') (λ refusal. IsRefused c refusal c') → MatchResult r (λ a. SaysAtLast d a c c') (λ refusal. SaysWhy d refusal c c')
    says_carried (Ok a) h = last_answer c' h a h.works.stops h.works.same h.works.stages h.works.through
    says_carried (Err refusal) h = why refusal h

    pub says_started : (r : Result ℕ StartRefusal) → MatchResult r (λ n. StartsIn c n c') (λ refusal. IsNotStarted c refusal c') → MatchResult r (λ n. HasStarted d n c c') (λ refusal. SaysWhyNone d refusal c c')
    says_started (Ok n) h = record {
      found = h.found;
      at = standing_of h.worked;
      here = has_come c' h h.works.0.event.same record { rest = h.works.0.others ++ Start EngineMaker ∷ []; whole = h.works.0.starts.events };
      others = h.works.0.others;
      starts = h.works.0.starts;
    }
    says_started (Err start.Busy) h = h
    says_started (Err start.Running) h = record { found = h.found; here = has_stayed c' h c.needs h.works.1; runs = h.works.0 }
    says_started (Err start.Exhausted) h = record { found = h.found; here = has_stayed c' h c.needs h.works.1; out = h.works.0 }
