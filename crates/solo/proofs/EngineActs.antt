-- What the calls of the engine do to the domain in one hand: nobody comes between its steps.
use Rattle.std.proofs.Common.{◌≡◌, ℕ, zero, suc, ◌+◌, ◌<◌, inl, inr, map, List, [], ◌∷◌, ◌++◌, length, get_or, set, refl, sym, ap, ◌∙◌, subst, append-nil, append_assoc, length-append, length-set, get_or-set_other, get_or-set_same, true≢false, arith}
use Rattle.solo.proofs.Words.{◌%◌, ◌⊎◌, Result, Ok, Err, IsErr, MatchResult, get_or_default, dite, ℕ_discrete, dec_lt, Processor, Engine, Event, Start, IsBeginning, IsRunning, IsLegal, made_by, starts_in, ended_in, Limits, EngineView, IsSameEngine, TiesEngine, put_cells, IsStart, IsCount}
use Rattle.solo.proofs.Words.{last_may_follow, start_trans, Raise, value, greatest, FunnelView, LoadsRoot, Progress, PeriodsExhausted, Standing, number_at_rest, events_of, Says as SaysOf, StepsThrough, known_by, standing_of, at_work, rested, with_seat, GetsOn, NeedsLoaded, StepsTo, AdvancesTo}
use Rattle.solo.proofs.Words.{FindsExhausted, StartsTo, TakesTurn, FindsBusy, AdvanceRefusal, StartRefusal, Working, DomainView, CpuView as DomainCpu, Lends, FindsBusyIn, StepsIn, AdvancesIn, FindsExhaustedIn, StartsIn, IsNotStarted, IsNotBusy, NoneIsBusy, IsToldAs, IsStartedAs, IsAllOf}
use Rattle.solo.proofs.Words.{EngineMeets, MeetsHere, SoloView, IsSameDomain, StepsOf, Steps, Advances, IsAskedTooMuch, Course, Works, View, Holds, AllHold, AskTogether, TurnTogether, IsWanted, HaveMet, queued_on, finished_on, lines_on, seen_as, seen_first, GoesOn, Adds, stays, goes_further}
use Rattle.solo.proofs.Words.{adds_none, nothing_done}
use Rattle.sections.specs.EngineCalls.{noted}
use Rattle.funnel.specs.Glossary.{IsBeginning as IsBeginningAtTree}
use Rattle.scan.specs.declared.progress.Progress.TheVariants as answer
use Rattle.scan.specs.declared.progress.NotStarted as scan
use Rattle.scan.specs.declared.progress.NotStarted.TheVariants as refusal_of
use Rattle.scan.specs.Standings as engine
use Rattle.scan.specs.Progress.{IsNoStart}
use Rattle.scan.specs.declared.refusals.AdvanceRefusal.TheVariants as advance
use Rattle.scan.specs.declared.refusals.StartRefusal.TheVariants as start
use Rattle.domain.specs.Glossary.{IsRefused}
use Rattle.domain.specs.Turns.{StartsNone as StartsNoneIn}
use Rattle.solo.specs.Calls.{Starts, StartsNone}
use Rattle.solo.proofs.NothingBetween.{made_by_append}
use Rattle.solo.proofs.Shelving.{shelf_stays}
use Rattle.solo.proofs.Needing.{squeezed, raised_here}
use Rattle.solo.proofs.Tallying.{KeepCalls, IsTallied, calls_stay, tallied}
use Rattle.solo.proofs.Settled.{HaveAsked, IsSettled, settled, asked_together}
use Rattle.solo.proofs.Turning.{turn_turned, never_busy}
use Rattle.solo.proofs.Hand.{first_seen, is_seen}

-- the engine made these events of its own, and put nothing
pub record MakesOwn (act : List Event) (v w : Working) : Type 0 where
  pub same : IsSameEngine v.seat w.seat
  pub mine : w.seat.mine ≡ v.seat.mine ++ act
  pub engines : made_by Engine act ≡ act
  pub no_processors : (k : ℕ) → made_by (Processor k) act ≡ []
  pub no_puts : put_cells act ≡ []

engines_own : (a : Progress) → (made_by Engine (events_of a) ≡ events_of a) × ((k : ℕ) → made_by (Processor k) (events_of a) ≡ []) × (put_cells (events_of a) ≡ [])
engines_own answer.Idle = (refl, λ k. refl, refl)
engines_own (answer.Started n) = (refl, λ k. refl, refl)
engines_own (answer.Flipped i) = (refl, λ k. refl, refl)
engines_own (answer.Ended n) = (refl, λ k. refl, refl)
engines_own (answer.Waiting i) = (refl, λ k. refl, refl)
engines_own answer.Step = (refl, λ k. refl, refl)

own_answer : (v w : Working) (a : Progress) → GetsOn a v w → MakesOwn (events_of a) v w
own_answer v w a g = let its = engines_own a in record { same = g.same; mine = g.events; engines = its.0; no_processors = its.1; no_puts = its.2 }

own_start : (v w : Working) (n : ℕ) → StartsTo (rested v) n (rested w) → MakesOwn (Start Engine ∷ []) v w
own_start v w n s = record { same = s.event.same; mine = s.event.mine; engines = refl; no_processors = λ k. refl; no_puts = refl }

own_none : (v w : Working) → w.seat ≡ v.seat → MakesOwn [] v w
own_none v w same = record {
  same = (ap (λ e. e.domain) same, ap (λ e. e.processors) same, ap (λ e. e.periods) same);
  mine = ap (λ e. e.mine) same ∙ sym (append-nil v.seat.mine);
  engines = refl;
  no_processors = λ k. refl;
  no_puts = refl;
}

-- The need

-- the engine knows these raises; and where a period is wanted, it is asked for there
pub record Knows (raises : List Raise) (v : Working) : Type 0 where
  pub seen : v.needs.seen ≡ raises
  pub wanted : ¬ IsRunning v.seat.seen → 0 < v.so_far → IsWanted (greatest raises) (rested v)

load_goes_on : (e f : FunnelView) (found : ℕ) → LoadsRoot e found f → GoesOn [] e f
load_goes_on e f found h = record { same = h.same; since = h.since; mine = h.mine ∙ sym (append-nil e.mine) }

loaded_goes_on : (v w : Working) → NeedsLoaded LoadsRoot v w → GoesOn [] v.needs w.needs
loaded_goes_on v w n =
    let kept : (IsRunning v.seat.seen ⊎ (0 < v.so_far)) → GoesOn [] v.needs w.needs = λ busy. stays v.needs w.needs (n.busy busy).1 in
    dite (dec_lt (ended_in v.seat.seen) (starts_in v.seat.seen))
    (λ running. kept (inl running))
    (λ resting. dite (ℕ_discrete v.so_far 0) (λ nothing. load_goes_on v.needs w.needs n.need (n.at_rest resting nothing).1) (λ some. kept (inr (omega (arith, some)))))

module _ (raises : List Raise) (root : value 0 raises ≡ greatest raises) (v w : Working) (knows : Knows raises v) (still : w.needs.seen ≡ raises) where
  pub finds_asked : (found : ℕ) → LoadsRoot v.needs found w.needs → found ≡ greatest raises
  finds_asked found h = h.current ∙ (ap (value 0) still ∙ root)

  -- at rest the need is what was asked for, found now or before
  need_is_asked : (n : NeedsLoaded LoadsRoot v w) → ¬ IsRunning v.seat.seen → n.need ≡ greatest raises
  need_is_asked n resting = dite (ℕ_discrete v.so_far 0)
      (λ nothing. finds_asked n.need (n.at_rest resting nothing).1)
      (λ some. let half : 0 < v.so_far = omega (arith, some) in (n.busy (inr half)).2 ∙ (knows.wanted resting half).need)

  pub wanted_after : (a : Progress) → StepsTo LoadsRoot v a w → ¬ IsRunning w.seat.seen → 0 < w.so_far → IsWanted (greatest raises) (rested w)
  wanted_after a s resting some =
      let before : ¬ IsRunning v.seat.seen = λ running. resting (s.step.scan running some).0 in
      let need = s.need some in
      let above = (s.step.wanted before some).0 in record {
        need = need ∙ need_is_asked s.needs before;
        above = omega (arith, need, above);
      }

exhausted_goes_on : (v w : Working) → FindsExhausted LoadsRoot v w → GoesOn [] v.needs w.needs
exhausted_goes_on v w x = load_goes_on v.needs w.needs x.need x.load

-- Nobody comes between

-- in a period no answer speaks of the need
said_running : (m n : ℕ) (a : Progress) (s s' : Standing) → IsRunning s.history → engine.Steps [] m a s s' → SaysOf a n s s'
said_running m n answer.Idle s s' running h = absurd (h.answered.says.0 (subst IsRunning (sym (h.answered.events ∙ append-nil s.history)) running))
said_running m n (answer.Started k) s s' running h = absurd (last_may_follow s.history (Start Engine) (subst IsLegal h.answered.events h.answered.legal) running)
said_running m n (answer.Flipped i) s s' running h = h.answered.says
said_running m n (answer.Ended k) s s' running h = h.answered.says
said_running m n (answer.Waiting i) s s' running h = h.answered.says
said_running m n answer.Step s s' running h = h.answered.says

with_need : (m n : ℕ) (a : Progress) (s s' : Standing) → (¬ IsRunning s.history → m ≡ n) → engine.Steps [] m a s s' → StepsOf n a s s'
with_need m n a s s' same h = dite (dec_lt (ended_in s.history) (starts_in s.history))
    (λ running. record {
      answered = record { same = h.answered.same; events = h.answered.events; legal = h.answered.legal; agree = h.answered.agree; changes = h.answered.changes; says = said_running m n a s s' running h };
      counts = h.counts;
      few = h.few;
      scan = h.scan;
      wanted = λ resting some. absurd (resting running);
    })
    (λ resting. subst (λ k. engine.Steps [] k a s s') (same resting) h)

-- a step that nobody comes before, up to what is as it was behind it
step_alone : (others : List Event) (need asked_for : ℕ) (a : Progress) (s s' s'' : Standing) → others ≡ [] → (¬ IsRunning s.history → need ≡ asked_for) → s'' ≡ s' → engine.Steps others need a s s' → StepsOf asked_for a s s''
step_alone others need asked_for a s s' s'' nobody same_need same steps = subst (λ (x : Standing). StepsOf asked_for a s x) (sym same) (with_need need asked_for a s s' same_need (subst (λ l. engine.Steps l need a s s') nobody steps))

none_left : (l r : List Event) → length l + length r ≡ 0 → l ≡ []
none_left [] r none = refl
none_left (x ∷ l) r none = absurd (omega (arith, none))

-- the answer's event came in the end, and others before it came at any time
through_seen : (us : List Working) (v w : Working) (a : Progress) → StepsThrough (λ b x y. StepsTo LoadsRoot x b y) us a v w → (others : List Event) × (w.seat.seen ≡ v.seat.seen ++ (others ++ events_of a))
through_seen [] v w a s = (s.goes_on.others, s.step.answered.events)
through_seen (u ∷ us) v w a h =
    let first = h.0 in
    let later = through_seen us u w a h.1 in
    let o = first.goes_on.others in
    (o ++ later.0, later.1 ∙ (ap (λ l. l ++ (later.0 ++ events_of a)) (first.step.answered.events ∙ ap (λ l. v.seat.seen ++ l) (append-nil o)) ∙ (append_assoc v.seat.seen o (later.0 ++ events_of a) ∙ ap (λ l. v.seat.seen ++ l) (sym (append_assoc o later.0 (events_of a))))))

-- the needs may have been loaded at any time
pub through_needs : (us : List Working) (v w : Working) (a : Progress) → StepsThrough (λ b x y. StepsTo LoadsRoot x b y) us a v w → GoesOn [] v.needs w.needs
through_needs [] v w a s = loaded_goes_on v w s.needs
through_needs (u ∷ us) v w a h = goes_further v.needs u.needs w.needs (loaded_goes_on v u h.0.needs) (through_needs us u w a h.1)

module _ (raises : List Raise) (root : value 0 raises ≡ greatest raises) where
  -- where in the end nobody came, nobody came before any of the steps, and each found just what had been asked for
  through_alone : (us : List Working) (v w : Working) (a : Progress) (s' : Standing) → StepsThrough (λ b x y. StepsTo LoadsRoot x b y) us a v w → Knows raises v → w.needs.seen ≡ raises → w.seat.seen ≡ v.seat.seen ++ events_of a → s' ≡ standing_of w → StepsThrough (StepsOf (greatest raises)) (map standing_of us) a (standing_of v) s'
  through_alone [] v w a s' s knows still seen same =
      let o = s.goes_on.others in
      let long = ap length (sym s.step.answered.events ∙ seen) in
      let left = length-append v.seat.seen (o ++ events_of a) in
      let inner = length-append o (events_of a) in
      let right = length-append v.seat.seen (events_of a) in
      step_alone o s.needs.need (greatest raises) a (standing_of v) (standing_of w) s' (none_left o [] (omega (arith, long, left, inner, right))) (need_is_asked raises root v w knows still s.needs) same s.step
  through_alone (u ∷ us) v w a s' h knows still seen same =
      let s = h.0 in
      let later = through_seen us u w a h.1 in
      let o = s.goes_on.others in
      let first : u.seat.seen ≡ v.seat.seen ++ o = s.step.answered.events ∙ ap (λ l. v.seat.seen ++ l) (append-nil o) in
      let long = ap length (sym later.1 ∙ seen) in
      let left = length-append u.seat.seen (later.0 ++ events_of a) in
      let inner = length-append later.0 (events_of a) in
      let right = length-append v.seat.seen (events_of a) in
      let one = ap length first in
      let more = length-append v.seat.seen o in
      let nobody : o ≡ [] = none_left o later.0 (omega (arith, long, left, inner, right, one, more)) in
      let unmoved : u.seat.seen ≡ v.seat.seen = first ∙ (ap (λ l. v.seat.seen ++ l) nobody ∙ append-nil v.seat.seen) in
      let known : u.needs.seen ≡ v.needs.seen = squeezed v.needs.seen u.needs.seen w.needs.seen (loaded_goes_on v u s.needs).since (through_needs us u w a h.1).since (still ∙ sym knows.seen) in
      let there : u.needs.seen ≡ raises = known ∙ knows.seen in (
        step_alone o s.needs.need (greatest raises) answer.Step (standing_of v) (standing_of u) (standing_of u) nobody (need_is_asked raises root v u knows there s.needs) refl s.step,
        through_alone us u w a s' h.1 (record { seen = there; wanted = wanted_after raises root v u knows there answer.Step s }) still (seen ∙ ap (λ l. l ++ events_of a) (sym unmoved)) same,
      )

pub no_start_goes_on : (v w : Working) → w ≡ v → GoesOn [] v.needs w.needs
no_start_goes_on v w same = stays v.needs w.needs (ap (λ (x : Working). x.needs) same)

starts_none : (v : View) (c : Course) (refusal : scan.NotStarted) → c.standing ≡ known_by v → IsNoStart v refusal → StartsNone refusal c
starts_none v c refusal_of.Running same h = subst (λ (z : Standing). IsRunning z.history) (sym same) h
starts_none v c refusal_of.Exhausted same h = subst engine.IsOutOfPeriods (sym same) h

-- the engine of the domain was found and worked with the first processor, was left tied to it, and then all have met
pub record EngineTurn (J : Type 0) : Type 1 where
  pub d : DomainView
  pub limits : Limits
  pub cpus : List (DomainCpu J)
  pub v : View
  pub was : DomainCpu J
  pub now : DomainCpu J
  pub d' : DomainView
  pub cpus' : List (DomainCpu J)
  pub met : HaveMet d limits cpus v
  pub is : was ≡ get_or cpus 0 was
  pub all : IsAllOf d' cpus'
  pub meets : MeetsHere (set cpus 0 now) cpus'
  pub work : Working → Working → Type 0
  pub lends : Lends work was now
  pub loaded : GoesOn [] was.needs lends.worked.needs

module _ {J : Type 0} where
  -- what a call that drives the engine tells: the domain is in one hand again, it is the same, and this
  pub record Tells (d : DomainView) (limits : Limits) (cpus : List (DomainCpu J)) (v : View) (claim : SoloView J → SoloView J → Type 0) (seen seen' : SoloView J) : Type 0 where
    pub met : HaveMet d limits cpus v
    pub same : IsSameDomain seen seen'
    pub what : claim seen seen'

  module _ (t : EngineTurn J) where
    abbrev nobody : DomainCpu J
    nobody = t.was

    -- the engine as it worked, with the processor's seat at the tree
    abbrev pub v : Working
    v = at_work t.was.needs t.v

    abbrev pub w : Working
    w = t.lends.worked

    some : 0 < length t.cpus
    some = t.met.all.some

    long : length (set t.cpus 0 t.now) ≡ length t.cpus
    long = length-set t.cpus 0 t.now

    within : 0 < length (set t.cpus 0 t.now)
    within = let inside = some in omega (arith, long, inside)

    here : (d : DomainCpu J) → get_or (set t.cpus 0 t.now) 0 d ≡ t.now
    here d = get_or-set_same t.cpus 0 t.now d some

    first : (d : DomainCpu J) → get_or t.cpus 0 d ≡ t.was
    first d = get_or_default t.cpus 0 d t.was some ∙ sym t.is

    other : (k : ℕ) (d : DomainCpu J) → 0 < k → get_or (set t.cpus 0 t.now) k d ≡ get_or t.cpus k d
    other k d positive = get_or-set_other t.cpus 0 k t.now d (λ e. omega (arith, e, positive))

    -- The turns

    turn : TakesTurn (get_or t.cpus 0 nobody).turn t.lends.found t.lends.left (get_or (set t.cpus 0 t.now) 0 nobody).turn
    turn = subst (λ (z : DomainCpu J × DomainCpu J). TakesTurn z.0.turn t.lends.found t.lends.left z.1.turn) (λ i. (sym (first nobody) i, sym (here nobody) i)) t.lends.turn

    turns : (t.lends.found ≡ t.v) × (t.meets.found ≡ t.lends.left) × TurnTogether t.meets.turns.swaps t.cpus' t.meets.left
    turns = turn_turned t.met.swaps t.cpus (set t.cpus 0 t.now) t.v t.met.turn_together some long (λ k d positive lt. ap (λ (z : DomainCpu J). z.turn) (other k d positive)) t.cpus' t.meets.found t.meets.left t.meets.turns t.meets.count nobody t.lends.found t.lends.left turn

    pub works : t.work v w
    works = subst (λ (z : View). t.work (at_work t.was.needs z) w) turns.0 t.lends.works

    -- The engine behind its work and its tie

    ties : TiesEngine w.seat t.was.cpu t.lends.left.seat t.now.cpu
    ties = t.lends.ties

    noted_is : t.lends.left.seat ≡ noted t.was.cpu.processor ties.between.changes ties.between
    noted_is = ties.notes

    tied_same : IsSameEngine w.seat t.lends.left.seat
    tied_same = (ap (λ (z : EngineView). z.domain) noted_is ∙ ties.covers.step.same.0, ap (λ (z : EngineView). z.processors) noted_is ∙ ties.covers.step.same.1, ap (λ (z : EngineView). z.periods) noted_is ∙ ties.covers.step.same.2)

    tied_mine : t.lends.left.seat.mine ≡ w.seat.mine
    tied_mine = ap (λ (z : EngineView). z.mine) noted_is ∙ ties.covers.step.mine

    tied_changes : t.lends.left.seat.changes ≡ w.seat.changes
    tied_changes = ap (λ (z : EngineView). z.changes) noted_is ∙ ties.covers.step.changes_are

    tied_since : IsBeginning w.seat.seen t.lends.left.seat.seen
    tied_since = subst (λ l. IsBeginning w.seat.seen l) (sym (ap (λ (z : EngineView). z.seen) noted_is)) ties.covers.step.since

    -- and behind the meeting

    engine_meets : EngineMeets t.lends.left.seat (set t.cpus 0 t.now) t.meets.left.seat t.cpus'
    engine_meets = subst (λ (z : View). EngineMeets z.seat (set t.cpus 0 t.now) t.meets.left.seat t.cpus') turns.1 t.meets.engine

    -- the words of versions that were known before are known still
    texts_on : IsStart t.v.seat.texts t.meets.left.seat.texts
    texts_on = start_trans (subst (λ l. IsStart l t.lends.left.seat.texts) (ap (λ (z : DomainCpu J). z.cpu.texts) t.is ∙ t.met.together.texts 0 nobody some) ties.accepts.texts_since) engine_meets.texts

    pub same_engine : IsSameEngine w.seat t.meets.left.seat
    same_engine = (engine_meets.same.0 ∙ tied_same.0, engine_meets.same.1 ∙ tied_same.1, engine_meets.same.2 ∙ tied_same.2)

    same_changes : t.meets.left.seat.changes ≡ w.seat.changes
    same_changes = engine_meets.changes ∙ tied_changes

    -- nothing of it but its seat has changed since its work
    rest_is : t.meets.left ≡ with_seat t.meets.left.seat (rested w)
    rest_is = subst (λ (z : View). t.meets.left ≡ with_seat t.meets.left.seat z) turns.1 t.meets.rest ∙ ap (λ (z : View). with_seat t.meets.left.seat z) t.lends.rest

    -- The tree

    abbrev raises : List Raise
    raises = t.met.raises

    needs_on : GoesOn [] t.was.needs t.now.needs
    needs_on = subst (λ (z : FunnelView). GoesOn [] t.was.needs z) (sym t.lends.needs) t.loaded

    have_asked : HaveAsked 0 raises [] (set t.cpus 0 t.now)
    have_asked = raised_here raises t.cpus t.met.ask_together 0 some t.was t.now t.is [] needs_on refl (λ q ne. refl)

    asking : (t.meets.needs.raises ≡ raises ++ []) × AskTogether t.meets.needs.raises t.cpus'
    asking = asked_together t.d' (set t.cpus 0 t.now) t.cpus' t.all t.meets.count t.meets.needs nobody 0 raises [] have_asked

    raises_are : t.meets.needs.raises ≡ raises
    raises_are = asking.0 ∙ append-nil raises

    root : value 0 raises ≡ greatest raises
    root = t.met.ask_together.root

    was_seen : t.was.needs.seen ≡ raises
    was_seen = ap (λ (z : DomainCpu J). z.needs.seen) t.is ∙ t.met.ask_together.seen 0 nobody some

    known : Knows raises v
    known = record { seen = was_seen; wanted = λ resting half. let wanted = t.met.wanted resting half in record { need = wanted.need; above = wanted.above } }

    still : w.needs.seen ≡ raises
    still =
        let into : IsBeginningAtTree w.needs.seen t.meets.needs.raises = subst (λ (l : List Raise). IsBeginningAtTree l t.meets.needs.raises) (ap (λ (z : DomainCpu J). z.needs.seen) (here nobody) ∙ ap (λ (z : FunnelView). z.seen) t.lends.needs) (t.meets.needs.each 0 nobody within).since in
        squeezed raises w.needs.seen t.meets.needs.raises (subst (λ l. IsBeginningAtTree l w.needs.seen) was_seen t.loaded.since) into raises_are

    abbrev pub asked_before : ℕ
    asked_before = greatest raises

    abbrev pub asked_after : ℕ
    asked_after = greatest t.meets.needs.raises

    same_asked : asked_after ≡ asked_before
    same_asked = ap greatest raises_are

    -- Their seats at the tally words

    calls_stay_so : Adds [] t.was.calls t.now.calls
    calls_stay_so = adds_none t.was.calls t.now.calls t.lends.calls

    tallied_so : IsTallied t.d t.d' 0 t.met.deeds [] t.meets.calls.deeds t.cpus t.cpus'
    tallied_so = tallied t.d t.d' t.met.deeds t.cpus t.cpus' 0 t.was t.now some t.is t.met.tally_together [] calls_stay_so t.meets.count t.meets.calls t.all

    calls_kept : KeepCalls t.cpus t.cpus'
    calls_kept = calls_stay t.d t.d' t.met.deeds t.meets.calls.deeds t.cpus t.cpus' t.met.tally_together tallied_so.together (t.meets.count ∙ long) 0 [] tallied_so.on nothing_done

    abbrev pub before : SoloView J
    before = seen_as t.d.tallies t.limits asked_before (queued_on t.cpus) (finished_on t.cpus) (lines_on t.cpus) t.v

    abbrev pub after : SoloView J
    after = seen_as t.d'.tallies t.limits asked_after (queued_on t.cpus') (finished_on t.cpus') (lines_on t.cpus') t.meets.left

    module _ (act others : List Event) (own : MakesOwn act v w) (seen : w.seat.seen ≡ t.v.seat.seen ++ (others ++ act)) where
      table : t.lends.left.seat.domain ≡ t.v.seat.domain
      table = tied_same.0 ∙ own.same.0

      processors : t.lends.left.seat.processors ≡ t.v.seat.processors
      processors = tied_same.1 ∙ own.same.1

      hold : AllHold t.limits (t.v.seat.seen ++ act) (set t.cpus 0 t.now) t.lends.left.seat
      hold = record {
        in_range = t.met.together.hold.in_range;
        periods = tied_same.2 ∙ (own.same.2 ∙ t.met.together.hold.periods);
        count = subst IsCount (sym processors) t.met.together.hold.count;
        all = long ∙ (t.met.together.hold.all ∙ sym processors);
        engine = tied_mine ∙ (own.mine ∙ (ap (λ l. l ++ act) t.met.together.hold.engine ∙ (ap (λ l. made_by Engine t.v.seat.seen ++ l) (sym own.engines) ∙ sym (made_by_append Engine t.v.seat.seen act))));
        each = λ k d lt. by k d (let same = long in omega (arith, lt, same));
      }
        where
          own_mine : (k : ℕ) → made_by (Processor k) t.v.seat.seen ≡ made_by (Processor k) (t.v.seat.seen ++ act)
          own_mine k = sym (made_by_append (Processor k) t.v.seat.seen act ∙ (ap (λ l. made_by (Processor k) t.v.seat.seen ++ l) (own.no_processors k) ∙ append-nil (made_by (Processor k) t.v.seat.seen)))

          by : (k : ℕ) (d : DomainCpu J) → k < length t.cpus → Holds t.limits t.lends.left.seat.domain t.lends.left.seat.processors (t.v.seat.seen ++ act) k (get_or (set t.cpus 0 t.now) k d).cpu
          by zero d lt =
              let held = t.met.together.hold.each 0 d lt in
              let accepts = ties.accepts in
              let was = ap (λ (z : DomainCpu J). z.cpu) (sym (first d)) in
              subst (λ (z : DomainCpu J). Holds t.limits t.lends.left.seat.domain t.lends.left.seat.processors (t.v.seat.seen ++ act) 0 z.cpu) (sym (here d)) (record {
                domain = accepts.same.0 ∙ (ap (λ c. c.domain) was ∙ (held.domain ∙ sym table));
                processors_are = accepts.same.1 ∙ (ap (λ c. c.processors) was ∙ (held.processors_are ∙ sym processors));
                sections = accepts.same.2 ∙ (ap (λ c. c.sections) was ∙ held.sections);
                processor = accepts.same.3 ∙ (ap (λ c. c.processor) was ∙ held.processor);
                mine = accepts.mine ∙ (ap (λ c. c.mine) was ∙ (held.mine ∙ own_mine 0));
              })
          by (suc k) d lt =
              let held = t.met.together.hold.each (suc k) d lt in
              subst (λ (z : DomainCpu J). Holds t.limits t.lends.left.seat.domain t.lends.left.seat.processors (t.v.seat.seen ++ act) (suc k) z.cpu) (sym (get_or-set_other t.cpus 0 (suc k) t.now d (λ e. omega (arith, e)))) (record {
                domain = held.domain ∙ sym table;
                processors_are = held.processors_are ∙ sym processors;
                sections = held.sections;
                processor = held.processor;
                mine = held.mine ∙ own_mine (suc k);
              })

      acted : IsSettled t.limits t.v.seat.seen others act t.cpus' t.meets.left.seat
      acted = settled (set t.cpus 0 t.now) t.cpus' t.lends.left.seat t.meets.left.seat t.meets.count engine_meets nobody t.limits t.v.seat.seen others act (record { hold = hold; seen = inl (subst (λ l. IsBeginning l t.lends.left.seat.seen) seen tied_since) })

      seen_alone : w.seat.seen ≡ t.v.seat.seen ++ act
      seen_alone = seen ∙ ap (λ l. t.v.seat.seen ++ (l ++ act)) acted.alone

      -- the meeting has changed nothing
      as_before : known_by t.meets.left ≡ standing_of w
      as_before = λ z. record {
        processors = same_engine.1 z;
        periods = same_engine.2 z;
        history = (acted.seen ∙ sym seen_alone) z;
        changes = same_changes z;
        so_far = ap (λ (x : View). x.so_far) rest_is z;
        began = ap (λ (x : View). x.began) rest_is z;
      }

      same_shelf : after.shelf ≡ before.shelf
      same_shelf = shelf_stays t.v.seat.seen act t.meets.left.seat.seen acted.seen own.no_puts t.v.seat.texts t.meets.left.seat.texts texts_on t.met.together.history.texts acted.together.history.texts

      same_as : IsSameDomain before after
      same_as = ((same_engine.0 ∙ own.same.0, refl, same_engine.1 ∙ own.same.1, same_engine.2 ∙ own.same.2, tallied_so.tallies, same_shelf), calls_kept.2)

      worked : (work : Standing → Standing → Type 0) → work (known_by t.v) (known_by t.meets.left) → Works work before.course after.course
      worked work it = record { work_is = it; rest = λ i. record { standing = known_by t.meets.left; asked = same_asked i; queued = calls_kept.0 i; finished = calls_kept.1 i } }

      -- all that is true of a domain in one hand
      met_after : (¬ IsRunning w.seat.seen → 0 < w.so_far → IsWanted (greatest raises) (rested w)) → HaveMet t.d' t.limits t.cpus' t.meets.left
      met_after wants = record {
        all = t.all;
        together = acted.together;
        raises = t.meets.needs.raises;
        ask_together = asking.1;
        swaps = t.meets.turns.swaps;
        turn_together = turns.2;
        deeds = t.meets.calls.deeds;
        tally_together = tallied_so.together;
        cookies = ap (λ n. n % 4) same_asked ∙ t.met.cookies;
        wanted = λ resting some.
            let history : t.meets.left.seat.seen ≡ w.seat.seen = acted.seen ∙ sym seen_alone in
            let so_far = ap (λ (x : View). x.so_far) rest_is in
            let need = ap (λ (x : View). x.need) rest_is in
            let was = wants (λ running. resting (subst IsRunning (sym history) running)) (omega (arith, so_far, some)) in record {
              need = need ∙ (was.need ∙ sym same_asked);
              above = (let above = was.above in let same = ap number_at_rest history in omega (arith, above, same, need));
            };
      }

    nothing_half : (so_far : ℕ) → so_far ≡ 0 → 0 < so_far → ⊥
    nothing_half so_far none some = omega (arith, none, some)

    abbrev Told : (SoloView J → SoloView J → Type 0) → Type 0
    Told claim = Tells t.d' t.limits t.cpus' t.meets.left claim before after

    -- one step
    pub stepped : (a : Progress) → StepsTo LoadsRoot v a w → Told (λ x y. Steps a x.course y.course)
    stepped a s =
        let es = events_of a in let others = s.goes_on.others in let own = own_answer v w a s.goes_on in let seen = s.step.answered.events in record {
          met = met_after es others own seen (wanted_after raises root v w known still a s);
          same = same_as es others own seen;
          what = worked es others own seen _ (step_alone others s.needs.need asked_before a (known_by t.v) (standing_of w) (known_by t.meets.left) (acted es others own seen).alone (need_is_asked raises root v w known still s.needs) (as_before es others own seen) s.step);
        }

    -- steps until there is an answer
    pub advanced : (a : Progress) → AdvancesTo LoadsRoot v a w → Told (λ x y. Advances a x.course y.course)
    advanced a s =
        let es = events_of a in let others = s.goes_on.others in let own = own_answer v w a s.goes_on in let seen = s.answered.events in record {
          met = met_after es others own seen (λ _ some. absurd (nothing_half w.so_far s.done some));
          same = same_as es others own seen;
          what = worked es others own seen _ (record {
            between = map standing_of s.advances.between;
            through = through_alone raises root s.advances.between v w a (known_by t.meets.left) s.advances.through known still (seen_alone es others own seen) (as_before es others own seen);
            answer = s.advances.answer;
          });
        }

    -- a start
    pub started : (n : ℕ) → StartsTo (rested v) n (rested w) → Told (λ x y. Starts n x.course y.course)
    started n s =
        let es : List Event = Start Engine ∷ [] in let own = own_start v w n s in let seen = s.starts.events in record {
          met = met_after es s.others own seen (λ _ some. absurd (nothing_half w.so_far s.starts.done some));
          same = same_as es s.others own seen;
          what = worked es s.others own seen _ (subst (λ (x : Standing). engine.Starts [] n (known_by t.v) x) (sym (as_before es s.others own seen)) (subst (λ l. engine.Starts l n (known_by t.v) (standing_of w)) (acted es s.others own seen).alone s.starts));
        }

    -- nothing was done but a load of the need, by the engine or by another

    module _ (rest : w ≡ record v { needs = w.needs }) where
      seat_kept : w.seat ≡ t.v.seat
      seat_kept = ap (λ (x : Working). x.seat) rest

      seen_kept : w.seat.seen ≡ t.v.seat.seen ++ ([] ++ [])
      seen_kept = ap (λ e. e.seen) seat_kept ∙ sym (append-nil t.v.seat.seen)

      loaded_met : HaveMet t.d' t.limits t.cpus' t.meets.left
      loaded_met = met_after [] [] (own_none v w seat_kept) seen_kept (λ resting some.
          let wanted = t.met.wanted (λ running. resting (subst IsRunning (ap (λ e. e.seen) (sym seat_kept)) running)) (let half = ap (λ (x : Working). x.so_far) rest in omega (arith, half, some)) in
          let need = ap (λ (x : Working). x.need) rest in record {
            need = need ∙ wanted.need;
            above = (let above = wanted.above in let same = ap (λ (x : Working). number_at_rest x.seat.seen) rest in omega (arith, above, need, same));
          })

      loaded_same : after ≡ before
      loaded_same = λ i. record {
        table = (same_engine.0 ∙ ap (λ e. e.domain) seat_kept) i;
        limits = t.limits;
        tallies = tallied_so.tallies i;
        course = record { standing = (as_before [] [] (own_none v w seat_kept) seen_kept ∙ ap standing_of rest) i; asked = same_asked i; queued = calls_kept.0 i; finished = calls_kept.1 i };
        lines = calls_kept.2 i;
        shelf = same_shelf [] [] (own_none v w seat_kept) seen_kept i;
      }

      pub loaded : (why : Course → Type 0) → why before.course → Told (λ x y. why x.course × (y ≡ x))
      loaded why is = record { met = loaded_met; same = same_as [] [] (own_none v w seat_kept) seen_kept; what = (is, loaded_same) }

    pub exhausted : FindsExhausted LoadsRoot v w → Told (λ x y. IsAskedTooMuch x.course × (y ≡ x))
    exhausted x = loaded x.rest IsAskedTooMuch (record {
      out = subst engine.IsOutOfPeriods (ap standing_of x.rest) x.out;
      asked = (let above = x.asked in let same = ap (λ (z : Working). number_at_rest z.seat.seen) x.rest in let found = finds_asked raises root v w known still x.need x.load in omega (arith, above, same, found));
      nothing_half = x.nothing_half;
    })

    pub not_started : (refusal : scan.NotStarted) → IsNoStart (rested v) refusal × (w ≡ v) → Told (λ x y. StartsNone refusal x.course × (y ≡ x))
    not_started refusal x = loaded (x.1 ∙ ap (λ (z : Working). record v { needs = z.needs }) (sym x.1)) (StartsNone refusal) (starts_none (rested v) before.course refusal refl x.0)

  -- What the calls say: each is a turn

  -- no call finds the engine taken: all seats are in hand, and none of them has it
  module _ (d : DomainView) (limits : Limits) (cpus : List (DomainCpu J)) (lay : View) (was now : DomainCpu J) (cpus' : List (DomainCpu J)) (met : HaveMet d limits cpus lay) (is : was ≡ get_or cpus 0 was) (meets : MeetsHere (set cpus 0 now) cpus') where
    never : FindsBusyIn was now → ⊥
    never h =
        let behind : FindsBusy (get_or cpus 0 was).turn (get_or (set cpus 0 now) 0 was).turn = subst (λ (z : DomainCpu J × DomainCpu J). FindsBusy z.0.turn z.1.turn) (λ i. (is i, sym (get_or-set_same cpus 0 now was met.all.some) i)) h.busy in
        never_busy met.swaps cpus (set cpus 0 now) lay met.turn_together met.all.some (length-set cpus 0 now) (λ k c positive lt. ap (λ (z : DomainCpu J). z.turn) (get_or-set_other cpus 0 k now c (λ e. omega (arith, e, positive)))) cpus' meets.found meets.left meets.turns meets.count was behind

    pub not_busy : (P : Progress → Type 0) (r : Result Progress AdvanceRefusal) → MatchResult r P (λ refusal. IsRefused was refusal now) → IsNotBusy r
    not_busy P (Ok a) h = tt
    not_busy P (Err advance.Busy) h = absurd (never h)
    not_busy P (Err advance.Exhausted) h = tt

    pub none_busy : (P : ℕ → Type 0) (r : Result ℕ StartRefusal) → MatchResult r P (λ refusal. IsNotStarted was refusal now) → NoneIsBusy r
    none_busy P (Ok n) h = tt
    none_busy P (Err start.Busy) h = absurd (never h)
    none_busy P (Err start.Running) h = tt
    none_busy P (Err start.Exhausted) h = tt

  module _ (d : DomainView) (limits : Limits) (cpus : List (DomainCpu J)) (lay : View) (was now : DomainCpu J) (d' : DomainView) (cpus' : List (DomainCpu J)) (met : HaveMet d limits cpus lay) (is : was ≡ get_or cpus 0 was) (all : IsAllOf d' cpus') (meets : MeetsHere (set cpus 0 now) cpus')
      (seen : SoloView J) (seen_is : seen_first d limits cpus ≡ seen) where
    abbrev Says : (SoloView J → SoloView J → Type 0) → Type 0
    Says claim = Tells d' limits cpus' meets.left claim seen (seen_first d' limits cpus')

    module _ (work : Working → Working → Type 0) (h : Lends work was now) (on : GoesOn [] was.needs h.worked.needs) where
      abbrev t : EngineTurn J
      t = record { d = d; limits = limits; cpus = cpus; v = lay; was = was; now = now; d' = d'; cpus' = cpus'; met = met; is = is; all = all; meets = meets; work = work; lends = h; loaded = on }

      told_first : seen ≡ before t
      told_first = sym seen_is ∙ is_seen d limits cpus lay met

      told_second : seen_first d' limits cpus' ≡ after t
      told_second = first_seen d' limits cpus' meets.left (asked_after t) all.some (turns t).2.lying (λ c. ap greatest ((asking t).1.seen 0 c all.some))

      -- what the turn tells is said of the domain as it is seen
      say : (claim : SoloView J → SoloView J → Type 0) → Tells d' limits cpus' meets.left claim (before t) (after t) → Says claim
      say claim it = subst (λ (z : SoloView J × SoloView J). Tells d' limits cpus' meets.left claim z.0 z.1) (λ i. (sym told_first i, sym told_second i)) it

    -- an answer of the engine's work, or why there is none
    abbrev Answers : (Progress → Course → Course → Type 0) → Result Progress PeriodsExhausted → Type 0
    Answers does r = Says (λ x y. MatchResult r (λ a. does a x.course y.course) (λ _. IsAskedTooMuch x.course × (y ≡ x)))

    exhausted_says : (does : Progress → Course → Course → Type 0) → FindsExhaustedIn was now → (told : Result Progress PeriodsExhausted) → IsErr told → Answers does told
    exhausted_says does h (Ok a) err = absurd (true≢false (sym err))
    exhausted_says does h (Err e) err = let on = exhausted_goes_on (at_work was.needs h.found) h.worked h.works in say _ h on _ (exhausted (t _ h on) (works (t _ h on)))

    pub step_says : (r : Result Progress AdvanceRefusal) → MatchResult r (λ a. StepsIn was a now) (λ refusal. IsRefused was refusal now) → (told : Result Progress PeriodsExhausted) → IsToldAs r told → Answers Steps told
    step_says (Ok a) h told same = let on = loaded_goes_on (at_work was.needs h.found) h.worked h.works.needs in subst (Answers Steps) (sym same) (say _ h on _ (stepped (t _ h on) a (works (t _ h on))))
    step_says (Err advance.Busy) h told same = absurd (never d limits cpus lay was now cpus' met is meets h)
    step_says (Err advance.Exhausted) h told same = exhausted_says Steps h told same

    pub advance_says : (r : Result Progress AdvanceRefusal) → MatchResult r (λ a. AdvancesIn was a now) (λ refusal. IsRefused was refusal now) → (told : Result Progress PeriodsExhausted) → IsToldAs r told → Answers Advances told
    advance_says (Ok a) h told same = let on = loaded_goes_on (at_work was.needs h.found) h.worked h.works.needs in subst (Answers Advances) (sym same) (say _ h on _ (advanced (t _ h on) a (works (t _ h on))))
    advance_says (Err advance.Busy) h told same = absurd (never d limits cpus lay was now cpus' met is meets h)
    advance_says (Err advance.Exhausted) h told same = exhausted_says Advances h told same

    abbrev StartsSo : Result ℕ scan.NotStarted → Type 0
    StartsSo r = Says (λ x y. MatchResult r (λ n. Starts n x.course y.course) (λ e. StartsNone e x.course × (y ≡ x)))

    no_start_says : (refusal : scan.NotStarted) → StartsNoneIn was refusal now → StartsSo (Err refusal)
    no_start_says refusal h = let on = no_start_goes_on (at_work was.needs h.found) h.worked h.works.1 in say _ h on _ (not_started (t _ h on) refusal (works (t _ h on)))

    pub start_says : (r : Result ℕ StartRefusal) → MatchResult r (λ n. StartsIn was n now) (λ refusal. IsNotStarted was refusal now) → (told : Result ℕ scan.NotStarted) → IsStartedAs r told → StartsSo told
    start_says (Ok n) h told same = let on = stays was.needs h.worked.needs h.works.1 in subst StartsSo (sym same) (say _ h on _ (started (t _ h on) n (works (t _ h on)).0))
    start_says (Err start.Busy) h told same = absurd (never d limits cpus lay was now cpus' met is meets h)
    start_says (Err start.Running) h told same = subst StartsSo (sym same) (no_start_says refusal_of.Running h)
    start_says (Err start.Exhausted) h told same = subst StartsSo (sym same) (no_start_says refusal_of.Exhausted h)
