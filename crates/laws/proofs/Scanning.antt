-- From answer to answer of a turn: where the last one began, and what it says.
use Rattle.std.proofs.Common.{◌≡◌, ℕ, ◌+◌, ◌%◌, ◌<◌, ◌≤◌, true, List, [], ◌∷◌, ◌++◌, length, refl, sym, ap, ◌∙◌, subst, append_assoc, arith}
use Rattle.sseq.specs.declared.index.Index.{Index}
use Rattle.onedom.specs.declared.event.Event.{Event}
use Rattle.onedom.specs.declared.event.Event.TheVariants.{Start}
use Rattle.onedom.specs.declared.event.Maker.TheVariants.{Engine as EngineMaker}
use Rattle.onedom.specs.Histories.{starts_in, IsRunning, IsBeginning}
use Rattle.onedom.proofs.CallerLemmas.{starts_in_push, starts_grow, beginning_append, beginning_refl, beginning_trans, beginning_by_length}
use Rattle.sections.specs.Words.{Reaches}
use Rattle.sections.proofs.CallerLemmas.{busy_running}
use Rattle.funnel.specs.Views.{FunnelView}
use Rattle.funnel.specs.Calls.{LoadsRoot}
use Rattle.scan.specs.declared.progress.Progress.{Progress}
use Rattle.scan.specs.declared.progress.Progress.TheVariants as answer
use Rattle.scan.specs.Standings.{leads_on, events_of}
use Rattle.scan.specs.Progress.{Stage, AdvancesTo, AdvancesThrough, FindsExhausted}
use Rattle.domain.specs.Views.{Working}
use Rattle.laws.specs.Driving.{before_last}

grown : (v w : Working) (a : Progress) → AdvancesTo LoadsRoot v a w → IsBeginning v.seat.seen w.seat.seen
grown v w a h = record { rest = h.goes_on.others ++ events_of a; whole = h.answered.events }

-- nothing is half done in the end
pub done : (ss : List (Stage FunnelView)) (v w : Working) (a : Progress) → AdvancesThrough LoadsRoot ss v a w → w.so_far ≡ 0
done [] v w a h = h.done
done (s ∷ ss) v w a h = done ss s.engine w a h.2

-- the last answer, from where it began
pub last : (ss : List (Stage FunnelView)) (v w : Working) (a : Progress) → AdvancesThrough LoadsRoot ss v a w → AdvancesTo LoadsRoot (before_last ss v) a w
last [] v w a h = h
last (s ∷ ss) v w a h = last ss s.engine w a h.2

-- where nothing was half done, nothing was there either
pub begun_whole : (ss : List (Stage FunnelView)) (v w : Working) (a : Progress) → AdvancesThrough LoadsRoot ss v a w → v.so_far ≡ 0 → (before_last ss v).so_far ≡ 0
begun_whole [] v w a h none = none
begun_whole (s ∷ ss) v w a h none = begun_whole ss s.engine w a h.2 h.0.done

pub begun_later : (ss : List (Stage FunnelView)) (v w : Working) (a : Progress) → AdvancesThrough LoadsRoot ss v a w → IsBeginning v.seat.seen (before_last ss v).seat.seen
begun_later [] v w a h = beginning_refl v.seat.seen
begun_later (s ∷ ss) v w a h = beginning_trans (grown v s.engine s.answer h.0) (begun_later ss s.engine w a h.2)

-- A scan that waits

module _ (x w : Working) (i : Index) (h : AdvancesTo LoadsRoot x (answer.Waiting i) w) (whole : x.so_far ≡ 0) where
  pub no_flip : x.seat.changes ≡ w.seat.changes
  no_flip = let c = h.answered.changes in let d = h.done in omega (arith, whole, c, d)

  pub waited_since : IsBeginning x.seat.seen h.answered.says.moment
  waited_since =
      let says = h.answered.says in
      let from = (says.first.now whole).0 in
      let after = says.after in
      beginning_by_length (grown x w (answer.Waiting i) h) says.upto (omega (arith, from, after))

-- A period that runs

started_more : (v w : Working) (n : ℕ) → AdvancesTo LoadsRoot v (answer.Started n) w → starts_in v.seat.seen + 1 ≤ starts_in w.seat.seen
started_more v w n h =
    let others : List Event = h.goes_on.others in
    let whole = h.answered.events in
    let pushed = starts_in_push (v.seat.seen ++ others) (Start EngineMaker) in
    let grown = starts_grow (beginning_append v.seat.seen others) in
    let same = ap starts_in (whole ∙ sym (append_assoc v.seat.seen others (Start EngineMaker ∷ []))) in
    omega (arith, pushed, grown, same)

-- none starts while one runs, and a flip is in the middle of one
busy_next : (v x : Working) (a : Progress) → 0 < v.seat.changes % 4 → Reaches v.seat.changes v.seat.seen → v.so_far ≡ 0 → AdvancesTo LoadsRoot v a x → leads_on a ≡ true → 0 < x.seat.changes % 4
busy_next v x answer.Idle busy reaches none h on = absurd cc
busy_next v x (answer.Started n) busy reaches none h on =
    let more = started_more v x n h in let before = reaches.started in let after = h.answered.agree.started in
    let changes = h.answered.changes in let done = h.done in
    omega (arith, busy, none, more, before, after, changes, done)
busy_next v x (answer.Flipped i) busy reaches none h on = let behind = h.answered.says.behind in omega (arith, behind)
busy_next v x (answer.Ended n) busy reaches none h on = absurd cc
busy_next v x (answer.Waiting i) busy reaches none h on = absurd cc
busy_next v x answer.Step busy reaches none h on = absurd cc

pub never_idle : (ss : List (Stage FunnelView)) (v w : Working) → 0 < v.seat.changes % 4 → Reaches v.seat.changes v.seat.seen → v.so_far ≡ 0 → AdvancesThrough LoadsRoot ss v answer.Idle w → ⊥
never_idle [] v w busy reaches none h =
    let c = h.answered.changes in let d = h.done in
    let still : 0 < w.seat.changes % 4 = omega (arith, busy, none, c, d) in
    h.answered.says.0 (busy_running w.seat.changes w.seat.seen still h.answered.agree)
never_idle (s ∷ ss) v w busy reaches none h = never_idle ss s.engine w (busy_next v s.engine s.answer busy reaches none h.0 h.1) h.0.answered.agree h.0.done h.2

pub never_exhausted : (v w : Working) → 0 < v.seat.changes % 4 → Reaches v.seat.changes v.seat.seen → FindsExhausted LoadsRoot v w → ⊥
never_exhausted v w busy reaches h = h.out.resting (subst (λ e. IsRunning e.seen) (sym h.seat) (busy_running v.seat.changes v.seat.seen busy reaches))

-- so of what is left of one, a flip is all that comes before the last answer
pub one_flip : (ss : List (Stage FunnelView)) (v w : Working) (a : Progress) → 0 < v.seat.changes % 4 → Reaches v.seat.changes v.seat.seen → v.so_far ≡ 0 → AdvancesThrough LoadsRoot ss v a w → length ss ≤ 1
one_flip [] v w a busy reaches none h = omega arith
one_flip (s ∷ []) v w a busy reaches none h = omega arith
one_flip (s ∷ t ∷ ss) v w a busy reaches none h = absurd (two_are_too_many v s.engine t.engine s.answer t.answer busy reaches none h.0 h.1 h.2.0 h.2.1)
  where
    none_starts : (v x : Working) (n : ℕ) → 0 < v.seat.changes % 4 → Reaches v.seat.changes v.seat.seen → v.so_far ≡ 0 → AdvancesTo LoadsRoot v (answer.Started n) x → ⊥
    none_starts v x n busy reaches none h =
        let more = started_more v x n h in let before = reaches.started in let after = h.answered.agree.started in
        let changes = h.answered.changes in let done = h.done in
        omega (arith, busy, none, more, before, after, changes, done)

    behind_flip : (v x : Working) (a : Progress) → 0 < v.seat.changes % 4 → Reaches v.seat.changes v.seat.seen → v.so_far ≡ 0 → AdvancesTo LoadsRoot v a x → leads_on a ≡ true → (i : Index) × (a ≡ answer.Flipped i)
    behind_flip v x answer.Idle busy reaches none h on = absurd cc
    behind_flip v x (answer.Started n) busy reaches none h on = absurd (none_starts v x n busy reaches none h)
    behind_flip v x (answer.Flipped i) busy reaches none h on = (i, refl)
    behind_flip v x (answer.Ended n) busy reaches none h on = absurd cc
    behind_flip v x (answer.Waiting i) busy reaches none h on = absurd cc
    behind_flip v x answer.Step busy reaches none h on = absurd cc

    no_second : (v x y : Working) (i j : Index) → AdvancesTo LoadsRoot v (answer.Flipped i) x → AdvancesTo LoadsRoot x (answer.Flipped j) y → ⊥
    no_second v x y i j h k =
        let first = h.answered.says.behind in let second = k.answered.says.behind in let changes = k.answered.changes in let before = h.done in let after = k.done in
        omega (arith, first, second, changes, before, after)

    two_are_too_many : (v x y : Working) (a b : Progress) → 0 < v.seat.changes % 4 → Reaches v.seat.changes v.seat.seen → v.so_far ≡ 0 → AdvancesTo LoadsRoot v a x → leads_on a ≡ true → AdvancesTo LoadsRoot x b y → leads_on b ≡ true → ⊥
    two_are_too_many v x y a b busy reaches none h on k on' =
        let first = behind_flip v x a busy reaches none h on in
        let second = behind_flip x y b (busy_next v x a busy reaches none h on) h.answered.agree h.done k on' in
        no_second v x y first.0 second.0 (subst (λ z. AdvancesTo LoadsRoot v z x) first.1 h) (subst (λ z. AdvancesTo LoadsRoot x z y) second.1 k)

-- behind an answer that waits one runs
pub waits_busy : (v w : Working) (i : Index) → AdvancesTo LoadsRoot v (answer.Waiting i) w → 0 < w.seat.changes % 4
waits_busy v w i h =
    let running = h.answered.says.running in let started = h.answered.agree.started in let ended = h.answered.agree.ended in
    omega (arith, running, started, ended)
