-- How many atomic steps a turn makes.
use Rattle.std.proofs.Common.{◌≡◌, ℕ, ◌+◌, ◌*◌, ◌≤◌, true, false, inl, inr, List, [], ◌∷◌, ◌++◌, length, sym, ap, ◌∙◌, subst, append_assoc, append-nil, length-append, arith}
use mathlib.Core.Logic.{dite}
use native.Mathlib.Decide.{dec_le, ℕ_discrete}
use Rattle.onedom.specs.Histories.{ended_in, starts_in}
use Rattle.funnel.specs.Views.{FunnelView}
use Rattle.funnel.specs.Calls.{LoadsRoot}
use Rattle.scan.specs.declared.progress.Progress.{Progress}
use Rattle.scan.specs.declared.progress.Progress.TheVariants as answer
use Rattle.scan.specs.Standings.{leads_on, events_of, steps_for}
use Rattle.scan.specs.Progress.{Stage, NeedsLoaded, AdvancesTo, AdvancesThrough}
use Rattle.domain.specs.Views.{Working}
use Rattle.laws.specs.Driving.{whole_period, rest_of_period, MakesAtMost}

-- Loads of the need

module _ (v w : Working) (n : NeedsLoaded LoadsRoot v w) where
  none_loaded : (n.count ≡ 0) × (w.needs ≡ v.needs) × (n.need ≡ v.need) → (loads : List ℕ) × (w.needs.loads ≡ v.needs.loads ++ loads) × (length loads ≡ n.count)
  none_loaded h = ([], ap (λ (z : FunnelView). z.loads) h.1 ∙ sym (append-nil v.needs.loads), sym h.0)

  loaded : (loads : List ℕ) × (w.needs.loads ≡ v.needs.loads ++ loads) × (length loads ≡ n.count)
  loaded = dite (dec_le (ended_in v.seat.seen + 1) (starts_in v.seat.seen))
      (λ running. none_loaded (n.busy (inl (omega (arith, running)))))
      (λ resting. dite (ℕ_discrete v.so_far 0)
      (λ nothing. let one = n.at_rest (λ r. resting (omega (arith, r))) nothing in (n.need ∷ [], one.1.loads, sym one.0))
      (λ some. none_loaded (n.busy (inr (omega (arith, some))))))

-- Steps

at_most : (n k : ℕ) (v w : Working) → n ≤ k → MakesAtMost n v w → MakesAtMost k v w
at_most n k v w le h = record { events = h.events; made = h.made; loads = h.loads; mine = h.mine; steps = h.steps; needs = h.needs; few = let few = h.few in omega (arith, le, few) }

both : (n k : ℕ) (v x w : Working) → MakesAtMost n v x → MakesAtMost k x w → MakesAtMost (n + k) v w
both n k v x w a b = record {
  events = a.events ++ b.events;
  made = a.made ++ b.made;
  loads = a.loads ++ b.loads;
  mine = b.mine ∙ (ap (λ l. l ++ b.events) a.mine ∙ append_assoc v.seat.mine a.events b.events);
  steps = b.steps ∙ (ap (λ l. l ++ b.made) a.steps ∙ append_assoc v.seat.steps a.made b.made);
  needs = b.needs ∙ (ap (λ l. l ++ b.loads) a.needs ∙ append_assoc v.needs.loads a.loads b.loads);
  few =
      let events = length-append a.events b.events in let made = length-append a.made b.made in let loads = length-append a.loads b.loads in
      let first = a.few in let second = b.few in omega (arith, events, made, loads, first, second);
}

-- one answer takes no more than so many
answered : (v w : Working) (a : Progress) → AdvancesTo LoadsRoot v a w → MakesAtMost (steps_for v.seat.processors a) v w
answered v w a h = let l = loaded v w h.needs in record {
  events = events_of a;
  made = h.goes_on.made;
  loads = l.0;
  mine = h.goes_on.events;
  steps = h.goes_on.steps;
  needs = l.1;
  few = let count = l.2 in let steps = h.steps in omega (arith, count, steps);
}

-- Bounds

last_few : (p : ℕ) (a : Progress) → leads_on a ≡ false → steps_for p a ≤ 2 * p + 1
last_few p answer.Idle off = omega arith
last_few p (answer.Started n) off = absurd cc
last_few p (answer.Flipped i) off = absurd cc
last_few p (answer.Ended n) off = omega arith
last_few p (answer.Waiting i) off = omega arith
last_few p answer.Step off = omega arith

one_few : (p : ℕ) (a : Progress) → leads_on a ≡ true → steps_for p a ≤ 2 * p + 2
one_few p answer.Idle on = absurd cc
one_few p (answer.Started n) on = omega arith
one_few p (answer.Flipped i) on = omega arith
one_few p (answer.Ended n) on = absurd cc
one_few p (answer.Waiting i) on = absurd cc
one_few p answer.Step on = absurd cc

-- no two flips come one behind the other
two_few : (v x w : Working) (p : ℕ) (a b : Progress) → leads_on a ≡ true → leads_on b ≡ true → AdvancesTo LoadsRoot v a x → AdvancesTo LoadsRoot x b w → steps_for p a + steps_for p b ≤ 2 * p + 4
two_few v x w p answer.Idle b on on' h k = absurd cc
two_few v x w p (answer.Started n) b on on' h k = let few = one_few p b on' in omega (arith, few)
two_few v x w p (answer.Flipped i) answer.Idle on on' h k = absurd cc
two_few v x w p (answer.Flipped i) (answer.Started n) on on' h k = omega arith
two_few v x w p (answer.Flipped i) (answer.Flipped j) on on' h k =
    let first = h.answered.says.behind in let second = k.answered.says.behind in let changes = k.answered.changes in let before = h.done in let after = k.done in
    absurd (omega (arith, first, second, changes, before, after))
two_few v x w p (answer.Flipped i) (answer.Ended n) on on' h k = absurd cc
two_few v x w p (answer.Flipped i) (answer.Waiting j) on on' h k = absurd cc
two_few v x w p (answer.Flipped i) answer.Step on on' h k = absurd cc
two_few v x w p (answer.Ended n) b on on' h k = absurd cc
two_few v x w p (answer.Waiting i) b on on' h k = absurd cc
two_few v x w p answer.Step b on on' h k = absurd cc

-- a turn of at most three answers
pub short : (ss : List (Stage FunnelView)) (v w : Working) (a : Progress) → AdvancesThrough LoadsRoot ss v a w → leads_on a ≡ false → length ss ≤ 2 → MakesAtMost (whole_period v.seat.processors) v w
short [] v w a h off few =
    let last = last_few v.seat.processors a off in
    at_most (steps_for v.seat.processors a) (whole_period v.seat.processors) v w (omega (arith, last)) (answered v w a h)
short (s ∷ []) v w a h off few =
    let p : ℕ = s.engine.seat.processors in
    let same : p ≡ v.seat.processors = h.0.goes_on.same.1 in
    let first = one_few v.seat.processors s.answer h.1 in
    let last = last_few p a off in
    at_most (steps_for v.seat.processors s.answer + steps_for p a) (whole_period v.seat.processors) v w (omega (arith, same, first, last))
    (both (steps_for v.seat.processors s.answer) (steps_for p a) v s.engine w (answered v s.engine s.answer h.0) (answered s.engine w a h.2))
short (s ∷ t ∷ []) v w a h off few =
    let p : ℕ = s.engine.seat.processors in
    let q : ℕ = t.engine.seat.processors in
    let same : p ≡ v.seat.processors = h.0.goes_on.same.1 in
    let same' : q ≡ p = h.2.0.goes_on.same.1 in
    let second : MakesAtMost (steps_for p t.answer) s.engine t.engine = answered s.engine t.engine t.answer h.2.0 in
    let two = two_few v s.engine t.engine p s.answer t.answer h.1 h.2.1 h.0 h.2.0 in
    let last = last_few q a off in
    let first : MakesAtMost (steps_for p s.answer) v s.engine = subst (λ k. MakesAtMost (steps_for k s.answer) v s.engine) (sym same) (answered v s.engine s.answer h.0) in
    at_most (steps_for p s.answer + steps_for p t.answer + steps_for q a) (whole_period v.seat.processors) v w (omega (arith, same, same', two, last))
    (both (steps_for p s.answer + steps_for p t.answer) (steps_for q a) v t.engine w (both (steps_for p s.answer) (steps_for p t.answer) v s.engine t.engine first second) (answered t.engine w a h.2.2))
short (s ∷ t ∷ u ∷ ss) v w a h off few = absurd (omega (arith, few))

-- one of at most two
pub shorter : (ss : List (Stage FunnelView)) (v w : Working) (a : Progress) → AdvancesThrough LoadsRoot ss v a w → leads_on a ≡ false → length ss ≤ 1 → MakesAtMost (rest_of_period v.seat.processors) v w
shorter [] v w a h off few = let last = last_few v.seat.processors a off in at_most (steps_for v.seat.processors a) (rest_of_period v.seat.processors) v w (omega (arith, last)) (answered v w a h)
shorter (s ∷ []) v w a h off few =
    let p : ℕ = s.engine.seat.processors in
    let same : p ≡ v.seat.processors = h.0.goes_on.same.1 in
    let first = one_few v.seat.processors s.answer h.1 in
    let last = last_few p a off in
    at_most (steps_for v.seat.processors s.answer + steps_for p a) (rest_of_period v.seat.processors) v w (omega (arith, same, first, last))
    (both (steps_for v.seat.processors s.answer) (steps_for p a) v s.engine w (answered v s.engine s.answer h.0) (answered s.engine w a h.2))
shorter (s ∷ t ∷ ss) v w a h off few = absurd (omega (arith, few))
