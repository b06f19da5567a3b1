-- What a quiet period adds.
use Rattle.std.proofs.Common.{◌≡◌, ℕ, ◌+◌, ◌*◌, ◌≤◌, inl, List, [], ◌∷◌, ◌++◌, length, sym, ap, ◌∙◌, subst, append_assoc, length-append, add-one, arith}
use Rattle.std.proofs.Math.Nat.{suc-mul}
use mathlib.Core.Logic.{dite}
use native.Mathlib.Decide.{dec_lt}
use Rattle.srcubench.specs.declared.periods.EveryPeriod.{EveryPeriod}
use Rattle.onedom.specs.declared.event.Maker.TheVariants.{Engine}
use Rattle.onedom.specs.declared.event.Event.{Event}
use Rattle.onedom.specs.declared.event.Event.TheVariants.{Finish}
use Rattle.onedom.specs.Histories.{ended_in, starts_in, IsBeginning}
use Rattle.onedom.proofs.CallerLemmas.{ended_in_push, beginning_append, ended_grow}
use Rattle.sseq.specs.Numbers.{periods_ended}
use Rattle.scan.specs.declared.progress.Progress.{Progress}
use Rattle.scan.specs.Standings.{events_of, steps_for}
use Rattle.scan.specs.Progress.{AdvancesTo}
use Rattle.srcubench.specs.Periods.{View, LoadsNeed, steps_made, CarriesPeriod, CarriesPeriods, quiet_steps}

pub one_more : (v w : View) (n : ℕ) → CarriesPeriod v n w → ended_in v.seat.seen + 1 ≤ ended_in w.seat.seen
one_more v w n p =
    let begun = ended_grow (since v p.started _ p.starts.answered.events) in
    let flipped = ended_grow (since p.started p.flipped _ p.flips.answered.events) in
    let others = p.ends.goes_on.others in
    let before : List Event = p.flipped.seat.seen ++ others in
    let last : w.seat.seen ≡ before ++ Finish Engine ∷ [] = p.ends.answered.events ∙ sym (append_assoc p.flipped.seat.seen others (Finish Engine ∷ [])) in
    let grown = ended_grow (beginning_append p.flipped.seat.seen others) in
    let more = ended_in_push before (Finish Engine) in
    let all : ended_in w.seat.seen ≡ ended_in (before ++ Finish Engine ∷ []) = ap ended_in last in
    omega (arith, begun, flipped, grown, more, all)
  where
    since : (x y : View) (rest : List Event) → y.seat.seen ≡ x.seat.seen ++ rest → IsBeginning x.seat.seen y.seat.seen
    since x y rest whole = record { rest = rest; whole = whole }

-- a call that found nothing half done made as many steps as its answer takes
steps_of_call : (v w : View) (a : Progress) → AdvancesTo LoadsNeed v a w → v.so_far ≡ 0 → steps_made w ≡ steps_made v + steps_for v.seat.processors a
steps_of_call v w a h none =
    let steps = h.steps in
    let mine : length w.seat.mine ≡ length v.seat.mine + length (events_of a) = ap length h.goes_on.events ∙ length-append v.seat.mine (events_of a) in
    let made : length w.seat.steps ≡ length v.seat.steps + length h.goes_on.made = ap length h.goes_on.steps ∙ length-append v.seat.steps h.goes_on.made in
    let loads : length w.needs.cpu.steps ≡ length v.needs.cpu.steps + h.needs.count = dite (dec_lt (ended_in v.seat.seen) (starts_in v.seat.seen))
    (λ running. let b = h.needs.busy (inl running) in let zero = b.0 in let same : length w.needs.cpu.steps ≡ length v.needs.cpu.steps = ap (λ (n : EveryPeriod). length n.cpu.steps) b.1 in omega (arith, zero, same))
    (λ resting. let r = h.needs.at_rest resting none in let one = r.0 in let once = r.1.once in omega (arith, one, once)) in
    omega (arith, steps, mine, made, loads, none)

pub steps_of_one : (v w : View) (n : ℕ) → CarriesPeriod v n w → v.so_far ≡ 0 → steps_made w ≡ steps_made v + quiet_steps v.seat.processors
steps_of_one v w n p none =
    let a = steps_of_call v p.started _ p.starts none in
    let b = steps_of_call p.started p.flipped _ p.flips p.starts.done in
    let c = steps_of_call p.flipped w _ p.ends p.flips.done in
    let same = p.starts.goes_on.same.1 in
    let same' = p.flips.goes_on.same.1 in
    omega (arith, a, b, c, same, same')

-- nothing went by yet
pub none_carried : (v : View) → v.so_far ≡ 0 → ended_in v.seat.seen ≡ 0 → CarriesPeriods 0 v 0 v
none_carried v rests none = record { counted = sym none; all = omega arith; steps = omega arith; done = rests }

next_times : (k q : ℕ) → (k + 1) * q ≡ k * q + q
next_times k q = ap (λ n. n * q) (add-one k) ∙ suc-mul k q

pub carried_on : (k ended n : ℕ) (v u w : View) → CarriesPeriods k v ended u → u.seat.processors ≡ v.seat.processors → CarriesPeriod u n w → CarriesPeriods (k + 1) v (periods_ended n) w
carried_on k ended n v u w h same p =
    let number = p.ends.answered.says.0 in
    let count : periods_ended n ≡ ended_in w.seat.seen = omega (arith, number) in
    let more = one_more u w n p in
    let before = h.counted in
    let enough = h.all in
    let steps = h.steps in
    let one : steps_made w ≡ steps_made u + quiet_steps v.seat.processors = subst (λ q. steps_made w ≡ steps_made u + quiet_steps q) same (steps_of_one u w n p h.done) in
    record {
      counted = count;
      all = omega (arith, count, more, before, enough);
      steps = one ∙ (ap (λ m. m + quiet_steps v.seat.processors) steps ∙ together (steps_made v) k (quiet_steps v.seat.processors));
      done = p.ends.done;
    }
  where
    together : (m k q : ℕ) → m + k * q + q ≡ m + (k + 1) * q
    together m k q = let next = next_times k q in omega (arith, next)

pub same_after : (v w : View) (n : ℕ) → CarriesPeriod v n w → w.seat.processors ≡ v.seat.processors
same_after v w n p = p.ends.goes_on.same.1 ∙ (p.flips.goes_on.same.1 ∙ p.starts.goes_on.same.1)
