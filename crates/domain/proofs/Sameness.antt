-- The processor is the same behind a call.
use Rattle.std.proofs.Common.{◌≡◌, ℕ, ◌<◌, List, length, slice_index_or, Ok, Err, refl, sym, ap, ◌∙◌, subst}
use Rattle.std.specs.Prelude.{MatchResult, Result}
use Rattle.sections.specs.Views as sections
use Rattle.sections.specs.Calls.{IsSameCpu}
use Rattle.calls.specs.Calls.{IsSameSeat}
use Rattle.desk.specs.BayViews.{BaySeatView}
use Rattle.scan.specs.declared.progress.Progress.{Progress}
use Rattle.scan.specs.declared.refusals.AdvanceRefusal.{AdvanceRefusal}
use Rattle.scan.specs.declared.refusals.AdvanceRefusal.TheVariants as advance
use Rattle.scan.specs.declared.refusals.StartRefusal.{StartRefusal}
use Rattle.scan.specs.declared.refusals.StartRefusal.TheVariants as start
use Rattle.domain.specs.Glossary.{Engine, DomainView, CpuView, IsOf, IsSameProcessor, with_cpu, with_calls, StepsIn, AdvancesIn, CarriesOnIn, IsRefused, StartsIn, IsNotStarted, IsAllOf, StartsPoll, LoadsNeed}
use Rattle.domain.proofs.Staying.{seat_the_same, same_seat_trans}
use Rattle.domain.proofs.Lending.{same_busy, same_lent, same_stepped, same_advanced, same_carried, same_exhausted, same_started, same_still}

module _ {J : Type 0} where
  -- behind one call and then another
  pub same_trans : (c d e : CpuView J) → IsSameProcessor c d → IsSameProcessor d e → IsSameProcessor c e
  same_trans c d e h i = record {
    cpu = (i.cpu.0 ∙ h.cpu.0, i.cpu.1 ∙ h.cpu.1, i.cpu.2 ∙ h.cpu.2, i.cpu.3 ∙ h.cpu.3);
    needs = record { domain = i.needs.domain ∙ h.needs.domain; shape = i.needs.shape ∙ h.needs.shape; holder = i.needs.holder ∙ h.needs.holder };
    turn = i.turn ∙ ap (λ (z : BaySeatView Engine). record z { seen = e.turn.seen }) h.turn;
    calls = same_seat_trans c.calls d.calls e.calls h.calls i.calls;
  }

  -- behind a call at its seat at the domain's words
  pub same_polled : (c d : CpuView J) → IsSameCpu c.cpu d.cpu → d ≡ with_cpu d.cpu c → IsSameProcessor c d
  same_polled c d same rest = record {
    cpu = same;
    needs = record { domain = ap (λ (z : CpuView J). z.needs.domain) rest; shape = ap (λ (z : CpuView J). z.needs.shape) rest; holder = ap (λ (z : CpuView J). z.needs.holder) rest };
    turn = subst (λ (z : CpuView J). z.turn ≡ record c.turn { seen = z.turn.seen }) (sym rest) refl;
    calls = seat_the_same _ _ (ap (λ (z : CpuView J). z.calls) rest);
  }

  -- behind a call at its seat at the tally words
  pub same_finished : (c d : CpuView J) → IsSameSeat c.calls d.calls → d ≡ with_calls d.calls c → IsSameProcessor c d
  same_finished c d same rest = record {
    cpu = (ap (λ (z : CpuView J). z.cpu.domain) rest, ap (λ (z : CpuView J). z.cpu.processors) rest, ap (λ (z : CpuView J). z.cpu.sections) rest, ap (λ (z : CpuView J). z.cpu.processor) rest);
    needs = record { domain = ap (λ (z : CpuView J). z.needs.domain) rest; shape = ap (λ (z : CpuView J). z.needs.shape) rest; holder = ap (λ (z : CpuView J). z.needs.holder) rest };
    turn = subst (λ (z : CpuView J). z.turn ≡ record c.turn { seen = z.turn.seen }) (sym rest) refl;
    calls = same;
  }

  -- behind `start_poll`
  pub same_asked : (c d : CpuView J) (k : sections.CookieView) → StartsPoll c k d → IsSameProcessor c d
  same_asked c d k h = record {
    cpu = h.gives.notes.adds.same;
    needs = h.asks.same;
    turn = subst (λ (z : BaySeatView Engine). z ≡ record c.turn { seen = z.seen }) (sym h.turn) refl;
    calls = seat_the_same _ _ h.calls;
  }

  -- behind `need`
  pub same_need : (c d : CpuView J) (n : ℕ) → LoadsNeed c n d → IsSameProcessor c d
  same_need c d n h = record {
    cpu = (ap (λ (z : CpuView J). z.cpu.domain) h.rest, ap (λ (z : CpuView J). z.cpu.processors) h.rest, ap (λ (z : CpuView J). z.cpu.sections) h.rest, ap (λ (z : CpuView J). z.cpu.processor) h.rest);
    needs = h.load.same;
    turn = subst (λ (z : CpuView J). z.turn ≡ record c.turn { seen = z.turn.seen }) (sym h.rest) refl;
    calls = seat_the_same _ _ (ap (λ (z : CpuView J). z.calls) h.rest);
  }

  -- behind a turn of the engine, whatever the answer

  pub same_stepped_in : (c d : CpuView J) (r : Result Progress AdvanceRefusal) → MatchResult r (λ a. StepsIn c a d) (λ refusal. IsRefused c refusal d) → IsSameProcessor c d
  same_stepped_in c d (Ok a) h = same_lent _ c d (λ v w. same_stepped v w a) h
  same_stepped_in c d (Err advance.Busy) h = same_busy c d h
  same_stepped_in c d (Err advance.Exhausted) h = same_lent _ c d same_exhausted h

  pub same_advanced_in : (c d : CpuView J) (r : Result Progress AdvanceRefusal) → MatchResult r (λ a. AdvancesIn c a d) (λ refusal. IsRefused c refusal d) → IsSameProcessor c d
  same_advanced_in c d (Ok a) h = same_lent _ c d (λ v w. same_advanced v w a) h
  same_advanced_in c d (Err advance.Busy) h = same_busy c d h
  same_advanced_in c d (Err advance.Exhausted) h = same_lent _ c d same_exhausted h

  pub same_carried_in : (c d : CpuView J) (r : Result Progress AdvanceRefusal) → MatchResult r (λ a. CarriesOnIn c a d) (λ refusal. IsRefused c refusal d) → IsSameProcessor c d
  same_carried_in c d (Ok a) h = same_lent _ c d (λ v w. same_carried v w a) h
  same_carried_in c d (Err advance.Busy) h = same_busy c d h
  same_carried_in c d (Err advance.Exhausted) h = same_lent _ c d same_exhausted h

  pub same_started_in : (c d : CpuView J) (r : Result ℕ StartRefusal) → MatchResult r (λ n. StartsIn c n d) (λ refusal. IsNotStarted c refusal d) → IsSameProcessor c d
  same_started_in c d (Ok n) h = same_lent _ c d (λ v w. same_started v w n) h
  same_started_in c d (Err start.Busy) h = same_busy c d h
  same_started_in c d (Err start.Running) h = same_lent _ c d (λ v w e. same_still v w e.1) h
  same_started_in c d (Err start.Exhausted) h = same_lent _ c d (λ v w e. same_still v w e.1) h

  -- All of them

  -- where each is the same, and still of the domain, they are all of it
  pub all_the_same : (d : DomainView) (cpus cpus' : List (CpuView J)) → length cpus' ≡ length cpus → ((k : ℕ) (c : CpuView J) → k < length cpus → IsSameProcessor (slice_index_or cpus k c) (slice_index_or cpus' k c))
      → ((k : ℕ) (c : CpuView J) → k < length cpus → IsOf d (slice_index_or cpus' k c)) → IsAllOf d cpus → IsAllOf d cpus'
  all_the_same d cpus cpus' count same here all = record {
    some = subst (λ n. 0 < n) (sym count) all.some;
    here = λ k c lt. here k c (within k lt);
    count = λ k c lt. (same k c (within k lt)).cpu.1 ∙ (all.count k c (within k lt) ∙ sym count);
    order = λ k c lt. (same k c (within k lt)).cpu.3 ∙ all.order k c (within k lt);
    tree = all.tree;
    shape = all.shape;
    asks = λ k c lt. let n = (same k c (within k lt)).needs in let a = all.asks k c (within k lt) in (n.domain ∙ a.0, n.shape ∙ a.1, n.holder ∙ a.2);
    leaves = all.leaves ∙ sym count;
  }
    where
      within : (k : ℕ) → k < length cpus' → k < length cpus
      within k lt = subst (λ n. k < n) count lt
