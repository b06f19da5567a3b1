-- What two calls add, one behind the other: a batch is taken, and seen to be out.
use Rattle.std.proofs.Common.{◌≡◌, ℕ, ◌+◌, ◌≤◌, refl, sym, ap, subst}
use Rattle.solo.proofs.Words.{Some, None, queued_in, finished_in, deeds_of, BatchView, IsOfProcessor, TakesIn, AreHanded, SeesOut, begins_on, DomainView, CpuView, callbacks_of, with_calls, Acts, ActsAs, loads, takes, finishes, then_finishes, TakesBatch}

-- One call and then another

module _ {J : Type 0} where
  module _ {was mid now : CpuView J} {owner : ℕ} (first : ActsAs (takes mid.cpu.changes owner) was mid) (same : now.cpu.changes ≡ mid.cpu.changes) where
    -- something is taken, and then it only loads
    pub takes_then_loads : ActsAs loads mid now → ActsAs (takes now.cpu.changes owner) was now
    takes_then_loads second =
        let behind : Acts was.cpu.processor (record (finishes 0 0 was.cpu.processor) { list = None }) mid now = subst (λ q. Acts q (loads q) mid now) first.events.same.3 second in
        subst (λ n. ActsAs (takes n owner) was now) (sym same) (then_finishes {p = was.cpu.processor} {a = takes mid.cpu.changes owner was.cpu.processor} {owner = 0} {count = 0} {list = None} refl (λ q away none. not_some q none) first behind)
      where
        not_some : (q : ℕ) → None ≡ Some q → ⊥
        not_some q e = cc

  -- a batch was taken, and seen to be out
  pub takes_out : {d : DomainView} {p max : ℕ} {b : BatchView J} {was mid now : CpuView J} → IsOfProcessor (callbacks_of d) p b → TakesIn (callbacks_of d) p max was.cpu was.calls (Some b) mid.cpu mid.calls → AreHanded b.entries mid.cpu.seen
      → SeesOut b mid.calls now.calls → now ≡ with_calls now.calls mid → TakesBatch d p max b was now
  takes_out {d} {p} {max} {b} {was} {mid} {now} of takes handed out rest' =
      let cpu : now.cpu ≡ mid.cpu = ap (λ (x : CpuView J). x.cpu) rest' in
      let tally = takes.takes.gives.tally in record {
        of_processor = of;
        behind = mid.calls;
        takes = subst (λ z. TakesIn (callbacks_of d) p max was.cpu was.calls (Some b) z mid.calls) (sym cpu) takes;
        handed = subst (λ c. AreHanded b.entries c.seen) (sym cpu) handed;
        since = out.covers.since;
        moment = out.moment;
        not_before = begins_on (begins_on tally.since record { rest = _; whole = tally.seen }) out.not_before;
        not_after = out.covers.covers;
        queued = subst (λ q. finished_in q out.moment + b.count ≤ queued_in q out.moment) of.1 out.queued;
        own = subst (λ q. deeds_of q now.calls.seen ≡ deeds_of q mid.calls.seen) tally.same.2 out.covers.own;
      }
