-- A new domain, in one hand.
use Rattle.std.proofs.Common.{◌≡◌, ℕ, ◌<◌, ◌≤◌, List, [], length, get_or, refl, sym, ap, ◌∙◌, subst, arith, rules}
use Rattle.solo.proofs.Words.{replicate, All-nil, Limits, AreInRange, HasItsMaker, offer_of, HaveOneVault, vault_in, IsCount, bounds_of, IsSeenByEngine, greatest, IsSeenBy, HasSeenLegal, lies, queued_in, finished_in, DomainView, CpuView, IsMade, idle_engine, new_cpu, IsAllOf, new_ones_are_here}
use Rattle.solo.proofs.Words.{IsNew, new_standing, View, Holds, AreTogether, AskTogether, TurnTogether, TallyTogether, HaveMet, no_calls, queued_on, finished_on, list_in, lines_on, seen_first}
use Rattle.solo.proofs.Tallying.{none_counted}
use Rattle.solo.proofs.Hand.{first_seen}

no_vault : HaveOneVault []
no_vault = record {
  more = λ c v w le known. let e : v ≡ w = omega (arith, le, known) in subst (λ z. (offer_of c z []).keys ≤ (offer_of c w []).keys) (sym e) (omega arith);
  vault = λ c v w le known some_keys. let e : v ≡ w = omega (arith, le, known) in ap (λ z. vault_in (offer_of c z []).vault) (sym e);
}

module _ {J : Type 0} where
  module _ (limits : Limits) (processors : ℕ) (d : DomainView) (cpus : List (CpuView J)) (made : IsMade (bounds_of processors limits) d cpus) (count : IsCount processors) (range : AreInRange limits) where
    abbrev pub engine : View
    engine = idle_engine d.domain (bounds_of processors limits)

    abbrev new : ℕ → CpuView J
    new k = new_cpu d (bounds_of processors limits) (record { processors = processors; nodes = made.nodes }) k

    is_new : (k : ℕ) (c : CpuView J) → k < length cpus → get_or cpus k c ≡ new k
    is_new = made.each

    all : IsAllOf d cpus
    all = record {
      some = (let some = count.0 in let long = made.count in omega (arith, some, long));
      here = new_ones_are_here d cpus made;
      count = λ k c lt. ap (λ (z : CpuView J). z.cpu.processors) (is_new k c lt) ∙ sym made.count;
      order = λ k c lt. ap (λ (z : CpuView J). z.cpu.processor) (is_new k c lt);
      tree = d.tree;
      shape = record { processors = processors; nodes = made.nodes };
      asks = λ k c lt. (ap (λ (z : CpuView J). z.needs.domain) (is_new k c lt), ap (λ (z : CpuView J). z.needs.shape) (is_new k c lt), ap (λ (z : CpuView J). z.needs.holder) (is_new k c lt));
      leaves = sym made.count;
    }

    history : IsSeenByEngine engine.seat
    history = record { legal = tt; makers = All-nil (HasItsMaker processors); own = refl; reaches = search rules; texts = refl; vaults = no_vault }

    together : AreTogether limits cpus engine.seat
    together = record {
      hold = record {
        in_range = range;
        periods = refl;
        count = count;
        all = made.count;
        engine = refl;
        each = λ k c lt. subst (λ (z : CpuView J). Holds limits d.domain processors [] k z.cpu) (sym (is_new k c lt)) (record { domain = refl; processors_are = refl; sections = refl; processor = refl; mine = refl });
      };
      history = history;
      seen = λ k c lt. ap (λ (z : CpuView J). z.cpu.seen) (is_new k c lt);
      changes = λ k c lt. ap (λ (z : CpuView J). z.cpu.changes) (is_new k c lt);
      texts = λ k c lt. ap (λ (z : CpuView J). z.cpu.texts) (is_new k c lt);
    }

    ask_together : AskTogether [] cpus
    ask_together = record {
      mine = λ k c lt. ap (λ (z : CpuView J). z.needs.mine) (is_new k c lt);
      seen = λ k c lt. ap (λ (z : CpuView J). z.needs.seen) (is_new k c lt);
      history = λ k c lt. subst (λ (z : CpuView J). IsSeenBy z.needs) (sym (is_new k c lt)) (record { legal = tt; own = refl; idle = refl });
      root = refl;
    }

    turn_together : TurnTogether [] cpus engine
    turn_together = record {
      number = λ k c lt. ap (λ (z : CpuView J). z.turn.number) (is_new k c lt);
      seats = λ k c lt. ap (λ (z : CpuView J). z.turn.seats) (is_new k c lt) ∙ sym made.count;
      seen = λ k c lt. ap (λ (z : CpuView J). z.turn.seen) (is_new k c lt);
      lying = λ c. ap (λ (z : CpuView J). lies z.turn) (is_new 0 c all.some);
      history = λ c. subst (λ (z : CpuView J). HasSeenLegal z.turn) (sym (is_new 0 c all.some)) (record { there = (let some = all.some in let long = made.count in omega (arith, some, long)); value = engine; lay = refl; legal = tt });
    }

    tally_together : TallyTogether d [] cpus
    tally_together = record {
      seats = λ k c lt. ap (λ (z : CpuView J). z.calls) (is_new k c lt) ∙ ap (λ n. record { domain = d.domain; tallies = d.tallies; processors = n; processor = k; seen = [] }) (sym made.count);
      takers = tt;
    }

    pub met : HaveMet d limits cpus engine
    met = record { all = all; together = together; raises = []; ask_together = ask_together; swaps = []; turn_together = turn_together; deeds = []; tally_together = tally_together; cookies = refl; wanted = λ _ half. absurd (omega (arith, half)) }

    queued : queued_on cpus ≡ replicate processors 0
    queued = none_counted 0 queued_in cpus (λ k c lt. ap (λ (z : CpuView J). queued_in z.calls.processor z.calls.seen) (is_new k c lt)) ∙ ap (λ n. replicate n 0) made.count

    finished : finished_on cpus ≡ replicate processors 0
    finished = none_counted 0 finished_in cpus (λ k c lt. ap (λ (z : CpuView J). finished_in z.calls.processor z.calls.seen) (is_new k c lt)) ∙ ap (λ n. replicate n 0) made.count

    lines : lines_on cpus ≡ replicate processors no_calls
    lines = none_counted no_calls list_in cpus (λ k c lt. ap (λ (z : CpuView J). list_in z.calls.processor z.calls.seen) (is_new k c lt)) ∙ ap (λ n. replicate n no_calls) made.count

    pub is_new_domain : IsNew limits processors (seen_first d limits cpus)
    is_new_domain = subst (IsNew limits processors) (sym (first_seen d limits cpus engine 0 all.some turn_together.lying (λ c. ap (λ (z : CpuView J). greatest z.needs.seen) (is_new 0 c all.some)))) (record { limits_are = refl; nothing_yet = λ i. record { standing = new_standing limits processors; asked = 0; queued = queued i; finished = finished i }; none_waits = lines; blank = refl; count = count })
