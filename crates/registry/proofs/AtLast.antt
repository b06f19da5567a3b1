-- Tries and waits change nothing, until the last try does.
use Rattle.std.proofs.Common.{◌≡◌, ◌≢◌, ◌⊎◌, List, Result, Ok, Err, MatchResult, inl, inr, refl, ◌∙◌, subst}
use Rattle.std.specs.Prelude.{IfErr}
use Rattle.std.specs.declared.cmp.Ordering.{Ordering}
use Rattle.onedom.specs.Histories.{IsBeginning}
use Rattle.onedom.proofs.CallerLemmas.{beginning_refl, beginning_trans}
use Rattle.domain.specs.Views.{CpuView, IsSameProcessor}
use Rattle.domain.proofs.CallerLemmas.{same_polled, same_trans}
use Rattle.registry.specs.declared.refusals.StayRefusal.{StayRefusal}
use Rattle.registry.specs.declared.refusals.StayRefusal.TheVariants as stay
use Rattle.registry.specs.Names.{names_of}
use Rattle.registry.specs.Registry.{RegistryView}
use Rattle.registry.specs.Changing.{Refuses, Removes}
use Rattle.registry.specs.Refusing.{IsTaken, IsUntaken, StaysAtOnce}
use Rattle.registry.specs.Waiting.{ChangesNothing, RemovesAtLast, StaysThere}
use Rattle.registry.proofs.Parts.{there}
use Rattle.registry.proofs.Opening.{same_refused, same_removed, since_collected, writer_collected, writer_same, writer_trans}

-- a key that one device has is not free
not_both : {K V : Type 0} (cmp : K → K → Ordering) (key : K) (names : List (K × V)) → IsTaken cmp key names → IsUntaken cmp key names → ⊥
not_both cmp key names taken untaken = let d = there names taken.0 taken.1 in untaken taken.0 d.0 taken.1 (taken.2 d.0)

module _ {K V A J : Type 0} where
  pub nothing_yet : (r : RegistryView K V A) (c : CpuView J) → ChangesNothing r c r c
  nothing_yet r c = record { here = refl; leaving = refl; writer = writer_same r.writer.writer; by = same_polled c c (refl, refl, refl, refl) refl; since = beginning_refl c.cpu.seen }

  refused_once : (r r' : RegistryView K V A) (c c' : CpuView J) → Refuses r c r' c' → ChangesNothing r c r' c'
  refused_once r r' c c' h = record {
    here = h.here;
    leaving = h.leaving;
    writer = writer_collected r.writer r'.writer c.cpu c'.cpu h.collects;
    by = same_refused r r' c c' h;
    since = since_collected r.writer r'.writer c.cpu c'.cpu h.collects;
  }

  -- so far nothing was changed; then a try was refused, and the processor waited
  pub nothing_more : (r s t : RegistryView K V A) (c d e f : CpuView J) → ChangesNothing r c s d → Refuses s d t e → IsSameProcessor e f → IsBeginning e.cpu.seen f.cpu.seen → ChangesNothing r c t f
  nothing_more r s t c d e f so_far refused by since =
      let once = refused_once s t d e refused in record {
        here = once.here ∙ so_far.here;
        leaving = once.leaving ∙ so_far.leaving;
        writer = writer_trans r.writer.writer s.writer.writer t.writer.writer so_far.writer once.writer;
        by = same_trans c d f so_far.by (same_trans d e f once.by by);
        since = beginning_trans so_far.since (beginning_trans once.since since);
      }

  module _ (cmp : K → K → Ordering) (key : K) where
    -- the device was there at the last try, so it was there when the call began
    pub taken_before : (r s : RegistryView K V A) (c d : CpuView J) → ChangesNothing r c s d → IsTaken cmp key (names_of s.here) → IsTaken cmp key (names_of r.here)
    taken_before r s c d so_far taken = subst (IsTaken cmp key) so_far.here taken

    -- What one try answers

    module _ (s t : RegistryView K V A) (d e : CpuView J) where
      abbrev pub Tries : Result (Unit {0}) StayRefusal → Type 0
      Tries o = MatchResult o (λ _. Removes cmp key s d t e) (λ why. Refuses s d t e × StaysAtOnce cmp key why (names_of s.here) t.writer)

      pub same_tried : (o : Result (Unit {0}) StayRefusal) → Tries o → IsSameProcessor d e
      same_tried (Ok u) h = same_removed cmp key s t d e h
      same_tried (Err why) h = same_refused s t d e h.0

      pub no_limit_tried : (o : Result (Unit {0}) StayRefusal) → Tries o → IfErr o (λ why. why ≢ stay.TimedOut)
      no_limit_tried (Ok u) h = tt
      no_limit_tried (Err stay.NotThere) h = λ e. cc
      no_limit_tried (Err stay.Memory) h = λ e. cc
      no_limit_tried (Err stay.Spent) h = λ e. cc
      no_limit_tried (Err stay.Periods) h = λ e. cc
      no_limit_tried (Err stay.TimedOut) h = absurd h.1

      -- it is the call's answer, as those before it changed nothing: it is the first one, or the device was there
      pub ends_at_last : (r : RegistryView K V A) (c : CpuView J) (o : Result (Unit {0}) StayRefusal) → ChangesNothing r c s d → ((s ≡ r) × (d ≡ c)) ⊎ IsTaken cmp key (names_of r.here) → Tries o
          → MatchResult o (λ _. RemovesAtLast cmp key r c t e) (λ why. StaysThere cmp key why r c t e)
      ends_at_last r c (Ok u) so_far first h = record { last = s; at = d; vain = so_far; removes = h }
      ends_at_last r c (Err stay.NotThere) so_far (inl same) h =
          subst (λ (z : RegistryView K V A). Refuses z c t e × IsUntaken cmp key (names_of z.here)) same.0 (subst (λ (z : CpuView J). Refuses s z t e × IsUntaken cmp key (names_of s.here)) same.1 h)
      ends_at_last r c (Err stay.NotThere) so_far (inr taken) h = absurd (not_both cmp key (names_of r.here) taken (subst (IsUntaken cmp key) so_far.here h.1))
      ends_at_last r c (Err stay.Memory) so_far first h = (record { last = s; at = d; vain = so_far; refuses = h.0 }, subst (IsTaken cmp key) so_far.here h.1)
      ends_at_last r c (Err stay.Spent) so_far first h = (record { last = s; at = d; vain = so_far; refuses = h.0 }, subst (IsTaken cmp key) so_far.here h.1.0, h.1.1)
      ends_at_last r c (Err stay.Periods) so_far first h = absurd h.1
      ends_at_last r c (Err stay.TimedOut) so_far first h = absurd h.1
