-- Waiting up to a limit of time.
use Rattle.std.proofs.Common.{◌≡◌, ℕ, false, Option, List, [], ◌∷◌, sym, ap, ◌∙◌, subst, append-nil}
use Rattle.onedom.specs.declared.event.Maker.TheVariants.{Processor}
use Rattle.onedom.specs.Histories.{open_sections}
use Rattle.sections.specs.Views as sections
use Rattle.sections.specs.Calls.{Asks}
use Rattle.scan.specs.declared.progress.Progress.{Progress}
use Rattle.calls.specs.declared.view.Act.{Act}
use Rattle.calls.specs.Glossary.{CallSeatView, TicketView, Loads, Polls, finished_loads}
use Rattle.domain.specs.Glossary.{DomainView, CpuView, with_cpu, with_calls, HasNoneOpen, Turns, rows_of_loads, PollsThrough, loads, ActsAs, TimesOut, PollsInVain}
use Rattle.domain.proofs.Synchronizing.{HasWaited, asks_in_vain, one_in_vain, noted_opens_none, none_open}
use Rattle.domain.proofs.Polling.{PollsSoFar, HasPolled, loads_on}
use Rattle.domain.proofs.Acting.{adds_loads, rows_count, loads_deeds}

module _ {J : Type 0} where
  -- a round in vain was the last
  pub times_out : (d : DomainView) (c at x y : CpuView J) (k : sections.CookieView) (p : Option Progress) → HasWaited d c k at x → Turns p at x → Asks k.seen k.changes k.number false x.cpu y.cpu → y ≡ with_cpu y.cpu x → TimesOut k c y
  times_out d c at x y k p h turn a rest =
      let w = asks_in_vain d c at x y k p h turn a rest in
      record {
        domain = w.of_domain;
        waits = record { asked = w.asked; starts = w.starts; rounds = w.rounds; through = w.through; no_more = w.no_more; calls = w.calls };
        gives = w.gives;
        vain = w.vain;
        some = one_in_vain d c at x y k p h turn a rest;
        all_vain = w.all_vain;
        one_each = w.one_each;
        mine = w.mine;
      }

  pub none_timed_out : (c c' : CpuView J) (k : sections.CookieView) → HasNoneOpen c → TimesOut k c c' → HasNoneOpen c'
  none_timed_out c c' k none s = none_open c c' none (ap open_sections s.mine ∙ noted_opens_none k.number (Processor c.cpu.processor) c.cpu.mine s.vain s.all_vain)

  -- Polls

  and_one_in_vain : (t : TicketView) (vain : List (CallSeatView J)) (s m n : CallSeatView J) → PollsSoFar t vain s m → Polls t m false n → PollsThrough (λ u w. Polls t u false w) t vain s n
  and_one_in_vain t [] s m n same p = subst (λ (u : CallSeatView J). Polls t u false n) same p
  and_one_in_vain t (v ∷ vs) s m n h p = (h.0, and_one_in_vain t vs v m n h.1 p)

  -- what a row of polls in vain found
  record VainRows (s s' : CallSeatView J) : Type 0 where
    found : List (List ℕ)
    loads : Loads (rows_of_loads found) s s'

  rows_in_vain : (t : TicketView) (vain : List (CallSeatView J)) (s s' : CallSeatView J) → PollsThrough (λ m n. Polls t m false n) t vain s s' → VainRows s s'
  rows_in_vain t [] s s' h = record { found = h.found ∷ []; loads = subst (λ (acts : List (Act J)). Loads acts s s') (sym (append-nil (finished_loads 0 h.found))) h.loads }
  rows_in_vain t (m ∷ ms) s s' h =
      let more = rows_in_vain t ms m s' h.1 in record {
        found = h.0.found ∷ more.found;
        loads = loads_on (finished_loads 0 h.0.found) (rows_of_loads more.found) s m s' h.0.loads more.loads;
      }

  pub polls_in_vain_at_last : (d : DomainView) (c x y : CpuView J) (t : TicketView) → HasPolled d c t x → Polls t x.calls false y.calls → PollsInVain t c.calls y.calls
  polls_in_vain_at_last d c x y t h p =
      let through = and_one_in_vain t h.vain c.calls x.calls y.calls h.through p in
      let rows = rows_in_vain t h.vain c.calls y.calls through in
      record { vain = h.vain; through = through; found = rows.found; loads = rows.loads }

  pub vain_acts : (c c' : CpuView J) → c' ≡ with_calls c'.calls c → (t : TicketView) → PollsInVain t c.calls c'.calls → ActsAs loads c c'
  vain_acts c c' rest t h = loads_deeds c c' rest _ (adds_loads (rows_of_loads h.found) c.calls c'.calls h.loads) (rows_count c.calls.processor h.found)
