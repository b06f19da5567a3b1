-- A processor's seats stay those of its domain.
use Rattle.std.proofs.Common.{◌≡◌, ◌<◌, false, refl, sym, ap, ◌∙◌, subst}
use Rattle.std.specs.Prelude.{MatchOption}
use Rattle.sections.specs.Calls.{IsSameCpu}
use Rattle.funnel.specs.declared.view.Holder.TheVariants.{Processor}
use Rattle.desk.specs.Glossary.{BaySeatView, holds}
use Rattle.calls.specs.Glossary.{CallSeatView, IsSameSeat, FitsIn}
use Rattle.domain.specs.Views.{Engine, DomainView, CpuView, IsEngineOf, IsOf, IsSameProcessor, callbacks_of, with_cpu, with_calls}

module _ {J : Type 0} where
  -- the seat at the tally words, as it was
  pub seat_the_same : (s t : CallSeatView J) → t ≡ s → IsSameSeat s t
  seat_the_same s t e = (ap (λ (z : CallSeatView J). z.tallies) e, ap (λ (z : CallSeatView J). z.processors) e, ap (λ (z : CallSeatView J). z.processor) e, ap (λ (z : CallSeatView J). z.domain) e)

  -- one call and then another
  pub same_seat_trans : (s t u : CallSeatView J) → IsSameSeat s t → IsSameSeat t u → IsSameSeat s u
  same_seat_trans s t u h i = (i.0 ∙ h.0, i.1 ∙ h.1, i.2 ∙ h.2, i.3 ∙ h.3)

  -- the processor and its seat at the tally words stay of one domain
  pub still_fits : (d : DomainView) (c c' : CpuView J) → IsSameCpu c.cpu c'.cpu → IsSameSeat c.calls c'.calls → FitsIn (callbacks_of d) c.cpu c.calls → FitsIn (callbacks_of d) c'.cpu c'.calls
  still_fits d c c' cpu seat f = record {
    domain = cpu.0 ∙ f.domain;
    seat = seat.3 ∙ f.seat;
    tallies = seat.0 ∙ f.tallies;
    cpu = cpu.3 ∙ (f.cpu ∙ sym seat.2);
    there = subst (λ n. n < d.processors) (sym seat.2) f.there;
  }

  -- behind any call after which it does not have the engine
  pub still_of : (d : DomainView) (c c' : CpuView J) → IsOf d c → IsSameProcessor c c' → holds c'.turn ≡ false → IsOf d c'
  still_of d c c' is same free = record {
    domain = same.cpu.0 ∙ is.domain;
    bay = ap (λ (z : BaySeatView Engine). z.bay) same.turn ∙ is.bay;
    home = ap (λ (z : BaySeatView Engine). z.domain) same.turn ∙ is.home;
    first = subst (λ (z : BaySeatView Engine). MatchOption z.first ⊥ (IsEngineOf d)) (sym same.turn) is.first;
    free = free;
    tree = same.needs.domain ∙ is.tree;
    asks = same.needs.holder ∙ (is.asks ∙ ap Processor (sym same.cpu.3));
    many = same.cpu.1 ∙ is.many;
    fits = still_fits d c c' same.cpu same.calls is.fits;
    number = ap (λ (z : BaySeatView Engine). z.number) same.turn ∙ (is.number ∙ sym same.cpu.3);
    seats = ap (λ (z : BaySeatView Engine). z.seats) same.turn ∙ is.seats;
    words = same.calls.1 ∙ is.words;
  }

  -- behind a call at its seat at the domain's words
  pub still_with_cpu : (d : DomainView) (c c' : CpuView J) → IsOf d c → IsSameCpu c.cpu c'.cpu → c' ≡ with_cpu c'.cpu c → IsOf d c'
  still_with_cpu d c c' is same rest = subst (λ (z : CpuView J). IsOf d z) (sym rest) record {
    domain = same.0 ∙ is.domain;
    bay = is.bay;
    home = is.home;
    first = is.first;
    free = is.free;
    tree = is.tree;
    asks = is.asks ∙ ap Processor (sym same.3);
    many = same.1 ∙ is.many;
    fits = still_fits d c (with_cpu c'.cpu c) same (refl, refl, refl, refl) is.fits;
    number = is.number ∙ sym same.3;
    seats = is.seats;
    words = is.words;
  }

  -- behind a call at its seat at the tally words
  pub still_with_calls : (d : DomainView) (c c' : CpuView J) → IsOf d c → IsSameSeat c.calls c'.calls → c' ≡ with_calls c'.calls c → IsOf d c'
  still_with_calls d c c' is same rest = subst (λ (z : CpuView J). IsOf d z) (sym rest) record {
    domain = is.domain;
    bay = is.bay;
    home = is.home;
    first = is.first;
    free = is.free;
    tree = is.tree;
    asks = is.asks;
    many = is.many;
    fits = still_fits d c (with_calls c'.calls c) (refl, refl, refl, refl) same is.fits;
    number = is.number;
    seats = is.seats;
    words = same.1 ∙ is.words;
  }

  -- behind a call at both
  pub still_with_both : (d : DomainView) (c c' : CpuView J) → IsOf d c → IsSameCpu c.cpu c'.cpu → IsSameSeat c.calls c'.calls → c' ≡ with_calls c'.calls (with_cpu c'.cpu c) → IsOf d c'
  still_with_both d c c' is cpu seat rest = subst (λ (z : CpuView J). IsOf d z) (sym rest) record {
    domain = cpu.0 ∙ is.domain;
    bay = is.bay;
    home = is.home;
    first = is.first;
    free = is.free;
    tree = is.tree;
    asks = is.asks ∙ ap Processor (sym cpu.3);
    many = cpu.1 ∙ is.many;
    fits = still_fits d c (with_calls c'.calls (with_cpu c'.cpu c)) cpu seat is.fits;
    number = is.number ∙ sym cpu.3;
    seats = is.seats;
    words = seat.1 ∙ is.words;
  }
