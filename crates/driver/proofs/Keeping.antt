-- Work in a section, and calls that open no reading: the same ones are open as before.
use Rattle.std.proofs.Common.{◌≡◌, ℕ, Bool, false, not, List, [], ◌∷◌, ◌++◌, None, filter, length, refl, sym, ap, ◌∙◌, subst, append-nil}
use Rattle.std.specs.Prelude.{Option, Some, MatchOption}
use Rattle.onedom.specs.declared.event.Maker.TheVariants.{Processor}
use Rattle.onedom.specs.declared.event.Event.{Event}
use Rattle.onedom.specs.Histories.{ends, section_begun}
use Rattle.onedom.proofs.CallerLemmas.{open_sections_plain}
use Rattle.sections.specs.Glossary.{ReadingView, FoundView, is_held, open_readings, IsSameCpu, ReadLocks}
use Rattle.funnel.specs.declared.view.Holder.TheVariants as holder
use Rattle.desk.specs.BayCalls.{holds}
use Rattle.domain.specs.Glossary.{Engine, DomainView, CpuView, IsEngineOf, IsOf, Stays, IsSameProcessor, with_cpu, Act, Acts, ActsAs, loads, finds, asks_for}
use Rattle.domain.proofs.CallerLemmas.{SameOpen, still_fits, same_trans, same_polled, same_begun, begun_here, closed_again}
use Rattle.driver.specs.Glossary.{IsIdle, IsLent, Opens, Closes, IsKept}

abbrev is_reading : ℕ → Bool
is_reading s = not (is_held s)

-- an engine has one limit of periods
one_limit : (d e : DomainView) (first : Option Engine) → MatchOption first ⊥ (IsEngineOf d) → MatchOption first ⊥ (IsEngineOf e) → d.periods ≡ e.periods
one_limit d e None here there = absurd here
one_limit d e (Some v) here there = sym here.2 ∙ there.2

module _ {J : Type 0} where
  pub opened : (c begun : CpuView J) (r : ReadingView) → ReadLocks c.cpu begun.cpu r → begun ≡ with_cpu begun.cpu c → Stays c begun → Opens c r begun
  opened c begun r locks rest stays = record { locks = locks; rest = rest; same = same_polled c begun (same_begun c.cpu begun.cpu r locks) rest; stays = stays; here = begun_here c.cpu begun.cpu r locks }

  -- a section that begins, something that keeps what is open, and then its end
  pub kept_closed : (c begun worked d : CpuView J) (r : ReadingView) → Opens c r begun → IsKept begun worked → Closes r worked d → Stays worked d → IsKept c d
  kept_closed c begun worked d r o k e stays = record {
    same = same_trans c begun d o.same (same_trans begun worked d k.same (same_polled worked d e.ends.same e.rest));
    stays = λ x here. stays x (k.stays x (o.stays x here));
    readings = closed_again c.cpu begun.cpu r o.locks worked.cpu d.cpu k.readings e.ends;
  }

  -- Calls

  pub kept_itself : (c : CpuView J) → IsKept c c
  kept_itself c = record { same = same_polled c c (refl, refl, refl, refl) refl; stays = λ d here. here; readings = refl }

  pub kept_trans : (c d e : CpuView J) → IsKept c d → IsKept d e → IsKept c e
  kept_trans c d e k l = record { same = same_trans c d e k.same l.same; stays = λ x here. l.stays x (k.stays x here); readings = l.readings ∙ k.readings }

  -- a call that acts as calls of a processor do
  module _ {p : ℕ} {a : Act} (c c' : CpuView J) (acts : Acts p a c c') where
    same_acting : IsSameProcessor c c'
    same_acting = record {
      cpu = acts.events.same;
      needs = acts.needs.same;
      turn = acts.turn ∙ ap (λ z. record c.turn { seen = z.seen }) (sym acts.turn);
      calls = acts.adds.same;
    }

    stays_acting : Stays c c'
    stays_acting d is =
        let same = acts.events.same in record {
          domain = same.0 ∙ is.domain;
          bay = ap (λ z. z.bay) acts.turn ∙ is.bay;
          home = ap (λ z. z.domain) acts.turn ∙ is.home;
          first = subst (λ z. MatchOption z.first ⊥ (IsEngineOf d)) (sym acts.turn) is.first;
          free = ap holds acts.turn ∙ is.free;
          tree = acts.needs.same.domain ∙ is.tree;
          asks = acts.needs.same.holder ∙ (is.asks ∙ ap holder.Processor (sym same.3));
          many = same.1 ∙ is.many;
          fits = still_fits d c c' same acts.adds.same is.fits;
          number = ap (λ z. z.number) acts.turn ∙ (is.number ∙ sym same.3);
          seats = ap (λ z. z.seats) acts.turn ∙ is.seats;
          words = acts.adds.same.1 ∙ is.words;
        }

    -- it makes no event
    pub kept_quiet : a.events ≡ [] → IsKept c c'
    kept_quiet none = record { same = same_acting; stays = stays_acting; readings = ap open_readings (acts.events.mine ∙ (ap (λ l. c.cpu.mine ++ l) none ∙ append-nil c.cpu.mine)) }

    -- or one that neither begins nor ends a section
    pub kept_plain : (e : Event) → a.events ≡ e ∷ [] → section_begun e ≡ None → ((s : ℕ) → ends s e ≡ false) → IsKept c c'
    kept_plain e one none other = record { same = same_acting; stays = stays_acting; readings = ap open_readings (acts.events.mine ∙ ap (λ l. c.cpu.mine ++ l) one) ∙ ap (filter is_reading) (open_sections_plain c.cpu.mine e none other) }

  -- as a load, a find, and a call or a cookie that is asked for
  pub kept_loading : (c c' : CpuView J) → ActsAs loads c c' → IsKept c c'
  kept_loading c c' acts = kept_quiet c c' acts refl

  pub kept_finding : (section cell : ℕ) (f : FoundView) (c c' : CpuView J) → ActsAs (finds section cell f) c c' → IsKept c c'
  kept_finding section cell f c c' acts = kept_plain c c' acts _ refl refl (λ s. refl)

  pub kept_asking : (cookie queued : ℕ) (c c' : CpuView J) → ActsAs (asks_for cookie queued) c c' → IsKept c c'
  kept_asking cookie queued c c' acts = kept_plain c c' acts _ refl refl (λ s. refl)

  -- or as whatever changes nothing but the seat at the domain's words, and leaves the same sections open
  pub kept_open : (c c' : CpuView J) → IsSameCpu c.cpu c'.cpu → c' ≡ with_cpu c'.cpu c → SameOpen c.cpu c'.cpu → Stays c c' → IsKept c c'
  kept_open c c' same rest still stays = record { same = same_polled c c' same rest; stays = stays; readings = ap (filter is_reading) still }

  -- Domains

  -- a processor is of one domain
  one_domain : (c : CpuView J) (d e : DomainView) → IsOf d c → IsOf e c → d ≡ e
  one_domain c d e is this = λ i. record {
    domain = (sym is.domain ∙ this.domain) i;
    tree = (sym is.tree ∙ this.tree) i;
    bay = (sym is.bay ∙ this.bay) i;
    tallies = (sym is.fits.tallies ∙ this.fits.tallies) i;
    processors = (sym is.many ∙ this.many) i;
    periods = one_limit d e c.turn.first is.first this.first i;
  }

  -- so behind a call of a domain it stays of whichever it was
  pub stays_here : (d : DomainView) (c c' : CpuView J) → IsOf d c → IsOf d c' → Stays c c'
  stays_here d c c' is still e this = subst (λ (x : DomainView). IsOf x c') (one_domain c d e is this) still

  -- Processors of a pool

  -- where the same readings are open it may go back
  pub idle_kept : (d : DomainView) (c c' : CpuView J) → IsIdle d c → IsKept c c' → IsLent d c' c.cpu.processor
  idle_kept d c c' idle k = record { idle = record { here = k.stays d idle.here; closed = ap length k.readings ∙ idle.closed }; number = sym k.same.cpu.3 }
