-- What is always true of a processor stays true where its seat neither begins nor ends a section.
use Rattle.std.proofs.Common.{◌≡◌, ◌+◌, ℕ, None, false, List, [], ◌∷◌, ◌++◌, length, sym, ap, ◌∙◌}
use Rattle.sseq.specs.declared.index.Index.{Index}
use Rattle.onedom.specs.declared.event.Event.{Event}
use Rattle.onedom.specs.Histories.{section_begun, ends}
use Rattle.sections.specs.declared.cpu.Cpu.TheInside as cpu
use Rattle.sections.specs.Glossary.{Role, Step, View, locks_at, locks, open_readings, Sees, Adds, DomainSeat, IsAtRest, IsCpu}
use Rattle.sections.proofs.CpuViews.{locks_told, unclosed_told}

-- whose seat it is, and what it made
abbrev pub maker_of : View → ℕ × Role × List Event
maker_of v = (v.processors, v.role, v.mine)

module _ {A : Type 0} {c : cpu.Inside A} (i : IsCpu c) {s : DomainSeat} (table : s.table_id ≡ c.seat.table_id) (bare : s.me.1 ≡ []) (rests : IsAtRest s.me.0) where
  pub stays : s.me.0.processors ≡ c.seat.me.0.processors → s.me.0.role ≡ c.seat.me.0.role → ((k : Index) → locks c.processor k s.me.0.mine ≡ locks c.processor k c.seat.me.0.mine) → length (open_readings s.me.0.mine) ≡ length (open_readings c.seat.me.0.mine)
      → IsCpu (record c { seat = s })
  stays processors role begun unclosed = record {
    placed = record { seated = table ∙ i.placed.seated; wide = i.placed.wide; cells = i.placed.cells; bare = bare; sized = processors ∙ i.placed.sized };
    rests = rests;
    role = role ∙ i.role;
    there = i.there;
    limit = i.limit;
    begun = λ k. i.begun k ∙ sym (begun k);
    limited = i.limited;
    small = i.small;
    settled = i.settled ∙ ap (λ n. n + c.settled) (sym unclosed);
  }

  -- `j` and `w` are what the seat was right before and right after its step
  module _ {j w : View} (before : maker_of j ≡ maker_of c.seat.me.0) (after : maker_of s.me.0 ≡ maker_of w) where
    pub stays_seen : {l : Step} → Sees l j w → IsCpu (record c { seat = s })
    stays_seen h = let mine : s.me.0.mine ≡ c.seat.me.0.mine = ap (λ z. z.2) after ∙ (h.mine ∙ ap (λ z. z.2) before) in
        stays (ap (λ z. z.0) after ∙ (h.processors ∙ ap (λ z. z.0) before)) (ap (λ z. z.1) after ∙ (h.role ∙ ap (λ z. z.1) before)) (λ k. ap (locks c.processor k) mine) (ap (λ l. length (open_readings l)) mine)

    -- the event is no Begin and no End
    pub stays_told : {e : Event} → Adds j e w → section_begun e ≡ None → ((k : Index) → locks_at c.processor k e ≡ false) → ((t : ℕ) → ends t e ≡ false) → IsCpu (record c { seat = s })
    stays_told {e} a no_begin no_lock no_end = let mine : s.me.0.mine ≡ c.seat.me.0.mine ++ e ∷ [] = ap (λ z. z.2) after ∙ (a.mine ∙ ap (λ z. z.2 ++ e ∷ []) before) in
        stays (ap (λ z. z.0) after ∙ (a.processors ∙ ap (λ z. z.0) before)) (ap (λ z. z.1) after ∙ (a.role ∙ ap (λ z. z.1) before)) (λ k. locks_told c.processor k e c.seat.me.0.mine s.me.0.mine (no_lock k) mine) (unclosed_told e c.seat.me.0.mine s.me.0.mine no_begin no_end mine)
