-- Waiting for a barrier: polls in a row until the ticket is done.
use Rattle.std.proofs.Common.{◌≡◌, ℕ, ◌+◌, true, false, List, [], ◌∷◌, ◌++◌, length, map, refl, sym, ap, ◌∙◌, subst, append_assoc, append-nil, arith}
use Rattle.std.proofs.lemmas.List.{map-append}
use Rattle.calls.specs.declared.view.Act.{Act}
use Rattle.calls.specs.declared.view.Deed.{Deed}
use Rattle.calls.specs.Glossary.{deed, deeds_of, IsBeginning, CallSeatView, TicketView, Loads, Polls, finished_loads}
use Rattle.domain.specs.Glossary.{DomainView, CpuView, IsOf, with_calls, HasNoneOpen, rows_of_loads, PollsThrough, PollsUntilDone}
use Rattle.domain.proofs.Staying.{same_seat_trans}

-- Loads

module _ {J : Type 0} where
  begins_on : {a b c : List (Deed J)} → IsBeginning a b → IsBeginning b c → IsBeginning a c
  begins_on {a} h k = record { rest = h.rest ++ k.rest; whole = k.whole ∙ (ap (λ l. l ++ k.rest) h.whole ∙ append_assoc a h.rest k.rest) }

  -- some loads and then others
  pub loads_on : (a b : List (Act J)) (s m t : CallSeatView J) → Loads a s m → Loads b m t → Loads (a ++ b) s t
  loads_on a b s m t h k =
      let p : ℕ = s.processor in
      let own : deeds_of p t.seen ≡ deeds_of p m.seen ++ map (deed p) b = subst (λ (q : ℕ). deeds_of q t.seen ≡ deeds_of q m.seen ++ map (deed q) b) h.same.2 k.own in record {
        same = same_seat_trans s m t h.same k.same;
        since = begins_on h.since k.since;
        own = own ∙ (ap (λ l. l ++ map (deed p) b) h.own ∙ (append_assoc (deeds_of p s.seen) (map (deed p) a) (map (deed p) b) ∙ ap (λ l. deeds_of p s.seen ++ l) (sym (map-append (deed p) a b))));
        loads = k.loads;
      }

  -- what a row of polls found
  record Rows (vain : List (CallSeatView J)) (s s' : CallSeatView J) : Type 0 where
    found : List (List ℕ)
    one_each : length found ≡ length vain + 1
    loads : Loads (rows_of_loads found) s s'

  rows_of_polls : (t : TicketView) (vain : List (CallSeatView J)) (s s' : CallSeatView J) → PollsThrough (λ m n. Polls t m true n) t vain s s' → Rows vain s s'
  rows_of_polls t [] s s' h = record { found = h.found ∷ []; one_each = refl; loads = subst (λ (acts : List (Act J)). Loads acts s s') (sym (append-nil (finished_loads 0 h.found))) h.loads }
  rows_of_polls t (m ∷ ms) s s' h =
      let more = rows_of_polls t ms m s' h.1 in
      let count = more.one_each in record {
        found = h.0.found ∷ more.found;
        one_each = omega (arith, count);
        loads = loads_on (finished_loads 0 h.0.found) (rows_of_loads more.found) s m s' h.0.loads more.loads;
      }

  -- Polls

  -- a row of polls in vain so far
  abbrev pub PollsSoFar : TicketView → List (CallSeatView J) → CallSeatView J → CallSeatView J → Type 0
  PollsSoFar t = PollsThrough (λ m n. n ≡ m) t

  one_more_poll : (t : TicketView) (vain : List (CallSeatView J)) (s m n : CallSeatView J) → PollsSoFar t vain s m → Polls t m false n → PollsSoFar t (vain ++ n ∷ []) s n
  one_more_poll t [] s m n same p = (subst (λ (u : CallSeatView J). Polls t u false n) same p, refl)
  one_more_poll t (v ∷ vs) s m n h p = (h.0, one_more_poll t vs v m n h.1 p)

  and_the_last : (t : TicketView) (vain : List (CallSeatView J)) (s m n : CallSeatView J) → PollsSoFar t vain s m → Polls t m true n → PollsThrough (λ u w. Polls t u true w) t vain s n
  and_the_last t [] s m n same p = subst (λ (u : CallSeatView J). Polls t u true n) same p
  and_the_last t (v ∷ vs) s m n h p = (h.0, and_the_last t vs v m n h.1 p)

  -- the ticket was polled in vain until now, and nothing else was done
  pub record HasPolled (d : DomainView) (c : CpuView J) (t : TicketView) (x : CpuView J) : Type 0 where
    pub here : IsOf d x
    pub vain : List (CallSeatView J)
    pub through : PollsSoFar t vain c.calls x.calls
    pub rest : x ≡ with_calls x.calls c

  pub polls_none : (d : DomainView) (c : CpuView J) (t : TicketView) → IsOf d c → HasPolled d c t c
  polls_none d c t here = record { here = here; vain = []; through = refl; rest = refl }

  -- nothing but the seat at the tally words has changed, behind both
  rest_on : (c x y : CpuView J) → x ≡ with_calls x.calls c → y ≡ with_calls y.calls x → y ≡ with_calls y.calls c
  rest_on c x y h k = k ∙ ap (λ (z : CpuView J). with_calls y.calls z) h

  pub polls_in_vain : (d : DomainView) (c x y : CpuView J) (t : TicketView) → HasPolled d c t x → IsOf d y → Polls t x.calls false y.calls → y ≡ with_calls y.calls x → HasPolled d c t y
  polls_in_vain d c x y t h here p rest = record { here = here; vain = h.vain ++ y.calls ∷ []; through = one_more_poll t h.vain c.calls x.calls y.calls h.through p; rest = rest_on c x y h.rest rest }

  -- The answer

  pub polls_until_done : (d : DomainView) (c x y : CpuView J) (t : TicketView) → HasPolled d c t x → Polls t x.calls true y.calls → PollsUntilDone t c.calls y.calls
  polls_until_done d c x y t h p =
      let through = and_the_last t h.vain c.calls x.calls y.calls h.through p in
      let rows = rows_of_polls t h.vain c.calls y.calls through in
      record { vain = h.vain; through = through; found = rows.found; one_each = rows.one_each; loads = rows.loads }

  pub rest_at_the_end : (d : DomainView) (c x y : CpuView J) (t : TicketView) → HasPolled d c t x → y ≡ with_calls y.calls x → y ≡ with_calls y.calls c
  rest_at_the_end d c x y t h rest = rest_on c x y h.rest rest

  -- no reading is opened at the tally words
  pub none_at_tallies : (c c' : CpuView J) → HasNoneOpen c → c' ≡ with_calls c'.calls c → HasNoneOpen c'
  none_at_tallies c c' none rest = subst (λ (z : CpuView J). HasNoneOpen z) (sym rest) none
