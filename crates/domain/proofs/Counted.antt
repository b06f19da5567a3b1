-- With all processors in hand nothing is done while the counters are added up.
use Rattle.std.proofs.Common.{◌≡◌, ◌≢◌, ℕ, zero, suc, ◌+◌, ◌<◌, ◌≤◌, cond, List, [], ◌∷◌, ◌++◌, map, sum, get_or, length, All, Some, None, false, refl, sym, ap, ◌∙◌, subst, arith, append_assoc, append-nil, length-append}
use Rattle.std.specs.Prelude.{MatchOption}
use Rattle.std.proofs.lemmas.List.{map-append}
use Rattle.std.proofs.lemmas.List.Sums.{sum_by-cons}
use Rattle.std.proofs.lemmas.List.Elements.{filter-append, All-head, All-tail}
use Rattle.onedom.specs.declared.event.Maker.{Maker}
use Rattle.onedom.specs.declared.event.Maker.TheVariants.{Processor, Engine}
use Rattle.onedom.specs.declared.event.Event.{Event}
use Rattle.onedom.specs.declared.event.Event.TheVariants.{Begin, End, Start, Finish, Note, Ask, Find, Put}
use Rattle.onedom.specs.Histories.{maker_of, same_maker, made_by, IsBeginning}
use Rattle.onedom.proofs.CallerLemmas.{same_maker_refl, beginning_trans, count_grows}
use Rattle.calls.specs.declared.view.Deed.{Deed}
use Rattle.calls.specs.Tallies as deeds
use Rattle.calls.specs.Glossary.{deed, queued_in, deeds_of, AreTakers, CallSeatView, queued_loads, finished_loads, AddsUp, AreTotals, added, all_queued, all_finished}
use Rattle.calls.specs.Meetings as tallies
use Rattle.calls.proofs.CallerLemmas.{begins_itself, begins_on, rested, totals_exact}
use Rattle.sections.specs.Glossary.{HasItsMaker, IsProcessor, IsStart, IsTied, number_word, opened_in, closed_in, is_begin, is_end}
use Rattle.sections.specs.declared.view.Shown.TheVariants.{To}
use Rattle.sections.specs.Views as sections
use Rattle.sections.specs.Calls as calls
use Rattle.sections.specs.EngineCalls.{Covers}
use Rattle.sections.proofs.CallerLemmas.{seen_all, start_trans}
use Rattle.scan.specs.Glossary.{with_seat, Takes}
use Rattle.funnel.specs.declared.view.Holder.TheVariants as holder
use Rattle.desk.specs.Glossary.{BaySeatView, holds, MakesSwap}
use Rattle.domain.specs.Views as views
use Rattle.domain.specs.Glossary.{DomainView, CpuView, IsEngineOf, IsOf, IsJoined, CountsSections, IsHistoryOf, CountsHistory, HasMet, HaveMet, AreAllThere, CountsInAll, AreDeedsOf, HasHeard, CountsCalls, Each, AreAllTurns, EngineCovers, CallsCover, EachBecomes, IsHeard}
use Rattle.domain.proofs.Lending.{turn_same}
use Rattle.domain.proofs.Staying.{still_fits, still_with_cpu, still_with_calls}
use Rattle.domain.proofs.Rows.{each_next}

module _ {J : Type 0} where
  -- the engine stays as it was first, and admits one more processor
  pub joined_here : (e e0 : views.Engine) (c : CpuView J) (cpu' : sections.CpuView) → e ≡ e0 → IsBeginning c.cpu.seen e0.seat.seen × (c.cpu.changes ≤ e0.seat.changes)
      → calls.Accepts c.cpu e.seat.seen e.seat.changes e.seat.texts cpu' → calls.IsSeenBy c.cpu → c.cpu.processors ≡ e.seat.processors → ((m : ℕ) → e.seat.shown ≡ To c.cpu.processor m → m ≤ c.cpu.changes)
      → IsJoined e0.seat c (record { cpu = cpu'; needs = c.needs; turn = c.turn; calls = c.calls })
  joined_here e e0 c cpu' same covered accepts was sized heard = record {
    cpu = record { accepts = subst (λ (z : views.Engine). calls.Accepts c.cpu z.seat.seen z.seat.changes z.seat.texts cpu') same accepts; since = covered.0; later = covered.1 };
    was = was;
    sized = sized ∙ ap (λ (z : views.Engine). z.seat.processors) same;
    heard = subst (λ (z : views.Engine). (m : ℕ) → z.seat.shown ≡ To c.cpu.processor m → m ≤ c.cpu.changes) same heard;
    rest = refl;
  }

-- A history in which each maker has no more events

abbrev IsMaker : ℕ → Maker → Type 0
IsMaker n (Processor p) = p < n
IsMaker n Engine = Unit {0}

abbrev made : Maker → List Event → ℕ
made m history = length (made_by m history)

a_processor : (n : ℕ) (by : Maker) → IsProcessor n by → IsMaker n by
a_processor n (Processor p) h = h
a_processor n Engine h = absurd h

its_maker : (n : ℕ) (e : Event) → HasItsMaker n e → IsMaker n (maker_of e)
its_maker n (Begin s p i by) h = subst (IsMaker n) (sym h.1) h.0
its_maker n (End s q by) h = subst (IsMaker n) (sym h.1) h.0
its_maker n (Start by) h = subst (IsMaker n) (sym h) tt
its_maker n (Finish by) h = subst (IsMaker n) (sym h) tt
its_maker n (Note c by) h = a_processor n by h
its_maker n (Ask c b by) h = a_processor n by h
its_maker n (Find s c x v by) h = a_processor n by h
its_maker n (Put c x v by) h = a_processor n by h

made_append : (m : Maker) (a b : List Event) → made m (a ++ b) ≡ made m a + made m b
made_append m a b = ap length (filter-append (λ e. same_maker (maker_of e) m) a b) ∙ length-append (made_by m a) (made_by m b)

made_first : (e : Event) (es : List Event) → made (maker_of e) (e ∷ es) ≡ suc (made (maker_of e) es)
made_first e es = ap (λ b. length (cond b (e ∷ made_by (maker_of e) es) (made_by (maker_of e) es))) (same_maker_refl (maker_of e))

last_part : {X : Type 0} (P : X → Type 0) (a b : List X) → All P (a ++ b) → All P b
last_part P [] b h = h
last_part P (x ∷ a) b h = last_part P a b (All-tail P x (a ++ b) h)

nobody : (n : ℕ) (es : List Event) → All (HasItsMaker n) es → ((m : Maker) → IsMaker n m → made m es ≡ 0) → es ≡ []
nobody n [] all none = refl
nobody n (e ∷ es) all none = let no_one = none (maker_of e) (its_maker n e (All-head (HasItsMaker n) e es all)) in let first = made_first e es in absurd (omega (arith, first, no_one))

pub nothing_more : (n : ℕ) (seen history : List Event) → IsBeginning seen history → All (HasItsMaker n) history → ((m : Maker) → IsMaker n m → made m history ≡ made m seen) → history ≡ seen
nothing_more n seen history h makers same =
    let none = nobody n h.rest (last_part (HasItsMaker n) seen h.rest (subst (All (HasItsMaker n)) h.whole makers))
    (λ m is. let a = same m is in let b = ap (made m) h.whole ∙ made_append m seen h.rest in omega (arith, a, b)) in
    h.whole ∙ (ap (λ l. seen ++ l) none ∙ append-nil seen)

-- where the processor has no more events in the end than it had seen, it has as many at each moment between
as_many : (m : Maker) (seen between history : List Event) → IsBeginning seen between → IsBeginning between history → made m history ≡ made m seen → made m history ≡ made m between
as_many m seen between history a b same =
    let x = ap (made m) a.whole ∙ made_append m seen a.rest in
    let y = ap (made m) b.whole ∙ made_append m between b.rest in
    omega (arith, x, y, same)

-- Who is there

-- all seats at the place where the engine lies are there
module _ {J : Type 0} (d : DomainView) (c : CpuView J) (cs : List (CpuView J)) (here : Each (IsOf d) (c ∷ cs)) where
  first : IsOf d c
  first = here 0 c (omega arith)

  other : (k : ℕ) (x : CpuView J) → k < length cs → IsOf d (get_or cs k x)
  other k x lt = here (suc k) x (omega (arith, lt))

  pub all_turns : AreAllThere d (c ∷ cs) → AreAllTurns c.turn cs
  all_turns there = record {
    free = first.free;
    others_free = λ k x lt. (other k x lt).free;
    each = λ n lt ne. let seats = first.seats in let one = there n (omega (arith, lt, seats)) in place n ne one.0 one.1 one.2;
  }
    where
      place : (n : ℕ) → n ≢ c.turn.number → (k : ℕ) → k < length (c ∷ cs) → ((x : CpuView J) → (get_or (c ∷ cs) k x).cpu.processor ≡ n) → (k : ℕ) × (k < length cs) × ((x : CpuView J) → (get_or cs k x).turn.number ≡ n)
      place n ne zero lt is = absurd (ne (sym (first.number ∙ is c)))
      place n ne (suc k) lt is = (k, omega (arith, lt), λ x. (other k x (omega (arith, lt))).number ∙ is x)

  pub turns_here : Each (λ x. x.turn.bay ≡ d.bay) cs
  turns_here k x lt = (other k x lt).bay

  -- the engine is of this domain
  module _ (e0 : views.Engine) (took : BaySeatView views.Engine) (takes : Takes c.turn e0 took) (at : e0.seat.domain ≡ c.turn.domain) where
    pub engine_here : e0.seat.domain ≡ d.domain
    engine_here = at ∙ first.home

    pub first_here : c.cpu.domain ≡ e0.seat.domain
    first_here = first.domain ∙ sym engine_here

    pub others_here : (e : sections.EngineView) → e.domain ≡ e0.seat.domain → Each (λ x. x.cpu.domain ≡ e.domain) cs
    others_here e same k x lt = (other k x lt).domain ∙ sym (same ∙ engine_here)

-- Counting

module _ {J : Type 0} (d : DomainView) (c : CpuView J) (cs cs' : List (CpuView J)) (here : Each (IsOf d) (c ∷ cs)) (there : AreAllThere d (c ∷ cs)) (e0 e1 e2 e3 : views.Engine) (took t' : BaySeatView views.Engine) (cpu1 cpu2 cpu3 : sections.CpuView) (opened closed number : ℕ)
    (takes : Takes c.turn e0 took) (tied : IsTied e0.seat)
    (covers : Covers e0.seat c.cpu.seen c.cpu.changes e1.seat) (covers_all : EngineCovers e1.seat cs e2.seat)
    (accepts : calls.Accepts c.cpu e2.seat.seen e2.seat.changes e2.seat.texts cpu1) (was : calls.IsSeenBy c.cpu) (sized : c.cpu.processors ≡ e2.seat.processors) (heard : (n : ℕ) → e2.seat.shown ≡ To c.cpu.processor n → n ≤ c.cpu.changes)
    (counts : CountsSections opened closed cpu1 cpu2) (number_is : number ≡ number_word e2.seat.changes)
    (again : Covers e2.seat cpu2.seen cpu2.changes e3.seat) (accepts_too : calls.Accepts cpu2 e3.seat.seen e3.seat.changes e3.seat.texts cpu3)
    (joined : EachBecomes (IsJoined e3.seat) cs cs') (puts : MakesSwap took (Some e3) None t') (free : holds t' ≡ false) where
  abbrev all : List (CpuView J)
  all = c ∷ cs

  abbrev pub after : List (CpuView J)
  after = record { cpu = cpu3; needs = c.needs; turn = t'; calls = c.calls } ∷ cs'

  -- all that was done
  abbrev history : List Event
  history = e3.seat.seen

  many : e3.seat.processors ≡ d.processors
  many = again.step.same.1 ∙ (sym sized ∙ (here 0 c (omega arith)).many)

  makers : All (HasItsMaker d.processors) history
  makers = subst (λ n. All (HasItsMaker n) history) many again.step.history.makers

  inside : (k : ℕ) → suc k < length all → k < length cs
  inside k lt = omega (arith, lt)

  -- each has in it just its own events

  first_mine : cpu3.mine ≡ c.cpu.mine
  first_mine = accepts_too.mine ∙ (counts.loads.mine ∙ accepts.mine)

  first_same : calls.IsSameCpu c.cpu cpu3
  first_same = (accepts_too.same.0 ∙ (counts.loads.same.0 ∙ accepts.same.0), accepts_too.same.1 ∙ (counts.loads.same.1 ∙ accepts.same.1), accepts_too.same.2 ∙ (counts.loads.same.2 ∙ accepts.same.2), accepts_too.same.3 ∙ (counts.loads.same.3 ∙ accepts.same.3))

  pub own : (k : ℕ) (x : CpuView J) → k < length all → made_by (Processor (get_or all k x).cpu.processor) history ≡ (get_or all k x).cpu.mine
  own zero x lt = sym (accepts_too.history.own ∙ (λ i. made_by (Processor (first_same.3 i)) (accepts_too.seen i))) ∙ first_mine
  own (suc k) x lt = let a = (joined.each k x (inside k lt)).cpu.accepts in sym (a.history.own ∙ (λ i. made_by (Processor (a.same.3 i)) (a.seen i))) ∙ a.mine

  engine_own : made_by Engine history ≡ e0.seat.mine
  engine_own = sym again.step.history.own ∙ (again.step.mine ∙ (covers_all.mine ∙ covers.step.mine))

  pub since : (k : ℕ) (x : CpuView J) → k < length all → IsBeginning (get_or all k x).cpu.seen e2.seat.seen
  since zero x lt = beginning_trans covers.covers covers_all.since
  since (suc k) x lt = (covers_all.covers k x (inside k lt)).0

  was_seen : (k : ℕ) (x : CpuView J) → k < length all → calls.IsSeenBy (get_or all k x).cpu
  was_seen zero x lt = was
  was_seen (suc k) x lt = (joined.each k x (inside k lt)).was

  as_many_of : (m : Maker) → IsMaker d.processors m → made m history ≡ made m e2.seat.seen
  as_many_of (Processor p) lt =
      let one = there p lt in
      let k : ℕ = one.0 in
      let is = one.2 c in
      let mine = ap (λ q. made_by (Processor q) history) (sym is) ∙ own k c one.1 in
      let then : (get_or all k c).cpu.mine ≡ made_by (Processor p) (get_or all k c).cpu.seen = (was_seen k c one.1).own ∙ ap (λ q. made_by (Processor q) (get_or all k c).cpu.seen) is in
      as_many (Processor p) (get_or all k c).cpu.seen e2.seat.seen history (since k c one.1) again.step.since (ap length (mine ∙ then))
  as_many_of Engine is = ap length (sym again.step.history.own ∙ (again.step.mine ∙ covers_all.history.own))

  -- so nothing was done meanwhile
  still : history ≡ e2.seat.seen
  still = nothing_more d.processors e2.seat.seen history again.step.since makers as_many_of

  pub counts_history : CountsHistory history opened closed number
  counts_history = record {
    opened_are =
        let low = counts.opened_are.no_less in
        let high = counts.opened_are.no_more in
        let up = count_grows is_begin again.covers in
        let same : opened_in cpu1.seen ≡ opened_in history = ap opened_in (accepts.seen ∙ sym still) in
        omega (arith, low, high, up, same);
    closed_are =
        let low = counts.closed_are.no_less in
        let high = counts.closed_are.no_more in
        let up = count_grows is_end again.covers in
        let same : closed_in cpu1.seen ≡ closed_in history = ap closed_in (accepts.seen ∙ sym still) in
        omega (arith, low, high, up, same);
    changes = e3.seat.changes;
    reaches = again.step.history.reaches;
    number_is = number_is ∙ ap number_word (sym again.step.changes_are);
  }

  -- of the engine's events one of them had seen all

  shown : e3.seat.shown ≡ e0.seat.shown
  shown = again.step.shown ∙ (covers_all.shown ∙ covers.step.shown)

  changes : e3.seat.changes ≡ e0.seat.changes
  changes = again.step.changes_are ∙ (covers_all.changes ∙ covers.step.changes_are)

  was_told : (k : ℕ) (x : CpuView J) → k < length all → (n : ℕ) → e3.seat.shown ≡ To (get_or all k x).cpu.processor n → n ≤ (get_or all k x).cpu.changes
  was_told zero x lt n is = heard n (sym again.step.shown ∙ is)
  was_told (suc k) x lt n is = (joined.each k x (inside k lt)).heard n is

  no_later : (k : ℕ) (x : CpuView J) → k < length all → (get_or all k x).cpu.changes ≤ e3.seat.changes
  no_later zero x lt = let low = covers.not_before in let a = covers_all.changes in let b = again.step.changes_are in omega (arith, low, a, b)
  no_later (suc k) x lt = (joined.each k x (inside k lt)).cpu.later

  knower : (k : ℕ) × (k < length all) × ((x : CpuView J) → (get_or all k x).cpu.processor ≡ tied.processor)
  knower = let lt = tied.there in let a = covers.step.same.1 in let b = covers_all.same.1 in let e = again.step.same.1 in let n = many in there tied.processor (omega (arith, lt, a, b, e, n))

  knew : (x : CpuView J) → made_by Engine history ≡ made_by Engine (get_or all knower.0 x).cpu.seen
  knew x =
      let k : ℕ = knower.0 in
      let lt = knower.1 in
      let named : e3.seat.shown ≡ To (get_or all k x).cpu.processor e0.seat.changes = shown ∙ (tied.shown ∙ ap (λ p. To p e0.seat.changes) (sym (knower.2 x))) in
      let low = was_told k x lt e0.seat.changes named in
      let high = no_later k x lt in
      let same = changes in
      let seen = seen_all e0.seat e3.seat (get_or all k x).cpu (was_seen k x lt) (beginning_trans (since k x lt) again.step.since) again.step.history (omega (arith, low, high, same)) (again.step.mine ∙ (covers_all.mine ∙ covers.step.mine)) changes in
      engine_own ∙ sym seen.events

  pub of_all : IsHistoryOf d all history
  of_all = record {
    legal = again.step.history.legal;
    makers = makers;
    since = λ k x lt. beginning_trans (since k x lt) again.step.since;
    own = own;
    one = knower.0;
    there = knower.1;
    engine = knew;
  }

  -- all of it is back

  first_is : IsOf d c
  first_is = here 0 c (omega arith)

  turn_is : t' ≡ record c.turn { seen = t'.seen }
  turn_is = turn_same c.turn e0 e3 took t' takes.swap puts

  each_back : (k : ℕ) (x : CpuView J) → k < length all → HasMet d history (get_or all k x) (get_or after k x)
  each_back zero x lt = record {
    here = record {
      domain = first_same.0 ∙ first_is.domain;
      bay = ap (λ (z : BaySeatView views.Engine). z.bay) turn_is ∙ first_is.bay;
      home = ap (λ (z : BaySeatView views.Engine). z.domain) turn_is ∙ first_is.home;
      first = subst (λ (z : BaySeatView views.Engine). MatchOption z.first ⊥ (IsEngineOf d)) (sym turn_is) first_is.first;
      free = free;
      tree = first_is.tree;
      asks = first_is.asks ∙ ap holder.Processor (sym first_same.3);
      many = first_same.1 ∙ first_is.many;
      fits = still_fits d c (record { cpu = cpu3; needs = c.needs; turn = t'; calls = c.calls }) first_same (refl, refl, refl, refl) first_is.fits;
      number = ap (λ (z : BaySeatView views.Engine). z.number) turn_is ∙ (first_is.number ∙ sym first_same.3);
      seats = ap (λ (z : BaySeatView views.Engine). z.seats) turn_is ∙ first_is.seats;
      words = first_is.words;
    };
    same = first_same;
    mine = first_mine;
    seen = accepts_too.seen;
    texts = start_trans (subst (λ l. IsStart c.cpu.texts l) (sym accepts.texts) accepts.texts_since) (start_trans counts.loads.texts (subst (λ l. IsStart cpu2.texts l) (sym accepts_too.texts) accepts_too.texts_since));
    needs = refl;
    calls = refl;
  }
  each_back (suc k) x lt =
      let j = joined.each k x (inside k lt) in
      let a = j.cpu.accepts in
      record {
        here = still_with_cpu d (get_or cs k x) (get_or cs' k x) (here (suc k) x lt) a.same j.rest;
        same = a.same;
        mine = a.mine;
        seen = a.seen;
        texts = subst (λ l. IsStart (get_or cs k x).cpu.texts l) (sym a.texts) a.texts_since;
        needs = ap (λ (z : CpuView J). z.needs) j.rest;
        calls = ap (λ (z : CpuView J). z.calls) j.rest;
      }

  other_turns : (k : ℕ) (x : CpuView J) → 0 < k → k < length all → (get_or after k x).turn ≡ (get_or all k x).turn
  other_turns zero x some lt = absurd (omega (arith, some))
  other_turns (suc k) x some lt = ap (λ (z : CpuView J). z.turn) (joined.each k x (inside k lt)).rest

  pub are_back : e3 ≡ with_seat e3.seat e0 → HaveMet d history all after
  are_back rest = record {
    count = ap suc joined.count;
    each = each_back;
    found = e0;
    left = e3;
    rest = rest;
    same = (again.step.same.0 ∙ (covers_all.same.0 ∙ covers.step.same.0), again.step.same.1 ∙ (covers_all.same.1 ∙ covers.step.same.1), again.step.same.2 ∙ (covers_all.same.2 ∙ covers.step.same.2));
    mine = again.step.mine ∙ (covers_all.mine ∙ covers.step.mine);
    changes = changes;
    seen = refl;
    first = λ x. record { took = took; takes = takes.swap; puts = puts };
    others = other_turns;
  }

  pub counted_in_all : e3 ≡ with_seat e3.seat e0 → CountsInAll d all opened closed number after
  counted_in_all rest = record { history = history; of_all = of_all; counts = counts_history; back = are_back rest }

-- loads leave the engine tied
pub still_tied : (e e' : sections.EngineView) → e'.processors ≡ e.processors → e'.shown ≡ e.shown → e'.changes ≡ e.changes → IsTied e → IsTied e'
still_tied e e' many shown changes t = record { processor = t.processor; there = (let lt = t.there in omega (arith, lt, many)); shown = shown ∙ (t.shown ∙ ap (λ n. To t.processor n) (sym changes)) }

-- Callbacks

module _ {J : Type 0} where
  pub record CallsSoFar (m : ℕ) (s : CallSeatView J) (cpus : List (CpuView J)) (t : CallSeatView J) : Type 0 where
    pub same : t ≡ record s { seen = t.seen }
    pub since : deeds.IsBeginning s.seen t.seen
    pub own : deeds_of s.processor t.seen ≡ deeds_of s.processor s.seen
    pub covers : (k : ℕ) (c : CpuView J) → k < m → deeds.IsBeginning (get_or cpus k c).calls.seen t.seen

  pub calls_none : (s : CallSeatView J) (cpus : List (CpuView J)) → CallsSoFar 0 s cpus s
  calls_none s cpus = record { same = refl; since = begins_itself s.seen; own = refl; covers = λ k c lt. absurd (omega (arith, lt)) }

  pub calls_next : (m : ℕ) (s : CallSeatView J) (cpus : List (CpuView J)) (between t : CallSeatView J) (item d : CpuView J) → m < length cpus → item ≡ get_or cpus m d
      → CallsSoFar m s cpus between → tallies.Covers between item.calls.seen t → CallsSoFar (m + 1) s cpus t
  calls_next m s cpus between t item d inside is h c =
      let number : between.processor ≡ s.processor = ap (λ (z : CallSeatView J). z.processor) h.same in record {
        same = c.same ∙ ap (λ (z : CallSeatView J). record z { seen = t.seen }) h.same;
        since = begins_on h.since c.since;
        own = ap (λ n. deeds_of n t.seen) (sym number) ∙ (c.own ∙ (ap (λ n. deeds_of n between.seen) number ∙ h.own));
        covers = each_next (λ (x : CpuView J). deeds.IsBeginning x.calls.seen between.seen) (λ (x : CpuView J). deeds.IsBeginning x.calls.seen t.seen) m cpus item d inside is (λ x q. begins_on q c.since) c.covers h.covers;
      }

  -- what the seat has seen in the end, behind a load of its own
  pub accepts_own : (s between t : CallSeatView J) (cpus : List (CpuView J)) → CallsCover s cpus between → tallies.Covers between between.seen t → tallies.Accepts s t.seen t
  accepts_own s between t cpus h c =
      let number : between.processor ≡ s.processor = ap (λ (z : CallSeatView J). z.processor) h.same in record {
        is = c.same ∙ ap (λ (z : CallSeatView J). record z { seen = t.seen }) h.same;
        since = begins_on h.since c.since;
        own = ap (λ n. deeds_of n t.seen) (sym number) ∙ (c.own ∙ (ap (λ n. deeds_of n between.seen) number ∙ h.own));
        loads = c.loads;
        takers = subst (λ n. AreTakers n t.seen) (ap (λ (z : CallSeatView J). z.processors) h.same) c.takers;
      }

  pub heard_here : (s s0 : CallSeatView J) (c : CpuView J) (calls' : CallSeatView J) → s ≡ s0 → tallies.Accepts c.calls s.seen calls' → IsHeard s0 c (record { cpu = c.cpu; needs = c.needs; turn = c.turn; calls = calls' })
  heard_here s s0 c calls' same h = record { calls = subst (λ (z : CallSeatView J). tallies.Accepts c.calls z.seen calls') same h; rest = refl }

  -- loads change nothing of the seat but what it has seen
  pub seat_of_loads : (s t : CallSeatView J) {all done : ℕ} → AddsUp s all done t → t ≡ record s { seen = t.seen }
  seat_of_loads s t h =
      let a = h.queued.loads.same in
      let b = h.finished.loads.same in
      λ i. record { domain = (b.3 ∙ a.3) i; tallies = (b.0 ∙ a.0) i; processors = (b.1 ∙ a.1) i; processor = (b.2 ∙ a.2) i; seen = t.seen }

  -- the seats at the tally words are of one domain
  pub calls_of_domain : (d : DomainView) (c : CpuView J) (cs : List (CpuView J)) → Each (IsOf d) (c ∷ cs) → Each (λ x. x.calls.tallies ≡ c.calls.tallies) cs
  calls_of_domain d c cs here k x lt = (here (suc k) x (omega (arith, lt))).fits.tallies ∙ sym (here 0 c (omega arith)).fits.tallies

-- what was found is no more than was queued
found_within : (count : ℕ → ℕ) (p : ℕ) (ns : List ℕ) → ((k : ℕ) → k < length ns → get_or ns k 0 ≤ count (p + k)) → sum ns ≤ added count p (length ns)
found_within count p [] each = omega arith
found_within count p (x ∷ xs) each =
    let first = each 0 (omega arith) in
    let here : count (p + 0) ≡ count p = let e : p + 0 ≡ p = omega arith in ap count e in
    let rest = found_within count (p + 1) xs (λ k lt. subst (λ q. get_or xs k 0 ≤ count q) (let e : p + suc k ≡ p + 1 + k = omega arith in e) (each (suc k) (omega (arith, lt)))) in
    let cut = sum_by-cons (λ z. z) x xs in
    omega (arith, first, here, rest, cut)

module _ {J : Type 0} (d : DomainView) (c : CpuView J) (cs cs' : List (CpuView J)) (here : Each (IsOf d) (c ∷ cs)) (there : AreAllThere d (c ∷ cs)) (s t : CallSeatView J) (queued finished : ℕ)
    (covers : CallsCover c.calls cs s) (adds : AddsUp s queued finished t) (heard : EachBecomes (IsHeard t) cs cs') where
  abbrev everyone : List (CpuView J)
  everyone = c ∷ cs

  first_here_too : IsOf d c
  first_here_too = here 0 c (omega arith)

  many_seats : s.processors ≡ d.processors
  many_seats = ap (λ (z : CallSeatView J). z.processors) covers.same ∙ first_here_too.words

  number_is : s.processor ≡ c.calls.processor
  number_is = ap (λ (z : CallSeatView J). z.processor) covers.same

  since_all : deeds.IsBeginning s.seen t.seen
  since_all = begins_on adds.queued.loads.since adds.finished.loads.since

  -- the others did nothing while the words were loaded
  others_rested : (n : ℕ) → n < s.processors → n ≢ s.processor → deeds_of n t.seen ≡ deeds_of n s.seen
  others_rested n lt ne = let all = many_seats in let one = there n (omega (arith, lt, all)) in at one.0 one.1 (one.2 c)
    where
      at : (k : ℕ) → k < length everyone → (get_or everyone k c).cpu.processor ≡ n → deeds_of n t.seen ≡ deeds_of n s.seen
      at zero inside is = absurd (ne (sym (number_is ∙ (sym first_here_too.fits.cpu ∙ is))))
      at (suc k) inside is =
          let lt' : k < length cs = omega (arith, inside) in
          let o = (get_or cs k c).calls in
          let named : o.processor ≡ n = sym (here (suc k) c inside).fits.cpu ∙ is in
          let a = (heard.each k c lt').calls in
          let own : deeds_of n t.seen ≡ deeds_of n o.seen = ap (λ q. deeds_of q t.seen) (sym named) ∙ (a.own ∙ ap (λ q. deeds_of q o.seen) named) in
          rested n o.seen s.seen t.seen (covers.covers k c lt') since_all own

  exact : AreTotals s queued finished t
  exact = totals_exact s t queued finished adds others_rested

  pub queued_of_all : queued ≡ all_queued d.processors t.seen
  queued_of_all = exact.queued ∙ ap (λ n. all_queued n t.seen) many_seats

  pub finished_of_all : finished ≡ all_finished d.processors t.seen
  finished_of_all = exact.finished ∙ ap (λ n. all_finished n t.seen) many_seats

  pub no_more_finished : finished ≤ queued
  no_more_finished =
      let two = adds.finished in
      let long = two.one_each in
      let part = found_within (λ p. queued_in p t.seen) 0 two.found (λ k lt. subst (λ q. get_or two.found k 0 ≤ queued_in q t.seen) (let e : k ≡ 0 + k = omega arith in e) (two.within k (omega (arith, lt, long)))) in
      let as_many = ap (λ n. added (λ p. queued_in p t.seen) 0 n) (long ∙ adds.queued.loads.same.1) in
      let total = two.total_is in
      let all = exact.queued in
      omega (arith, part, as_many, total, all)

  -- all seats have then seen this
  seen_since : (k : ℕ) (x : CpuView J) → k < length everyone → deeds.IsBeginning (get_or everyone k x).calls.seen t.seen
  seen_since zero x lt = begins_on covers.since since_all
  seen_since (suc k) x lt = (heard.each k x (omega (arith, lt))).calls.since

  others_own : (k : ℕ) (x : CpuView J) → 0 < k → k < length everyone → deeds_of (get_or everyone k x).calls.processor t.seen ≡ deeds_of (get_or everyone k x).calls.processor (get_or everyone k x).calls.seen
  others_own zero x some lt = absurd (omega (arith, some))
  others_own (suc k) x some lt = (heard.each k x (omega (arith, lt))).calls.own

  first_own : deeds_of c.calls.processor t.seen ≡ deeds_of c.calls.processor c.calls.seen ++ map (deed c.calls.processor) (queued_loads 0 adds.queued.found ++ finished_loads 0 adds.finished.found)
  first_own =
      let me : ℕ = s.processor in
      let m = adds.between in
      let one = adds.queued in
      let two = adds.finished in
      let first : List (Deed J) = map (deed me) (queued_loads 0 one.found) in
      let second : List (Deed J) = map (deed me) (finished_loads 0 two.found) in
      let later : deeds_of me t.seen ≡ deeds_of me m.seen ++ second = subst (λ (z : ℕ). deeds_of z t.seen ≡ deeds_of z m.seen ++ map (deed z) (finished_loads 0 two.found)) one.loads.same.2 two.loads.own in
      let own : deeds_of me t.seen ≡ deeds_of me s.seen ++ (first ++ second) = later ∙ (ap (λ l. l ++ second) one.loads.own ∙ append_assoc (deeds_of me s.seen) first second) in
      let both : first ++ second ≡ map (deed me) (queued_loads 0 one.found ++ finished_loads 0 two.found) = sym (map-append (deed me) (queued_loads 0 one.found) (finished_loads 0 two.found)) in
      let here_own : deeds_of me s.seen ≡ deeds_of me c.calls.seen = ap (λ n. deeds_of n s.seen) number_is ∙ (covers.own ∙ ap (λ n. deeds_of n c.calls.seen) (sym number_is)) in
      subst (λ n. deeds_of n t.seen ≡ deeds_of n c.calls.seen ++ map (deed n) (queued_loads 0 one.found ++ finished_loads 0 two.found)) number_is (own ∙ (λ i. here_own i ++ both i))

  pub deeds_of_everyone : AreDeedsOf d everyone t.seen
  deeds_of_everyone = record {
    since = seen_since;
    true = adds.finished.loads.loads;
    takers = subst (λ n. AreTakers n t.seen) (adds.queued.loads.same.1 ∙ many_seats) adds.finished.takers;
    one_each = (adds.queued.one_each ∙ many_seats, adds.finished.one_each ∙ (adds.queued.loads.same.1 ∙ many_seats));
    queued = adds.queued.found;
    finished = adds.finished.found;
    first = λ x. first_own;
    others = others_own;
  }

  -- and are as they were
  seat_is : t ≡ record c.calls { seen = t.seen }
  seat_is = seat_of_loads s t adds ∙ ap (λ (z : CallSeatView J). record z { seen = t.seen }) covers.same

  each_heard : (k : ℕ) (x : CpuView J) → k < length everyone → HasHeard d t.seen (get_or everyone k x) (get_or (record { cpu = c.cpu; needs = c.needs; turn = c.turn; calls = t } ∷ cs') k x)
  each_heard zero x lt = record {
    here = still_with_calls d c (record { cpu = c.cpu; needs = c.needs; turn = c.turn; calls = t }) first_here_too
        (ap (λ (z : CallSeatView J). z.tallies) seat_is, ap (λ (z : CallSeatView J). z.processors) seat_is, ap (λ (z : CallSeatView J). z.processor) seat_is, ap (λ (z : CallSeatView J). z.domain) seat_is) refl;
    calls = seat_is;
    rest = refl;
  }
  each_heard (suc k) x lt =
      let h = heard.each k x (omega (arith, lt)) in
      record {
        here = still_with_calls d (get_or cs k x) (get_or cs' k x) (here (suc k) x lt)
            (ap (λ (z : CallSeatView J). z.tallies) h.calls.is, ap (λ (z : CallSeatView J). z.processors) h.calls.is, ap (λ (z : CallSeatView J). z.processor) h.calls.is, ap (λ (z : CallSeatView J). z.domain) h.calls.is) h.rest;
        calls = h.calls.is;
        rest = h.rest;
      }

  pub calls_counted : CountsCalls d everyone queued finished (record { cpu = c.cpu; needs = c.needs; turn = c.turn; calls = t } ∷ cs')
  calls_counted = record {
    all = t.seen;
    of_all = deeds_of_everyone;
    queued_are = queued_of_all;
    finished_are = finished_of_all;
    within = no_more_finished;
    back = record { count = ap suc heard.count; each = each_heard };
  }
