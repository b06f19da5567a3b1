-- Waiting for a grace period: a cookie, and then turns and polls until it is done.
use Rattle.std.proofs.Common.{◌≡◌, ℕ, ◌+◌, ◌≤◌, Bool, true, false, not, Option, Some, None, List, [], ◌∷◌, ◌++◌, All, length, filter, refl, sym, ap, ◌∙◌, subst, append_assoc, append-nil, length-append, arith}
use Rattle.std.proofs.lemmas.List.Elements.{All-nil, All-cons, All-head, All-tail, All-append}
use Rattle.onedom.specs.declared.event.Event.{Event}
use Rattle.onedom.specs.declared.event.Event.TheVariants.{Note, Ask}
use Rattle.onedom.specs.declared.event.Maker.{Maker}
use Rattle.onedom.specs.declared.event.Maker.TheVariants.{Processor}
use Rattle.onedom.specs.Histories.{IsBeginning, open_sections}
use Rattle.onedom.proofs.CallerLemmas.{beginning_refl, beginning_push, beginning_trans, open_sections_plain}
use Rattle.sections.specs.Glossary.{is_held, Asks, AllClosed}
use Rattle.sections.specs.Views as sections
use Rattle.scan.specs.declared.progress.Progress.{Progress}
use Rattle.domain.specs.Glossary.{DomainView, CpuView, IsOf, IsSameProcessor, with_cpu, CarriesOnIn, FindsBusyIn, FindsExhaustedIn, StartsPoll, HasNoneOpen, HasNoted, Turns, TurnsAndPolls, RoundsThrough, Synchronizes, WaitsInVain, WaitedFor}
use Rattle.domain.proofs.Lending.{same_busy, same_lent, same_carried, same_exhausted, mine_lent, mine_carried, mine_exhausted}
use Rattle.domain.proofs.Staying.{still_with_cpu}
use Rattle.domain.proofs.Sameness.{same_trans, same_polled, same_asked}

-- Turns

module _ {J : Type 0} where
  -- a turn adds no event of the processor's, and asks for nothing
  pub record Turned (x y : CpuView J) : Type 0 where
    pub same : IsSameProcessor x y
    pub mine : y.cpu.mine ≡ x.cpu.mine
    pub asked : y.needs.mine ≡ x.needs.mine
    pub calls : y.calls ≡ x.calls
    pub since : IsBeginning x.cpu.seen y.cpu.seen

  pub turned_on : (x y : CpuView J) (a : Progress) → CarriesOnIn x a y → Turned x y
  turned_on x y a h = record { same = same_lent _ x y (λ v w. same_carried v w a) h; mine = h.ties.accepts.mine; asked = mine_lent _ x y (λ v w. mine_carried v w a) h; calls = h.calls; since = h.ties.since }

  pub turned_exhausted : (x y : CpuView J) → FindsExhaustedIn x y → Turned x y
  turned_exhausted x y h = record { same = same_lent _ x y same_exhausted h; mine = h.ties.accepts.mine; asked = mine_lent _ x y mine_exhausted h; calls = h.calls; since = h.ties.since }

  pub turned_busy : (x y : CpuView J) → FindsBusyIn x y → Turned x y
  turned_busy x y h = record {
    same = same_busy x y h;
    mine = ap (λ (z : CpuView J). z.cpu.mine) h.rest;
    asked = ap (λ (z : CpuView J). z.needs.mine) h.rest;
    calls = ap (λ (z : CpuView J). z.calls) h.rest;
    since = subst (λ (z : CpuView J). IsBeginning x.cpu.seen z.cpu.seen) (sym h.rest) (beginning_refl x.cpu.seen);
  }

  pub turned : (x y : CpuView J) (a : Option Progress) → Turns a x y → Turned x y
  turned x y None h = turned_busy x y h
  turned x y (Some a) h = turned_on x y a h

  -- Rounds

  -- a row of rounds so far
  abbrev pub Rounds : sections.CookieView → List (CpuView J) → CpuView J → CpuView J → Type 0
  Rounds = RoundsThrough (λ x y. y ≡ x)

  one_more_round : (k : sections.CookieView) (ds : List (CpuView J)) (x y z : CpuView J) → Rounds k ds x y → TurnsAndPolls false k y z → Rounds k (ds ++ z ∷ []) x z
  one_more_round k [] x y z same t = (subst (λ (u : CpuView J). TurnsAndPolls false k u z) same t, refl)
  one_more_round k (d ∷ ds) x y z h t = (h.0, one_more_round k ds d y z h.1 t)

  and_the_last : (ends : CpuView J → CpuView J → Type 0) (k : sections.CookieView) (ds : List (CpuView J)) (x y z : CpuView J) → Rounds k ds x y → ends y z → RoundsThrough ends k ds x z
  and_the_last ends k [] x y z same last = subst (λ (u : CpuView J). ends u z) same last
  and_the_last ends k (d ∷ ds) x y z h last = (h.0, and_the_last ends k ds d y z h.1 last)

  -- Waiting

  -- the processor has its cookie, and has asked after it in vain until now. The last round ended at this view
  pub record HasWaited (d : DomainView) (c : CpuView J) (k : sections.CookieView) (at x : CpuView J) : Type 0 where
    pub here : IsOf d x
    pub same : IsSameProcessor c x
    pub of_domain : k.domain ≡ c.cpu.domain
    pub gives : HasNoted c k.number k.seen
    pub asked : CpuView J
    pub starts : StartsPoll c k asked
    pub rounds : List (CpuView J)
    pub through : Rounds k rounds asked at
    pub no_more : x.needs.mine ≡ asked.needs.mine
    pub calls : x.calls ≡ c.calls
    pub vain : List Event
    pub all_vain : All (λ e. e ≡ Ask k.number false (Processor c.cpu.processor)) vain
    pub one_each : length vain ≡ length rounds
    pub mine : x.cpu.mine ≡ c.cpu.mine ++ Note k.number (Processor c.cpu.processor) ∷ vain
    pub since : IsBeginning c.cpu.seen x.cpu.seen

  -- the cookie, as it was given
  pub begins : (d : DomainView) (c x : CpuView J) (k : sections.CookieView) → IsOf d x → StartsPoll c k x → HasWaited d c k x x
  begins d c x k here h =
      let adds = h.gives.notes.adds in
      let number = ap (λ (z : sections.CookieView). z.number) h.gives.cookie_is in
      record {
        here = here;
        same = same_asked c x k h;
        of_domain = ap (λ (z : sections.CookieView). z.domain) h.gives.cookie_is;
        gives = subst (λ (z : sections.CookieView). HasNoted c z.number z.seen) (sym h.gives.cookie_is) record { before = adds.before; since = adds.since; whole = adds.seen };
        asked = x;
        starts = h;
        rounds = [];
        through = refl;
        no_more = refl;
        calls = h.calls;
        vain = [];
        all_vain = All-nil _;
        one_each = refl;
        mine = adds.mine ∙ ap (λ n. c.cpu.mine ++ Note n (Processor c.cpu.processor) ∷ []) (sym number);
        since = beginning_trans adds.since record { rest = _; whole = adds.seen };
      }

  pub turns : (d : DomainView) (c x y : CpuView J) (k : sections.CookieView) → HasWaited d c k x x → IsOf d y → Turned x y → HasWaited d c k x y
  turns d c x y k h here t = record {
    here = here;
    same = same_trans c x y h.same t.same;
    of_domain = h.of_domain;
    gives = h.gives;
    asked = h.asked;
    starts = h.starts;
    rounds = h.rounds;
    through = h.through;
    no_more = t.asked ∙ h.no_more;
    calls = t.calls ∙ h.calls;
    vain = h.vain;
    all_vain = h.all_vain;
    one_each = h.one_each;
    mine = t.mine ∙ h.mine;
    since = beginning_trans h.since t.since;
  }

  -- a poll leaves the seat at the tally words as it was
  polled_calls : (x y : CpuView J) → y ≡ with_cpu y.cpu x → y.calls ≡ x.calls
  polled_calls x y rest = ap (λ (z : CpuView J). z.calls) rest

-- one more own event behind those that were made
one_more : (before : List Event) (e : Event) (es : List Event) (last : Event) → (before ++ e ∷ es) ++ last ∷ [] ≡ before ++ e ∷ (es ++ last ∷ [])
one_more before e es last = append_assoc before (e ∷ es) (last ∷ [])

module _ {J : Type 0} (d : DomainView) (c at x y : CpuView J) (k : sections.CookieView) (answer : Bool) where
  abbrev the_ask : Event
  the_ask = Ask k.number answer (Processor c.cpu.processor)

  asks_here : HasWaited d c k at x → Ask k.number answer (Processor x.cpu.processor) ≡ the_ask
  asks_here h = ap (λ p. Ask k.number answer (Processor p)) h.same.cpu.3

  pub asks_mine : (h : HasWaited d c k at x) → Asks k.seen k.changes k.number answer x.cpu y.cpu → y.cpu.mine ≡ c.cpu.mine ++ Note k.number (Processor c.cpu.processor) ∷ (h.vain ++ the_ask ∷ [])
  asks_mine h a = a.adds.mine ∙ (ap (λ l. l ++ Ask k.number answer (Processor x.cpu.processor) ∷ []) h.mine ∙ (ap (λ e. (c.cpu.mine ++ Note k.number (Processor c.cpu.processor) ∷ h.vain) ++ e ∷ []) (asks_here h) ∙ one_more c.cpu.mine (Note k.number (Processor c.cpu.processor)) h.vain the_ask))

  pub asks_seen : (h : HasWaited d c k at x) → (a : Asks k.seen k.changes k.number answer x.cpu y.cpu) → y.cpu.seen ≡ a.adds.before ++ the_ask ∷ []
  asks_seen h a = a.adds.seen ∙ ap (λ e. a.adds.before ++ e ∷ []) (asks_here h)

  -- the poll asked for nothing
  pub asks_no_more : (h : HasWaited d c k at x) → y ≡ with_cpu y.cpu x → y.needs.mine ≡ h.asked.needs.mine
  asks_no_more h rest = ap (λ (z : CpuView J). z.needs.mine) rest ∙ h.no_more

module _ {J : Type 0} where
  -- the round is at its end, in vain
  pub asks_in_vain : (d : DomainView) (c at x y : CpuView J) (k : sections.CookieView) (a : Option Progress) → HasWaited d c k at x → Turns a at x → Asks k.seen k.changes k.number false x.cpu y.cpu → y ≡ with_cpu y.cpu x → HasWaited d c k y y
  asks_in_vain d c at x y k p h turn a rest = record {
    here = still_with_cpu d x y h.here a.adds.same rest;
    same = same_trans c x y h.same (same_polled x y a.adds.same rest);
    of_domain = h.of_domain;
    gives = h.gives;
    asked = h.asked;
    starts = h.starts;
    rounds = h.rounds ++ y ∷ [];
    through = one_more_round k h.rounds h.asked at y h.through record { progress = p; turned = x; turns = turn; polls = record { asks = a; rest = rest } };
    no_more = asks_no_more d c at x y k false h rest;
    calls = polled_calls x y rest ∙ h.calls;
    vain = h.vain ++ Ask k.number false (Processor c.cpu.processor) ∷ [];
    all_vain = All-append (λ e. e ≡ Ask k.number false (Processor c.cpu.processor)) h.vain _ h.all_vain (All-cons (λ e. e ≡ Ask k.number false (Processor c.cpu.processor)) (Ask k.number false (Processor c.cpu.processor)) [] refl (All-nil _));
    one_each = length-append h.vain (Ask k.number false (Processor c.cpu.processor) ∷ []) ∙ (ap (λ n. n + 1) h.one_each ∙ sym (length-append h.rounds (y ∷ [])));
    mine = asks_mine d c at x y k false h a;
    since = beginning_trans h.since (beginning_trans a.adds.since record { rest = _; whole = a.adds.seen });
  }

  -- and there is that one
  pub one_in_vain : (d : DomainView) (c at x y : CpuView J) (k : sections.CookieView) (p : Option Progress) (h : HasWaited d c k at x) (turn : Turns p at x) (a : Asks k.seen k.changes k.number false x.cpu y.cpu) (rest : y ≡ with_cpu y.cpu x)
      → 1 ≤ length (asks_in_vain d c at x y k p h turn a rest).vain
  unfolding asks_in_vain
  one_in_vain d c at x y k p h turn a rest =
      let one : length (asks_in_vain d c at x y k p h turn a rest).vain ≡ length h.vain + 1 = length-append h.vain (Ask k.number false (Processor c.cpu.processor) ∷ []) in
      omega (arith, one)

  -- The two answers

  pub synchronizes : (d : DomainView) (c at x y : CpuView J) (k : sections.CookieView) (p : Option Progress) → HasWaited d c k at x → Turns p at x → Asks k.seen k.changes k.number true x.cpu y.cpu → y ≡ with_cpu y.cpu x → AllClosed k.seen y.cpu.seen → Synchronizes c y
  synchronizes d c at x y k p h turn a rest closed = record {
    cookie = k;
    waits = record {
      asked = h.asked;
      starts = h.starts;
      rounds = h.rounds;
      through = and_the_last (TurnsAndPolls true k) k h.rounds h.asked at y h.through record { progress = p; turned = x; turns = turn; polls = record { asks = a; rest = rest } };
      no_more = asks_no_more d c at x y k true h rest;
      calls = polled_calls x y rest ∙ h.calls;
    };
    gives = h.gives;
    last = a.adds.before;
    behind = a.adds.covers;
    asks = asks_seen d c at x y k true h a;
    vain = h.vain;
    all_vain = h.all_vain;
    one_each = h.one_each;
    mine = asks_mine d c at x y k true h a;
    closed = closed;
  }

  pub waits_in_vain : (d : DomainView) (c x y : CpuView J) (k : sections.CookieView) → HasWaited d c k x x → FindsExhaustedIn x y → WaitsInVain c y
  waits_in_vain d c x y k h refused =
      let t = turned_exhausted x y refused in record {
        cookie = k;
        waits = record {
          asked = h.asked;
          starts = h.starts;
          rounds = h.rounds;
          through = and_the_last FindsExhaustedIn k h.rounds h.asked x y h.through refused;
          no_more = t.asked ∙ h.no_more;
          calls = t.calls ∙ h.calls;
        };
        gives = h.gives;
        vain = h.vain;
        all_vain = h.all_vain;
        one_each = h.one_each;
        mine = t.mine ∙ h.mine;
      }

-- Nothing is opened by waiting

vain_opens_none : (number : ℕ) (by : Maker) (history vain : List Event) → All (λ e. e ≡ Ask number false by) vain → open_sections (history ++ vain) ≡ open_sections history
vain_opens_none number by history [] all = ap open_sections (append-nil history)
vain_opens_none number by history (e ∷ es) all =
    let one : e ≡ Ask number false by = All-head (λ x. x ≡ Ask number false by) e es all in
    let first : open_sections (history ++ e ∷ []) ≡ open_sections history = subst (λ x. open_sections (history ++ x ∷ []) ≡ open_sections history) (sym one) (open_sections_plain history (Ask number false by) refl (λ s. refl)) in
    ap open_sections (sym (append_assoc history (e ∷ []) es)) ∙ (vain_opens_none number by (history ++ e ∷ []) es (All-tail (λ x. x ≡ Ask number false by) e es all) ∙ first)

pub noted_opens_none : (number : ℕ) (by : Maker) (history vain : List Event) → All (λ e. e ≡ Ask number false by) vain → open_sections (history ++ Note number by ∷ vain) ≡ open_sections history
noted_opens_none number by history vain all =
    ap open_sections (sym (append_assoc history (Note number by ∷ []) vain))
    ∙ (vain_opens_none number by (history ++ Note number by ∷ []) vain all ∙ open_sections_plain history (Note number by) refl (λ s. refl))

waiting_opens_none : (number : ℕ) (by : Maker) (history vain : List Event) → All (λ e. e ≡ Ask number false by) vain → open_sections (history ++ Note number by ∷ (vain ++ Ask number true by ∷ [])) ≡ open_sections history
waiting_opens_none number by history vain all =
    ap open_sections (sym (append_assoc history (Note number by ∷ vain) (Ask number true by ∷ [])))
    ∙ (open_sections_plain (history ++ Note number by ∷ vain) (Ask number true by) refl (λ s. refl) ∙ noted_opens_none number by history vain all)

module _ {J : Type 0} where
  pub none_open : (c c' : CpuView J) → HasNoneOpen c → open_sections c'.cpu.mine ≡ open_sections c.cpu.mine → HasNoneOpen c'
  none_open c c' none same = ap (λ l. length (filter (λ t. not (is_held t)) l)) same ∙ none

  pub still_none : (c c' : CpuView J) → HasNoneOpen c → Synchronizes c c' → HasNoneOpen c'
  still_none c c' none s = none_open c c' none (ap open_sections s.mine ∙ waiting_opens_none s.cookie.number (Processor c.cpu.processor) c.cpu.mine s.vain s.all_vain)

  pub none_in_vain : (c c' : CpuView J) → HasNoneOpen c → WaitsInVain c c' → HasNoneOpen c'
  none_in_vain c c' none s = none_open c c' none (ap open_sections s.mine ∙ noted_opens_none s.cookie.number (Processor c.cpu.processor) c.cpu.mine s.vain s.all_vain)

  -- what a user wants to know
  pub waited_for : (c c' : CpuView J) → Synchronizes c c' → WaitedFor c c'
  waited_for c c' h = record { number = h.cookie.number; moment = h.cookie.seen; noted = h.gives; upto = subst (IsBeginning h.cookie.seen) (sym h.asks) (beginning_push (Ask h.cookie.number true (Processor c.cpu.processor)) h.behind); closed = h.closed }
