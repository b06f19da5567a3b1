-- Turns of one seat, while no other swaps: each finds what the one before has left.
use Rattle.std.proofs.Common.{◌≡◌, ◌≢◌, ℕ, zero, suc, ◌<◌, List, [], ◌∷◌, ◌++◌, true, false, length, get_or, refl, sym, ap, ◌∙◌, subst, true≢false, arith, append_assoc}
use Rattle.solo.proofs.Words.{Option, Some, None, All, get_or_default, Swap, swaps_of, lies_after, holds_after, holds_behind, BaySeatView, lies, MakesSwap, HasSeenLegal, Accepts, HasOneHolder, SwapsAlone, TakesTurn, FindsBusy, CpuView, TurnTogether}
use Rattle.desk.specs.Glossary.{IsBeginning, IsLegal}
use Rattle.desk.specs.BayLaws.{NobodyHolds}
use Rattle.desk.proofs.CallerLemmas.{beginning_refl, legal_makers, one_holds, makes_lie, own_between, one_turn}
use Rattle.domain.specs.Glossary.{Engine}
use Rattle.domain.specs.Meetings.{TurnsMeet}

goes_further : (a b c : List (Swap Engine)) → IsBeginning a b → IsBeginning b c → IsBeginning a c
goes_further a b c ab bc = record { rest = ab.rest ++ bc.rest; whole = bc.whole ∙ (ap (λ l. l ++ bc.rest) ab.whole ∙ append_assoc a ab.rest bc.rest) }

is_seen : (a b : List (Swap Engine)) → a ≡ b → IsBeginning a b
is_seen a b same = subst (λ l. IsBeginning a l) same (beginning_refl a)

same_value : (v w : Engine) → Some v ≡ Some w → v ≡ w
same_value v w same = ap (λ o. value_of o) same
  where
    value_of : Option Engine → Engine
    value_of None = v
    value_of (Some x) = x

-- where a value lies nobody holds
nobody_holds : (t : BaySeatView Engine) (v : Engine) → HasSeenLegal t → lies t ≡ Some v → NobodyHolds t.seen
nobody_holds t v h lying =
    let legal : IsLegal t.seats (Some h.value) t.seen = subst (λ f. IsLegal t.seats f t.seen) h.lay h.legal in
    let there : lies_after (Some h.value) t.seen ≡ Some v = ap (λ f. lies_after f t.seen) (sym h.lay) ∙ lying in
    subst (λ o. HasOneHolder t.seats t.seen o) there (one_holds t.seats h.value t.seen legal)

swap_since : (v : BaySeatView Engine) (left found : Option Engine) (w : BaySeatView Engine) → MakesSwap v left found w → IsBeginning v.seen w.seen
swap_since v left found w h = goes_further v.seen h.before w.seen h.since (record { rest = record { by = v.number; left = left; found = found } ∷ []; whole = h.seen })

turn_since : (t u : BaySeatView Engine) (found left : Engine) → TakesTurn t found left u → IsBeginning t.seen u.seen
turn_since t u found left turn = goes_further t.seen turn.took.seen u.seen (swap_since _ _ _ _ turn.takes) (swap_since _ _ _ _ turn.puts)

-- what lies there, as the seat has seen it; and that up to these swaps no other seat made one
record IsAlone (t : BaySeatView Engine) (lay : Engine) (all : List (Swap Engine)) : Type 0 where
  legal : HasSeenLegal t
  lying : lies t ≡ Some lay
  others : (n : ℕ) → n < t.seats → n ≢ t.number → swaps_of n all ≡ swaps_of n t.seen

module _ (t u : BaySeatView Engine) (lay found left : Engine) (all : List (Swap Engine)) (turn : TakesTurn t found left u) (on : IsBeginning u.seen all) (alone : IsAlone t lay all) where
  same_seat : u ≡ record t { seen = u.seen }
  same_seat = turn.puts.same ∙ ap (λ (z : BaySeatView Engine). record z { seen = u.seen }) turn.takes.same

  between : (n : ℕ) → n < t.seats → n ≢ t.number → swaps_of n u.seen ≡ swaps_of n t.seen
  between n there other = own_between n t.seen u.seen all (turn_since t u found left turn) on (alone.others n there other)

  swaps_alone : SwapsAlone t u u.seen
  swaps_alone = record {
    since = beginning_refl u.seen;
    makers = subst (λ n. All (λ s. s.by < n) u.seen) (ap (λ (z : BaySeatView Engine). z.seats) same_seat) (legal_makers u.seats u.first [] u.seen turn.puts.history.legal);
    own = refl;
    others = between;
  }

  -- it found what lay there
  found_is : found ≡ lay
  found_is = same_value found lay ((one_turn t turn.took u (Some found) left u.seen turn.takes turn.puts swaps_alone).0 ∙ alone.lying)

  -- and then what it left lies there
  still_alone : IsAlone u left all
  still_alone = record {
    legal = turn.puts.history;
    lying = makes_lie turn.took (Some left) None u turn.puts;
    others = λ n there other.
        let inside : n < t.seats = subst (λ (z : BaySeatView Engine). n < z.seats) same_seat there in
        let elsewhere : n ≢ t.number = subst (λ (z : BaySeatView Engine). n ≢ z.number) same_seat other in
        alone.others n inside elsewhere ∙ sym (between n inside elsewhere);
  }

-- and its swap finds the engine there: no other seat can have it
module _ (t u : BaySeatView Engine) (lay : Engine) (all : List (Swap Engine)) (on : IsBeginning u.seen all) (alone : IsAlone t lay all) where
  finds_it : FindsBusy t u → ⊥
  finds_it busy =
      let elsewhere = busy.elsewhere in
      let n : ℕ = elsewhere.holder in
      let there : n < t.seats = subst (λ (z : BaySeatView Engine). n < z.seats) busy.swap.same elsewhere.there in
      let other : n ≢ t.number = subst (λ (z : BaySeatView Engine). n ≢ z.number) busy.swap.same elsewhere.other in
      let still : swaps_of n u.seen ≡ swaps_of n t.seen = own_between n t.seen u.seen all (swap_since t None None u busy.swap) on (alone.others n there other) in
      let held : holds_behind n u.seen ≡ true = elsewhere.holding in
      let free : holds_behind n u.seen ≡ false = ap (λ l. holds_after false l) still ∙ nobody_holds t lay alone.legal alone.lying n in
      true≢false (sym held ∙ free)

module _ {J : Type 0} where
  -- a meeting, behind an act of one of those in hand: of the turns it may have changed the first one's alone
  module _ (swaps : List (Swap Engine)) (cpus acted : List (CpuView J)) (v : Engine) (before : TurnTogether swaps cpus v) (some : 0 < length cpus) (count : length acted ≡ length cpus)
      (others : (k : ℕ) (d : CpuView J) → 0 < k → k < length cpus → (get_or acted k d).turn ≡ (get_or cpus k d).turn)
      (cpus' : List (CpuView J)) (found left : Engine) (meets : TurnsMeet acted found left cpus') (count' : length cpus' ≡ length acted) (nobody : CpuView J) where
    abbrev first : BaySeatView Engine
    first = (get_or cpus 0 nobody).turn

    abbrev last : BaySeatView Engine
    last = (get_or cpus' 0 nobody).turn

    last_seen : last.seen ≡ meets.swaps
    last_seen = meets.seen 0 nobody (omega (arith, some, count))

    accepts : (k : ℕ) (d : CpuView J) → 0 < k → k < length cpus → Accepts (get_or cpus k d).turn meets.swaps (get_or cpus' k d).turn
    accepts k d positive lt = subst (λ (z : BaySeatView Engine). Accepts z meets.swaps (get_or cpus' k d).turn) (others k d positive lt) (meets.others k d positive (omega (arith, lt, count)))

    first_alone : IsAlone first v meets.swaps
    first_alone = record {
      legal = before.history nobody;
      lying = before.lying nobody;
      others = λ n there other.
          let number = before.number 0 nobody some in
          let seats = before.seats 0 nobody some in
          by_number n (omega (arith, there, seats)) (λ e. other (e ∙ sym number));
    }
      where
        by_number : (n : ℕ) → n < length cpus → n ≢ 0 → swaps_of n meets.swaps ≡ swaps_of n first.seen
        by_number n there other =
            let positive : 0 < n = omega (arith, other) in
            let is : (get_or cpus n nobody).turn.number ≡ n = before.number n nobody there in
            let own : swaps_of n meets.swaps ≡ swaps_of n (get_or cpus n nobody).turn.seen = ap (λ m. swaps_of m meets.swaps) (sym is) ∙ ((accepts n nobody positive there).own ∙ ap (λ m. swaps_of m (get_or cpus n nobody).turn.seen) is) in
            let seen : (get_or cpus n nobody).turn.seen ≡ first.seen = before.seen n nobody there ∙ sym (before.seen 0 nobody some) in
            own ∙ ap (swaps_of n) seen

    module _ (same : last ≡ record first { seen = last.seen }) (legal : HasSeenLegal last) (lying : lies last ≡ Some left) where
      turned : TurnTogether meets.swaps cpus' left
      turned = record {
        number = λ k d lt. number_of k d (omega (arith, lt, count, count'));
        seats = λ k d lt. seats_of k d (omega (arith, lt, count, count')) ∙ sym (count' ∙ count);
        seen = λ k d lt. meets.seen k d (omega (arith, lt, count'));
        lying = λ d. ap (λ (z : CpuView J). lies z.turn) (first_of d) ∙ lying;
        history = λ d. subst (λ (z : CpuView J). HasSeenLegal z.turn) (sym (first_of d)) legal;
      }
        where
          inside : 0 < length cpus'
          inside = omega (arith, some, count, count')

          first_of : (d : CpuView J) → get_or cpus' 0 d ≡ get_or cpus' 0 nobody
          first_of d = get_or_default cpus' 0 d nobody inside

          number_of : (k : ℕ) (d : CpuView J) → k < length cpus → (get_or cpus' k d).turn.number ≡ k
          number_of zero d lt = ap (λ (z : CpuView J). z.turn.number) (first_of d) ∙ (ap (λ (z : BaySeatView Engine). z.number) same ∙ before.number 0 nobody some)
          number_of (suc k) d lt = ap (λ (z : BaySeatView Engine). z.number) (accepts (suc k) d (omega arith) lt).is ∙ before.number (suc k) d lt

          seats_of : (k : ℕ) (d : CpuView J) → k < length cpus → (get_or cpus' k d).turn.seats ≡ length cpus
          seats_of zero d lt = ap (λ (z : CpuView J). z.turn.seats) (first_of d) ∙ (ap (λ (z : BaySeatView Engine). z.seats) same ∙ before.seats 0 nobody some)
          seats_of (suc k) d lt = ap (λ (z : BaySeatView Engine). z.seats) (accepts (suc k) d (omega arith) lt).is ∙ before.seats (suc k) d lt

    -- the act was no turn: the engine that lay there was found
    module _ (unmoved : (get_or acted 0 nobody).turn ≡ first) where
      meeting : TakesTurn first found left last
      meeting = subst (λ (z : BaySeatView Engine). TakesTurn z found left last) unmoved (meets.first nobody)

      pub idle_turned : (found ≡ v) × TurnTogether meets.swaps cpus' left
      idle_turned =
          let alone = still_alone first last v found left meets.swaps meeting (is_seen last.seen meets.swaps last_seen) first_alone in (
            found_is first last v found left meets.swaps meeting (is_seen last.seen meets.swaps last_seen) first_alone,
            turned (same_seat first last v found left meets.swaps meeting (is_seen last.seen meets.swaps last_seen) first_alone) alone.legal alone.lying,
          )

    -- behind the act
    abbrev middle : BaySeatView Engine
    middle = (get_or acted 0 nobody).turn

    middle_on : IsBeginning middle.seen meets.swaps
    middle_on = goes_further middle.seen last.seen meets.swaps (turn_since middle last found left (meets.first nobody)) (is_seen last.seen meets.swaps last_seen)

    -- it found the engine there: all seats are in hand, and none of them had it
    pub never_busy : FindsBusy first middle → ⊥
    never_busy = finds_it first middle v meets.swaps middle_on first_alone

    -- the act was a turn of the first one: it found the engine that lay there, and the meeting found what it had left
    module _ (took put : Engine) (turn : TakesTurn first took put middle) where
      meeting_behind : TakesTurn middle found left last
      meeting_behind = meets.first nobody

      on : IsBeginning last.seen meets.swaps
      on = is_seen last.seen meets.swaps last_seen

      middle_alone : IsAlone middle put meets.swaps
      middle_alone = still_alone first middle v took put meets.swaps turn middle_on first_alone

      pub turn_turned : (took ≡ v) × (found ≡ put) × TurnTogether meets.swaps cpus' left
      turn_turned =
          let alone = still_alone middle last put found left meets.swaps meeting_behind on middle_alone in (
            found_is first middle v took put meets.swaps turn middle_on first_alone,
            found_is middle last put found left meets.swaps meeting_behind on middle_alone,
            turned (same_seat middle last put found left meets.swaps meeting_behind on middle_alone ∙ ap (λ (z : BaySeatView Engine). record z { seen = last.seen }) (same_seat first middle v took put meets.swaps turn middle_on first_alone)) alone.legal alone.lying,
          )
