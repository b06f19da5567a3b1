-- Taking the engine with all seats in hand: nobody else has it.
use Rattle.std.proofs.Common.{◌≡◌, ◌≢◌, ℕ, ◌<◌, List, ◌∷◌, ◌++◌, get_or, length, Option, Some, None, [], true, false, sym, ap, ◌∙◌, subst}
use Rattle.desk.specs.Glossary.{swaps_of, lies_after, holds_after, holds_behind, BaySeatView, MakesSwap, IsHeldElsewhere}
use Rattle.desk.proofs.CallerLemmas.{own_between}
use Rattle.domain.specs.Glossary.{Engine, CpuView, new_cpu, TurnCovers, AreAllTurns, EachBecomes, IsTurned}
use Rattle.scan.specs.Stations.{IsOfStation, Takes}
use Rattle.domain.proofs.Turning.{swaps_beginning_trans}

module _ {J : Type 0} where
  -- a swap behind loads is a swap behind what was there before them
  pub swap_after_loads : (v t w : BaySeatView Engine) (cpus : List (CpuView J)) (left found : Option Engine) → TurnCovers v cpus t → MakesSwap t left found w → MakesSwap v left found w
  swap_after_loads v t w cpus left found h m =
      let number : t.number ≡ v.number = ap (λ (z : BaySeatView Engine). z.number) h.same in
      record {
        same = m.same ∙ ap (λ (z : BaySeatView Engine). record z { seen = w.seen }) h.same;
        before = m.before;
        since = swaps_beginning_trans _ _ _ h.since m.since;
        own = ap (λ n. swaps_of n m.before) (sym number) ∙ (m.own ∙ (ap (λ n. swaps_of n t.seen) number ∙ h.own));
        finds = m.finds ∙ ap (λ (z : BaySeatView Engine). lies_after z.first m.before) h.same;
        seen = m.seen ∙ ap (λ n. m.before ++ record { by = n; left = left; found = found } ∷ []) number;
        history = m.history;
      }

  -- taken behind loads
  pub taken_at_once : (v t w : BaySeatView Engine) (cpus : List (CpuView J)) (found : Engine) → TurnCovers v cpus t → Takes t found w → Takes v found w
  taken_at_once v t w cpus found h k = record {
    swap = swap_after_loads v t w cpus None (Some found) h k.swap;
    holds_now = k.holds_now;
    domain = k.domain ∙ ap (λ (z : BaySeatView Engine). z.domain) h.same;
    size = subst (λ (z : BaySeatView Engine). IsOfStation z found) h.same k.size;
    tied = k.tied;
  }

-- the seat covered the others and took in vain, covered them again and admitted them: so one of them would have the engine, and none has it
module _ {J : Type 0} (v t u w : BaySeatView Engine) (cs cs' : List (CpuView J)) (all : AreAllTurns v cs) (first : TurnCovers v cs t) (vain : MakesSwap t None None u) (elsewhere : IsHeldElsewhere u) (again : TurnCovers u cs w) (admitted : EachBecomes (IsTurned w) cs cs') where
  -- for places where nothing stands
  abbrev nobody : CpuView J
  nobody = new_cpu (record { domain = v.bay; tree = v.bay; bay = v.bay; tallies = v.bay; processors = 0; periods = 0 }) (record { processors = 0; sections = 0; periods = 0; cells = 0 }) (record { processors = 0; nodes = 0 }) 0

  same_seat : u ≡ record v { seen = u.seen }
  same_seat = vain.same ∙ ap (λ (z : BaySeatView Engine). record z { seen = u.seen }) first.same

  abbrev n : ℕ
  n = elsewhere.holder

  holder : (k : ℕ) × (k < length cs) × ((c : CpuView J) → (get_or cs k c).turn.number ≡ n)
  holder = all.each n (subst (λ (z : BaySeatView Engine). n < z.seats) same_seat elsewhere.there) (subst (λ (z : BaySeatView Engine). n ≢ z.number) same_seat elsewhere.other)

  abbrev o : BaySeatView Engine
  o = (get_or cs holder.0 nobody).turn

  is : o.number ≡ n
  is = holder.2 nobody

  -- the other made no swap up to the last load
  still : swaps_of n u.seen ≡ swaps_of n o.seen
  still =
      let own : swaps_of n w.seen ≡ swaps_of n o.seen = ap (λ m. swaps_of m w.seen) (sym is) ∙ ((admitted.each holder.0 nobody holder.1).turn.own ∙ ap (λ m. swaps_of m o.seen) is) in
      own_between n o.seen u.seen w.seen (swaps_beginning_trans _ _ _ (first.covers holder.0 nobody holder.1) (swaps_beginning_trans _ _ _ vain.since record { rest = _; whole = vain.seen })) again.since own

  pub nobody_has_it : ⊥
  nobody_has_it =
      let held : holds_behind n u.seen ≡ true = elsewhere.holding in
      let free : holds_behind n u.seen ≡ false = ap (λ l. holds_after false l) (still ∙ ap (λ m. swaps_of m o.seen) (sym is)) ∙ all.others_free holder.0 nobody holder.1 in
      let clash : true ≡ false = sym held ∙ free in
      cc
