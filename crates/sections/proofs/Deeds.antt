-- Lists of the steps that are no events.
use Rattle.std.proofs.Common.{◌≡◌, ℕ, true, false, List, [], ◌∷◌, ◌++◌, All, map, refl, sym, ap, ◌∙◌, subst, append_assoc, append-nil, arith}
use Rattle.std.proofs.lemmas.List.{map-append}
use Rattle.std.proofs.lemmas.List.Elements.{All-nil, All-head, All-tail, All-push, All-weaker}
use Rattle.onedom.specs.declared.event.Maker.{Maker}
use Rattle.onedom.specs.declared.event.Maker.TheVariants.{Processor, Engine}
use Rattle.onedom.specs.declared.event.Event.{Event}
use Rattle.onedom.specs.Histories.{same_maker}
use Rattle.onedom.proofs.CallerLemmas.{kept_out, let_in, same_maker_refl, beginning_refl, beginning_trans}
use Rattle.sections.specs.Glossary.{Moment, Role, Step, Deed, View, GoesOn, IsTrueOf, AreOrdered, AreDone, done_by, steps_of, IsUpto, IsMaker, StandsFor, HasDone, Makes, Fits, Truth}
use Rattle.sections.specs.declared.view.Role.TheVariants.{Bearer, Cpu, Driver}
use Rattle.sections.proofs.Knowing.{seat_at}

-- Makers

pub cpu_makes : (p : ℕ) (r : Role) → r ≡ Cpu p → IsMaker r (Processor p)
cpu_makes p r is = subst (λ (z : Role). IsMaker z (Processor p)) (sym is) refl

pub engine_makes : (k : ℕ) (r : Role) → r ≡ Driver k → IsMaker r Engine
engine_makes k r is = subst (λ (z : Role). IsMaker z Engine) (sym is) refl

maker_stands : (r : Role) (m : Maker) → IsMaker r m → StandsFor r m
maker_stands (Driver k) m h = subst (λ (z : Maker). StandsFor (Driver k) z) (sym h) tt
maker_stands _ m h = h

one_maker : (r : Role) (m n : Maker) → IsMaker r m → IsMaker r n → m ≡ n
one_maker Bearer m n h g = absurd h
one_maker _ m n h g = h ∙ sym g

-- a maker's seat
pub stands_at : {b : Truth} {j : ℕ} {v : View} → Fits b j v → (m : Maker) → StandsFor v.role m → seat_at b m ≡ j
stands_at {b} {j} {v} f m g = go v.role v.mine m f.makes g
  where
    go : (r : Role) (mine : List Event) (m : Maker) → Makes b j r mine → StandsFor r m → seat_at b m ≡ j
    go Bearer mine m h g = absurd g
    go (Cpu p) mine m h g = ap (seat_at b) g ∙ h.0
    go (Driver k) mine Engine h g = h.0
    go (Driver k) mine (Processor p) h g = (h.2 p g).0

pub maker_at : {b : Truth} {j : ℕ} {v : View} → Fits b j v → (m : Maker) → IsMaker v.role m → seat_at b m ≡ j
maker_at {v} f m g = stands_at f m (maker_stands v.role m g)

-- All that was done

goes_on_refl : (a : Moment) → GoesOn a a
goes_on_refl a = record { history = beginning_refl a.history; changes = omega arith }

pub goes_on_trans : (a b c : Moment) → GoesOn a b → GoesOn b c → GoesOn a c
goes_on_trans a b c h g = record { history = beginning_trans h.history g.history; changes = (let x = h.changes in let y = g.changes in omega (arith, x, y)) }

-- time goes by
pub done_later : (deeds : List Deed) (a b : Moment) → GoesOn a b → AreDone deeds a → AreDone deeds b
done_later deeds a b on h = record { words = h.words; ordered = h.ordered; until = All-weaker (λ d. GoesOn d.at a) (λ d. GoesOn d.at b) (λ d g. goes_on_trans d.at a b g on) deeds h.until }

ordered_push : (ds : List Deed) (d : Deed) → AreOrdered ds → All (λ e. GoesOn e.at d.at) ds → AreOrdered (ds ++ d ∷ [])
ordered_push [] d h all = (All-nil (λ e. GoesOn d.at e.at), tt)
ordered_push (e ∷ es) d h all = (All-push (λ x. GoesOn e.at x.at) es d h.0 (All-head (λ x. GoesOn x.at d.at) e es all), ordered_push es d h.1 (All-tail (λ x. GoesOn x.at d.at) e es all))

abbrev pub deed : Maker → Step → Moment → Deed
deed by step at = record { by = by; step = step; at = at }

-- a step is made now
pub done_push : (deeds : List Deed) (by : Maker) (l : Step) (at : Moment) → IsTrueOf at l → AreDone deeds at → AreDone (deeds ++ deed by l at ∷ []) at
done_push deeds by l at is h = record {
  words = All-push (λ d. IsTrueOf d.at d.step) deeds (deed by l at) h.words is;
  ordered = ordered_push deeds (deed by l at) h.ordered h.until;
  until = All-push (λ d. GoesOn d.at at) deeds (deed by l at) h.until (goes_on_refl at);
}

-- What a seat knows of it

pub upto_refl : (deeds : List Deed) → IsUpto deeds deeds
upto_refl deeds = record { rest = []; whole = sym (append-nil deeds) }

pub upto_empty : (deeds : List Deed) → IsUpto [] deeds
upto_empty deeds = record { rest = deeds; whole = refl }

upto_push : (done deeds : List Deed) (d : Deed) → IsUpto done deeds → IsUpto done (deeds ++ d ∷ [])
upto_push done deeds d h = record { rest = h.rest ++ d ∷ []; whole = ap (λ l. l ++ d ∷ []) h.whole ∙ append_assoc done h.rest (d ∷ []) }

pub has_done_push : (deeds : List Deed) (d : Deed) (v : View) → ((m : Maker) → StandsFor v.role m → same_maker d.by m ≡ false) → HasDone deeds v → HasDone (deeds ++ d ∷ []) v
has_done_push deeds d v other h = record {
  upto = upto_push v.done deeds d h.upto;
  own = λ m g. h.own m g ∙ sym (kept_out (λ x. same_maker x.by m) deeds d (other m g));
}

-- who has seen all
pub has_done_all : (deeds : List Deed) (w : View) → w.done ≡ deeds → HasDone deeds w
has_done_all deeds w is = record { upto = subst (λ l. IsUpto l deeds) (sym is) (upto_refl deeds); own = λ m _. ap (done_by m) is }

-- the same seat, with what it knew of it
pub has_done_as : (deeds : List Deed) (v w : View) → w.role ≡ v.role → w.done ≡ v.done → HasDone deeds v → HasDone deeds w
has_done_as deeds v w role done h = record {
  upto = subst (λ l. IsUpto l deeds) (sym done) h.upto;
  own = λ m g. ap (done_by m) done ∙ h.own m (subst (λ (z : Role). StandsFor z m) role g);
}

-- a token
pub has_done_none : (deeds : List Deed) (w : View) → w.role ≡ Bearer → w.done ≡ [] → HasDone deeds w
has_done_none deeds w role done = record { upto = subst (λ l. IsUpto l deeds) (sym done) (upto_empty deeds); own = λ m g. absurd (subst (λ (z : Role). StandsFor z m) role g) }

-- the steps of the maker whose seat it is
pub one_more_step : (r : Role) (m : Maker) (l : Step) (at : Moment) (done deeds : List Deed) → IsMaker r m → ((n : Maker) → StandsFor r n → done_by n done ≡ done_by n deeds)
    → (n : Maker) → IsMaker r n → steps_of n (deeds ++ deed m l at ∷ []) ≡ steps_of n done ++ l ∷ []
one_more_step r m l at done deeds is own n is' =
    let hit : same_maker m n ≡ true = ap (same_maker m) (one_maker r n m is' is) ∙ same_maker_refl m in
    ap (map (λ d. d.step)) (let_in (λ x. same_maker x.by n) deeds (deed m l at) hit)
    ∙ (map-append (λ d. d.step) (done_by n deeds) (deed m l at ∷ []) ∙ ap (λ ds. map (λ d. d.step) ds ++ l ∷ []) (sym (own n (maker_stands r n is'))))
