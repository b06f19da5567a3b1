-- No seat can claim a step that it did not make.
use Rattle.std.proofs.Common.{◌≡◌, ℕ, zero, suc, ◌<◌, ◌≤◌, ◌≢◌, ◌⊎◌, Bool, true, false, cond, nat_le, List, [], ◌∷◌, ◌++◌, map, length, set, refl, sym, ap, ◌∙◌, subst, inl, inr, ⊎_elim, append-nil, le-leb, leb-true, ne_eqb, arith}
use Rattle.std.proofs.lemmas.List.{map-append}
use Rattle.std.proofs.lemmas.List.Elements.{All-nil, All-push, filter-append}
use mathlib.Core.Option.{some, some-injective, some-ne-none}
use lib.ListN.{get_elem?}
use Rattle.atomic_table.specs.Table.{State, Splits, Joins}
use Rattle.atomic_table.proofs.Lists.{set_here, set_else, at_longer, at_last, at_map}
use Rattle.onedom.specs.declared.event.Maker.{Maker}
use Rattle.onedom.specs.declared.event.Maker.TheVariants.{Processor, Engine}
use Rattle.onedom.specs.Histories.{same_maker}
use Rattle.onedom.proofs.CallerLemmas.{same_maker_false, beginning_empty}
use Rattle.sections.specs.Glossary.{FitsBank, Slot, Bounds, Role, Step, Moment, Deed, View, index_word, GoesOn, IsTrueOf, done_by, steps_of, IsUpto, StandsFor, HasDone, Fits, Kept, spent, texts_at, FitsShelf, IsTrueWord, HasNoStepMore}
use Rattle.sections.proofs.Banking.{reseat_banks, bank_free}
use Rattle.sections.specs.declared.view.Role.TheVariants.{Bearer, Cpu, Driver}
use Rattle.sections.specs.declared.view.Step.TheVariants.{LoadIndex, AddIndex}
use Rattle.sections.proofs.Knowing.{now, at_snoc, at_below, not_false, false≠true}
use Rattle.sections.proofs.Deeds.{deed, done_push, has_done_push, has_done_all}

-- Lists

pub from_map : (f : View → View) (l : List View) (j : ℕ) (d : View) → get_elem? (map f l) j ≡ some d → (u : View) × (get_elem? l j ≡ some u) × (f u ≡ d)
from_map f [] j d e = absurd (some-ne-none d (sym e))
from_map f (x ∷ xs) zero d e = (x, refl, some-injective (f x) d e)
from_map f (x ∷ xs) (suc j) d e = from_map f xs j d e

pub length_map : (f : View → View) (l : List View) → length (map f l) ≡ length l
length_map f [] = refl
length_map f (x ∷ xs) = ap suc (length_map f xs)

-- a list that has one whole with ds and x behind it is a beginning of ds, or has x behind ds too
either_way : (a r ds : List Deed) (x : Deed) (q : List Deed) → a ++ r ≡ (ds ++ x ∷ []) ++ q → IsUpto a ds ⊎ ((more : List Deed) × (a ≡ ds ++ x ∷ more))
either_way [] r ds x q e = inl (record { rest = ds; whole = refl })
either_way (y ∷ ys) r [] x q e = let same : y ≡ x = cc in inr (ys, ap (λ z. z ∷ ys) same)
either_way (y ∷ ys) r (d ∷ ds) x q e =
    let same : y ≡ d = cc in
    let tail : ys ++ r ≡ (ds ++ x ∷ []) ++ q = cc in
    ⊎_elim (λ (h : IsUpto ys ds). inl (record { rest = h.rest; whole = ap (λ z. z ∷ ds) (sym same) ∙ ap (λ l. y ∷ l) h.whole }))
    (λ (h : (more : List Deed) × (ys ≡ ds ++ x ∷ more)). inr (h.0, ap (λ z. z ∷ ys) same ∙ ap (λ l. d ∷ l) h.1))
    (either_way ys r ds x q tail)

one_head : (ds m n : List Deed) (x y : Deed) → ds ++ x ∷ m ≡ ds ++ y ∷ n → x ≡ y
one_head [] m n x y e = cc
one_head (d ∷ ds) m n x y e = let tail : ds ++ x ∷ m ≡ ds ++ y ∷ n = cc in one_head ds m n x y tail

-- who shares one whole with ds and x, and another with ds and y, has a beginning of ds
neither : (a ds : List Deed) (x y : Deed) → (x ≡ y → ⊥) → IsUpto a ds ⊎ ((more : List Deed) × (a ≡ ds ++ x ∷ more)) → IsUpto a ds ⊎ ((more : List Deed) × (a ≡ ds ++ y ∷ more)) → IsUpto a ds
neither a ds x y differ (inl h) g = h
neither a ds x y differ (inr h) (inl g) = g
neither a ds x y differ (inr h) (inr g) = absurd (differ (one_head ds h.0 g.0 x y (sym h.1 ∙ g.1)))

-- Who stands for a maker

abbrev pub stands : Role → Maker → Bool
stands Bearer o = false
stands (Cpu p) o = same_maker o (Processor p)
stands (Driver k) Engine = true
stands (Driver k) (Processor p) = nat_le k p

pub not_standing : (r : Role) (o : Maker) → (StandsFor r o → ⊥) → stands r o ≡ false
not_standing Bearer o h = refl
not_standing (Cpu p) o h = same_maker_false o (Processor p) h
not_standing (Driver k) Engine h = absurd (h tt)
not_standing (Driver k) (Processor p) h = not_false (nat_le k p) (λ t. h (leb-true k p t))

pub others : (r : Role) (o : Maker) → stands r o ≡ false → (n : Maker) → StandsFor r n → same_maker o n ≡ false
others Bearer o e n g = absurd g
others (Cpu p) o e n g = ap (same_maker o) g ∙ e
others (Driver k) Engine e n g = absurd (false≠true (sym e))
others (Driver k) (Processor p) e Engine g = refl
others (Driver k) (Processor p) e (Processor q) g = ne_eqb p q (λ h. let le : k ≤ p = omega (arith, h, g) in false≠true (sym e ∙ le-leb k p le))

-- The same domain, where another maker has made one step more

abbrev taught : Maker → List Deed → View → View
taught o ds u = record u { done = cond (stands u.role o) ds u.done }

as_before : (o : Maker) (ds : List Deed) (v : View) → stands v.role o ≡ false → taught o ds v ≡ v
as_before o ds v e = ap (λ b. record v { done = cond b ds v.done }) e

has_taught : (deeds : List Deed) (o : Maker) (l : Step) (at : Moment) (u : View) → HasDone deeds u → (b : Bool) → stands u.role o ≡ b → HasDone (deeds ++ deed o l at ∷ []) (taught o (deeds ++ deed o l at ∷ []) u)
has_taught deeds o l at u h true e = let ds : List Deed = deeds ++ deed o l at ∷ [] in has_done_all ds (taught o ds u) (ap (λ b. cond b ds u.done) e)
has_taught deeds o l at u h false e = let ds : List Deed = deeds ++ deed o l at ∷ [] in subst (λ (z : View). HasDone ds z) (sym (as_before o ds u e)) (has_done_push deeds (deed o l at) u (others u.role o e) h)

-- a token that knows all that was done
abbrev knowing : List Deed → View
knowing ds = record spent { done = ds }

module _ (bounds : Bounds) (s : State Slot View) (r : Kept bounds s) (o : Maker) (l : Step) where
  abbrev longer : List Deed
  longer = r.deeds ++ deed o l (now r.log r.changes) ∷ []

  abbrev views : List View
  views = map (taught o longer) s.views ++ knowing longer ∷ []

  abbrev state : State Slot View
  state = record { words = s.words; homes = s.homes; views = views }

  abbrev last : ℕ
  last = length (map (taught o longer) s.views)

  each_view : (j : ℕ) (d : View) → get_elem? views j ≡ some d → Fits r.truth j d
  each_view j d e = ⊎_elim
      (λ (t : (j ≢ last) × (get_elem? (map (taught o longer) s.views) j ≡ some d)). let (u, at, is) = from_map (taught o longer) s.views j d t.1 in let f = r.each_view j u at in
      subst (λ (z : View). Fits r.truth j z) is (record { seen = f.seen; knows = f.knows; told = f.told; makes = f.makes; has = f.has; shown = f.shown }))
      (λ (t : (j ≡ last) × (knowing longer ≡ d)). subst (λ (z : View). Fits r.truth j z) t.1
      (record { seen = beginning_empty r.log; knows = omega arith; told = All-nil (λ m. GoesOn m (now r.log r.changes)); makes = tt; has = tt; shown = tt }))
      (at_snoc (map (taught o longer) s.views) (knowing longer) d j e)

  each_done : (j : ℕ) (d : View) → get_elem? views j ≡ some d → HasDone longer d
  each_done j d e = ⊎_elim
      (λ (t : (j ≢ last) × (get_elem? (map (taught o longer) s.views) j ≡ some d)). let (u, at, is) = from_map (taught o longer) s.views j d t.1 in
      subst (λ (z : View). HasDone longer z) is (has_taught r.deeds o l (now r.log r.changes) u (r.each_done j u at) (stands u.role o) refl))
      (λ (t : (j ≡ last) × (knowing longer ≡ d)). subst (λ (z : View). HasDone longer z) t.1 (record { upto = record { rest = []; whole = sym (append-nil longer) }; own = λ m g. absurd g }))
      (at_snoc (map (taught o longer) s.views) (knowing longer) d j e)

  each_shelf : (j : ℕ) (d : View) → get_elem? views j ≡ some d → FitsShelf bounds s.words r.log r.shelf.texts r.shelf.writer_of j d
  each_shelf j d e = ⊎_elim
      (λ (t : (j ≢ last) × (get_elem? (map (taught o longer) s.views) j ≡ some d)). let (u, at, is) = from_map (taught o longer) s.views j d t.1 in let f = r.shelf.each j u at in
      subst (λ (z : View). FitsShelf bounds s.words r.log r.shelf.texts r.shelf.writer_of j z) is (record { has = f.has; told = f.told; writes = f.writes }))
      (λ (t : (j ≡ last) × (knowing longer ≡ d)). subst (λ (z : View). FitsShelf bounds s.words r.log r.shelf.texts r.shelf.writer_of j z) t.1
      (record { has = refl; told = All-nil (λ m. m.texts ≡ texts_at r.shelf.texts m.history); writes = tt }))
      (at_snoc (map (taught o longer) s.views) (knowing longer) d j e)

  each_bank : (j : ℕ) (d : View) → get_elem? views j ≡ some d → FitsBank bounds.processors r.log r.banks.books r.banks.lane_of j d
  each_bank j d e = ⊎_elim
      (λ (t : (j ≢ last) × (get_elem? (map (taught o longer) s.views) j ≡ some d)). let (u, at, is) = from_map (taught o longer) s.views j d t.1 in let f = r.banks.each j u at in
      subst (λ (z : View). FitsBank bounds.processors r.log r.banks.books r.banks.lane_of j z) is (record { lane = f.lane; section = f.section; plan = f.plan; holds = f.holds; reads = f.reads; writes = f.writes }))
      (λ (t : (j ≡ last) × (knowing longer ≡ d)). subst (λ (z : View). FitsBank bounds.processors r.log r.banks.books r.banks.lane_of j z) t.1 (bank_free bounds s.homes s.views r.log r.shelf.texts r.banks r.log r.banks.lane_of j (knowing longer) (λ p mans. absurd mans) refl))
      (at_snoc (map (taught o longer) s.views) (knowing longer) d j e)

  kept : IsTrueOf (now r.log r.changes) l → IsTrueWord r.log r.shelf.texts l → Kept bounds state
  kept is word = record {
    truth = r.truth;
    known = r.known;
    small = r.small;
    within = r.within;
    words = r.words;
    each_view = each_view;
    deeds = longer;
    done = done_push r.deeds o l (now r.log r.changes) is r.done;
    each_done = each_done;
    shelf = record { texts = r.shelf.texts; writer_of = r.shelf.writer_of; room = r.shelf.room; shelved = r.shelf.shelved; each = each_shelf; loaded = All-push (λ d. IsTrueWord r.log r.shelf.texts d.step) r.deeds (deed o l (now r.log r.changes)) r.shelf.loaded word };
    banks = reseat_banks bounds s.homes s.views r.log r.shelf.texts r.banks views r.banks.lane_of (λ j v h at has. (taught o longer v, at_longer (map (taught o longer) s.views) (knowing longer ∷ []) j (taught o longer v) (at_map (taught o longer) s.views j v at), has)) each_bank;
  }

  -- a seat that doesn't stand for that maker is there as before
  there : (id : ℕ) (v : View) → get_elem? s.views id ≡ some v → (StandsFor v.role o → ⊥) → get_elem? views id ≡ some v
  there id v at not = at_longer (map (taught o longer) s.views) (knowing longer ∷ []) id v (at_map (taught o longer) s.views id v at ∙ ap some (as_before o longer v (not_standing v.role o not)))

  below : (id : ℕ) (v : View) → get_elem? s.views id ≡ some v → id < last
  below id v at = let b = at_below s.views v id at in let n = length_map (taught o longer) s.views in omega (arith, b, n)

  knows_all : get_elem? views last ≡ some (knowing longer)
  knows_all = at_last (map (taught o longer) s.views) (knowing longer) last refl

  abbrev Told : View → Type 0
  Told w = IsUpto w.done r.deeds ⊎ ((more : List Deed) × (w.done ≡ r.deeds ++ deed o l (now r.log r.changes) ∷ more))

  told : (after : State Slot View) → Kept bounds after → get_elem? after.views last ≡ some (knowing longer) → (j : ℕ) (w : View) → get_elem? after.views j ≡ some w → Told w
  told after k all j w at = let a = (k.each_done j w at).upto in let b = (k.each_done last (knowing longer) all).upto in
      either_way w.done a.rest r.deeds (deed o l (now r.log r.changes)) b.rest (sym a.whole ∙ b.whole)

  cut : IsTrueOf (now r.log r.changes) l → IsTrueWord r.log r.shelf.texts l → (id : ℕ) (v left right : View) → get_elem? s.views id ≡ some v → (StandsFor v.role o → ⊥) → Splits (Kept bounds) id v left right → Told left × Told right
  cut is word id v left right at not splits =
      let after : State Slot View = record { words = s.words; homes = s.homes; views = set views id left ++ right ∷ [] } in
      let k : Kept bounds after = splits state (kept is word) (there id v at not) in
      let low = below id v at in
      let all : get_elem? after.views last ≡ some (knowing longer) = at_longer (set views id left) (right ∷ []) last (knowing longer) (set_else views id last left (λ h. omega (arith, h, low)) ∙ knows_all) in (
        told after k all id left (at_longer (set views id left) (right ∷ []) id left (set_here views id left (at_below views v id (there id v at not)))),
        told after k all (length (set views id left)) right (at_last (set views id left) right (length (set views id left)) refl),
      )

  taken : IsTrueOf (now r.log r.changes) l → IsTrueWord r.log r.shelf.texts l → (id : ℕ) (v : View) (other : ℕ) (w both gone : View) → get_elem? s.views id ≡ some v
      → (StandsFor v.role o → ⊥) → (other ≡ id → ⊥) → get_elem? s.views other ≡ some w → (StandsFor w.role o → ⊥) → Joins (Kept bounds) id v other w both gone → Told both
  taken is word id v other w both gone at not apart there_too neither_one joins =
      let after : State Slot View = record { words = s.words; homes = s.homes; views = set (set views id both) other gone } in
      let k : Kept bounds after = joins state (kept is word) (there id v at not) apart (set_else views id other both apart ∙ there other w there_too neither_one) in
      let low = below id v at in
      let low_too = below other w there_too in
      let all : get_elem? after.views last ≡ some (knowing longer) = set_else (set views id both) other last gone (λ h. omega (arith, h, low_too)) ∙ (set_else views id last both (λ h. omega (arith, h, low)) ∙ knows_all) in
      told after k all id both (set_else (set views id both) other id gone (λ h. apart (sym h)) ∙ set_here views id both (at_below views v id (there id v at not)))

-- what is a beginning of all that was done has no step more than the seat that stands for the maker
no_more : (deeds : List Deed) (m : Maker) (v w : View) → HasDone deeds v → StandsFor v.role m → IsUpto w.done deeds → HasNoStepMore m v w
no_more deeds m v w h is upto = record {
  rest = steps_of m upto.rest;
  whole = ap (map (λ d. d.step)) (h.own m is ∙ (ap (done_by m) upto.whole ∙ filter-append (λ d. same_maker d.by m) w.done upto.rest)) ∙ map-append (λ d. d.step) (done_by m w.done) (done_by m upto.rest);
}

-- that maker may have loaded the index word or have added to it: no view knows which
module _ (bounds : Bounds) (s : State Slot View) (r : Kept bounds s) (id : ℕ) (v : View) (at : get_elem? s.views id ≡ some v) (m o : Maker) (is : StandsFor v.role m) (not : StandsFor v.role o → ⊥) where
  abbrev n : ℕ
  n = index_word r.changes

  other_step : LoadIndex n ≡ AddIndex n → ⊥
  other_step e = cc

  neither_step : (w : View) → Told bounds s r o (LoadIndex n) w → Told bounds s r o (AddIndex n) w → HasNoStepMore m v w
  neither_step w a b = let at_now : Moment = now r.log r.changes in
      no_more r.deeds m v w (r.each_done id v at) is (neither w.done r.deeds (deed o (LoadIndex n) at_now) (deed o (AddIndex n) at_now) (λ e. other_step (ap (λ d. d.step) e)) a b)

  pub no_step_by_split : (left right : View) → Splits (Kept bounds) id v left right → HasNoStepMore m v left × HasNoStepMore m v right
  no_step_by_split left right splits = let a = cut bounds s r o (LoadIndex n) refl tt id v left right at not splits in let b = cut bounds s r o (AddIndex n) refl tt id v left right at not splits in (neither_step left a.0 b.0, neither_step right a.1 b.1)

  pub no_step_by_join : (other : ℕ) (w both gone : View) → (other ≡ id → ⊥) → get_elem? s.views other ≡ some w → (StandsFor w.role o → ⊥) → Joins (Kept bounds) id v other w both gone → HasNoStepMore m v both
  no_step_by_join other w both gone apart there_too neither_one joins = neither_step both (taken bounds s r o (LoadIndex n) refl tt id v other w both gone at not apart there_too neither_one joins)
      (taken bounds s r o (AddIndex n) refl tt id v other w both gone at not apart there_too neither_one joins)
