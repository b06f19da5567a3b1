-- No cut or join of seats can claim a deed: others may do more meanwhile than any cut or join can know of.
use Rattle.std.proofs.Common.{◌≡◌, ◌≢◌, ℕ, zero, suc, ◌<◌, ◌≤◌, Bool, true, false, cond, eqb, nat_le, List, [], ◌∷◌, ◌++◌, All, map, length, set, refl, sym, ap, ◌∙◌, subst, ⊎_elim, length-append, le-leb, leb-true, eq-eqb, ne_eqb, true≢false, arith}
use Rattle.std.proofs.lemmas.List.Elements.{All-nil, All-cons}
use mathlib.Core.Option.{some, some-injective, some-ne-none}
use lib.ListN.{get_elem?}
use Rattle.atomic_table.specs.Table.{State, Splits, Joins}
use Rattle.atomic_table.proofs.Lists.{set_here, set_else, at_longer, at_last, at_map}
use Rattle.annals.specs.Glossary.{Role, View, Maker, IsBeginning, made_by, Head, Sitter, StandsFor, Client, Fits, Kept, HasNoMore, MayDo, NoDeedIsForged}
use Rattle.annals.specs.declared.view.Role.TheVariants.{Nobody, Dealer, Sits}
use Rattle.annals.proofs.Logs.{beginning_refl, beginning_empty, beginning_more, shorter_begins, made_append, made_other}
use Rattle.annals.proofs.Views.{at_below, at_snoc}

from_map : {V : Type 0} (f : V → V) (l : List V) (j : ℕ) (d : V) → get_elem? (map f l) j ≡ some d → (u : V) × (get_elem? l j ≡ some u) × (f u ≡ d)
from_map f [] j d e = absurd (some-ne-none d (sym e))
from_map f (x ∷ xs) zero d e = (x, refl, some-injective (f x) d e)
from_map f (x ∷ xs) (suc j) d e = from_map f xs j d e

length_map : {V : Type 0} (f : V → V) (l : List V) → length (map f l) ≡ length l
length_map f [] = refl
length_map f (x ∷ xs) = ap suc (length_map f xs)

-- Who stands for a maker

abbrev stands : Role → Maker → Bool
stands Nobody o = false
stands (Dealer k) Head = true
stands (Dealer k) (Sitter n) = nat_le k n
stands (Sits n) Head = false
stands (Sits n) (Sitter m) = eqb m n

not_true : (b : Bool) → (b ≡ true → ⊥) → b ≡ false
not_true true h = absurd (h refl)
not_true false h = refl

not_standing : (r : Role) (o : Maker) → (StandsFor r o → ⊥) → stands r o ≡ false
not_standing Nobody o h = refl
not_standing (Dealer k) Head h = absurd (h tt)
not_standing (Dealer k) (Sitter n) h = not_true (nat_le k n) (λ t. h (leb-true k n t))
not_standing (Sits n) Head h = refl
not_standing (Sits n) (Sitter m) h = ne_eqb m n h

standing : (r : Role) (o : Maker) → StandsFor r o → stands r o ≡ true
standing Nobody o h = absurd h
standing (Dealer k) Head h = refl
standing (Dealer k) (Sitter n) h = le-leb k n h
standing (Sits n) Head h = absurd h
standing (Sits n) (Sitter m) h = eq-eqb m n h

module _ {K S E D C : Type 0} (P : Client K S E D C) (key : K) (s : State S (View E D C)) (r : Kept P key s) (o : Maker) (may : MayDo P key o) where
  -- so many deeds more of this maker
  abbrev more : ℕ → (ds : List D) × P.agrees key r.world s.words s.homes r.log ds
  more zero = (r.deeds, r.agreed)
  more (suc n) = let m = more n in let d = may r.world s.words s.homes r.log m.0 m.1 in (m.0 ++ d.0 ∷ [], d.2)

  abbrev again : ℕ → List D
  again n = (more n).0

  abbrev one : ℕ → D
  one n = (may r.world s.words s.homes r.log (more n).0 (more n).1).0

  its_own : (n : ℕ) → All (λ d. P.doer d ≡ o) (one n ∷ [])
  its_own n = All-cons (λ (d : D). P.doer d ≡ o) (one n) [] (may r.world s.words s.homes r.log (more n).0 (more n).1).1 (All-nil (λ (d : D). P.doer d ≡ o))

  again_long : (n : ℕ) → n ≤ length (again n)
  again_long zero = omega arith
  again_long (suc n) = let h = again_long n in let l = length-append (again n) (one n ∷ []) in omega (arith, h, l)

  again_upto : (n : ℕ) (known : List D) → IsBeginning known r.deeds → IsBeginning known (again n)
  again_upto zero known h = h
  again_upto (suc n) known h = beginning_more known (again n) (one n ∷ []) (again_upto n known h)

  again_other : (n : ℕ) (g : Maker) → g ≢ o → made_by P.doer g (again n) ≡ made_by P.doer g r.deeds
  again_other zero g ne = refl
  again_other (suc n) g ne = made_other P.doer g o (again n) (one n ∷ []) ne (its_own n) ∙ again_other n g ne

  module _ (n : ℕ) where
    abbrev all : List D
    all = again n

    -- the maker's seat knows of them
    abbrev taught : View E D C → View E D C
    taught u = record u { done = cond (stands u.role o) all u.done }

    -- so does a token
    abbrev knowing : View E D C
    knowing = record { role = Nobody; seen = []; told = []; done = all; client = P.blank }

    abbrev before : List (View E D C)
    before = map taught s.views

    abbrev last : ℕ
    last = length before

    abbrev state : State S (View E D C)
    state = record { words = s.words; homes = s.homes; views = before ++ knowing ∷ [] }

    fits_taught : (j : ℕ) (u : View E D C) → Fits P key r.world r.log r.deeds r.seat_of r.holder j u → (b : Bool) → stands u.role o ≡ b → Fits P key r.world r.log all r.seat_of r.holder j (taught u)
    fits_taught j u f true e = let is : cond (stands u.role o) all u.done ≡ all = ap (λ b. cond b all u.done) e in record {
      seen = f.seen;
      told = f.told;
      alone = f.alone;
      own = f.own;
      upto = subst (λ (l : List D). IsBeginning l all) (sym is) (beginning_refl all);
      own_done = λ h _. ap (made_by P.doer h) (sym is);
      holds = f.holds;
      known = f.known;
    }
    fits_taught j u f false e = let is : cond (stands u.role o) all u.done ≡ u.done = ap (λ b. cond b all u.done) e in record {
      seen = f.seen;
      told = f.told;
      alone = f.alone;
      own = f.own;
      upto = subst (λ (l : List D). IsBeginning l all) (sym is) (again_upto n u.done f.upto);
      own_done = λ h g. again_other n h (λ ho. true≢false (sym (standing u.role o (subst (StandsFor u.role) ho g)) ∙ e)) ∙ (f.own_done h g ∙ ap (made_by P.doer h) (sym is));
      holds = f.holds;
      known = f.known;
    }

    each_view : (j : ℕ) (d : View E D C) → get_elem? state.views j ≡ some d → Fits P key r.world r.log all r.seat_of r.holder j d
    each_view j d e = ⊎_elim
        (λ (t : (j ≢ last) × (get_elem? before j ≡ some d)). let (u, at, is) = from_map taught s.views j d t.1 in subst (λ (z : View E D C). Fits P key r.world r.log all r.seat_of r.holder j z) is (fits_taught j u (r.each_view j u at) (stands u.role o) refl))
        (λ (t : (j ≡ last) × (knowing ≡ d)). subst (λ (z : View E D C). Fits P key r.world r.log all r.seat_of r.holder j z) t.1
        (record { seen = beginning_empty r.log; told = beginning_empty r.log; alone = λ h g. absurd g; own = λ h g. absurd g; upto = beginning_refl all; own_done = λ h g. absurd g; holds = λ x h. absurd (true≢false (sym h ∙ P.bare x)); known = P.nobody key r.world r.log }))
        (at_snoc before knowing d j e)

    kept : Kept P key state
    kept = record { log = r.log; deeds = all; world = r.world; seat_of = r.seat_of; holder = r.holder; agreed = (more n).1; each_view = each_view }

    -- a seat that doesn't stand for that maker is there as before
    there : (id : ℕ) (v : View E D C) → get_elem? s.views id ≡ some v → (StandsFor v.role o → ⊥) → get_elem? state.views id ≡ some v
    there id v at not = at_longer before (knowing ∷ []) id v (at_map taught s.views id v at ∙ ap some (ap (λ b. record v { done = cond b all v.done }) (not_standing v.role o not)))

    below : (id : ℕ) (v : View E D C) → get_elem? s.views id ≡ some v → id < last
    below id v at = let b = at_below s.views id v at in let long = length_map taught s.views in omega (arith, b, long)

    knows_all : get_elem? state.views last ≡ some knowing
    knows_all = at_last before knowing last refl

    module _ (k : ℕ) (u : View E D C) (here : get_elem? s.views k ≡ some u) (h : Maker) (is : StandsFor u.role h) (differ : h ≢ o) where
      -- whatever a seat tells then, it tells no more than what is known
      tells : (after : State S (View E D C)) → Kept P key after → get_elem? after.views last ≡ some knowing → (j : ℕ) (w : View E D C) → get_elem? after.views j ≡ some w → length w.done ≤ n → HasNoMore P.doer h u.done w.done
      tells after a know j w at short =
          let mine = (a.each_view j w at).upto in
          let known = (a.each_view last knowing know).upto in
          let long = again_long n in
          let upto = shorter_begins w.done all mine.rest known.rest (sym mine.whole ∙ known.whole) (omega (arith, short, long)) in record {
            rest = made_by P.doer h upto.rest;
            whole = sym ((r.each_view k u here).own_done h is) ∙ (sym (again_other n h differ) ∙ (ap (made_by P.doer h) upto.whole ∙ made_append P.doer h w.done upto.rest));
          }

      module _ (id : ℕ) (v : View E D C) (at : get_elem? s.views id ≡ some v) (not : StandsFor v.role o → ⊥) where
        cut : (left right : View E D C) → Splits (Kept P key) id v left right → (j : ℕ) (w : View E D C) → get_elem? (set state.views id left ++ right ∷ []) j ≡ some w → length w.done ≤ n → HasNoMore P.doer h u.done w.done
        cut left right splits = let low = below id v at in
            tells record { words = s.words; homes = s.homes; views = set state.views id left ++ right ∷ [] } (splits state kept (there id v at not))
            (at_longer (set state.views id left) (right ∷ []) last knowing (set_else state.views id last left (λ e. omega (arith, e, low)) ∙ knows_all))

        pub cut_left : (left right : View E D C) → Splits (Kept P key) id v left right → length left.done ≤ n → HasNoMore P.doer h u.done left.done
        cut_left left right splits = cut left right splits id left (at_longer (set state.views id left) (right ∷ []) id left (set_here state.views id left (at_below state.views id v (there id v at not))))

        pub cut_right : (left right : View E D C) → Splits (Kept P key) id v left right → length right.done ≤ n → HasNoMore P.doer h u.done right.done
        cut_right left right splits = cut left right splits (length (set state.views id left)) right (at_last (set state.views id left) right (length (set state.views id left)) refl)

        module _ (other : ℕ) (w both gone : View E D C) (apart : other ≢ id) (there_too : get_elem? s.views other ≡ some w) (neither_one : StandsFor w.role o → ⊥) (joins : Joins (Kept P key) id v other w both gone) where
          second : get_elem? (set state.views id both) other ≡ some w
          second = set_else state.views id other both apart ∙ there other w there_too neither_one

          taken : (j : ℕ) (x : View E D C) → get_elem? (set (set state.views id both) other gone) j ≡ some x → length x.done ≤ n → HasNoMore P.doer h u.done x.done
          taken = let low = below id v at in let low_too = below other w there_too in
              tells record { words = s.words; homes = s.homes; views = set (set state.views id both) other gone } (joins state kept (there id v at not) apart second)
              (set_else (set state.views id both) other last gone (λ e. omega (arith, e, low_too)) ∙ (set_else state.views id last both (λ e. omega (arith, e, low)) ∙ knows_all))

          pub taken_both : length both.done ≤ n → HasNoMore P.doer h u.done both.done
          taken_both = taken id both (set_else (set state.views id both) other id gone (λ e. apart (sym e)) ∙ set_here state.views id both (at_below state.views id v (there id v at not)))

          pub taken_gone : length gone.done ≤ n → HasNoMore P.doer h u.done gone.done
          taken_gone = taken other gone (set_here (set state.views id both) other gone (at_below (set state.views id both) other w second))

pub no_deed_forged : {K S E D C : Type 0} (P : Client K S E D C) (key : K) → NoDeedIsForged P key
no_deed_forged P key s r id v at k u here h o is differ not may = (
  (λ left right splits. (cut_left P key s r o may (length left.done) k u here h is differ id v at not left right splits (omega arith), cut_right P key s r o may (length right.done) k u here h is differ id v at not left right splits (omega arith))),
  (λ other w both gone apart there_too neither_one joins.
      (taken_both P key s r o may (length both.done) k u here h is differ id v at not other w both gone apart there_too neither_one joins (omega arith), taken_gone P key s r o may (length gone.done) k u here h is differ id v at not other w both gone apart there_too neither_one joins (omega arith))),
)
