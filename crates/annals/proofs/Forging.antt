-- No cut or join of seats can claim an entry: the rule lists them, and other seats know of their own.
use Rattle.std.proofs.Common.{◌≡◌, ◌≢◌, ℕ, zero, suc, ◌≤◌, true, List, [], ◌∷◌, ◌++◌, All, set, length, refl, sym, ap, ◌∙◌, subst, length-append, arith}
use Rattle.std.proofs.lemmas.List.Elements.{All-nil, All-cons}
use mathlib.Core.Option.{some}
use lib.ListN.{get_elem?}
use Rattle.atomic_table.specs.Table.{State, Splits, Joins}
use Rattle.atomic_table.proofs.Lists.{set_here, set_else, at_longer, at_last}
use Rattle.annals.specs.Glossary.{Role, View, Maker, IsBeginning, made_by, StandsFor, Client, Fits, Kept, HasNoMore, Scene, MayGoOn, NoEntryIsForged}
use Rattle.annals.proofs.Logs.{beginning_refl, beginning_empty, beginning_more, shorter_begins, made_append, made_other}
use Rattle.annals.proofs.Views.{at_below, views_set}

module _ {K S E D C : Type 0} (P : Client K S E D C) (key : K) (s : State S (View E D C)) (r : Kept P key s) (there : ℕ) (u : View E D C) (o : Maker) (at : get_elem? s.views there ≡ some u) (is : StandsFor u.role o) (may : MayGoOn P key r.deeds o u.role) where
  fits : Fits P key r.world r.log r.deeds r.seat_of r.holder there u
  fits = r.each_view there u at

  here : r.seat_of o ≡ there
  here = fits.alone o is

  -- so many entries more of the other seat
  abbrev later : ℕ → Scene P key r.deeds u.role
  later zero = record { world = r.world; words = s.words; homes = s.homes; log = r.log; client = u.client; agreed = r.agreed; known = fits.known }
  later (suc k) = (may (later k)).later

  long : (k : ℕ) → k ≤ length (later k).log
  long zero = omega arith
  long (suc k) = let h = long k in let g = may (later k) in let l = ap length g.log_is ∙ length-append (later k).log (g.entry ∷ []) in omega (arith, h, l)

  one : (k : ℕ) → let g = may (later k) in All (λ e. P.by e ≡ o) (g.entry ∷ [])
  one k = let g = may (later k) in All-cons (λ (e : E). P.by e ≡ o) g.entry [] g.by (All-nil (λ (e : E). P.by e ≡ o))

  made_same : (m : Maker) (k : ℕ) → m ≢ o → made_by P.by m (later k).log ≡ made_by P.by m r.log
  made_same m zero ne = refl
  made_same m (suc k) ne = let g = may (later k) in ap (made_by P.by m) g.log_is ∙ (made_other P.by m o (later k).log (g.entry ∷ []) ne (one k) ∙ made_same m k ne)

  begins : (seen : List E) (k : ℕ) → IsBeginning seen r.log → IsBeginning seen (later k).log
  begins seen zero h = h
  begins seen (suc k) h = let g = may (later k) in subst (IsBeginning seen) (sym g.log_is) (beginning_more seen (later k).log (g.entry ∷ []) (begins seen k h))

  knows_on : (k : ℕ) (x : Role) (c : C) → (StandsFor x o → ⊥) → P.knows key r.world x r.log c → P.knows key (later k).world x (later k).log c
  knows_on zero x c not h = h
  knows_on (suc k) x c not h = (may (later k)).others x c not (knows_on k x c not h)

  rights_back : (k : ℕ) (x : P.Right) → P.has u.role (later k).client x ≡ true → P.has u.role u.client x ≡ true
  rights_back zero x h = h
  rights_back (suc k) x h = rights_back k x ((may (later k)).rights x h)

  module _ (k : ℕ) where
    abbrev all : List E
    all = (later k).log

    abbrev knowing : View E D C
    knowing = record { role = u.role; seen = all; told = []; done = u.done; client = (later k).client }

    abbrev state : State S (View E D C)
    state = record { words = (later k).words; homes = (later k).homes; views = set s.views there knowing }

    kept : Kept P key state
    kept = record {
      log = all;
      deeds = r.deeds;
      world = (later k).world;
      seat_of = r.seat_of;
      holder = r.holder;
      agreed = (later k).agreed;
      each_view = views_set (Fits P key (later k).world all r.deeds r.seat_of r.holder) s.views there knowing
          record { seen = beginning_refl all; told = beginning_empty all; alone = fits.alone; own = λ n _. refl; upto = fits.upto; own_done = fits.own_done; holds = λ x h. fits.holds x (rights_back k x h); known = (later k).known }
          (λ j z ne e. let f = r.each_view j z e in
          let not : StandsFor z.role o → ⊥ = λ h. ne (sym (f.alone o h) ∙ here) in record {
            seen = begins z.seen k f.seen;
            told = begins z.told k f.told;
            alone = f.alone;
            own = λ n h. made_same n k (λ no. not (subst (StandsFor z.role) no h)) ∙ f.own n h;
            upto = f.upto;
            own_done = f.own_done;
            holds = f.holds;
            known = knows_on k z.role z.client not f.known;
          });
    }

    module _ (id : ℕ) (v : View E D C) (m : Maker) (mine : get_elem? s.views id ≡ some v) (seat : StandsFor v.role m) (apart : there ≢ id) where
      same : made_by P.by m all ≡ made_by P.by m v.seen
      same = made_same m k (λ e. apart (sym here ∙ (ap r.seat_of (sym e) ∙ (r.each_view id v mine).alone m seat))) ∙ (r.each_view id v mine).own m seat

      still_mine : get_elem? state.views id ≡ some v
      still_mine = set_else s.views there id knowing (λ e. apart (sym e)) ∙ mine

      known_there : get_elem? state.views there ≡ some knowing
      known_there = set_here s.views there knowing (at_below s.views there u at)

      -- whatever a seat says then, it says no more than what is known
      says : (after : State S (View E D C)) → Kept P key after → get_elem? after.views there ≡ some knowing → (j : ℕ) (w : View E D C) → get_elem? after.views j ≡ some w → length w.seen ≤ k → HasNoMore P.by m v.seen w.seen
      says after a know j w at_j short =
          let lengthy = long k in
          let mine_there = (a.each_view j w at_j).seen in
          let all_there = (a.each_view there knowing know).seen in
          let up = shorter_begins w.seen all mine_there.rest all_there.rest (sym mine_there.whole ∙ all_there.whole) (omega (arith, short, lengthy)) in
          record { rest = made_by P.by m up.rest; whole = sym same ∙ (ap (made_by P.by m) up.whole ∙ made_append P.by m w.seen up.rest) }

      pub cut_left : (left right : View E D C) → length left.seen ≤ k → Splits (Kept P key) id v left right → HasNoMore P.by m v.seen left.seen
      cut_left left right short splits =
          says record { words = state.words; homes = state.homes; views = set state.views id left ++ right ∷ [] } (splits state kept still_mine)
          (at_longer (set state.views id left) (right ∷ []) there knowing (set_else state.views id there left apart ∙ known_there))
          id left (at_longer (set state.views id left) (right ∷ []) id left (set_here state.views id left (at_below state.views id v still_mine))) short

      pub cut_right : (left right : View E D C) → length right.seen ≤ k → Splits (Kept P key) id v left right → HasNoMore P.by m v.seen right.seen
      cut_right left right short splits =
          says record { words = state.words; homes = state.homes; views = set state.views id left ++ right ∷ [] } (splits state kept still_mine)
          (at_longer (set state.views id left) (right ∷ []) there knowing (set_else state.views id there left apart ∙ known_there))
          (length (set state.views id left)) right (at_last (set state.views id left) right (length (set state.views id left)) refl) short

      module _ (other : ℕ) (w both gone : View E D C) (not_me : other ≢ id) (not_there : other ≢ there) (was : get_elem? s.views other ≡ some w) (joins : Joins (Kept P key) id v other w both gone) where
        w_there : get_elem? (set state.views id both) other ≡ some w
        w_there = set_else state.views id other both not_me ∙ (set_else s.views there other knowing not_there ∙ was)

        joined : (j : ℕ) (x : View E D C) → get_elem? (set (set state.views id both) other gone) j ≡ some x → length x.seen ≤ k → HasNoMore P.by m v.seen x.seen
        joined = says record { words = state.words; homes = state.homes; views = set (set state.views id both) other gone } (joins state kept still_mine not_me w_there)
            (set_else (set state.views id both) other there gone (λ e. not_there (sym e)) ∙ (set_else state.views id there both apart ∙ known_there))

        pub joined_both : length both.seen ≤ k → HasNoMore P.by m v.seen both.seen
        joined_both = joined id both (set_else (set state.views id both) other id gone (λ e. not_me (sym e)) ∙ set_here state.views id both (at_below state.views id v still_mine))

        pub joined_gone : length gone.seen ≤ k → HasNoMore P.by m v.seen gone.seen
        joined_gone = joined other gone (set_here (set state.views id both) other gone (at_below (set state.views id both) other w w_there))

pub never_forged : {K S E D C : Type 0} (P : Client K S E D C) (key : K) → NoEntryIsForged P key
never_forged P key s r id v m mine seat there u o at is may apart = (
  (λ left right splits. (cut_left P key s r there u o at is may (length left.seen) id v m mine seat apart left right (omega arith) splits, cut_right P key s r there u o at is may (length right.seen) id v m mine seat apart left right (omega arith) splits)),
  (λ other w both gone not_me not_there was joins.
      (joined_both P key s r there u o at is may (length both.seen) id v m mine seat apart other w both gone not_me not_there was joins (omega arith), joined_gone P key s r there u o at is may (length gone.seen) id v m mine seat apart other w both gone not_me not_there was joins (omega arith))),
)
