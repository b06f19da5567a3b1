-- A new vault keeps the rule, and so does each key that is dealt.
use Rattle.std.proofs.Common.{◌≡◌, ◌≢◌, ℕ, zero, suc, ◌+◌, ◌<◌, ◌⊎◌, inl, inr, ⊎_elim, List, [], ◌∷◌, ◌++◌, map, length, set, replicate, sym, refl, ap, ◌∙◌, subst, arith, Option, None, length-set}
use mathlib.Core.Option.{some, some-injective, some-ne-none}
use lib.ListN.{get_elem?, length-map, length-replicate}
use Rattle.atomic_table.specs.Table.{State, Splits, opening}
use Rattle.atomic_table.specs.Seated.{TableId}
use Rattle.atomic_table.specs.declared.badge.Badge.{Badge}
use Rattle.vault.specs.declared.pile.Pile.{Pile}
use Rattle.vault.specs.declared.key.Tally.{Tally}
use Rattle.vault.specs.Keys.{AreKeys}
use Rattle.vault.specs.Rule.{Lies, Fits, Vaulted, dealer, key_of, next_key, one_less}
use Rattle.vault.proofs.Calls.{Sat}
use Rattle.vault.proofs.Places.{put, put_here, put_else, seats}

-- what lies at a place of a list with one more behind it
at_snoc : {A : Type 0} (l : List A) (a b : A) (j : ℕ) → get_elem? (l ++ a ∷ []) j ≡ some b → ((j ≢ length l) × (get_elem? l j ≡ some b)) ⊎ ((j ≡ length l) × (a ≡ b))
at_snoc [] a b zero e = inr (refl, some-injective a b e)
at_snoc [] a b (suc j) e = absurd (some-ne-none b (sym e))
at_snoc (x ∷ xs) a b zero e = inl ((λ h. omega arith), e)
at_snoc (x ∷ xs) a b (suc j) e = ⊎_elim (λ t. let n = t.0 in inl ((λ h. n (omega arith)), t.1)) (λ t. inr (ap suc t.0, t.1)) (at_snoc xs a b j e)

module _ {X : Type 0} where
  abbrev none_there : Option (Pile X)
  none_there = None

  pub opens_new : (n : ℕ) → Vaulted {X = X} (opening (replicate 16 0) (replicate n none_there) (dealer n))
  opens_new n = record {
    content = λ _. None;
    out = λ _. 0;
    holder = λ _. 0;
    home = λ k lt _. vacant n k (let l = length-map (replicate n none_there) (λ (x : Option (Pile X)). some x) in let m = length-replicate n none_there in omega (arith, lt, l, m));
    each = λ j d e. first j d e;
  }
    where
      vacant : (n i : ℕ) → i < n → get_elem? (map (λ (x : Option (Pile X)). some x) (replicate n none_there)) i ≡ some (some none_there)
      vacant zero i h = absurd (omega (arith, h))
      vacant (suc n) zero h = refl
      vacant (suc n) (suc i) h = vacant n i (omega (arith, h))

      long : length (map (λ (x : Option (Pile X)). some x) (replicate n none_there)) ≡ n
      long = length-map (replicate n none_there) (λ (x : Option (Pile X)). some x) ∙ length-replicate n none_there

      founds : Fits {X = X} (λ _. None) (λ _. 0) (λ _. 0) (length (map (λ (x : Option (Pile X)). some x) (replicate n none_there))) 0 (dealer n)
      founds = record {
        alone = λ k e. refl;
        inside = λ k e. absurd (omega (arith, e));
        out_is = λ k e. absurd (omega (arith, e));
        lies = λ k e. absurd (omega (arith, e));
        deals = λ _ _. (sym long, λ k le. (refl, refl, refl));
      }

      first : (j : ℕ) (d : Tally) → get_elem? (dealer n ∷ []) j ≡ some d → Fits {X = X} (λ _. None) (λ _. 0) (λ _. 0) (length (map (λ (x : Option (Pile X)). some x) (replicate n none_there))) j d
      first zero d e = subst (Fits {X = X} (λ _. None) (λ _. 0) (λ _. 0) (length (map (λ (x : Option (Pile X)). some x) (replicate n none_there))) 0) (some-injective (dealer n) d e) founds
      first (suc j) d e = absurd (some-ne-none d (sym e))

  pub deals_key : (id : ℕ) (v : Tally) → v.key ≡ 0 → v.out ≡ 1 → v.count < v.round → Splits (Vaulted {X = X}) id v (one_less v) (next_key v)
  deals_key id v key out more s r at = let f = r.each id v at in let a = f.deals key out in let m : ℕ = length s.views in let n : ℕ = v.count in let long = a.0 in let h = put r.holder n m in record {
    content = r.content;
    out = r.out;
    holder = h;
    home = r.home;
    each = λ j d e. ⊎_elim
        (λ (t : (j ≢ length (set s.views id (one_less v))) × (get_elem? (set s.views id (one_less v)) j ≡ some d)).
        seats (Fits {X = X} r.content r.out h (length s.homes)) s.views id (one_less v)
        record {
          alone = λ k e. absurd (omega (arith, e, key));
          inside = λ k e. absurd (omega (arith, e, key));
          out_is = λ k e. absurd (omega (arith, e, key));
          lies = λ k e. absurd (omega (arith, e, key));
          deals = λ _ _. (a.0, λ k le. let b = a.1 k (omega (arith, le)) in (put_else r.holder n m k (λ e. omega (arith, e, le)) ∙ b.0, b.1, b.2));
        }
        (λ j d ne e. let g = r.each j d e in let other : (k : ℕ) → r.holder k ≡ j → k ≢ n = λ k hk e. ne (sym hk ∙ (ap r.holder e ∙ (a.1 n (omega arith)).0)) in record {
          alone = λ k e. put_else r.holder n m k (other k (g.alone k e)) ∙ g.alone k e;
          inside = g.inside;
          out_is = g.out_is;
          lies = g.lies;
          deals = λ z o. let b = g.deals z o in (b.0, λ k le. let c = b.1 k le in (put_else r.holder n m k (other k c.0) ∙ c.0, c.1, c.2));
        }) j d t.1)
        (λ (t : (j ≡ length (set s.views id (one_less v))) × (next_key v ≡ d)). subst (λ (x : ℕ × Tally). Fits {X = X} r.content r.out h (length s.homes) x.0 x.1) (λ i. (sym (t.0 ∙ length-set s.views id (one_less v)) i, t.1 i)) (new s r id v at key out more))
        (at_snoc (set s.views id (one_less v)) (next_key v) d j e);
  }
    where
      new : (s : State (Option (Pile X)) Tally) (r : Vaulted {X = X} s) (id : ℕ) (v : Tally) → get_elem? s.views id ≡ some v → v.key ≡ 0 → v.out ≡ 1 → v.count < v.round → Fits {X = X} r.content r.out (put r.holder v.count (length s.views)) (length s.homes) (length s.views) (next_key v)
      new s r id v at key out more = let f = r.each id v at in let a = f.deals key out in let b = a.1 v.count (omega arith) in let long = a.0 in record {
        alone = λ k e. let kn : k ≡ v.count = omega (arith, e) in ap (put r.holder v.count (length s.views)) kn ∙ put_here r.holder v.count (length s.views);
        inside = λ k e. omega (arith, e, more, long);
        out_is = λ k e. let kn : k ≡ v.count = omega (arith, e) in ap r.out kn ∙ b.1;
        lies = λ k e. let kn : k ≡ v.count = omega (arith, e) in subst (λ (z : Option (Pile X)). Lies z 0 0) (sym (ap r.content kn ∙ b.2)) refl;
        deals = λ z o. absurd (omega (arith, z));
      }

  -- the key after the first n
  pub deals_next : (id places n : ℕ) (me : Sat X) → me ≡ (record (dealer places) { count = n }, []) → n < places → Splits (Vaulted {X = X}) id me.0 (one_less me.0) (next_key me.0)
  deals_next id places n me is more = let v : me.0 ≡ record (dealer places) { count = n } = ap (λ (z : Sat X). z.0) is in let many = ap (λ (z : Tally). z.count) v in let all = ap (λ (z : Tally). z.round) v in
      deals_key id me.0 (ap (λ (z : Tally). z.key) v) (ap (λ (z : Tally). z.out) v) (omega (arith, many, all, more))

  -- what its seat knows
  pub next_is : (n places : ℕ) (m s : Sat X) (views : List Tally) → m ≡ (record (dealer places) { count = n }, []) → s ≡ (next_key m.0, []) → views ≡ s.0 ∷ [] → views ≡ key_of (0 + n) 0 0 ∷ []
  next_is n places m s views was is had = had ∙ (ap (λ (z : Sat X). z.0 ∷ []) is ∙ (ap (λ (z : Sat X). next_key z.0 ∷ []) was ∙ ap (λ (k : ℕ). key_of k 0 0 ∷ []) (omega arith)))

  pub left_is : (n places : ℕ) (m s : Sat X) → m ≡ (record (dealer places) { count = n }, []) → s ≡ (one_less m.0, m.1) → s ≡ (record (dealer places) { count = n + 1 }, [])
  left_is n places m s was is = is ∙ ap (λ (z : Sat X). (one_less z.0, z.1)) was

-- one key more
pub keys_push : (vault : TableId) (i n : ℕ) (keys : List (Badge Tally)) (key : Badge Tally) → AreKeys vault i keys → length keys ≡ n → key.table_id ≡ vault → key.views ≡ key_of (i + n) 0 0 ∷ [] → AreKeys vault i (keys ++ key ∷ [])
keys_push vault i n [] key are long of views = ((of, views ∙ ap (λ k. key_of k 0 0 ∷ []) (omega (arith, long))), tt)
keys_push vault i zero (x ∷ xs) key are long of views = absurd (omega (arith, long))
keys_push vault i (suc n) (x ∷ xs) key are long of views = (are.0, keys_push vault (suc i) n xs key are.1 (omega (arith, long)) of (views ∙ ap (λ k. key_of k 0 0 ∷ []) (omega arith)))

pub length_push : (keys : List (Badge Tally)) (key : Badge Tally) (n : ℕ) → length keys ≡ n → length (keys ++ key ∷ []) ≡ n + 1
length_push [] key n e = omega (arith, e)
length_push (x ∷ xs) key zero e = absurd (omega (arith, e))
length_push (x ∷ xs) key (suc n) e = let r = length_push xs key n (omega (arith, e)) in omega (arith, r)
