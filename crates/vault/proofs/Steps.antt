-- The two steps of a call, the one that opens a place and the one that shuts it, keep the rule.
use Rattle.std.proofs.Common.{◌≡◌, ◌≢◌, ℕ, suc, List, [], ◌∷◌, length, get_or, set, sym, refl, ap, ◌∙◌, subst, arith, Option, Some, None, length-set}
use mathlib.Core.Logic.{dite}
use mathlib.Core.Option.{some, none}
use native.Mathlib.Decide.{ℕ_discrete}
use lib.ListN.{get_elem?}
use lib.Seq.{set-get_or}
use Rattle.atomic_table.specs.Table.{Me, step, takes, gives, stepped, Allows, rest}
use Rattle.atomic_table.proofs.Lists.{set_here, set_else}
use Rattle.vault.specs.declared.pile.Pile.{Pile}
use Rattle.vault.specs.declared.key.Tally.{Tally}
use Rattle.vault.specs.Rule.{Lies, count_of, round_of, Fits, Vaulted, opened, shut}
use Rattle.vault.proofs.Places.{put, put_here, put_else, seats}

one_place : (v : Tally) (k i : ℕ) → v.key ≡ suc k → v.key ≡ suc i → i ≡ k
one_place v k i a b = omega (arith, a, b)

module _ {X : Type 0} where
  abbrev first_or : Option (Pile X) → List (ℕ × Option (Pile X)) → Option (Pile X)
  first_or d [] = d
  first_or d (x ∷ xs) = x.1

  -- what the seat has in hand is one thing
  pub heads : (c x : Option (Pile X)) (k i : ℕ) (a b : List (ℕ × Option (Pile X))) → ◌≡◌ {A = List (ℕ × Option (Pile X))} ((k, c) ∷ a) ((i, x) ∷ b) → c ≡ x
  heads c x k i a b e = ap (first_or c) e

  pub opens_here : (slots id k : ℕ) (me : Me (Option (Pile X)) Tally) → me.0.key ≡ suc k → me.0.out ≡ 0 → Allows Vaulted slots id me 8 (λ x. x) (opened (step slots 8 0 0 none) me)
  opens_here slots id k me key home s r deep at fits = let f = r.each id me.0 at in let lt = f.inside k key in let w : Tally = record me.0 { out = 1 } in (
    w,
    takes k (r.content k),
    r.home k lt (f.out_is k key ∙ home),
    subst (λ (ws : List ℕ). Vaulted record { words = ws; homes = set s.homes k none; views = set s.views id w }) (sym (set-get_or s.words 8 0)) record {
      content = r.content;
      out = put r.out k 1;
      holder = r.holder;
      home = λ i inside z. let same = length-set s.homes k none in dite (ℕ_discrete i k) (λ e. let a = ap (put r.out k 1) e ∙ put_here r.out k 1 in absurd (omega (arith, a, z)))
          (λ ne. set_else s.homes k i none ne ∙ r.home i (omega (arith, inside, same)) (sym (put_else r.out k 1 i ne) ∙ z));
      each = seats (Fits r.content (put r.out k 1) r.holder (length (set s.homes k none))) s.views id w
          record {
            alone = f.alone;
            inside = λ i e. let same = length-set s.homes k none in let a = f.inside i e in omega (arith, a, same);
            out_is = λ i e. ap (put r.out k 1) (one_place me.0 k i key e) ∙ put_here r.out k 1;
            lies = f.lies;
            deals = λ z o. absurd (omega (arith, z, key));
          }
          (λ j d ne e. let g = r.each j d e in record {
            alone = g.alone;
            inside = λ i h. let same = length-set s.homes k none in let a = g.inside i h in omega (arith, a, same);
            out_is = λ i h. put_else r.out k 1 i (λ ik. ne (sym (g.alone i h) ∙ (ap r.holder ik ∙ f.alone k key))) ∙ g.out_is i h;
            lies = g.lies;
            deals = λ z o. let a = g.deals z o in (a.0 ∙ sym (length-set s.homes k none), λ i le. let b = a.1 i le in (b.0, put_else r.out k 1 i (λ ik. ne (sym b.0 ∙ (ap r.holder ik ∙ f.alone k key))) ∙ b.1, b.2));
          });
    },
    (λ i e. let ik = one_place me.0 k i key e in (r.content i, f.lies i e, refl, ap (λ (z : ℕ). (z, r.content z) ∷ me.1) (sym ik))),
  )

  lies_so : (c : Option (Pile X)) (d : ℕ) → Lies c (count_of c) (round_of c d)
  lies_so None d = refl
  lies_so (Some p) d = (refl, refl)

  pub shuts_here : (slots id k : ℕ) (c : Option (Pile X)) (me : Me (Option (Pile X)) Tally) → me.0.key ≡ suc k → me.1 ≡ (k, c) ∷ [] → Allows Vaulted slots id me 8 (λ x. x) (shut (step slots 8 0 0 none) me)
  shuts_here slots id k c me key carried s r deep at fits = let f = r.each id me.0 at in let lt = f.inside k key in let w : Tally = record me.0 { out = 0; count = count_of c; round = round_of c me.0.round } in (
    w,
    gives,
    tt,
    subst (λ (cs : List (ℕ × Option (Pile X))). Vaulted (stepped s 8 (get_or s.words 8 0) id cs w gives)) (sym carried)
        (subst (λ (ws : List ℕ). Vaulted record { words = ws; homes = set s.homes k (some c); views = set s.views id w }) (sym (set-get_or s.words 8 0)) record {
          content = put r.content k c;
          out = put r.out k 0;
          holder = r.holder;
          home = λ i inside z. let same = length-set s.homes k (some c) in dite (ℕ_discrete i k)
              (λ e. ap (get_elem? (set s.homes k (some c))) e ∙ (set_here s.homes k (some c) lt ∙ ap (λ (x : Option (Pile X)). some (some x)) (sym (ap (put r.content k c) e ∙ put_here r.content k c))))
              (λ ne. set_else s.homes k i (some c) ne ∙ (r.home i (omega (arith, inside, same)) (sym (put_else r.out k 0 i ne) ∙ z) ∙ ap (λ (x : Option (Pile X)). some (some x)) (sym (put_else r.content k c i ne))));
          each = seats (Fits (put r.content k c) (put r.out k 0) r.holder (length (set s.homes k (some c)))) s.views id w
              record {
                alone = f.alone;
                inside = λ i e. let same = length-set s.homes k (some c) in let a = f.inside i e in omega (arith, a, same);
                out_is = λ i e. ap (put r.out k 0) (one_place me.0 k i key e) ∙ put_here r.out k 0;
                lies = λ i e. subst (λ (x : Option (Pile X)). Lies x (count_of c) (round_of c me.0.round)) (sym (ap (put r.content k c) (one_place me.0 k i key e) ∙ put_here r.content k c)) (lies_so c me.0.round);
                deals = λ z o. absurd (omega (arith, z, key));
              }
              (λ j d ne e. let g = r.each j d e in let other : (i : ℕ) → d.key ≡ suc i → i ≢ k = λ i h ik. ne (sym (g.alone i h) ∙ (ap r.holder ik ∙ f.alone k key)) in record {
                alone = g.alone;
                inside = λ i h. let same = length-set s.homes k (some c) in let a = g.inside i h in omega (arith, a, same);
                out_is = λ i h. put_else r.out k 0 i (other i h) ∙ g.out_is i h;
                lies = λ i h. subst (λ (x : Option (Pile X)). Lies x d.count d.round) (sym (put_else r.content k c i (other i h))) (g.lies i h);
                deals = λ z o. let a = g.deals z o in (a.0 ∙ sym (length-set s.homes k (some c)), λ i le. let b = a.1 i le in let not : i ≢ k = λ ik. ne (sym b.0 ∙ (ap r.holder ik ∙ f.alone k key)) in (b.0, put_else r.out k 0 i not ∙ b.1, put_else r.content k c i not ∙ b.2));
              });
        }),
    (λ i x e is. let first = heads c x k i [] [] (sym carried ∙ is) in (
      ap (λ (z : Option (Pile X)). record me.0 { out = 0; count = count_of z; round = round_of z me.0.round }) first,
      ap (λ (cs : List (ℕ × Option (Pile X))). rest cs) carried,
    )),
  )
