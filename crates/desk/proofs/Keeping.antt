-- What the seats of a desk's table know, and how it stays so.
use Rattle.std.proofs.Common.{◌≡◌, ◌≢◌, ℕ, cond, eqb, List, [], ◌∷◌, ◌++◌, None, length, refl, sym, ap, ◌∙◌, subst, ⊎_elim, eq-eqb, ne_eqb}
use Rattle.std.proofs.lemmas.List.Elements.{All-weaker}
use mathlib.Core.Option.{some, some-injective, some-ne-none}
use lib.ListN.{get_elem?}
pub use Rattle.annals.proofs.CallerLemmas.{at_below, views_set}
use Rattle.annals.proofs.CallerLemmas.{at_snoc}
use Rattle.desk.specs.Glossary.{Role, Account, Swap, Books, Has, Is, Stands, Fits}
use Rattle.desk.specs.declared.view.Plan.{Plan}
use Rattle.desk.specs.declared.view.Role.TheVariants.{Nobody, Dealer, Waits, Sits, Gathers}
use Rattle.desk.specs.declared.view.View.{View}

module _ {V : Type 0} (K : ℕ → V → Type 0) where
  -- there is a new seat
  pub views_new : (vs : List V) (w : V) → K (length vs) w → ((j : ℕ) (v : V) → j ≢ length vs → get_elem? vs j ≡ some v → K j v) → (j : ℕ) (v : V) → get_elem? (vs ++ w ∷ []) j ≡ some v → K j v
  views_new vs w mine others j v e = ⊎_elim
      (λ (t : (j ≢ length vs) × (get_elem? vs j ≡ some v)). others j v t.0 t.1)
      (λ (t : (j ≡ length vs) × (w ≡ v)). subst (λ (x : ℕ × V). K x.0 x.1) (λ i. (sym t.0 i, t.1 i)) mine)
      (at_snoc vs w v j e)

-- A function that is another one at one number

abbrev pub given : ℕ → ℕ → (ℕ → ℕ) → ℕ → ℕ
given k value f n = cond (eqb n k) value (f n)

pub given_here : (k value : ℕ) (f : ℕ → ℕ) → given k value f k ≡ value
given_here k value f = ap (λ b. cond b value (f k)) (eq-eqb k k refl)

pub given_else : (k value : ℕ) (f : ℕ → ℕ) (n : ℕ) → n ≢ k → given k value f n ≡ f n
given_else k value f n ne = ap (λ b. cond b value (f n)) (ne_eqb n k ne)

-- What is known of a seat of the desk stays so

module _ {T : Type 0} (plan : Plan) where
  -- what one book says of the numbers of a seat, another one says too
  pub record Keeps (b b' : Books T) (id : ℕ) : Type 0 where
    pub is : (n : ℕ) (seen : List (Swap T)) → Is plan b id n seen → Is plan b' id n seen
    pub slot : (n : ℕ) (seen : List (Swap T)) → Is plan b id n seen → b'.slot_of n ≡ b.slot_of n
    pub home : (n : ℕ) (seen : List (Swap T)) → Is plan b id n seen → Has b (b.slot_of n) None → Has b' (b.slot_of n) None

  module _ (b b' : Books T) (id : ℕ) (keeps : Keeps b b' id) where
    has_as : (n : ℕ) (seen : List (Swap T)) → Is plan b id n seen → Has b (b.slot_of n) None → Has b' (b'.slot_of n) None
    has_as n seen is has = subst (λ i. Has b' i None) (sym (keeps.slot n seen is)) (keeps.home n seen is has)

    pub stands_as : (v : View T) (r : Role T) → Stands plan b id v r → Stands plan b' id v r
    stands_as v Nobody h = tt
    stands_as v (Dealer k) h = (h.0, λ n le lt. let g = h.1 n le lt in (keeps.is n [] g.0, keeps.slot n [] g.0 ∙ g.1, has_as n [] g.0 g.2))
    stands_as v (Waits n i) h = (h.0, keeps.is n v.seen h.1, keeps.slot n v.seen h.1 ∙ h.2, has_as n v.seen h.1 h.3)
    stands_as v (Sits n i) h = (h.0, keeps.is n v.seen h.1, keeps.slot n v.seen h.1 ∙ h.2)
    stands_as v (Gathers over) h = All-weaker (λ a. Is plan b id a.by a.seen × Has b (b.slot_of a.by) None) (λ a. Is plan b' id a.by a.seen × Has b' (b'.slot_of a.by) None)
        (λ (a : Account T) g. (keeps.is a.by a.seen g.0, has_as a.by a.seen g.0 g.1)) over h

    pub fits_as : (v : View T) → Fits plan b id v → Fits plan b' id v
    fits_as v h = stands_as v v.role h

  -- a view in a role
  pub role_as : (b : Books T) (id : ℕ) (v : View T) (r : Role T) → v.role ≡ r → Fits plan b id v → Stands plan b id v r
  role_as b id v r is h = subst (λ (z : Role T). Stands plan b id v z) is h
