-- What a put and a return do to what the writer keeps.
use Rattle.std.proofs.Common.{◌≡◌, ℕ, ◌+◌, ◌-◌, ◌*◌, ◌^◌, ◌<◌, List, Option, Some, None, length, replicate, get_or, set, refl, sym, ap, ◌∙◌, subst, arith}
use Rattle.std.proofs.lemmas.List.{set-get_or, get_or-replicate}
use Rattle.atomic_table.specs.Seated.{TableId}
use Rattle.parts.specs.declared.part.Part.{Part}
use Rattle.sections.specs.declared.view.Bank.{Bank}
use Rattle.sections.specs.Banks.{no_bank, plan_put}
use Rattle.sections.specs.Boxes.{bank_in}
use Rattle.sections.specs.WriterViews.{WriterView}
use Rattle.boxes.specs.declared.rest.Rest.{Rest}
use Rattle.boxes.specs.Insides.{IsLaid, AreLaid}
use Rattle.boxes.specs.Laying.{share, HasKeys, LaysSome, CollectsSome}
use Rattle.boxes.proofs.Stocks.{elsewhere_trans, elsewhere_same, elsewhere_bank, bank_is, keys_stay, laid_with}

module _ {V A : Type 0} where
  -- a version with a box is put
  pub put_keeps : (x n round : ℕ) (vault : TableId) (w laid put : WriterView) (rests : List (Option (Rest V A))) (r : Rest V A) → length rests ≡ 8 → x < 8 → HasKeys n vault w → AreLaid w rests → LaysSome n x round w laid → put.plan ≡ plan_put laid.plan x
      → r.part.count ≡ 2 ^ 63 - n * share → r.part.round ≡ round → r.deed.deed.round ≡ round → HasKeys n vault put × AreLaid put (set rests x (Some r))
  put_keeps x n round vault w laid put rests r eight low keys are h is count part deed =
      let first = h.same.elsewhere in
      let keyed = keys_stay n vault x w laid first keys in
      let long = keyed.eight in
      let there : bank_in put x ≡ record (bank_in laid x) { emptied = 0 } = bank_is x laid put (record (bank_in laid x) { emptied = 0 }) (omega (arith, long, low)) is in
      let second = elsewhere_bank x laid put (record (bank_in laid x) { emptied = 0 }) is in
      let parts = h.laid in let some = keys.some in let most = keys.most in
      let whole : (bank_in laid x).laid + r.part.count ≡ 2 ^ 63 = omega (arith, parts, count, most) in (
        keys_stay n vault x laid put second keyed,
        laid_with x w put rests (Some r) eight low (elsewhere_trans x w laid put first second) are
            (subst (λ (b : Bank). IsLaid b (Some r)) (sym there) (whole, h.round_is (omega (arith, some)) ∙ sym deed, part ∙ sym deed, refl)),
      )

  -- nothing lies in a slot with no box
  pub bare_slot : (x : ℕ) (w : WriterView) (rests : List (Option (Rest V A))) → x < 8 → AreLaid w rests → get_or rests x None ≡ None → ((bank_in w x).laid ≡ 0) × ((bank_in w x).each ≡ 0)
  bare_slot x w rests low are none = subst (λ (o : Option (Rest V A)). IsLaid (bank_in w x) o) none (are x low)

  -- a version with no box is put
  pub put_none_keeps : (x n : ℕ) (vault : TableId) (w put : WriterView) (rests : List (Option (Rest V A))) → length rests ≡ 8 → x < 8 → HasKeys n vault w → AreLaid w rests → get_or rests x None ≡ None → put.plan ≡ plan_put w.plan x → HasKeys n vault put × AreLaid put rests
  put_none_keeps x n vault w put rests eight low keys are none is =
      let long = keys.eight in
      let there : bank_in put x ≡ record (bank_in w x) { emptied = 0 } = bank_is x w put (record (bank_in w x) { emptied = 0 }) (omega (arith, long, low)) is in
      let second = elsewhere_bank x w put (record (bank_in w x) { emptied = 0 }) is in
      let bare = bare_slot x w rests low are none in (
        keys_stay n vault x w put second keys,
        subst (λ (l : List (Option (Rest V A))). AreLaid put l) (ap (λ (o : Option (Rest V A)). set rests x o) (sym none) ∙ set-get_or rests x None) (laid_with x w put rests None eight low second are (ap (λ (b : Bank). b.laid) there ∙ bare.0, ap (λ (b : Bank). b.each) there ∙ bare.1)),
      )

  -- the box of a slot comes back
  pub back_keeps : (x n : ℕ) (vault : TableId) (w given emptied back : WriterView) (rests : List (Option (Rest V A))) (r : Rest V A) (all : Part V) → length rests ≡ 8 → x < 8 → HasKeys n vault w → AreLaid w rests → get_or rests x None ≡ Some r
      → given.plan ≡ w.plan → CollectsSome n n x given emptied r.part all → back.plan ≡ emptied.plan → HasKeys n vault back × AreLaid back (set rests x None) × (all.round ≡ r.deed.deed.round) × (all.count ≡ 2 ^ 63)
  back_keeps x n vault w given emptied back rests r all eight low keys are some first h last =
      let one = elsewhere_same x w given first in
      let two = elsewhere_trans x w given emptied one h.same.elsewhere in
      let three = elsewhere_trans x w emptied back two (elsewhere_same x emptied back last) in
      let laid : IsLaid (bank_in w x) (Some r) = subst (λ (o : Option (Rest V A)). IsLaid (bank_in w x) o) some (are x low) in
      let was : bank_in given x ≡ bank_in w x = ap (λ q. bank_in (record w { plan = q }) x) first in
      let sum = h.sum in let none = h.last refl in let before = laid.0 in let same = ap (λ (b : Bank). b.laid) was in (
        keys_stay n vault x w back three keys,
        laid_with x w back rests None eight low three are (ap (λ q. (bank_in (record w { plan = q }) x).laid) last ∙ none, ap (λ q. (bank_in (record w { plan = q }) x).each) last ∙ h.none (let many = keys.some in omega (arith, many))),
        ap (λ (p : Part V). p.round) h.part ∙ laid.2,
        omega (arith, sum, none, before, same),
      )

  -- what collecting it asks for
  pub back_asks : (x : ℕ) (w given : WriterView) (rests : List (Option (Rest V A))) (r : Rest V A) → x < 8 → AreLaid w rests → get_or rests x None ≡ Some r → given.plan ≡ w.plan → ((bank_in given x).emptied ≡ 0) × ((bank_in given x).round ≡ r.part.round)
  back_asks x w given rests r low are some first =
      let laid : IsLaid (bank_in w x) (Some r) = subst (λ (o : Option (Rest V A)). IsLaid (bank_in w x) o) some (are x low) in
      let was : bank_in given x ≡ bank_in w x = ap (λ q. bank_in (record w { plan = q }) x) first in
      (ap (λ (b : Bank). b.emptied) was ∙ laid.3, ap (λ (b : Bank). b.round) was ∙ (laid.1 ∙ sym laid.2))

-- nothing lies in a cell that is plain
pub none_laid : (V A : Type 0) (w : WriterView) → w.plan.banks ≡ replicate 8 no_bank → AreLaid {V = V} {A = A} w (replicate 8 None)
none_laid V A w e y lt = subst (λ (o : Option (Rest V A)). IsLaid (bank_in w y) o) (sym (get_or-replicate 8 y None None lt)) (ap (λ (b : Bank). b.laid) here, ap (λ (b : Bank). b.each) here)
  where
    here : bank_in w y ≡ no_bank
    here = ap (λ (l : List Bank). get_or l y no_bank) e ∙ get_or-replicate 8 y no_bank no_bank lt
