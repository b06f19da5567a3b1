-- Which refusal comes when.
use Rattle.std.proofs.Common.{◌≡◌, ℕ, ◌<◌, List, length, sym, ap, ◌∙◌, subst, arith}
use Rattle.std.specs.Cmp.{IsTotalOrder}
use Rattle.std.specs.List.{AllWithin, HoldsAt}
use Rattle.std.specs.declared.cmp.Ordering.{Ordering}
use Rattle.std.specs.declared.cmp.Ordering.TheVariants.{Less, Equal, Greater}
use Rattle.std.proofs.lemmas.List.{get_or-map, length-map}
use Rattle.boxes.specs.Boxes.{BoxWriterView}
use Rattle.registry.specs.declared.index.Entry.{Entry}
use Rattle.registry.specs.declared.device.Device.{Device}
use Rattle.registry.specs.declared.refusals.NotPut.{NotPut}
use Rattle.registry.specs.declared.refusals.NotPut.TheVariants as put
use Rattle.registry.specs.Names.{name_of, names_of}
use Rattle.registry.specs.Refusing.{IsNotInserted, IsNotPut, IsNotRemoved, IsNotReplaced, IsTaken, IsUntaken, not_inserted, not_removed, not_replaced}
use Rattle.registry.proofs.Order.{missing}
use Rattle.registry.proofs.Parts.{there}

module _ {K V A : Type 0} (cmp : K → K → Ordering) (key : K) where
  pub taken : (ds : List (Device K V A)) (i : ℕ) → i < length ds → HoldsAt (λ (d : Device K V A). cmp d.key key ≡ Equal) ds i → IsTaken {V = V} cmp key (names_of ds)
  taken ds i l h = (i, omega (arith, l, length-map ds name_of), λ n. let t = there ds i l in subst (λ (m : K × V). cmp m.0 key ≡ Equal) (sym (get_or-map name_of ds i t.0 n l)) (h t.0))

  pub untaken : IsTotalOrder cmp → (ds : List (Device K V A)) (i : ℕ) → AllWithin (λ (d : Device K V A). cmp d.key key ≡ Less) ds 0 i → AllWithin (λ (d : Device K V A). cmp d.key key ≡ Greater) ds i (length ds) → IsUntaken {V = V} cmp key (names_of ds)
  untaken o ds i low high k n l e =
      let lt : k < length ds = omega (arith, l, length-map ds name_of) in
      let t = there ds k lt in missing o (λ (d : Device K V A). d.key) ds key i low high k t.0 lt (ap (λ m. cmp m.0 key) (sym (get_or-map name_of ds k t.0 n lt)) ∙ e)

  pub refused_in : (e : NotPut) (names : List (K × V)) (w : BoxWriterView (List (Entry K V)) A) → IsNotPut e w → IsUntaken cmp key names → IsNotInserted cmp key (not_inserted e) names w
  refused_in put.Memory names w p u = u
  refused_in put.NoSlot names w p u = (u, p)

  pub refused_out : (e : NotPut) (names : List (K × V)) (w : BoxWriterView (List (Entry K V)) A) → IsNotPut e w → IsTaken cmp key names → IsNotRemoved cmp key (not_removed e) names w
  refused_out put.Memory names w p t = t
  refused_out put.NoSlot names w p t = (t, p)

  pub refused_over : (e : NotPut) (names : List (K × V)) (w : BoxWriterView (List (Entry K V)) A) → IsNotPut e w → IsTaken cmp key names → IsNotReplaced cmp key (not_replaced e) names w
  refused_over put.Memory names w p t = t
  refused_over put.NoSlot names w p t = (t, p)
