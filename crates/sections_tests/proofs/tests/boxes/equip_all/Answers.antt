use Rattle.std.proofs.Common.{◌≡◌, ℕ, suc, ◌+◌, ◌*◌, ◌/◌, ◌%◌, ◌<◌, List, [], ◌∷◌, ◌++◌, length, get_or, take, drop, refl, sym, ap, ◌∙◌, subst, arith}
use Rattle.atomic_table.specs.Seated.{TableId}
use Rattle.atomic_table.specs.declared.badge.Badge.{Badge}
use Rattle.vault.specs.declared.key.Tally.{Tally}
use Rattle.vault.specs.Keys.{IsKey, AreKeys}
use Rattle.vault.specs.Rule.{key_of}
use Rattle.sections.specs.Banks.{vault_in}
use Rattle.sections_tests.proofs.tests.boxes.equip_all.Goals as goal

-- the first key, and those after it
keys_left : (vault : TableId) (n : ℕ) (l : List (Badge Tally)) (d : Badge Tally) → AreKeys vault n l → 0 < length l → IsKey vault n 0 0 (get_or l 0 d) × AreKeys vault (suc n) (take 0 l ++ drop 1 l) × (length (take 0 l ++ drop 1 l) + 1 ≡ length l)
keys_left vault n [] d h lt = absurd (omega (arith, lt))
keys_left vault n (k ∷ ks) d h lt = (h.0, h.1, omega arith)

pub loop-place-init : goal.loop-place-init
loop-place-init c = let n = c.requires.keys.0 in record { domain = refl; cell = refl; banks = refl; laid = c.requires.none; of = λ lt. absurd (omega (arith, lt)); rest = c.requires.keys.1; count = omega (arith, n) }

pub remove-key-requires : goal.remove-key-requires
remove-key-requires c = let ok = c.loop-place.keys.ok.0 in let n = c.loop-place.invariant.count in let lt = c.loop-place-test.true in omega (arith, ok, n, lt)

pub equip-requires-clause-next : goal.equip-requires-clause-next
equip-requires-clause-next c =
    let v = c.loop-place.invariant in let lt = c.loop-place-test.true in let two = c.requires.here.1 in let n = v.count in let laid = v.laid in
    let place : ℕ = c.loop-place.place in
    let whole : place ≡ 8 * (place / 8) + place % 8 = omega arith in
    let left = keys_left c.args.vault.now place c.loop-place.keys.items c.remove-key.result v.rest (omega (arith, n, lt)) in record {
      there = omega (arith, two, lt);
      low = omega arith;
      next = v.laid ∙ whole;
      empty = ap (λ z. z.views) c.remove-key.ensures.value ∙ (left.0.1 ∙ ap (λ z. key_of z 0 0 ∷ []) whole);
      of = λ some. ap (λ z. z.table_id) c.remove-key.ensures.value ∙ (left.0.0 ∙ sym (v.of (omega (arith, some, laid))));
    }

pub loop-place-preserved : goal.loop-place-preserved
loop-place-preserved c =
    let v = c.loop-place.invariant in let lt = c.loop-place-test.true in let n = v.count in let laid = v.laid in
    let place : ℕ = c.loop-place.place in
    let left = keys_left c.args.vault.now place c.loop-place.keys.items c.remove-key.result v.rest (omega (arith, n, lt)) in
    let e = c.equip.ensures in let items = c.remove-key.ensures.by_index.2 in let one = ap length items in let all = left.2 in
    let next : suc place ≡ place + 1 = omega arith in record {
      domain = ap (λ z. z.domain) e ∙ v.domain;
      cell = ap (λ z. z.cell) e ∙ v.cell;
      banks = ap (λ z. z.plan.banks) e ∙ v.banks;
      laid = ap (λ z. z.plan.keys) e ∙ omega (arith, laid);
      of = λ _. ap (λ z. vault_in z.plan.vault) e ∙ (ap (λ z. z.table_id) c.remove-key.ensures.value ∙ left.0.0);
      rest = subst (λ (z : ℕ × List (Badge Tally)). AreKeys c.args.vault.now z.0 z.1) (λ i. (next i, sym items i)) left.1;
      count = omega (arith, n, one, all);
    }
