-- The parts of one slot are counted, and those of the others stay as they are.
use Rattle.std.proofs.Common.{◌≡◌, ◌≢◌, ℕ, suc, ◌+◌, ◌-◌, ◌*◌, ◌^◌, ◌<◌, ◌≤◌, List, Option, Some, None, cond, eqb, length, get_or, set, refl, sym, ap, ◌∙◌, subst, eq-eqb, arith}
use Rattle.std.proofs.lemmas.List.{length-set, get_or-set_same, get_or-set_other}
use mathlib.Core.Logic.{dite}
use native.Mathlib.Decide.{ℕ_discrete}
use Rattle.atomic_table.specs.Seated.{TableId}
use Rattle.parts.specs.declared.part.Part.{Part}
use Rattle.vault.specs.declared.pile.Pile.{Pile}
use Rattle.vault.specs.Rule.{count_of}
use Rattle.sections.specs.declared.view.Bank.{Bank}
use Rattle.sections.specs.declared.view.Plan.{Plan}
use Rattle.sections.specs.Banks.{bank_of, with_bank, no_bank}
use Rattle.sections.specs.Laying.{bank_laid, bank_emptied}
use Rattle.sections.specs.Boxes.{bank_in, vault_of, with_bank_in, HasKey, HasRoom, LaysParts, Collects}
use Rattle.sections.specs.WriterViews.{WriterView, SlotView}
use Rattle.sections.specs.Writers.{IsOwn}
use Rattle.boxes.specs.declared.rest.Rest.{Rest}
use Rattle.boxes.specs.Insides.{IsLaid, AreLaid}
use Rattle.boxes.specs.Laying.{share, HasKeys, IsElsewhere, IsSameBut, LaysSome, CollectsSome}

bank_there : (q : Plan) (x : ℕ) (b : Bank) → x < length q.banks → bank_of (with_bank q x b) x ≡ b
bank_there q x b lt = get_or-set_same q.banks x b no_bank lt

bank_else : (q : Plan) (x y : ℕ) (b : Bank) → y ≢ x → bank_of (with_bank q x b) y ≡ bank_of q y
bank_else q x y b ne = get_or-set_other q.banks x y b no_bank ne

-- Other slots

pub elsewhere_trans : (x : ℕ) (a b c : WriterView) → IsElsewhere x a b → IsElsewhere x b c → IsElsewhere x a c
elsewhere_trans x a b c h k = record { keys = k.keys ∙ h.keys; of = k.of ∙ h.of; eight = k.eight ∙ h.eight; others = λ y ne. k.others y ne ∙ h.others y ne }

-- where nothing of the plan has changed
pub elsewhere_same : (x : ℕ) (w w' : WriterView) → w'.plan ≡ w.plan → IsElsewhere x w w'
elsewhere_same x w w' e = record {
  keys = ap (λ (q : Plan). q.keys) e;
  of = ap (λ (q : Plan). vault_of (record w { plan = q })) e;
  eight = ap (λ (q : Plan). length q.banks) e;
  others = λ y ne. ap (λ (q : Plan). bank_of q y) e;
}

-- where the parts of one slot have
pub elsewhere_bank : (x : ℕ) (w w' : WriterView) (b : Bank) → w'.plan ≡ with_bank w.plan x b → IsElsewhere x w w'
elsewhere_bank x w w' b e = record {
  keys = ap (λ (q : Plan). q.keys) e;
  of = ap (λ (q : Plan). vault_of (record w { plan = q })) e;
  eight = ap (λ (q : Plan). length q.banks) e ∙ length-set w.plan.banks x b;
  others = λ y ne. ap (λ (q : Plan). bank_of q y) e ∙ bank_else w.plan x y b ne;
}

pub bank_is : (x : ℕ) (w w' : WriterView) (b : Bank) → x < length w.plan.banks → w'.plan ≡ with_bank w.plan x b → bank_in w' x ≡ b
bank_is x w w' b lt e = ap (λ (q : Plan). bank_of q x) e ∙ bank_there w.plan x b lt

same_refl : (x : ℕ) (w : WriterView) → IsSameBut x w w
same_refl x w = record { rest = refl; elsewhere = record { keys = refl; of = refl; eight = refl; others = λ y ne. refl } }

same_bank : (x : ℕ) (w w' w'' : WriterView) (b : Bank) → IsSameBut x w w' → w'' ≡ with_bank_in w' x b → IsSameBut x w w''
same_bank x w w' w'' b s e = record {
  rest = e ∙ (ap (λ (z : WriterView). record z { plan = with_bank w'.plan x b }) s.rest ∙ ap (λ (q : Plan). record w { plan = q }) (ap (λ (z : WriterView). z.plan) (sym e)));
  elsewhere = elsewhere_trans x w w' w'' s.elsewhere (elsewhere_bank x w' w'' b (ap (λ (z : WriterView). z.plan) e));
}

-- Keys stay

pub keys_stay : (n : ℕ) (vault : TableId) (x : ℕ) (w w' : WriterView) → IsElsewhere x w w' → HasKeys n vault w → HasKeys n vault w'
keys_stay n vault x w w' s h = record { some = h.some; most = h.most; keys = s.keys ∙ h.keys; of = s.of ∙ h.of; eight = s.eight ∙ h.eight }

pub has_key : (m n : ℕ) (vault : TableId) (p x : ℕ) (w : WriterView) → m ≡ n → p < n → x < 8 → HasKeys n vault w → HasKey m p x vault w
has_key m n vault p x w same lt low h = let all = h.keys in record { there = omega (arith, same, lt); laid = omega (arith, lt, low, all); of = h.of }

-- A slot that is out stays out

pub own_same : (x : ℕ) (w w' : WriterView) (s : SlotView) → IsSameBut x w w' → IsOwn w s → IsOwn w' s
own_same x w w' s h own = subst (λ (z : WriterView). IsOwn z s) (sym h.rest) (record { domain = own.domain; cell = own.cell; inside = own.inside; out = own.out })

pub domain_same : (x : ℕ) (w w' : WriterView) → IsSameBut x w w' → w'.domain ≡ w.domain
domain_same x w w' h = ap (λ (z : WriterView). z.domain) h.rest

-- Parts are laid

pub lays_none : (x round : ℕ) (w : WriterView) → ((bank_in w x).laid ≡ 0) × ((bank_in w x).each ≡ 0) → LaysSome 0 x round w w
lays_none x round w none = record { same = same_refl x w; laid = none.0; each = none.1; round_is = λ lt. absurd (omega (arith, lt)); none_taken = λ lt. absurd (omega (arith, lt)) }

pub lays_more : (p x round count mine : ℕ) (w w' w'' : WriterView) → x < length w.plan.banks → count ≡ share → mine ≡ round → LaysSome p x round w w' → LaysParts p x count mine w' w'' → LaysSome (p + 1) x round w w''
lays_more p x round count mine w w' w'' lt few same_round h lays =
    let step : LaysParts p x share round w' w'' = subst (λ (z : ℕ × ℕ). LaysParts p x z.0 z.1 w' w'') (λ i. (few i, same_round i)) lays in
    let b : Bank = bank_laid (bank_in w' x) p share round in
    let long = h.same.elsewhere.eight in
    let there : bank_in w'' x ≡ b = bank_is x w' w'' b (omega (arith, lt, long)) (ap (λ (z : WriterView). z.plan) step) in
    let had = h.laid in record {
      same = same_bank x w w' w'' b h.same step;
      laid = ap (λ (z : Bank). z.laid) there ∙ omega (arith, had);
      each = ap (λ (z : Bank). z.each) there ∙ (ap (λ e. cond (eqb p e) (suc p) e) h.each ∙ (ap (λ b. cond b (suc p) p) (eq-eqb p p refl) ∙ omega arith));
      round_is = λ _. ap (λ (z : Bank). z.round) there;
      none_taken = λ _. ap (λ (z : Bank). z.emptied) there;
    }

pub has_room : (p n x count round mine : ℕ) (w w' : WriterView) → p < n → n < 2 ^ 16 → count ≡ share → mine ≡ round → LaysSome p x round w w' → HasRoom x count mine w'
has_room p n x count round mine w w' lt most few same h = let had = h.laid in record {
  most = omega (arith, had, lt, most, few);
  one_round = λ some. same ∙ sym (h.round_is (omega (arith, had, some)));
}

-- so many parts less are left
pub less_left : {X : Type 0} (p : ℕ) (all rest rest' : Part X) → rest ≡ record all { count = 2 ^ 63 - p * share } → rest' ≡ record rest { count = rest.count - share } → rest' ≡ record all { count = 2 ^ 63 - (p + 1) * share }
less_left {X} p all rest rest' was is = is ∙ (ap (λ (z : Part X). record z { count = z.count - share }) was ∙ ap (λ (k : ℕ). record all { count = k }) (omega arith))

-- what is left is enough for the next processor
pub enough_left : (p n count : ℕ) → count ≡ 2 ^ 63 - p * share → p < n → n < 2 ^ 16 → share < count
enough_left p n count is lt most = omega (arith, is, lt, most)

-- Parts are collected

module _ {X : Type 0} where
  pub none_counts : (o : Option (Pile X)) → ((p : Pile X) → o ≡ Some p → ⊥) → count_of o ≡ 0
  none_counts None h = refl
  none_counts (Some p) h = absurd (h p refl)

  pub collects_none : (n x : ℕ) (w : WriterView) (had : Part X) → (bank_in w x).emptied ≡ 0 → 1 ≤ n → CollectsSome n 0 x w w had had
  collects_none n x w had new some = record { same = same_refl x w; next = new; round_is = refl; sum = refl; part = refl; last = λ e. absurd (omega (arith, e, some)); none = λ lt. absurd (omega (arith, lt)) }

  pub collects_more : (n p x count : ℕ) (w w' w'' : WriterView) (had all all' : Part X) (pile : Option (Pile X)) → x < length w.plan.banks → CollectsSome n p x w w' had all
      → Collects n p x w' w'' pile → count ≡ all.count + count_of pile → all' ≡ record all { count = count } → CollectsSome n (p + 1) x w w'' had all'
  collects_more n p x count w w' w'' had all all' pile lt h step more is =
      let b : Bank = bank_emptied (bank_in w' x) p (count_of pile) in
      let long = h.same.elsewhere.eight in
      let there : bank_in w'' x ≡ b = bank_is x w' w'' b (omega (arith, lt, long)) (ap (λ (z : WriterView). z.plan) step.after) in
      let left : (bank_in w'' x).laid ≡ (bank_in w' x).laid - count_of pile = ap (λ (z : Bank). z.laid) there in
      let few = step.few in
      let before = h.sum in
      let now : all'.count ≡ count = ap (λ (z : Part X). z.count) is in record {
        same = same_bank x w w' w'' b h.same step.after;
        next = ap (λ (z : Bank). z.emptied) there ∙ omega arith;
        round_is = ap (λ (z : Bank). z.round) there ∙ h.round_is;
        sum = omega (arith, left, few, before, now, more);
        part = is ∙ (ap (λ (z : Part X). record z { count = count }) h.part ∙ ap (λ (k : ℕ). record had { count = k }) (sym now));
        last = λ e. let all_left = step.all (omega (arith, e)) in omega (arith, left, all_left);
        none = λ _. ap (λ (z : Bank). z.each) there;
      }

-- What the writer keeps

module _ {V A : Type 0} where
  -- a slot has other parts, and something else is kept of it
  pub laid_with : (x : ℕ) (w w' : WriterView) (rests : List (Option (Rest V A))) (o : Option (Rest V A)) → length rests ≡ 8 → x < 8 → IsElsewhere x w w' → AreLaid w rests → IsLaid (bank_in w' x) o → AreLaid w' (set rests x o)
  laid_with x w w' rests o eight low s laid there y lt = dite (ℕ_discrete y x) (λ e. subst (λ (z : ℕ). IsLaid (bank_in w' z) (get_or (set rests x o) z None)) (sym e) (subst (λ (z : Option (Rest V A)). IsLaid (bank_in w' x) z) (sym (get_or-set_same rests x o None (omega (arith, eight, low)))) there))
      (λ ne. subst (λ (z : Bank × Option (Rest V A)). IsLaid z.0 z.1) (λ i. (sym (s.others y ne) i, sym (get_or-set_other rests x y o None ne) i)) (laid y lt))
