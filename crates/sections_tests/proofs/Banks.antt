-- What is known of a slot's parts after a step.
use Rattle.std.proofs.Common.{◌≡◌, ◌≢◌, ℕ, ◌<◌, length, set, ap, ◌∙◌, arith, length-set, get_or-set_same, get_or-set_other}
use mathlib.Core.Logic.{dite}
use native.Mathlib.Decide.{ℕ_discrete}
use Rattle.atomic_table.specs.Seated.{TableId}
use Rattle.sections.specs.declared.view.Bank.{Bank}
use Rattle.sections.specs.declared.view.Plan.{Plan}
use Rattle.sections.specs.Banks.{no_bank, bank_of, with_bank, plan_put, vault_in}
use Rattle.sections.specs.Boxes.{bank_in, with_bank_in}
use Rattle.sections.specs.WriterViews.{WriterView}
use Rattle.sections_tests.specs.Ready.{HasAllKeys}

pub there : (w w' : WriterView) (x : ℕ) (b : Bank) → length w.plan.banks ≡ 8 → x < 8 → w' ≡ with_bank_in w x b → bank_in w' x ≡ b
there w w' x b eight low e = ap (λ z. bank_in z x) e ∙ get_or-set_same w.plan.banks x b no_bank (omega (arith, eight, low))

pub long : (w w' : WriterView) (x : ℕ) (b : Bank) → length w.plan.banks ≡ 8 → w' ≡ with_bank_in w x b → length w'.plan.banks ≡ 8
long w w' x b eight e = ap (λ z. length z.plan.banks) e ∙ (length-set w.plan.banks x b ∙ eight)

-- the keys are those of a plan that says the same of them
pub keys_as : (vault : TableId) (w w' : WriterView) (x : ℕ) (b : Bank) → w'.plan ≡ with_bank w.plan x b → HasAllKeys vault w → HasAllKeys vault w'
keys_as vault w w' x b e h = record {
  laid = ap (λ (q : Plan). q.keys) e ∙ h.laid;
  of = ap (λ (q : Plan). vault_in q.vault) e ∙ h.of;
  eight = ap (λ (q : Plan). length q.banks) e ∙ (length-set w.plan.banks x b ∙ h.eight);
}

pub keys_same : (vault : TableId) (w w' : WriterView) → w'.plan ≡ w.plan → HasAllKeys vault w → HasAllKeys vault w'
keys_same vault w w' e h = record { laid = ap (λ (q : Plan). q.keys) e ∙ h.laid; of = ap (λ (q : Plan). vault_in q.vault) e ∙ h.of; eight = ap (λ (q : Plan). length q.banks) e ∙ h.eight }

-- no key is known to be empty, but for those of this slot
pub fresh_else : (q q' : Plan) (x : ℕ) (b : Bank) → q' ≡ with_bank q x b → ((y : ℕ) → y ≢ x → (bank_of q y).emptied ≡ 0) → (y : ℕ) → y ≢ x → (bank_of q' y).emptied ≡ 0
fresh_else q q' x b e h y ne = ap (λ (z : Plan). (bank_of z y).emptied) e ∙ (ap (λ (z : Bank). z.emptied) (get_or-set_other q.banks x y b no_bank ne) ∙ h y ne)

pub fresh_put : (q q' : Plan) (x : ℕ) → q' ≡ plan_put q x → length q.banks ≡ 8 → x < 8 → ((y : ℕ) → y ≢ x → (bank_of q y).emptied ≡ 0) → (y : ℕ) → (bank_of q' y).emptied ≡ 0
fresh_put q q' x e eight low h y = dite (ℕ_discrete y x)
    (λ same. ap (λ (z : Plan). (bank_of z y).emptied) e ∙ (ap (λ n. (bank_of (plan_put q x) n).emptied) same ∙ ap (λ (z : Bank). z.emptied) (get_or-set_same q.banks x (record (bank_of q x) { emptied = 0 }) no_bank (omega (arith, eight, low)))))
    (λ ne. fresh_else q q' x (record (bank_of q x) { emptied = 0 }) e h y ne)
