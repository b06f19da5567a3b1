-- What seats know of a history, while it goes on and seats change.
use Rattle.std.proofs.Common.{◌≡◌, ◌≢◌, ℕ, ◌≤◌, ◌==◌, cond, List, [], ◌∷◌, ◌++◌, sym, ap, ◌∙◌, subst, eq-eqb, ne_eqb, append-nil}
use Rattle.std.proofs.lemmas.List.Elements.{filter-append}
use Rattle.annals.specs.declared.view.Role.{Role}
use Rattle.annals.specs.declared.view.Role.TheVariants.{Nobody, Dealer, Sits}
use Rattle.funnel.specs.Glossary.{Raise, Call, IsBeginning, raised_by, StandsFor, Owns}
use Rattle.funnel.specs.declared.view.Holder.TheVariants.{Processor}
use Rattle.funnel.proofs.Climbing.{call_else}
use Rattle.funnel.proofs.Own.{own_between, call_between}

-- A raise

pub raised_own : (p : ℕ) (log : List Raise) (r : Raise) → r.by ≡ p → raised_by p (log ++ r ∷ []) ≡ raised_by p log ++ r ∷ []
raised_own p log r is = filter-append (λ x. x.by == p) log (r ∷ []) ∙ ap (λ b. raised_by p log ++ cond b (r ∷ []) []) (eq-eqb r.by p is)

raised_else : (p : ℕ) (log : List Raise) (r : Raise) → r.by ≢ p → raised_by p (log ++ r ∷ []) ≡ raised_by p log
raised_else p log r n = filter-append (λ x. x.by == p) log (r ∷ []) ∙ (ap (λ b. raised_by p log ++ cond b (r ∷ []) []) (ne_eqb r.by p n) ∙ append-nil (raised_by p log))

-- a seat that does not stand for the processor that raised a node knows what it knew
pub owns_stays : (log : List Raise) (r : Raise) (role : Role) (mine : List Raise) (call : Call) → ¬ StandsFor role (Processor r.by) → Owns role mine call log → Owns role mine call (log ++ r ∷ [])
owns_stays log r Nobody mine call not h = tt
owns_stays log r (Sits p) mine call not h = let away : r.by ≢ p = not in
    (h.0 ∙ sym (raised_else p log r away), h.1 ∙ sym (call_else p log r away))
owns_stays log r (Dealer k) mine call not h = (h.0, h.1, λ p le. let away : r.by ≢ p = λ e. not (subst (λ z. k ≤ z) (sym e) le) in (raised_else p log r away ∙ (h.2 p le).0, call_else p log r away ∙ (h.2 p le).1))

-- a seat whose steps do not change from one history to another knows just these in all that lie between
pub owns_between : (role : Role) (mine : List Raise) (call : Call) {a b c : List Raise} → IsBeginning a b → IsBeginning b c → Owns role mine call a → Owns role mine call c → Owns role mine call b
owns_between Nobody mine call ab bc from to = tt
owns_between (Sits p) mine call ab bc from to =
    let own = own_between p mine ab bc from.0 to.0 in
    (own, from.1 ∙ sym (call_between p ab (sym own ∙ from.0)))
owns_between (Dealer k) mine call ab bc from to = (
  from.0,
  from.1,
  λ p le.
      let own = sym (own_between p [] ab bc (sym (from.2 p le).0) (sym (to.2 p le).0)) in
      (own, call_between p ab (own ∙ sym (from.2 p le).0) ∙ (from.2 p le).1),
)
