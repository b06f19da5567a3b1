-- What was asked for, where all seats at the tree are in one hand.
use Rattle.std.proofs.Common.{◌≡◌, ◌≢◌, ℕ, ◌<◌, List, [], ◌∷◌, ◌++◌, length, get_or, set, refl, sym, ap, ◌∙◌, subst, append-nil, length-append, arith, length-set, get_or-set_other, get_or-set_same}
use Rattle.solo.proofs.Words.{dite, ℕ_discrete, Raise, raised_by, made_on, CpuView, AskTogether, GoesOn}
use Rattle.funnel.specs.Glossary.{IsBeginning}
use Rattle.solo.proofs.Settled.{HaveAsked}

none_left : (rest : List Raise) → length rest ≡ 0 → rest ≡ []
none_left [] none = refl
none_left (x ∷ rest) none = absurd (omega (arith, none))

-- what lies between a history and itself is that history
pub squeezed : (a b c : List Raise) → IsBeginning a b → IsBeginning b c → c ≡ a → b ≡ a
squeezed a b c ab bc same =
    let long = ap length ab.whole ∙ length-append a ab.rest in
    let longer = ap length bc.whole ∙ length-append b bc.rest in
    let ends = ap length same in
    ab.whole ∙ (ap (λ l. a ++ l) (none_left ab.rest (omega (arith, long, longer, ends))) ∙ append-nil a)

raised_append : (p : ℕ) (a b : List Raise) → raised_by p (a ++ b) ≡ raised_by p a ++ raised_by p b
raised_append p a b = made_on p (record { rest = b; whole = refl })

module _ {J : Type 0} where
  -- a processor's seat went on, and raised these: then nobody else did
  pub raised_here : (raises : List Raise) (cpus : List (CpuView J)) (together : AskTogether raises cpus) (p : ℕ) (inside : p < length cpus) (was now : CpuView J) (is : was ≡ get_or cpus p was) (act : List Raise)
      → GoesOn act was.needs now.needs → raised_by p act ≡ act → ((q : ℕ) → q ≢ p → raised_by q act ≡ []) → HaveAsked p raises act (set cpus p now)
  raised_here raises cpus together p inside was now is act on own others = record {
    mine = λ k d lt. let inside_k : k < length cpus = omega (arith, length-set cpus p now, lt) in
        dite (ℕ_discrete k p)
        (λ same_k. subst (λ (q : ℕ). (get_or (set cpus p now) q d).needs.mine ≡ raised_by q (raises ++ act)) (sym same_k)
        (ap (λ (z : CpuView J). z.needs.mine) (get_or-set_same cpus p now d inside) ∙ (on.mine ∙ (ap (λ l. l ++ act) (ap (λ (z : CpuView J). z.needs.mine) is ∙ together.mine p was inside) ∙ (ap (λ l. raised_by p raises ++ l) (sym own) ∙ sym (raised_append p raises act))))))
        (λ other. ap (λ (z : CpuView J). z.needs.mine) (get_or-set_other cpus p k now d other) ∙ (together.mine k d inside_k ∙ sym (raised_append k raises act ∙ (ap (λ l. raised_by k raises ++ l) (others k other) ∙ append-nil (raised_by k raises)))));
    inside = omega (arith, length-set cpus p now, inside);
    own = own;
    others = others;
    since = λ d. subst (λ (z : CpuView J). IsBeginning raises z.needs.seen) (sym (get_or-set_same cpus p now d inside)) (subst (λ l. IsBeginning l now.needs.seen) (ap (λ (z : CpuView J). z.needs.seen) is ∙ together.seen p was inside) on.since);
  }
