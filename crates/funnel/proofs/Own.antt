-- A processor's own steps, between two histories.
use Rattle.std.proofs.Common.{◌≡◌, ℕ, ◌+◌, ◌==◌, cond, eqb, List, [], ◌∷◌, ◌++◌, length, refl, sym, ap, ◌∙◌, eq-eqb, ne_eqb, append_assoc, append-nil, length-append, arith}
use Rattle.std.proofs.lemmas.List.Elements.{filter-append}
use mathlib.Core.Logic.{dite}
use native.Mathlib.Decide.{ℕ_discrete}
use Rattle.annals.specs.Logs.Maker.{Sitter}
use Rattle.annals.proofs.CallerLemmas as annals
use Rattle.funnel.specs.Glossary.{Raise, IsBeginning, call_of, raised_by}
use Rattle.funnel.proofs.Climbing.{call_else}

nothing_more : (xs : List Raise) → length xs ≡ 0 → xs ≡ []
nothing_more [] e = refl
nothing_more (x ∷ xs) e = absurd (omega arith)

pub made_on : (p : ℕ) {a b : List Raise} (h : IsBeginning a b) → raised_by p b ≡ raised_by p a ++ raised_by p h.rest
made_on p {a = a} h = ap (raised_by p) h.whole ∙ filter-append (λ r. r.by == p) a h.rest

-- a processor whose steps do not change from one history to another has just these in all that lie between
pub own_between : (p : ℕ) (mine : List Raise) {a b c : List Raise} → IsBeginning a b → IsBeginning b c → mine ≡ raised_by p a → mine ≡ raised_by p c → mine ≡ raised_by p b
own_between p mine {a} {b} {c} ab bc from to = from ∙ sym (annals.own_between (λ (r : Raise). Sitter r.by) (Sitter p) a b c ab bc (sym to ∙ from))

-- others' steps leave a call where it stands
call_on : (p : ℕ) (a rest : List Raise) → raised_by p rest ≡ [] → call_of p (a ++ rest) ≡ call_of p a
call_on p a [] none = ap (call_of p) (append-nil a)
call_on p a (r ∷ rs) none = dite (ℕ_discrete r.by p)
    (λ e. let long : length (cond (eqb r.by p) (r ∷ raised_by p rs) (raised_by p rs)) ≡ 0 = ap length none in
    let here : length (cond (eqb r.by p) (r ∷ raised_by p rs) (raised_by p rs)) ≡ length (raised_by p rs) + 1 = ap (λ b. length (cond b (r ∷ raised_by p rs) (raised_by p rs))) (eq-eqb r.by p e) ∙ omega arith in absurd (omega (arith, long, here)))
    (λ n. let rest : raised_by p rs ≡ [] = ap (λ b. cond b (r ∷ raised_by p rs) (raised_by p rs)) (sym (ne_eqb r.by p n)) ∙ none in
    ap (call_of p) (sym (append_assoc a (r ∷ []) rs)) ∙ (call_on p (a ++ r ∷ []) rs rest ∙ call_else p a r n))

pub call_between : (p : ℕ) {a b : List Raise} → IsBeginning a b → raised_by p b ≡ raised_by p a → call_of p b ≡ call_of p a
call_between p {a} {b} h same =
    let long : length (raised_by p b) ≡ length (raised_by p a) + length (raised_by p h.rest) = ap length (made_on p h) ∙ length-append (raised_by p a) (raised_by p h.rest) in
    let alike : length (raised_by p b) ≡ length (raised_by p a) = ap length same in
    ap (call_of p) h.whole ∙ call_on p a h.rest (nothing_more (raised_by p h.rest) (omega (arith, long, alike)))
