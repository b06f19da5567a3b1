-- A new tree.
use Rattle.std.proofs.Common.{◌≡◌, ℕ, suc, ◌+◌, ◌<◌, List, [], ◌∷◌, ◌++◌, get_or, replicate, length, refl, sym, ap, ◌∙◌, arith}
use Rattle.std.proofs.lemmas.List.{length-replicate, get_or-replicate, get_or_past, get_or_push, get_or_append_left}
use Rattle.std.proofs.lemmas.List.Elements.{All-from_get_or}
use mathlib.Core.Logic.{dite}
use native.Mathlib.Decide.{ℕ_discrete, dec_le}
use Rattle.atomic_table.specs.Seated.{TableId}
use Rattle.funnel.specs.Glossary.{Shape, founder, IsAtRest, FunnelView, new_seat, AreNew, IsOfProcessor, AreOfProcessors}
use Rattle.funnel.specs.declared.view.Holder.TheVariants.{Processor, Engine}
use Rattle.annals.specs.declared.view.Role.TheVariants.{Dealer}

pub all_zero : (n : ℕ) (words : List ℕ) → words ≡ replicate n 0 → (k : ℕ) → get_or words k 0 ≡ 0
all_zero n words e k = let z : get_or (replicate n 0) k 0 ≡ 0 = dite (dec_le (suc k) n) (λ l. get_or-replicate n k 0 0 (omega (arith, l))) (λ g. get_or_past (replicate n 0) k 0 (let long = length-replicate {A = ℕ} n 0 in omega (arith, long, g))) in
    ap (λ l. get_or l k 0) e ∙ z

pub new_pushed : (domain : TableId) (shape : Shape) (i : ℕ) (seats : List FunnelView) (new : FunnelView) → length seats ≡ i → new ≡ new_seat domain shape (Processor i) → AreNew domain shape seats → AreNew domain shape (seats ++ new ∷ [])
new_pushed domain shape i seats new count is all k d lt = dite (ℕ_discrete k i)
    (λ e. get_or_push seats new d k (count ∙ sym e) ∙ (is ∙ ap (λ z. new_seat domain shape (Processor z)) (sym e)))
    (λ n. let more = length_pushed seats new in let inside : k < length seats = omega arith in get_or_append_left seats (new ∷ []) d k inside ∙ all k d inside)
  where
    length_pushed : (xs : List FunnelView) (x : FunnelView) → length (xs ++ x ∷ []) ≡ length xs + 1
    length_pushed [] x = refl
    length_pushed (y ∷ ys) x = let r = length_pushed ys x in omega (arith, r)

pub new_of_processors : (domain : TableId) (shape : Shape) (seats : List FunnelView) → AreNew domain shape seats → AreOfProcessors seats
new_of_processors domain shape seats new = All-from_get_or IsOfProcessor seats (new_seat domain shape Engine) (λ p lt. (p, ap (λ v. v.holder) (new p (new_seat domain shape Engine) lt)))

pub rests_founding : (shape : Shape) (k : ℕ) → IsAtRest (record (founder shape) { role = Dealer k })
rests_founding shape k = record { sound = record { legal = tt; owns = (refl, refl, λ p _. (refl, refl)) }; idle = refl }
