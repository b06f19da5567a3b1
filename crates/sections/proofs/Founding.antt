-- A new domain.
use Rattle.std.proofs.Common.{◌≡◌, ℕ, ◌+◌, ◌<◌, List, [], ◌∷◌, ◌++◌, length, get_or, replicate, refl, sym, ap, ◌∙◌, arith}
use Rattle.std.proofs.lemmas.List.{get_or_push, get_or_append_left, get_or-replicate, length-replicate, get_or_past}
use mathlib.Core.Logic.{dite}
use native.Mathlib.Decide.{dec_le, ℕ_discrete}
use Rattle.atomic_table.specs.Seated.{TableId}
use Rattle.sections.specs.Glossary.{Bounds, CpuView, new_cpu, AreNew, HasItsMaker, founder, IsAtRest}
use Rattle.sections.specs.declared.view.Role.TheVariants.{Driver}
use Rattle.sections.specs.declared.view.Right.TheVariants.{Nothing}
use Rattle.sections.proofs.Offers.{no_vault}
use Rattle.std.proofs.lemmas.List.Elements.{All-nil}

pub all_zero : (n : ℕ) (words : List ℕ) → words ≡ replicate n 0 → (k : ℕ) → get_or words k 0 ≡ 0
all_zero n words e k = let z : get_or (replicate n 0) k 0 ≡ 0 = dite (dec_le (k + 1) n) (λ l. get_or-replicate n k 0 0 (omega arith)) (λ g. get_or_past (replicate n 0) k 0 (omega (arith, length-replicate {A = ℕ} n 0))) in
    ap (λ l. get_or l k 0) e ∙ z

pub new_pushed : (domain : TableId) (processors sections i : ℕ) (cpus : List CpuView) (new : CpuView) → length cpus ≡ i → new ≡ new_cpu domain processors sections i → AreNew domain processors sections cpus
    → AreNew domain processors sections (cpus ++ new ∷ [])
new_pushed domain processors sections i cpus new count is all k d lt = dite (ℕ_discrete k i)
    (λ e. get_or_push cpus new d k (count ∙ sym e) ∙ (is ∙ ap (λ z. new_cpu domain processors sections z) (sym e)))
    (λ n. let more = length_pushed cpus new in let inside : k < length cpus = omega arith in get_or_append_left cpus (new ∷ []) d k inside ∙ all k d inside)
  where
    length_pushed : (xs : List CpuView) (x : CpuView) → length (xs ++ x ∷ []) ≡ length xs + 1
    length_pushed [] x = refl
    length_pushed (y ∷ ys) x = let r = length_pushed ys x in omega (arith, r)

pub rests_founding : (bounds : Bounds) (k : ℕ) → IsAtRest (record (founder bounds) { role = Driver k; right = Nothing })
rests_founding bounds k = record { free = refl; told = refl; sound = record { legal = tt; makers = All-nil (HasItsMaker bounds.processors); own = refl; reaches = record { started = refl; ended = refl }; texts = refl; vaults = no_vault } }
