-- Periods that are driven or waited for, one behind the other.
use Rattle.std.proofs.Common.{◌≡◌, ℕ, ◌+◌, ◌-◌, ◌<◌, List, [], ◌∷◌, ◌++◌, Option, Some, length, slice_index_or, refl, sym, ap, ◌∙◌, subst, length-append, add-one, arith}
use Rattle.std.proofs.Math.Seq.{get_or-append_seam}
use Rattle.std.specs.Option.{option_to_list}
use Rattle.domain.specs.Views.{DomainView, CpuView, IsOf}
use Rattle.domain.specs.Waiting.{HasNoneOpen, Synchronizes}
use Rattle.domain.specs.Making.{new_cpu, IsMade}
use Rattle.domain.proofs.CallerLemmas.{new_ones_are_here}
use Rattle.srcubench.specs.Driving.{DrivesPeriod, DrivesPeriods, DrivesAtOnce, DrivesAllAtOnce, WaitsAll, IsNewOf}

-- One more

module _ {J : Type 0} where
  pub one_period : (n : ℕ) (c between c' : CpuView J) → DrivesPeriods n c between → DrivesPeriod between c' → DrivesPeriods (n + 1) c c'
  one_period n c between c' before one = subst (λ k. DrivesPeriods k c c') (sym (add-one n)) (between, before, one)

  pub one_drive : (n : ℕ) (c between c' : CpuView J) → DrivesAllAtOnce n c between → DrivesAtOnce between c' → DrivesAllAtOnce (n + 1) c c'
  one_drive n c between c' before one = subst (λ k. DrivesAllAtOnce k c c') (sym (add-one n)) (between, before, one)

  pub one_wait : (n : ℕ) (c between c' : CpuView J) → WaitsAll n c between → Synchronizes between c' → WaitsAll (n + 1) c c'
  one_wait n c between c' before one = subst (λ k. WaitsAll k c c') (sym (add-one n)) (between, before, one)

-- New processors

-- the last one was popped
pub was_some : {X : Type 0} (cpus rest : List X) (o : Option X) (c : X) → cpus ≡ rest ++ option_to_list o → o ≡ Some c → 0 < length cpus
was_some cpus rest o c whole is = let long = ap length (whole ∙ ap (λ x. rest ++ option_to_list x) is) in let more = length-append rest (c ∷ []) in omega (arith, long, more)

pub was_last : {X : Type 0} (cpus rest : List X) (o : Option X) (c : X) → cpus ≡ rest ++ option_to_list o → o ≡ Some c → c ≡ slice_index_or cpus (length cpus - 1) c
was_last cpus rest o c whole is =
    let same : cpus ≡ rest ++ c ∷ [] = whole ∙ ap (λ x. rest ++ option_to_list x) is in
    let long = ap length same in let more = length-append rest (c ∷ []) in
    let last : length rest ≡ length cpus - 1 = omega (arith, long, more) in
    sym (get_or-append_seam rest c [] c) ∙ (sym (ap (λ l. slice_index_or l (length rest) c) same) ∙ ap (λ k. slice_index_or cpus k c) last)

module _ {J : Type 0} (processors periods : ℕ) (d : DomainView) (cpus : List (CpuView J)) (c : CpuView J) (made : IsMade (record { processors = processors; sections = 1; periods = periods; cells = 0 }) d cpus) (some : 0 < length cpus) (is : c ≡ slice_index_or cpus (length cpus - 1) c) where
  is_new : c ≡ new_cpu d (record { processors = processors; sections = 1; periods = periods; cells = 0 }) (record { processors = processors; nodes = made.nodes }) (length cpus - 1)
  is_new = is ∙ made.each (length cpus - 1) c (omega (arith, some))

  pub new_one : IsNewOf processors periods c
  new_one = record { domain = d; shape = record { processors = processors; nodes = made.nodes }; number = length cpus - 1; there = (let count = made.count in omega (arith, count, some)); new = is_new }

  pub of_this : IsOf d c
  of_this = subst (λ (z : CpuView J). IsOf d z) (sym is) (new_ones_are_here d cpus made (length cpus - 1) c (omega (arith, some)))

  pub none_open : HasNoneOpen c
  none_open = subst HasNoneOpen (sym is_new) refl
