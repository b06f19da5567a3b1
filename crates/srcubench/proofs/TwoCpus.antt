-- The two processors of a new domain.
use Rattle.std.proofs.Common.{◌≡◌, ℕ, List, [], ◌∷◌, ◌++◌, ◌⊎◌, Option, Some, length, slice_index_or, sym, ap, ◌∙◌, subst, length-append, arith}
use Rattle.std.specs.Option.{option_to_list}
use Rattle.atomic_table.specs.Seated.{TableId}
use Rattle.sections.specs.Views.{CpuView}
use Rattle.sections.specs.Calls.{new_cpu, AreNew}
use Rattle.srcubench.specs.Held.{MakesHeldPairs, HaveMadeHeldPairs}
use Rattle.srcubench.specs.Pairs.{AllMade, StopsEarly}
use Rattle.srcubench.proofs.Rooms.{all_held}

-- the last one of two was popped, and then the first
both_popped : (cpus rest none : List CpuView) (first second : CpuView) → length cpus ≡ 2 → cpus ≡ (none ++ first ∷ []) ++ second ∷ [] → cpus ≡ first ∷ second ∷ []
both_popped cpus rest [] first second two whole = whole
both_popped cpus rest (c ∷ cs) first second two whole = absurd (let long = ap length whole in let a = length-append ((c ∷ cs) ++ first ∷ []) (second ∷ []) in let b = length-append (c ∷ cs) (first ∷ []) in omega (arith, two, long, a, b))

pub popped : (cpus rest none : List CpuView) (last_one first_one : Option CpuView) (first second : CpuView) → length cpus ≡ 2 → cpus ≡ rest ++ option_to_list last_one → rest ≡ none ++ option_to_list first_one → last_one ≡ Some second → first_one ≡ Some first → cpus ≡ first ∷ second ∷ []
popped cpus rest none last_one first_one first second two a b is_last is_first = both_popped cpus rest none first second two (a ∙ (λ k. (b ∙ ap (λ o. none ++ option_to_list o) is_first) k ++ option_to_list (is_last k)))

module _ (domain : TableId) (sections : ℕ) (cpus : List CpuView) (first second : CpuView) (new : AreNew domain 2 sections cpus) (are : cpus ≡ first ∷ second ∷ []) where
  two : length cpus ≡ 2
  two = ap length are

  pub first_new : first ≡ new_cpu domain 2 sections 0
  first_new = sym (ap (λ (l : List CpuView). slice_index_or l 0 first) are) ∙ new 0 first (omega (arith, two))

  pub second_new : second ≡ new_cpu domain 2 sections 1
  second_new = sym (ap (λ (l : List CpuView). slice_index_or l 1 first) are) ∙ new 1 first (omega (arith, two))

  pub of_one_domain : second.domain ≡ first.domain
  of_one_domain = ap (λ (c : CpuView). c.domain) second_new ∙ sym (ap (λ (c : CpuView). c.domain) first_new)

  pub all_of_them : (made : ℕ) (first' second' : CpuView) → MakesHeldPairs made first second first' second' → AllMade sections made first first' ⊎ StopsEarly sections made first first' → AllMade sections made first first'
  all_of_them made first' second' makes or = all_held sections made first second first' second' (record { unused = ap (λ (c : CpuView). c.mine) first_new; room = (let same : first.sections ≡ sections = ap (λ (c : CpuView). c.sections) first_new in omega (arith, same)) }) makes or

  pub have_made : (made : ℕ) (first' second' : CpuView) → MakesHeldPairs made first second first' second' → AllMade sections made first first' → HaveMadeHeldPairs sections
  have_made made first' second' makes all = record {
    domain = domain;
    first = first';
    second = second';
    pairs_made = subst (λ (z : CpuView × CpuView). MakesHeldPairs sections z.0 z.1 first' second') (λ k. (first_new k, second_new k)) (subst (λ n. MakesHeldPairs n first second first' second') all.all makes);
    loads = subst (λ (c : CpuView). AllMade sections sections c first') first_new (subst (λ n. AllMade sections n first first') all.all all);
  }
