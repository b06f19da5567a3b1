-- Where there is room for all pairs, all are made.
use Rattle.std.proofs.Common.{◌≡◌, ℕ, zero, suc, Bool, true, false, ◌+◌, ◌≤◌, List, [], ◌∷◌, ◌++◌, ◌⊎◌, inl, inr, length, sym, ap, ◌∙◌, subst, length-append, add-one, arith}
use Rattle.sseq.specs.declared.index.Index.{Index}
use Rattle.onedom.specs.declared.event.Maker.TheVariants.{Processor}
use Rattle.onedom.specs.declared.event.Event.{Event}
use Rattle.onedom.specs.declared.event.Event.TheVariants.{Begin, End}
use Rattle.onedom.proofs.CallerLemmas.{bit, count_push}
use Rattle.sections.specs.Words.{locks_at, locks}
use Rattle.sections.specs.declared.view.Step.TheVariants.{LoadIndex}
use Rattle.sections.specs.Views.{CpuView, ReadingView}
use Rattle.sections.specs.Calls.{IsSameCpu, DownReads, Unlocks}
use Rattle.srcubench.specs.Held.{AddsHeldPairs, MakesHeldPairs}
use Rattle.srcubench.specs.Pairs.{AddsPairs, MakesPairs, AllMade, StopsEarly, HasRoom}

pub bit_small : (b : Bool) → bit b ≤ 1
bit_small true = omega arith
bit_small false = omega arith

-- each pair begins one section at most of an index
pub locks_of_pairs : (p : ℕ) (i : Index) (n : ℕ) (before after : List Event) → AddsPairs p n before after → locks p i after ≤ locks p i before + n
locks_of_pairs p i zero before after h = rw h (omega arith)
locks_of_pairs p i (suc n) before after (between, s, j, h, e) =
    let rest = locks_of_pairs p i n before between h in
    let begun = count_push (locks_at p i) between (Begin s p j (Processor p)) in
    let ended = count_push (locks_at p i) (between ++ Begin s p j (Processor p) ∷ []) (End s p (Processor p)) in
    let one = bit_small (locks_at p i (Begin s p j (Processor p))) in
    rw e (omega (arith, rest, begun, ended, one))

pub all_made : (pairs n : ℕ) (c d : CpuView) → HasRoom pairs c → MakesPairs n c d → AllMade pairs n c d ⊎ StopsEarly pairs n c d → AllMade pairs n c d
all_made pairs n c d room made (inl all) = all
all_made pairs n c d room made (inr early) =
    let few = locks_of_pairs c.processor early.index n c.mine d.mine made.mine in
    let few' = rw room.unused at few in
    let full = rw (made.same.3, made.same.2) at early.full in
    absurd (omega (arith, few', full, early.fewer, room.room))

-- Held sections

-- each of them begins one section at most of an index
pub locks_of_held : (p q : ℕ) (i : Index) (n : ℕ) (before after : List Event × List Event) → AddsHeldPairs p q n before after → locks p i after.0 ≤ locks p i before.0 + n
locks_of_held p q i zero before after h = let same : locks p i after.0 ≡ locks p i before.0 = ap (λ (z : List Event × List Event). locks p i z.0) h in omega (arith, same)
locks_of_held p q i (suc n) before after (between, s, j, h, e) =
    let rest = locks_of_held p q i n before between h in
    let begun = count_push (locks_at p i) between.0 (Begin s p j (Processor p)) in
    let one = bit_small (locks_at p i (Begin s p j (Processor p))) in
    let same : locks p i after.0 ≡ locks p i (between.0 ++ Begin s p j (Processor p) ∷ []) = ap (λ (z : List Event × List Event). locks p i z.0) e in
    omega (arith, rest, begun, one, same)

-- one more
pub one_held : (n section : ℕ) (index : Index) (c d c' d' c'' d'' : CpuView) → MakesHeldPairs n c d c' d' → IsSameCpu c' c'' → IsSameCpu d' d'' → c''.mine ≡ c'.mine ++ Begin section c'.processor index (Processor c'.processor) ∷ []
    → d''.mine ≡ d'.mine ++ End section d'.processor (Processor d'.processor) ∷ [] → d''.steps ≡ d'.steps → MakesHeldPairs (n + 1) c d c'' d''
one_held n section index c d c' d' c'' d'' made same same' begins ends none = record {
  first = (same.0 ∙ made.first.0, same.1 ∙ made.first.1, same.2 ∙ made.first.2, same.3 ∙ made.first.3);
  second = (same'.0 ∙ made.second.0, same'.1 ∙ made.second.1, same'.2 ∙ made.second.2, same'.3 ∙ made.second.3);
  mine = subst (λ k. AddsHeldPairs c.processor d.processor k (c.mine, d.mine) (c''.mine, d''.mine)) (sym (add-one n))
      ((c'.mine, d'.mine), section, index, made.mine, λ k. ((begins ∙ ap (λ p. c'.mine ++ Begin section p index (Processor p) ∷ []) made.first.3) k, (ends ∙ ap (λ p. d'.mine ++ End section p (Processor p) ∷ []) made.second.3) k));
  none = none ∙ made.none;
}

pub all_held : (pairs n : ℕ) (c d c' d' : CpuView) → HasRoom pairs c → MakesHeldPairs n c d c' d' → AllMade pairs n c c' ⊎ StopsEarly pairs n c c' → AllMade pairs n c c'
all_held pairs n c d c' d' room made (inl all) = all
all_held pairs n c d c' d' room made (inr early) =
    let few = locks_of_held c.processor d.processor early.index n (c.mine, d.mine) (c'.mine, d'.mine) made.mine in
    let few' = rw room.unused at few in
    let full = rw (made.first.3, made.first.2) at early.full in
    absurd (omega (arith, few', full, early.fewer, room.room))

-- what `down_read` and `up_read` did
module _ (c' d' c'' d'' : CpuView) (r : ReadingView) (begins : DownReads c' c'' r) where
  same_first : IsSameCpu c' c''
  same_first = let one = begins.looks.load.same in let two = begins.enters.adds.same in (two.0 ∙ one.0, two.1 ∙ one.1, two.2 ∙ one.2, two.3 ∙ one.3)

  pub held_domain : r.domain ≡ c'.domain
  held_domain = ap (λ (z : ReadingView). z.domain) begins.enters.reading ∙ begins.looks.load.same.0

  pub one_load : length c''.steps ≡ length c'.steps + 1
  one_load = ap length begins.enters.adds.steps ∙ (ap length begins.looks.load.steps ∙ length-append c'.steps (LoadIndex begins.looks.value ∷ []))

  begun : c''.mine ≡ c'.mine ++ Begin r.section c'.processor r.index (Processor c'.processor) ∷ []
  begun = begins.enters.adds.mine ∙ (λ k. begins.looks.load.mine k ++ Begin (ap (λ (z : ReadingView). z.section) (sym begins.enters.reading) k) (begins.looks.load.same.3 k) (ap (λ (z : ReadingView). z.index) (sym begins.enters.reading) k) (Processor (begins.looks.load.same.3 k)) ∷ [])

  pub another_held : (n : ℕ) (c d : CpuView) → Unlocks r d' d'' → MakesHeldPairs n c d c' d' → MakesHeldPairs (n + 1) c d c'' d''
  another_held n c d ends made = one_held n r.section r.index c d c' d' c'' d'' made same_first ends.same begun ends.mine ends.steps
