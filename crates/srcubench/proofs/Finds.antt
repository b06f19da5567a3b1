-- Sections in which versions are found, one behind the other.
use Rattle.std.proofs.Common.{◌≡◌, ℕ, zero, suc, ◌+◌, ◌<◌, ◌≤◌, List, [], ◌∷◌, ◌++◌, ◌⊎◌, inl, inr, length, slice_index_or, sym, ap, ◌∙◌, subst, add-one, arith}
use Rattle.atomic_table.specs.Seated.{TableId}
use Rattle.sseq.specs.declared.index.Index.{Index}
use Rattle.onedom.specs.declared.event.Maker.TheVariants.{Processor}
use Rattle.onedom.specs.declared.event.Event.{Event}
use Rattle.onedom.specs.declared.event.Event.TheVariants.{Begin, End, Find}
use Rattle.onedom.proofs.CallerLemmas.{count_push}
use Rattle.sections.specs.Words.{locks_at, locks}
use Rattle.sections.specs.Views.{CpuView, ReadingView, FoundView}
use Rattle.sections.specs.Calls.{IsSameCpu, IsHere, ReadLocks, new_cpu, AreNew}
use Rattle.sections.specs.Reads.{ReadsWord}
use Rattle.srcubench.specs.declared.pairs.Reader.{Reader}
use Rattle.srcubench.specs.Finding.{ReadsWords, ReadsSome, LooksUp, FindsOnce, FindsOften, FindsAll, StopsFinding, CanFind, HasFoundAll, HaveFoundAll, AreFindersOfOne}
use Rattle.srcubench.proofs.Rooms.{bit_small}

-- The same processor

pub same_then : (c d e : CpuView) → IsSameCpu c d → IsSameCpu d e → IsSameCpu c e
same_then c d e one two = (two.0 ∙ one.0, two.1 ∙ one.1, two.2 ∙ one.2, two.3 ∙ one.3)

same_still : (c d : CpuView) → d ≡ c → IsSameCpu c d
same_still c d is = (ap (λ (z : CpuView). z.domain) is, ap (λ (z : CpuView). z.processors) is, ap (λ (z : CpuView). z.sections) is, ap (λ (z : CpuView). z.processor) is)

pub same_words : (n : ℕ) (r : ReadingView) (f : FoundView) (c d : CpuView) → ReadsWords n r f c d → IsSameCpu c d
same_words zero r f c d is = same_still c d is
same_words (suc n) r f c d (between, word, before, reads) = same_then c between d (same_words n r f c between before) reads.load.same

same_some : (n : ℕ) (r : ReadingView) (f : FoundView) (c d : CpuView) → ReadsSome n r f c d → IsSameCpu c d
same_some n r f c d (inl one) = same_words n r f c d one
same_some n r f c d (inr (all, words, reads)) = reads.same

pub same_look : (n : ℕ) (r : ReadingView) (c d : CpuView) → LooksUp n r c d → IsSameCpu c d
same_look n r c d looks = same_then c looks.between d looks.finds.adds.same (same_some n r looks.found looks.between d looks.reads)

pub same_once : (n : ℕ) (c d : CpuView) → FindsOnce n c d → IsSameCpu c d
same_once n c d once =
    let begins = once.begins in
    same_then c once.begun d (same_then c begins.between once.begun begins.looks.load.same begins.enters.adds.same) (same_then once.begun once.looked d (same_look n once.reading once.begun once.looked once.looks) once.ends.same)

-- the reading is of the processor on which its section began, and may be ended there
pub here : (c d : CpuView) (r : ReadingView) → ReadLocks c d r → IsHere d r
here c d r begins =
    let same = begins.enters.adds.same in
    (ap (λ (z : ReadingView). z.domain) begins.enters.reading ∙ sym same.0, ap (λ (z : ReadingView). z.processor) begins.enters.reading ∙ sym same.3)

pub still_here : (n : ℕ) (c d e : CpuView) (r r' : ReadingView) → ReadLocks c d r → LooksUp n r d e → r' ≡ r → IsHere e r'
still_here n c d e r r' begins looks is =
    let begun = here c d r begins in
    let same = same_look n r d e looks in
    (ap (λ (z : ReadingView). z.domain) is ∙ (begun.0 ∙ sym same.0), ap (λ (z : ReadingView). z.processor) is ∙ (begun.1 ∙ sym same.3))

-- One more

pub one_word : (n word : ℕ) (r : ReadingView) (f : FoundView) (c between d : CpuView) → ReadsWords n r f c between → ReadsWord r f n word between d → ReadsWords (n + 1) r f c d
one_word n word r f c between d before reads = subst (λ k. ReadsWords k r f c d) (sym (add-one n)) (between, word, before, reads)

pub one_find : (words n : ℕ) (c between d : CpuView) → FindsOften words n c between → FindsOnce words between d → FindsOften words (n + 1) c d
one_find words n c between d before once = subst (λ k. FindsOften words k c d) (sym (add-one n)) (between, before, once)

-- How many sections were begun

mine_of_words : (n : ℕ) (r : ReadingView) (f : FoundView) (c d : CpuView) → ReadsWords n r f c d → d.mine ≡ c.mine
mine_of_words zero r f c d is = ap (λ (z : CpuView). z.mine) is
mine_of_words (suc n) r f c d (between, word, before, reads) = reads.load.mine ∙ mine_of_words n r f c between before

mine_of_some : (n : ℕ) (r : ReadingView) (f : FoundView) (c d : CpuView) → ReadsSome n r f c d → d.mine ≡ c.mine
mine_of_some n r f c d (inl one) = mine_of_words n r f c d one
mine_of_some n r f c d (inr (all, words, reads)) = reads.mine

-- each such section is one at most of an index
locks_of_once : (p : ℕ) (i : Index) (n : ℕ) (c d : CpuView) → FindsOnce n c d → locks p i d.mine ≤ locks p i c.mine + 1
locks_of_once p i n c d once =
    let looks = once.looks in
    let begins = once.begins in
    let begin : Event = Begin begins.enters.section begins.between.processor begins.look.index (Processor begins.between.processor) in
    let find : Event = Find once.reading.section 0 looks.found.slot looks.found.version (Processor once.begun.processor) in
    let end : Event = End once.reading.section once.looked.processor (Processor once.looked.processor) in
    let begun : locks p i once.begun.mine ≡ locks p i (c.mine ++ begin ∷ []) = ap (locks p i) (begins.enters.adds.mine ∙ ap (λ l. l ++ begin ∷ []) begins.looks.load.mine) in
    let looked : locks p i once.looked.mine ≡ locks p i (once.begun.mine ++ find ∷ []) = ap (locks p i) (mine_of_some n once.reading looks.found looks.between once.looked looks.reads ∙ looks.finds.adds.mine) in
    let ended : locks p i d.mine ≡ locks p i (once.looked.mine ++ end ∷ []) = ap (locks p i) once.ends.mine in
    let a = count_push (locks_at p i) c.mine begin in
    let b = count_push (locks_at p i) once.begun.mine find in
    let e = count_push (locks_at p i) once.looked.mine end in
    let one = bit_small (locks_at p i begin) in
    omega (arith, begun, looked, ended, a, b, e, one)

pub locks_of_finds : (p : ℕ) (i : Index) (words n : ℕ) (c d : CpuView) → FindsOften words n c d → locks p i d.mine ≤ locks p i c.mine + n
locks_of_finds p i words zero c d is = let same : locks p i d.mine ≡ locks p i c.mine = ap (λ (z : CpuView). locks p i z.mine) is in omega (arith, same)
locks_of_finds p i words (suc n) c d (between, before, once) =
    let rest = locks_of_finds p i words n c between before in
    let one = locks_of_once p i words between d once in
    omega (arith, rest, one)

pub same_often : (words n : ℕ) (c d : CpuView) → FindsOften words n c d → IsSameCpu c d
same_often words zero c d is = same_still c d is
same_often words (suc n) c d (between, before, once) = same_then c between d (same_often words n c between before) (same_once words between d once)

-- Where there is room, all are
pub all_found : (words times found : ℕ) (c d : CpuView) → CanFind times c → FindsAll words times found c d ⊎ StopsFinding words times found c d → FindsAll words times found c d
all_found words times found c d can (inl all) = all
all_found words times found c d can (inr stops) =
    let i : Index = stops.vain.look.index in
    let room = can.0 in
    let same = same_then c stops.between d (same_often words found c stops.between stops.finds) stops.vain.looks.load.same in
    let few = locks_of_finds d.processor i words found c stops.between stops.finds in
    let none : locks d.processor i c.mine ≡ 0 = ap (locks d.processor i) room.unused in
    let still : locks d.processor i d.mine ≡ locks d.processor i stops.between.mine = ap (locks d.processor i) stops.vain.looks.load.mine in
    let full = stops.vain.exhausted in
    let many = same.2 in
    let enough = room.room in
    let fewer = stops.fewer in
    absurd (omega (arith, few, none, still, full, many, enough, fewer))

-- New processors

pub finders_of_one : (threads words times : ℕ) (domain : TableId) (cpus : List CpuView) (readers : List Reader) → length cpus ≡ threads → AreNew domain threads times cpus → HaveFoundAll words times cpus readers → AreFindersOfOne threads words times readers
finders_of_one threads words times domain cpus readers count new made = record {
  domain = domain;
  count = made.count ∙ count;
  each = λ k r lt.
      let c : CpuView = new_cpu domain threads times k in
      let there : k < length cpus = omega (arith, lt, count) in
      subst (λ (v : CpuView). HasFoundAll words times v (slice_index_or readers k r)) (new k c there) (made.each k c r there);
}
