-- A section that begins and ends: the same ones are open as before.
use Rattle.std.proofs.Common.{◌≡◌, ℕ, ◌+◌, Bool, true, false, not, cond, ◌&&◌, eqb, List, [], ◌∷◌, ◌++◌, filter, length, Result, Ok, Err, MatchResult, refl, sym, ap, ◌∙◌, subst, eq-eqb, arith}
use Rattle.std.proofs.lemmas.List.Elements.{filter_agree}
use Rattle.onedom.specs.declared.event.Maker.TheVariants.{Processor}
use Rattle.onedom.specs.declared.event.Event.TheVariants.{Begin}
use Rattle.onedom.specs.Histories.{ends_of, made_by, open_sections}
use Rattle.onedom.specs.Laws.{times}
use Rattle.onedom.proofs.CallerLemmas.{bit, let_in, kept_out, no_ends, begins_of_made, ends_of_made, times_cons, times_kept, times_open_le, filter_twice, open_sections_begun, open_sections_ended}
use Rattle.sections.specs.Views as sections
use Rattle.sections.specs.Glossary.{ReadingView, is_held, open_readings, IsSameCpu, LooksAndBegins, ReadLocks, DownReads, LooksInVain, Unlocks, IsHere}
use Rattle.domain.specs.Glossary.{CpuView, HasNoneOpen}
use Rattle.domain.proofs.Unopened.{SameOpen, same_loaded, none_still}

-- Lists of sections

-- a list is as it was without a number that doesn't stand there
none_of : (s : ℕ) (xs : List ℕ) → times s xs ≡ 0 → filter (λ u. not (eqb u s)) xs ≡ xs
none_of s [] none = refl
none_of s (x ∷ xs) none = go (eqb x s) refl (times_cons s x xs) (λ left. none_of s xs left)
  where
    go : (b : Bool) → eqb x s ≡ b → times s (x ∷ xs) ≡ bit (eqb x s) + times s xs → (times s xs ≡ 0 → filter (λ u. not (eqb u s)) xs ≡ xs)
        → cond (not b) (x ∷ filter (λ u. not (eqb u s)) xs) (filter (λ u. not (eqb u s)) xs) ≡ x ∷ xs
    go true is c r = let one : bit (eqb x s) ≡ 1 = ap bit is in absurd (omega (arith, none, c, one))
    go false is c r = let zero : bit (eqb x s) ≡ 0 = ap bit is in ap (λ l. x ∷ l) (r (omega (arith, none, c, zero)))

filter_past : (p q : ℕ → Bool) (xs : List ℕ) → filter p (filter q xs) ≡ filter q (filter p xs)
filter_past p q xs = filter_twice q p xs ∙ (filter_agree (λ x. q x && p x) (λ x. p x && q x) (λ x. and_past (q x) (p x)) xs ∙ sym (filter_twice p q xs))
  where
    and_past : (a b : Bool) → (a && b) ≡ (b && a)
    and_past true true = refl
    and_past true false = refl
    and_past false true = refl
    and_past false false = refl

abbrev is_reading : ℕ → Bool
is_reading s = not (is_held s)

-- without a number that was put behind those of a list, they are left
without_last : (s : ℕ) (xs : List ℕ) → times s xs ≡ 0 → filter (λ u. not (eqb u s)) (xs ++ s ∷ []) ≡ xs
without_last s xs none = kept_out (λ u. not (eqb u s)) xs s (ap not (eq-eqb s s refl)) ∙ none_of s xs none

-- A section

module _ {held : Bool} (c begun : sections.CpuView) (r : ReadingView) (locks : LooksAndBegins held c begun r) where
  -- among the processor's own events the section is new
  own_before : made_by (Processor locks.between.processor) locks.between.seen ≡ c.mine
  own_before = sym locks.looks.load.history.own ∙ locks.looks.load.mine

  not_begun : times locks.enters.section (open_sections c.mine) ≡ 0
  not_begun =
      let s = locks.enters.section in
      let new = locks.enters.fresh in
      let own = begins_of_made (Processor locks.between.processor) s locks.between.seen in
      let most = times_open_le s (made_by (Processor locks.between.processor) locks.between.seen) in
      subst (λ l. times s (open_sections l) ≡ 0) own_before (omega (arith, new, own, most))

  not_ended : ends_of locks.enters.section c.mine ≡ 0
  not_ended =
      let s = locks.enters.section in
      let none = no_ends s locks.between.seen locks.looks.load.history.legal locks.enters.fresh in
      let own = ends_of_made (Processor locks.between.processor) s locks.between.seen in
      subst (λ l. ends_of s l ≡ 0) own_before (omega (arith, none, own))

  -- so it stands behind the sections that were open
  one_open : open_sections begun.mine ≡ open_sections c.mine ++ locks.enters.section ∷ []
  one_open =
      ap open_sections (locks.enters.adds.mine ∙ ap (λ l. l ++ Begin locks.enters.section locks.between.processor locks.look.index (Processor locks.between.processor) ∷ []) locks.looks.load.mine)
      ∙ open_sections_begun c.mine locks.enters.section locks.between.processor locks.look.index (Processor locks.between.processor) not_ended

  pub same_begun : IsSameCpu c begun
  same_begun = let one = locks.looks.load.same in let two = locks.enters.adds.same in (two.0 ∙ one.0, two.1 ∙ one.1, two.2 ∙ one.2, two.3 ∙ one.3)

  pub begun_here : IsHere begun r
  begun_here =
      let is = locks.enters.reading in
      let same = locks.enters.adds.same in
      (ap (λ (z : ReadingView). z.domain) is ∙ sym same.0, ap (λ (z : ReadingView). z.processor) is ∙ sym same.3)

-- whether a section began or not, the processor is the same
pub same_locked : {E : Type 0} (held : Bool) (c d : sections.CpuView) (r : Result ReadingView E) → MatchResult r (λ r. LooksAndBegins held c d r) (λ _. LooksInVain c d) → IsSameCpu c d
same_locked held c d (Ok r) begins = same_begun c d r begins
same_locked held c d (Err e) vain = vain.looks.load.same

-- a section is of the processor as long as that is the same
pub still_here : (c d : sections.CpuView) (r s : ReadingView) → IsSameCpu c d → s ≡ r → IsHere c r → IsHere d s
still_here c d r s same is here = subst (λ (z : ReadingView). IsHere d z) (sym is) (here.0 ∙ sym same.0, here.1 ∙ sym same.3)

-- where a section ends, the other readings stay open
left_open : (r : ReadingView) (c d : sections.CpuView) → Unlocks r c d → open_readings d.mine ≡ filter (λ u. not (eqb u r.section)) (open_readings c.mine)
left_open r c d ends =
    ap open_readings ends.mine
    ∙ (ap (filter is_reading) (open_sections_ended c.mine r.section c.processor (Processor c.processor))
    ∙ filter_past is_reading (λ u. not (eqb u r.section)) (open_sections c.mine))

-- where a reading ends behind its beginning, those are open that were before
module _ (c begun : sections.CpuView) (r : ReadingView) (locks : ReadLocks c begun r) where
  one_more : open_readings begun.mine ≡ open_readings c.mine ++ locks.enters.section ∷ []
  one_more = ap (filter is_reading) (one_open c begun r locks) ∙ let_in is_reading (open_sections c.mine) locks.enters.section (ap not locks.enters.kind)

  pub closed_again : (worked d : sections.CpuView) → open_readings worked.mine ≡ open_readings begun.mine → Unlocks r worked d → open_readings d.mine ≡ open_readings c.mine
  closed_again worked d same ends =
      let s = locks.enters.section in
      let is : r.section ≡ s = ap (λ (z : ReadingView). z.section) locks.enters.reading in
      let none : times s (open_readings c.mine) ≡ 0 = times_kept s is_reading (open_sections c.mine) (ap not locks.enters.kind) ∙ not_begun c begun r locks in
      left_open r worked d ends
      ∙ (ap (λ l. filter (λ u. not (eqb u r.section)) l) (same ∙ one_more)
      ∙ (ap (λ k. filter (λ u. not (eqb u k)) (open_readings c.mine ++ s ∷ [])) is ∙ without_last s (open_readings c.mine) none))

-- No reading is open

module _ {J : Type 0} where
  -- behind a section that begins and ends, in which the same ones stay open
  pub none_enclosed : (c begun worked d : CpuView J) (r : ReadingView) → ReadLocks c.cpu begun.cpu r → SameOpen begun.cpu worked.cpu → Unlocks r worked.cpu d.cpu → HasNoneOpen c → HasNoneOpen d
  none_enclosed c begun worked d r locks same ends none = ap length (closed_again c.cpu begun.cpu r locks worked.cpu d.cpu (ap (filter is_reading) same) ends) ∙ none

  -- where a held section begins
  pub none_held : (c begun : CpuView J) (r : ReadingView) → DownReads c.cpu begun.cpu r → HasNoneOpen c → HasNoneOpen begun
  none_held c begun r downs none =
      ap length (ap (filter is_reading) (one_open c.cpu begun.cpu r downs) ∙ kept_out is_reading (open_sections c.cpu.mine) downs.enters.section (ap not downs.enters.kind)) ∙ none

  -- where any section ends
  pub none_ended : (r : ReadingView) (c d : CpuView J) → Unlocks r c.cpu d.cpu → HasNoneOpen c → HasNoneOpen d
  none_ended r c d ends none = ap length (left_open r c.cpu d.cpu ends) ∙ still_empty (open_readings c.cpu.mine) none
    where
      still_empty : (l : List ℕ) → length l ≡ 0 → length (filter (λ u. not (eqb u r.section)) l) ≡ 0
      still_empty [] e = refl
      still_empty (x ∷ xs) e = absurd (omega (arith, e))

  -- and where none could begin
  pub none_looked : (c d : CpuView J) → LooksInVain c.cpu d.cpu → HasNoneOpen c → HasNoneOpen d
  none_looked c d vain none = none_still c d (same_loaded c.cpu d.cpu vain.looks.load) none
