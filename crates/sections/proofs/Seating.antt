-- From what a step tells a seat to what the calls say of it.
use Rattle.std.proofs.Common.{◌≡◌, ℕ, ◌<◌, ◌≤◌, ◌%◌, List, [], ◌∷◌, All, sym, ap, ◌∙◌, subst, arith}
use Rattle.std.proofs.lemmas.List.Elements.{All-head}
use mathlib.Core.Option.{none}
use Rattle.atomic_table.specs.Table.{step, Allows}
use Rattle.onedom.specs.Histories.{IsBeginning}
use Rattle.sections.specs.Glossary.{Bounds, Moment, Step, Text, View, IsStart, word_count, index_word, HasItsMaker, GoesOn, Kept, moment_of, bearer, informed, mark, shower, hearing, Sat, Sees, Admits, admitted, IsAtRest}
use Rattle.sections.specs.declared.view.Role.TheVariants.{Cpu, Driver}
use Rattle.sections.specs.declared.view.Right.TheVariants.{Nothing}
use Rattle.sections.specs.declared.view.Step.TheVariants.{LoadIndex}
use Rattle.sections.specs.Seats.{Covers, Accepts}
use Rattle.sections.proofs.Steps.{admits_here}

pub some_words : (words n cells : ℕ) → words ≡ word_count n cells → 0 < words
some_words words n cells e = omega (arith, e)

pub two_words : (words n cells : ℕ) → words ≡ word_count n cells → 16 < words
two_words words n cells e = omega (arith, e)

-- a domain's table has one number of processors
pub same_count : (words n m : ℕ) {cells others : ℕ} → words ≡ word_count n cells → words ≡ word_count m others → cells ≤ 4 → others ≤ 4 → n ≡ m
same_count words n m e f few other = omega (arith, e, f, few, other)

-- and of cells
pub cells_are : (words n : ℕ) {cells : ℕ} → words ≡ word_count n cells → cells ≤ 4 → words % 16 ≡ cells
cells_are words n e few = omega (arith, e, few)

pub covers_from : (n : ℕ) (v o j w : View) → o.right ≡ Nothing → j ≡ informed v (bearer o) → Sees (LoadIndex n) j w → n ≡ index_word w.changes → ((k : ℕ) → j.role ≡ Driver k → w.changes ≡ j.changes) → Covers v o w
covers_from n v o j w free joined h current driven = let l : Sees (LoadIndex n) (informed v (bearer o)) w = subst (λ (z : View). Sees (LoadIndex n) z w) joined h in record {
  value = n;
  current = current;
  processors = l.processors;
  role = l.role;
  mine = l.mine;
  right = l.right ∙ free;
  told = l.told;
  steps = l.steps;
  since = l.since;
  later = l.later;
  texts = l.texts.since;
  shown = l.shown;
  driven = subst (λ (z : View). (k : ℕ) → z.role ≡ Driver k → w.changes ≡ z.changes) joined driven;
  covers = (All-head (λ m. GoesOn m (moment_of w)) (moment_of o) v.told l.covers).history;
  not_before = (All-head (λ m. GoesOn m (moment_of w)) (moment_of o) v.told l.covers).changes;
  brings = All-head (λ m. IsStart m.texts w.texts) (moment_of o) v.told l.texts.covers;
  sound = l.sound;
}

-- a processor that was told of a history, which covers its own, may accept it
pub may_accept : (bounds : Bounds) (slots id p : ℕ) (v o : View) (me : Sat) → me.0 ≡ hearing v (shower o) → v.processors ≡ bounds.processors → o.processors ≡ bounds.processors → v.role ≡ Cpu p → IsAtRest v → IsAtRest o → IsBeginning v.seen o.seen → v.changes ≤ o.changes
    → Allows (Kept bounds) slots id me 0 (λ x. x) (admitted (step slots 0 0 0 none) me)
may_accept bounds slots id p v o me joined sized other_sized is rests other since later =
    subst (λ (z : View). Allows (Kept bounds) slots id (z, me.1) 0 (λ x. x) (admitted (step slots 0 0 0 none) (z, me.1))) (sym joined)
    (admits_here bounds slots id (hearing v (shower o), me.1) p (moment_of o) sized is (ap (λ t. moment_of o ∷ t) rests.told) since later rests.sound.own other.sound.legal
    (subst (λ (z : ℕ). All (HasItsMaker z) o.seen) other_sized other.sound.makers) other.sound.reaches other.sound.texts)

pub accepts_from : (n : ℕ) (v o j w : View) → v.told ≡ [] → j ≡ hearing v (shower o) → ((m : Moment) → j.told ≡ m ∷ [] → Admits n m j w) → IsBeginning v.seen o.seen → Accepts v o w
accepts_from n v o j w untold joined admits since =
    let l : Admits n (moment_of o) (hearing v (shower o)) w = subst (λ (z : View). Admits n (moment_of o) z w) joined (admits (moment_of o) (ap (λ (z : View). z.told) joined ∙ ap (λ t. moment_of o ∷ t) untold)) in record {
      value = n;
      processors = l.processors;
      role = l.role;
      mine = l.mine;
      right = l.right;
      told = l.told;
      steps = l.steps;
      seen = l.seen;
      changes = l.changes;
      texts = l.texts;
      texts_since = subst (λ (z : List Text). IsStart v.texts z) (sym l.texts) (l.texts_since since);
      found = l.found;
      heard = λ p k c is driver shown. l.heard p c is (ap (λ m. mark m o.changes o.shown) driver ∙ shown);
      sound = l.sound;
    }

pub keeps_right : (v o : View) → v.right ≡ Nothing → ◌≡◌ {A = Sat} (record v { right = Nothing; shown = o.shown }, []) (record v { shown = o.shown }, [])
keeps_right v o free = λ k. (record v { right = sym free k; shown = o.shown }, [])

pub rests_seen : (l : Step) (v w : View) → v.right ≡ Nothing → Sees l v w → IsAtRest w
rests_seen l v w free h = record { free = h.right ∙ free; told = h.told; sound = h.sound }
