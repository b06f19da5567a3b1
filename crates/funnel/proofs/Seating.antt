-- From what a step tells a seat to what the steps of a call do to it.
use Rattle.std.proofs.Common.{◌≡◌, ℕ, ◌<◌, sym, ap, ◌∙◌, subst, arith}
use mathlib.Core.Option.{none}
use Rattle.atomic_table.specs.Table.{step, Allows}
use Rattle.funnel.specs.Glossary.{Shape, Holder, word_of, IsBeginning, View, IsHolder, Owns, Kept, IsSound, Sat, FindsRoot, Admits, admitted}
use Rattle.annals.specs.Rule.{informed}
use Rattle.funnel.specs.Seats.{Covers, Accepts}
use Rattle.funnel.proofs.Steps.{admits_here}

pub some_words : (words nodes : ℕ) → words ≡ word_of nodes → 0 < nodes → 0 < words
some_words words nodes wide some = omega (arith, wide, some)

pub covers_from : (n : ℕ) (v o j w : View) → j ≡ informed v o → FindsRoot n j w → Covers v o w
covers_from n v o j w joined finds = let f : FindsRoot n (informed v o) w = subst (λ z. FindsRoot n z w) joined finds in record {
  found = n;
  load = record { mine = f.load.mine; shape = f.load.shape; role = f.load.role; told = f.load.told; call = f.load.call; loads = f.load.loads; sound = f.load.sound };
  current = f.current;
  since = f.since;
  covers = f.covers;
}

pub accepts_from : (n : ℕ) (v o j w : View) → j ≡ informed v o → Admits n j w → Accepts v o w
accepts_from n v o j w joined admits = let a : Admits n (informed v o) w = subst (λ z. Admits n z w) joined admits in record {
  found = n;
  load = record { mine = a.load.mine; shape = a.load.shape; role = a.load.role; told = a.load.told; call = a.load.call; loads = a.load.loads; sound = a.load.sound };
  seen = a.seen;
  not_below = a.not_below;
}

-- a seat may be admitted to what another has seen, which covers what it had seen itself
pub admitted_seat : (shape : Shape) (slots id : ℕ) (h : Holder) (v o : View) (me : Sat) → me.0 ≡ informed v o → IsHolder v.role h → v.client.shape ≡ shape → 0 < shape.nodes → IsSound v → IsBeginning v.seen o.seen
    → Allows (Kept shape) slots id me 0 (λ x. x) (admitted (step slots 0 0 0 none) me)
admitted_seat shape slots id h v o me joined is shaped some sound covered = admits_here shape slots id me h
    (subst (λ (z : View). IsHolder z.role h) (sym joined) is)
    (ap (λ (z : View). z.client.shape) joined ∙ shaped)
    some
    (subst (λ (z : View). IsBeginning z.seen z.told) (sym joined) covered)
    (subst (λ (z : View). Owns z.role z.client.mine z.client.call z.seen) (sym joined) sound.owns)
