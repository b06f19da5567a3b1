-- What a call over two steps on a key does to its seat.
use Rattle.std.specs.Prelude.{MatchOption}
use Rattle.std.proofs.Common.{◌≡◌, ℕ, ◌<◌, ◌≤◌, List, ◌∷◌, Option, Some, None, sym, ap, ◌∙◌, arith}
use mathlib.Core.Logic.{dite}
use native.Mathlib.Decide.{dec_le}
use Rattle.atomic_table.specs.Table.{rest}
use Rattle.sections.specs.Glossary.{Slot, Left, Right, View, Sat, Catches}
use Rattle.sections.proofs.Taking.{first_key}

pub catches_left : (v w : View) (y : Right) (l : Option Left) → Catches v w → Catches v (record w { right = y; left = l })
catches_left v w y l h = record { processors = h.processors; role = h.role; mine = h.mine; shown = h.shown; told = h.told; done = h.done; since = h.since; later = h.later; covers = h.covers; texts = record { since = h.texts.since; covers = h.texts.covers }; sound = h.sound }

-- a key with nothing is that of a processor that had nothing
pub none_at : (p each count : ℕ) → (p < each → 0 < count) → count ≡ 0 → each ≤ p
none_at p each count some none = dite (dec_le each p) (λ le. le) (λ more. absurd (let m = some (omega (arith, more)) in omega (arith, m, none)))

-- what was taken out is what lay there
pub out_is : (l ms : List (ℕ × Slot)) (i : ℕ) (key y : Slot) → l ≡ (i, key) ∷ ms → l ≡ (i, y) ∷ rest l → y ≡ key
out_is l ms i key y took out = ap (first_key key) (sym out ∙ took)

pub has_one : (l ms : List (ℕ × Slot)) (i : ℕ) (key : Slot) → l ≡ (i, key) ∷ ms → l ≡ (i, key) ∷ rest l
has_one l ms i key took = took ∙ ap (λ z. (i, key) ∷ rest z) (sym took)

-- the seat once this lies in the place
pub exchanged : (m m' : Sat) (i : ℕ) (key y : Slot) (ms : List (ℕ × Slot)) → m.1 ≡ (i, key) ∷ ms → m' ≡ (m.0, (i, y) ∷ rest m.1) → m' ≡ (m.0, (i, y) ∷ ms)
exchanged m m' i key y ms had now = now ∙ ap (λ z. (m.0, (i, y) ∷ rest z)) had

pub match_map : {X : Type 0} {A B : Type 0} {P Q : X → Type 0} (o : Option X) → (A → B) → ((x : X) → P x → Q x) → MatchOption o A P → MatchOption o B Q
match_map None f h m = f m
match_map (Some x) f h m = h x m
