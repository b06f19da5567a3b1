-- The sections of a history, counted by the processors that began and ended them.
use Rattle.std.proofs.Common.{◌≡◌, ◌≢◌, ℕ, Bool, true, false, List, All, inl, inr, count_by, refl, sym, ap, ◌∙◌, eq-eqb, ne_eqb}
use Rattle.race.proofs.Words.{All-weaker, added, Processor, Event, Begin, End, Start, Finish, Note, Ask, Find, Put, maker_of, same_maker, made_by, bit, count_cons, is_begin, is_end, opened_in, closed_in, HasItsMaker}
use Rattle.onedom.specs.declared.event.Maker.{Maker}
use Rattle.race.proofs.Parting.{Counts, parts}

abbrev by_processor : ℕ → Event → Bool
by_processor k e = same_maker (maker_of e) (Processor k)

made_here : (p : ℕ) (by : Maker) → by ≡ Processor p → same_maker by (Processor p) ≡ true
made_here p by e = ap (λ m. same_maker m (Processor p)) e ∙ eq-eqb p p refl

made_elsewhere : (p k : ℕ) (by : Maker) → by ≡ Processor p → k ≢ p → same_maker by (Processor k) ≡ false
made_elsewhere p k by e ne = ap (λ m. same_maker m (Processor k)) e ∙ ne_eqb p k (λ same. ne (sym same))

abbrev CountsOf : (Event → Bool) → ℕ → Event → Type 0
CountsOf p n e = Counts (count_by p) (λ z. bit (p z)) refl (λ z zs. count_cons p z zs) by_processor n e

one_begin : (n : ℕ) (e : Event) → HasItsMaker n e → CountsOf is_begin n e
one_begin n (Begin s p i by) h = inr (record { maker = p; there = h.0; one = made_here p by h.1; others = λ k ne. made_elsewhere p k by h.1 ne })
one_begin n (End s q by) h = inl refl
one_begin n (Start by) h = inl refl
one_begin n (Finish by) h = inl refl
one_begin n (Note c by) h = inl refl
one_begin n (Ask c b by) h = inl refl
one_begin n (Find s c x v by) h = inl refl
one_begin n (Put c x v by) h = inl refl

one_end : (n : ℕ) (e : Event) → HasItsMaker n e → CountsOf is_end n e
one_end n (Begin s p i by) h = inl refl
one_end n (End s q by) h = inr (record { maker = q; there = h.0; one = made_here q by h.1; others = λ k ne. made_elsewhere q k by h.1 ne })
one_end n (Start by) h = inl refl
one_end n (Finish by) h = inl refl
one_end n (Note c by) h = inl refl
one_end n (Ask c b by) h = inl refl
one_end n (Find s c x v by) h = inl refl
one_end n (Put c x v by) h = inl refl

-- all sections that were begun, processor by processor, and all that have ended
pub opened_by_all : (n : ℕ) (history : List Event) → All (HasItsMaker n) history → added (λ k. opened_in (made_by (Processor k) history)) 0 n ≡ opened_in history
opened_by_all n history makers =
    parts (count_by is_begin) (λ (z : Event). bit (is_begin z)) refl (λ z zs. count_cons is_begin z zs) by_processor n history
    (All-weaker (HasItsMaker n) (CountsOf is_begin n) (λ e h. one_begin n e h) history makers)

pub closed_by_all : (n : ℕ) (history : List Event) → All (HasItsMaker n) history → added (λ k. closed_in (made_by (Processor k) history)) 0 n ≡ closed_in history
closed_by_all n history makers =
    parts (count_by is_end) (λ (z : Event). bit (is_end z)) refl (λ z zs. count_cons is_end z zs) by_processor n history
    (All-weaker (HasItsMaker n) (CountsOf is_end n) (λ e h. one_end n e h) history makers)
