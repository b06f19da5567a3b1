-- Beginnings of histories.
use Rattle.std.proofs.Common.{◌≡◌, ℕ, ◌≤◌, ◌⊎◌, inl, inr, ⊎_elim, Bool, List, [], ◌∷◌, ◌++◌, length, count_by, refl, sym, ap, ◌∙◌, subst, append_assoc, append-nil, length-append, arith}
use Rattle.std.proofs.lemmas.List.Elements.{filter-append}
use Rattle.onedom.specs.declared.event.Maker.{Maker}
use Rattle.onedom.specs.declared.event.Event.{Event}
use Rattle.onedom.specs.Histories.{begins, ends, begins_of, ends_of, is_start, starts_in, is_finish, ended_in, IsLegal, maker_of, same_maker, made_by, IsBeginning}
use Rattle.onedom.proofs.Pushes.{count_append, legal_after_append}

pub beginning_refl : (history : List Event) → IsBeginning history history
beginning_refl history = record { rest = []; whole = sym (append-nil history) }

pub beginning_empty : (history : List Event) → IsBeginning [] history
beginning_empty history = record { rest = history; whole = refl }

pub beginning_append : (history more : List Event) → IsBeginning history (history ++ more)
beginning_append history more = record { rest = more; whole = refl }

pub beginning_trans : {a b c : List Event} → IsBeginning a b → IsBeginning b c → IsBeginning a c
beginning_trans {a = a} h g = record { rest = h.rest ++ g.rest; whole = g.whole ∙ (ap (λ l. l ++ g.rest) h.whole ∙ append_assoc a h.rest g.rest) }

-- of a history with one more event
pub beginning_push : {seen history : List Event} (e : Event) → IsBeginning seen history → IsBeginning seen (history ++ e ∷ [])
beginning_push {seen = seen} e h = record { rest = h.rest ++ e ∷ []; whole = ap (λ l. l ++ e ∷ []) h.whole ∙ append_assoc seen h.rest (e ∷ []) }

-- Counts only grow

pub count_grows : (p : Event → Bool) {seen history : List Event} → IsBeginning seen history → count_by p seen ≤ count_by p history
count_grows p {seen = seen} {history = history} h = let P : List Event → Type 0 = λ l. count_by p seen ≤ count_by p l in let c = count_append p seen h.rest in subst P (sym h.whole) (omega (arith, c))

pub begins_grow : (s : ℕ) {seen history : List Event} → IsBeginning seen history → begins_of s seen ≤ begins_of s history
begins_grow s h = count_grows (begins s) h

pub ends_grow : (s : ℕ) {seen history : List Event} → IsBeginning seen history → ends_of s seen ≤ ends_of s history
ends_grow s h = count_grows (ends s) h

pub starts_grow : {seen history : List Event} → IsBeginning seen history → starts_in seen ≤ starts_in history
starts_grow h = count_grows is_start h

pub ended_grow : {seen history : List Event} → IsBeginning seen history → ended_in seen ≤ ended_in history
ended_grow h = count_grows is_finish h

pub length_grows : {seen history : List Event} → IsBeginning seen history → length seen ≤ length history
length_grows {seen = seen} h = let a : length seen ≤ length (seen ++ h.rest) = omega (arith, length-append seen h.rest) in subst (λ (l : List Event). length seen ≤ length l) (sym h.whole) a

-- what a maker made
pub beginning_made_by : (m : Maker) {seen history : List Event} → IsBeginning seen history → IsBeginning (made_by m seen) (made_by m history)
beginning_made_by m {seen = seen} h = record { rest = made_by m h.rest; whole = ap (made_by m) h.whole ∙ filter-append (λ e. same_maker (maker_of e) m) seen h.rest }

pub legal_beginning : {seen history : List Event} → IsBeginning seen history → IsLegal history → IsLegal seen
legal_beginning {seen = seen} h legal = (legal_after_append [] seen h.rest (subst IsLegal h.whole legal)).0

-- Two beginnings of one history

beginning_cons : (e : Event) {a b : List Event} → IsBeginning a b → IsBeginning (e ∷ a) (e ∷ b)
beginning_cons e h = record { rest = h.rest; whole = ap (λ l. e ∷ l) h.whole }

fronts_compare : (a b r s : List Event) → a ++ r ≡ b ++ s → (IsBeginning a b) ⊎ (IsBeginning b a)
fronts_compare [] b r s h = inl (beginning_empty b)
fronts_compare (x ∷ xs) [] r s h = inr (beginning_empty (x ∷ xs))
fronts_compare (x ∷ xs) (y ∷ ys) r s h = let head : x ≡ y = cc in let tail : xs ++ r ≡ ys ++ s = cc in
    ⊎_elim (λ (b : IsBeginning xs ys). inl (subst (λ (z : Event). IsBeginning (x ∷ xs) (z ∷ ys)) head (beginning_cons x b)))
    (λ (b : IsBeginning ys xs). inr (subst (λ (z : Event). IsBeginning (z ∷ ys) (x ∷ xs)) head (beginning_cons x b)))
    (fronts_compare xs ys r s tail)

pub beginnings_compare : {a b history : List Event} → IsBeginning a history → IsBeginning b history → (IsBeginning a b) ⊎ (IsBeginning b a)
beginnings_compare {a = a} {b = b} h g = fronts_compare a b h.rest g.rest (sym h.whole ∙ g.whole)

-- the shorter one is the beginning of the longer
pub beginning_by_length : {a b history : List Event} → IsBeginning a history → IsBeginning b history → length a ≤ length b → IsBeginning a b
beginning_by_length {a = a} {b = b} h g le = ⊎_elim (λ (x : IsBeginning a b). x)
    (λ (x : IsBeginning b a). let none : x.rest ≡ [] = nothing x.rest (let c : length a ≡ length (b ++ x.rest) = ap length x.whole in omega (arith, c, length-append b x.rest)) in
    record { rest = []; whole = sym (x.whole ∙ (ap (λ l. b ++ l) none ∙ append-nil b)) ∙ sym (append-nil a) })
    (beginnings_compare h g)
  where
    nothing : (l : List Event) → length l ≡ 0 → l ≡ []
    nothing [] e = refl
    nothing (x ∷ xs) e = absurd (omega (arith, e))
