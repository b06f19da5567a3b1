-- Grace periods of legal histories: what was open at a start, when a period may end, and what a cookie says.
use Rattle.std.proofs.Common.{◌≡◌, ℕ, ◌+◌, ◌*◌, ◌<◌, ◌≤◌, ⊎_elim, Bool, true, false, IsTrue, cond, nat_lt, ltb-false, List, [], ◌∷◌, ◌++◌, refl, sym, ap, ◌∙◌, subst, ne_eqb, append_assoc, arith, Option, MatchOption, take, get_or, length}
use Rattle.std.proofs.Math.Seq.{take-length}
use Rattle.std.proofs.lemmas.List.{take_more}
use Rattle.sseq.specs.declared.index.Index.{Index}
use Rattle.sseq.proofs.CallerLemmas.{reached}
use Rattle.onedom.specs.declared.event.Maker.{Maker}
use Rattle.onedom.specs.declared.event.Event.{Event}
use Rattle.onedom.specs.declared.event.Event.TheVariants.{Begin, End, Start, Finish, Note, Ask, Find, Put}
use Rattle.onedom.specs.Histories.{begins, begins_of, IsOpen, index_of, is_start, is_finish, starts_in, ended_in, IsBeforeLastStart, WasOpenAtStart, WasEmpty, cookie_after, MayFollow, IsLegal, IsBeginning}
use Rattle.onedom.specs.Laws.{EmptyInTurnMayEnd, GracePeriodLaw}
use Rattle.onedom.proofs.Pushes.{bit, count_cons, count_append, begins_of_push, ends_of_push, starts_in_push, ended_in_push, along, along_after, begun_once, index_of_kept}
use Rattle.onedom.proofs.Beginnings.{beginning_append, beginning_trans, begins_grow, ends_grow, starts_grow, legal_beginning, beginnings_compare}
use Rattle.onedom.proofs.Refused.{legal_split}

-- The last start

-- a period starts
pub started_now : (history : List Event) (by : Maker) → IsBeforeLastStart history (history ++ Start by ∷ [])
started_now history by = record { by = by; since = []; whole = refl; last = refl }

-- any other event
pub started_before : {before history : List Event} (e : Event) → is_start e ≡ false → IsBeforeLastStart before history → IsBeforeLastStart before (history ++ e ∷ [])
started_before {before = before} e other h = record {
  by = h.by;
  since = h.since ++ e ∷ [];
  whole = ap (λ l. l ++ e ∷ []) h.whole ∙ append_assoc before (Start h.by ∷ h.since) (e ∷ []);
  last = let c = starts_in_push h.since e in let z : bit (is_start e) ≡ 0 = ap bit other in let l = h.last in omega (arith, c, z, l);
}

pub open_at_start_stays : (s : ℕ) {history : List Event} (e : Event) → is_start e ≡ false → WasOpenAtStart history s → WasOpenAtStart (history ++ e ∷ []) s
open_at_start_stays s e other h = record { before = h.before; started = started_before e other h.started; was_open = h.was_open }

-- with the last start the counted ones are one more than before it
pub starts_to_last : {before history : List Event} → IsBeforeLastStart before history → starts_in history ≡ starts_in before + 1
starts_to_last {before = before} h = let c = count_append is_start before (Start h.by ∷ h.since) in let d = count_cons is_start (Start h.by) h.since in let l = h.last in ap starts_in h.whole ∙ omega (arith, c, d, l)

pub beginning_of_last : {before history : List Event} → IsBeforeLastStart before history → IsBeginning before history
beginning_of_last h = record { rest = Start h.by ∷ h.since; whole = h.whole }

-- there is one last start
fronts_of_last : (a b : List Event) (p q : Maker) (c d : List Event) → a ++ Start p ∷ c ≡ b ++ Start q ∷ d → starts_in c ≡ 0 → starts_in d ≡ 0 → a ≡ b
fronts_of_last [] [] p q c d h none nothing = refl
fronts_of_last [] (y ∷ ys) p q c d h none nothing = let tail : c ≡ ys ++ Start q ∷ d = cc in let n = ap starts_in tail in let m = count_append is_start ys (Start q ∷ d) in let k = count_cons is_start (Start q) d in absurd (omega (arith, n, m, k, none))
fronts_of_last (x ∷ xs) [] p q c d h none nothing = let tail : xs ++ Start p ∷ c ≡ d = cc in let n = ap starts_in tail in let m = count_append is_start xs (Start p ∷ c) in let k = count_cons is_start (Start p) c in absurd (omega (arith, n, m, k, nothing))
fronts_of_last (x ∷ xs) (y ∷ ys) p q c d h none nothing = let head : x ≡ y = cc in let tail : xs ++ Start p ∷ c ≡ ys ++ Start q ∷ d = cc in
    let same = fronts_of_last xs ys p q c d tail none nothing in cc

pub one_last_start : {a b history : List Event} → IsBeforeLastStart a history → IsBeforeLastStart b history → a ≡ b
one_last_start {a = a} {b = b} h g = fronts_of_last a b h.by g.by h.since g.since (sym h.whole ∙ g.whole) h.last g.last

-- where the last start stands among so many events
abbrev pub IsLastStart : Option ℕ → ℕ → List Event → Type 0
IsLastStart start n events = MatchOption start (starts_in (take n events) ≡ 0) (λ i. (i < n) × IsBeforeLastStart (take i events) (take n events))

-- What is still open

-- a section that was open at the start, among the first events before that
abbrev pub IsPassed : List Event → List Event → ℕ → Type 0
IsPassed before history n = (s : ℕ) → IsOpen before s → IsOpen history s → begins_of s (take n before) ≡ 0

passed_more : (before history : List Event) (n : ℕ) (d : Event) → n < length before → ((s : ℕ) → IsOpen before s → IsOpen history s → begins s (get_or before n d) ≡ false) → IsPassed before history n → IsPassed before history (n + 1)
passed_more before history n d inside other passed s was is_open = let c = begins_of_push s (take n before) (get_or before n d) in let z : bit (begins s (get_or before n d)) ≡ 0 = ap bit (other s was is_open) in
    let m = ap (begins_of s) (take_more before n d inside) in let none = passed s was is_open in omega (arith, c, z, m, none)

-- one event more, that begins no section which is open in both
abbrev pub BeginsNone : List Event → List Event → Event → Type 0
BeginsNone before history e = (s : ℕ) → IsOpen before s → IsOpen history s → begins s e ≡ false

pub passed_begin : (before history : List Event) (t p : ℕ) (i : Index) (by : Maker) → (IsOpen before t → IsOpen history t → IsTrue false) → BeginsNone before history (Begin t p i by)
passed_begin before history t p i by closed s was is_open = ne_eqb t s (λ y. let f = closed (subst (λ (z : ℕ). IsOpen before z) (sym y) was) (subst (λ (z : ℕ). IsOpen history z) (sym y) is_open) in absurd cc)

pub passed_other : (before history : List Event) (e : Event) → ((t p : ℕ) (i : Index) (by : Maker) → e ≡ Begin t p i by → ⊥) → BeginsNone before history e
passed_other before history (Begin t p i by) other s was is_open = absurd (other t p i by refl)
passed_other before history (End t q by) other s was is_open = refl
passed_other before history (Start by) other s was is_open = refl
passed_other before history (Finish by) other s was is_open = refl
passed_other before history (Note cookie by) other s was is_open = refl
passed_other before history (Ask cookie done by) other s was is_open = refl
passed_other before history (Find u cell slot version by) other s was is_open = refl
passed_other before history (Put cell slot version by) other s was is_open = refl

pub passed_on : (before history : List Event) (n : ℕ) (d e : Event) → n < length before → get_or before n d ≡ e → BeginsNone before history e → IsPassed before history n → IsPassed before history (n + 1)
passed_on before history n d e inside is none passed = passed_more before history n d inside (λ s was is_open. ap (begins s) is ∙ none s was is_open) passed

-- all were passed
pub none_still_open : (before history : List Event) → IsBeforeLastStart before history → IsPassed before history (length before) → (s : ℕ) → WasOpenAtStart history s → ¬ IsOpen history s
none_still_open before history started passed s was is_open = let same = one_last_start was.started started in let was_open = subst (λ (l : List Event). IsOpen l s) same was.was_open in
    let none = passed s was_open is_open in let some = was_open.0 in let whole = ap (begins_of s) (take-length before) in absurd (omega (arith, none, some, whole))

-- One period at a time

one_step : (history : List Event) (e : Event) → IsLegal history → MayFollow history e
    → (ended_in history ≤ starts_in history) × (starts_in history ≤ ended_in history + 1)
    → (ended_in (history ++ e ∷ []) ≤ starts_in (history ++ e ∷ [])) × (starts_in (history ++ e ∷ []) ≤ ended_in (history ++ e ∷ []) + 1)
one_step history (Begin s p i by) legal may one = let c = starts_in_push history (Begin s p i by) in let d = ended_in_push history (Begin s p i by) in let l = one.0 in let m = one.1 in (omega (arith, c, d, l), omega (arith, c, d, m))
one_step history (End s q by) legal may one = let c = starts_in_push history (End s q by) in let d = ended_in_push history (End s q by) in let l = one.0 in let m = one.1 in (omega (arith, c, d, l), omega (arith, c, d, m))
one_step history (Start by) legal may one = let c = starts_in_push history (Start by) in let d = ended_in_push history (Start by) in let l = one.0 in
    let none : starts_in history ≤ ended_in history = none_above (ended_in history) (starts_in history) may in (omega (arith, c, d, l), omega (arith, c, d, none))
  where
    none_above : (m n : ℕ) → ¬ (m < n) → n ≤ m
    none_above m n never = omega arith
one_step history (Finish by) legal may one = let c = starts_in_push history (Finish by) in let d = ended_in_push history (Finish by) in let l = may.0 in let m = one.1 in (omega (arith, c, d, l), omega (arith, c, d, m))
one_step history (Note cookie by) legal may one = let c = starts_in_push history (Note cookie by) in let d = ended_in_push history (Note cookie by) in let l = one.0 in let m = one.1 in (omega (arith, c, d, l), omega (arith, c, d, m))
one_step history (Ask cookie done by) legal may one = let c = starts_in_push history (Ask cookie done by) in let d = ended_in_push history (Ask cookie done by) in let l = one.0 in let m = one.1 in (omega (arith, c, d, l), omega (arith, c, d, m))
one_step history (Find u cell slot version by) legal may one = let c = starts_in_push history (Find u cell slot version by) in let d = ended_in_push history (Find u cell slot version by) in let l = one.0 in let m = one.1 in (omega (arith, c, d, l), omega (arith, c, d, m))
one_step history (Put cell slot version by) legal may one = let c = starts_in_push history (Put cell slot version by) in let d = ended_in_push history (Put cell slot version by) in let l = one.0 in let m = one.1 in (omega (arith, c, d, l), omega (arith, c, d, m))

pub one_period : (history : List Event) → IsLegal history → (ended_in history ≤ starts_in history) × (starts_in history ≤ ended_in history + 1)
one_period history legal = along (λ h. (ended_in h ≤ starts_in h) × (starts_in h ≤ ended_in h + 1)) (omega arith, omega arith) one_step history legal

-- Moments without open sections

-- of a history that goes on in the same period
pub empty_grows : (i : Index) {moment history : List Event} → IsBeginning moment history → starts_in moment ≡ starts_in history → WasEmpty i moment → WasEmpty i history
empty_grows i h same w = record { moment = w.moment; upto = beginning_trans w.upto h; since_start = w.since_start ∙ same; empty = w.empty }

-- a section that was begun keeps its index
pub index_kept : (s : ℕ) {moment history : List Event} → IsBeginning moment history → IsLegal history → 0 < begins_of s moment → index_of s history ≡ index_of s moment
index_kept s {moment = moment} h legal begun = let P : List Event → Type 0 = λ (l : List Event). (0 < begins_of s l) × (index_of s l ≡ index_of s moment) in
    let all : P (moment ++ h.rest) = along_after P (λ l e _ may k. let b = begins_of_push s l e in let some = k.0 in (omega (arith, b, some), index_of_kept s l e (begun_once s l e may k.0) ∙ k.1)) moment h.rest (subst IsLegal h.whole legal) (begun, refl) in
    ap (index_of s) h.whole ∙ all.1

pub empty_may_end : EmptyInTurnMayEnd
empty_may_end history by legal running empty = (running, λ s was is_open. still s was is_open (empty (index_of s history)))
  where
    still : (s : ℕ) → WasOpenAtStart history s → IsOpen history s → WasEmpty (index_of s history) history → ⊥
    still s was is_open w = let more = starts_to_last was.started in let same = w.since_start in
        let behind : IsBeginning was.before w.moment = ⊎_elim (λ (x : IsBeginning was.before w.moment). x)
        (λ (x : IsBeginning w.moment was.before). let few = starts_grow x in absurd (omega (arith, more, same, few)))
        (beginnings_compare (beginning_of_last was.started) w.upto) in
        let grown = begins_grow s behind in let some = was.was_open.0 in let begun : 0 < begins_of s w.moment = omega (arith, grown, some) in
        let fewer = ends_grow s w.upto in let none = is_open.1 in
        w.empty s (begun, omega (arith, fewer, none)) (sym (index_kept s w.upto legal begun))

-- The law of grace periods

-- a section that was open when so many periods had started: as long as it is open, no more have ended
record Outlasts (s started : ℕ) (history : List Event) : Type 0 where
  begun : 0 < begins_of s history
  few_ended : IsOpen history s → ended_in history ≤ started
  at_start : IsOpen history s → started < starts_in history → WasOpenAtStart history s

open_before : (s : ℕ) (history : List Event) (e : Event) → 0 < begins_of s history → IsOpen (history ++ e ∷ []) s → IsOpen history s
open_before s history e begun is_open = let d = ends_of_push s history e in let none = is_open.1 in (begun, omega (arith, d, none))

begun_before : (s : ℕ) (history : List Event) (e : Event) → 0 < begins_of s history → 0 < begins_of s (history ++ e ∷ [])
begun_before s history e begun = let b = begins_of_push s history e in omega (arith, b, begun)

outlasts_plain : (s started : ℕ) (history : List Event) (e : Event) → is_start e ≡ false → is_finish e ≡ false → Outlasts s started history → Outlasts s started (history ++ e ∷ [])
outlasts_plain s started history e other plain k = let c = starts_in_push history e in let d = ended_in_push history e in let y : bit (is_start e) ≡ 0 = ap bit other in let z : bit (is_finish e) ≡ 0 = ap bit plain in record {
  begun = begun_before s history e k.begun;
  few_ended = λ is_open. let few = k.few_ended (open_before s history e k.begun is_open) in omega (arith, d, z, few);
  at_start = λ is_open later. open_at_start_stays s e other (k.at_start (open_before s history e k.begun is_open) (omega (arith, c, y, later)));
}

outlasts_step : (s started : ℕ) (history : List Event) (e : Event) → IsLegal history → MayFollow history e → Outlasts s started history → Outlasts s started (history ++ e ∷ [])
outlasts_step s started history (Begin t p i by) legal may k = outlasts_plain s started history (Begin t p i by) refl refl k
outlasts_step s started history (End t q by) legal may k = outlasts_plain s started history (End t q by) refl refl k
outlasts_step s started history (Start by) legal may k = let e : Event = Start by in let d = ended_in_push history e in record {
  begun = begun_before s history e k.begun;
  few_ended = λ is_open. let few = k.few_ended (open_before s history e k.begun is_open) in omega (arith, d, few);
  at_start = λ is_open later. record { before = history; started = started_now history by; was_open = open_before s history e k.begun is_open };
}
outlasts_step s started history (Finish by) legal may k = let e : Event = Finish by in let c = starts_in_push history e in let d = ended_in_push history e in let running = may.0 in record {
  begun = begun_before s history e k.begun;
  few_ended = λ is_open. let before = open_before s history e k.begun is_open in
      let none : starts_in history ≤ started = not_above started (starts_in history) (λ later. may.1 s (k.at_start before later) before) in omega (arith, d, running, none);
  at_start = λ is_open later. open_at_start_stays s e refl (k.at_start (open_before s history e k.begun is_open) (omega (arith, c, later)));
}
  where
    not_above : (m n : ℕ) → ¬ (m < n) → n ≤ m
    not_above m n never = omega arith
outlasts_step s started history (Note cookie by) legal may k = outlasts_plain s started history (Note cookie by) refl refl k
outlasts_step s started history (Ask cookie done by) legal may k = outlasts_plain s started history (Ask cookie done by) refl refl k
outlasts_step s started history (Find u cell slot version by) legal may k = outlasts_plain s started history (Find u cell slot version by) refl refl k
outlasts_step s started history (Put cell slot version by) legal may k = outlasts_plain s started history (Put cell slot version by) refl refl k

-- a cookie is above all periods that have started
cookie_case : (ended started : ℕ) (b : Bool) → nat_lt ended started ≡ b → started ≤ ended + 1 → 4 * (started + 1) ≤ 4 * (ended + cond b 2 1)
cookie_case ended started true is one = omega arith
cookie_case ended started false is one = omega (arith, ltb-false ended started is)

pub cookie_is_later : (history : List Event) → IsLegal history → 4 * (starts_in history + 1) ≤ cookie_after history
cookie_is_later history legal = cookie_case (ended_in history) (starts_in history) (nat_lt (ended_in history) (starts_in history)) refl (one_period history legal).1

pub law : GracePeriodLaw
law before between after cookie asked giver asker legal le s is_open still =
    let mid : List Event = before ++ Note cookie giver ∷ between in
    let upto : IsLegal mid = legal_beginning (beginning_append mid (Ask asked true asker ∷ after)) legal in
    let first : IsLegal before = legal_beginning (beginning_append before (Note cookie giver ∷ between)) upto in
    let given : cookie ≡ cookie_after before = legal_split before (Note cookie giver) between upto in
    let later : 4 * (starts_in before + 1) ≤ cookie_after before = cookie_is_later before first in
    let done : asked ≤ 4 * ended_in mid = reached (4 * ended_in mid) asked (λ one. omega (arith, given, later, le, one)) ((legal_split mid (Ask asked true asker) after legal).1.0 refl) in
    let one = (one_period before first).0 in
    let k : Outlasts s (starts_in before) mid = along_after (λ h. Outlasts s (starts_in before) h) (outlasts_step s (starts_in before)) before (Note cookie giver ∷ between) upto
    (record { begun = is_open.0; few_ended = λ _. one; at_start = λ _ more. absurd (omega (arith, more)) }) in
    let few = k.few_ended still in absurd (omega (arith, given, done, later, few, le))
