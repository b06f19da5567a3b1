-- From what a step tells a seat to what a caller of a processor sees.
use Rattle.std.proofs.Common.{◌≡◌, ℕ, ◌+◌, ◌*◌, ◌%◌, ◌^◌, ◌<◌, ◌≤◌, ◌≢◌, ◌==◌, if◌then◌else◌, Bool, true, false, eqb, List, [], ◌∷◌, ◌++◌, None, All, Contains, zero, suc, ⊎_elim, length}
use Rattle.std.proofs.Common.{length-append, filter, not, ◌&&◌, get_or, set, refl, sym, ap, ◌∙◌, subst, eq-eqb, ne_eqb, append_assoc, arith, get_or-set_other, get_or-set_same}
use Rattle.std.proofs.lemmas.List.Elements.{All-head, All-tail, filter_agree, Contains-append_left, Contains-append_right, Contains-append_cases}
use mathlib.Core.Logic.{dite}
use native.Mathlib.Decide.{ℕ_discrete}
use Rattle.atomic_table.specs.Seated.{TableId}
use Rattle.sseq.specs.declared.index.Index.{Index}
use Rattle.sseq.specs.declared.index.Index.TheVariants.{Zero, One}
use Rattle.sseq.specs.Indexes.{index_number}
use Rattle.onedom.specs.declared.event.Maker.{Maker}
use Rattle.onedom.specs.declared.event.Maker.TheVariants.{Processor, Engine}
use Rattle.onedom.specs.declared.event.Event.{Event}
use Rattle.onedom.specs.declared.event.Event.TheVariants.{Begin, End, Note, Ask}
use Rattle.onedom.specs.Histories.{begins, ends, section_begun, IsOpen, begins_of, ends_of, index_of, MayFollow, IsLegal, made_by, open_sections, IsBeginning}
use Rattle.onedom.specs.Laws.{times}
use Rattle.onedom.proofs.CallerLemmas.{law, index_kept, bit, let_in, kept_out, made_by_own, same_maker_refl, index_of_begun, begins_of_push, no_ends, legal_after_append, ends_of_made, ends_of_push, begins_grow, beginning_empty}
use Rattle.onedom.proofs.CallerLemmas.{beginning_push, beginning_made_by, times_kept, times_gone, without, filter_twice, times_open, open_sections_begun, open_sections_ended, open_sections_plain}
use Rattle.sections.specs.Glossary.{Role, Step, Moment, View, is_held, open_readings, locks_at, locks, number_word, HasItsMaker, GoesOn, moment_of, steps_of, informed, lacking, Owns, IsSound, Sees, Adds, FindsNumber, IsAtRest, CpuView, ReadingView, IsHistoryOf, Loads, AddsEvent, EndsWithBegin, HasBegun, Unlocks, Notes, Asks, EndsWithNote, AllClosed}
use Rattle.sections.specs.declared.view.Role.TheVariants.{Cpu, Driver}
use Rattle.sections.specs.declared.view.Right.TheVariants.{Nothing}
use Rattle.sseq.specs.Numbers.{periods_ended, cookie_at, done_at}
use Rattle.sseq.proofs.CallerLemmas.{done_true, done_is}
use Rattle.sections.proofs.Deeds.{cpu_makes}
use Rattle.sections.proofs.Counters.{locks_push, locks_here, elsewhere, index_low, index_number_same}

abbrev pub seen_as : TableId → ℕ → ℕ → ℕ → View → CpuView
seen_as d n limit p v = record { domain = d; processors = n; sections = limit; processor = p; seen = v.seen; changes = v.changes; texts = v.texts; mine = v.mine; steps = steps_of (Processor p) v.done; left = v.left }

-- What was seen

pub history_of : (n p : ℕ) (w : View) → w.processors ≡ n → w.role ≡ Cpu p → IsSound w.processors w.role w.mine w.seen w.changes w.texts → IsHistoryOf n (Processor p) w.mine w.seen w.changes w.texts
history_of n p w sized is h = record {
  legal = h.legal;
  makers = subst (λ (z : ℕ). All (HasItsMaker z) w.seen) sized h.makers;
  own = subst (λ (z : Role). Owns z w.mine w.seen) is h.own;
  reaches = h.reaches;
  texts = h.texts;
  vaults = h.vaults;
}

pub engine_history_of : (n k : ℕ) (w : View) → w.processors ≡ n → w.role ≡ Driver k → IsSound w.processors w.role w.mine w.seen w.changes w.texts → IsHistoryOf n Engine w.mine w.seen w.changes w.texts
engine_history_of n k w sized is h = record {
  legal = h.legal;
  makers = subst (λ (z : ℕ). All (HasItsMaker z) w.seen) sized h.makers;
  own = subst (λ (z : Role). Owns z w.mine w.seen) is h.own;
  reaches = h.reaches;
  texts = h.texts;
  vaults = h.vaults;
}

pub loads_from : (l : Step) (d d' : TableId) (n limit p : ℕ) (v w : View) → d' ≡ d → v.processors ≡ n → v.role ≡ Cpu p → Sees l v w → Loads l (seen_as d n limit p v) (seen_as d' n limit p w)
loads_from l d d' n limit p v w same sized is h = record {
  same = (same, refl, refl, refl);
  mine = h.mine;
  steps = h.steps (Processor p) (cpu_makes p v.role is);
  since = h.since;
  later = h.later;
  texts = h.texts.since;
  history = history_of n p w (h.processors ∙ sized) (h.role ∙ is) h.sound;
}

-- the same where the right was given away afterwards
pub loads_cut : (l : Step) (d d' : TableId) (n limit p : ℕ) (v w w' : View) → d' ≡ d → v.processors ≡ n → v.role ≡ Cpu p → w' ≡ lacking w → Sees l v w → Loads l (seen_as d n limit p v) (seen_as d' n limit p w')
loads_cut l d d' n limit p v w w' same sized is cut h = subst (λ (z : View). Loads l (seen_as d n limit p v) (seen_as d' n limit p z)) (sym cut) (loads_from l d d' n limit p v w same sized is h)

-- an event, after what another had seen was handed in
pub adds_event : (e : Event) (d d' : TableId) (n limit p : ℕ) (v o j w : View) → d' ≡ d → v.processors ≡ n → v.role ≡ Cpu p → j ≡ informed v o → Adds j e w → AddsEvent o.seen o.changes e (seen_as d n limit p v) (seen_as d' n limit p w)
adds_event e d d' n limit p v o j w same sized is joined h =
    let a : Adds (informed v o) e w = subst (λ (z : View). Adds z e w) joined h in record {
      same = (same, refl, refl, refl);
      before = a.before;
      seen = a.seen;
      since = a.since;
      later = a.later;
      covers = (All-head (λ m. GoesOn m (record { history = a.before; changes = w.changes; texts = [] })) (moment_of o) v.told a.covers).history;
      not_before = (All-head (λ m. GoesOn m (record { history = a.before; changes = w.changes; texts = [] })) (moment_of o) v.told a.covers).changes;
      mine = a.mine;
      steps = ap (steps_of (Processor p)) a.done;
      texts = a.texts.since;
      history = history_of n p w (a.processors ∙ sized) (a.role ∙ is) a.sound;
    }

pub adds_cut : (e : Event) (d d' : TableId) (n limit p : ℕ) (v o j w w' : View) → d' ≡ d → v.processors ≡ n → v.role ≡ Cpu p → j ≡ informed v o → w' ≡ lacking w → Adds j e w
    → AddsEvent o.seen o.changes e (seen_as d n limit p v) (seen_as d' n limit p w')
adds_cut e d d' n limit p v o j w w' same sized is joined cut h =
    subst (λ (z : View). AddsEvent o.seen o.changes e (seen_as d n limit p v) (seen_as d' n limit p z)) (sym cut) (adds_event e d d' n limit p v o j w same sized is joined h)

-- the same, after what two others had seen was handed in: the step is behind the first one too
pub adds_both : (e : Event) (d d' : TableId) (n limit p : ℕ) (v g o i j w w' : View) → d' ≡ d → v.processors ≡ n → v.role ≡ Cpu p → i ≡ informed v g → j ≡ informed i o → w' ≡ lacking w → Adds j e w
    → (a : AddsEvent o.seen o.changes e (seen_as d n limit p v) (seen_as d' n limit p w')) × IsBeginning g.seen a.before × (g.changes ≤ w'.changes)
adds_both e d d' n limit p v g o i j w w' same sized is first second cut h =
    let joined : j ≡ informed (informed v g) o = second ∙ ap (λ (z : View). informed z o) first in
    let a : Adds (informed (informed v g) o) e w = subst (λ (z : View). Adds z e w) joined h in
    let covered : (m : Moment) → Type 0 = λ m. GoesOn m (record { history = a.before; changes = w.changes; texts = [] }) in
    let last = All-head covered (moment_of o) (moment_of g ∷ v.told) a.covers in
    let mine = All-head covered (moment_of g) v.told (All-tail covered (moment_of o) (moment_of g ∷ v.told) a.covers) in
    subst (λ (z : View). (b : AddsEvent o.seen o.changes e (seen_as d n limit p v) (seen_as d' n limit p z)) × IsBeginning g.seen b.before × (g.changes ≤ z.changes)) (sym cut) (
      record {
        same = (same, refl, refl, refl);
        before = a.before;
        seen = a.seen;
        since = a.since;
        later = a.later;
        covers = last.history;
        not_before = last.changes;
        mine = a.mine;
        steps = ap (steps_of (Processor p)) a.done;
        texts = a.texts.since;
        history = history_of n p w (a.processors ∙ sized) (a.role ∙ is) a.sound;
      },
      mine.history,
      mine.changes,
    )

-- an event with nothing handed in
pub adds_alone : (e : Event) (d d' : TableId) (n limit p : ℕ) (v w w' : View) → d' ≡ d → v.processors ≡ n → v.role ≡ Cpu p → w' ≡ lacking w → Adds v e w → AddsEvent v.seen v.changes e (seen_as d n limit p v) (seen_as d' n limit p w')
adds_alone e d d' n limit p v w w' same sized is cut a =
    subst (λ (z : View). AddsEvent v.seen v.changes e (seen_as d n limit p v) (seen_as d' n limit p z)) (sym cut) record {
      same = (same, refl, refl, refl);
      before = a.before;
      seen = a.seen;
      since = a.since;
      later = a.later;
      covers = a.since;
      not_before = a.later;
      mine = a.mine;
      steps = ap (steps_of (Processor p)) a.done;
      texts = a.texts.since;
      history = history_of n p w (a.processors ∙ sized) (a.role ∙ is) a.sound;
    }

-- the last event of a legal history may follow those before it
pub last_may_follow : (before : List Event) (e : Event) → IsLegal (before ++ e ∷ []) → MayFollow before e
last_may_follow before e legal = (legal_after_append [] before (e ∷ []) legal).1.0

pub fresh_section : (s p : ℕ) (i : Index) (by : Maker) (v w : View) → Adds v (Begin s p i by) w → begins_of s v.seen ≡ 0
fresh_section s p i by v w a = let may = last_may_follow a.before (Begin s p i by) (subst IsLegal a.seen a.sound.legal) in let grown = begins_grow s a.since in omega (arith, may, grown)

-- What a processor keeps count of

-- the seat after a step, when its right was given away
pub rests_cut : (v w w' : View) (e : Event) → w' ≡ lacking w → Adds v e w → IsAtRest w'
rests_cut v w w' e cut a = subst (λ (z : View). IsAtRest z) (sym cut) (record { free = refl; told = a.told; sound = a.sound })

pub rests_after : (v w : View) (e : Event) → w.right ≡ Nothing → Adds v e w → IsAtRest w
rests_after v w e free a = record { free = free; told = a.told; sound = a.sound }

locks_one_more : (p : ℕ) (k : Index) (s : ℕ) (by : Maker) (mine after : List Event) → after ≡ mine ++ Begin s p k by ∷ [] → locks p k after ≡ locks p k mine + 1
locks_one_more p k s by mine after e = let c = locks_push p k mine (Begin s p k by) in let one : bit (locks_at p k (Begin s p k by)) ≡ 1 = ap bit (locks_here p k) in ap (locks p k) e ∙ omega (arith, c, one)

locks_as_before : (p : ℕ) (i k : Index) (s : ℕ) (by : Maker) (mine after : List Event) → after ≡ mine ++ Begin s p k by ∷ [] → i ≢ k → locks p i after ≡ locks p i mine
locks_as_before p i k s by mine after e n = let c = locks_push p i mine (Begin s p k by) in let zero : bit (locks_at p i (Begin s p k by)) ≡ 0 = ap bit (elsewhere p p k i (λ _ h. n (sym h))) in ap (locks p i) e ∙ omega (arith, c, zero)

pub begun_more : (begun : List ℕ) (p : ℕ) (k : Index) (s : ℕ) (by : Maker) (mine after : List Event) → length begun ≡ 2 → ((i : Index) → get_or begun (index_number i) 0 ≡ locks p i mine) → after ≡ mine ++ Begin s p k by ∷ []
    → (i : Index) → get_or (set begun (index_number k) (get_or begun (index_number k) 0 + 1)) (index_number i) 0 ≡ locks p i after
begun_more begun p k s by mine after two was e i = let low = index_low k in dite (ℕ_discrete (index_number i) (index_number k))
    (λ h. let same : i ≡ k = index_number_same i k h in ap (λ z. get_or (set begun (index_number k) (get_or begun (index_number k) 0 + 1)) z 0) h
    ∙ (get_or-set_same begun (index_number k) (get_or begun (index_number k) 0 + 1) 0 (omega (arith, low, two)) ∙ (ap (λ z. z + 1) (was k) ∙ (sym (locks_one_more p k s by mine after e) ∙ ap (λ z. locks p z after) (sym same)))))
    (λ n. get_or-set_other begun (index_number k) (index_number i) (get_or begun (index_number k) 0 + 1) 0 n ∙ (was i ∙ sym (locks_as_before p i k s by mine after e (λ h. n (ap index_number h)))))

pub limited_more : (begun : List ℕ) (k : Index) (limit : ℕ) → length begun ≡ 2 → get_or begun (index_number k) 0 ≢ limit → ((i : Index) → get_or begun (index_number i) 0 ≤ limit)
    → (i : Index) → get_or (set begun (index_number k) (get_or begun (index_number k) 0 + 1)) (index_number i) 0 ≤ limit
limited_more begun k limit two n was i = let low = index_low k in let y : ℕ = get_or begun (index_number k) 0 + 1 in dite (ℕ_discrete (index_number i) (index_number k))
    (λ h. let same = ap (λ z. get_or (set begun (index_number k) y) z 0) h ∙ get_or-set_same begun (index_number k) y 0 (omega (arith, low, two)) in let most = was k in omega (arith, same, most, n))
    (λ ne. let same = get_or-set_other begun (index_number k) (index_number i) y 0 ne in let most = was i in omega (arith, same, most))

pub sum_more : (begun : List ℕ) (k : Index) → length begun ≡ 2 → get_or (set begun (index_number k) (get_or begun (index_number k) 0 + 1)) 0 0 + get_or (set begun (index_number k) (get_or begun (index_number k) 0 + 1)) 1 0 ≡ get_or begun 0 0 + get_or begun 1 0 + 1
sum_more begun Zero two = let a = get_or-set_same begun 0 (get_or begun 0 0 + 1) 0 (omega (arith, two)) in let b = get_or-set_other begun 0 1 (get_or begun 0 0 + 1) 0 (λ h. omega arith) in omega (arith, a, b)
sum_more begun One two = let a = get_or-set_same begun 1 (get_or begun 1 0 + 1) 0 (omega (arith, two)) in let b = get_or-set_other begun 1 0 (get_or begun 1 0 + 1) 0 (λ h. omega arith) in omega (arith, a, b)

-- a new section has no End among the processor's own events
pub unended : (s p : ℕ) (i : Index) (v w : View) → w.role ≡ Cpu p → Adds v (Begin s p i (Processor p)) w → ends_of s v.mine ≡ 0
unended s p i v w is a =
    let legal = subst IsLegal a.seen a.sound.legal in
    let parts = legal_after_append [] a.before (Begin s p i (Processor p) ∷ []) legal in
    let none_ended = no_ends s a.before parts.0 parts.1.0 in
    let own : w.mine ≡ made_by (Processor p) w.seen = subst (λ (z : Role). Owns z w.mine w.seen) is a.sound.own in
    let all : ends_of s w.mine ≡ ends_of s (made_by (Processor p) w.seen) = ap (ends_of s) own in
    let fewer = ends_of_made (Processor p) s w.seen in
    let whole : ends_of s w.seen ≡ ends_of s a.before + 0 = ap (ends_of s) a.seen ∙ ends_of_push s a.before (Begin s p i (Processor p)) in
    let mine : ends_of s w.mine ≡ ends_of s v.mine + 0 = ap (ends_of s) a.mine ∙ ends_of_push s v.mine (Begin s p i (Processor p)) in
    omega (arith, none_ended, all, fewer, whole, mine)

-- readings among a maker's own events

filter_past : (p q : ℕ → Bool) (xs : List ℕ) → filter p (filter q xs) ≡ filter q (filter p xs)
filter_past p q xs = filter_twice q p xs ∙ (filter_agree (λ x. q x && p x) (λ x. p x && q x) (λ x. and_past (q x) (p x)) xs ∙ sym (filter_twice p q xs))
  where
    and_past : (a b : Bool) → (a && b) ≡ (b && a)
    and_past true true = refl
    and_past true false = refl
    and_past false true = refl
    and_past false false = refl

abbrev is_reading : ℕ → Bool
is_reading s = not (is_held s)

one_more_reading : (history : List Event) (s p : ℕ) (i : Index) (by : Maker) → ends_of s history ≡ 0 → is_held s ≡ false → length (open_readings (history ++ Begin s p i by ∷ [])) ≡ length (open_readings history) + 1
one_more_reading history s p i by none kind = ap (λ l. length (filter is_reading l)) (open_sections_begun history s p i by none)
    ∙ (ap length (let_in is_reading (open_sections history) s (ap not kind)) ∙ (length-append (open_readings history) (s ∷ []) ∙ omega arith))

same_readings_begun : (history : List Event) (s p : ℕ) (i : Index) (by : Maker) → ends_of s history ≡ 0 → is_held s ≡ true → length (open_readings (history ++ Begin s p i by ∷ [])) ≡ length (open_readings history)
same_readings_begun history s p i by none kind = ap (λ l. length (filter is_reading l)) (open_sections_begun history s p i by none) ∙ ap length (kept_out is_reading (open_sections history) s (ap not kind))

fewer_readings : (history : List Event) (s q : ℕ) (by : Maker) → length (open_readings (history ++ End s q by ∷ [])) + times s (open_readings history) ≡ length (open_readings history)
fewer_readings history s q by = ap (λ l. length (filter is_reading l) + times s (open_readings history)) (open_sections_ended history s q by)
    ∙ (ap (λ l. length l + times s (open_readings history)) (filter_past is_reading (λ u. not (eqb u s)) (open_sections history)) ∙ without s (open_readings history))

one_less_reading : (history : List Event) (s q : ℕ) (by : Maker) → is_held s ≡ false → times s (open_sections history) ≡ 1 → length (open_readings (history ++ End s q by ∷ [])) + 1 ≡ length (open_readings history)
one_less_reading history s q by kind one = let f = fewer_readings history s q by in let k = times_kept s is_reading (open_sections history) (ap not kind) in omega (arith, f, k, one)

same_readings_ended : (history : List Event) (s q : ℕ) (by : Maker) → is_held s ≡ true → length (open_readings (history ++ End s q by ∷ [])) ≡ length (open_readings history)
same_readings_ended history s q by kind = let f = fewer_readings history s q by in let none = times_gone s is_reading (open_sections history) (ap not kind) in omega (arith, f, none)

pub one_more_unclosed : (s p : ℕ) (i : Index) (v w : View) → w.role ≡ Cpu p → Adds v (Begin s p i (Processor p)) w → is_held s ≡ false → length (open_readings w.mine) ≡ length (open_readings v.mine) + 1
one_more_unclosed s p i v w is a kind = ap (λ l. length (open_readings l)) a.mine ∙ one_more_reading v.mine s p i (Processor p) (unended s p i v w is a) kind

-- held sections don't count
pub same_unclosed_begun : (s p : ℕ) (i : Index) (v w : View) → w.role ≡ Cpu p → Adds v (Begin s p i (Processor p)) w → is_held s ≡ true → length (open_readings w.mine) ≡ length (open_readings v.mine)
same_unclosed_begun s p i v w is a kind = ap (λ l. length (open_readings l)) a.mine ∙ same_readings_begun v.mine s p i (Processor p) (unended s p i v w is a) kind

pub same_unclosed_ended : (s q : ℕ) (v w : View) → Adds v (End s q (Processor q)) w → is_held s ≡ true → length (open_readings w.mine) ≡ length (open_readings v.mine)
same_unclosed_ended s q v w a kind = ap (λ l. length (open_readings l)) a.mine ∙ same_readings_ended v.mine s q (Processor q) kind

pub has_room : (n l limit : ℕ) → n ≡ l → n ≤ limit → n ≢ limit → l < limit
has_room n l limit same most n≠ = omega arith

-- the section that ends is open among the processor's own events
pub still_unended : (s q : ℕ) (v w : View) → w.role ≡ Cpu q → Adds v (End s q (Processor q)) w → ends_of s v.mine ≡ 0
still_unended s q v w is a =
    let e : Event = End s q (Processor q) in
    let legal = subst IsLegal a.seen a.sound.legal in
    let is_open = last_may_follow a.before e legal in
    let unended_before = is_open.1 in
    let own : w.mine ≡ made_by (Processor q) w.seen = subst (λ (z : Role). Owns z w.mine w.seen) is a.sound.own in
    let all : ends_of s w.mine ≡ ends_of s (made_by (Processor q) w.seen) = ap (ends_of s) own in
    let fewer = ends_of_made (Processor q) s w.seen in
    let one : bit (eqb s s) ≡ 1 = ap bit (eq-eqb s s refl) in
    let whole : ends_of s w.seen ≡ ends_of s a.before + bit (eqb s s) = ap (ends_of s) a.seen ∙ ends_of_push s a.before e in
    let mine : ends_of s w.mine ≡ ends_of s v.mine + bit (eqb s s) = ap (ends_of s) a.mine ∙ ends_of_push s v.mine e in
    omega (arith, unended_before, all, fewer, whole, mine, one)

pub one_less_unclosed : (s q : ℕ) (v w : View) → w.role ≡ Cpu q → Adds v (End s q (Processor q)) w → begins_of s v.mine ≡ 1 → is_held s ≡ false → length (open_readings w.mine) + 1 ≡ length (open_readings v.mine)
one_less_unclosed s q v w is a begun kind =
    ap (λ l. length (open_readings l) + 1) a.mine ∙ one_less_reading v.mine s q (Processor q) kind (times_open s v.mine (still_unended s q v w is a) ∙ begun)

pub locks_unchanged : (p : ℕ) (i : Index) (s q : ℕ) (by : Maker) (mine after : List Event) → after ≡ mine ++ End s q by ∷ [] → locks p i after ≡ locks p i mine
locks_unchanged p i s q by mine after e = let c = locks_push p i mine (End s q by) in ap (locks p i) e ∙ omega (arith, c)

pub at_limit : (n l limit : ℕ) → n ≡ l → n ≡ limit → l ≡ limit
at_limit n l limit a b = sym a ∙ b

-- What a reading tells

pub begun_index : (r : ReadingView) → EndsWithBegin r → r.index ≡ index_of r.section r.seen
begun_index r b = sym (ap (index_of r.section) b.whole ∙ index_of_begun r.section r.processor r.index (Processor r.processor) b.before)

-- its section ends with its index
pub ended_index : (r : ReadingView) (c d : CpuView) → EndsWithBegin r → Unlocks r c d → index_of r.section d.seen ≡ r.index
ended_index r c d b a =
    let e : Event = Begin r.section r.processor r.index (Processor r.processor) in
    let since : IsBeginning r.seen d.seen = subst (λ (l : List Event). IsBeginning r.seen l) (sym a.seen) (beginning_push (End r.section c.processor (Processor c.processor)) a.covers) in
    let one : bit (begins r.section e) ≡ 1 = ap bit (eq-eqb r.section r.section refl) in
    let count : begins_of r.section r.seen ≡ begins_of r.section b.before + bit (begins r.section e) = ap (begins_of r.section) b.whole ∙ begins_of_push r.section b.before e in
    index_kept r.section since a.history.legal (omega (arith, one, count)) ∙ sym (begun_index r b)

-- and it was begun here
pub begun_here : (r : ReadingView) (c d : CpuView) → EndsWithBegin r → r.processor ≡ c.processor → Unlocks r c d → HasBegun c r
begun_here r c d b here a =
    let p : Maker = Processor r.processor in
    let e : Event = Begin r.section r.processor r.index p in
    let end : Event = End r.section c.processor (Processor c.processor) in
    let first : Contains (made_by p r.seen) e = subst (λ (l : List Event). Contains l e) (sym (ap (made_by p) b.whole ∙ made_by_own p b.before e (same_maker_refl p))) (Contains-append_right (made_by p b.before) (e ∷ []) e (0, omega arith, refl)) in
    let since : IsBeginning r.seen d.seen = subst (λ (l : List Event). IsBeginning r.seen l) (sym a.seen) (beginning_push end a.covers) in
    let grown = beginning_made_by p since in
    let own : d.mine ≡ made_by p d.seen = a.history.own ∙ ap (λ k. made_by (Processor k) d.seen) (a.same.3 ∙ sym here) in
    let all : Contains (c.mine ++ end ∷ []) e = subst (λ (l : List Event). Contains l e) (sym (own ∙ grown.whole) ∙ a.mine) (Contains-append_left (made_by p r.seen) grown.rest e first) in
    ⊎_elim (λ x. x) (λ x. absurd (no_end r.section r.processor r.index p c.processor x)) (Contains-append_cases c.mine (end ∷ []) e all)
  where
    no_end : (s q : ℕ) (i : Index) (by : Maker) (p : ℕ) → Contains (End s p (Processor p) ∷ []) (Begin s q i by) → ⊥
    no_end s q i by p (zero, lt, is) = cc
    no_end s q i by p (suc k, lt, is) = omega arith

-- Cookies

pub number_grows : (a b : ℕ) → a ≤ b → number_word a ≤ number_word b
number_grows a b le = omega (arith, le)

-- a cookie is given
pub notes_from : (number : ℕ) (d d' : TableId) (n limit p : ℕ) (v w w' : View) → d' ≡ d → v.processors ≡ n → v.role ≡ Cpu p → w' ≡ lacking w → FindsNumber number w → Adds v (Note (cookie_at number) (Processor p)) w
    → Notes number (seen_as d n limit p v) (seen_as d' n limit p w')
notes_from number d d' n limit p v w w' same sized is cut found a = subst (λ (z : View). Notes number (seen_as d n limit p v) (seen_as d' n limit p z)) (sym cut) record {
  adds = adds_alone (Note (cookie_at number) (Processor p)) d d' n limit p v w (lacking w) same sized is refl a;
  current = found.current;
  since = let le = number_grows v.changes w.changes a.later in let now = found.current in omega (arith, le, now);
  small = found.room;
}

-- somebody asks after one
pub asks_from : (number cookie : ℕ) (answer : Bool) (d d' : TableId) (n limit p : ℕ) (v o j w : View) → d' ≡ d → v.processors ≡ n → v.role ≡ Cpu p → j ≡ informed v o → FindsNumber number w → answer ≡ done_at number cookie
    → Adds j (Ask cookie answer (Processor p)) w → Asks o.seen o.changes cookie answer (seen_as d n limit p v) (seen_as d' n limit p w)
asks_from number cookie answer d d' n limit p v o j w same sized is joined found told h =
    let adds = adds_event (Ask cookie answer (Processor p)) d d' n limit p v o j w same sized is joined h in record {
      number = number;
      adds = adds;
      current = found.current;
      since = let le = number_grows v.changes w.changes adds.later in let now = found.current in omega (arith, le, now);
      answer_is = ((λ t. done_true number cookie (sym told ∙ t)), (λ done. told ∙ done_is number cookie done));
      small = found.room;
    }

-- the same with nothing handed in
pub asks_alone : (number cookie : ℕ) (answer : Bool) (d d' : TableId) (n limit p : ℕ) (v w : View) → d' ≡ d → v.processors ≡ n → v.role ≡ Cpu p → FindsNumber number w → answer ≡ done_at number cookie
    → Adds v (Ask cookie answer (Processor p)) w → Asks v.seen v.changes cookie answer (seen_as d n limit p v) (seen_as d' n limit p w)
asks_alone number cookie answer d d' n limit p v w same sized is found told h =
    let adds = adds_alone (Ask cookie answer (Processor p)) d d' n limit p v w (lacking w) same sized is refl h in record {
      number = number;
      adds = adds;
      current = found.current;
      since = let le = number_grows v.changes w.changes h.later in let now = found.current in omega (arith, le, now);
      answer_is = ((λ t. done_true number cookie (sym told ∙ t)), (λ done. told ∙ done_is number cookie done));
      small = found.room;
    }

-- what is known alone is more than what nobody has seen
pub asks_unheard : {c d : CpuView} (cookie : ℕ) (answer : Bool) → Asks c.seen c.changes cookie answer c d → Asks [] 0 cookie answer c d
asks_unheard cookie answer a = record {
  number = a.number;
  adds = record { same = a.adds.same; before = a.adds.before; seen = a.adds.seen; since = a.adds.since; later = a.adds.later; covers = beginning_empty a.adds.before; not_before = omega arith; mine = a.adds.mine; steps = a.adds.steps; texts = a.adds.texts; history = a.adds.history };
  current = a.current;
  since = a.since;
  answer_is = a.answer_is;
  small = a.small;
}

-- an event that neither begins nor ends a section
pub locks_told : (p : ℕ) (i : Index) (e : Event) (mine after : List Event) → locks_at p i e ≡ false → after ≡ mine ++ e ∷ [] → locks p i after ≡ locks p i mine
locks_told p i e mine after none is = let c = locks_push p i mine e in let z : bit (locks_at p i e) ≡ 0 = ap bit none in ap (locks p i) is ∙ omega (arith, c, z)

pub unclosed_told : (e : Event) (mine after : List Event) → section_begun e ≡ None → ((s : ℕ) → ends s e ≡ false) → after ≡ mine ++ e ∷ [] → length (open_readings after) ≡ length (open_readings mine)
unclosed_told e mine after none unended is = ap (λ l. length (open_readings l)) is ∙ ap (λ l. length (filter (λ u. not (is_held u)) l)) (open_sections_plain mine e none unended)

pub rests_told : (v w : View) (e : Event) → v.right ≡ Nothing → w.right ≡ v.right → Adds v e w → IsAtRest w
rests_told v w e free same a = record { free = same ∙ free; told = a.told; sound = a.sound }

abbrev factor : Bool → ℕ
factor idle = if idle then 1 else 2

pub small_cookie : (n : ℕ) → n + 4 ≤ 2 ^ 61 → cookie_at n ≤ 2 ^ 61
small_cookie n room = dite (ℕ_discrete (n % 4) 0)
    (λ e. let x : factor (eqb (n % 4) 0) ≡ 1 = ap factor (eq-eqb (n % 4) 0 e) in omega (arith, e, room, x))
    (λ ne. let x : factor (eqb (n % 4) 0) ≡ 2 = ap factor (ne_eqb (n % 4) 0 ne) in omega (arith, ne, room, x))

pub whole_cookie : (n : ℕ) → cookie_at n % 4 ≡ 0
whole_cookie n = whole (periods_ended n + (if n % 4 == 0 then 1 else 2))
  where
    whole : (k : ℕ) → (4 * k) % 4 ≡ 0
    whole k = omega arith

-- who is told that a cookie is done knows that all that was open when it was given is closed
pub all_closed : (cookie : ℕ) (given before after : List Event) (by : Maker) → EndsWithNote cookie given → IsBeginning given before → after ≡ before ++ Ask cookie true by ∷ [] → IsLegal after → AllClosed given after
all_closed cookie given before after by noted since is legal s was_open still =
    let front : List Event = noted.before in
    let note : Event = Note cookie noted.by in
    let ask : Event = Ask cookie true by in
    let split : before ≡ front ++ note ∷ since.rest = since.whole ∙ (ap (λ l. l ++ since.rest) noted.whole ∙ append_assoc front (note ∷ []) since.rest) in
    let whole : after ≡ front ++ note ∷ since.rest ++ ask ∷ [] = is ∙ ap (λ l. l ++ ask ∷ []) split in
    let opened : IsOpen front s = unplain s front note refl refl (subst (λ l. IsOpen l s) noted.whole was_open) in
    let now : IsOpen (front ++ note ∷ since.rest) s = subst (λ l. IsOpen l s) split (unplain s before ask refl refl (subst (λ l. IsOpen l s) is still)) in
    law front since.rest [] cookie cookie noted.by by (subst IsLegal whole legal) (omega arith) s opened now
  where
    -- an event that is no Begin and no End opens and closes nothing
    unplain : (s : ℕ) (history : List Event) (e : Event) → begins s e ≡ false → ends s e ≡ false → IsOpen (history ++ e ∷ []) s → IsOpen history s
    unplain s history e no_begin no_end o = let a = begins_of_push s history e in let b = ends_of_push s history e in let x : bit (begins s e) ≡ 0 = ap bit no_begin in let some = o.0 in let none = o.1 in
        (omega (arith, a, x, some), omega (arith, b, none))
