-- How slots of a cell stand, as the history goes on.
use Rattle.std.proofs.Common.{◌≡◌, ℕ, ◌+◌, ◌%◌, ◌<◌, ◌≤◌, ◌≢◌, Bool, true, false, List, [], ◌∷◌, ◌++◌, Option, Some, None, zero, suc, count_by, get_or, set, length, refl, sym, ap, ◌∙◌, subst, append_assoc, length-append, length-set, ne_eqb, eqb, ◌&&◌, arith, get_or-set_other, get_or-set_same}
use Rattle.std.proofs.lemmas.List.{get_or_push, get_or_append_left}
use Rattle.atomic_table.specs.Seated.{TableId}
use Rattle.sections.specs.Glossary.{WriterView, SlotView, new_writer, AreNewWriters, Standing, IsOwn, IsSameWriter, is_out, IsRetired, Stands}
use mathlib.Core.Logic.{dite}
use native.Mathlib.Decide.{ℕ_discrete}
use Rattle.onedom.specs.declared.event.Maker.{Maker}
use Rattle.onedom.specs.declared.event.Event.{Event}
use Rattle.onedom.specs.declared.event.Event.TheVariants.{Note, Ask, Put}
use Rattle.onedom.specs.Histories.{slot_of, version_of, finds_of, IsClear, MayFollow, IsLegal, IsBeginning}
use Rattle.onedom.proofs.CallerLemmas.{bit, count_cons, beginning_append, beginning_trans, legal_beginning, legal_after_append, clear_until_put, resting_on, unfound_on, quiet, versions_up, reclaim}
use Rattle.sections.specs.declared.writer.Standing.TheVariants.{Blank, Out, Current, Retired}
use Rattle.sections.proofs.Writing.{slot_unput, clear_quiet, slot_quiet}

-- a slot that is not current is neither put nor found where nothing is put into its cell
unfound_quiet : (c x : ℕ) (h log : List Event) → IsBeginning h log → IsLegal log → version_of c log ≡ version_of c h → x ≢ slot_of c h → ((s : ℕ) → finds_of s c x log ≡ finds_of s c x h) × (x ≢ slot_of c log)
unfound_quiet c x h log b legal same rests = subst (λ (l : List Event). ((s : ℕ) → finds_of s c x l ≡ finds_of s c x h) × (x ≢ slot_of c l)) (sym b.whole)
    (quiet (λ l. ((s : ℕ) → finds_of s c x l ≡ finds_of s c x h) × (x ≢ slot_of c l)) c
    (λ l e le may miss was. (λ s. unfound_on s c x l e may was.1 ∙ was.0 s, resting_on c x l e (slot_unput c x e miss) was.1))
    h b.rest (subst IsLegal b.whole legal) (ap (version_of c) (sym b.whole) ∙ same) (λ s. refl, rests))

pub retired_quiet : (c x n : ℕ) (h log : List Event) → IsBeginning h log → IsLegal log → version_of c log ≡ version_of c h → IsRetired h c x n → IsRetired log c x n
retired_quiet c x n h log b legal same r = let later = unfound_quiet c x h log b legal same r.resting in record {
  before = r.before;
  by = r.by;
  since = r.since ++ b.rest;
  whole = b.whole ∙ (ap (λ l. l ++ b.rest) r.whole ∙ append_assoc r.before (Note n r.by ∷ r.since) b.rest);
  unfound = λ s. later.0 s ∙ r.unfound s;
  resting = later.1;
  multiple = r.multiple;
}

pub stands_quiet : (c x : ℕ) (h log : List Event) → IsBeginning h log → IsLegal log → version_of c log ≡ version_of c h → (t : Standing) → Stands h c x t → Stands log c x t
stands_quiet c x h log b legal same Current s = s ∙ sym (slot_quiet c h log b legal same)
stands_quiet c x h log b legal same (Retired n) s = retired_quiet c x n h log b legal same s
stands_quiet c x h log b legal same _ s = clear_quiet c x h log b legal same s

-- Lists of standings

pub count_set : (p : Standing → Bool) (xs : List Standing) (i : ℕ) (y d : Standing) → i < length xs → count_by p (set xs i y) + bit (p (get_or xs i d)) ≡ count_by p xs + bit (p y)
count_set p [] i y d lt = absurd (omega (arith, lt))
count_set p (x ∷ xs) zero y d lt = let a = count_cons p y xs in let b = count_cons p x xs in omega (arith, a, b)
count_set p (x ∷ xs) (suc i) y d lt = let r = count_set p xs i y d (omega (arith, lt)) in let a = count_cons p x (set xs i y) in let b = count_cons p x xs in omega (arith, r, a, b)

-- the standing of a slot is another
pub stands_set : (seen : List Event) (c slots : ℕ) (xs : List Standing) (x : ℕ) (t : Standing) → x < length xs → ((z : ℕ) → z < slots → Stands seen c z (get_or xs z Blank)) → Stands seen c x t → (z : ℕ) → z < slots → Stands seen c z (get_or (set xs x t) z Blank)
stands_set seen c slots xs x t long all here z lz = dite (ℕ_discrete z x)
    (λ e. subst (λ (u : ℕ × Standing). Stands seen c u.0 u.1) (λ k. (sym e k, sym (ap (λ n. get_or (set xs x t) n Blank) e ∙ get_or-set_same xs x t Blank long) k)) here)
    (λ n. subst (λ (u : Standing). Stands seen c z u) (sym (get_or-set_other xs x z t Blank n)) (all z lz))

-- a slot that was given out is still out where no standing has changed
pub own_kept : (w w' : WriterView) (s s' : SlotView) → IsSameWriter w w' → w'.standings ≡ w.standings → s' ≡ s → IsOwn w s → IsOwn w' s'
own_kept w w' s s' same standings slot own = subst (λ (z : SlotView). IsOwn w' z) (sym slot) record {
  domain = own.domain ∙ sym same.domain;
  cell = own.cell ∙ sym same.cell;
  inside = subst (λ (n : ℕ). s.slot < n) (sym same.slots) own.inside;
  out = ap (λ l. get_or l s.slot Blank) standings ∙ own.out;
}

pub retired_out : {n : ℕ} → Retired n ≡ Out → ⊥
retired_out e = cc

-- the homes of the slots that lie with the writer
abbrev pub HasHomes : TableId → ℕ → List Standing → List (Option TableId) → Type 0
HasHomes domain slots xs homes = (x : ℕ) → x < slots → get_or xs x Blank ≢ Out → get_or homes x None ≡ Some domain

-- of these two slots, one has its home again, and no other comes to be out
pub homes_back : (domain : TableId) (slots x : ℕ) (xs ys : List Standing) (homes : List (Option TableId)) → x < length homes → ((z : ℕ) → z < slots → z ≢ x → get_or ys z Blank ≢ Out → get_or xs z Blank ≢ Out)
    → HasHomes domain slots xs homes → HasHomes domain slots ys (set homes x (Some domain))
homes_back domain slots x xs ys homes lx only h z lz there = dite (ℕ_discrete z x)
    (λ e. ap (λ n. get_or (set homes x (Some domain)) n None) e ∙ get_or-set_same homes x (Some domain) None lx)
    (λ n. get_or-set_other homes x z (Some domain) None n ∙ h z lz (only z lz n there))

-- another standing, where neither is out
pub homes_stay : (domain : TableId) (slots x : ℕ) (t : Standing) (xs : List Standing) (homes : List (Option TableId)) → x < length xs → get_or xs x Blank ≢ Out → HasHomes domain slots xs homes → HasHomes domain slots (set xs x t) homes
homes_stay domain slots x t xs homes lx was h z lz there = dite (ℕ_discrete z x)
    (λ e. h z lz (λ o. was (ap (λ n. get_or xs n Blank) (sym e) ∙ o)))
    (λ n. h z lz (λ o. there (get_or-set_other xs x z t Blank n ∙ o)))

-- A put

and_false : (a : Bool) → (a && false) ≡ false
and_false true = refl
and_false false = refl

-- the other slots of the cell
stands_put : (c z x v : ℕ) (by : Maker) (h : List Event) → IsLegal h → MayFollow h (Put c x v by) → z ≢ x → z ≢ slot_of c h → (t : Standing) → Stands h c z t → Stands (h ++ Put c x v by ∷ []) c z t
stands_put c z x v by h legal may nx ns Blank s = clear_until_put h (Put c x v by) c z legal may (ap (λ b. eqb c c && b) (ne_eqb x z (λ e. nx (sym e))) ∙ and_false (eqb c c)) s
stands_put c z x v by h legal may nx ns Out s = clear_until_put h (Put c x v by) c z legal may (ap (λ b. eqb c c && b) (ne_eqb x z (λ e. nx (sym e))) ∙ and_false (eqb c c)) s
stands_put c z x v by h legal may nx ns Current s = absurd (ns s)
stands_put c z x v by h legal may nx ns (Retired n) r = record {
  before = r.before;
  by = r.by;
  since = r.since ++ Put c x v by ∷ [];
  whole = ap (λ l. l ++ Put c x v by ∷ []) r.whole ∙ append_assoc r.before (Note n r.by ∷ r.since) (Put c x v by ∷ []);
  unfound = λ s. unfound_on s c z h (Put c x v by) may r.resting ∙ r.unfound s;
  resting = resting_on c z h (Put c x v by) (ap (λ b. eqb c c && b) (ne_eqb x z (λ e. nx (sym e))) ∙ and_false (eqb c c)) r.resting;
  multiple = r.multiple;
}

-- from what the writer had seen, over its put, to what it has seen then
pub stands_over : (c z x v : ℕ) (by : Maker) (old before new : List Event) → IsLegal new → IsBeginning old before → version_of c before ≡ version_of c old → IsBeginning (before ++ Put c x v by ∷ []) new → version_of c new ≡ version_of c (before ++ Put c x v by ∷ [])
    → z ≢ x → z ≢ slot_of c old → (t : Standing) → Stands old c z t → Stands new c z t
stands_over c z x v by old before new legal since same on later nx ns t s =
    let put_legal : IsLegal (before ++ Put c x v by ∷ []) = legal_beginning on legal in
    let first : IsLegal before = legal_beginning (beginning_append before (Put c x v by ∷ [])) put_legal in
    let may : MayFollow before (Put c x v by) = (legal_after_append [] before (Put c x v by ∷ []) put_legal).1.0 in
    let here = stands_quiet c z old before since first same t s in
    stands_quiet c z (before ++ Put c x v by ∷ []) new on legal later t (stands_put c z x v by before first may nx (λ e. ns (e ∙ slot_quiet c old before since first same)) t here)

-- a slot that is not current any more when a cookie is given
pub retires : (c x n : ℕ) (by : Maker) (put before new : List Event) → IsLegal new → IsBeginning put before → IsBeginning (before ++ Note n by ∷ []) new → version_of c new ≡ version_of c put → x ≢ slot_of c put → n % 4 ≡ 0 → IsRetired new c x n
retires c x n by put before new legal since on same rests multiple =
    let upto : IsBeginning before new = beginning_trans (beginning_append before (Note n by ∷ [])) on in
    let first : IsLegal before = legal_beginning upto legal in
    let low : version_of c put ≤ version_of c before = subst (λ (l : List Event). version_of c put ≤ version_of c l) (sym since.whole) (versions_up c put since.rest (subst IsLegal since.whole first)) in
    let high : version_of c before ≤ version_of c new = subst (λ (l : List Event). version_of c before ≤ version_of c l) (sym upto.whole) (versions_up c before upto.rest (subst IsLegal upto.whole legal)) in
    let there : version_of c before ≡ version_of c put = omega (arith, low, high, same) in
    let q = unfound_quiet c x before new upto legal (omega (arith, low, high, same)) (λ e. rests (e ∙ slot_quiet c put before since first there)) in record {
      before = before;
      by = by;
      since = on.rest;
      whole = on.whole ∙ append_assoc before (Note n by ∷ []) on.rest;
      unfound = q.0;
      resting = q.1;
      multiple = multiple;
    }

pub put_stands : (seen : List Event) (c slots : ℕ) (xs : List Standing) (cur x n : ℕ) → cur < length xs → x < length xs → x ≢ cur → ((z : ℕ) → z < slots → z ≢ x → z ≢ cur → Stands seen c z (get_or xs z Blank)) → IsRetired seen c cur n → x ≡ slot_of c seen
    → (z : ℕ) → z < slots → Stands seen c z (get_or (set (set xs cur (Retired n)) x Current) z Blank)
put_stands seen c slots xs cur x n lc lx apart others retired now z lz = dite (ℕ_discrete z x)
    (λ e. subst (λ (u : ℕ × Standing). Stands seen c u.0 u.1) (λ k. (sym e k, sym (ap (λ m. get_or (set (set xs cur (Retired n)) x Current) m Blank) e ∙ get_or-set_same (set xs cur (Retired n)) x Current Blank (let l = length-set xs cur (Retired n) in omega (arith, l, lx))) k)) now)
    (λ ne. subst (λ (u : Standing). Stands seen c z u) (sym (get_or-set_other (set xs cur (Retired n)) x z Current Blank ne)) (dite (ℕ_discrete z cur)
    (λ e. subst (λ (u : ℕ × Standing). Stands seen c u.0 u.1) (λ k. (sym e k, sym (ap (λ m. get_or (set xs cur (Retired n)) m Blank) e ∙ get_or-set_same xs cur (Retired n) Blank lc) k)) retired)
    (λ nc. subst (λ (u : Standing). Stands seen c z u) (sym (get_or-set_other xs cur z (Retired n) Blank nc)) (others z lz ne nc))))

pub put_count : (xs : List Standing) (cur x n : ℕ) → cur < length xs → x < length xs → x ≢ cur → get_or xs x Blank ≡ Out → count_by is_out (set (set xs cur (Retired n)) x Current) + 1 ≤ count_by is_out xs
put_count xs cur x n lc lx apart out = let l = length-set xs cur (Retired n) in
    let a = count_set is_out xs cur (Retired n) Blank lc in let b = count_set is_out (set xs cur (Retired n)) x Current Blank (omega (arith, l, lx)) in
    let one : bit (is_out (get_or (set xs cur (Retired n)) x Blank)) ≡ 1 = ap (λ t. bit (is_out t)) (get_or-set_other xs cur x (Retired n) Blank apart ∙ out) in omega (arith, a, b, one)

pub out_clear : (seen : List Event) (c x : ℕ) (t : Standing) → t ≡ Out → Stands seen c x t → IsClear seen c x
out_clear seen c x t is s = subst (λ (u : Standing). Stands seen c x u) is s

-- Reclamation

pub reclaimed : (c x n : ℕ) (asker : Maker) (old before new : List Event) → IsRetired old c x n → IsBeginning old before → IsBeginning (before ++ Ask n true asker ∷ []) new → IsLegal new → IsBeginning old new → version_of c new ≡ version_of c old → IsClear new c x
unfolding retired_quiet
reclaimed c x n asker old before new r since on legal all same =
    let later = retired_quiet c x n old new all legal same r in
    let between : List Event = r.since ++ since.rest in
    let front : before ≡ r.before ++ Note n r.by ∷ between = since.whole ∙ (ap (λ l. l ++ since.rest) r.whole ∙ append_assoc r.before (Note n r.by ∷ r.since) since.rest) in
    let whole : new ≡ (r.before ++ Note n r.by ∷ between) ++ Ask n true asker ∷ on.rest = on.whole ∙ (append_assoc before (Ask n true asker ∷ []) on.rest ∙ ap (λ l. l ++ Ask n true asker ∷ on.rest) front) in
    subst (λ (l : List Event). IsClear l c x) (sym whole)
    (reclaim r.before between on.rest n n c x r.by asker (subst IsLegal whole legal) (omega arith) (λ s. ap (finds_of s c x) (sym whole) ∙ later.unfound s) (λ e. later.resting (e ∙ ap (slot_of c) (sym whole))))

pub count_less : (xs : List Standing) (x : ℕ) → x < length xs → count_by is_out (set xs x Blank) ≤ count_by is_out xs
count_less xs x lx = let a = count_set is_out xs x Blank Blank lx in omega (arith, a)

-- A new cell

abbrev pub new_standings : List Standing
new_standings = Current ∷ Blank ∷ Blank ∷ Blank ∷ Blank ∷ Blank ∷ Blank ∷ Blank ∷ []

clear_new : (c x : ℕ) → 0 < x → IsClear [] c x
clear_new c x some = record { resting = λ e. omega (arith, e, some); unread = λ s is_open. refl }

pub new_stands : (c x : ℕ) → x < 8 → Stands [] c x (get_or new_standings x Blank)
new_stands c zero lt = refl
new_stands c (suc zero) lt = clear_new c (suc zero) (omega arith)
new_stands c (suc (suc zero)) lt = clear_new c (suc (suc zero)) (omega arith)
new_stands c (suc (suc (suc zero))) lt = clear_new c (suc (suc (suc zero))) (omega arith)
new_stands c (suc (suc (suc (suc zero)))) lt = clear_new c (suc (suc (suc (suc zero)))) (omega arith)
new_stands c (suc (suc (suc (suc (suc zero))))) lt = clear_new c (suc (suc (suc (suc (suc zero))))) (omega arith)
new_stands c (suc (suc (suc (suc (suc (suc zero)))))) lt = clear_new c (suc (suc (suc (suc (suc (suc zero)))))) (omega arith)
new_stands c (suc (suc (suc (suc (suc (suc (suc zero))))))) lt = clear_new c (suc (suc (suc (suc (suc (suc (suc zero))))))) (omega arith)
new_stands c (suc (suc (suc (suc (suc (suc (suc (suc x)))))))) lt = absurd (omega (arith, lt))

pub no_writers : (domain : TableId) (slots : ℕ) (writers : List WriterView) → writers ≡ [] → AreNewWriters domain 0 slots writers
no_writers domain slots writers is = record { count = ap length is; each = λ k d lt. absurd (omega (arith, lt)) }

pub writer_pushed : (domain : TableId) (k slots : ℕ) (writers after : List WriterView) (new : WriterView) → AreNewWriters domain k slots writers → new ≡ new_writer domain k slots → after ≡ writers ++ new ∷ [] → AreNewWriters domain (k + 1) slots after
writer_pushed domain k slots writers after new h is pushed = let n = h.count in record {
  count = ap length pushed ∙ (length-append writers (new ∷ []) ∙ omega (arith, n));
  each = λ j d lt. ap (λ l. get_or l j d) pushed ∙ dite (ℕ_discrete j k)
      (λ e. get_or_push writers new d j (n ∙ sym e) ∙ (is ∙ ap (λ z. new_writer domain z slots) (sym e)))
      (λ ne. get_or_append_left writers (new ∷ []) d j (omega (arith, n, lt, ne)) ∙ h.each j d (omega (arith, lt, ne)));
}
