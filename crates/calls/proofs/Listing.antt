-- The list's type keeps what it says of its fields.
use Rattle.std.proofs.Common.{◌≡◌, ℕ, suc, ◌+◌, ◌<◌, ◌≤◌, ◌↔◌, IsTrue, Bool, true, false, List, [], ◌∷◌, ◌++◌, All, Option, Some, None, length, drop, refl, sym, ap, ◌∙◌, subst, arith}
use Rattle.std.specs.Prelude.{IsSome}
use Rattle.std.proofs.Math.Seq.{drop-append_seam}
use Rattle.std.proofs.lemmas.List.{length-append}
use Rattle.onedom.specs.Histories.{IsBeginning}
use Rattle.sections.specs.Glossary.{CpuView, SightView, AsksHowFar}
use Rattle.segs.specs.MarkedList.{Mark, Done, Next, marked, remarked, awaited, number_given, next_becomes, assigned, reached, advanced}
use Rattle.calls.specs.Glossary.{Entry, Known, finished_place, most_calls, some_out, last_number, readied, many_ready, list_seat, batch_seat, known_taken, Place, IsListSeat, IsBatchSeat, known_in, next_known, first_known, AreWaiting, wrapped, GoesOut, ListView, BatchView, IsLast, IsList, IsTaken}
use Rattle.calls.specs.declared.view.ListRight.TheVariants.{OfList}
use Rattle.calls.specs.declared.view.BatchRight.TheVariants.{OfBatch}
use Rattle.calls.specs.declared.list.List.TheInside as list
use Rattle.calls.proofs.Wrapping.{wrapped_push, assigned_wrapped, advanced_wrapped, split_wrapped, items_length}
use Rattle.calls.proofs.Keeping.{moved_waiting, last_waiting, remarked_each, since_each}
use Rattle.calls.proofs.Lining.{length_readied}

module _ {J : Type 0} where
  pub list_seat_is : (seat : Place J) (p : ℕ) (k : Known J) → seat.me ≡ (list_seat (OfList p k), []) → IsListSeat seat.table_id p seat
  list_seat_is seat p k h = record { seated = refl; me = h ∙ ap (λ m. (list_seat (OfList p (known_in m.0.client.list)), [])) (sym h) }

module _ {J A : Type 0} where
  -- what else is always true of a list
  pub record IsFed (l : list.Inside J A) (k : Known J) : Type 0 where
    pub one_domain : l.given.domain ≡ l.sight.domain
    pub key : l.outlet.key ≡ Some record { domain = l.sight.domain; tallies = l.seat.table_id; processor = l.processor }
    pub last : IsLast l.outlet.taken l.given
    pub arrived : l.arrived ≡ length l.outlet.taken
    pub numbered : l.arrived ≡ next_known k
    pub few : l.arrived ≤ k.queued
    pub most : k.queued ≤ most_calls
    pub there : finished_place l.processor < l.seat.table_id.words

  -- the list's right says this
  pub list_from : (l : list.Inside J A) (k : Known J) → l.seat.me ≡ (list_seat (OfList l.processor k), []) → l.waiting.entries ≡ wrapped k.waiting → AreWaiting l.given l.sight k.waiting → (IsTrue l.out ↔ IsSome k.out) → IsFed l k → IsList l
  list_from l k me is waiting out fed = let known : known_in l.seat.me.0.client.list ≡ k = ap (λ m. known_in m.0.client.list) me in record {
    seated = list_seat_is l.seat l.processor k me;
    wrapping = is ∙ ap (λ (z : Known J). wrapped z.waiting) (sym known);
    waiting = subst (λ (z : Known J). AreWaiting l.given l.sight z.waiting) (sym known) waiting;
    one_domain = fed.one_domain;
    key = fed.key;
    last = fed.last;
    arrived = fed.arrived;
    numbered = fed.numbered ∙ ap next_known (sym known);
    few = subst (λ (z : Known J). l.arrived ≤ z.queued) (sym known) fed.few;
    most = subst (λ (z : Known J). z.queued ≤ most_calls) (sym known) fed.most;
    out = subst (λ (z : Known J). IsTrue l.out ↔ IsSome z.out) (sym known) out;
    there = fed.there;
  }

module _ {J : Type 0} where
  pub entries_queued : (old new : List (Option (Entry J) × Mark)) (u : List (Entry J × Mark)) (e : Entry J) (n : ℕ) → old ≡ wrapped u → new ≡ assigned n (old ++ (Some e, Next) ∷ []) → new ≡ wrapped (assigned n (u ++ (e, Next) ∷ []))
  entries_queued old new u e n was is = is ∙ (ap (λ (z : List (Option (Entry J) × Mark)). assigned n (z ++ (Some e, Next) ∷ [])) was ∙ (ap (assigned n) (sym (wrapped_push u e)) ∙ assigned_wrapped n (u ++ (e, Next) ∷ [])))

  pub entries_advanced : (old new : List (Option (Entry J) × Mark)) (u : List (Entry J × Mark)) (n : ℕ) → old ≡ wrapped u → new ≡ advanced n old → new ≡ wrapped (advanced n u)
  entries_advanced old new u n was is = is ∙ (ap (advanced n) was ∙ advanced_wrapped n u)

  pub entries_assigned : (old new : List (Option (Entry J) × Mark)) (u : List (Entry J × Mark)) (n : ℕ) → old ≡ wrapped u → new ≡ assigned n old → new ≡ wrapped (assigned n u)
  entries_assigned old new u n was is = is ∙ (ap (assigned n) was ∙ assigned_wrapped n u)

module _ {J : Type 0} where
  pub batch_seat_is : (seat : Place J) (p f n : ℕ) → seat.me ≡ (batch_seat (OfBatch p f n), []) → IsBatchSeat seat.table_id p n seat
  batch_seat_is seat p f n h = record { seated = refl; me = h ∙ ap (λ m. (batch_seat (OfBatch p (first_known m.0.client.batch) n), [])) (sym h) }

-- whether a batch is out, where none is
pub flag_as : (b : Bool) (o : Option ℕ) → (IsTrue b ↔ IsSome o) → o ≡ None → (IsTrue b ↔ IsSome (some_out 0))
flag_as b o h none = subst (λ (z : Option ℕ). IsTrue b ↔ IsSome z) none h

-- whether a batch is out
pub none_out : (b : Bool) (o : Option ℕ) → (IsTrue b ↔ IsSome o) → b ≡ false → o ≡ None
none_out b None h is = refl
none_out b (Some n) h is = let t : b ≡ true = h.1 refl in let wrong : false ≡ true = sym is ∙ t in cc

pub is_out : (b : Bool) (o : Option ℕ) → (IsTrue b ↔ IsSome o) → b ≡ true → IsSome o
is_out b o h is = h.0 is

pub not_out : (o : Option ℕ) → o ≡ None → (IsTrue false ↔ IsSome o)
not_out o e = subst (λ (z : Option ℕ). IsTrue false ↔ IsSome z) (sym e) ((λ t. t), (λ t. t))

module _ {J : Type 0} where
  -- what a take did to the entries of a list
  pub record IsMoved (u : List (Entry J × Mark)) (g s' : SightView) (gone : List (Entry J)) (rest : List (Entry J × Mark)) : Type 0 where
    pub waiting : AreWaiting g s' (marked Done gone ++ rest)
    pub since : All (λ (e : Entry J × Mark). IsBeginning e.0.cookie.seen g.seen) (marked Done gone ++ rest)
    pub long : length gone + length rest ≡ length u

  length_marked : (l : List (Entry J)) → length (marked Done l) ≡ length l
  length_marked [] = refl
  length_marked (x ∷ xs) = ap suc (length_marked xs)

  -- the last one is the same
  pub last_remarked : (change : Mark → Mark) (l : List (Entry J × Mark)) → last_number (remarked change l) ≡ last_number l
  last_remarked change [] = refl
  last_remarked change (e ∷ []) = refl
  last_remarked change (e ∷ f ∷ es) = last_remarked change (f ∷ es)

  pub moves : (u : List (Entry J × Mark)) (g s s' : SightView) (c d : CpuView) (n : ℕ) (gone : List (Entry J)) (rest : List (Entry J × Mark)) → AreWaiting g s u → c.domain ≡ s.domain → AsksHowFar n s c d s' → readied n u ≡ marked Done gone ++ rest → IsMoved u g s' gone rest
  moves u g s s' c d n gone rest h domain asks order =
      let adv : List (Entry J × Mark) = advanced n u in
      let waiting : AreWaiting g s' (readied n u) = subst (λ (k : ℕ). AreWaiting g s' (assigned k adv)) (last_remarked (reached n) u) (last_waiting g s' adv (moved_waiting n g s s' c d u domain asks h)) in
      let since : All (λ (e : Entry J × Mark). IsBeginning e.0.cookie.seen g.seen) (readied n u) = remarked_each (λ (e : Entry J). IsBeginning e.cookie.seen g.seen)
      (next_becomes (number_given (last_number u) (awaited adv))) adv (remarked_each (λ (e : Entry J). IsBeginning e.cookie.seen g.seen) (reached n) u (since_each g s u h)) in
      record {
        waiting = subst (AreWaiting g s') order waiting;
        since = subst (λ (z : List (Entry J × Mark)). All (λ (e : Entry J × Mark). IsBeginning e.0.cookie.seen g.seen) z) order since;
        long = ap (λ (k : ℕ). k + length rest) (sym (length_marked gone)) ∙ (sym (length-append (marked Done gone) rest) ∙ (ap length (sym order) ∙ length_readied n u));
      }

  -- what went out of a list in options
  pub goes_out : (number max : ℕ) (u : List (Entry J × Mark)) (ready : List (Option (Entry J) × Mark)) (items : List (Option (Entry J))) (left : List (Option (Entry J) × Mark)) → ready ≡ wrapped (readied number u) → ready ≡ marked Done items ++ left → length items ≡ many_ready max (readied number u)
      → GoesOut number max u items left
  goes_out number max u ready items left is order many = let s = split_wrapped items left (readied number u) (sym is ∙ order) in record {
    gone = s.gone;
    items_are = s.items_are;
    rest = s.rest;
    left_is = s.left_is;
    in_order = s.whole;
    many = sym (items_length items s.gone s.items_are) ∙ many;
  }

  -- what is left is what is behind those that went out
  pub rest_behind : (gone : List (Entry J)) (rest ready : List (Entry J × Mark)) → ready ≡ marked Done gone ++ rest → rest ≡ drop (length gone) ready
  rest_behind gone rest ready order = sym (drop-append_seam (marked Done gone) rest) ∙ (ap (λ (k : ℕ). drop k (marked Done gone ++ rest)) (length_marked gone) ∙ ap (drop (length gone)) (sym order))

  -- the list after the take
  pub taken_is_known : (number max : ℕ) (k : Known J) (gone : List (Entry J)) (rest : List (Entry J × Mark)) → readied number k.waiting ≡ marked Done gone ++ rest → length gone ≡ many_ready max (readied number k.waiting)
      → known_taken number max k ≡ record k { out = some_out (length gone); moved = 0; waiting = rest }
  taken_is_known number max k gone rest order many = λ i. record k { out = some_out (sym many i); moved = 0; waiting = (ap (λ (n : ℕ). drop n (readied number k.waiting)) (sym many) ∙ sym (rest_behind gone rest (readied number k.waiting) order)) i }

  pub taken_none : (l l' : ListView J) (gone : List (Entry J)) → length gone ≡ 0 → l'.out ≡ None → IsTaken l gone None l'
  taken_none l l' [] long h = h
  taken_none l l' (x ∷ xs) long h = absurd (omega arith)

  pub taken_some : (l l' : ListView J) (gone : List (Entry J)) (b : BatchView J) → (length gone ≡ 0 → ⊥) → b ≡ record { tallies = l.tallies; processor = l.processor; first = l.finished; count = length gone; entries = gone } → l'.out ≡ Some (length gone) → IsTaken l gone (Some b) l'
  taken_some l l' [] b long is h = absurd (long refl)
  taken_some l l' (x ∷ xs) b long is h = (is, h)
