-- What is always true of the end of a line at which calls come in, and what is moved from it into a list.
use Rattle.std.proofs.Common.{◌≡◌, ℕ, suc, ◌+◌, ◌≤◌, ◌⊎◌, false, List, [], ◌∷◌, ◌++◌, All, Option, length, inl, inr, ⊎_elim, refl, sym, ap, ◌∙◌, subst, arith}
use Rattle.std.proofs.lemmas.List.{length-append}
use Rattle.std.proofs.lemmas.List.Elements.{All-head, All-tail, All-push, All-weaker}
use Rattle.atomic_table.specs.Seated.{TableId}
use Rattle.onedom.proofs.CallerLemmas.{beginning_refl, beginning_trans}
use Rattle.sections.specs.Sights.{SightView}
use Rattle.intake.specs.Views.{LazyInletView}
use Rattle.intake.specs.Rule.{MayFollow}
use Rattle.calls.specs.Glossary.{Entry, Arrival, Act, View, list_seat, IsCallPlace, with_moved, calls_in, is_queue, ListKey, ListView, next_of, GoesOn, IsGiven, Follows, entries_in, MovesOne, Came, IsIntake, IsLast}
use Rattle.calls.specs.declared.view.ListRight.TheVariants.{OfCall}
use Rattle.calls.specs.Plays.{Does}
use Rattle.segs.specs.MarkedList.{Mark}
use Rattle.calls.proofs.Lining.{length_moved, all_moved_last}
use Rattle.calls.proofs.Once.{calls_unqueued, same_calls}

pub goes_on_refl : (s : SightView) → GoesOn s s
goes_on_refl s = record { domain = refl; since = beginning_refl s.seen; later = omega arith }

pub goes_on_trans : (s t u : SightView) → GoesOn s t → GoesOn t u → GoesOn s u
goes_on_trans s t u a b = record { domain = b.domain ∙ a.domain; since = beginning_trans a.since b.since; later = let x = a.later in let y = b.later in omega (arith, x, y) }

module _ {J : Type 0} where
  -- a step that queues nothing leaves the maker's own calls as they were
  pub same_own_calls : (p : ℕ) (act : Act J) (v w : View J) → Does p act v w → is_queue act ≡ false → calls_in p w.seen ≡ calls_in p v.seen
  same_own_calls p act v w d none = ap (calls_in p) d.seen ∙ (calls_unqueued p p act d.before none ∙ same_calls p d.before v.seen d.own)

  pub length_in : (l : List (Arrival J)) → length (entries_in l) ≡ length l
  length_in [] = refl
  length_in (x ∷ xs) = ap suc (length_in xs)

  pub entries_push : (l : List (Arrival J)) (x : Arrival J) → entries_in (l ++ x ∷ []) ≡ entries_in l ++ x.entry ∷ []
  entries_push [] x = refl
  entries_push (y ∷ ys) x = ap (λ z. y.entry ∷ z) (entries_push ys x)

module _ {J : Type 0} {t : TableId} {p : ℕ} {inlet : LazyInletView (Arrival J) ListKey} {sight : SightView} {cs : List (Entry J)} where
  -- the same calls, as another one says it
  pub intake_as : {t' : TableId} {cs' : List (Entry J)} → IsIntake t p inlet sight cs → t' ≡ t → cs' ≡ cs → IsIntake t' p inlet sight cs'
  intake_as h table calls = subst (λ (z : TableId × List (Entry J)). IsIntake z.0 p inlet sight z.1) (λ i. (sym table i, sym calls i)) h

  -- the sight has gone on
  pub intake_later : {sight' : SightView} → IsIntake t p inlet sight cs → GoesOn sight sight' → IsIntake t p inlet sight' cs
  intake_later {sight'} h on = record {
    key = subst (λ (d : TableId). inlet.key ≡ Rattle.std.specs.Prelude.Some record { domain = d; tallies = t; processor = p }) (sym on.domain) h.key;
    pushed = h.pushed;
    before = All-weaker (λ (y : Arrival J). GoesOn y.sight sight) (λ (y : Arrival J). GoesOn y.sight sight') (λ y k. goes_on_trans y.sight sight sight' k on) inlet.pushed h.before;
  }

module _ {J : Type 0} where
  none_long : (u : List (Entry J × Mark)) → length u ≡ 0 → u ≡ []
  none_long [] e = refl
  none_long (x ∷ xs) e = absurd (omega arith)

  -- where something waits, the next one's queuer had seen what the queuer of the last one had
  pub comes_behind : (key : ListKey) (taken : List (Arrival J)) (g : SightView) (u : List (Entry J × Mark)) (x : Arrival J) → IsLast taken g → length u ≤ length taken → Follows key taken x → (u ≡ []) ⊎ GoesOn g x.sight
  comes_behind key taken g u x last few f = ⊎_elim
      (λ (none : taken ≡ []). inl (none_long u (let long = ap length none in omega (arith, long, few))))
      (λ (t : (front : List (Arrival J)) × (y : Arrival J) × (taken ≡ front ++ y ∷ []) × (g ≡ y.sight)). inr (subst (λ (z : SightView). GoesOn z x.sight) (sym t.3)
      (last_of t.0 t.1 (subst (λ (z : List (Arrival J)). All (λ (y : Arrival J). GoesOn y.sight x.sight) z) t.2 f.later))))
      last
    where
      last_of : (front : List (Arrival J)) (y : Arrival J) → All (λ (z : Arrival J). GoesOn z.sight x.sight) (front ++ y ∷ []) → GoesOn y.sight x.sight
      last_of [] y all = All-head (λ (z : Arrival J). GoesOn z.sight x.sight) y [] all
      last_of (z ∷ zs) y all = last_of zs y (All-tail (λ (w : Arrival J). GoesOn w.sight x.sight) z (zs ++ y ∷ []) all)

-- Lists that grow

module _ {J : Type 0} where
  pub came_none : (l l' : ListView J) → l' ≡ record l { counted = l'.counted } → Came l l'
  came_none l l' is = record {
    came = [];
    is = is ∙ (λ i. record l { counted = l'.counted; moved = (let e : l.moved ≡ l.moved + 0 = omega arith in e) i; entries = l.entries; given = ap (λ (z : ListView J). z.given) (sym is) i });
  }

  pub came_more : (l m n : ListView J) → Came l m → MovesOne m n → Came l n
  came_more l m n a b =
      let counted : n.counted ≡ m.counted = ap (λ (z : ListView J). z.counted) b.is in
      let long = length-append a.came (b.entry ∷ []) in
      let more : l.moved + length a.came + 1 ≡ l.moved + length (a.came ++ b.entry ∷ []) = omega (arith, long) in
      record {
        came = a.came ++ b.entry ∷ [];
        is = b.is ∙ ((λ i. record (a.is i) { moved = (a.is i).moved + 1; entries = with_moved b.entry (a.is i).entries; given = n.given }) ∙ (λ i. record l { counted = sym counted i; moved = more i; entries = sym (all_moved_last a.came b.entry l.entries) i; given = n.given }));
      }

  pub came_same : (l m n : ListView J) → Came l m → n ≡ m → Came l n
  came_same l m n h same = subst (λ (z : ListView J). Came l z) (sym same) h

  pub moved_next : (l m : ListView J) → MovesOne l m → next_of m ≡ next_of l + 1
  moved_next l m h = let long = ap (λ (z : ListView J). next_of z) h.is in let one = length_moved h.entry l.entries in omega (arith, long, one)

-- A call that comes in

module _ {J : Type 0} {t : TableId} {p : ℕ} {inlet : LazyInletView (Arrival J) ListKey} {sight : SightView} {cs : List (Entry J)} where
  -- it may be pushed, with the right of the call that comes next
  pub follows_in : IsIntake t p inlet sight cs → (queued : ℕ) → length cs ≡ queued → (x : Arrival J) → IsCallPlace t p queued x.entry x.call → GoesOn sight x.sight → IsGiven x.sight x.entry → MayFollow Follows inlet.key inlet.pushed x
  follows_in h queued many x call on given =
      let long : queued ≡ length inlet.pushed = sym many ∙ (ap length (sym h.pushed) ∙ length_in inlet.pushed) in
      subst (λ (z : Option ListKey). MayFollow Follows z inlet.pushed x) (sym h.key) record {
        call = record { seated = call.seated; me = call.me ∙ ap (λ (n : ℕ). (list_seat (OfCall p n x.entry), [])) long };
        domain = on.domain;
        given = given;
        later = All-weaker (λ (y : Arrival J). GoesOn y.sight sight) (λ (y : Arrival J). GoesOn y.sight x.sight) (λ y k. goes_on_trans y.sight sight x.sight k on) inlet.pushed h.before;
      }

  -- and was pushed
  pub intake_pushed : IsIntake t p inlet sight cs → (x : Arrival J) (inlet' : LazyInletView (Arrival J) ListKey) (sight' : SightView) → inlet' ≡ record inlet { pushed = inlet.pushed ++ x ∷ [] } → x.sight ≡ sight' → GoesOn sight sight' → IsIntake t p inlet' sight' (cs ++ x.entry ∷ [])
  intake_pushed h x inlet' sight' is same on = subst (λ (z : LazyInletView (Arrival J) ListKey). IsIntake t p z sight' (cs ++ x.entry ∷ [])) (sym is) record {
    key = (intake_later h on).key;
    pushed = entries_push inlet.pushed x ∙ ap (λ z. z ++ x.entry ∷ []) h.pushed;
    before = All-push (λ (y : Arrival J). GoesOn y.sight sight') inlet.pushed x (intake_later h on).before (subst (λ (z : SightView). GoesOn z sight') (sym same) (goes_on_refl sight'));
  }
