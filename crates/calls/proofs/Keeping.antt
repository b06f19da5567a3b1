-- What is always true of the entries of a list stays so when one is queued, when they advance, when they get numbers, and when some are taken.
use Rattle.std.proofs.Common.{◌≡◌, ℕ, ◌+◌, ◌*◌, ◌%◌, ◌/◌, ◌≤◌, ◌⊎◌, ⊎_elim, Bool, true, false, eqb, leb, if◌then◌else◌, List, [], ◌∷◌, ◌++◌, All, refl, sym, ap, ◌∙◌, subst, eq-eqb, ne_eqb, leb-true, arith}
use Rattle.std.specs.List.{filter_map, cons_option}
use Rattle.std.proofs.lemmas.List.Elements.{All-nil, All-head, All-tail, All-cons, All-push, All-weaker, All-map}
use Rattle.std.proofs.lemmas.List.Filters.{All-dedup}
use mathlib.Core.Logic.{dite}
use native.Mathlib.Decide.{ℕ_discrete}
use Rattle.sseq.specs.Numbers.{periods_ended, cookie_at}
use Rattle.onedom.specs.declared.event.Maker.TheVariants.{Processor}
use Rattle.onedom.specs.declared.event.Event.{Event}
use Rattle.onedom.specs.declared.event.Event.TheVariants.{Note, Ask}
use Rattle.onedom.specs.Histories.{ended_in, IsBeginning}
use Rattle.onedom.proofs.CallerLemmas.{beginning_refl, beginning_push, beginning_trans, ended_grow}
use Rattle.sections.specs.Glossary.{number_word, CpuView, CookieView, AllClosed, SightView, GivesCookieBehind, AsksHowFar, AsksHowFarBehind}
use Rattle.sections.proofs.CallerLemmas.{closed_behind}
use Rattle.segs.specs.MarkedList.{Mark, Done, At, Next, number_of, marked, remarked, awaited, number_given, next_becomes, assigned, reached, advanced}
use Rattle.calls.specs.Glossary.{Entry, with_moved, last_number, IsReached, IsDue, IsWaiting, AreRising, AreWaiting, GoesOn, IsGiven, IsHanded}

-- Numbers

abbrev factor : Bool → ℕ
factor idle = if idle then 1 else 2

-- a later cookie is no smaller
pub cookie_grows : (a b : ℕ) → a ≤ b → cookie_at (number_word a) ≤ cookie_at (number_word b)
cookie_grows a b le = let x = cookie_is a in let y = cookie_is b in omega (arith, le, x, y)
  where
    cookie_is : (a : ℕ) → cookie_at (number_word a) ≡ 4 * ((a + 7) / 4)
    cookie_is a = dite (ℕ_discrete (number_word a % 4) 0)
        (λ e. let x : factor (eqb (number_word a % 4) 0) ≡ 1 = ap factor (eq-eqb (number_word a % 4) 0 e) in omega (arith, e, x))
        (λ ne. let x : factor (eqb (number_word a % 4) 0) ≡ 2 = ap factor (ne_eqb (number_word a % 4) 0 ne) in omega (arith, ne, x))

cookie_whole : (n : ℕ) → cookie_at n % 4 ≡ 0
cookie_whole n = whole (periods_ended n + (if eqb (n % 4) 0 then 1 else 2))
  where
    whole : (k : ℕ) → (4 * k) % 4 ≡ 0
    whole k = omega arith

-- what the number has reached, of which a multiple of four is as much, so many periods have ended
reached_by : (m n changes ended : ℕ) → m ≤ n → m % 4 ≡ 0 → n ≡ number_word changes → ended ≡ changes / 4 → m ≤ 4 * ended
reached_by m n changes ended le whole is e = omega (arith, le, whole, is, e)

-- A longer history

due_later : (a b : List Event) (cookie : ℕ) (m : Mark) → IsBeginning a b → IsDue a cookie m → IsDue b cookie m
due_later a b cookie Done on h = let g = ended_grow on in omega (arith, h, g)
due_later a b cookie (At n) on h = h
due_later a b cookie Next on h = tt

due_advanced : (seen : List Event) (cookie n : ℕ) (m : Mark) → ((k : ℕ) → k ≤ n → k % 4 ≡ 0 → IsReached k seen) → IsDue seen cookie m → IsDue seen cookie (reached n m)
due_advanced seen cookie n Done ended h = h
due_advanced seen cookie n (At k) ended h = either (leb k n) refl
  where
    either : (b : Bool) → leb k n ≡ b → IsDue seen cookie (if b then Done else At k)
    either true e = let r = ended k (leb-true k n e) h.1 in let low = h.0 in omega (arith, r, low)
    either false e = h
due_advanced seen cookie n Next ended h = tt

mark_whole : (seen : List Event) (cookie : ℕ) (m : Mark) → IsDue seen cookie m → (rest : List ℕ) → All (λ n. n % 4 ≡ 0) rest → All (λ n. n % 4 ≡ 0) (cons_option (number_of m) rest)
mark_whole seen cookie Done h rest all = all
mark_whole seen cookie (At n) h rest all = All-cons (λ k. k % 4 ≡ 0) n rest h.1 all
mark_whole seen cookie Next h rest all = all

given_due : (seen : List Event) (cookie s : ℕ) (ns : List ℕ) → cookie ≤ s → s % 4 ≡ 0 → All (λ n. n % 4 ≡ 0) ns → IsDue seen cookie (number_given s ns)
given_due seen cookie s [] low whole all = (low, whole)
given_due seen cookie s (n ∷ []) low whole all = either (leb s n) refl
  where
    either : (b : Bool) → leb s n ≡ b → IsDue seen cookie (if b then At n else At s)
    either true e = let le = leb-true s n e in (omega (arith, low, le), All-head (λ k. k % 4 ≡ 0) n [] all)
    either false e = (low, whole)
given_due seen cookie s (n ∷ m ∷ more) low whole all = either (leb s m) refl
  where
    either : (b : Bool) → leb s m ≡ b → IsDue seen cookie (if b then At m else Next)
    either true e = let le = leb-true s m e in (omega (arith, low, le), All-head (λ k. k % 4 ≡ 0) m more (All-tail (λ k. k % 4 ≡ 0) n (m ∷ more) all))
    either false e = tt

due_becomes : (seen : List Event) (cookie : ℕ) (given m : Mark) → IsDue seen cookie given → IsDue seen cookie m → IsDue seen cookie (next_becomes given m)
due_becomes seen cookie given Done g h = h
due_becomes seen cookie given (At n) g h = h
due_becomes seen cookie given Next g h = g

pub goes_on_noted : (s s' : SightView) (c d : CpuView) (k : CookieView) → c.domain ≡ s.domain → GivesCookieBehind s c d k s' → GoesOn s s'
goes_on_noted s s' c d k same g = subst (λ (z : SightView). GoesOn s z) (sym g.sight_is) record {
  domain = g.adds.same.0 ∙ same;
  since = subst (λ (z : List Event). IsBeginning s.seen z) (sym g.adds.seen) (beginning_push (Note (cookie_at g.number) (Processor c.processor)) g.adds.covers);
  later = g.adds.not_before;
}

-- a cookie that was given is of the moment of the sight
pub given_noted : {J : Type 0} (s s' : SightView) (c d : CpuView) (k : CookieView) (job : J) → GivesCookieBehind s c d k s' → IsGiven s' record { job = job; cookie = k }
given_noted s s' c d k job g =
    let number : k.number ≡ cookie_at g.number = ap (λ (z : CookieView). z.number) g.cookie_is in record {
      domain = ap (λ (z : CookieView). z.domain) g.cookie_is ∙ (sym g.adds.same.0 ∙ ap (λ (z : SightView). z.domain) (sym g.sight_is));
      given = record { before = g.adds.before; by = Processor c.processor; whole = ap (λ (z : CookieView). z.seen) g.cookie_is ∙ (g.adds.seen ∙ ap (λ (n : ℕ). g.adds.before ++ Note n (Processor c.processor) ∷ []) (sym number)) };
      seen = ap (λ (z : CookieView). z.seen) g.cookie_is ∙ ap (λ (z : SightView). z.seen) (sym g.sight_is);
      number = number ∙ (ap cookie_at g.current ∙ ap (λ (z : SightView). cookie_at (number_word z.changes)) (sym g.sight_is));
    }

pub goes_on_asked : (n : ℕ) (s s' : SightView) (c d : CpuView) → c.domain ≡ s.domain → AsksHowFar n s c d s' → GoesOn s s'
goes_on_asked n s s' c d same g = subst (λ (z : SightView). GoesOn s z) (sym g.sight_is) record {
  domain = g.adds.same.0 ∙ same;
  since = subst (λ (z : List Event). IsBeginning s.seen z) (sym g.adds.seen) (beginning_push (Ask (4 * periods_ended n) true (Processor c.processor)) g.adds.covers);
  later = g.adds.not_before;
}

-- so many periods have ended as the number says
pub asked_reached : (n : ℕ) (s s' : SightView) (c d : CpuView) → AsksHowFar n s c d s' → (k : ℕ) → k ≤ n → k % 4 ≡ 0 → IsReached k s'.seen
asked_reached n s s' c d g k le whole = subst (λ (z : SightView). IsReached k z.seen) (sym g.sight_is) (reached_by k n d.changes (ended_in d.seen) le whole g.current g.adds.history.reaches.ended)

-- and all that was open when it was queued is closed
closed_one : (n : ℕ) (s s' : SightView) (c d : CpuView) → AsksHowFar n s c d s' → (cookie : ℕ) (seen : List Event) → IsHanded cookie seen d.seen → AllClosed seen d.seen
closed_one n s s' c d g cookie seen h = closed_behind cookie h.reached seen h.before d.seen h.by h.not_before h.queued h.since h.told g.adds.history.legal

module _ {J : Type 0} where
  waiting_later : (g s t : SightView) → GoesOn s t → (e : Entry J × Mark) → IsWaiting g s e → IsWaiting g t e
  waiting_later g s t on e h = record {
    domain = h.domain;
    given = h.given;
    since = h.since;
    whole = h.whole;
    not_after = h.not_after;
    due = due_later s.seen t.seen e.0.cookie.number e.1 on.since h.due;
  }

  pub all_later : (g s t : SightView) (l : List (Entry J × Mark)) → GoesOn s t → AreWaiting g s l → AreWaiting g t l
  all_later g s t l on h = record { each = All-weaker (IsWaiting g s) (IsWaiting g t) (waiting_later g s t on) l h.each; rising = h.rising }

  given_later : (g t s : SightView) → GoesOn g t → (e : Entry J × Mark) → IsWaiting g s e → IsWaiting t s e
  given_later g t s on e h = record {
    domain = h.domain ∙ sym on.domain;
    given = h.given;
    since = beginning_trans h.since on.since;
    whole = h.whole;
    not_after = let a = h.not_after in let b = cookie_grows g.changes t.changes on.later in omega (arith, a, b);
    due = h.due;
  }

  -- Rising cookies

  rising_push : (l : List (Entry J × Mark)) (e : Entry J × Mark) → AreRising l → All (λ (f : Entry J × Mark). f.0.cookie.number ≤ e.0.cookie.number) l → AreRising (l ++ e ∷ [])
  rising_push [] e h all = (All-nil (λ (f : Entry J × Mark). e.0.cookie.number ≤ f.0.cookie.number), tt)
  rising_push (x ∷ xs) e h all =
      (All-push (λ (f : Entry J × Mark). x.0.cookie.number ≤ f.0.cookie.number) xs e h.0 (All-head (λ (f : Entry J × Mark). f.0.cookie.number ≤ e.0.cookie.number) x xs all), rising_push xs e h.1 (All-tail (λ (f : Entry J × Mark). f.0.cookie.number ≤ e.0.cookie.number) x xs all))

  -- no cookie is greater than the last one
  last_greatest : (l : List (Entry J × Mark)) → AreRising l → All (λ (f : Entry J × Mark). f.0.cookie.number ≤ last_number l) l
  last_greatest [] h = All-nil (λ (f : Entry J × Mark). f.0.cookie.number ≤ 0)
  last_greatest (e ∷ []) h = All-cons (λ (f : Entry J × Mark). f.0.cookie.number ≤ e.0.cookie.number) e [] (omega arith) (All-nil (λ (f : Entry J × Mark). f.0.cookie.number ≤ e.0.cookie.number))
  last_greatest (e ∷ f ∷ es) h = All-cons (λ (g : Entry J × Mark). g.0.cookie.number ≤ last_number (f ∷ es)) e (f ∷ es) (last_over f es h.0) (last_greatest (f ∷ es) h.1)
    where
      last_over : (f : Entry J × Mark) (es : List (Entry J × Mark)) → All (λ (g : Entry J × Mark). e.0.cookie.number ≤ g.0.cookie.number) (f ∷ es) → e.0.cookie.number ≤ last_number (f ∷ es)
      last_over f [] all = All-head (λ (g : Entry J × Mark). e.0.cookie.number ≤ g.0.cookie.number) f [] all
      last_over f (g ∷ gs) all = last_over g gs (All-tail (λ (x : Entry J × Mark). e.0.cookie.number ≤ x.0.cookie.number) f (g ∷ gs) all)

  last_whole : (g s : SightView) (l : List (Entry J × Mark)) → All (IsWaiting g s) l → last_number l % 4 ≡ 0
  last_whole g s [] all = refl
  last_whole g s (e ∷ []) all = (All-head (IsWaiting g s) e [] all).whole
  last_whole g s (e ∷ f ∷ es) all = last_whole g s (f ∷ es) (All-tail (IsWaiting g s) e (f ∷ es) all)

  rising_remarked : (change : Mark → Mark) (l : List (Entry J × Mark)) → AreRising l → AreRising (remarked change l)
  rising_remarked change [] h = tt
  rising_remarked change (x ∷ xs) h = (All-map (λ (f : Entry J × Mark). x.0.cookie.number ≤ f.0.cookie.number) (λ (e : Entry J × Mark). (e.0, change e.1)) xs h.0, rising_remarked change xs h.1)

  rising_rest : (gone : List (Entry J)) (l : List (Entry J × Mark)) → AreRising (marked Done gone ++ l) → AreRising l
  rising_rest [] l h = h
  rising_rest (x ∷ xs) l h = rising_rest xs l h.1

  -- Marks that change

  remarked_waiting : (g s : SightView) (change : Mark → Mark) (Q : Entry J × Mark → Type 0) → ((e : Entry J × Mark) → IsWaiting g s e → Q e → IsDue s.seen e.0.cookie.number (change e.1)) → (l : List (Entry J × Mark)) → AreWaiting g s l → All Q l → AreWaiting g s (remarked change l)
  remarked_waiting g s change Q due l h q = record {
    each = All-map (IsWaiting g s) (λ (e : Entry J × Mark). (e.0, change e.1)) l (both l h.each q);
    rising = rising_remarked change l h.rising;
  }
    where
      both : (k : List (Entry J × Mark)) → All (IsWaiting g s) k → All Q k → All (λ (e : Entry J × Mark). IsWaiting g s (e.0, change e.1)) k
      both [] a b = All-nil (λ (e : Entry J × Mark). IsWaiting g s (e.0, change e.1))
      both (x ∷ xs) a b = let w = All-head (IsWaiting g s) x xs a in All-cons (λ (e : Entry J × Mark). IsWaiting g s (e.0, change e.1)) x xs
          record { domain = w.domain; given = w.given; since = w.since; whole = w.whole; not_after = w.not_after; due = due x w (All-head Q x xs b) }
          (both xs (All-tail (IsWaiting g s) x xs a) (All-tail Q x xs b))

  -- Advancing

  pub advanced_waiting : (g s : SightView) (n : ℕ) (l : List (Entry J × Mark)) → ((k : ℕ) → k ≤ n → k % 4 ≡ 0 → IsReached k s.seen) → AreWaiting g s l → AreWaiting g s (advanced n l)
  advanced_waiting g s n l ended h = remarked_waiting g s (reached n) (λ _. Unit {0}) (λ e w _. due_advanced s.seen e.0.cookie.number n e.1 ended w.due) l h (λ _ _ _. tt)

  -- Getting a number

  numbers_whole : (g s : SightView) (l : List (Entry J × Mark)) → All (IsWaiting g s) l → All (λ n. n % 4 ≡ 0) (filter_map (λ (e : Entry J × Mark). number_of e.1) l)
  numbers_whole g s [] all = All-nil (λ n. n % 4 ≡ 0)
  numbers_whole g s (x ∷ xs) all = mark_whole s.seen x.0.cookie.number x.1 (All-head (IsWaiting g s) x xs all).due (filter_map (λ (e : Entry J × Mark). number_of e.1) xs) (numbers_whole g s xs (All-tail (IsWaiting g s) x xs all))

  pub assigned_waiting : (g s : SightView) (n : ℕ) (l : List (Entry J × Mark)) → n % 4 ≡ 0 → All (λ (e : Entry J × Mark). e.0.cookie.number ≤ n) l → AreWaiting g s l → AreWaiting g s (assigned n l)
  assigned_waiting g s n l whole low h = remarked_waiting g s (next_becomes (number_given n (awaited l))) (λ e. e.0.cookie.number ≤ n)
      (λ e w le. due_becomes s.seen e.0.cookie.number (number_given n (awaited l)) e.1 (given_due s.seen e.0.cookie.number n (awaited l) le whole (All-dedup (λ a b. eqb a b) (λ k. k % 4 ≡ 0) (filter_map (λ (x : Entry J × Mark). number_of x.1) l) (numbers_whole g s l h.each))) w.due) l h low

  -- by the cookie of the last entry
  pub last_waiting : (g s : SightView) (l : List (Entry J × Mark)) → AreWaiting g s l → AreWaiting g s (assigned (last_number l) l)
  last_waiting g s l h = assigned_waiting g s (last_number l) l (last_whole g s l h.each) (last_greatest l h.rising) h

  -- Moving

  -- the next one comes last, whose queuer had seen what that of the last one had, where something waits
  pub arrived_waiting : (g g' s : SightView) (e : Entry J) (l : List (Entry J × Mark)) → (l ≡ []) ⊎ GoesOn g g' → IsGiven g' e → AreWaiting g s l → AreWaiting g' s (with_moved e l)
  arrived_waiting g g' s e l behind new h =
      let was : AreWaiting g' s l × All (λ (f : Entry J × Mark). f.0.cookie.number ≤ e.cookie.number) l = ⊎_elim
      (λ (none : l ≡ []). subst (λ (z : List (Entry J × Mark)). AreWaiting g' s z × All (λ (f : Entry J × Mark). f.0.cookie.number ≤ e.cookie.number) z) (sym none) (record { each = All-nil (IsWaiting g' s); rising = tt }, All-nil (λ (f : Entry J × Mark). f.0.cookie.number ≤ e.cookie.number)))
      (λ (on : GoesOn g g'). (
        record { each = All-weaker (IsWaiting g s) (IsWaiting g' s) (given_later g g' s on) l h.each; rising = h.rising },
        All-weaker (IsWaiting g s) (λ (f : Entry J × Mark). f.0.cookie.number ≤ e.cookie.number) (λ f w. let a = w.not_after in let b = cookie_grows g.changes g'.changes on.later in let at = new.number in omega (arith, a, b, at)) l h.each,
      ))
      behind in
      let whole : e.cookie.number % 4 ≡ 0 = subst (λ (n : ℕ). n % 4 ≡ 0) (sym new.number) (cookie_whole (number_word g'.changes)) in
      let one : IsWaiting g' s (e, Next) = record {
        domain = new.domain;
        given = new.given;
        since = subst (λ (z : List Event). IsBeginning e.cookie.seen z) new.seen (beginning_refl e.cookie.seen);
        whole = whole;
        not_after = let at = new.number in omega (arith, at);
        due = tt;
      } in
      assigned_waiting g' s e.cookie.number (l ++ (e, Next) ∷ []) whole (All-push (λ (f : Entry J × Mark). f.0.cookie.number ≤ e.cookie.number) l (e, Next) was.1 (omega arith)) record { each = All-push (IsWaiting g' s) l (e, Next) was.0.each one; rising = rising_push l (e, Next) was.0.rising was.1 }

  -- Taking

  pub moved_waiting : (n : ℕ) (g s s' : SightView) (c d : CpuView) (l : List (Entry J × Mark)) → c.domain ≡ s.domain → AsksHowFar n s c d s' → AreWaiting g s l → AreWaiting g s' (advanced n l)
  moved_waiting n g s s' c d l same a h = advanced_waiting g s' n l (asked_reached n s s' c d a) (all_later g s s' l (goes_on_asked n s s' c d same a) h)

  rest_each : (P : Entry J × Mark → Type 0) (gone : List (Entry J)) (l : List (Entry J × Mark)) → All P (marked Done gone ++ l) → All P l
  rest_each P [] l all = all
  rest_each P (x ∷ xs) l all = rest_each P xs l (All-tail P (x, Done) (marked Done xs ++ l) all)

  pub rest_waiting : (g s : SightView) (gone : List (Entry J)) (l : List (Entry J × Mark)) → AreWaiting g s (marked Done gone ++ l) → AreWaiting g s l
  rest_waiting g s gone l h = record { each = rest_each (IsWaiting g s) gone l h.each; rising = rising_rest gone l h.rising }

  gone_each : (P : Entry J × Mark → Type 0) (gone : List (Entry J)) (l : List (Entry J × Mark)) → All P (marked Done gone ++ l) → All (λ e. P (e, Done)) gone
  gone_each P [] l all = All-nil (λ e. P (e, Done))
  gone_each P (x ∷ xs) l all = All-cons (λ e. P (e, Done)) x xs (All-head P (x, Done) (marked Done xs ++ l) all) (gone_each P xs l (All-tail P (x, Done) (marked Done xs ++ l) all))

  -- what is done was handed out after a grace period
  handed_one : (n : ℕ) (g s s' : SightView) (c d : CpuView) → AsksHowFarBehind n g s c d s' → (e : Entry J) → (since : IsBeginning e.cookie.seen g.seen) → IsWaiting g s' (e, Done) → IsHanded e.cookie.number e.cookie.seen d.seen
  handed_one n g s s' c d a e since w = let asks = a.asks in record {
    queued = w.given;
    reached = 4 * periods_ended n;
    not_before = let due : IsReached e.cookie.number d.seen = subst (λ (z : SightView). IsReached e.cookie.number z.seen) asks.sight_is w.due in let ended = asks.adds.history.reaches.ended in let current = asks.current in omega (arith, due, ended, current);
    before = asks.adds.before;
    by = Processor c.processor;
    since = beginning_trans since a.covers;
    told = asks.adds.seen;
  }

  pub closed_all : (n : ℕ) (s s' : SightView) (c d : CpuView) → AsksHowFar n s c d s' → (gone : List (Entry J)) → All (λ e. IsHanded e.cookie.number e.cookie.seen d.seen) gone → All (λ e. AllClosed e.cookie.seen d.seen) gone
  closed_all n s s' c d g gone all = All-weaker (λ e. IsHanded e.cookie.number e.cookie.seen d.seen) (λ e. AllClosed e.cookie.seen d.seen) (λ e h. closed_one n s s' c d g e.cookie.number e.cookie.seen h) gone all

  -- marks that change leave the entries
  pub remarked_each : (P : Entry J → Type 0) (change : Mark → Mark) (l : List (Entry J × Mark)) → All (λ (e : Entry J × Mark). P e.0) l → All (λ (e : Entry J × Mark). P e.0) (remarked change l)
  remarked_each P change l all = All-map (λ (e : Entry J × Mark). P e.0) (λ (e : Entry J × Mark). (e.0, change e.1)) l all

  pub since_each : (g s : SightView) (l : List (Entry J × Mark)) → AreWaiting g s l → All (λ (e : Entry J × Mark). IsBeginning e.0.cookie.seen g.seen) l
  since_each g s l h = All-weaker (IsWaiting g s) (λ (e : Entry J × Mark). IsBeginning e.0.cookie.seen g.seen) (λ e w. w.since) l h.each

  pub handed_all : (n : ℕ) (g s s' : SightView) (c d : CpuView) → AsksHowFarBehind n g s c d s' → (gone : List (Entry J)) (l : List (Entry J × Mark)) → AreWaiting g s' (marked Done gone ++ l) → All (λ (e : Entry J × Mark). IsBeginning e.0.cookie.seen g.seen) (marked Done gone ++ l)
      → All (λ e. IsHanded e.cookie.number e.cookie.seen d.seen) gone
  handed_all n g s s' c d a gone l h since = both gone (gone_each (IsWaiting g s') gone l h.each) (gone_each (λ (e : Entry J × Mark). IsBeginning e.0.cookie.seen g.seen) gone l since)
    where
      both : (k : List (Entry J)) → All (λ e. IsWaiting g s' (e, Done)) k → All (λ (e : Entry J). IsBeginning e.cookie.seen g.seen) k → All (λ e. IsHanded e.cookie.number e.cookie.seen d.seen) k
      both [] p q = All-nil (λ e. IsHanded e.cookie.number e.cookie.seen d.seen)
      both (x ∷ xs) p q = All-cons (λ e. IsHanded e.cookie.number e.cookie.seen d.seen) x xs
          (handed_one n g s s' c d a x (All-head (λ (e : Entry J). IsBeginning e.cookie.seen g.seen) x xs q) (All-head (λ e. IsWaiting g s' (e, Done)) x xs p))
          (both xs (All-tail (λ e. IsWaiting g s' (e, Done)) x xs p) (All-tail (λ (e : Entry J). IsBeginning e.cookie.seen g.seen) x xs q))
