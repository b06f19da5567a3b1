-- Seats that turn, events, splits and joins leave what the rule says of keys and parts.
use Rattle.std.proofs.Common.{◌≡◌, ℕ, zero, suc, ◌+◌, ◌*◌, ◌/◌, ◌%◌, ◌<◌, ◌≤◌, ◌≢◌, ◌⊎◌, Bool, true, false, cond, eqb, List, [], ◌∷◌, ◌++◌, All, Option, Some, None, length, set, refl, sym, ap, ◌∙◌, subst, inl, inr, ⊎_elim, eq-eqb, ne_eqb, arith}
use Rattle.std.proofs.lemmas.List.Elements.{All-nil, All-head, All-tail, All-cons}
use mathlib.Core.Logic.{dite}
use mathlib.Core.Option.{some, some-injective}
use mathlib.Core.Option as maybe
use native.Mathlib.Decide.{ℕ_discrete}
use lib.ListN.{get_elem?}
use Rattle.atomic_table.proofs.Lists.{set_here, set_else, at_longer}
use Rattle.sseq.specs.declared.index.Index.{Index}
use Rattle.onedom.specs.declared.event.Event.{Event}
use Rattle.onedom.specs.Histories.{begins_of, finds, ends, shelved, IsClear, MayFollow, IsLegal}
use Rattle.onedom.proofs.CallerLemmas.{count_append, open_stays, shelved_kept, clear_until_put}
use Rattle.sections.specs.Glossary.{sum, Slot, Bounds, Lent, Hand, Plan, Text, Right, View, put_cell, offer_of, mine, section_in, units_in, hand_in, PlanIn, Mans, IsLent, IsPlan, IsOffered, Books, FitsBank, KeepsBanks}
use Rattle.sections.specs.declared.view.Role.TheVariants.{Cpu, Driver}
use Rattle.sections.specs.declared.view.Right.TheVariants.{Nothing, Section, Shelf}
use Rattle.sections.specs.Banks.{HasMet}
use Rattle.sections.proofs.Knowing.{at_below, views_set, views_split, given, given_here, given_else}
use Rattle.sections.proofs.Shelving.{no_put_of}

no_both : ◌≡◌ {A = Bool} false true → ⊥
no_both e = cc

pub no_some : {A : Type 0} (a : A) → ◌≡◌ {A = Option A} None (Some a) → ⊥
no_some a e = cc

pub All_but : {A : Type 0} (P Q : A → Type 0) (l : List A) → ((u : A) → P u → Q u) → All P l → All Q l
All_but P Q [] f h = All-nil Q
All_but P Q (x ∷ xs) f h = All-cons Q x xs (f x (All-head P x xs h)) (All_but P Q xs f (All-tail P x xs h))

-- of a section that no unit is with, none is there
mine_none : (s : ℕ) (l : List Lent) → All (λ u. u.section ≢ s) l → mine s l ≡ []
mine_none s [] h = refl
mine_none s (x ∷ xs) h = ap (λ b. cond b (x ∷ mine s xs) (mine s xs)) (ne_eqb x.section s (All-head (λ u. u.section ≢ s) x xs h)) ∙ mine_none s xs (All-tail (λ u. u.section ≢ s) x xs h)

none_mine : (s : ℕ) (l : List Lent) → mine s l ≡ [] → All (λ u. u.section ≢ s) l
none_mine s [] none = All-nil (λ u. u.section ≢ s)
none_mine s (x ∷ xs) none = go (eqb x.section s) refl (λ n. none_mine s xs n)
  where
    nothing : ◌≡◌ {A = List Lent} (x ∷ mine s xs) [] → ⊥
    nothing h = cc

    not : ◌≡◌ {A = Bool} false true → ⊥
    not h = cc

    go : (b : Bool) → eqb x.section s ≡ b → (mine s xs ≡ [] → All (λ u. u.section ≢ s) xs) → All (λ u. u.section ≢ s) (x ∷ xs)
    go true e rec = absurd (nothing (sym (ap (λ b. cond b (x ∷ mine s xs) (mine s xs)) e) ∙ none))
    go false e rec = All-cons (λ u. u.section ≢ s) x xs (λ i. not (sym e ∙ eq-eqb x.section s i)) (rec (sym (ap (λ b. cond b (x ∷ mine s xs) (mine s xs)) e) ∙ none))

-- what was found stays found
pub met_later : (log : List Event) (e : Event) (s y : ℕ) → HasMet log s y → HasMet (log ++ e ∷ []) s y
met_later log e s y h = let c = count_append (finds s (y / 8) (y % 8)) log (e ∷ []) in omega (arith, c, h)

-- a slot that nobody can read stays so
abbrev pub StaysClear : List Event → List Event → Type 0
StaysClear log log' = (c x : ℕ) → IsClear log c x → IsClear log' c x

pub plan_later : (log log' : List Event) (k : Books) (c : ℕ) (q : Plan) → ((x : ℕ) → IsClear log c x → IsClear log' c x) → IsPlan log k.vault_of k.keys k.stock k.laid k.round c q → IsPlan log' k.vault_of k.keys k.stock k.laid k.round c q
plan_later log log' k c q clear a = record { eight = a.eight; laid_keys = a.laid_keys; vault = a.vault; totals = a.totals; rounds = a.rounds; some = a.some; empty = a.empty; rests = λ x lx some_empty. clear x (a.rests x lx some_empty) }

pub bank_later : (n : ℕ) (log log' : List Event) (k : Books) (lane_of : ℕ → ℕ) (j : ℕ) (d : View) → ((s y : ℕ) → HasMet log s y → HasMet log' s y) → ((c : ℕ) (q : Plan) → PlanIn d.right c q → (x : ℕ) → IsClear log c x → IsClear log' c x) → FitsBank n log k lane_of j d → FitsBank n log' k lane_of j d
bank_later n log log' k lane_of j d more clear g = record {
  lane = g.lane;
  section = g.section;
  plan = λ c q is. plan_later log log' k c q (clear c q is) (g.plan c q is);
  holds = g.holds;
  reads = λ h s e i. let r = g.reads h s e i in (r.0, more s h.slot r.1, r.2);
  writes = λ h c q e is. let r = g.writes h c q e is in (r.0, λ keyed. clear c q is (h.slot % 8) (r.1 keyed));
}

-- the right says the same of sections, of parts and of plans
pub record SaysAs (v w : View) : Type 0 where
  pub role : w.role ≡ v.role
  pub hand : hand_in w.right ≡ hand_in v.right
  pub section : section_in w.right ≡ section_in v.right
  pub units : units_in w.right ≡ units_in v.right
  pub plan : (c : ℕ) (q : Plan) → PlanIn w.right c q → PlanIn v.right c q

pub says_same : (v w : View) → w.role ≡ v.role → w.right ≡ v.right → SaysAs v w
says_same v w role right = record { role = role; hand = ap hand_in right; section = ap section_in right; units = ap units_in right; plan = λ c q is. subst (λ z. PlanIn z c q) right is }

pub says_shelf : (v w : View) (c : ℕ) (own own' : List ℕ) (h h' : List Event) (q : Plan) → v.right ≡ Shelf c own h q → w.right ≡ Shelf c own' h' q → w.role ≡ v.role → SaysAs v w
says_shelf v w c own own' h h' q right now role = record {
  role = role;
  hand = ap hand_in now ∙ sym (ap hand_in right);
  section = ap section_in now ∙ sym (ap section_in right);
  units = ap units_in now ∙ sym (ap units_in right);
  plan = λ d r is. subst (λ z. PlanIn z d r) (sym right) (subst (λ z. PlanIn z d r) now is);
}

module _ (bounds : Bounds) (homes : List (maybe.Option Slot)) (views : List View) (log : List Event) (texts : List Text) (b : KeepsBanks bounds homes views log texts) where
  abbrev FitsAt : List Event → ℕ → View → Type 0
  FitsAt l = FitsBank bounds.processors l b.books b.lane_of

  offers_later : (log' : List Event) → StaysClear log log' → ((c x : ℕ) → shelved c x log' ≡ shelved c x log) → (c x : ℕ) → c < bounds.cells → x < 8 → IsClear log' c x ⊎ IsOffered b.books.stock b.books.laid b.books.round (8 * c + x) (offer_of c (shelved c x log') texts)
  offers_later log' clear same c x lc lx = ⊎_elim (λ (h : IsClear log c x). inl (clear c x h))
      (λ (o : IsOffered b.books.stock b.books.laid b.books.round (8 * c + x) (offer_of c (shelved c x log) texts)). inr (subst (λ v. IsOffered b.books.stock b.books.laid b.books.round (8 * c + x) (offer_of c v texts)) (sym (same c x)) o)) (b.offers c x lc lx)

  pub turned_banks : (log' : List Event) (id : ℕ) (v w : View) → get_elem? views id ≡ some v → hand_in w.right ≡ hand_in v.right → All (λ u. IsLent log' b.books.round u) b.books.units → ((s y : ℕ) → HasMet log s y → HasMet log' s y)
      → StaysClear log log' → ((c x : ℕ) → shelved c x log' ≡ shelved c x log) → FitsAt log' id w → KeepsBanks bounds homes (set views id w) log' texts
  turned_banks log' id v w at hand lent more clear same fits = record {
    books = b.books;
    lane_of = b.lane_of;
    wide = b.wide;
    home = b.home;
    bare = b.bare;
    hands = λ i j is. let h = b.hands i j is in dite (ℕ_discrete j id)
        (λ e. let same : h.0 ≡ v = some-injective h.0 v (sym h.2 ∙ (ap (get_elem? views) e ∙ at)) in
        (w, h.1, ap (get_elem? (set views id w)) e ∙ set_here views id w (at_below views v id at), hand ∙ (ap (λ (z : View). hand_in z.right) (sym same) ∙ h.3), h.4))
        (λ ne. (h.0, h.1, set_else views id j w ne ∙ h.2, h.3, h.4));
    lent = lent;
    sums = b.sums;
    most = b.most;
    vaults = b.vaults;
    one_vault = b.one_vault;
    offers = offers_later log' clear same;
    each = views_set (FitsAt log') views id w fits (λ j d ne e. bank_later bounds.processors log log' b.books b.lane_of j d more (λ c q is x. clear c x) (b.each j d e));
  }

  pub bank_as : (log' : List Event) (j : ℕ) (v w : View) → SaysAs v w → FitsAt log' j v → FitsAt log' j w
  bank_as log' j v w same f = record {
    lane = λ p mans. f.lane p (subst (λ z. Mans z p) same.role mans);
    section = λ s is. same.units ∙ f.section s (sym same.section ∙ is);
    plan = λ c q is. f.plan c q (same.plan c q is);
    holds = λ h is. f.holds h (sym same.hand ∙ is);
    reads = λ h s is i. f.reads h s (sym same.hand ∙ is) (sym same.section ∙ i);
    writes = λ h c q is i. f.writes h c q (sym same.hand ∙ is) (same.plan c q i);
  }

  -- no event, and the right says the same
  pub same_banks : (id : ℕ) (v w : View) → get_elem? views id ≡ some v → SaysAs v w → KeepsBanks bounds homes (set views id w) log texts
  same_banks id v w at same = turned_banks log id v w at same.hand b.lent (λ s y h. h) (λ c x h. h) (λ c x. refl) (bank_as log id v w same (b.each id v at))

  -- what is out stays with open sections
  lent_later : (e : Event) → ((s : ℕ) → ends s e ≡ true → mine s b.books.units ≡ []) → All (λ u. IsLent (log ++ e ∷ []) b.books.round u) b.books.units
  lent_later e free = stays b.books.units b.lent free
    where
      one : (all : List Lent) (s : ℕ) (c : Bool) → ends s e ≡ c → (ends s e ≡ true → mine s all ≡ []) → (u : Lent) → u.section ≡ s → (All (λ z. z.section ≢ s) all → ⊥) → ends s e ≡ false
      one all s true is free u us there = absurd (there (none_mine s all (free is)))
      one all s false is free u us there = is

      lent_here : (all : List Lent) (u : Lent) → IsLent log b.books.round u → (ends u.section e ≡ true → mine u.section all ≡ []) → (All (λ z. z.section ≢ u.section) all → ⊥) → IsLent (log ++ e ∷ []) b.books.round u
      lent_here all u a free there = record { opened = open_stays u.section log e (one all u.section (ends u.section e) refl free u refl there) a.opened; met = met_later log e u.section u.slot a.met; rounds = a.rounds }

      each_of : (all l : List Lent) → ((u : Lent) → (All (λ z. z.section ≢ u.section) all → All (λ z. z.section ≢ u.section) l)) → All (λ u. IsLent log b.books.round u) l → ((s : ℕ) → ends s e ≡ true → mine s all ≡ []) → All (λ u. IsLent (log ++ e ∷ []) b.books.round u) l
      each_of all [] sub h free = All-nil (λ u. IsLent (log ++ e ∷ []) b.books.round u)
      each_of all (x ∷ xs) sub h free = All-cons (λ u. IsLent (log ++ e ∷ []) b.books.round u) x xs (lent_here all x (All-head (λ u. IsLent log b.books.round u) x xs h) (free x.section) (λ a. All-head (λ z. z.section ≢ x.section) x xs (sub x a) refl))
          (each_of all xs (λ u a. All-tail (λ z. z.section ≢ u.section) x xs (sub u a)) (All-tail (λ u. IsLent log b.books.round u) x xs h) free)

      stays : (l : List Lent) → All (λ u. IsLent log b.books.round u) l → ((s : ℕ) → ends s e ≡ true → mine s l ≡ []) → All (λ u. IsLent (log ++ e ∷ []) b.books.round u) l
      stays l h free = each_of l l (λ u a. a) h free

  clear_later : (e : Event) → IsLegal log → MayFollow log e → put_cell e ≡ None → StaysClear log (log ++ e ∷ [])
  clear_later e legal may none c x = clear_until_put log e c x legal may (no_put_of e none c x)

  -- an event that is no Put, and ends no section with which a part is out
  event_banks : (e : Event) (id : ℕ) (v w : View) → IsLegal log → MayFollow log e → put_cell e ≡ None → ((s : ℕ) → ends s e ≡ true → mine s b.books.units ≡ [])
      → get_elem? views id ≡ some v → hand_in w.right ≡ hand_in v.right → FitsAt (log ++ e ∷ []) id w → KeepsBanks bounds homes (set views id w) (log ++ e ∷ []) texts
  event_banks e id v w legal may none free at hand fits = turned_banks (log ++ e ∷ []) id v w at hand (lent_later e free) (λ s y h. met_later log e s y h) (clear_later e legal may none) (λ c x. shelved_kept c x log e (no_put_of e none c x)) fits

  fits_event : (e : Event) (j : ℕ) (v : View) → IsLegal log → MayFollow log e → put_cell e ≡ None → FitsAt log j v → FitsAt (log ++ e ∷ []) j v
  fits_event e j v legal may none f = bank_later bounds.processors log (log ++ e ∷ []) b.books b.lane_of j v (λ s y h. met_later log e s y h) (λ c q is x. clear_later e legal may none c x) f

  -- a section that nobody has begun has no part
  pub fresh_mine : (t : ℕ) → begins_of t log ≡ 0 → mine t b.books.units ≡ []
  fresh_mine t fresh = mine_none t b.books.units (All_but (λ u. IsLent log b.books.round u) (λ u. u.section ≢ t) b.books.units (λ u a e. let some_begun = a.opened.0 in let same = ap (λ z. begins_of z log) e in omega (arith, some_begun, same, fresh)) b.lent)

  -- an event that is no Put and ends no section
  pub push_banks : (e : Event) (id : ℕ) (v w : View) → IsLegal log → MayFollow log e → put_cell e ≡ None → ((s : ℕ) → ends s e ≡ false) → get_elem? views id ≡ some v → SaysAs v w → KeepsBanks bounds homes (set views id w) (log ++ e ∷ []) texts
  push_banks e id v w legal may none unended at same = event_banks e id v w legal may none (λ s y. absurd (no_both (sym (unended s) ∙ y))) at same.hand (bank_as (log ++ e ∷ []) id v w same (fits_event e id v legal may none (b.each id v at)))

  -- a section begins
  pub begin_banks : (e : Event) (id t p : ℕ) (i : Index) (v w : View) → IsLegal log → MayFollow log e → put_cell e ≡ None → ((s : ℕ) → ends s e ≡ false) → begins_of t log ≡ 0
      → get_elem? views id ≡ some v → w.role ≡ v.role → hand_in v.right ≡ None → w.right ≡ Section t p i [] None → KeepsBanks bounds homes (set views id w) (log ++ e ∷ []) texts
  begin_banks e id t p i v w legal may none unended fresh at role free right = let f = b.each id v at in event_banks e id v w legal may none (λ s y. absurd (no_both (sym (unended s) ∙ y))) at (ap hand_in right ∙ sym free) record {
    lane = λ q mans. f.lane q (subst (λ z. Mans z q) role mans);
    section = λ s is. let a = ap section_in right in let ts : t ≡ s = omega (arith, a, is) in ap units_in right ∙ subst (λ z. [] ≡ mine z b.books.units) ts (sym (fresh_mine t fresh));
    plan = λ c q is. absurd (subst (λ z. PlanIn z c q) right is);
    holds = λ h is. absurd (no_some h (sym (ap hand_in right) ∙ is));
    reads = λ h s is i. absurd (no_some h (sym (ap hand_in right) ∙ is));
    writes = λ h c q is i. absurd (no_some h (sym (ap hand_in right) ∙ is));
  }

  -- nothing is in hand, and there is no right
  pub bank_free : (log' : List Event) (lane_of' : ℕ → ℕ) (j : ℕ) (w : View) → ((p : ℕ) → Mans w.role p → lane_of' p ≡ j) → w.right ≡ Nothing → FitsBank bounds.processors log' b.books lane_of' j w
  bank_free log' lane_of' j w lane free = record {
    lane = lane;
    section = λ s is. let a = ap section_in free in absurd (omega (arith, a, is));
    plan = λ c q is. absurd (subst (λ z. PlanIn z c q) free is);
    holds = λ h is. absurd (no_some h (sym (ap hand_in free) ∙ is));
    reads = λ h s is i. absurd (no_some h (sym (ap hand_in free) ∙ is));
    writes = λ h c q is i. absurd (no_some h (sym (ap hand_in free) ∙ is));
  }

  -- a section ends that no part is out with
  pub end_banks : (e : Event) (id t p : ℕ) (i : Index) (v w : View) → IsLegal log → MayFollow log e → put_cell e ≡ None → ((s : ℕ) → ends s e ≡ true → s ≡ t)
      → get_elem? views id ≡ some v → w.role ≡ v.role → v.right ≡ Section t p i [] None → w.right ≡ Nothing → KeepsBanks bounds homes (set views id w) (log ++ e ∷ []) texts
  end_banks e id t p i v w legal may none only at role right gone = let f = b.each id v at in
      event_banks e id v w legal may none (λ s y. subst (λ z. mine z b.books.units ≡ []) (sym (only s y)) (sym (f.section t (ap section_in right)) ∙ ap units_in right)) at (ap hand_in gone ∙ sym (ap hand_in right))
      (bank_free (log ++ e ∷ []) b.lane_of id w (λ q mans. f.lane q (subst (λ z. Mans z q) role mans)) gone)

  -- other seats, who have in hand what was in hand
  pub reseat_banks : (views' : List View) (lane_of' : ℕ → ℕ) → ((j : ℕ) (v : View) (h : Hand) → get_elem? views j ≡ some v → hand_in v.right ≡ Some h → (w : View) × (get_elem? views' j ≡ some w) × (hand_in w.right ≡ Some h))
      → ((j : ℕ) (d : View) → get_elem? views' j ≡ some d → FitsBank bounds.processors log b.books lane_of' j d) → KeepsBanks bounds homes views' log texts
  reseat_banks views' lane_of' hands each = record {
    books = b.books;
    lane_of = lane_of';
    wide = b.wide;
    home = b.home;
    bare = b.bare;
    hands = λ i j is. let h = b.hands i j is in let n = hands j h.0 h.1 h.2 h.3 in (n.0, h.1, n.1, n.2, h.4);
    lent = b.lent;
    sums = b.sums;
    most = b.most;
    vaults = b.vaults;
    one_vault = b.one_vault;
    offers = b.offers;
    each = each;
  }

  -- a seat is cut in two
  pub split_banks : (lane_of' : ℕ → ℕ) (id : ℕ) (v left right : View) → get_elem? views id ≡ some v → hand_in left.right ≡ hand_in v.right → FitsBank bounds.processors log b.books lane_of' id left → FitsBank bounds.processors log b.books lane_of' (length views) right
      → ((j : ℕ) (d : View) → j ≢ id → FitsAt log j d → FitsBank bounds.processors log b.books lane_of' j d) → KeepsBanks bounds homes (set views id left ++ right ∷ []) log texts
  split_banks lane_of' id v left right at same a c others = reseat_banks (set views id left ++ right ∷ []) lane_of'
      (λ j d h there has. dite (ℕ_discrete j id)
      (λ e. let dv : d ≡ v = some-injective d v (sym there ∙ (ap (get_elem? views) e ∙ at)) in
      (left, at_longer (set views id left) (right ∷ []) j left (ap (get_elem? (set views id left)) e ∙ set_here views id left (at_below views v id at)), same ∙ (ap (λ (z : View). hand_in z.right) (sym dv) ∙ has)))
      (λ ne. (d, at_longer (set views id left) (right ∷ []) j d (set_else views id j left ne ∙ there), has)))
      (views_split (FitsBank bounds.processors log b.books lane_of') views id v left right at a c (λ j d ne e. others j d ne (b.each j d e)))

  -- two seats become one
  pub join_banks : (id : ℕ) (v : View) (other : ℕ) (w both gone : View) → get_elem? views id ≡ some v → get_elem? views other ≡ some w → hand_in v.right ≡ None
      → hand_in w.right ≡ None → FitsAt log id both → FitsAt log other gone → KeepsBanks bounds homes (set (set views id both) other gone) log texts
  join_banks id v other w both gone at at' free free' a c = reseat_banks (set (set views id both) other gone) b.lane_of
      (λ j d h there has. (
        d,
        set_else (set views id both) other j gone (λ e. no_some h (sym free' ∙ (ap (λ (z : View). hand_in z.right) (sym (some-injective d w (sym there ∙ (ap (get_elem? views) e ∙ at')))) ∙ has)))
            ∙ (set_else views id j both (λ e. no_some h (sym free ∙ (ap (λ (z : View). hand_in z.right) (sym (some-injective d v (sym there ∙ (ap (get_elem? views) e ∙ at)))) ∙ has))) ∙ there),
        has,
      ))
      (views_set (FitsAt log) (set views id both) other gone c (λ j d ne e. views_set (FitsAt log) views id both a (λ i z _ y. b.each i z y) j d e))

  -- the same right elsewhere
  pub bank_moved : (lane_of' : ℕ → ℕ) (i j : ℕ) (v w : View) → FitsAt log i v → ((p : ℕ) → Mans w.role p → lane_of' p ≡ j) → w.right ≡ v.right → hand_in v.right ≡ None → FitsBank bounds.processors log b.books lane_of' j w
  bank_moved lane_of' i j v w f lane same free = record {
    lane = lane;
    section = λ s is. ap units_in same ∙ f.section s (sym (ap section_in same) ∙ is);
    plan = λ c q is. f.plan c q (subst (λ z. PlanIn z c q) same is);
    holds = λ h is. absurd (no_some h (sym (ap hand_in same ∙ free) ∙ is));
    reads = λ h s is i. absurd (no_some h (sym (ap hand_in same ∙ free) ∙ is));
    writes = λ h c q is i. absurd (no_some h (sym (ap hand_in same ∙ free) ∙ is));
  }

  -- a part of the plans elsewhere, with nothing in hand and no section
  pub bank_plans : (lane_of' : ℕ → ℕ) (i j : ℕ) (v w : View) → FitsAt log i v → ((p : ℕ) → Mans w.role p → lane_of' p ≡ j) → section_in w.right ≡ 0 → hand_in w.right ≡ None → ((c : ℕ) (q : Plan) → PlanIn w.right c q → PlanIn v.right c q) → FitsBank bounds.processors log b.books lane_of' j w
  bank_plans lane_of' i j v w f lane none free plans = record {
    lane = lane;
    section = λ s is. absurd (omega (arith, none, is));
    plan = λ c q is. f.plan c q (plans c q is);
    holds = λ h is. absurd (no_some h (sym free ∙ is));
    reads = λ h s is i. absurd (no_some h (sym free ∙ is));
    writes = λ h c q is i. absurd (no_some h (sym free ∙ is));
  }

  -- an event that is no Put and ends no section, of which no seat is told
  pub one_later : (e : Event) → IsLegal log → MayFollow log e → put_cell e ≡ None → ((s : ℕ) → ends s e ≡ false) → KeepsBanks bounds homes views (log ++ e ∷ []) texts
  one_later e legal may none unended = record {
    books = b.books;
    lane_of = b.lane_of;
    wide = b.wide;
    home = b.home;
    bare = b.bare;
    hands = b.hands;
    lent = lent_later e (λ s y. absurd (no_both (sym (unended s) ∙ y)));
    sums = b.sums;
    most = b.most;
    vaults = b.vaults;
    one_vault = b.one_vault;
    offers = offers_later (log ++ e ∷ []) (clear_later e legal may none) (λ c x. shelved_kept c x log e (no_put_of e none c x));
    each = λ j d at. fits_event e j d legal may none (b.each j d at);
  }

  -- the next processor gets a seat
  pub deal_banks : (id k : ℕ) (v left right : View) → get_elem? views id ≡ some v → v.role ≡ Driver k → left.right ≡ v.right → left.role ≡ Driver (k + 1) → right.role ≡ Cpu k → right.right ≡ Nothing → hand_in v.right ≡ None → KeepsBanks bounds homes (set views id left ++ right ∷ []) log texts
  deal_banks id k v left right at is same lrole rrole none free = let f = b.each id v at in let m : ℕ = length views in let lane' : ℕ → ℕ = given k m b.lane_of in let mine_all : (p : ℕ) → k ≤ p → b.lane_of p ≡ id = λ p le. f.lane p (subst (λ z. Mans z p) (sym is) le) in
      split_banks lane' id v left right at (ap hand_in same)
      (bank_moved lane' id id v left f (λ p mans. let le : k + 1 ≤ p = subst (λ z. Mans z p) lrole mans in given_else k m b.lane_of p (λ e. omega (arith, e, le)) ∙ mine_all p (omega (arith, le))) same free)
      (bank_free log lane' m right (λ p mans. let kp : k ≡ p = subst (λ z. Mans z p) rrole mans in ap lane' (sym kp) ∙ given_here k m b.lane_of) none)
      (λ j d ne g. let apart : (p : ℕ) → b.lane_of p ≡ j → p ≢ k = λ p l e. ne (sym l ∙ mine_all p (omega (arith, e))) in record {
        lane = λ p mans. given_else k m b.lane_of p (apart p (g.lane p mans)) ∙ g.lane p mans;
        section = g.section;
        plan = g.plan;
        holds = g.holds;
        reads = λ h s is i. let r = g.reads h s is i in (given_else k m b.lane_of h.processor (apart h.processor r.0) ∙ r.0, r.1, r.2);
        writes = g.writes;
      })

pub total_zero : (n : ℕ) → sum n (λ _. 0) + 0 ≡ 0
total_zero zero = refl
total_zero (suc n) = let a = total_zero n in omega (arith, a)

-- nothing is in hand

pub free_nothing : (y : Right) → y ≡ Nothing → hand_in y ≡ None
free_nothing y e = ap hand_in e

pub free_section : (y : Right) (s p : ℕ) (i : _) (us : List Lent) → y ≡ Section s p i us None → hand_in y ≡ None
free_section y s p i us e = ap hand_in e

pub free_shelf : (y : Right) (c : ℕ) (own : List ℕ) (h : List Event) (q : Plan) → y ≡ Shelf c own h q → q.hand ≡ None → hand_in y ≡ None
free_shelf y c own h q e free = ap hand_in e ∙ free
