-- What a Put leaves of what the rule says of keys and parts.
use Rattle.std.proofs.Common.{◌≡◌, ℕ, ◌+◌, ◌*◌, ◌<◌, ◌≤◌, ◌≢◌, ◌⊎◌, Bool, true, false, eqb, ◌&&◌, List, [], ◌∷◌, ◌++◌, None, length, set, get_or, refl, sym, ap, ◌∙◌, subst, inl, inr, ⊎_elim, eqb-true, ne_eqb, arith, length-set, get_or-set_same, get_or-set_other}
use Rattle.std.proofs.lemmas.List.Elements.{All-push}
use mathlib.Core.Logic.{dite}
use mathlib.Core.Option.{some, some-injective}
use mathlib.Core.Option as maybe
use native.Mathlib.Decide.{ℕ_discrete}
use lib.ListN.{get_elem?}
use Rattle.atomic_table.specs.Table.{State}
use Rattle.atomic_table.proofs.Lists.{set_else}
use Rattle.onedom.specs.declared.event.Event.{Event}
use Rattle.onedom.specs.declared.event.Event.TheVariants.{Begin, End, Start, Finish, Note, Ask, Find, Put}
use Rattle.onedom.specs.declared.event.Maker.{Maker}
use Rattle.onedom.specs.Histories.{version_of, puts, shelved, IsClear, MayFollow, IsLegal}
use Rattle.onedom.proofs.CallerLemmas.{open_stays, along, shelved_kept, shelved_put, version_put, version_up, clear_until_put}
use Rattle.sections.specs.Glossary.{Slot, Bounds, Bank, Plan, Offer, Text, Right, View, texts_of, offer_of, IsStart, AreTextsOf, Writes, Kept, key_place, section_in, hand_in, no_bank, bank_of, with_bank, PlanIn, offered, plan_put, Mans, vault_in, IsLent, IsPlan, HasVault, IsOffered, Books, FitsBank, KeepsBanks}
use Rattle.sections.specs.declared.view.Right.TheVariants.{Nothing, Section, Shelf, Undealt}
use Rattle.sections.proofs.Knowing.{views_set, false≠true}
use Rattle.sections.proofs.Banking.{no_some, met_later, All_but, bank_later}
use Rattle.sections.proofs.Finding.{texts_are}
use Rattle.sections.proofs.Offers.{offer_stays, put_offer, offer_fits, one_vault_put}

-- a slot has no version that its cell didn't have
pub shelved_low : (c x : ℕ) (h : List Event) → IsLegal h → shelved c x h ≤ version_of c h
shelved_low c x h legal = along (λ l. shelved c x l ≤ version_of c l) (omega arith) on h legal
  where
    kept : (l : List Event) (e : Event) → puts c x e ≡ false → MayFollow l e → shelved c x l ≤ version_of c l → shelved c x (l ++ e ∷ []) ≤ version_of c (l ++ e ∷ [])
    kept l e miss may was = let s = shelved_kept c x l e miss in let v = version_up c l e may in omega (arith, s, v, was)

    either : (l : List Event) (d y w : ℕ) (by : Maker) → MayFollow l (Put d y w by) → shelved c x l ≤ version_of c l → (b : Bool) → (eqb d c && eqb y x) ≡ b → shelved c x (l ++ Put d y w by ∷ []) ≤ version_of c (l ++ Put d y w by ∷ [])
    either l d y w by may was false is = kept l (Put d y w by) is may was
    either l d y w by may was true is = both (eqb d c) (eqb y x) refl refl is
      where
        both : (a b : Bool) → eqb d c ≡ a → eqb y x ≡ b → (eqb d c && eqb y x) ≡ true → shelved c x (l ++ Put d y w by ∷ []) ≤ version_of c (l ++ Put d y w by ∷ [])
        both true true dc yx h = subst (λ (z : ℕ × ℕ). shelved z.0 z.1 (l ++ Put d y w by ∷ []) ≤ version_of z.0 (l ++ Put d y w by ∷ [])) (λ k. (eqb-true d c dc k, eqb-true y x yx k))
            (let s = shelved_put d y w by l in let v = version_put d y w by l in omega (arith, s, v))
        both true false dc yx h = absurd (false≠true (sym (ap (λ b. eqb d c && b) yx ∙ ap (λ b. b && false) dc) ∙ h))
        both false b dc yx h = absurd (false≠true (sym (ap (λ a. a && eqb y x) dc) ∙ h))

    on : (l : List Event) (e : Event) → IsLegal l → MayFollow l e → shelved c x l ≤ version_of c l → shelved c x (l ++ e ∷ []) ≤ version_of c (l ++ e ∷ [])
    on l (Begin s p i by) le may was = kept l (Begin s p i by) refl may was
    on l (End s q by) le may was = kept l (End s q by) refl may was
    on l (Start by) le may was = kept l (Start by) refl may was
    on l (Finish by) le may was = kept l (Finish by) refl may was
    on l (Note k by) le may was = kept l (Note k by) refl may was
    on l (Ask k b by) le may was = kept l (Ask k b by) refl may was
    on l (Find s d y v by) le may was = kept l (Find s d y v by) refl may was
    on l (Put d y w by) le may was = either l d y w by may was (eqb d c && eqb y x) refl

-- Banks

pub bank_here : (q : Plan) (x y : ℕ) (b : Bank) → y ≡ x → x < length q.banks → bank_of (with_bank q x b) y ≡ b
bank_here q x y b e lt = ap (λ z. get_or (set q.banks x b) z no_bank) e ∙ get_or-set_same q.banks x b no_bank lt

pub bank_else : (q : Plan) (x y : ℕ) (b : Bank) → y ≢ x → bank_of (with_bank q x b) y ≡ bank_of q y
bank_else q x y b ne = get_or-set_other q.banks x y b no_bank ne

-- Who has which plan

plan_writer : (bounds : Bounds) (words : List ℕ) (log : List Event) (writer_of : ℕ → ℕ) (j : ℕ) (t : Right) (c : ℕ) (q : Plan) → Writes bounds words log writer_of j t → PlanIn t c q → writer_of c ≡ j
plan_writer bounds words log writer_of j Nothing c q w is = absurd is
plan_writer bounds words log writer_of j (Section s p i us hand) c q w is = absurd is
plan_writer bounds words log writer_of j (Shelf d own seen r) c q w is = ap writer_of (sym is.0) ∙ w.writer
plan_writer bounds words log writer_of j (Undealt k) c q w is = (w c is.0).writer

-- the plan of a cell is at its writer's seat alone
pub others_apart : {bounds : Bounds} (s : State Slot View) (r : Kept bounds s) (id c : ℕ) → r.shelf.writer_of c ≡ id → (j : ℕ) (d : View) → j ≢ id → get_elem? s.views j ≡ some d → (e : ℕ) (q : Plan) → PlanIn d.right e q → e ≢ c
others_apart {bounds = bounds} s r id c writer j d ne at e q is same = ne (sym (plan_writer bounds s.words r.log r.shelf.writer_of j d.right e q (r.shelf.each j d at).writes is) ∙ (ap r.shelf.writer_of same ∙ writer))

-- A version is put

module _ (bounds : Bounds) (homes : List (maybe.Option Slot)) (views : List View) (log : List Event) (texts : List Text) (b : KeepsBanks bounds homes views log texts) (id : ℕ) (v w : View) (c x n : ℕ) (by : Maker) (own : List ℕ) (h h' : List Event) (q : Plan) (t : Text)
    (legal : IsLegal log) (may : MayFollow log (Put c x n by)) (cells : AreTextsOf texts log) (at : get_elem? views id ≡ some v) (right : v.right ≡ Shelf c own h q) (free : q.hand ≡ None) (lx : x < 8)
    (role : w.role ≡ v.role) (now : w.right ≡ Shelf c own h' (plan_put q x)) (of_cell : t.cell ≡ c) (offer : t.offer ≡ offered q x) (apart : (j : ℕ) (d : View) → j ≢ id → get_elem? views j ≡ some d → (e : ℕ) (r : Plan) → PlanIn d.right e r → e ≢ c) where
  abbrev event : Event
  event = Put c x n by

  abbrev longer : List Event
  longer = log ++ event ∷ []

  abbrev k : Books
  k = b.books

  plan_is : IsPlan log k.vault_of k.keys k.stock k.laid k.round c q
  plan_is = (b.each id v at).plan c q (subst (λ z. PlanIn z c q) (sym right) (refl, refl))

  and_false : (z : Bool) → (z && false) ≡ false
  and_false true = refl
  and_false false = refl

  other_cell : (d z : ℕ) → d ≢ c → puts d z event ≡ false
  other_cell d z ne = ap (λ y. y && eqb x z) (ne_eqb c d (λ e. ne (sym e)))

  other_slot : (d z : ℕ) → z ≢ x → puts d z event ≡ false
  other_slot d z ne = ap (λ y. eqb c d && y) (ne_eqb x z (λ e. ne (sym e))) ∙ and_false (eqb c d)

  clear_else : (d z : ℕ) → puts d z event ≡ false → IsClear log d z → IsClear longer d z
  clear_else d z miss clear = clear_until_put log event d z legal may miss clear

  long : (d : ℕ) → length (texts_of d texts) ≡ version_of d log
  long d = texts_are d texts log legal cells

  start : IsStart texts (texts ++ t ∷ [])
  start = record { rest = t ∷ []; whole = refl }

  offers_else : (d z : ℕ) → puts d z event ≡ false → IsClear log d z ⊎ IsOffered k.stock k.laid k.round (8 * d + z) (offer_of d (shelved d z log) texts) → IsClear longer d z ⊎ IsOffered k.stock k.laid k.round (8 * d + z) (offer_of d (shelved d z longer) (texts ++ t ∷ []))
  offers_else d z miss o = ⊎_elim (λ (clear : IsClear log d z). inl (clear_else d z miss clear))
      (λ (o : IsOffered k.stock k.laid k.round (8 * d + z) (offer_of d (shelved d z log) texts)).
      inr (subst (IsOffered k.stock k.laid k.round (8 * d + z)) (sym (ap (λ m. offer_of d m (texts ++ t ∷ [])) (shelved_kept d z log event miss) ∙ offer_stays d (shelved d z log) texts (texts ++ t ∷ []) start (let a = shelved_low d z log legal in let m = long d in omega (arith, a, m)))) o)) o

  offer_put : offer_of c n (texts ++ t ∷ []) ≡ offered q x
  offer_put = ap (λ m. offer_of c m (texts ++ t ∷ [])) may.1 ∙ (put_offer c (version_of c log) texts t of_cell (long c) ∙ offer)

  offers_there : IsOffered k.stock k.laid k.round (8 * c + x) (offer_of c (shelved c x longer) (texts ++ t ∷ []))
  offers_there = subst (IsOffered k.stock k.laid k.round (8 * c + x)) (sym (ap (λ m. offer_of c m (texts ++ t ∷ [])) (shelved_put c x n by log) ∙ offer_put)) record { total = plan_is.totals x lx; rounds = plan_is.rounds x lx; some = λ ly p lt. plan_is.some x p (omega (arith, ly)) lx lt }

  plan_after : IsPlan longer k.vault_of k.keys k.stock k.laid k.round c (plan_put q x)
  plan_after = let a = plan_is in let eight = a.eight in let low = lx in let was : Bank = bank_of q x in let b' : Bank = record was { emptied = 0 } in let here : (y : ℕ) → y ≡ x → bank_of (plan_put q x) y ≡ b' = λ y e. bank_here q x y b' e (omega (arith, low, eight)) in record {
    eight = length-set q.banks x b' ∙ a.eight;
    laid_keys = a.laid_keys;
    vault = a.vault;
    totals = λ y ly. dite (ℕ_discrete y x) (λ e. ap (λ (z : Bank). z.laid) (here y e) ∙ (a.totals x lx ∙ ap (λ z. k.laid (8 * c + z)) (sym e))) (λ ne. ap (λ (z : Bank). z.laid) (bank_else q x y b' ne) ∙ a.totals y ly);
    rounds = λ y ly more. dite (ℕ_discrete y x) (λ e. ap (λ (z : Bank). z.round) (here y e) ∙ (a.rounds x lx (subst (λ z. 0 < k.laid (8 * c + z)) e more) ∙ ap (λ z. k.round (8 * c + z)) (sym e))) (λ ne. ap (λ (z : Bank). z.round) (bank_else q x y b' ne) ∙ a.rounds y ly more);
    some = λ y p lc ly lt. dite (ℕ_discrete y x) (λ e. subst (λ z. 0 < k.stock (key_place (8 * c + z) p)) (sym e) (a.some x p lc lx (let m = ap (λ (z : Bank). z.each) (here y e) in omega (arith, m, lt))))
        (λ ne. a.some y p lc ly (let m = ap (λ (z : Bank). z.each) (bank_else q x y b' ne) in omega (arith, m, lt)));
    empty = λ y p lc ly lt. dite (ℕ_discrete y x) (λ e. let m = ap (λ (z : Bank). z.emptied) (here y e) in absurd (omega (arith, lt, m))) (λ ne. a.empty y p lc ly (let m = ap (λ (z : Bank). z.emptied) (bank_else q x y b' ne) in omega (arith, m, lt)));
    rests = λ y ly lt. dite (ℕ_discrete y x) (λ e. let m = ap (λ (z : Bank). z.emptied) (here y e) in absurd (omega (arith, lt, m))) (λ ne. clear_else c y (other_slot c y ne) (a.rests y ly (let m = ap (λ (z : Bank). z.emptied) (bank_else q x y b' ne) in omega (arith, m, lt))));
  }

  abbrev texts' : List Text
  texts' = texts ++ t ∷ []

  fits_here : FitsBank bounds.processors longer k b.lane_of id w
  fits_here = let f = b.each id v at in record {
    lane = λ p mans. f.lane p (subst (λ z. Mans z p) role mans);
    section = λ s is. let a = ap section_in now in absurd (omega (arith, a, is));
    plan = λ e r is. let at_now : (c ≡ e) × (plan_put q x ≡ r) = subst (λ z. PlanIn z e r) now is in subst (λ (z : ℕ × Plan). IsPlan longer k.vault_of k.keys k.stock k.laid k.round z.0 z.1) (λ i. (at_now.0 i, at_now.1 i)) plan_after;
    holds = λ g is. absurd (no_some g (sym (ap hand_in now) ∙ is));
    reads = λ g s is i. absurd (no_some g (sym (ap hand_in now) ∙ is));
    writes = λ g e r is i. absurd (no_some g (sym (ap hand_in now) ∙ is));
  }

  pub put_banks : KeepsBanks bounds homes (set views id w) longer texts'
  put_banks = record {
    books = k;
    lane_of = b.lane_of;
    wide = b.wide;
    home = b.home;
    bare = b.bare;
    hands = λ i j is. let g = b.hands i j is in (g.0, g.1, set_else views id j w (λ e. no_some g.1 (sym (ap hand_in right ∙ free) ∙ (ap (λ (z : View). hand_in z.right) (sym (some-injective g.0 v (sym g.2 ∙ (ap (get_elem? views) e ∙ at)))) ∙ g.3))) ∙ g.2, g.3, g.4);
    lent = All_but (λ u. IsLent log k.round u) (λ u. IsLent longer k.round u) k.units (λ u a. record { opened = open_stays u.section log event refl a.opened; met = met_later log event u.section u.slot a.met; rounds = a.rounds }) b.lent;
    sums = b.sums;
    most = b.most;
    vaults = All-push (HasVault k.vault_of k.keys) texts t b.vaults record {
      few = let e = ap (λ (z : Offer). z.keys) offer in let m = plan_is.laid_keys in let same = ap k.keys of_cell in omega (arith, e, m, same);
      vault = λ some_keys. ap (λ (z : Offer). vault_in z.vault) offer ∙ (plan_is.vault (let e = ap (λ (z : Offer). z.keys) offer in omega (arith, e, some_keys)) ∙ ap k.vault_of (sym of_cell));
    };
    one_vault = one_vault_put c texts t of_cell
        (λ u. let a = (offer_fits k.vault_of k.keys c u texts b.vaults).0 in let e = ap (λ (z : Offer). z.keys) offer in let m = plan_is.laid_keys in omega (arith, a, e, m))
        (λ u some_keys. let a = offer_fits k.vault_of k.keys c u texts b.vaults in ap (λ (z : Offer). vault_in z.vault) offer ∙ (plan_is.vault (let low = a.0 in let m = plan_is.laid_keys in omega (arith, low, m, some_keys)) ∙ sym (a.1 some_keys)))
        b.one_vault;
    offers = λ d z ld lz. dite (ℕ_discrete d c)
        (λ e. dite (ℕ_discrete z x)
        (λ f. inr (subst (λ (m : ℕ × ℕ). IsOffered k.stock k.laid k.round (8 * m.0 + m.1) (offer_of m.0 (shelved m.0 m.1 longer) texts')) (λ i. (sym e i, sym f i)) offers_there))
        (λ f. offers_else d z (other_slot d z f) (b.offers d z ld lz)))
        (λ ne. offers_else d z (other_cell d z ne) (b.offers d z ld lz));
    each = views_set (FitsBank bounds.processors longer k b.lane_of) views id w fits_here (λ j d ne e. bank_later bounds.processors log longer k b.lane_of j d (λ s y m. met_later log event s y m) (λ f r is z. clear_else f z (other_cell f z (apart j d ne e f r is))) (b.each j d e));
  }
