-- A key is taken, and given back: what the rule says of keys and parts then.
use Rattle.std.proofs.Common.{◌≡◌, ℕ, zero, suc, ◌+◌, ◌*◌, ◌/◌, ◌%◌, ◌<◌, ◌≤◌, ◌≢◌, ◌⊎◌, inl, inr, ⊎_elim, List, [], ◌∷◌, All, Option, Some, None, set, refl, sym, ap, ◌∙◌, subst, arith, length-set}
use mathlib.Core.Logic.{dite}
use mathlib.Core.Option.{some, none, some-injective}
use mathlib.Core.Option as maybe
use native.Mathlib.Decide.{ℕ_discrete}
use lib.ListN.{get_elem?}
use Rattle.atomic_table.specs.Seated.{TableId}
use Rattle.atomic_table.proofs.Lists.{set_here, set_else}
use Rattle.onedom.specs.declared.event.Event.{Event}
use Rattle.vault.specs.declared.key.Tally.{Tally}
use Rattle.vault.specs.Rule.{key_of}
use Rattle.onedom.specs.Histories.{IsOpen, shelved, IsClear}
use Rattle.sections.specs.Glossary.{many, sum, Slot, Bounds, Lent, Hand, Plan, Text, Right, View, offer_of, key_place, vault_place, place_of, IsKeyed, is_at, mine, section_in, hand_in, PlanIn, IsKeyTo, IsLent, IsPlan, HasVault, IsOffered, Books, FitsBank, KeepsBanks}
use Rattle.sections.specs.declared.view.Right.TheVariants.{Nothing, Section, Shelf, Undealt}
use Rattle.sections.specs.Banks.{HasMet}
use Rattle.sections.proofs.Counting.{put, put_here, put_else, same_place}
use Rattle.sections.proofs.Banking.{no_some}
use Rattle.sections.proofs.Knowing.{at_below, views_set}

abbrev or : {A : Type 0} → A → Option A → A
or d None = d
or d (Some a) = a

pub same_some : {A : Type 0} (a b : A) → Some a ≡ Some b → a ≡ b
same_some a b e = ap (or a) e

-- who has a key in hand has the right to a section, or to a cell
pub for_whom : (y : Right) (h : Hand) → hand_in y ≡ Some h → ((s : ℕ) × (section_in y ≡ suc s)) ⊎ ((c : ℕ) × (q : Plan) × PlanIn y c q)
for_whom Nothing h e = absurd (no_some h e)
for_whom (Section s p i us g) h e = inl (s, refl)
for_whom (Shelf c own seen q) h e = inr (c, q, (refl, refl))
for_whom (Undealt c) h e = absurd (no_some h e)

-- the key at place i is out with this seat
abbrev pub taken : Books → ℕ → ℕ → Books
taken k i id = record k { handed = put k.handed i (suc id) }

-- it lies there again, to so many parts
abbrev pub given : Books → ℕ → ℕ → List Lent → (ℕ → ℕ) → (ℕ → ℕ) → (ℕ → ℕ) → (ℕ → TableId) → Books
given k i c units laid round keys vault_of = record { vault_of = vault_of; keys = keys; units = units; stock = put k.stock i c; handed = put k.handed i 0; laid = laid; round = round }

module _ (bounds : Bounds) (homes : List (maybe.Option Slot)) (views : List View) (log : List Event) (texts : List Text) (b : KeepsBanks bounds homes views log texts) where
  abbrev k : Books
  k = b.books

  same_view : (j : ℕ) (v w : View) → get_elem? views j ≡ some v → (id : ℕ) → get_elem? views id ≡ some w → j ≡ id → v ≡ w
  same_view j v w at id there e = some-injective v w (sym at ∙ (ap (get_elem? views) e ∙ there))

  -- a seat with nothing in hand takes a key that is at home
  pub take_bank : (id y p : ℕ) (v w : View) (h : Hand) → get_elem? views id ≡ some v → hand_in v.right ≡ None → y < 32 → p < bounds.processors → b.books.handed (key_place y p) ≡ 0 → hand_in w.right ≡ Some h → place_of h ≡ key_place y p
      → FitsBank bounds.processors log (taken b.books (key_place y p) id) b.lane_of id w → KeepsBanks bounds (set homes (key_place y p) none) (set views id w) log texts
  take_bank id y p v w h at free ly lp home has is fits = let i : ℕ = key_place y p in let handed' : ℕ → ℕ = put k.handed i (suc id) in record {
    books = taken k i id;
    lane_of = b.lane_of;
    wide = length-set homes i none ∙ b.wide;
    home = λ z q lz lq out. dite (ℕ_discrete (key_place z q) i) (λ e. let a = put_here k.handed i (suc id) (key_place z q) e in absurd (omega (arith, a, out)))
        (λ ne. let a = b.home z q lz lq (sym (put_else k.handed i (suc id) (key_place z q) ne) ∙ out) in (a.0, a.1, set_else homes i (key_place z q) none ne ∙ a.2));
    bare = b.bare;
    hands = λ g j out. dite (ℕ_discrete g i)
        (λ e. let a = put_here k.handed i (suc id) g e in let j_id : j ≡ id = omega (arith, a, out) in (w, h, ap (get_elem? (set views id w)) j_id ∙ set_here views id w (at_below views v id at), has, is ∙ sym e))
        (λ ne. let a = b.hands g j (sym (put_else k.handed i (suc id) g ne) ∙ out) in
        (a.0, a.1, set_else views id j w (λ e. no_some a.1 (sym free ∙ (ap (λ (z : View). hand_in z.right) (sym (same_view j a.0 v a.2 id at e)) ∙ a.3))) ∙ a.2, a.3, a.4));
    lent = b.lent;
    sums = b.sums;
    most = b.most;
    vaults = b.vaults;
    one_vault = b.one_vault;
    offers = b.offers;
    each = views_set (FitsBank bounds.processors log (taken k i id) b.lane_of) views id w fits (λ j d ne e. let g = b.each j d e in record {
      lane = g.lane;
      section = g.section;
      plan = g.plan;
      holds = λ x e2. let a = g.holds x e2 in record {
        slot = a.slot;
        processor = a.processor;
        handed_out = put_else k.handed i (suc id) (place_of x) (λ same. let m = a.handed_out in let z = ap k.handed same in omega (arith, m, z, home)) ∙ a.handed_out;
        counts = a.counts;
        rounds = a.rounds;
        of = a.of;
      };
      reads = g.reads;
      writes = g.writes;
    });
  }

  -- a seat gives back the key that it has in hand
  pub give_bank : (id c : ℕ) (units : List Lent) (laid round keys : ℕ → ℕ) (vault_of : ℕ → TableId) (h : Hand) (key : Slot) (v w : View) → get_elem? views id ≡ some v → hand_in v.right ≡ Some h → hand_in w.right ≡ None
      → IsKeyTo (vault_of (h.slot / 8)) (vault_place h.slot h.processor) c (round h.slot) key
      → ((y q : ℕ) → y < 32 → key_place y q ≢ place_of h → IsKeyed keys y q → IsKeyed b.books.keys y q × (vault_of (y / 8) ≡ b.books.vault_of (y / 8)))
      → ((e : ℕ) → b.books.keys e ≤ keys e)
      → (keys (h.slot / 8) ≤ vault_place h.slot h.processor → c ≡ 0)
      → ((y q : ℕ) → y < 32 → q < bounds.processors → key_place y q ≢ place_of h → 0 < b.books.stock (key_place y q) → b.books.round y ≡ round y)
      → All (IsLent log round) units
      → ((y : ℕ) → y < 32 → sum bounds.processors (λ p. put b.books.stock (place_of h) c (key_place y p)) + many (is_at y) units ≡ laid y)
      → ((y : ℕ) → y < 32 → laid y ≤ 9223372036854775808)
      → All (HasVault vault_of keys) texts
      → ((d x : ℕ) → d < bounds.cells → x < 8 → IsClear log d x ⊎ IsOffered (put b.books.stock (place_of h) c) laid round (8 * d + x) (offer_of d (shelved d x log) texts))
      → FitsBank bounds.processors log (given b.books (place_of h) c units laid round keys vault_of) b.lane_of id w
      → ((j : ℕ) (d : View) → j ≢ id → get_elem? views j ≡ some d → (s : ℕ) → section_in d.right ≡ suc s → mine s b.books.units ≡ mine s units)
      → ((j : ℕ) (d : View) → j ≢ id → get_elem? views j ≡ some d → (e : ℕ) (r : Plan) → PlanIn d.right e r → IsPlan log b.books.vault_of b.books.keys b.books.stock b.books.laid b.books.round e r → IsPlan log vault_of keys (put b.books.stock (place_of h) c) laid round e r)
      → KeepsBanks bounds (set homes (place_of h) (some key)) (set views id w) log texts
  give_bank id c units laid round keys vault_of h key v w at has none_now opens others more unkeyed rounds lent sums most vaults offers fits sections plans = let i : ℕ = place_of h in let k' : Books = given k i c units laid round keys vault_of in let had = (b.each id v at).holds h has in record {
    books = k';
    lane_of = b.lane_of;
    wide = length-set homes i (some key) ∙ b.wide;
    home = λ y q ly lq out. dite (ℕ_discrete (key_place y q) i)
        (λ e. let pl = same_place y q h.slot h.processor ly had.slot e in let inside = had.processor in let low = had.slot in let wide = b.wide in (
          key,
          (λ _. subst (λ (t : ℕ × ℕ × ℕ). IsKeyTo (vault_of (t.0 / 8)) (vault_place t.0 t.1) t.2 (round t.0) key) (λ m. (sym pl.0 m, sym pl.1 m, sym (put_here k.stock i c (key_place y q) e) m)) opens),
          ap (get_elem? (set homes i (some key))) e ∙ set_here homes i (some key) (omega (arith, inside, low, wide)),
        ))
        (λ ne. let a = b.home y q ly lq (sym (put_else k.handed i 0 (key_place y q) ne) ∙ out) in (
          a.0,
          (λ keyed. let o = others y q ly ne keyed in let t = a.1 o.0 in (
            t.0,
            (t.1.0 ∙ sym o.1, t.1.1 ∙ key_of_as (vault_place y q) (k.stock (key_place y q)) (put k.stock i c (key_place y q)) t.0 (sym (put_else k.stock i c (key_place y q) ne))),
            λ some_there. let n = put_else k.stock i c (key_place y q) ne in
                let was : 0 < k.stock (key_place y q) = omega (arith, some_there, n) in t.2 was ∙ rounds y q ly lq ne was,
          )),
          set_else homes i (key_place y q) (some key) ne ∙ a.2,
        ));
    bare = λ y p ly le. dite (ℕ_discrete (key_place y p) i)
        (λ e. let pl = same_place y p h.slot h.processor ly had.slot e in put_here k.stock i c (key_place y p) e ∙ unkeyed (subst (λ (t : ℕ × ℕ). keys (t.0 / 8) ≤ vault_place t.0 t.1) (λ m. (pl.0 m, pl.1 m)) le))
        (λ ne. put_else k.stock i c (key_place y p) ne ∙ b.bare y p ly (let up = more (y / 8) in omega (arith, up, le)));
    hands = λ g j out. dite (ℕ_discrete g i) (λ e. let a = put_here k.handed i 0 g e in absurd (omega (arith, a, out)))
        (λ ne. let a = b.hands g j (sym (put_else k.handed i 0 g ne) ∙ out) in
        (a.0, a.1, set_else views id j w (λ e. ne (sym a.4 ∙ ap place_of (same_some a.1 h (sym a.3 ∙ (ap (λ (z : View). hand_in z.right) (same_view j a.0 v a.2 id at e) ∙ has))))) ∙ a.2, a.3, a.4));
    lent = lent;
    sums = sums;
    most = most;
    vaults = vaults;
    one_vault = b.one_vault;
    offers = offers;
    each = views_set (FitsBank bounds.processors log k' b.lane_of) views id w fits (λ j d ne e. let g = b.each j d e in
        let apart : (x : Hand) → hand_in d.right ≡ Some x → place_of x ≢ i = λ x e2 same. ne (let m = (g.holds x e2).handed_out in let n = had.handed_out in let z = ap k.handed same in omega (arith, m, n, z)) in record {
          lane = g.lane;
          section = λ s is. g.section s is ∙ sections j d ne e s is;
          plan = λ f r is. plans j d ne e f r is (g.plan f r is);
          holds = λ x e2. let a = g.holds x e2 in let ap_ = apart x e2 in record {
            slot = a.slot;
            processor = a.processor;
            handed_out = put_else k.handed i 0 (place_of x) ap_ ∙ a.handed_out;
            counts = a.counts ∙ sym (put_else k.stock i c (place_of x) ap_);
            rounds = λ some_held. a.rounds some_held ∙ rounds x.slot x.processor a.slot a.processor ap_ (let n = a.counts in omega (arith, some_held, n));
            of = λ keyed. let o = others x.slot x.processor a.slot ap_ keyed in a.of o.0 ∙ sym o.1;
          };
          reads = λ x s e2 is. let r = g.reads x s e2 is in (r.0, r.1, (let lt = r.2 in let up = more (x.slot / 8) in omega (arith, lt, up)));
          writes = λ x f r e2 is. let q = g.writes x f r e2 is in (q.0, λ keyed. q.1 (others x.slot x.processor (g.holds x e2).slot (apart x e2) keyed).0);
        });
  }
    where
      key_of_as : (i c c' n : ℕ) → c ≡ c' → ◌≡◌ {A = List Tally} (key_of i c n ∷ []) (key_of i c' n ∷ [])
      key_of_as i c c' n e = ap (λ z. key_of i z n ∷ []) e

  -- a key that no other seat can have is at home
  pub at_home : (id y p : ℕ) (v : View) → get_elem? views id ≡ some v → hand_in v.right ≡ None → ((j : ℕ) (d : View) (h : Hand) → get_elem? views j ≡ some d → hand_in d.right ≡ Some h → place_of h ≡ key_place y p → j ≡ id) → b.books.handed (key_place y p) ≡ 0
  at_home id y p v at free alone = case (k.handed (key_place y p)) refl
    where
      case : (n : ℕ) → k.handed (key_place y p) ≡ n → k.handed (key_place y p) ≡ 0
      case zero e = e
      case (suc j) e = let a = b.hands (key_place y p) j e in absurd (no_some a.1 (sym free ∙ (ap (λ (z : View). hand_in z.right) (sym (same_view j a.0 v a.2 id at (alone j a.0 a.1 a.2 a.3 a.4))) ∙ a.3)))

  -- a processor's key to a slot that somebody can read is with no other seat
  pub readers : (id y p : ℕ) → b.lane_of p ≡ id → y < 32 → IsKeyed b.books.keys y p → (IsClear log (y / 8) (y % 8) → ⊥) → (j : ℕ) (d : View) (h : Hand) → get_elem? views j ≡ some d → hand_in d.right ≡ Some h → place_of h ≡ key_place y p → j ≡ id
  readers id y p lane ly keyed readable j d h e has is = let f = b.each j d e in let a = f.holds h has in let pl = same_place h.slot h.processor y p a.slot ly is in ⊎_elim
      (λ (s : (s : ℕ) × (section_in d.right ≡ suc s)). sym (f.reads h s.0 has s.1).0 ∙ (ap b.lane_of pl.1 ∙ lane))
      (λ (q : (c : ℕ) × (q : Plan) × PlanIn d.right c q). let w = f.writes h q.0 q.1 has q.2 in absurd (readable
      (subst (λ (z : ℕ × ℕ). IsClear log z.0 (z.1 % 8)) (λ m. ((sym w.0 ∙ ap (λ z. z / 8) pl.0) m, pl.0 m)) (w.1 (subst (λ (z : ℕ × ℕ). IsKeyed k.keys z.0 z.1) (λ m. (sym pl.0 m, sym pl.1 m)) keyed)))))
      (for_whom d.right h has)

  -- and one to a slot of a cell that nobody can read, or that was not laid yet, is with no seat but the cell's writer's
  pub writers : (id y p : ℕ) → y < 32 → (IsKeyed b.books.keys y p → IsClear log (y / 8) (y % 8)) → ((j : ℕ) (d : View) (s : ℕ) → get_elem? views j ≡ some d → section_in d.right ≡ suc s → IsOpen log s)
      → ((j : ℕ) (d : View) → j ≢ id → get_elem? views j ≡ some d → (e : ℕ) (r : Plan) → PlanIn d.right e r → e ≢ y / 8) → (j : ℕ) (d : View) (h : Hand) → get_elem? views j ≡ some d → hand_in d.right ≡ Some h → place_of h ≡ key_place y p → j ≡ id
  writers id y p ly clear opened apart j d h e has is = let f = b.each j d e in let a = f.holds h has in let pl = same_place h.slot h.processor y p a.slot ly is in ⊎_elim
      (λ (s : (s : ℕ) × (section_in d.right ≡ suc s)). let r = f.reads h s.0 has s.1 in let none = (clear (subst (λ (z : ℕ × ℕ). IsKeyed k.keys z.0 z.1) (λ m. (pl.0 m, pl.1 m)) r.2)).unread s.0 (opened j d s.0 e s.1) in
      let met : HasMet log s.0 y = subst (HasMet log s.0) pl.0 r.1 in absurd (omega (arith, none, met)))
      (λ (q : (c : ℕ) × (q : Plan) × PlanIn d.right c q). let w = f.writes h q.0 q.1 has q.2 in dite (ℕ_discrete j id) (λ same. same) (λ ne. absurd (apart j d ne e q.0 q.1 q.2 (sym w.0 ∙ ap (λ z. z / 8) pl.0))))
      (for_whom d.right h has)
