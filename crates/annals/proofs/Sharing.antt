-- Seats that are dealt, cut in two and joined keep the rule.
use Rattle.std.proofs.Common.{◌≡◌, ◌≢◌, ℕ, zero, suc, ◌+◌, ◌⊎◌, Bool, true, false, cond, List, [], ◌∷◌, set, length, ⊎_elim, inl, inr, true≢false, refl, sym, ap, ◌∙◌, subst, arith}
use Rattle.std.specs.Prelude.{map}
use mathlib.Core.Option.{Option, some, some-injective, some-ne-none}
use lib.ListN.{get_elem?}
use Rattle.atomic_table.specs.Table.{State, Splits, Joins, opening}
use Rattle.atomic_table.proofs.Lists.{at_set}
use Rattle.annals.specs.Glossary.{Role, View, Maker, same_maker, IsBeginning, made_by, Head, Sitter, StandsFor, Client, Fits, Kept, founder, bearer, spent, informed, without_next, next, number_of, dealer, dealt}
use Rattle.annals.specs.declared.view.Role.TheVariants.{Nobody, Dealer, Sits}
use Rattle.annals.proofs.Logs.{same_maker_refl, same_maker_else, beginning_empty}
use Rattle.annals.proofs.Views.{views_set, views_split}
use Rattle.annals.proofs.Steps.{Apart, IsNew, Sees, sees, still_held, refits}

-- one maker is given to another seat
abbrev given : Maker → ℕ → (Maker → ℕ) → Maker → ℕ
given m id seat_of n = cond (same_maker n m) id (seat_of n)

given_here : (m : Maker) (id : ℕ) (seat_of : Maker → ℕ) → given m id seat_of m ≡ id
given_here m id seat_of = ap (λ b. cond b id (seat_of m)) (same_maker_refl m)

given_else : (m : Maker) (id : ℕ) (seat_of : Maker → ℕ) (n : Maker) → n ≢ m → given m id seat_of n ≡ seat_of n
given_else m id seat_of n ne = ap (λ b. cond b id (seat_of n)) (same_maker_else n m ne)

-- whom the dealer lets go of
fewer : (k : ℕ) (m : Maker) → StandsFor (Dealer (k + 1)) m → StandsFor (Dealer k) m × (m ≢ Sitter k)
fewer k Head h = (tt, λ e. differ e)
  where
    differ : Head ≡ Sitter k → ⊥
    differ e = cc
fewer k (Sitter n) h = (omega (arith, h), λ e. let same = number n k e in omega (arith, h, same))
  where
    number : (a b : ℕ) → Sitter a ≡ Sitter b → a ≡ b
    number a b e = cc

next_one : (k : ℕ) (m : Maker) → StandsFor (Sits k) m → m ≡ Sitter k
next_one k Head h = absurd h
next_one k (Sitter n) h = ap Sitter h

module _ {K S E D C : Type 0} (P : Client K S E D C) (key : K) where
  -- What the caller shows where a seat is cut in two, or takes another in. What there is beside words, log and deeds may change

  -- of a seat that makes none of its entries, and has none of its rights
  abbrev pub Beside : View E D C → Role → C → Type 0
  Beside v role c = ((m : Maker) → StandsFor v.role m → StandsFor role m → ⊥) × Apart P key v role c

  -- the seat keeps l, and a new one that is nobody's gets r
  pub record Cut (v : View E D C) (l r : C) (world : P.World) (words : List ℕ) (homes : List (Option S)) (log : List E) (deeds : List D) : Type 0 where
    pub world' : P.World
    pub agreed : P.agrees key world' words homes log deeds
    pub left : P.knows key world' v.role log l
    pub right : P.knows key world' Nobody log r
    pub others : (role : Role) (c : C) → Beside v role c → P.knows key world role log c → P.knows key world' role log c
    pub left_has : (x : P.Right) → P.has v.role l x ≡ true → (P.has v.role v.client x ≡ true) × (P.has Nobody r x ≡ false)
    pub right_has : (x : P.Right) → P.has Nobody r x ≡ true → (P.has v.role v.client x ≡ true) ⊎ IsNew P key world log x

  -- with what the other one knows, it knows `both`
  pub record Glued (v w : View E D C) (both : C) (world : P.World) (words : List ℕ) (homes : List (Option S)) (log : List E) (deeds : List D) : Type 0 where
    pub world' : P.World
    pub agreed : P.agrees key world' words homes log deeds
    pub known : P.knows key world' v.role log both
    pub others : (role : Role) (c : C) → Beside v role c → Beside w role c → P.knows key world role log c → P.knows key world' role log c
    pub has : (x : P.Right) → P.has v.role both x ≡ true → (P.has v.role v.client x ≡ true) ⊎ (P.has w.role w.client x ≡ true)

  of_nobody : (world : P.World) (log : List E) (deeds : List D) (seat_of : Maker → ℕ) (holder : P.Right → ℕ) (j : ℕ) → Fits P key world log deeds seat_of holder j (spent P)
  of_nobody world log deeds seat_of holder j = record {
    seen = beginning_empty log;
    told = beginning_empty log;
    alone = λ m is. absurd is;
    own = λ m is. absurd is;
    upto = beginning_empty deeds;
    own_done = λ m is. absurd is;
    holds = λ x h. absurd (true≢false (sym h ∙ P.bare x));
    known = P.nobody key world log;
  }

  -- two seats have no maker and no right in common
  beside : (s : State S (View E D C)) (r : Kept P key s) (id j : ℕ) (v d : View E D C) → j ≢ id → get_elem? s.views id ≡ some v → get_elem? s.views j ≡ some d → Beside v d.role d.client
  beside s r id j v d ne at e = let f = r.each_view id v at in let u = r.each_view j d e in ((λ n h g. ne (sym (u.alone n g) ∙ f.alone n h)), (λ x k h. ne (sym (u.holds x h) ∙ f.holds x k)))

  -- A part of what a seat may do goes to a new one, or comes from another one

  pub gives_part : (id : ℕ) (v : View E D C) (l part : C) (seen : List E) → ((log : List E) → IsBeginning v.seen log → IsBeginning seen log)
      → ((world : P.World) (words : List ℕ) (homes : List (Option S)) (log : List E) (deeds : List D) → P.agrees key world words homes log deeds → Sees P key v world log deeds → Cut v l part world words homes log deeds)
      → Splits (Kept P key) id v (record v { client = l }) record { role = Nobody; seen = seen; told = []; done = []; client = part }
  gives_part id v l part seen begins turn s r at =
      let f = r.each_view id v at in
      let t = turn r.world s.words s.homes r.log r.deeds r.agreed (sees P key s r id v at) in
      let m : ℕ = length s.views in
      let new : View E D C = record { role = Nobody; seen = seen; told = []; done = []; client = part } in
      let holder' : P.Right → ℕ = λ x. cond (P.has Nobody part x) m (r.holder x) in record {
        log = r.log;
        deeds = r.deeds;
        world = t.world';
        seat_of = r.seat_of;
        holder = holder';
        agreed = t.agreed;
        each_view = views_split (Fits P key t.world' r.log r.deeds r.seat_of holder') s.views id (record v { client = l }) new
            record { seen = f.seen; told = f.told; alone = f.alone; own = f.own; upto = f.upto; own_done = f.own_done; holds = λ x h. ap (λ b. cond b m (r.holder x)) (t.left_has x h).1 ∙ f.holds x (t.left_has x h).0; known = t.left }
            record { seen = begins r.log f.seen; told = beginning_empty r.log; alone = λ n is. absurd is; own = λ n is. absurd is; upto = beginning_empty r.deeds; own_done = λ n is. absurd is; holds = λ x h. ap (λ b. cond b m (r.holder x)) h; known = t.right }
            (λ j d ne e. let u = r.each_view j d e in refits P key r.world t.world' r.log r.deeds r.seat_of r.holder holder' j d u
            (λ x h. still_held P key r.world r.log (P.has Nobody part x) x m (r.holder x) j d.role d.client h u.known (u.holds x h) (λ g. ⊎_elim (λ k. inl (λ here. ne (sym here ∙ f.holds x k))) (λ free. inr free) (t.right_has x g)))
            (t.others d.role d.client (beside s r id j v d ne at e) u.known));
      }

  pub takes_part : (id : ℕ) (v : View E D C) (other : ℕ) (w : View E D C) (told : List E) (both : C) → ((log : List E) → IsBeginning v.told log → IsBeginning w.seen log → IsBeginning told log)
      → ((world : P.World) (words : List ℕ) (homes : List (Option S)) (log : List E) (deeds : List D) → P.agrees key world words homes log deeds → Sees P key v world log deeds → Sees P key w world log deeds → Glued v w both world words homes log deeds)
      → Joins (Kept P key) id v other w (record v { told = told; client = both }) (spent P)
  takes_part id v other w told both tells turn s r at apart there =
      let v' : View E D C = record v { told = told; client = both } in
      let f = r.each_view id v at in
      let was : get_elem? s.views other ≡ some w = ⊎_elim (λ (t : (other ≡ id) × (v' ≡ w)). absurd (apart t.0)) (λ (t : (other ≢ id) × (get_elem? s.views other ≡ some w)). t.1) (at_set s.views id other v' w there) in
      let g = r.each_view other w was in
      let t = turn r.world s.words s.homes r.log r.deeds r.agreed (sees P key s r id v at) (sees P key s r other w was) in
      let holder' : P.Right → ℕ = λ x. cond (P.has v.role both x) id (r.holder x) in
      let Q : ℕ → View E D C → Type 0 = Fits P key t.world' r.log r.deeds r.seat_of holder' in record {
        log = r.log;
        deeds = r.deeds;
        world = t.world';
        seat_of = r.seat_of;
        holder = holder';
        agreed = t.agreed;
        each_view = views_set Q (set s.views id v') other (spent P) (of_nobody t.world' r.log r.deeds r.seat_of holder' other)
            (λ j d away e. views_set (λ n x. n ≢ other → Q n x) s.views id v'
            (λ _. record { seen = f.seen; told = tells r.log f.told g.seen; alone = f.alone; own = f.own; upto = f.upto; own_done = f.own_done; holds = λ x h. ap (λ b. cond b id (r.holder x)) h; known = t.known })
            (λ n z ne k far. let u = r.each_view n z k in refits P key r.world t.world' r.log r.deeds r.seat_of r.holder holder' n z u
            (λ x h. still_held P key r.world r.log (P.has v.role both x) x id (r.holder x) n z.role z.client h u.known (u.holds x h) (λ b. inl (λ here. ⊎_elim (λ a. ne (sym here ∙ f.holds x a)) (λ a. far (sym here ∙ g.holds x a)) (t.has x b))))
            (t.others z.role z.client (beside s r id n v z ne at k) (beside s r other n w z far was k) u.known))
            j d e away);
      }

  pub gives_token : (id : ℕ) (v : View E D C) → Splits (Kept P key) id v v (bearer P v)
  gives_token id v = gives_part id v v.client P.blank v.seen (λ log h. h) (λ world words homes log deeds a sees. record {
    world' = world;
    agreed = a;
    left = sees.known;
    right = P.nobody key world log;
    others = λ role c _ h. h;
    left_has = λ x h. (h, P.bare x);
    right_has = λ x h. absurd (true≢false (sym h ∙ P.bare x));
  })

  pub takes_token : (id : ℕ) (v : View E D C) (other : ℕ) (w : View E D C) → Joins (Kept P key) id v other w (informed v w) (spent P)
  takes_token id v other w = takes_part id v other w w.seen v.client (λ log told seen. seen) (λ world words homes log deeds a sees seen. record { world' = world; agreed = a; known = sees.known; others = λ role c _ _ h. h; has = λ x h. inl h })

  -- Dealing

  deals_role : (id k : ℕ) (seen told : List E) (done : List D) (c : C) → P.may_deal key k → Splits (Kept P key) id record { role = Dealer k; seen = seen; told = told; done = done; client = c } record {
    role = Dealer (k + 1);
    seen = seen;
    told = told;
    done = done;
    client = c;
  } record { role = Sits k; seen = seen; told = []; done = done; client = P.dealt k c }
  deals_role id k seen told done c may s r at =
      let v : View E D C = record { role = Dealer k; seen = seen; told = told; done = done; client = c } in
      let rest : View E D C = record { role = Dealer (k + 1); seen = seen; told = told; done = done; client = c } in
      let new : View E D C = record { role = Sits k; seen = seen; told = []; done = done; client = P.dealt k c } in
      let f = r.each_view id v at in
      let m : ℕ = length s.views in
      let seat_of' : Maker → ℕ = given (Sitter k) m r.seat_of in
      let to : P.Right → Bool = P.has (Sits k) (P.dealt k c) in
      let holder' : P.Right → ℕ = λ x. cond (to x) m (r.holder x) in
      let here : r.seat_of (Sitter k) ≡ id = f.alone (Sitter k) (omega arith) in
      record {
        log = r.log;
        deeds = r.deeds;
        world = r.world;
        seat_of = seat_of';
        holder = holder';
        agreed = r.agreed;
        each_view = views_split (Fits P key r.world r.log r.deeds seat_of' holder') s.views id rest new
            record {
              seen = f.seen;
              told = f.told;
              alone = λ n h. given_else (Sitter k) m r.seat_of n (fewer k n h).1 ∙ f.alone n (fewer k n h).0;
              own = λ n h. f.own n (fewer k n h).0;
              upto = f.upto;
              own_done = λ n h. f.own_done n (fewer k n h).0;
              holds = λ x h. let t = P.fewer_rights c k x h in ap (λ b. cond b m (r.holder x)) t.1 ∙ f.holds x t.0;
              known = P.fewer key r.world r.log c k f.known;
            }
            record {
              seen = f.seen;
              told = beginning_empty r.log;
              alone = λ n h. ap seat_of' (next_one k n h) ∙ given_here (Sitter k) m r.seat_of;
              own = λ n h. subst (λ (z : Maker). made_by P.by z r.log ≡ made_by P.by z seen) (sym (next_one k n h)) (f.own (Sitter k) (omega arith));
              upto = f.upto;
              own_done = λ n h. subst (λ (z : Maker). made_by P.doer z r.deeds ≡ made_by P.doer z done) (sym (next_one k n h)) (f.own_done (Sitter k) (omega arith));
              holds = λ x h. ap (λ b. cond b m (r.holder x)) h;
              known = P.next key r.world r.log c k may f.known;
            }
            (λ j d ne e. let u = r.each_view j d e in record {
              seen = u.seen;
              told = u.told;
              alone = λ n h. given_else (Sitter k) m r.seat_of n (λ nk. ne (sym (u.alone n h) ∙ (ap r.seat_of nk ∙ here))) ∙ u.alone n h;
              own = u.own;
              upto = u.upto;
              own_done = u.own_done;
              holds = λ x h. still_held P key r.world r.log (to x) x m (r.holder x) j d.role d.client h u.known (u.holds x h) (λ t. inl (λ e. ne (sym e ∙ f.holds x (P.next_rights c k x t))));
              known = u.known;
            });
      }

  pub deals : (id : ℕ) (v : View E D C) (k : ℕ) → v.role ≡ Dealer k → P.may_deal key k → Splits (Kept P key) id v (dealer v) (dealt P v)
  deals id v k is may = subst
      (λ (x : Role). Splits (Kept P key) id record v { role = x } record v { role = without_next x } record { role = next x; seen = v.seen; told = []; done = v.done; client = P.dealt (number_of x) v.client })
      (sym is) (deals_role id k v.seen v.told v.done v.client may)

  -- A new table

  first_view : (world : P.World) → P.knows key world (Dealer 0) [] (P.first key) → (j : ℕ) (v : View E D C) → get_elem? (founder P key ∷ []) j ≡ some v → Fits P key world [] [] (λ _. 0) (λ _. 0) j v
  first_view world knows zero v e = subst (λ (z : View E D C). Fits P key world [] [] (λ _. 0) (λ _. 0) 0 z) (some-injective (founder P key) v e)
      record { seen = beginning_empty []; told = beginning_empty []; alone = λ m h. refl; own = λ m h. refl; upto = beginning_empty []; own_done = λ m h. refl; holds = λ x h. refl; known = knows }
  first_view world knows (suc j) v e = absurd (some-ne-none v (sym e))

  pub opens : (words : List ℕ) (slots : List S) (world : P.World) → P.agrees key world words (map some slots) [] [] → P.knows key world (Dealer 0) [] (P.first key) → Kept P key (opening words slots (founder P key))
  opens words slots world agrees knows = record { log = []; deeds = []; world = world; seat_of = λ _. 0; holder = λ _. 0; agreed = agrees; each_view = first_view world knows }
