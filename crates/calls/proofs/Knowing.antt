-- What seats know of the tally words, while more is done there and seats change.
use Rattle.std.proofs.Common.{◌≡◌, ◌≢◌, ℕ, ◌≤◌, Bool, true, false, cond, eqb, List, [], ◌∷◌, ◌++◌, All, Option, Some, None, length, inl, inr, ⊎_elim, true≢false, sym, ap, ◌∙◌, subst, eq-eqb, eqb-true, ne_eqb, le-leb, refl, arith}
use Rattle.std.proofs.lemmas.List.Elements.{All-nil, All-cons}
use Rattle.std.specs.Prelude.{slice_get}
use Rattle.annals.specs.declared.view.Role.{Role}
use Rattle.annals.specs.declared.view.Role.TheVariants.{Nobody, Sits, Dealer}
use Rattle.annals.specs.Glossary.{Sitter, StandsFor}
use Rattle.annals.proofs.CallerLemmas.{Apart}
use Rattle.calls.specs.Glossary.{Entry, Plan, Deed, Known, ListRight, BatchRight, Rights, Line, count_out, gathered, line_in, calls_in, is_queue, queued_in, finished_in, View, Pending, has_list, has_call, has_batch, has_lists, IsUndealt, IsThere, IsCall, HasList, HasBatch, IsAs, Knows, IsCounted, tally_client, TheList}
use Rattle.calls.specs.declared.view.ListRight.TheVariants.{NoList, OfList, Calling, OfCall}
use Rattle.calls.specs.declared.view.BatchRight.TheVariants.{NoBatch, OfBatch}
use Rattle.calls.proofs.Counting.{queued_still}
use Rattle.calls.proofs.Once.{calls_unqueued}

-- A function that is changed at one place

abbrev pub given : {A : Type 0} → ℕ → A → (ℕ → A) → ℕ → A
given p a f q = cond (eqb q p) a (f q)

pub given_here : {A : Type 0} (p : ℕ) (a : A) (f : ℕ → A) → given p a f p ≡ a
given_here p a f = ap (λ b. cond b a (f p)) (eq-eqb p p refl)

pub given_else : {A : Type 0} (p : ℕ) (a : A) (f : ℕ → A) (q : ℕ) → q ≢ p → given p a f q ≡ f q
given_else p a f q n = ap (λ b. cond b a (f q)) (ne_eqb q p n)

-- Whose steps, and which rights

pub sits : (p : ℕ) (role : Role) → role ≡ Sits p → StandsFor role (Sitter p)
sits p role is = subst (λ (r : Role). StandsFor r (Sitter p)) (sym is) refl

pub some_or_none : {X : Type 0} (x : X) (o : Option X) → o ≡ None → o ≡ Some x → ⊥
some_or_none x o a b = let wrong : None ≡ Some x = sym a ∙ b in cc

-- a batch that somebody has is out
pub batch_new : {J : Type 0} (log : List (Deed J)) (right : BatchRight) (q : ℕ) → HasBatch log right → has_batch right q ≡ true → (line_in q log).out ≡ None → ⊥
batch_new log NoBatch q has h none = true≢false (sym h)
batch_new log (OfBatch p f n) q has h none = some_or_none n (line_in q log).out none (ap (λ z. (line_in z log).out) (sym (eqb-true p q h)) ∙ has.1)

both_true : (a b : Bool) → cond a b false ≡ true → (a ≡ true) × (b ≡ true)
both_true true b h = (refl, h)
both_true false b h = absurd (true≢false (sym h))

module _ {J : Type 0} where
  pub by_one : (d : Deed J) → All (λ (x : Deed J). Sitter x.by ≡ Sitter d.by) (d ∷ [])
  by_one d = All-cons (λ (x : Deed J). Sitter x.by ≡ Sitter d.by) d [] refl (All-nil (λ (x : Deed J). Sitter x.by ≡ Sitter d.by))

  pub call_had : (right : ListRight J) (q n : ℕ) (e : Entry J) → right ≡ OfCall q n e → (p m : ℕ) → q ≡ p → n ≡ m → has_call right p m ≡ true
  call_had right q n e is p m qp nm = ap (λ r. has_call r p m) is ∙ (ap (λ b. cond b (eqb n m) false) (eq-eqb q p qp) ∙ eq-eqb n m nm)

  pub call_back : (q n p m : ℕ) (e : Entry J) → has_call (OfCall q n e) p m ≡ true → (q ≡ p) × (n ≡ m)
  call_back q n p m e h = let two = both_true (eqb q p) (eqb n m) h in (eqb-true q p two.0, eqb-true n m two.1)

  -- whose list it is tells the right
  pub list_like : (role : Role) (right other : ListRight J) → ((q : ℕ) → has_list other q ≡ has_list right q) → (q : ℕ) → has_lists role other q ≡ has_lists role right q
  list_like Nobody right other same q = same q
  list_like (Sits p) right other same q = same q
  list_like (Dealer k) right other same q = refl

-- More was done, and other calls are about to be queued

module _ {J : Type 0} where
  -- of this processor nothing has changed that a list knows
  pub record Untouched (log log' : List (Deed J)) (p : ℕ) : Type 0 where
    pub queued : queued_in p log' ≡ queued_in p log
    pub finished : finished_in p log' ≡ finished_in p log
    pub line : line_in p log' ≡ line_in p log

  pub there_still : (log log' : List (Deed J)) (p : ℕ) (k : Known J) → Untouched log log' p → IsThere p k log → IsThere p k log'
  there_still log log' p k t h = record {
    queued_least = let q = t.queued in let least = h.queued_least in omega (arith, q, least);
    finished_is = h.finished_is ∙ sym t.finished;
    out_is = h.out_is ∙ ap (λ (z : Line J). z.out) (sym t.line);
    few = subst (λ (z : Line J). k.moved ≤ length z.coming) (sym t.line) h.few;
    waiting_is = h.waiting_is ∙ ap (λ (z : Line J). (gathered k.moved z).waiting) (sym t.line);
  }

  -- and of each processor all calls are counted as before
  pub still_counted : (log log' : List (Deed J)) (p : ℕ) → Untouched log log' p → IsCounted log p → IsCounted log' p
  still_counted log log' p t h = let all = h.all in let few = h.few in let q = t.queued in let f = t.finished in let out = ap (λ (z : Line J). count_out z.out) t.line in let waits = ap (λ (z : Line J). length z.waiting) t.line in let came = ap (λ (z : Line J). length z.coming) t.line in record {
    all = omega (arith, all, q, f, out, waits, came);
    few = omega (arith, few, q);
  }

  -- a batch that stays out
  abbrev pub StaysOut : List (Deed J) → List (Deed J) → BatchRight → Type 0
  StaysOut log log' right = (p f n : ℕ) → right ≡ OfBatch p f n → f ≡ finished_in p log → (line_in p log).out ≡ Some n → (f ≡ finished_in p log') × ((line_in p log').out ≡ Some n)

  pub batch_carried : (log log' : List (Deed J)) (right : BatchRight) → StaysOut log log' right → HasBatch log right → HasBatch log' right
  batch_carried log log' NoBatch stays has = tt
  batch_carried log log' (OfBatch p f n) stays has = stays p f n refl has.0 has.1

  -- what a seat of this role knows by these rights stays so
  pub record Carries (calling calling' : Pending J) (log log' : List (Deed J)) (role : Role) (c : Rights J) : Type 0 where
    pub lists : (p : ℕ) (k : Known J) → c.list ≡ OfList p k → IsThere p k log → IsThere p k log'
    pub calls : (p n : ℕ) (e : Entry J) → c.list ≡ OfCall p n e → IsCall calling log p n e → IsCall calling' log' p n e
    pub batches : StaysOut log log' c.batch
    pub undealt : (k : ℕ) → role ≡ Dealer k → (p : ℕ) → k ≤ p → IsUndealt calling log p → IsUndealt calling' log' p
    pub quiet : (p : ℕ) → role ≡ Sits p → calling' p ≡ calling p

  pub knows_carried : (calling calling' : Pending J) (log log' : List (Deed J)) (role : Role) (c : Rights J) → Carries calling calling' log log' role c → Knows calling role log c → Knows calling' role log' c
  knows_carried calling calling' log log' role c m h = record { list = by_list c.list refl h.list; batch = batch_carried log log' c.batch m.batches h.batch; whose = by_role role refl h.whose }
    where
      by_list : (right : ListRight J) → c.list ≡ right → HasList calling log right → HasList calling' log' right
      by_list NoList is has = tt
      by_list (OfList p k) is has = m.lists p k is has
      by_list (Calling e) is has = tt
      by_list (OfCall p n e) is has = m.calls p n e is has

      by_role : (r : Role) → role ≡ r → IsAs calling r log c.list → IsAs calling' r log' c.list
      by_role Nobody is was = tt
      by_role (Sits p) is was = m.quiet p is ∙ was
      by_role (Dealer k) is was = (was.0, λ p le. m.undealt k is p le (was.1 p le))

  -- another call is about to be queued on processor p, and this seat is not for the one that was
  pub recalled : (calling : Pending J) (log : List (Deed J)) (p : ℕ) (new : Option (Entry J)) (role : Role) (c : Rights J) → (StandsFor role (Sitter p) → ⊥) → ((q n : ℕ) (e : Entry J) → c.list ≡ OfCall q n e → n ≡ queued_in q log → calling q ≡ Some e → q ≢ p)
      → Knows calling role log c → Knows (given p new calling) role log c
  recalled calling log p new role c not away = knows_carried calling (given p new calling) log log role c record {
    lists = λ q k _ h. h;
    calls = λ q n e is h. ⊎_elim (λ (x : slice_get (calls_in q log) n ≡ Some e). inl x) (λ (y : (n ≡ queued_in q log) × (calling q ≡ Some e)). inr (y.0, given_else p new calling q (away q n e is y.0 y.1) ∙ y.1)) h;
    batches = λ q f n _ first out. (first, out);
    undealt = λ k is q le u. record { queued = u.queued; finished = u.finished; line = u.line; quiet = given_else p new calling q (λ e. not (subst (λ (r : Role). StandsFor r (Sitter p)) (sym is) (omega (arith, le, e)))) ∙ u.quiet };
    quiet = λ q is. given_else p new calling q (λ e. not (sits p role (is ∙ ap Sits e)));
  }

module _ {J : Type 0} (calling : Pending J) (log : List (Deed J)) (d : Deed J) (none : is_queue d.act ≡ false) where
  abbrev log' : List (Deed J)
  log' = log ++ d ∷ []

  -- a deed that queues nothing, and changes nothing that a seat has to do with
  pub deed_stays : (role : Role) (c : Rights J) → ((q : ℕ) (k : Known J) → c.list ≡ OfList q k → Untouched log log' q) → ((q f n : ℕ) → c.batch ≡ OfBatch q f n → (line_in q log).out ≡ Some n → Untouched log log' q) → ((k : ℕ) → role ≡ Dealer k → (q : ℕ) → k ≤ q → Untouched log log' q)
      → Knows calling role log c → Knows calling role log' c
  deed_stays role c lists batches undealt = knows_carried calling calling log log' role c record {
    lists = λ q k is there. there_still log log' q k (lists q k is) there;
    calls = λ q n e is h. ⊎_elim
        (λ (x : slice_get (calls_in q log) n ≡ Some e). inl (ap (λ l. slice_get l n) (calls_unqueued q d.by d.act log none) ∙ x))
        (λ (y : (n ≡ queued_in q log) × (calling q ≡ Some e)). inr (y.0 ∙ sym (queued_still q log d.by d.act none), y.1)) h;
    batches = λ q f n is first out. let t = batches q f n is out in (first ∙ sym t.finished, ap (λ (z : Line J). z.out) t.line ∙ out);
    undealt = λ k is q le u. let t = undealt k is q le in record { queued = t.queued ∙ u.queued; finished = t.finished ∙ u.finished; line = t.line ∙ u.line; quiet = u.quiet };
    quiet = λ q _. refl;
  }

  -- the deed of one who has the list of processor p in hand, as far as it changes that list alone
  pub turn_stays : (plan : Plan) (v : View J) (b p : ℕ) (known : Known J) → v.role ≡ Sits b → v.client.list ≡ OfList p known → ((q : ℕ) → q ≢ p → Untouched log log' q)
      → (role : Role) (c : Rights J) → Apart tally_client plan v role c → ((q f n : ℕ) → c.batch ≡ OfBatch q f n → (line_in q log).out ≡ Some n → q ≢ p)
      → Knows calling role log c → Knows calling role log' c
  turn_stays plan v b p known who list else_ role c apart batches h = deed_stays role c
      (λ q k is. else_ q (λ e. apart (TheList p) mine (theirs role c.list q k h.whose is ∙ eq-eqb q p e)))
      (λ q f n is out. else_ q (batches q f n is out))
      (λ k is q le. else_ q (λ e. apart (TheList p) mine (ap (λ r. has_lists r c.list p) is ∙ le-leb k p (omega (arith, le, e)))))
      h
    where
      mine : has_lists v.role v.client.list p ≡ true
      mine = (λ i. has_lists (who i) (list i) p) ∙ eq-eqb p p refl

      theirs : (r : Role) (right : ListRight J) (q : ℕ) (k : Known J) → IsAs calling r log right → right ≡ OfList q k → has_lists r right p ≡ eqb q p
      theirs Nobody right q k was is = ap (λ z. has_list z p) is
      theirs (Sits n) right q k was is = ap (λ z. has_list z p) is
      theirs (Dealer n) right q k was is = let wrong : NoList ≡ OfList q k = sym was.0 ∙ is in absurd cc
