-- Seats that are cut in two, joined and dealt keep the rule of the tally words.
use Rattle.std.proofs.Common.{◌≡◌, ℕ, ◌+◌, ◌<◌, ◌⊎◌, inl, inr, List, [], Option, Some, None, true, false, get_or, length, ⊎_elim, true≢false, refl, sym, ap, ◌∙◌, subst, arith}
use Rattle.atomic_table.specs.Table.{Splits, Joins, opening}
use Rattle.std.specs.Prelude.{slice_get}
use Rattle.std.proofs.lemmas.Option.{slice_get_within}
use Rattle.annals.specs.declared.view.Role.{Role}
use Rattle.annals.specs.declared.view.Role.TheVariants.{Nobody, Sits, Dealer}
use Rattle.annals.specs.Glossary.{Sitter, number_of, founder, spent, informed, dealer, dealt}
use Rattle.annals.proofs.CallerLemmas as annals
use Rattle.calls.specs.Glossary.{Entry, Known, Plan, Deed, ListRight, queued_place, finished_place, word_count, queued_in, count_out, calls_in, View, Pending, Right, has, has_list, has_lists, has_call, IsThere, IsCall, HasList, IsAs, call_of_right, tally_client, Kept, without_list, list_seat, only_list, with_list, without_batch, only_batch, with_batch, note, announcing, announced, known_moved, right_moved, moving, TheList, TheBatch, TheCall}
use Rattle.calls.specs.declared.view.ListRight.TheVariants.{NoList, OfList, Calling, OfCall}
use Rattle.calls.specs.declared.view.BatchRight.TheVariants.{NoBatch}
use Rattle.calls.proofs.Counting.{same_queued}
use Rattle.calls.proofs.Once.{calls_counted, next_comes}
use Rattle.calls.proofs.Knowing.{given, given_here, sits, some_or_none, call_had, call_back, list_like, recalled}

-- a seat that deals none
abbrev pub IsPlain : Role → Type 0
IsPlain Nobody = Unit {0}
IsPlain (Sits p) = Unit {0}
IsPlain (Dealer k) = ⊥

pub nobody_plain : (r : Role) → r ≡ Nobody → IsPlain r
nobody_plain r is = subst IsPlain (sym is) tt

pub sits_plain : (r : Role) (p : ℕ) → r ≡ Sits p → IsPlain r
sits_plain r p is = subst IsPlain (sym is) tt

none : {X : Type 0} → false ≡ true → X
none h = absurd (true≢false (sym h))

module _ {J : Type 0} where
  has_plain : (r : Role) (right : ListRight J) (p : ℕ) → IsPlain r → has_lists r right p ≡ has_list right p
  has_plain Nobody right p plain = refl
  has_plain (Sits q) right p plain = refl
  has_plain (Dealer k) right p plain = absurd plain

  -- with another right that queues the same, the seat is about to queue what it was
  as_like : (calling : Pending J) (log : List (Deed J)) (r : Role) (right other : ListRight J) → IsPlain r → call_of_right other ≡ call_of_right right → IsAs calling r log right → IsAs calling r log other
  as_like calling log Nobody right other plain same is = tt
  as_like calling log (Sits p) right other plain same is = is ∙ sym same
  as_like calling log (Dealer k) right other plain same is = absurd plain

module _ {J : Type 0} (plan : Plan) where
  -- a seat gives its list's right away
  pub gives_list : (id : ℕ) (v : View J) (p : ℕ) (k : Known J) → IsPlain v.role → v.client.list ≡ OfList p k → Splits (Kept plan) id v (without_list v) (only_list v)
  gives_list id v p k plain is = annals.gives_part tally_client plan id v (record v.client { list = NoList }) record { list = v.client.list; batch = NoBatch } [] (λ log _. annals.beginning_empty log) (λ calling words homes log deeds a sees. record {
    world' = calling;
    agreed = a;
    left = record { list = tt; batch = sees.known.batch; whose = as_like calling log v.role v.client.list NoList plain (sym (ap call_of_right is)) sees.known.whose };
    right = record { list = sees.known.list; batch = tt; whose = tt };
    others = λ role c _ h. h;
    left_has = left;
    right_has = right _;
  })
    where
      left : (x : Right) → has v.role (record v.client { list = NoList }) x ≡ true → (has v.role v.client x ≡ true) × (has {J = J} Nobody record { list = v.client.list; batch = NoBatch } x ≡ false)
      left (TheList q) h = none (sym (has_plain v.role NoList q plain) ∙ h)
      left (TheBatch q) h = (h, refl)
      left (TheCall q n) h = none h

      right : (F : Right → Type 0) (x : Right) → has {J = J} Nobody record { list = v.client.list; batch = NoBatch } x ≡ true → (has v.role v.client x ≡ true) ⊎ F x
      right F (TheList q) h = inl (has_plain v.role v.client.list q plain ∙ h)
      right F (TheBatch q) h = none h
      right F (TheCall q n) h = inl h

  -- and its batch's
  pub passes_batch : (id : ℕ) (v : View J) → Splits (Kept plan) id v (without_batch v) (only_batch v)
  passes_batch id v = annals.gives_part tally_client plan id v (record v.client { batch = NoBatch }) record { list = NoList; batch = v.client.batch } [] (λ log _. annals.beginning_empty log) (λ calling words homes log deeds a sees. record {
    world' = calling;
    agreed = a;
    left = record { list = sees.known.list; batch = tt; whose = sees.known.whose };
    right = record { list = tt; batch = sees.known.batch; whose = tt };
    others = λ role c _ h. h;
    left_has = left;
    right_has = right _;
  })
    where
      left : (x : Right) → has v.role (record v.client { batch = NoBatch }) x ≡ true → (has v.role v.client x ≡ true) × (has {J = J} Nobody record { list = NoList; batch = v.client.batch } x ≡ false)
      left (TheList q) h = (h, refl)
      left (TheBatch q) h = none h
      left (TheCall q n) h = (h, refl)

      right : (F : Right → Type 0) (x : Right) → has {J = J} Nobody record { list = NoList; batch = v.client.batch } x ≡ true → (has v.role v.client x ≡ true) ⊎ F x
      right F (TheList q) h = none h
      right F (TheBatch q) h = inl h
      right F (TheCall q n) h = none h

  -- a right is taken over
  pub takes_list : (id : ℕ) (v : View J) (other : ℕ) (w : View J) (p : ℕ) (k : Known J) → IsPlain v.role → w.role ≡ Nobody → v.client.list ≡ NoList → w.client.list ≡ OfList p k → Joins (Kept plan) id v other w (with_list v w) (spent tally_client)
  takes_list id v other w p k plain nobody none_yet is = annals.takes_part tally_client plan id v other w v.told (record v.client { list = w.client.list }) (λ log told _. told) (λ calling words homes log deeds a sees seen. record {
    world' = calling;
    agreed = a;
    known = record { list = seen.known.list; batch = sees.known.batch; whose = as_like calling log v.role v.client.list w.client.list plain (ap call_of_right is ∙ sym (ap call_of_right none_yet)) sees.known.whose };
    others = λ role c _ _ h. h;
    has = had;
  })
    where
      had : (x : Right) → has v.role (record v.client { list = w.client.list }) x ≡ true → (has v.role v.client x ≡ true) ⊎ (has w.role w.client x ≡ true)
      had (TheList q) h = inr (has_plain w.role w.client.list q (nobody_plain w.role nobody) ∙ (sym (has_plain v.role w.client.list q plain) ∙ h))
      had (TheBatch q) h = inl h
      had (TheCall q n) h = inr h

  pub takes_batch : (id : ℕ) (v : View J) (other : ℕ) (w : View J) → Joins (Kept plan) id v other w (with_batch v w) (spent tally_client)
  takes_batch id v other w = annals.takes_part tally_client plan id v other w v.told (record v.client { batch = w.client.batch }) (λ log told _. told) (λ calling words homes log deeds a sees seen. record {
    world' = calling;
    agreed = a;
    known = record { list = sees.known.list; batch = seen.known.batch; whose = sees.known.whose };
    others = λ role c _ _ h. h;
    has = had;
  })
    where
      had : (x : Right) → has v.role (record v.client { batch = w.client.batch }) x ≡ true → (has v.role v.client x ≡ true) ⊎ (has w.role w.client x ≡ true)
      had (TheList q) h = inl h
      had (TheBatch q) h = inr h
      had (TheCall q n) h = inl h

  pub gives_note : (id : ℕ) (v : View J) → Splits (Kept plan) id v v (note v)
  gives_note id v = annals.gives_token tally_client plan id v

  pub takes_note : (id : ℕ) (v : View J) (other : ℕ) (w : View J) → Joins (Kept plan) id v other w (informed v w) (spent tally_client)
  takes_note id v other w = annals.takes_token tally_client plan id v other w

  pub deals : (id : ℕ) (v : View J) (k : ℕ) → v.role ≡ Dealer k → Splits (Kept plan) id v (dealer v) (dealt tally_client v)
  deals id v k is = annals.deals tally_client plan id v k is tt

  -- Calls

  -- a call is announced by a seat that is at rest
  pub announces : (id : ℕ) (v : View J) (p : ℕ) (e : Entry J) (call : Option (Entry J)) → call ≡ Some e → v.role ≡ Sits p → v.client.list ≡ NoList → Splits (Kept plan) id v (announcing call v) (announced call v)
  announces id v p e call is who none_yet = subst (λ (z : Option (Entry J)). Splits (Kept plan) id v (announcing z v) (announced z v)) (sym is)
      (subst (λ (n : ℕ). Splits (Kept plan) id v (record v { client = record v.client { list = Calling e } }) (list_seat (OfCall n (queued_in n v.seen) e))) (sym (ap number_of who))
      (annals.gives_part tally_client plan id v (record v.client { list = Calling e }) record { list = OfCall p (queued_in p v.seen) e; batch = NoBatch } [] (λ log _. annals.beginning_empty log) (λ calling words homes log deeds a sees.
      let same : queued_in p v.seen ≡ queued_in p log = same_queued p v.seen log (sym (sees.own (Sitter p) (sits p v.role who))) in
      let quiet : calling p ≡ None = subst (λ (z : Role × ListRight J). IsAs calling z.0 log z.1) (λ i. (who i, none_yet i)) sees.known.whose in record {
        world' = given p (Some e) calling;
        agreed = a;
        left = record { list = tt; batch = sees.known.batch; whose = subst (λ (z : Role). IsAs (given p (Some e) calling) z log (Calling e)) (sym who) (given_here p (Some e) calling) };
        right = record { list = inr (same, given_here p (Some e) calling); batch = tt; whose = tt };
        others = λ role c beside h. recalled calling log p (Some e) role c (beside.0 (Sitter p) (sits p v.role who)) (λ q n f _ _ about t. some_or_none f (calling p) quiet (ap calling (sym t) ∙ about)) h;
        left_has = left;
        right_has = right calling log same quiet;
      })))
    where
      left : (x : Right) → has v.role (record v.client { list = Calling e }) x ≡ true → (has v.role v.client x ≡ true) × (has Nobody record { list = OfCall p (queued_in p v.seen) e; batch = NoBatch } x ≡ false)
      left (TheList q) h = none (sym (has_plain v.role (Calling e) q (sits_plain v.role p who)) ∙ h)
      left (TheBatch q) h = (h, refl)
      left (TheCall q n) h = none h

      -- nobody can have had the right of a call that was not announced
      new : (calling : Pending J) (log : List (Deed J)) → queued_in p v.seen ≡ queued_in p log → calling p ≡ None → (q n : ℕ) → has_call (OfCall p (queued_in p v.seen) e) q n ≡ true → (right : ListRight J) → HasList calling log right → has_call right q n ≡ true → ⊥
      new calling log same quiet q n h NoList knows had = none had
      new calling log same quiet q n h (OfList m k) knows had = none had
      new calling log same quiet q n h (Calling f) knows had = none had
      new calling log same quiet q n h (OfCall m l f) knows had =
          let mine = call_back p (queued_in p v.seen) q n e h in
          let theirs = call_back m l q n f had in
          ⊎_elim
          (λ (x : slice_get (calls_in m log) l ≡ Some f). let inside = slice_get_within (calls_in m log) l f x in let long = calls_counted m log ∙ ap (λ z. queued_in z log) (theirs.0 ∙ sym mine.0) in let one = theirs.1 in let two = mine.1 in omega (arith, inside, long, one, two, same))
          (λ (y : (l ≡ queued_in m log) × (calling m ≡ Some f)). some_or_none f (calling p) quiet (ap calling (mine.0 ∙ sym theirs.0) ∙ y.1))
          knows

      right : (calling : Pending J) (log : List (Deed J)) → queued_in p v.seen ≡ queued_in p log → calling p ≡ None → (x : Right) → has Nobody record { list = OfCall p (queued_in p v.seen) e; batch = NoBatch } x ≡ true → (has v.role v.client x ≡ true) ⊎ annals.IsNew tally_client plan calling log x
      right calling log same quiet (TheList q) h = none h
      right calling log same quiet (TheBatch q) h = none h
      right calling log same quiet (TheCall q n) h = inr (λ r d knows had. new calling log same quiet q n h d.list knows.list had)

  -- and is not queued after all
  pub withdraws : (id : ℕ) (v : View J) (other : ℕ) (w : View J) (p : ℕ) (e : Entry J) → v.role ≡ Sits p → v.client.list ≡ Calling e → w.client.list ≡ OfCall p (queued_in p v.seen) e → Joins (Kept plan) id v other w (without_list v) (spent tally_client)
  withdraws id v other w p e who about is = annals.takes_part tally_client plan id v other w v.told (record v.client { list = NoList }) (λ log told _. told) (λ calling words homes log deeds a sees seen.
      let same : queued_in p v.seen ≡ queued_in p log = same_queued p v.seen log (sym (sees.own (Sitter p) (sits p v.role who))) in record {
        world' = given p None calling;
        agreed = a;
        known = record { list = tt; batch = sees.known.batch; whose = subst (λ (z : Role). IsAs (given p None calling) z log NoList) (sym who) (given_here p None calling) };
        others = λ role c beside far h. recalled calling log p None role c (beside.0 (Sitter p) (sits p v.role who))
            (λ q n f at number _ t. far.1 (TheCall p (queued_in p v.seen)) (call_had w.client.list p (queued_in p v.seen) e is p (queued_in p v.seen) refl refl) (call_had c.list q n f at p (queued_in p v.seen) t (number ∙ (ap (λ z. queued_in z log) t ∙ sym same)))) h;
        has = had;
      })
    where
      had : (x : Right) → has v.role (record v.client { list = NoList }) x ≡ true → (has v.role v.client x ≡ true) ⊎ (has w.role w.client x ≡ true)
      had (TheList q) h = none (sym (has_plain v.role NoList q (sits_plain v.role p who)) ∙ h)
      had (TheBatch q) h = inl h
      had (TheCall q n) h = none h

  -- a call that was counted is moved into its list
  pub moves_call : (id : ℕ) (v : View J) (other : ℕ) (w : View J) (p n : ℕ) (k : Known J) (e : Entry J) → v.role ≡ Nobody → v.client.list ≡ OfList p k
      → w.client.list ≡ OfCall p n e → n ≡ k.finished + count_out k.out + length k.waiting → n < k.queued → Joins (Kept plan) id v other w (moving v w) (spent tally_client)
  moves_call id v other w p n k e nobody mine is number below = annals.takes_part tally_client plan id v other w v.told (record v.client { list = right_moved v.client.list w.client.list }) (λ log told _. told) (λ calling words homes log deeds a sees seen.
      let there : IsThere p k log = subst (λ (z : ListRight J). HasList calling log z) mine sees.known.list in
      let call : IsCall calling log p n e = subst (λ (z : ListRight J). HasList calling log z) is seen.known.list in
      let least = there.queued_least in
      let found : slice_get (calls_in p log) n ≡ Some e = ⊎_elim (λ (x : slice_get (calls_in p log) n ≡ Some e). x) (λ (y : (n ≡ queued_in p log) × (calling p ≡ Some e)). absurd (let z = y.0 in omega (arith, z, least, below))) call in
      let next = next_comes p k log e a.loads there (ap (slice_get (calls_in p log)) (sym number) ∙ found) in record {
        world' = calling;
        agreed = a;
        known = record {
          list = subst (λ (z : ListRight J). HasList calling log z) (sym right) record { queued_least = least; finished_is = there.finished_is; out_is = there.out_is; few = next.0; waiting_is = next.1 };
          batch = sees.known.batch;
          whose = as_like calling log v.role v.client.list (right_moved v.client.list w.client.list) (nobody_plain v.role nobody) (ap call_of_right right ∙ sym (ap call_of_right mine)) sees.known.whose;
        };
        others = λ role c _ _ h. h;
        has = had;
      })
    where
      right : right_moved v.client.list w.client.list ≡ OfList p (known_moved e k)
      right = λ i. right_moved (mine i) (is i)

      had : (x : Right) → has v.role (record v.client { list = right_moved v.client.list w.client.list }) x ≡ true → (has v.role v.client x ≡ true) ⊎ (has w.role w.client x ≡ true)
      had (TheList q) h = inl (sym (list_like v.role v.client.list (right_moved v.client.list w.client.list) (λ z. ap (λ r. has_list r z) right ∙ sym (ap (λ r. has_list r z) mine)) q) ∙ h)
      had (TheBatch q) h = inl h
      had (TheCall q m) h = none (sym (ap (λ r. has_call r q m) right) ∙ h)

  -- New tally words
  pub opens : (words : List ℕ) → length words ≡ word_count plan.processors → ((k : ℕ) → get_or words k 0 ≡ 0) → Kept {J = J} plan (opening words [] (founder tally_client plan))
  opens words wide zeros = annals.opens tally_client plan words [] (λ _. None)
      record { loads = tt; takers = tt; counted = λ p. record { all = omega arith; few = omega arith }; wide = wide; queued = λ p _. zeros (queued_place p); finished = λ p _. zeros (finished_place p) }
      record { list = tt; batch = tt; whose = (refl, λ p _. record { queued = refl; finished = refl; line = refl; quiet = refl }) }
