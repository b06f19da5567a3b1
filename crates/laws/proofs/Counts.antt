-- What was counted is queued, and a barrier that is started later covers it.
use Rattle.std.proofs.Common.{◌≡◌, ℕ, zero, suc, ◌+◌, ◌<◌, ◌≤◌, ◌==◌, get_or, map, Bool, true, false, cond, List, [], ◌∷◌, ◌++◌, length, refl, sym, ap, ◌∙◌, subst, append_assoc, append-nil, length-append, arith}
use Rattle.calls.specs.declared.view.Act.TheVariants.{LoadQueued}
use Rattle.calls.specs.declared.view.Deed.{Deed}
use Rattle.calls.specs.Tallies.{deed, deeds_of, queued_in, IsBeginning, IsTrueOf, AreTrueAfter, AreTrue}
use Rattle.calls.specs.Barriers.{number_for, queued_loads}
use Rattle.calls.proofs.CallerLemmas.{begins_on, queued_later, true_beginning}
use Rattle.laws.specs.Barriers.{HasCounted, LooksCount, StartsCount, HearingCounts, CountsStay, CountedAreCovered, CountedAreFinished}

module _ {J : Type 0} where
  last_after : (before l : List (Deed J)) (d : Deed J) → AreTrueAfter before (l ++ d ∷ []) → IsTrueOf (before ++ l) d.act
  last_after before [] d h = subst (λ (z : List (Deed J)). IsTrueOf z d.act) (sym (append-nil before)) h.0
  last_after before (x ∷ xs) d h = subst (λ (z : List (Deed J)). IsTrueOf z d.act) (append_assoc before (x ∷ []) xs) (last_after (before ++ x ∷ []) xs d h.1)

  -- so many are queued, for one who has seen the load
  counted : (p n : ℕ) (seen : List (Deed J)) → AreTrue seen → HasCounted p n seen → n ≤ queued_in p seen
  counted p n seen true_loads h =
      let one : List (Deed J) = deed h.by (LoadQueued p n) ∷ [] in
      let found : n ≡ queued_in p h.before = last_after [] h.before (deed h.by (LoadQueued p n)) (true_beginning h.upto true_loads) in
      let front : IsBeginning h.before (h.before ++ one) = record { rest = one; whole = refl } in
      let less = queued_later p (begins_on front h.upto) in
      omega (arith, found, less)

  -- Where a deed of a processor stands

  pub record StandsIn (d : Deed J) (l : List (Deed J)) : Type 0 where
    pub before : List (Deed J)
    pub upto : IsBeginning (before ++ d ∷ []) l

  later_one : (x : Deed J) (d : Deed J) (l : List (Deed J)) → StandsIn d l → StandsIn d (x ∷ l)
  later_one x d l h = record { before = x ∷ h.before; upto = record { rest = h.upto.rest; whole = ap (λ z. x ∷ z) h.upto.whole } }

  some_in_none : (xs : List (Deed J)) (d : Deed J) (ys : List (Deed J)) → [] ≡ xs ++ d ∷ ys → ⊥
  some_in_none xs d ys e = let n = ap length e in let long = length-append xs (d ∷ ys) in omega (arith, n, long)

  stands : (q : ℕ) (d : Deed J) (l xs ys : List (Deed J)) → deeds_of q l ≡ xs ++ d ∷ ys → StandsIn d l
  stands q d [] xs ys e = absurd (some_in_none xs d ys e)
  stands q d (x ∷ l) xs ys e = by_maker (λ us rest. stands q d l us ys rest) (x.by == q) xs e
    where
      by_first : ((us : List (Deed J)) → deeds_of q l ≡ us ++ d ∷ ys → StandsIn d l) → (us : List (Deed J)) → x ∷ deeds_of q l ≡ us ++ d ∷ ys → StandsIn d (x ∷ l)
      by_first later [] e = let is : x ≡ d = cc in record { before = []; upto = record { rest = l; whole = ap (λ z. z ∷ l) is } }
      by_first later (u ∷ us) e = let rest : deeds_of q l ≡ us ++ d ∷ ys = cc in later_one x d l (later us rest)

      by_maker : ((us : List (Deed J)) → deeds_of q l ≡ us ++ d ∷ ys → StandsIn d l) → (b : Bool) (us : List (Deed J)) → cond b (x ∷ deeds_of q l) (deeds_of q l) ≡ us ++ d ∷ ys → StandsIn d (x ∷ l)
      by_maker later true us e = by_first later us e
      by_maker later false us e = later_one x d l (later us e)

  -- one load of those that a barrier makes
  pub record IsAmong (d : Deed J) (l : List (Deed J)) : Type 0 where
    pub before : List (Deed J)
    pub after : List (Deed J)
    pub whole : l ≡ before ++ d ∷ after

  one_of : (q k p : ℕ) (ns : List ℕ) → p < length ns → IsAmong (deed q (LoadQueued (k + p) (get_or ns p 0))) (map (deed q) (queued_loads k ns))
  one_of q k p [] lt = absurd (omega (arith, lt))
  one_of q k zero (n ∷ ns) lt = record { before = []; after = map (deed q) (queued_loads (k + 1) ns); whole = ap (λ j. deed q (LoadQueued j n) ∷ map (deed q) (queued_loads (k + 1) ns)) (let e : k ≡ k + 0 = omega arith in e) }
  one_of q k (suc p) (n ∷ ns) lt =
      let more = one_of q (k + 1) p ns (omega (arith, lt)) in
      let at : k + 1 + p ≡ k + suc p = omega arith in record {
        before = deed q (LoadQueued k n) ∷ more.before;
        after = more.after;
        whole = ap (λ z. deed q (LoadQueued k n) ∷ z) (more.whole ∙ ap (λ j. more.before ++ deed q (LoadQueued j (get_or ns p 0)) ∷ more.after) at);
      }

  pub starts_count : StartsCount J
  starts_count p s t s' there starts =
      let q : ℕ = s.processor in
      let is = starts.whole in
      let one = one_of q 0 p t.numbers (omega (arith, there, is)) in
      let front : List (Deed J) = deeds_of q s.seen in
      let d : Deed J = deed q (LoadQueued p (number_for p t)) in
      let named : deed q (LoadQueued (0 + p) (get_or t.numbers p 0)) ≡ d = ap (λ j. deed q (LoadQueued j (number_for p t))) (let e : 0 + p ≡ p = omega arith in e) in
      let split : deeds_of q s'.seen ≡ (front ++ one.before) ++ d ∷ one.after = starts.loads.own ∙ (ap (λ l. front ++ l) (one.whole ∙ ap (λ z. one.before ++ z ∷ one.after) named) ∙ sym (append_assoc front one.before (d ∷ one.after))) in
      let h = stands q d s'.seen (front ++ one.before) one.after split in
      record { before = h.before; by = q; upto = h.upto }

  pub looks_count : LooksCount J
  looks_count p s s' look = let h = stands s.processor (deed s.processor (LoadQueued p look.found)) s'.seen (deeds_of s.processor s.seen) [] look.own in record { before = h.before; by = s.processor; upto = h.upto }

  pub hearing_counts : HearingCounts J
  hearing_counts r s s' hears = record { before = hears.does.before; by = s.processor; upto = record { rest = []; whole = hears.does.seen ∙ sym (append-nil (hears.does.before ++ deed s.processor (LoadQueued r.processor hears.found) ∷ [])) } }

  pub counts_stay : CountsStay J
  counts_stay p n seen later on h = record { before = h.before; by = h.by; upto = begins_on h.upto on }

  pub covered : CountedAreCovered J
  covered r n s t s' h below there starts =
      let least = counted r.processor n s.seen (true_beginning starts.loads.since starts.loads.loads) h in
      let most = starts.not_below r.processor there in
      omega (arith, least, most, below)

  pub finished : CountedAreFinished J
  finished r n s t s' seen h below there starts is_done =
      let in_ticket = covered r n s t s' h below there starts in
      let at_least = is_done r.processor in
      omega (arith, in_ticket, at_least)
