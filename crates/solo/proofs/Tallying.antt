-- What was done at the tally words, where all processors are in one hand: each has just its own deeds, so the counts are those of before and of the act.
use Rattle.std.proofs.Common.{◌≡◌, ◌≢◌, ℕ, suc, ◌+◌, ◌<◌, Bool, cond, if◌then◌else◌, map, List, [], ◌∷◌, ◌++◌, length, get_or, set, refl, sym, ap, ◌∙◌, subst, append-nil, arith, length-append, length-set, get_or-set_other, get_or-set_same, eq-eqb, ne_eqb}
use Rattle.solo.proofs.Words.{Some, replicate, slice_get, length-map, get_or-map, ext_get_or, append_cancel_left, dite, ℕ_discrete, Queue, Take, LackRoom, LoadQueued, LoadFinished, Deed, Line, no_calls, with_call, next_line, line_from, line_in, queued_in, finished_by, finished_in, deeds_of, IsTaker}
use Rattle.solo.proofs.Words.{AreTakers, CallSeatView, begins_on, deeds_append, same_queued, earlier_takers, DomainView, CpuView, IsOf, IsAllOf, TalliesMeet, TallyTogether, queued_on, finished_on, lines_on, in_one, list_in, Adds, CountsNothing, queued_append, finished_append, lists_append}
use Rattle.std.proofs.lemmas.Option.{slice_get-get_or}
use Rattle.calls.specs.Glossary.{IsBeginning, Accepts}
use Rattle.calls.specs.declared.view.Act.{Act}
use Rattle.calls.specs.declared.view.Act.TheVariants.{Finish}

-- Among all

module _ {J : Type 0} where
  -- the list goes on from one that all had seen. In what came behind it are these deeds of processor p, and none of the others; and all batches were finished by processors that are there
  pub record GoesOnBy (n p : ℕ) (before act all : List (Deed J)) : Type 0 where
    pub since : IsBeginning before all
    pub own : deeds_of p all ≡ deeds_of p before ++ act
    pub others : (q : ℕ) → q < n → q ≢ p → deeds_of q all ≡ deeds_of q before
    pub takers : AreTakers n all

  later_takers : (n : ℕ) (a b : List (Deed J)) → AreTakers n (a ++ b) → AreTakers n b
  later_takers n [] b h = h
  later_takers n (x ∷ xs) b h = later_takers n xs b h.1

  none_left : (l : List (Deed J)) → length l ≡ 0 → l ≡ []
  none_left [] none = refl
  none_left (x ∷ l) none = absurd (omega (arith, none))

  not_first : (x : Deed J) (xs : List (Deed J)) → deeds_of x.by (x ∷ xs) ≡ [] → ⊥
  not_first x xs is = let h : x ∷ deeds_of x.by xs ≡ [] = sym (ap (λ b. cond b (x ∷ deeds_of x.by xs) (deeds_of x.by xs)) (eq-eqb x.by x.by refl)) ∙ is in cc

  none_behind : (q : ℕ) (x : Deed J) (xs : List (Deed J)) → deeds_of q (x ∷ xs) ≡ [] → deeds_of q xs ≡ []
  none_behind q x xs is = dite (ℕ_discrete x.by q)
      (λ e. absurd (not_first x xs (subst (λ k. deeds_of k (x ∷ xs) ≡ []) (sym e) is)))
      (λ other. sym (ap (λ b. cond b (x ∷ deeds_of q xs) (deeds_of q xs)) (ne_eqb x.by q other)) ∙ is)

  deeds_twice : (p : ℕ) (l : List (Deed J)) → deeds_of p (deeds_of p l) ≡ deeds_of p l
  deeds_twice p [] = refl
  deeds_twice p (x ∷ xs) = dite (ℕ_discrete x.by p)
      (λ e. let kept : deeds_of p (x ∷ xs) ≡ x ∷ deeds_of p xs = ap (λ b. cond b (x ∷ deeds_of p xs) (deeds_of p xs)) (eq-eqb x.by p e) in
      ap (deeds_of p) kept ∙ (ap (λ b. cond b (x ∷ deeds_of p (deeds_of p xs)) (deeds_of p (deeds_of p xs))) (eq-eqb x.by p e) ∙ (ap (λ l. x ∷ l) (deeds_twice p xs) ∙ sym kept)))
      (λ other. let kept : deeds_of p (x ∷ xs) ≡ deeds_of p xs = ap (λ b. cond b (x ∷ deeds_of p xs) (deeds_of p xs)) (ne_eqb x.by p other) in ap (deeds_of p) kept ∙ (deeds_twice p xs ∙ sym kept))

  finishes_none : (n q by : ℕ) (act : Act J) → IsTaker n by act → (by < n → ⊥) → finished_by q act ≡ 0
  finishes_none n q by (Queue e) h away = refl
  finishes_none n q by (Take p number max moved) h away = refl
  finishes_none n q by (Finish p k) h away = absurd (away h)
  finishes_none n q by (LackRoom p moved) h away = refl
  finishes_none n q by (LoadQueued p k) h away = refl
  finishes_none n q by (LoadFinished p k) h away = refl

  -- where no other processor that is there did anything, the deeds of one tell what is finished
  finished_by_one : (n p q : ℕ) (l : List (Deed J)) → AreTakers n l → ((k : ℕ) → k < n → k ≢ p → deeds_of k l ≡ []) → finished_in q l ≡ finished_in q (deeds_of p l)
  finished_by_one n p q [] h others = refl
  finished_by_one n p q (x ∷ xs) h others =
      let rest = finished_by_one n p q xs h.1 (λ k lt ne. none_behind k x xs (others k lt ne)) in
      dite (ℕ_discrete x.by p)
      (λ e. let kept : finished_in q (deeds_of p (x ∷ xs)) ≡ finished_by q x.act + finished_in q (deeds_of p xs) = ap (λ b. finished_in q (cond b (x ∷ deeds_of p xs) (deeds_of p xs))) (eq-eqb x.by p e) in omega (arith, kept, rest))
      (λ other. let kept : finished_in q (deeds_of p (x ∷ xs)) ≡ finished_in q (deeds_of p xs) = ap (λ b. finished_in q (cond b (x ∷ deeds_of p xs) (deeds_of p xs))) (ne_eqb x.by p other) in
      let none = finishes_none n q x.by x.act h.0 (λ lt. not_first x xs (others x.by lt other)) in omega (arith, kept, none, rest))

  -- one that isn't there leaves each list of those that are
  away_none : (n q by : ℕ) (act : Act J) (l : Line J) → q < n → IsTaker n by act → (by < n → ⊥) → next_line q by act l ≡ l
  away_none n q by (Queue e) l lt h away = ap (λ (b : Bool). if b then with_call e l else l) (ne_eqb by q (λ same. away (omega (arith, same, lt))))
  away_none n q by (Take p number max moved) l lt h away = absurd (away h)
  away_none n q by (Finish p k) l lt h away = absurd (away h)
  away_none n q by (LackRoom p moved) l lt h away = refl
  away_none n q by (LoadQueued p k) l lt h away = refl
  away_none n q by (LoadFinished p k) l lt h away = refl

  -- so the deeds of one tell each list too
  line_by_one : (n p q : ℕ) (l : List (Deed J)) (k : Line J) → q < n → AreTakers n l → ((m : ℕ) → m < n → m ≢ p → deeds_of m l ≡ []) → line_from q k l ≡ line_from q k (deeds_of p l)
  line_by_one n p q [] k lt h others = refl
  line_by_one n p q (x ∷ xs) k lt h others =
      let rest = λ (z : Line J). line_by_one n p q xs z lt h.1 (λ m small ne. none_behind m x xs (others m small ne)) in
      dite (ℕ_discrete x.by p)
      (λ e. let kept : deeds_of p (x ∷ xs) ≡ x ∷ deeds_of p xs = ap (λ b. cond b (x ∷ deeds_of p xs) (deeds_of p xs)) (eq-eqb x.by p e) in rest (next_line q x.by x.act k) ∙ sym (ap (line_from q k) kept))
      (λ other. let kept : deeds_of p (x ∷ xs) ≡ deeds_of p xs = ap (λ b. cond b (x ∷ deeds_of p xs) (deeds_of p xs)) (ne_eqb x.by p other) in
      ap (λ z. line_from q z xs) (away_none n q x.by x.act k lt h.0 (λ small. not_first x xs (others x.by small other))) ∙ (rest k ∙ sym (ap (line_from q k) kept)))

  module _ (n p : ℕ) (before act all : List (Deed J)) (h : GoesOnBy n p before act all) where
    rest_of_others : (q : ℕ) → q < n → q ≢ p → deeds_of q h.since.rest ≡ []
    rest_of_others q lt other =
        let whole = ap (λ l. length (deeds_of q l)) h.since.whole in
        let parts = ap length (deeds_append q before h.since.rest) ∙ length-append (deeds_of q before) (deeds_of q h.since.rest) in
        let same = ap length (h.others q lt other) in
        none_left (deeds_of q h.since.rest) (omega (arith, whole, parts, same))

    rest_of_one : deeds_of p h.since.rest ≡ act
    rest_of_one = append_cancel_left (deeds_of p before) (deeds_of p h.since.rest) act (sym (deeds_append p before h.since.rest) ∙ (ap (deeds_of p) (sym h.since.whole) ∙ h.own))

    pub finished_are : (q : ℕ) → finished_in q all ≡ finished_in q before + finished_in q act
    finished_are q =
        let whole = ap (finished_in q) h.since.whole ∙ finished_append q before h.since.rest in
        let one = finished_by_one n p q h.since.rest (later_takers n before h.since.rest (subst (λ l. AreTakers n l) h.since.whole h.takers)) rest_of_others ∙ ap (finished_in q) rest_of_one in
        omega (arith, whole, one)

    pub queued_here : queued_in p all ≡ queued_in p before + queued_in p act
    queued_here =
        let whole = ap (queued_in p) h.since.whole ∙ queued_append p before h.since.rest in
        let one : queued_in p h.since.rest ≡ queued_in p act = same_queued p h.since.rest act (rest_of_one ∙ own_of_own) in
        omega (arith, whole, one)
      where
        own_of_own : act ≡ deeds_of p act
        own_of_own = sym rest_of_one ∙ (sym (deeds_twice p h.since.rest) ∙ ap (deeds_of p) rest_of_one)

    pub queued_else : (q : ℕ) → q < n → q ≢ p → queued_in q all ≡ queued_in q before
    queued_else q lt other = same_queued q all before (h.others q lt other)

    pub lines_are : (q : ℕ) → q < n → line_in q all ≡ line_from q (line_in q before) act
    lines_are q lt =
        ap (line_in q) h.since.whole ∙ (lists_append q no_calls before h.since.rest ∙ (line_by_one n p q h.since.rest (line_in q before) lt (later_takers n before h.since.rest (subst (λ l. AreTakers n l) h.since.whole h.takers)) rest_of_others
        ∙ ap (line_from q (line_in q before)) rest_of_one))

    -- a moment in between, at which these were done
    pub at_moment : (x : List (Deed J)) → IsBeginning before x → IsBeginning x all → (some : List (Deed J)) → deeds_of p x ≡ deeds_of p before ++ some → GoesOnBy n p before some x
    at_moment x low high some own = record {
      since = low;
      own = own;
      others = λ q lt other.
          let one = ap (λ l. length (deeds_of q l)) low.whole in
          let first = ap length (deeds_append q before low.rest) ∙ length-append (deeds_of q before) (deeds_of q low.rest) in
          let two = ap (λ l. length (deeds_of q l)) high.whole in
          let second = ap length (deeds_append q x high.rest) ∙ length-append (deeds_of q x) (deeds_of q high.rest) in
          let same = ap length (h.others q lt other) in
          ap (deeds_of q) low.whole ∙ (deeds_append q before low.rest ∙ (ap (λ l. deeds_of q before ++ l) (none_left (deeds_of q low.rest) (omega (arith, one, first, two, second, same))) ∙ append-nil (deeds_of q before)));
      takers = earlier_takers n high h.takers;
    }

    module _ (none : CountsNothing act) where
      pub still_line : (q : ℕ) → q < n → line_in q all ≡ line_in q before
      still_line q lt = lines_are q lt ∙ none.lists q (line_in q before)

      pub still_finished : (q : ℕ) → finished_in q all ≡ finished_in q before
      still_finished q = let are = finished_are q in let no = none.finished q in omega (arith, are, no)

      pub still_queued : (q : ℕ) → q < n → queued_in q all ≡ queued_in q before
      still_queued q lt = dite (ℕ_discrete q p)
          (λ same. subst (λ k. queued_in k all ≡ queued_in k before) (sym same) (let are = queued_here in let no = none.queued p in omega (arith, are, no)))
          (λ other. queued_else q lt other)

  -- All processors

  -- a count, or another value, of each processor, as it knows it
  abbrev pub counts_on : {V : Type 0} → (ℕ → List (Deed J) → V) → List (CpuView J) → List V
  counts_on count cpus = map (λ c. count c.calls.processor c.calls.seen) cpus

  module _ {V : Type 0} (none : V) (count : ℕ → List (Deed J) → V) where
    abbrev count_for : CpuView J → V
    count_for c = count c.calls.processor c.calls.seen

    -- where all have seen one list, these are its counts
    pub count_at : (d : DomainView) (deeds : List (Deed J)) (cpus : List (CpuView J)) → TallyTogether d deeds cpus → (k : ℕ) → k < length cpus → get_or (counts_on count cpus) k none ≡ count k deeds
    count_at d deeds [] together k lt = absurd (omega (arith, lt))
    count_at d deeds (c ∷ cpus) together k lt = get_or-map count_for (c ∷ cpus) k c none lt ∙ ap (λ (s : CallSeatView J). count s.processor s.seen) (together.seats k c lt)

    pub found_at : (d : DomainView) (deeds : List (Deed J)) (cpus : List (CpuView J)) → TallyTogether d deeds cpus → (k : ℕ) → k < length cpus → slice_get (counts_on count cpus) k ≡ Some (count k deeds)
    found_at d deeds cpus together k lt = slice_get-get_or (counts_on count cpus) k none (let long = length-map cpus count_for in omega (arith, long, lt)) ∙ ap Some (count_at d deeds cpus together k lt)

    module _ (d d' : DomainView) (deeds deeds' : List (Deed J)) (cpus cpus' : List (CpuView J)) (together : TallyTogether d deeds cpus) (together' : TallyTogether d' deeds' cpus') (long : length cpus' ≡ length cpus) where
      many : length (counts_on count cpus') ≡ length cpus
      many = length-map cpus' count_for ∙ long

      pub same_counts : ((k : ℕ) → k < length cpus → count k deeds' ≡ count k deeds) → counts_on count cpus' ≡ counts_on count cpus
      same_counts same = ext_get_or none (counts_on count cpus') (counts_on count cpus) (many ∙ sym (length-map cpus count_for)) (λ k lt.
          let inside : k < length cpus = (let all = many in omega (arith, all, lt)) in
          count_at d' deeds' cpus' together' k (omega (arith, inside, long)) ∙ (same k inside ∙ sym (count_at d deeds cpus together k inside)))

      -- but for one
      pub one_count : (p : ℕ) (m : V) → (p < length cpus → count p deeds' ≡ m) → ((k : ℕ) → k < length cpus → k ≢ p → count k deeds' ≡ count k deeds) → counts_on count cpus' ≡ set (counts_on count cpus) p m
      one_count p m here others =
          let old : length (counts_on count cpus) ≡ length cpus = length-map cpus count_for in
          ext_get_or none (counts_on count cpus') (set (counts_on count cpus) p m) (many ∙ sym (length-set (counts_on count cpus) p m ∙ old)) (λ k lt.
          let inside : k < length cpus = (let all = many in omega (arith, all, lt)) in
          let found : get_or (counts_on count cpus') k none ≡ count k deeds' = count_at d' deeds' cpus' together' k (omega (arith, inside, long)) in
          found ∙ dite (ℕ_discrete k p)
          (λ same. let there : p < length cpus = omega (arith, inside, same) in
          subst (λ q. count q deeds' ≡ get_or (set (counts_on count cpus) p m) q none) (sym same) (here there ∙ sym (get_or-set_same (counts_on count cpus) p m none (omega (arith, there, old)))))
          (λ other. others k inside other ∙ (sym (count_at d deeds cpus together k inside) ∙ sym (get_or-set_other (counts_on count cpus) p k m none other))))

    -- where nothing is counted of any
    pub none_counted : (cpus : List (CpuView J)) → ((k : ℕ) (c : CpuView J) → k < length cpus → count_for (get_or cpus k c) ≡ none) → counts_on count cpus ≡ replicate (length cpus) none
    none_counted [] are = refl
    none_counted (x ∷ cpus) are = λ i. are 0 x (omega arith) i ∷ none_counted cpus (λ k c lt. are (suc k) c (omega (arith, lt))) i

  -- as many jobs of each are queued and finished, and its list is as it was
  abbrev pub KeepCalls : List (CpuView J) → List (CpuView J) → Type 0
  KeepCalls cpus cpus' = (queued_on cpus' ≡ queued_on cpus) × (finished_on cpus' ≡ finished_on cpus) × (lines_on cpus' ≡ lines_on cpus)

  pub calls_stay : (d d' : DomainView) (deeds deeds' : List (Deed J)) (cpus cpus' : List (CpuView J)) → TallyTogether d deeds cpus → TallyTogether d' deeds' cpus' → length cpus' ≡ length cpus → (p : ℕ) (act : List (Deed J)) → GoesOnBy (length cpus) p deeds act deeds' → CountsNothing act → KeepCalls cpus cpus'
  calls_stay d d' deeds deeds' cpus cpus' together together' long p act on none = (
    same_counts 0 queued_in d d' deeds deeds' cpus cpus' together together' long (still_queued (length cpus) p deeds act deeds' on none),
    same_counts 0 finished_in d d' deeds deeds' cpus cpus' together together' long (λ k lt. still_finished (length cpus) p deeds act deeds' on none k),
    same_counts no_calls list_in d d' deeds deeds' cpus cpus' together together' long (λ k lt. ap in_one (still_line (length cpus) p deeds act deeds' on none k lt)),
  )

  -- one of them acted, and then all met: these deeds are all that came
  pub record IsTallied (d d' : DomainView) (p : ℕ) (before act all : List (Deed J)) (cpus cpus' : List (CpuView J)) : Type 0 where
    pub tallies : d'.tallies ≡ d.tallies
    pub on : GoesOnBy (length cpus) p before act all
    pub together : TallyTogether d' all cpus'

  module _ (d d' : DomainView) (before : List (Deed J)) (cpus cpus' : List (CpuView J)) (p : ℕ) (was now : CpuView J) (inside : p < length cpus) (is : was ≡ get_or cpus p was) (together : TallyTogether d before cpus) (act : List (Deed J)) (adds : Adds act was.calls now.calls)
      (count : length cpus' ≡ length (set cpus p now)) (meets : TalliesMeet (set cpus p now) cpus') (all : IsAllOf d' cpus') where
    was_is : was.calls ≡ record { domain = d.domain; tallies = d.tallies; processors = length cpus; processor = p; seen = before }
    was_is = ap (λ (z : CpuView J). z.calls) is ∙ together.seats p was inside

    within : (k : ℕ) → k < length cpus → k < length (set cpus p now)
    within k lt = omega (arith, length-set cpus p now, lt)

    accepts_here : (c : CpuView J) → Accepts now.calls meets.deeds (get_or cpus' p c).calls
    accepts_here c = subst (λ (z : CpuView J). Accepts z.calls meets.deeds (get_or cpus' p c).calls) (get_or-set_same cpus p now c inside) (meets.each p c (within p inside))

    accepts_else : (k : ℕ) (c : CpuView J) → k < length cpus → k ≢ p → Accepts (record { domain = d.domain; tallies = d.tallies; processors = length cpus; processor = k; seen = before }) meets.deeds (get_or cpus' k c).calls
    accepts_else k c lt other = subst (λ (s : CallSeatView J). Accepts s meets.deeds (get_or cpus' k c).calls) (ap (λ (z : CpuView J). z.calls) (get_or-set_other cpus p k now c other) ∙ together.seats k c lt) (meets.each k c (within k lt))

    left : IsOf d' (get_or cpus' p was)
    left = all.here p was (omega (arith, count, length-set cpus p now, inside))

    same_tallies : d'.tallies ≡ d.tallies
    same_tallies = sym left.fits.tallies ∙ (ap (λ (s : CallSeatView J). s.tallies) (accepts_here was).is ∙ (adds.same.0 ∙ ap (λ (s : CallSeatView J). s.tallies) was_is))

    same_home : d'.domain ≡ d.domain
    same_home = sym left.fits.seat ∙ (ap (λ (s : CallSeatView J). s.domain) (accepts_here was).is ∙ (adds.same.3 ∙ ap (λ (s : CallSeatView J). s.domain) was_is))

    pub tallied : IsTallied d d' p before act meets.deeds cpus cpus'
    tallied = record {
      tallies = same_tallies;
      on = record {
        since = begins_on (subst (λ l. IsBeginning l now.calls.seen) (ap (λ (s : CallSeatView J). s.seen) was_is) adds.since) (accepts_here was).since;
        own =
            let here : now.calls.processor ≡ p = adds.same.2 ∙ ap (λ (s : CallSeatView J). s.processor) was_is in
            let kept : deeds_of p meets.deeds ≡ deeds_of p now.calls.seen = subst (λ k. deeds_of k meets.deeds ≡ deeds_of k now.calls.seen) here (accepts_here was).own in
            let more : deeds_of p now.calls.seen ≡ deeds_of p before ++ act = subst (λ (s : CallSeatView J). deeds_of s.processor now.calls.seen ≡ deeds_of s.processor s.seen ++ act) was_is adds.own in
            kept ∙ more;
        others = λ q lt other. (accepts_else q was lt other).own;
        takers = subst (λ k. AreTakers k meets.deeds) (length-set cpus p now) meets.takers;
      };
      together = record {
        seats = λ k c lt.
            let there : k < length cpus = omega (arith, count, length-set cpus p now, lt) in
            let long : length cpus ≡ length cpus' = sym (count ∙ length-set cpus p now) in
            dite (ℕ_discrete k p)
            (λ at. subst (λ q. (get_or cpus' q c).calls ≡ record { domain = d'.domain; tallies = d'.tallies; processors = length cpus'; processor = q; seen = meets.deeds }) (sym at)
            ((accepts_here c).is ∙ (λ i. record {
              domain = (adds.same.3 ∙ (ap (λ (s : CallSeatView J). s.domain) was_is ∙ sym same_home)) i;
              tallies = (adds.same.0 ∙ (ap (λ (s : CallSeatView J). s.tallies) was_is ∙ sym same_tallies)) i;
              processors = (adds.same.1 ∙ (ap (λ (s : CallSeatView J). s.processors) was_is ∙ long)) i;
              processor = (adds.same.2 ∙ ap (λ (s : CallSeatView J). s.processor) was_is) i;
              seen = meets.deeds;
            })))
            (λ other. (accepts_else k c there other).is ∙ (λ i. record { domain = sym same_home i; tallies = sym same_tallies i; processors = long i; processor = k; seen = meets.deeds }));
        takers = subst (λ k. AreTakers k meets.deeds) (sym count) meets.takers;
      };
    }
