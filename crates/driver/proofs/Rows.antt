-- Rows of what a driver does, one more thing at a time.
use Rattle.std.proofs.Common.{◌≡◌, ℕ, zero, suc, ◌+◌, inl, inr, ◌≤◌, Option, Some, Result, Err, List, [], ◌∷◌, ◌++◌, length, refl, sym, ap, ◌∙◌, subst, append-nil, append_assoc, add-one, length-append, arith}
use Rattle.std.proofs.lemmas.List.{length-map, nil_from_length}
use Rattle.std.specs.List.{FoldsTo}
use Rattle.onedom.specs.Histories.{open_sections}
use Rattle.onedom.proofs.CallerLemmas.{open_sections_plain}
use Rattle.scan.specs.declared.progress.Progress.{Progress}
use Rattle.calls.specs.declared.entry.Entry.{Entry}
use Rattle.calls.specs.Glossary.{BatchView, ListView, IsSameSeat, TakesIn, IsTaken}
use Rattle.sections.specs.Calls.{IsSameCpu}
use Rattle.scan.specs.declared.refusals.AdvanceRefusal.{AdvanceRefusal}
use Rattle.scan.specs.declared.refusals.AdvanceRefusal.TheVariants as advance
use Rattle.domain.specs.Glossary.{DomainView, CpuView, IsSameProcessor, callbacks_of, with_cpu, with_calls, HasNoneOpen}
use Rattle.domain.proofs.CallerLemmas.{none_still, same_trans, same_polled, same_finished}
use Rattle.driver.specs.Glossary.{Served, IsCount, periods_in, MayPoll, jobs_of, LooksAfter, LooksAfterAll, Round, Counts, Rounds, Works, WorksFrom, EndsInVain, EndsInVainFrom}

module _ {J : Type 0} where
  -- no reading is opened where jobs are taken
  pub none_taken : (d : DomainView) (p : ℕ) (c c' : CpuView J) (taken : Option (BatchView J)) → TakesIn (callbacks_of d) p 8 c.cpu c.calls taken c'.cpu c'.calls → HasNoneOpen c → HasNoneOpen c'
  none_taken d p c c' taken h still = none_still c c' (ap open_sections h.takes.gives.asks.adds.mine ∙ open_sections_plain c.cpu.mine _ refl (λ s. refl)) still

  -- the same processor, where nothing was done, and where something was taken
  pub same_itself : (c : CpuView J) → IsSameProcessor c c
  same_itself c = same_polled c c (refl, refl, refl, refl) refl

  pub same_taken : (c d : CpuView J) → IsSameCpu c.cpu d.cpu → IsSameSeat c.calls d.calls → d ≡ with_calls d.calls (with_cpu d.cpu c) → IsSameProcessor c d
  same_taken c d cpu seat rest = same_trans c (with_cpu d.cpu c) d (same_polled c (with_cpu d.cpu c) cpu refl) (same_finished (with_cpu d.cpu c) d seat rest)

  -- how many jobs there are in a batch that was taken
  whole : (l : ListView J) (gone : List (Entry J)) (b : BatchView J) (l' : ListView J) → IsTaken l gone (Some b) l' → (length b.entries ≡ length gone) × (b.count ≡ length gone)
  whole l [] b l' h = absurd h
  whole l (e ∷ es) b l' h = (ap (λ (z : BatchView J). length z.entries) h.0, ap (λ (z : BatchView J). z.count) h.0)

  pub as_many : (d : DomainView) (p : ℕ) (c c' : CpuView J) (b : BatchView J) → TakesIn (callbacks_of d) p 8 c.cpu c.calls (Some b) c'.cpu c'.calls → length (jobs_of b.entries) ≡ b.count
  as_many d p c c' b h =
      let n = whole h.list h.takes.gone b h.list' h.takes.taken_is in
      length-map b.entries (λ e. e.job) ∙ (n.0 ∙ sym n.1)

  pub at_most_eight : (d : DomainView) (p : ℕ) (c c' : CpuView J) (b : BatchView J) → TakesIn (callbacks_of d) p 8 c.cpu c.calls (Some b) c'.cpu c'.calls → b.count ≤ 8
  at_most_eight d p c c' b h =
      let n = (whole h.list h.takes.gone b h.list' h.takes.taken_is).1 in
      let many = h.takes.gives.many in
      omega (arith, n, many)

  module _ {F : Type 0} (step : F → J → F → Type 0) where
    -- the first job of these, and then the others
    pub ran_one : (entries es : List (Entry J)) (e : Entry J) (job : J) (f g last : F) → entries ≡ e ∷ es → job ≡ e.job → step f job g → FoldsTo step g (jobs_of es) last → FoldsTo step f (jobs_of entries) last
    ran_one entries es e job f g last is same did rest = subst (λ (l : List (Entry J)). FoldsTo step f (jobs_of l) last) (sym is) (g, subst (λ (j : J). step f j g) same did, rest)

    -- Looks

    -- so many jobs were run by looks at the lists of the first processors
    abbrev pub LookedAfter : DomainView → ℕ → F → CpuView J → ℕ → F → CpuView J → Type 0
    LookedAfter d p f c n g x = (jobs : List J) × (length jobs ≡ n) × LooksAfterAll step d p f c jobs g x

    pub looks_on : (d : DomainView) (p n m : ℕ) (f g h : F) (c x y : CpuView J) → LookedAfter d p f c n g x → ((jobs : List J) × (length jobs ≡ m) × LooksAfter step d p g x jobs h y) → LookedAfter d (p + 1) f c (n + m) h y
    looks_on d p n m f g h c x y before one = (
      before.0 ++ one.0,
      (let both = length-append before.0 one.0 in let a = before.1 in let b = one.1 in omega (arith, both, a, b)),
      subst (λ (k : ℕ). LooksAfterAll step d k f c (before.0 ++ one.0) h y) (sym (add-one p)) record { front = before.0; work = g; between = x; below = before.2; more = one.0; next = one.2; jobs_are = refl },
    )

    -- Rows

    -- a row of rounds, of whatever length
    abbrev pub Rows : DomainView → F → CpuView J → ℕ → List J → F → CpuView J → Type 0
    Rows d f c n js g x = (k : ℕ) × Rounds step d k f c n js g x

    moved : (d : DomainView) (k n n' : ℕ) (js js' : List J) (f g g' : F) (c x x' : CpuView J) → Rounds step d k f c n js g x → n' ≡ n → js' ≡ js → g' ≡ g → x' ≡ x → Rounds step d k f c n' js' g' x'
    moved d k n n' js js' f g g' c x x' row a b e i =
        subst (λ (z : CpuView J). Rounds step d k f c n' js' g' z) (sym i)
        (subst (λ (z : F). Rounds step d k f c n' js' z x) (sym e)
        (subst (λ (z : List J). Rounds step d k f c n' z g x) (sym b)
        (subst (λ (z : ℕ). Rounds step d k f c z js g x) (sym a) row)))

    -- one row and then another
    pub rows_on : (d : DomainView) (m a b : ℕ) (js ks : List J) (f g h : F) (c x y : CpuView J) → Rows d f c a js g x → Rounds step d m g x b ks h y → Rows d f c (a + b) (js ++ ks) h y
    rows_on d zero a b js ks f g h c x y first t =
        let z = t.0 in
        (first.0, moved d first.0 a (a + b) js (js ++ ks) f g h c x y first.1 (omega (arith, z)) (ap (λ l. js ++ l) t.1 ∙ append-nil js) t.2 t.3)
    rows_on d (suc m) a b js ks f g h c x y first t =
        let before = rows_on d m a t.so_far js t.front f g t.work c x t.between first t.before in
        let sum = t.periods_are in (
          suc before.0,
          record {
            so_far = a + t.so_far;
            front = js ++ t.front;
            work = t.work;
            between = t.between;
            before = before.1;
            ended = t.ended;
            more = t.more;
            next = t.next;
            periods_are = omega (arith, sum);
            jobs_are = ap (λ l. js ++ l) t.jobs_are ∙ sym (append_assoc js t.front t.more);
          },
        )

    -- a count of what many calls came to, and what one more came to
    counted_on : (told : ℕ) (js ks : List J) (m : ℕ) → length ks ≡ m → IsCount told (length js + m) → IsCount told (length (js ++ ks))
    counted_on told js ks m is count = subst (λ (k : ℕ). IsCount told k) (sym (length-append js ks ∙ ap (λ k. length js + k) is)) count

    -- Nothing was done yet

    pub works_none : (d : DomainView) (f : F) (c : CpuView J) (s : Served) → s.periods ≡ 0 → s.jobs ≡ 0 → Works step d f c s f c
    works_none d f c s p j = record { steps = zero; ended = 0; done = []; row = (refl, refl, refl, refl); periods_told = λ lt. p; jobs_told = λ lt. j }

    more_none : (told n : ℕ) → IsCount told n → IsCount told (n + 0)
    more_none told n count = λ lt. let is = count (omega (arith, lt)) in omega (arith, is)

    pub works_from_none : (d : DomainView) (f : F) (c : CpuView J) (s : Served) → WorksFrom step d s f c s f c
    works_from_none d f c s = record { steps = zero; ended = 0; done = []; row = (refl, refl, refl, refl); periods_told = λ n count. more_none s.periods n count; jobs_told = λ n count. more_none s.jobs n count }

    from_none : (told n : ℕ) → IsCount told (0 + n) → IsCount told n
    from_none told n count = λ lt. let is = count (omega (arith, lt)) in omega (arith, is)

    -- counts that go on from nothing are those of all
    pub works_of_all : (d : DomainView) (before : Served) (f g : F) (c x : CpuView J) (s : Served) → before.periods ≡ 0 → before.jobs ≡ 0 → WorksFrom step d before f c s g x → Works step d f c s g x
    works_of_all d before f g c x s p j w = record { steps = w.steps; ended = w.ended; done = w.done; row = w.row; periods_told = from_none s.periods w.ended (w.periods_told 0 (λ lt. p)); jobs_told = from_none s.jobs (length w.done) (w.jobs_told 0 (λ lt. j)) }

    -- One more round

    -- a round that ran so many jobs
    abbrev pub Rounded : DomainView → F → CpuView J → Result Progress AdvanceRefusal → ℕ → F → CpuView J → Type 0
    Rounded d g x answer n h y = (jobs : List J) × (length jobs ≡ n) × Round step d g x answer jobs h y

    pub works_on : (d : DomainView) (f g h : F) (c x y : CpuView J) (s t : Served) (answer : Result Progress AdvanceRefusal) (n : ℕ) → Works step d f c s g x → Rounded d g x answer n h y
        → ((k : ℕ) → IsCount s.periods k → IsCount t.periods (k + periods_in answer)) → ((k : ℕ) → IsCount s.jobs k → IsCount t.jobs (k + n)) → Works step d f c t h y
    works_on d f g h c x y s t answer n w r p j = record {
      steps = suc w.steps;
      ended = w.ended + periods_in answer;
      done = w.done ++ r.0;
      row = record { so_far = w.ended; front = w.done; work = g; between = x; before = w.row; ended = periods_in answer; more = r.0; next = inl record { answer = answer; round = r.2; ended = refl }; periods_are = refl; jobs_are = refl };
      periods_told = p w.ended w.periods_told;
      jobs_told = counted_on t.jobs w.done r.0 n r.1 (j (length w.done) w.jobs_told);
    }

    -- the same of counts that go on from others
    further : (told a b m : ℕ) → IsCount told ((a + b) + m) → IsCount told (a + (b + m))
    further told a b m count = λ lt. let is = count (omega (arith, lt)) in omega (arith, is)

    counted_further : (told a : ℕ) (js ks : List J) (m : ℕ) → length ks ≡ m → IsCount told ((a + length js) + m) → IsCount told (a + length (js ++ ks))
    counted_further told a js ks m is count = subst (λ (k : ℕ). IsCount told (a + k)) (sym (length-append js ks ∙ ap (λ k. length js + k) is)) (further told a (length js) m count)

    pub works_from_on : (d : DomainView) (before : Served) (f g h : F) (c x y : CpuView J) (s t : Served) (answer : Result Progress AdvanceRefusal) (n : ℕ) → WorksFrom step d before f c s g x
        → Rounded d g x answer n h y → ((k : ℕ) → IsCount s.periods k → IsCount t.periods (k + periods_in answer)) → ((k : ℕ) → IsCount s.jobs k → IsCount t.jobs (k + n)) → WorksFrom step d before f c t h y
    works_from_on d before f g h c x y s t answer n w r p j = record {
      steps = suc w.steps;
      ended = w.ended + periods_in answer;
      done = w.done ++ r.0;
      row = record { so_far = w.ended; front = w.done; work = g; between = x; before = w.row; ended = periods_in answer; more = r.0; next = inl record { answer = answer; round = r.2; ended = refl }; periods_are = refl; jobs_are = refl };
      periods_told = λ k count. further t.periods k w.ended (periods_in answer) (p (k + w.ended) (w.periods_told k count));
      jobs_told = λ k count. counted_further t.jobs k w.done r.0 n r.1 (j (k + length w.done) (w.jobs_told k count));
    }

    -- One more step on the tally words

    pub counts_from_on : (d : DomainView) (before : Served) (f g : F) (c x y : CpuView J) (s : Served) → WorksFrom step d before f c s g x → Counts step g x 0 [] g y → WorksFrom step d before f c s g y
    counts_from_on d before f g c x y s w r = record {
      steps = suc w.steps;
      ended = w.ended;
      done = w.done;
      row = record { so_far = w.ended; front = w.done; work = g; between = x; before = w.row; ended = 0; more = []; next = inr r; periods_are = omega arith; jobs_are = sym (append-nil w.done) };
      periods_told = w.periods_told;
      jobs_told = w.jobs_told;
    }

    -- Both parts

    -- a sign is looked at behind that, and its ticket polled, if there is one
    pub works_polled : (d : DomainView) (f g : F) (c x y : CpuView J) (s : Served) → Works step d f c s g x → MayPoll x y → Works step d f c s g y
    works_polled d f g c x y s w (inl same) = subst (λ (z : CpuView J). Works step d f c s g z) (sym same) w
    works_polled d f g c x y s w (inr p) = record {
      steps = suc w.steps;
      ended = w.ended;
      done = w.done;
      row = record { so_far = w.ended; front = w.done; work = g; between = x; before = w.row; ended = 0; more = []; next = inr record { ticket = p.ticket; loads = inr (p.done, p.polls); rest = p.rest; none = (refl, refl, refl) }; periods_are = omega arith; jobs_are = sym (append-nil w.done) };
      periods_told = w.periods_told;
      jobs_told = w.jobs_told;
    }

    -- counts that go on from those of the first part are those of both
    pub works_then : (d : DomainView) (f g h : F) (c x z : CpuView J) (s t : Served) → Works step d f c s g x → WorksFrom step d s g x t h z → Works step d f c t h z
    works_then d f g h c x z s t w v =
        let all = rows_on d v.steps w.ended v.ended w.done v.done f g h c x z (w.steps, w.row) v.row in
        record {
          steps = all.0;
          ended = w.ended + v.ended;
          done = w.done ++ v.done;
          row = all.1;
          periods_told = v.periods_told w.ended w.periods_told;
          jobs_told = subst (λ (k : ℕ). IsCount t.jobs k) (sym (length-append w.done v.done)) (v.jobs_told (length w.done) w.jobs_told);
        }

    -- A last round in vain

    still_counted : (told a m : ℕ) → m ≡ 0 → IsCount told (a + m) → IsCount told a
    still_counted told a m none count = λ lt. let is = count (omega (arith, lt, none)) in omega (arith, is, none)

    vain : (d : DomainView) (g h : F) (x y : CpuView J) (answer : Result Progress AdvanceRefusal) (n : ℕ) → Rounded d g x answer n h y → n ≡ 0 → answer ≡ Err advance.Exhausted → Round step d g x (Err advance.Exhausted) [] h y
    vain d g h x y answer n r none is = subst (λ (js : List J). Round step d g x (Err advance.Exhausted) js h y) (nil_from_length r.0 (r.1 ∙ none)) (subst (λ (a : Result Progress AdvanceRefusal). Round step d g x a r.0 h y) is r.2)

    pub vain_on : (d : DomainView) (f g h : F) (c x y : CpuView J) (s t : Served) (answer : Result Progress AdvanceRefusal) (n : ℕ) → Works step d f c s g x → Rounded d g x answer n h y
        → ((k : ℕ) → IsCount s.periods k → IsCount t.periods (k + periods_in answer)) → ((k : ℕ) → IsCount s.jobs k → IsCount t.jobs (k + n)) → n ≡ 0 → answer ≡ Err advance.Exhausted → EndsInVain step d f c t h y
    vain_on d f g h c x y s t answer n w r p j none is = record {
      work = g;
      between = x;
      before = record {
        steps = w.steps;
        ended = w.ended;
        done = w.done;
        row = w.row;
        periods_told = still_counted t.periods w.ended (periods_in answer) (ap periods_in is) (p w.ended w.periods_told);
        jobs_told = still_counted t.jobs (length w.done) n none (j (length w.done) w.jobs_told);
      };
      round = vain d g h x y answer n r none is;
    }

    pub vain_from_on : (d : DomainView) (before : Served) (f g h : F) (c x y : CpuView J) (s t : Served) (answer : Result Progress AdvanceRefusal) (n : ℕ) → WorksFrom step d before f c s g x
        → Rounded d g x answer n h y → ((k : ℕ) → IsCount s.periods k → IsCount t.periods (k + periods_in answer)) → ((k : ℕ) → IsCount s.jobs k → IsCount t.jobs (k + n)) → n ≡ 0 → answer ≡ Err advance.Exhausted → EndsInVainFrom step d before f c t h y
    vain_from_on d before f g h c x y s t answer n w r p j none is = record {
      work = g;
      between = x;
      before = record {
        steps = w.steps;
        ended = w.ended;
        done = w.done;
        row = w.row;
        periods_told = λ k count. still_counted t.periods (k + w.ended) (periods_in answer) (ap periods_in is) (p (k + w.ended) (w.periods_told k count));
        jobs_told = λ k count. still_counted t.jobs (k + length w.done) n none (j (k + length w.done) (w.jobs_told k count));
      };
      round = vain d g h x y answer n r none is;
    }

    pub vain_of_all : (d : DomainView) (before : Served) (f g : F) (c x : CpuView J) (s : Served) → before.periods ≡ 0 → before.jobs ≡ 0 → EndsInVainFrom step d before f c s g x → EndsInVain step d f c s g x
    vain_of_all d before f g c x s p j v = record { work = v.work; between = v.between; before = works_of_all d before f v.work c v.between s p j v.before; round = v.round }

    pub vain_then : (d : DomainView) (f g h : F) (c x z : CpuView J) (s t : Served) → Works step d f c s g x → EndsInVainFrom step d s g x t h z → EndsInVain step d f c t h z
    vain_then d f g h c x z s t w v = record { work = v.work; between = v.between; before = works_then d f g v.work c x v.between s t w v.before; round = v.round }
