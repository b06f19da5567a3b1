-- What `assign`, `advance` and `take_done` make of a list.
use Rattle.std.proofs.Common.{◌≡◌, ℕ, ◌+◌, ◌-◌, ◌<◌, ◌≤◌, List, [], ◌∷◌, ◌++◌, length, take, drop, refl, sym, ap, ◌∙◌, arith, append-nil, append_assoc, length-append}
use Rattle.std.proofs.Math.Seq.{take-append-add, drop-append-add}
use Rattle.std.proofs.lemmas.Bool.{le-leb, lt-leb}
use Rattle.segs.specs.declared.segment.Segment.{Segment}
use Rattle.segs.specs.MarkedList.{Mark, Done, At, Next, marked, awaited, count_done, count_next, number_given, next_becomes, reached, assigned, advanced}
use Rattle.segs.specs.Segments.{segmented, AreSegments}
use Rattle.segs.proofs.Lists.{in_segments, remarked-in_segments, marked-append, awaited_none, awaited_one, awaited_two, count_done_is, count_next_is}
use Rattle.segs.proofs.Cuts.{Stands, IsCut, segmented_cut, cut_of, done_of, wait_of, next_ready_of, next_of, seen_cut}

is_due : (k n : ℕ) → n ≤ k → reached k (At n) ≡ Done
is_due k n l = let due = le-leb n k l in rw due refl

is_not_due : (k n : ℕ) → k < n → reached k (At n) ≡ At n
is_not_due k n l = let later = lt-leb n k l in rw later refl

module _ {T : Type 0} where
  -- What `assign` makes

  given_marks : (s : ℕ) (given : Mark) (d : List T) (n : ℕ) (w : List T) (m : ℕ) (r x : List T) (ns : List ℕ) → awaited (in_segments d n w m r x) ≡ ns → number_given s ns ≡ given → assigned s (in_segments d n w m r x) ≡ marked Done d ++ (marked (At n) w ++ (marked (At m) r ++ marked given x))
  given_marks s given d n w m r x ns e f =
      rw (e, f) (remarked-in_segments (next_becomes given) d n w m r x)

  nothing_next : (s : ℕ) (d : List T) (n : ℕ) (w : List T) (m : ℕ) (r : List T) → assigned s (in_segments d n w m r []) ≡ in_segments d n w m r []
  nothing_next s d n w m r = remarked-in_segments (next_becomes (number_given s (awaited (in_segments d n w m r [])))) d n w m r []

  first_number : (s : ℕ) (d : List T) (n m k : ℕ) (x : List T) → assigned s (in_segments d n [] m [] x) ≡ in_segments d s x k [] []
  first_number s d n m k x = given_marks s (At s) d n [] m [] x [] (awaited_none d x n m) refl ∙ ap (λ l. marked Done d ++ l) (sym (append-nil (marked (At s) x)))

  joined_wait : (s : ℕ) (d : List T) (n : ℕ) (y : T) (w : List T) (m : ℕ) (x : List T) → s ≤ n → assigned s (in_segments d n (y ∷ w) m [] x) ≡ in_segments d n ((y ∷ w) ++ x) m [] []
  joined_wait s d n y w m x l =
      let due = le-leb s n l in
      given_marks s (At n) d n (y ∷ w) m [] x (n ∷ []) (awaited_one d n y w m x) (rw due refl) ∙ ap (λ l. marked Done d ++ l) (sym (append-nil (marked (At n) ((y ∷ w) ++ x)) ∙ marked-append (At n) (y ∷ w) x))

  second_number : (s : ℕ) (d : List T) (n : ℕ) (y : T) (w : List T) (m : ℕ) (x : List T) → n < s → assigned s (in_segments d n (y ∷ w) m [] x) ≡ in_segments d n (y ∷ w) s x []
  second_number s d n y w m x l =
      let later = lt-leb s n l in
      given_marks s (At s) d n (y ∷ w) m [] x (n ∷ []) (awaited_one d n y w m x) (rw later refl) ∙ ap (λ l. marked Done d ++ (marked (At n) (y ∷ w) ++ l)) (sym (append-nil (marked (At s) x)))

  joined_next_ready : (s : ℕ) (d : List T) (n : ℕ) (y : T) (w : List T) (m : ℕ) (z : T) (r x : List T) → n < m → s ≤ m → assigned s (in_segments d n (y ∷ w) m (z ∷ r) x) ≡ in_segments d n (y ∷ w) m ((z ∷ r) ++ x) []
  joined_next_ready s d n y w m z r x rising l =
      let due = le-leb s m l in
      given_marks s (At m) d n (y ∷ w) m (z ∷ r) x (n ∷ m ∷ []) (awaited_two d n y w m z r x rising) (rw due refl) ∙ ap (λ l. marked Done d ++ (marked (At n) (y ∷ w) ++ l)) (sym (append-nil (marked (At m) ((z ∷ r) ++ x)) ∙ marked-append (At m) (z ∷ r) x))

  no_number_left : (s : ℕ) (d : List T) (n : ℕ) (y : T) (w : List T) (m : ℕ) (z : T) (r x : List T) → n < m → m < s → assigned s (in_segments d n (y ∷ w) m (z ∷ r) x) ≡ in_segments d n (y ∷ w) m (z ∷ r) x
  no_number_left s d n y w m z r x rising l =
      let later = lt-leb s m l in
      given_marks s Next d n (y ∷ w) m (z ∷ r) x (n ∷ m ∷ []) (awaited_two d n y w m z r x rising) (rw later refl)

  -- What `advance` makes

  due_marks : (k : ℕ) (d : List T) (n : ℕ) (w : List T) (m : ℕ) (r x : List T) (a b : Mark) → reached k (At n) ≡ a → reached k (At m) ≡ b → advanced k (in_segments d n w m r x) ≡ marked Done d ++ (marked a w ++ (marked b r ++ marked Next x))
  due_marks k d n w m r x a b e f = remarked-in_segments (reached k) d n w m r x ∙ rw (e, f) refl

  -- The same of a queue in segments

  next_long : {xs : List T} {len done : ℕ} {wait next_ready : Segment} {entries : List (T × Mark)} → Stands xs len done wait next_ready entries → count_next entries ≡ length (next_of xs done wait next_ready)
  next_long {xs} {len} {done} {wait} {next_ready} s = ap count_next (seen_cut s) ∙ count_next_is (done_of xs done) wait.number (wait_of xs done wait) next_ready.number (next_ready_of xs done wait next_ready) (next_of xs done wait next_ready)

  -- with nothing in next, nothing changes
  nothing_cut : {xs : List T} {done : ℕ} {wait next_ready : Segment} → (s : ℕ) (d w r x : List T) → IsCut xs done wait next_ready d w r x → length x ≡ 0 → in_segments d wait.number w next_ready.number r x ≡ assigned s (in_segments d wait.number w next_ready.number r x)
  nothing_cut {xs} {done} {wait} {next_ready} s d w r [] c e = sym (nothing_next s d wait.number w next_ready.number r)
  nothing_cut {xs} {done} {wait} {next_ready} s d w r (y ∷ x) c e = absurd (omega arith)

  pub nothing_assigned : {xs : List T} {len done : ℕ} {wait next_ready : Segment} {entries : List (T × Mark)} → Stands xs len done wait next_ready entries → (s : ℕ) → count_next entries ≡ 0 → entries ≡ assigned s entries
  nothing_assigned {xs} {len} {done} {wait} {next_ready} st s e =
      let long = next_long st in
      rw (seen_cut st) (nothing_cut s _ _ _ _ (cut_of st) (sym long ∙ e))

  -- with both numbered segments empty, next gets the number
  first_cut : {xs : List T} {len done : ℕ} {wait next_ready : Segment} → (s next : ℕ) (d w r x : List T) → IsCut xs done wait next_ready d w r x → AreSegments len done wait next_ready
      → next ≡ length x → wait.len ≡ 0 → segmented xs done (record { len = next; number = s }) next_ready ≡ assigned s (in_segments d wait.number w next_ready.number r x)
  first_cut {xs} {len} {done} {wait} {next_ready} s next d [] [] x c a e z =
      segmented_cut {d = d} {w = x} {r = []} {x = []} (record { whole = c.whole ∙ ap (λ l. d ++ l) (sym (append-nil x)); done_len = c.done_len; wait_len = sym e; next_ready_len = c.next_ready_len }) ∙ sym (first_number s d wait.number next_ready.number next_ready.number x)
  first_cut {xs} {len} {done} {wait} {next_ready} s next d [] (y ∷ r) x c a e z = absurd (let empty = a.wait_first z in let some = c.next_ready_len in omega arith)
  first_cut {xs} {len} {done} {wait} {next_ready} s next d (y ∷ w) r x c a e z = absurd (let some = c.wait_len in omega arith)

  pub first_assigned : {xs : List T} {len done : ℕ} {wait next_ready : Segment} {entries : List (T × Mark)} → Stands xs len done wait next_ready entries → (s next : ℕ) → next ≡ count_next entries → wait.len ≡ 0 → segmented xs done (record { len = next; number = s }) next_ready ≡ assigned s entries
  first_assigned st s next e z =
      let long = e ∙ next_long st in
      rw (seen_cut st) (first_cut s next _ _ _ _ (cut_of st) st.sound long z)

  -- next joins wait
  wait_cut : {xs : List T} {done : ℕ} {wait next_ready : Segment} → (s next : ℕ) (d w r x : List T) → IsCut xs done wait next_ready d w r x → next ≡ length x → 0 < wait.len
      → next_ready.len ≡ 0 → s ≤ wait.number → segmented xs done (record { len = wait.len + next; number = wait.number }) next_ready ≡ assigned s (in_segments d wait.number w next_ready.number r x)
  wait_cut {xs} {done} {wait} {next_ready} s next d (y ∷ w) [] x c e p z l =
      segmented_cut {d = d} {w = (y ∷ w) ++ x} {r = []} {x = []} (record {
        whole = c.whole ∙ ap (λ l. d ++ l) (sym (append-nil ((y ∷ w) ++ x)));
        done_len = c.done_len;
        wait_len = (let both = length-append (y ∷ w) x in let first = c.wait_len in omega arith);
        next_ready_len = c.next_ready_len;
      }) ∙ sym (joined_wait s d wait.number y w next_ready.number x l)
  wait_cut {xs} {done} {wait} {next_ready} s next d [] r x c e p z l = absurd (let none = c.wait_len in omega arith)
  wait_cut {xs} {done} {wait} {next_ready} s next d (y ∷ w) (u ∷ r) x c e p z l = absurd (let some = c.next_ready_len in omega arith)

  pub wait_assigned : {xs : List T} {len done : ℕ} {wait next_ready : Segment} {entries : List (T × Mark)} → Stands xs len done wait next_ready entries → (s next : ℕ)
      → next ≡ count_next entries → 0 < wait.len → next_ready.len ≡ 0 → s ≤ wait.number → segmented xs done (record { len = wait.len + next; number = wait.number }) next_ready ≡ assigned s entries
  wait_assigned st s next e p z l =
      let long = e ∙ next_long st in
      rw (seen_cut st) (wait_cut s next _ _ _ _ (cut_of st) long p z l)

  -- next becomes next-ready
  second_cut : {xs : List T} {done : ℕ} {wait next_ready : Segment} → (s next : ℕ) (d w r x : List T) → IsCut xs done wait next_ready d w r x → next ≡ length x → 0 < wait.len
      → next_ready.len ≡ 0 → wait.number < s → segmented xs done wait (record { len = next; number = s }) ≡ assigned s (in_segments d wait.number w next_ready.number r x)
  second_cut {xs} {done} {wait} {next_ready} s next d (y ∷ w) [] x c e p z l =
      segmented_cut {d = d} {w = y ∷ w} {r = x} {x = []} (record { whole = c.whole ∙ ap (λ l. d ++ ((y ∷ w) ++ l)) (sym (append-nil x)); done_len = c.done_len; wait_len = c.wait_len; next_ready_len = sym e }) ∙ sym (second_number s d wait.number y w next_ready.number x l)
  second_cut {xs} {done} {wait} {next_ready} s next d [] r x c e p z l = absurd (let none = c.wait_len in omega arith)
  second_cut {xs} {done} {wait} {next_ready} s next d (y ∷ w) (u ∷ r) x c e p z l = absurd (let some = c.next_ready_len in omega arith)

  pub second_assigned : {xs : List T} {len done : ℕ} {wait next_ready : Segment} {entries : List (T × Mark)} → Stands xs len done wait next_ready entries → (s next : ℕ)
      → next ≡ count_next entries → 0 < wait.len → next_ready.len ≡ 0 → wait.number < s → segmented xs done wait (record { len = next; number = s }) ≡ assigned s entries
  second_assigned st s next e p z l =
      let long = e ∙ next_long st in
      rw (seen_cut st) (second_cut s next _ _ _ _ (cut_of st) long p z l)

  -- next joins next-ready
  next_ready_cut : {xs : List T} {len done : ℕ} {wait next_ready : Segment} → (s next : ℕ) (d w r x : List T) → IsCut xs done wait next_ready d w r x → AreSegments len done wait next_ready
      → next ≡ length x → 0 < next_ready.len → s ≤ next_ready.number → segmented xs done wait (record { len = next_ready.len + next; number = next_ready.number }) ≡ assigned s (in_segments d wait.number w next_ready.number r x)
  next_ready_cut {xs} {len} {done} {wait} {next_ready} s next d (y ∷ w) (u ∷ r) x c a e p l =
      segmented_cut {d = d} {w = y ∷ w} {r = (u ∷ r) ++ x} {x = []} (record {
        whole = c.whole ∙ ap (λ l. d ++ ((y ∷ w) ++ l)) (sym (append-nil ((u ∷ r) ++ x)));
        done_len = c.done_len;
        wait_len = c.wait_len;
        next_ready_len = (let both = length-append (u ∷ r) x in let first = c.next_ready_len in omega arith);
      }) ∙ sym (joined_next_ready s d wait.number y w next_ready.number u r x (a.rising p) l)
  next_ready_cut {xs} {len} {done} {wait} {next_ready} s next d [] r x c a e p l = absurd (let empty = a.wait_first (sym c.wait_len) in omega arith)
  next_ready_cut {xs} {len} {done} {wait} {next_ready} s next d (y ∷ w) [] x c a e p l = absurd (let none = c.next_ready_len in omega arith)

  pub next_ready_assigned : {xs : List T} {len done : ℕ} {wait next_ready : Segment} {entries : List (T × Mark)} → Stands xs len done wait next_ready entries → (s next : ℕ)
      → next ≡ count_next entries → 0 < next_ready.len → s ≤ next_ready.number → segmented xs done wait (record { len = next_ready.len + next; number = next_ready.number }) ≡ assigned s entries
  next_ready_assigned st s next e p l =
      let long = e ∙ next_long st in
      rw (seen_cut st) (next_ready_cut s next _ _ _ _ (cut_of st) st.sound long p l)

  -- no number is left for next
  stays_cut : {xs : List T} {len done : ℕ} {wait next_ready : Segment} → (s : ℕ) (d w r x : List T) → IsCut xs done wait next_ready d w r x → AreSegments len done wait next_ready
      → 0 < next_ready.len → next_ready.number < s → in_segments d wait.number w next_ready.number r x ≡ assigned s (in_segments d wait.number w next_ready.number r x)
  stays_cut {xs} {len} {done} {wait} {next_ready} s d (y ∷ w) (u ∷ r) x c a p l = sym (no_number_left s d wait.number y w next_ready.number u r x (a.rising p) l)
  stays_cut {xs} {len} {done} {wait} {next_ready} s d [] r x c a p l = absurd (let empty = a.wait_first (sym c.wait_len) in omega arith)
  stays_cut {xs} {len} {done} {wait} {next_ready} s d (y ∷ w) [] x c a p l = absurd (let none = c.next_ready_len in omega arith)

  pub stays_assigned : {xs : List T} {len done : ℕ} {wait next_ready : Segment} {entries : List (T × Mark)} → Stands xs len done wait next_ready entries → (s : ℕ) → 0 < next_ready.len → next_ready.number < s → entries ≡ assigned s entries
  stays_assigned st s p l = rw (seen_cut st) (stays_cut s _ _ _ _ (cut_of st) st.sound p l)

  -- nothing is due
  early_cut : {xs : List T} {len done : ℕ} {wait next_ready : Segment} → (k : ℕ) (d w r x : List T) → IsCut xs done wait next_ready d w r x
      → AreSegments len done wait next_ready → k < wait.number → in_segments d wait.number w next_ready.number r x ≡ advanced k (in_segments d wait.number w next_ready.number r x)
  early_cut {xs} {len} {done} {wait} {next_ready} k d w [] x c a l = sym (due_marks k d wait.number w next_ready.number [] x (At wait.number) (reached k (At next_ready.number)) (is_not_due k wait.number l) refl)
  early_cut {xs} {len} {done} {wait} {next_ready} k d w (u ∷ r) x c a l =
      let rising = a.rising (let some = c.next_ready_len in omega arith) in
      sym (due_marks k d wait.number w next_ready.number (u ∷ r) x (At wait.number) (At next_ready.number) (is_not_due k wait.number l) (is_not_due k next_ready.number (omega arith)))

  pub early_advanced : {xs : List T} {len done : ℕ} {wait next_ready : Segment} {entries : List (T × Mark)} → Stands xs len done wait next_ready entries → (k : ℕ) → k < wait.number → entries ≡ advanced k entries
  early_advanced st k l = rw (seen_cut st) (early_cut k _ _ _ _ (cut_of st) st.sound l)

  -- wait alone is due
  wait_due_cut : {xs : List T} {done : ℕ} {wait next_ready : Segment} → (k : ℕ) (d w r x : List T) → IsCut xs done wait next_ready d w r x → wait.number ≤ k
      → k < next_ready.number → segmented xs (done + wait.len) next_ready (record { len = 0; number = 0 }) ≡ advanced k (in_segments d wait.number w next_ready.number r x)
  wait_due_cut {xs} {done} {wait} {next_ready} k d w r x c l h =
      segmented_cut {wait = next_ready} {next_ready = record { len = 0; number = 0 }} {d = d ++ w} {w = r} {r = []} {x = x}
      (record { whole = c.whole ∙ sym (append_assoc d w (r ++ x)); done_len = (let both = length-append d w in let first = c.done_len in let second = c.wait_len in omega arith); wait_len = c.next_ready_len; next_ready_len = refl })
      ∙ rw (marked-append Done d w, append_assoc (marked Done d) (marked Done w) (marked (At next_ready.number) r ++ marked Next x)) (sym (due_marks k d wait.number w next_ready.number r x Done (At next_ready.number) (is_due k wait.number l) (is_not_due k next_ready.number h)))

  pub wait_advanced : {xs : List T} {len done : ℕ} {wait next_ready : Segment} {entries : List (T × Mark)} → Stands xs len done wait next_ready entries
      → (k : ℕ) → wait.number ≤ k → k < next_ready.number → segmented xs (done + wait.len) next_ready (record { len = 0; number = 0 }) ≡ advanced k entries
  wait_advanced st k l h = rw (seen_cut st) (wait_due_cut k _ _ _ _ (cut_of st) l h)

  -- both are due
  both_due_cut : {xs : List T} {done : ℕ} {wait next_ready : Segment} → (k : ℕ) (d w r x : List T) → IsCut xs done wait next_ready d w r x → wait.number ≤ k → next_ready.number ≤ k
      → segmented xs (done + (wait.len + next_ready.len)) (record { len = 0; number = 0 }) (record { len = 0; number = 0 }) ≡ advanced k (in_segments d wait.number w next_ready.number r x)
  both_due_cut {xs} {done} {wait} {next_ready} k d w r x c l h =
      segmented_cut {wait = record { len = 0; number = 0 }} {next_ready = record { len = 0; number = 0 }} {d = d ++ (w ++ r)} {w = []} {r = []} {x = x}
      (record {
        whole = c.whole ∙ ap (λ l. d ++ l) (sym (append_assoc w r x)) ∙ sym (append_assoc d (w ++ r) x);
        done_len = (let all = length-append d (w ++ r) in let both = length-append w r in let first = c.done_len in let second = c.wait_len in let third = c.next_ready_len in omega arith);
        wait_len = refl;
        next_ready_len = refl;
      }) ∙ rw (marked-append Done d (w ++ r), marked-append Done w r, append_assoc (marked Done d) (marked Done w ++ marked Done r) (marked Next x), append_assoc (marked Done w) (marked Done r) (marked Next x))
      (sym (due_marks k d wait.number w next_ready.number r x Done Done (is_due k wait.number l) (is_due k next_ready.number h)))

  pub both_advanced : {xs : List T} {len done : ℕ} {wait next_ready : Segment} {entries : List (T × Mark)} → Stands xs len done wait next_ready entries → (k : ℕ) → wait.number ≤ k
      → next_ready.number ≤ k → segmented xs (done + (wait.len + next_ready.len)) (record { len = 0; number = 0 }) (record { len = 0; number = 0 }) ≡ advanced k entries
  both_advanced st k l h = rw (seen_cut st) (both_due_cut k _ _ _ _ (cut_of st) l h)

  -- What `take_done` leaves

  pub taken_segments : {xs : List T} {len done : ℕ} {wait next_ready : Segment} {entries : List (T × Mark)} → Stands xs len done wait next_ready entries → (taken rest : List T)
      → xs ≡ taken ++ rest → (count : ℕ) → length taken ≡ count → count ≤ done → entries ≡ marked Done taken ++ segmented rest (done - count) wait next_ready
  taken_segments {xs} {len} {done} {wait} {next_ready} st taken rest e count many l =
      let left : done ≡ length taken + (done - count) = omega arith in
      let front : take done xs ≡ taken ++ take (done - count) rest = ap (λ (l : List T). take done l) e ∙ ap (λ k. take k (taken ++ rest)) left ∙ take-append-add taken rest (done - count) in
      let back : drop done xs ≡ drop (done - count) rest = ap (λ (l : List T). drop done l) e ∙ ap (λ k. drop k (taken ++ rest)) left ∙ drop-append-add taken rest (done - count) in
      sym st.seen ∙ rw (front, back, marked-append Done taken (take (done - count) rest), append_assoc (marked Done taken) (marked Done (take (done - count) rest))) refl

  pub done_is : {xs : List T} {len done : ℕ} {wait next_ready : Segment} {entries : List (T × Mark)} → Stands xs len done wait next_ready entries → count_done entries ≡ done
  done_is {xs} {len} {done} {wait} {next_ready} s =
      ap count_done (seen_cut s) ∙ count_done_is (done_of xs done) wait.number (wait_of xs done wait) next_ready.number (next_ready_of xs done wait next_ready) (next_of xs done wait next_ready) ∙ (cut_of s).done_len
