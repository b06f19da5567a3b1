-- What `lens` and `numbers` read.
use Rattle.std.proofs.Common.{◌≡◌, ℕ, ◌<◌, ◌≤◌, List, [], ◌∷◌, length, map, refl, sym, ap, ◌∙◌, arith}
use Rattle.std.specs.Prelude.{◌==◌, AllPairs, slice_index}
use Rattle.std.proofs.lemmas.Bool.{ne_eqb}
use Rattle.segs.specs.declared.segment.Segment.{Segment}
use Rattle.segs.specs.MarkedList.{Mark, awaited, count_at, count_done, count_next, IsNotAfter, numbers, lens, IsInOrder}
use Rattle.segs.specs.Segments.{AreSegments}
use Rattle.segs.proofs.Lists.{in_segments, awaited_none, awaited_one, awaited_two, count_at_first, count_at_second, count_done_is, count_next_is, counted_none, rising-in_segments}
use Rattle.segs.proofs.Cuts.{Stands, IsCut, cut_of, done_of, wait_of, next_ready_of, next_of, seen_cut}

four_same : {a b c e a' b' c' e' : ℕ} → a ≡ a' → b ≡ b' → c ≡ c' → e ≡ e' → a ∷ b ∷ c ∷ e ∷ [] ≡ a' ∷ b' ∷ c' ∷ e' ∷ []
four_same p q r s = rw (p, q, r, s) refl

two_same : {a b a' b' : ℕ} → a ≡ a' → b ≡ b' → a ∷ b ∷ [] ≡ a' ∷ b' ∷ []
two_same p q = rw (p, q) refl

module _ {T : Type 0} where
  -- What is read

  -- what the segments' numbers and lengths say of a list
  pub record IsRead (entries : List (T × Mark)) (done : ℕ) (wait next_ready : Segment) (next : ℕ) : Type 0 where
    pub numbers_are : numbers entries ≡ wait.number ∷ next_ready.number ∷ []
    pub lens_are : lens entries ≡ done ∷ wait.len ∷ next_ready.len ∷ next ∷ []
    pub two : length (awaited entries) ≤ 2

  lens_by : (list : List (T × Mark)) (ns : List ℕ) → awaited list ≡ ns → lens list ≡ count_done list ∷ slice_index (map (count_at list) ns) 0 ∷ slice_index (map (count_at list) ns) 1 ∷ count_next list ∷ []
  lens_by list ns e = rw e refl

  read_cut : {xs : List T} {len done : ℕ} {wait next_ready : Segment} → (d w r x : List T) → IsCut xs done wait next_ready d w r x → AreSegments len done wait next_ready → IsRead (in_segments d wait.number w next_ready.number r x) done wait next_ready (length x)
  read_cut {xs} {len} {done} {wait} {next_ready} d [] [] x c a =
      let n = wait.number in
      let m = next_ready.number in
      let none = awaited_none d x n m in
      record {
        numbers_are = ap (λ (ns : List ℕ). slice_index ns 0 ∷ slice_index ns 1 ∷ []) none ∙ two_same (sym (a.no_wait_number (sym c.wait_len))) (sym (a.no_next_ready_number (sym c.next_ready_len)));
        lens_are = lens_by (in_segments d n [] m [] x) [] none ∙ four_same (count_done_is d n [] m [] x ∙ c.done_len) c.wait_len c.next_ready_len (count_next_is d n [] m [] x);
        two = rw none (omega arith);
      }
  read_cut {xs} {len} {done} {wait} {next_ready} d [] (z ∷ r) x c a = absurd (let empty = a.wait_first (sym c.wait_len) in let some = c.next_ready_len in omega arith)
  read_cut {xs} {len} {done} {wait} {next_ready} d (y ∷ w) [] x c a =
      let n = wait.number in
      let m = next_ready.number in
      let one = awaited_one d n y w m x in
      record {
        numbers_are = ap (λ (ns : List ℕ). slice_index ns 0 ∷ slice_index ns 1 ∷ []) one ∙ two_same refl (sym (a.no_next_ready_number (sym c.next_ready_len)));
        lens_are = lens_by (in_segments d n (y ∷ w) m [] x) (n ∷ []) one ∙ four_same (count_done_is d n (y ∷ w) m [] x ∙ c.done_len) (count_at_first d n (y ∷ w) m [] x (sym (counted_none (m == n))) ∙ c.wait_len) c.next_ready_len (count_next_is d n (y ∷ w) m [] x);
        two = rw one (omega arith);
      }
  read_cut {xs} {len} {done} {wait} {next_ready} d (y ∷ w) (z ∷ r) x c a =
      let n = wait.number in
      let m = next_ready.number in
      let rising : n < m = a.rising (let some = c.next_ready_len in omega arith) in
      let two = awaited_two d n y w m z r x rising in
      let other = ne_eqb m n (λ e. omega arith) in
      record {
        numbers_are = ap (λ (ns : List ℕ). slice_index ns 0 ∷ slice_index ns 1 ∷ []) two;
        lens_are = lens_by (in_segments d n (y ∷ w) m (z ∷ r) x) (n ∷ m ∷ []) two ∙ four_same (count_done_is d n (y ∷ w) m (z ∷ r) x ∙ c.done_len)
            (count_at_first d n (y ∷ w) m (z ∷ r) x (rw other refl) ∙ c.wait_len) (count_at_second d n (y ∷ w) m (z ∷ r) x rising ∙ c.next_ready_len) (count_next_is d n (y ∷ w) m (z ∷ r) x);
        two = rw two (omega arith);
      }

  pub read_of : {xs : List T} {len done : ℕ} {wait next_ready : Segment} {entries : List (T × Mark)} → Stands xs len done wait next_ready entries → IsRead entries done wait next_ready (count_next entries)
  read_of {xs} {len} {done} {wait} {next_ready} {entries} s =
      let counted = count_next_is (done_of xs done) wait.number (wait_of xs done wait) next_ready.number (next_ready_of xs done wait next_ready) (next_of xs done wait next_ready) in
      rw (seen_cut s, counted) (read_cut _ _ _ _ (cut_of s) s.sound)

  order_cut : {xs : List T} {len done : ℕ} {wait next_ready : Segment} → (d w r x : List T) → IsCut xs done wait next_ready d w r x → AreSegments len done wait next_ready → AllPairs (λ a b. IsNotAfter a.1 b.1) (in_segments d wait.number w next_ready.number r x)
  order_cut {xs} {len} {done} {wait} {next_ready} d w [] x c a = rising-in_segments d wait.number w wait.number [] x (omega arith)
  order_cut {xs} {len} {done} {wait} {next_ready} d w (z ∷ r) x c a =
      let rising = a.rising (let some = c.next_ready_len in omega arith) in
      rising-in_segments d wait.number w next_ready.number (z ∷ r) x (omega arith)

  pub order_of : {xs : List T} {len done : ℕ} {wait next_ready : Segment} {entries : List (T × Mark)} → Stands xs len done wait next_ready entries → IsInOrder entries
  order_of s = record { rising = rw (seen_cut s) (order_cut _ _ _ _ (cut_of s) s.sound); two = (read_of s).two }
