-- A queue in four segments, cut into their lists.
use Rattle.std.proofs.Common.{◌≡◌, ℕ, ◌+◌, ◌-◌, ◌≤◌, List, ◌++◌, length, take, drop, refl, sym, ap, ◌∙◌, arith, length-append, length-drop}
use Rattle.std.proofs.lemmas.List.{take_at, drop_at, take-append-drop, length-take-le}
use Rattle.segs.specs.declared.segment.Segment.{Segment}
use Rattle.segs.specs.MarkedList.{Mark, count_next}
use Rattle.segs.specs.Segments.{segmented, AreSegments}
use Rattle.segs.proofs.Lists.{in_segments, count_next_is}

module _ {T : Type 0} where
  -- a queue, its segments, and the marked list that contracts see
  pub record Stands (xs : List T) (len done : ℕ) (wait next_ready : Segment) (entries : List (T × Mark)) : Type 0 where
    pub long : len ≡ length xs
    pub seen : segmented xs done wait next_ready ≡ entries
    pub sound : AreSegments len done wait next_ready

  -- the queue is these four lists, in this order
  pub record IsCut (xs : List T) (done : ℕ) (wait next_ready : Segment) (d w r x : List T) : Type 0 where
    pub whole : xs ≡ d ++ (w ++ (r ++ x))
    pub done_len : length d ≡ done
    pub wait_len : length w ≡ wait.len
    pub next_ready_len : length r ≡ next_ready.len

  pub segmented_cut : {xs : List T} {done : ℕ} {wait next_ready : Segment} {d w r x : List T} → IsCut xs done wait next_ready d w r x → segmented xs done wait next_ready ≡ in_segments d wait.number w next_ready.number r x
  segmented_cut {xs} {done} {wait} {next_ready} {d} {w} {r} {x} c =
      rw (c.whole, take_at d (w ++ (r ++ x)) done c.done_len, drop_at d (w ++ (r ++ x)) done c.done_len, take_at w (r ++ x) wait.len c.wait_len, drop_at w (r ++ x) wait.len c.wait_len, take_at r x next_ready.len c.next_ready_len, drop_at r x next_ready.len c.next_ready_len) refl

  -- the four lists of a queue
  abbrev pub done_of : List T → ℕ → List T
  done_of xs done = take done xs

  abbrev pub wait_of : List T → ℕ → Segment → List T
  wait_of xs done wait = take wait.len (drop done xs)

  abbrev pub next_ready_of : List T → ℕ → Segment → Segment → List T
  next_ready_of xs done wait next_ready = take next_ready.len (drop wait.len (drop done xs))

  abbrev pub next_of : List T → ℕ → Segment → Segment → List T
  next_of xs done wait next_ready = drop next_ready.len (drop wait.len (drop done xs))

  pub cut_of : {xs : List T} {len done : ℕ} {wait next_ready : Segment} {entries : List (T × Mark)} → Stands xs len done wait next_ready entries → IsCut xs done wait next_ready (done_of xs done) (wait_of xs done wait) (next_ready_of xs done wait next_ready) (next_of xs done wait next_ready)
  cut_of {xs} {len} {done} {wait} {next_ready} s =
      let within : done + wait.len + next_ready.len ≤ length xs = omega (arith, s.long, s.sound.within) in
      let after_done : length (drop done xs) ≡ length xs - done = length-drop done xs in
      let after_wait : length (drop wait.len (drop done xs)) ≡ length (drop done xs) - wait.len = length-drop wait.len (drop done xs) in
      record {
        whole = rw (take-append-drop next_ready.len (drop wait.len (drop done xs)), take-append-drop wait.len (drop done xs), take-append-drop done xs) refl;
        done_len = length-take-le done xs (omega arith);
        wait_len = length-take-le wait.len (drop done xs) (omega arith);
        next_ready_len = length-take-le next_ready.len (drop wait.len (drop done xs)) (omega arith);
      }

  pub seen_cut : {xs : List T} {len done : ℕ} {wait next_ready : Segment} {entries : List (T × Mark)} → Stands xs len done wait next_ready entries
      → entries ≡ in_segments (done_of xs done) wait.number (wait_of xs done wait) next_ready.number (next_ready_of xs done wait next_ready) (next_of xs done wait next_ready)
  seen_cut s = sym s.seen ∙ segmented_cut (cut_of s)

  -- the lengths of the four lists are all of the queue's
  pub length_cut : {xs : List T} {done : ℕ} {wait next_ready : Segment} {d w r x : List T} → IsCut xs done wait next_ready d w r x → length xs ≡ done + wait.len + next_ready.len + length x
  length_cut {xs} {done} {wait} {next_ready} {d} {w} {r} {x} c =
      let all : length xs ≡ length (d ++ (w ++ (r ++ x))) = ap length c.whole in
      omega (arith, length-append d (w ++ (r ++ x)), length-append w (r ++ x), length-append r x, c.done_len, c.wait_len, c.next_ready_len)

  pub next_is : {xs : List T} {len done : ℕ} {wait next_ready : Segment} {entries : List (T × Mark)} → Stands xs len done wait next_ready entries → done + wait.len + next_ready.len + count_next entries ≡ len
  next_is {xs} {len} {done} {wait} {next_ready} s =
      let counted = count_next_is (done_of xs done) wait.number (wait_of xs done wait) next_ready.number (next_ready_of xs done wait next_ready) (next_of xs done wait next_ready) in
      let all = length_cut (cut_of s) in
      rw (seen_cut s, counted) (omega (arith, s.long))
