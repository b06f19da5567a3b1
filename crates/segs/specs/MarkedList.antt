-- Marked lists: entries in the order in which they came, each with a mark that says what it waits for.
use Rattle.std.specs.Prelude.{◌≡◌, ℕ, ◌≤◌, ◌==◌, nat_le, Bool, true, false, List, [], ◌∷◌, ◌++◌, Option, Some, None, length, map, count_by, slice_index, AllPairs, if◌then◌else◌}
use Rattle.std.specs.List.{filter_map, dedup}

-- An entry is done, or it waits for a number, or it has no number yet.
pub data Mark : Type 0 where
  Done : Mark
  At : ℕ → Mark
  Next : Mark

abbrev pub is_done : Mark → Bool
is_done Done = true
is_done (At n) = false
is_done Next = false

abbrev pub is_at : ℕ → Mark → Bool
is_at n Done = false
is_at n (At m) = m == n
is_at n Next = false

abbrev pub is_next : Mark → Bool
is_next Done = false
is_next (At n) = false
is_next Next = true

abbrev pub number_of : Mark → Option ℕ
number_of Done = None
number_of (At n) = Some n
number_of Next = None

-- the order of marks: done first, then at a number, by rising numbers, then next
abbrev pub IsNotAfter : Mark → Mark → Type 0
IsNotAfter Done b = Unit {0}
IsNotAfter (At n) Done = ⊥
IsNotAfter (At n) (At m) = n ≤ m
IsNotAfter (At n) Next = Unit {0}
IsNotAfter Next Done = ⊥
IsNotAfter Next (At n) = ⊥
IsNotAfter Next Next = Unit {0}

-- what contracts see of a `SegList`: its marked list, and how many pushes have their memory already
pub record MarkedList (T : Type 0) : Type 0 where
  pub entries : List (T × Mark)
  pub room : ℕ

module _ {T : Type 0} where
  -- the entries, each with the mark
  abbrev pub marked : Mark → List T → List (T × Mark)
  marked mark entries = map (λ entry. (entry, mark)) entries

  -- the list with other marks
  abbrev pub remarked : (Mark → Mark) → List (T × Mark) → List (T × Mark)
  remarked change list = map (λ e. (e.0, change e.1)) list

  -- the numbers for which entries wait, each once
  abbrev pub awaited : List (T × Mark) → List ℕ
  awaited list = dedup (λ n m. n == m) (filter_map (λ e. number_of e.1) list)

  -- the marks are in order, with at most two numbers
  pub record IsInOrder (list : List (T × Mark)) : Type 0 where
    pub rising : AllPairs (λ a b. IsNotAfter a.1 b.1) list
    pub two : length (awaited list) ≤ 2

  abbrev pub count_done : List (T × Mark) → ℕ
  count_done list = count_by (λ e. is_done e.1) list

  abbrev pub count_at : List (T × Mark) → ℕ → ℕ
  count_at list n = count_by (λ e. is_at n e.1) list

  abbrev pub count_next : List (T × Mark) → ℕ
  count_next list = count_by (λ e. is_next e.1) list

-- Assigning a number

-- what Next becomes by `assign s`, by the numbers that are awaited: the greatest of them where it is at least s, and
-- else s where there are fewer than two
abbrev pub number_given : ℕ → List ℕ → Mark
number_given s [] = At s
number_given s (n ∷ []) = if nat_le s n then At n else At s
number_given s (n ∷ m ∷ more) = if nat_le s m then At m else Next

-- only what is next gets the mark
abbrev pub next_becomes : Mark → Mark → Mark
next_becomes given Done = Done
next_becomes given (At n) = At n
next_becomes given Next = given

-- Advancing to a number

-- what waits at n or a smaller number is done
abbrev pub reached : ℕ → Mark → Mark
reached n Done = Done
reached n (At m) = if nat_le m n then Done else At m
reached n Next = Next

module _ {T : Type 0} where
  -- the list after `assign s`
  abbrev pub assigned : ℕ → List (T × Mark) → List (T × Mark)
  assigned s list = remarked (next_becomes (number_given s (awaited list))) list

  -- the list after `advance n`
  abbrev pub advanced : ℕ → List (T × Mark) → List (T × Mark)
  advanced n list = remarked (reached n) list

  -- the list ends with the entry, which is next
  abbrev pub EndsInNext : List (T × Mark) → T → Type 0
  EndsInNext list entry = (front : List (T × Mark)) × (list ≡ front ++ (entry, Next) ∷ [])

  -- what `lens` answers: how many entries are done, wait for the first and the second number, and have none
  abbrev pub lens : List (T × Mark) → List ℕ
  lens list = let waiting = map (count_at list) (awaited list) in count_done list ∷ slice_index waiting 0 ∷ slice_index waiting 1 ∷ count_next list ∷ []

  -- what `numbers` answers: the two numbers, 0 where there is none
  abbrev pub numbers : List (T × Mark) → List ℕ
  numbers list = slice_index (awaited list) 0 ∷ slice_index (awaited list) 1 ∷ []
