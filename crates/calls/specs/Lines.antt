-- What a processor's list is, by what was done on the tally words: how many are out, the calls that wait there, in order, with their marks, and those that came in behind them.
use Rattle.std.specs.Prelude.{ℕ, zero, suc, ◌==◌, min, List, [], ◌∷◌, ◌++◌, Option, Some, None, take, drop, if◌then◌else◌}
use Rattle.segs.specs.MarkedList.{Mark, Next, assigned, advanced, count_done}
use Rattle.calls.specs.declared.entry.Entry.{Entry}
use Rattle.calls.specs.declared.view.Act.{Act}
use Rattle.calls.specs.declared.view.Act.TheVariants.{Queue, Take, Finish, LackRoom, LoadQueued, LoadFinished}
use Rattle.calls.specs.declared.view.Deed.{Deed}

-- how many are out
abbrev pub count_out : Option ℕ → ℕ
count_out None = 0
count_out (Some n) = n

-- a batch of so many is out, where there are any
abbrev pub some_out : ℕ → Option ℕ
some_out zero = None
some_out (suc n) = Some (suc n)

-- calls with their marks
abbrev pub Marked : Type 0 → Type 0
Marked J = List (Entry J × Mark)

-- a processor's list: how many are in the batch that is out, the calls that wait, in order, and those behind them that had not been moved when something was last taken out
pub record Line (J : Type 0) : Type 0 where
  pub out : Option ℕ
  pub waiting : List (Entry J × Mark)
  pub coming : List (Entry J)

module _ {J : Type 0} where
  abbrev pub no_calls : Line J
  no_calls = record { out = None; waiting = []; coming = [] }

  -- a call comes in last
  abbrev pub with_call : Entry J → Line J → Line J
  with_call e l = record l { coming = l.coming ++ e ∷ [] }

  -- it is moved behind those that wait, and what has no number gets that of its cookie
  abbrev pub with_moved : Entry J → List (Entry J × Mark) → List (Entry J × Mark)
  with_moved e waiting = assigned e.cookie.number (waiting ++ (e, Next) ∷ [])

  abbrev pub all_moved : List (Entry J) → List (Entry J × Mark) → List (Entry J × Mark)
  all_moved [] waiting = waiting
  all_moved (e ∷ es) waiting = all_moved es (with_moved e waiting)

  -- the first ones that came in are moved, so many
  abbrev pub gathered : ℕ → Line J → Line J
  gathered many l = record { out = l.out; waiting = all_moved (take many l.coming) l.waiting; coming = drop many l.coming }

  -- the number of the last one's cookie
  abbrev pub last_number : List (Entry J × Mark) → ℕ
  last_number [] = 0
  last_number (e ∷ []) = e.0.cookie.number
  last_number (e ∷ f ∷ es) = last_number (f ∷ es)

  -- what waited for this number is done, and then what has none gets that of the last one's cookie
  abbrev pub readied : ℕ → List (Entry J × Mark) → List (Entry J × Mark)
  readied number waiting = assigned (last_number waiting) (advanced number waiting)

  -- how many go out: those that are done, but at most `max`, and at most eight
  abbrev pub many_ready : ℕ → List (Entry J × Mark) → ℕ
  many_ready max waiting = min (min max 8) (count_done waiting)

  -- the first ones that are ready go out
  abbrev pub with_taken : ℕ → ℕ → Line J → Line J
  with_taken number max l = let ready = readied number l.waiting in record { out = some_out (many_ready max ready); waiting = drop (many_ready max ready) ready; coming = l.coming }

  abbrev pub with_none_out : Line J → Line J
  with_none_out l = record l { out = None }

  -- what an act makes of the list of processor p
  abbrev pub next_line : ℕ → ℕ → Act J → Line J → Line J
  next_line p by (Queue e) l = if by == p then with_call e l else l
  next_line p by (Take q number max moved) l = if q == p then with_taken number max (gathered moved l) else l
  next_line p by (Finish q n) l = if q == p then with_none_out l else l
  next_line p by (LackRoom q moved) l = l
  next_line p by (LoadQueued q n) l = l
  next_line p by (LoadFinished q n) l = l

  abbrev pub line_from : ℕ → Line J → List (Deed J) → Line J
  line_from p l [] = l
  line_from p l (d ∷ ds) = line_from p (next_line p d.by d.act l) ds

  -- the list of processor p, where this was done
  abbrev pub line_in : ℕ → List (Deed J) → Line J
  line_in p deeds = line_from p no_calls deeds

  -- All calls

  abbrev pub call_of : Act J → List (Entry J)
  call_of (Queue e) = e ∷ []
  call_of (Take p number max moved) = []
  call_of (Finish p n) = []
  call_of (LackRoom p moved) = []
  call_of (LoadQueued p n) = []
  call_of (LoadFinished p n) = []

  -- all that were ever queued on processor p, in order
  abbrev pub calls_in : ℕ → List (Deed J) → List (Entry J)
  calls_in p [] = []
  calls_in p (d ∷ ds) = (if d.by == p then call_of d.act else []) ++ calls_in p ds
