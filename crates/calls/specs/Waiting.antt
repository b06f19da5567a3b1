-- The callbacks of a processor that wait: what is always true of them.
use Rattle.std.specs.Prelude.{◌≡◌, ℕ, ◌*◌, ◌%◌, ◌≤◌, List, [], ◌∷◌, All, ◌++◌, Option, Some, None, length, map}
use Rattle.sseq.specs.Numbers.{cookie_at}
use Rattle.onedom.specs.declared.event.Event.{Event}
use Rattle.onedom.specs.Histories.{ended_in, IsBeginning}
use Rattle.sections.specs.Words.{number_word}
use Rattle.sections.specs.Calls.{EndsWithNote}
use Rattle.sections.specs.Sights.{SightView}
use Rattle.segs.specs.MarkedList.{Mark, Done, At, Next, marked}
use Rattle.calls.specs.declared.entry.Entry.{Entry}
use Rattle.calls.specs.Lines.{readied, many_ready}

-- the cookie is done, for one who has seen this
abbrev pub IsReached : ℕ → List Event → Type 0
IsReached cookie seen = cookie ≤ 4 * ended_in seen

-- what is done has its cookie reached, and what waits for a number waits for no smaller one than its cookie
abbrev pub IsDue : List Event → ℕ → Mark → Type 0
IsDue seen cookie Done = IsReached cookie seen
IsDue seen cookie (At n) = (cookie ≤ n) × (n % 4 ≡ 0)
IsDue seen cookie Next = Unit {0}

module _ {J : Type 0} where
  -- an entry of a list with these sights: its cookie was given in that domain, no later than the first one goes, and it is marked as it may be, by the second one
  pub record IsWaiting (g s : SightView) (e : Entry J × Mark) : Type 0 where
    pub domain : e.0.cookie.domain ≡ g.domain
    pub given : EndsWithNote e.0.cookie.number e.0.cookie.seen
    pub since : IsBeginning e.0.cookie.seen g.seen
    pub whole : e.0.cookie.number % 4 ≡ 0
    pub not_after : e.0.cookie.number ≤ cookie_at (number_word g.changes)
    pub due : IsDue s.seen e.0.cookie.number e.1

  -- no cookie is smaller than one before it
  abbrev pub AreRising : List (Entry J × Mark) → Type 0
  AreRising [] = Unit {0}
  AreRising (e ∷ es) = All (λ (f : Entry J × Mark). e.0.cookie.number ≤ f.0.cookie.number) es × AreRising es

  -- all entries are so
  pub record AreWaiting (g s : SightView) (entries : List (Entry J × Mark)) : Type 0 where
    pub each : All (IsWaiting g s) entries
    pub rising : AreRising entries

  -- How a list keeps its entries: each in an option, which is never empty

  abbrev pub wrapped : List (Entry J × Mark) → List (Option (Entry J) × Mark)
  wrapped entries = map (λ e. (Some e.0, e.1)) entries

  -- the same without marks
  abbrev pub with_entry : Option (Entry J) → List (Entry J) → List (Entry J)
  with_entry None entries = entries
  with_entry (Some e) entries = e ∷ entries

  abbrev pub entries_of : List (Option (Entry J)) → List (Entry J)
  entries_of [] = []
  entries_of (e ∷ es) = with_entry e (entries_of es)

  -- of these, what is ready went out, and so much is left
  pub record GoesOut (number max : ℕ) (waiting : List (Entry J × Mark)) (items : List (Option (Entry J))) (left : List (Option (Entry J) × Mark)) : Type 0 where
    pub gone : List (Entry J)
    pub items_are : items ≡ map Some gone
    pub rest : List (Entry J × Mark)
    pub left_is : left ≡ wrapped rest
    pub in_order : readied number waiting ≡ marked Done gone ++ rest
    pub many : length gone ≡ many_ready max (readied number waiting)
