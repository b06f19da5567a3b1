-- How calls come in: what each of them is, behind all that were pushed before it.
use Rattle.std.specs.Prelude.{◌≡◌, ◌≤◌, List, [], ◌∷◌, All, length}
use Rattle.sseq.specs.Numbers.{cookie_at}
use Rattle.onedom.specs.Histories.{IsBeginning}
use Rattle.sections.specs.Words.{number_word}
use Rattle.sections.specs.Calls.{EndsWithNote}
use Rattle.sections.specs.Sights.{SightView}
use Rattle.calls.specs.declared.entry.Entry.{Entry}
use Rattle.calls.specs.declared.entry.Arrival.{Arrival}
use Rattle.calls.specs.Seats.{IsCallPlace}
use Rattle.calls.specs.Views.{ListKey}

-- a sight that goes on from another
pub record GoesOn (s t : SightView) : Type 0 where
  pub domain : t.domain ≡ s.domain
  pub since : IsBeginning s.seen t.seen
  pub later : s.changes ≤ t.changes

module _ {J : Type 0} where
  -- its cookie is of the moment of this sight
  pub record IsGiven (s : SightView) (e : Entry J) : Type 0 where
    pub domain : e.cookie.domain ≡ s.domain
    pub given : EndsWithNote e.cookie.number e.cookie.seen
    pub seen : e.cookie.seen ≡ s.seen
    pub number : e.cookie.number ≡ cookie_at (number_word s.changes)

  -- it has the right of the call whose number says how many came before it, and its queuer had seen what theirs had
  pub record Follows (key : ListKey) (front : List (Arrival J)) (x : Arrival J) : Type 0 where
    pub call : IsCallPlace key.tallies key.processor (length front) x.entry x.call
    pub domain : x.sight.domain ≡ key.domain
    pub given : IsGiven x.sight x.entry
    pub later : All (λ (y : Arrival J). GoesOn y.sight x.sight) front

  -- the calls themselves
  abbrev pub entries_in : List (Arrival J) → List (Entry J)
  entries_in [] = []
  entries_in (x ∷ xs) = x.entry ∷ entries_in xs
