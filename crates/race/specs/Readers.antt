-- What a reader has, and what it tells of itself.
use Rattle.std.specs.Prelude.{◌≡◌, ℕ, zero, suc, ◌+◌, ◌%◌, ◌≤◌, List, [], Option, Some, None, count_by, is_some}
use Rattle.sections.specs.Limits.{most_sections}
use Rattle.sections.specs.Words.{opened_in, closed_in}
use Rattle.desk.specs.Swaps.{Swap, swaps_of, lies_behind}
use Rattle.desk.specs.Views.{SeatView}
use Rattle.desk.specs.Calls.{Swaps}
use Rattle.domain.specs.Views.{IsOf}
use Rattle.plugs.specs.Views.{LeaseView}
use Rattle.plugs.specs.Reading.{Leases, Gets}
use Rattle.race.specs.declared.course.Course.{Course}
use Rattle.race.specs.declared.reader.Reader.{Reader}

-- how many of these swaps laid a lease down, and how many found one
abbrev pub laid_in : List (Swap LeaseView) → ℕ
laid_in swaps = count_by (λ s. is_some s.left) swaps

abbrev pub found_in : List (Swap LeaseView) → ℕ
found_in swaps = count_by (λ s. is_some s.found) swaps

-- the swaps that the seat made
abbrev pub own_swaps : SeatView LeaseView → List (Swap LeaseView)
own_swaps v = swaps_of v.number v.seen

-- 1 where there is a lease
abbrev pub one_if : Option LeaseView → ℕ
one_if (Some lease) = 1
one_if None = 0

-- a processor of the domain, whose limit of sections is the most that there may be, and a seat of the same number at the desk, for leases of the domain
pub record IsReaderOf (g : Course) (r : Reader) : Type 0 where
  pub here : IsOf g.domain r.cpu
  pub limit : r.cpu.cpu.sections ≡ most_sections
  pub desk : r.seat.desk ≡ g.desk.desk
  pub home : r.seat.domain ≡ g.domain.domain
  pub number : r.seat.number ≡ r.cpu.cpu.processor

-- What a reader counts is what was done: the sections that its processor began and ended. It laid each of its leases down but for so many, which it still has, and released each that it found but for so many. It queued no callback and finished none
pub record Tells (lent held : ℕ) (r : Reader) : Type 0 where
  pub opened : opened_in r.cpu.cpu.mine ≡ r.opened
  pub closed : closed_in r.cpu.cpu.mine ≡ r.closed
  pub laid : laid_in (own_swaps r.seat) + lent ≡ r.opened
  pub found : found_in (own_swaps r.seat) ≡ r.closed + held
  pub idle : r.cpu.calls.seen ≡ []

-- the same processor and seat, with what is told then
pub record GoesOn (g : Course) (lent held : ℕ) (r r' : Reader) : Type 0 where
  pub is : IsReaderOf g r'
  pub processor : r'.cpu.cpu.processor ≡ r.cpu.cpu.processor
  pub tells : Tells lent held r'

-- one lease more was made
pub record Opens (g : Course) (r r' : Reader) : Type 0 where
  pub goes_on : GoesOn g 1 0 r r'
  pub opened : r'.opened ≡ r.opened + 1
  pub closed : r'.closed ≡ r.closed

-- it counts the same as before
pub record Counts (g : Course) (lent held : ℕ) (r r' : Reader) : Type 0 where
  pub goes_on : GoesOn g lent held r r'
  pub opened : r'.opened ≡ r.opened
  pub closed : r'.closed ≡ r.closed

-- what was found was released, if there was a lease
pub record Releases (g : Course) (found : Option LeaseView) (r r' : Reader) : Type 0 where
  pub goes_on : GoesOn g 0 0 r r'
  pub opened : r'.opened ≡ r.opened
  pub closed : r'.closed ≡ r.closed + one_if found
  pub seat : r'.seat ≡ r.seat

-- it has made so many rounds, one lease in each
pub record HasMade (g : Course) (rounds : ℕ) (r : Reader) : Type 0 where
  pub is : IsReaderOf g r
  pub tells : Tells 0 0 r
  pub opened : r.opened ≡ rounds
  pub few : r.closed ≤ rounds

-- the lease was asked for the key, and answered
pub record AsksLease (lease : LeaseView) (key : ℕ) (r r' : Reader) : Type 0 where
  pub plug : Option ℕ
  pub gets : Gets lease key plug r.cpu r'.cpu

-- one round: the version that was there was leased, the lease was asked for the round's key, it was laid on the desk, and what lay there was released
pub record MakesRound (g : Course) (round : ℕ) (r r' : Reader) : Type 0 where
  pub lease : LeaseView
  pub leased : Reader
  pub leases : Leases g.view.cell lease r.cpu leased.cpu
  pub asked : Reader
  pub asks : AsksLease lease (round % 15) leased asked
  pub found : Option LeaseView
  pub handed : Reader
  pub lays : Swaps asked.seat (Some lease) found handed.seat
  pub releases : Releases g found handed r'

-- so many rounds, from round 0 on
abbrev pub MakesRounds : Course → ℕ → Reader → Reader → Type 0
MakesRounds g zero r r' = r' ≡ r
MakesRounds g (suc n) r r' = (before : Reader) × MakesRounds g n r before × MakesRound g n before r'

-- all rounds were made, one after the other, and then what lay on the desk was taken and released
pub record ReadsAll (g : Course) (r r' : Reader) : Type 0 where
  pub last : Reader
  pub rounds : MakesRounds g g.rounds r last
  pub found : Option LeaseView
  pub looked : Reader
  pub looks : Swaps last.seat None found looked.seat
  pub releases : Releases g found looked r'

-- the reader of this number has made all rounds, and then left nothing on the desk
pub record HasRead (g : Course) (number : ℕ) (r : Reader) : Type 0 where
  pub is : IsReaderOf g r
  pub tells : Tells 0 0 r
  pub number_is : r.cpu.cpu.processor ≡ number
  pub opened : r.opened ≡ g.rounds
  pub few : r.closed ≤ g.rounds + 1
  pub looked : lies_behind r.seat.seen ≡ None
