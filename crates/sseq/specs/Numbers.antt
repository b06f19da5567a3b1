-- The number of a domain: four times the count of its ended grace periods, and the state of the running one in the low two bits.
use Rattle.std.specs.Prelude.{◌≡◌, ℕ, ◌+◌, ◌*◌, ◌/◌, ◌%◌, ◌^◌, ◌≤◌, ◌==◌, ◌⊎◌, nat_le, Bool, true, if◌then◌else◌, List, ◌++◌, codes, decimal}
use Rattle.sseq.specs.declared.number.Phase.{Phase}
use Rattle.sseq.specs.declared.number.Phase.TheVariants.{Idle, Scan1, Scan2}

-- the state 3 does not occur, and the number stays far below 2 ^ 64
pub record IsNumber (n : ℕ) : Type 0 where
  pub state_below_3 : n % 4 ≤ 2
  pub small : n ≤ 2 ^ 61

-- the low two bits in a state
abbrev pub state_bits : Phase → ℕ
state_bits Idle = 0
state_bits Scan1 = 1
state_bits Scan2 = 2

-- the number of a domain in which so many periods have ended
abbrev pub number_at : ℕ → Phase → ℕ
number_at ended phase = 4 * ended + state_bits phase

-- how many grace periods have ended, of a domain with this number
abbrev pub periods_ended : ℕ → ℕ
periods_ended n = n / 4

-- the number at which the first grace period has ended that is still to start: at rest the next one, and while a period runs the one behind it
abbrev pub cookie_at : ℕ → ℕ
cookie_at n = 4 * (periods_ended n + (if n % 4 == 0 then 1 else 2))

-- a number that a cookie may have: a multiple of four, or 1 for the completed cookie, which waits for nothing
abbrev pub IsCookieNumber : ℕ → Type 0
IsCookieNumber cookie = (cookie ≡ 1) ⊎ (cookie % 4 ≡ 0)

-- at this number of a domain the cookie is done: the number has reached it, or it is the completed one
abbrev pub IsDoneAt : ℕ → ℕ → Type 0
IsDoneAt n cookie = (cookie ≡ 1) ⊎ (cookie ≤ n)

-- the same as an answer
abbrev pub done_at : ℕ → ℕ → Bool
done_at n cookie = if cookie == 1 then true else nat_le cookie n

-- as a state is printed
abbrev pub phase_text : Phase → List ℕ
phase_text Idle = codes "idle"
phase_text Scan1 = codes "scan1"
phase_text Scan2 = codes "scan2"

-- as a number is shown in the messages of tests
abbrev pub shown_number : ℕ → List ℕ
shown_number n = codes "Number(" ++ decimal n ++ codes ")"
