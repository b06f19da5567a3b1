-- What the handlers of a script answer.
use Rattle.std.specs.Prelude.{◌≡◌, ℕ, ◌*◌, ◌/◌, ◌%◌, ◌^◌, ◌<◌, ◌==◌, if◌then◌else◌}

-- the kernel's NOTIFY_DONE, NOTIFY_OK, NOTIFY_STOP and NOTIFY_BAD, by two bits
abbrev pub answer_of : ℕ → ℕ
answer_of bits = if bits == 0 then 0 else (if bits == 1 then 1 else (if bits == 2 then 0x8001 else 0x8002))

-- what a value tells the handler of this id: two bits for each, those of handler 0 the lowest
abbrev pub answer_in : ℕ → ℕ → ℕ
answer_in value id = answer_of (value / 2 ^ (2 * id) % 4)

-- the handler of this id is one of the sixteen, and this is what it gives to a value
pub record Gives (value id result : ℕ) : Type 0 where
  pub there : id < 16
  pub answered : result ≡ answer_in value id
