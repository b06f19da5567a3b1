-- Where no more was queued meanwhile, all that came in were moved.
use Rattle.std.proofs.Common.{◌≡◌, ℕ, ◌+◌, List, length, ap, arith}
use Rattle.std.proofs.lemmas.List.{length-append, length-drop, length-map}
use Rattle.calls.specs.Glossary.{Deed, line_in, calls_in, queued_in, given_out, AreTrue, MovesAll}
use Rattle.calls.proofs.Loading.{queued_later}
use Rattle.calls.proofs.Once.{plain, calls_counted, good_in}

module _ {J : Type 0} where
  -- what was queued was given out, waits, or came in
  all_somewhere : (p : ℕ) (seen : List (Deed J)) → AreTrue seen → given_out p seen + length (line_in p seen).waiting + length (line_in p seen).coming ≡ queued_in p seen
  all_somewhere p seen so =
      let k = line_in p seen in
      let good = good_in p seen so in
      let enough = good.enough in
      let order = ap length good.order in
      let both = length-append (plain k.waiting) k.coming in
      let waiting = length-map k.waiting (λ e. e.0) in
      let rest = length-drop (given_out p seen) (calls_in p seen) in
      let count = calls_counted p seen in
      omega (arith, enough, order, both, waiting, rest, count)

  -- all that came in were moved, where as many are queued in the end as at first
  pub moved_all : (p moved : ℕ) (from seen : List (Deed J)) → AreTrue seen → MovesAll p moved from seen → queued_in p from ≡ queued_in p seen → moved ≡ length (line_in p seen).coming
  moved_all p moved from seen so h same =
      let low = queued_later p h.not_before in
      let high = queued_later p h.not_after in
      let all = h.all in
      let somewhere = all_somewhere p seen so in
      omega (arith, low, high, same, all, somewhere)
