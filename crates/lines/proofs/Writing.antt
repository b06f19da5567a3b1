-- Bytes that are written a part at a time.
use Rattle.std.proofs.Common.{ℕ, ◌+◌, ◌-◌, List, Option, length, take, drop, subst, sym}
use Rattle.std.proofs.Math.Seq.{take-add}
use Rattle.std.proofs.lemmas.List.{take_rest}
use Rattle.std.proofs.KnownBytes.{Appends-trans}
use Rattle.std.specs.Io.KnownBytes.{Appends}

-- after the first `done` bytes came the next n
pub Appends-next : (u v w : Option (List ℕ)) (bytes : List ℕ) (done n : ℕ) → Appends u v (take done bytes)
    → Appends v w (take n (take (length bytes - done) (drop done bytes))) → Appends u w (take (done + n) bytes)
Appends-next u v w bytes done n before next =
    let rest : Appends v w (take n (drop done bytes)) = subst (λ r. Appends v w (take n r)) (take_rest bytes done) next in
    subst (Appends u w) (sym (take-add done n bytes)) (Appends-trans u v w (take done bytes) (take n (drop done bytes)) before rest)
