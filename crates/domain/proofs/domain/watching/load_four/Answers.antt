use Rattle.domain.proofs.domain.watching.load_four.Goals as goal

pub returns : goal.returns
returns g c = record { first = _; zero_unlocks = c.unlocks-unlocks_zero.ensures; middle = _; one_unlocks = c.unlocks-unlocks_one.ensures; third = _; zero_locks = c.locks-locks_zero.ensures; one_locks = c.locks-locks_one.ensures }
