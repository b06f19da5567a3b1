-- Each section is of the processor that began it.
use Rattle.std.proofs.Common.{false, refl}
use Rattle.domain.proofs.CallerLemmas.{begun_here, same_locked, still_here}
use Rattle.steps.proofs.readers.count_nested.Goals as goal

pub read_unlock-requires : goal.read_unlock-requires
read_unlock-requires c =
    let same = same_locked false _ c.read_lock-inner.new.self.cpu c.read_lock-inner.result c.read_lock-inner.ensures.locks in
    still_here c.read_lock.new.self.cpu c.read_lock-inner.new.self.cpu c.in_ok-outer.outer _ same refl (begun_here _ _ _ c.in_ok-outer.ensures.locks)

pub read_unlock-requires-2 : goal.read_unlock-requires-2
read_unlock-requires-2 c = still_here c.read_lock-inner.new.self.cpu c.read_unlock.new.self.cpu c.in_ok-inner.field-0 _ c.read_unlock.ensures.ends.same refl (begun_here _ _ _ c.in_ok-inner.ensures.locks)
