-- The handlers of the blocks before this place were called, and none stopped the call.
use Rattle.std.proofs.Common.{map}
use Rattle.notify.specs.Blocks.{block_at}
use Rattle.notify.proofs.Answering.{AnsweredTo}
use Rattle.notify.proofs.handler.call_all.Given as goal

abbrev pub invariant-loop-place : goal.invariant-loop-place
invariant-loop-place g l = AnsweredTo (λ h r. (goal.Handler-dyn g (h.vtable, h.value)).answers h.value l.action l.value r) l.handlers (map block_at l.used) l.place l.last
