use Rattle.srcuctl.proofs.Handed.{AreHanded}
use Rattle.srcuctl.proofs.recording.record_told.OwnLists.{own-1}
use Rattle.srcuctl.proofs.recording.record_told.Given as goal

abbrev pub invariant-loop-id : goal.invariant-loop-id
invariant-loop-id g l = AreHanded (λ h value result. (own-1.entry h.vtable).1.answers h.value 1 value result) l.handlers.items l.id
