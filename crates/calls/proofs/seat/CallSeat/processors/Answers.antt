use Rattle.std.proofs.Common.{ap, ◌∙◌}
use Rattle.atomic_table.specs.Seated.{TableId}
use Rattle.calls.specs.Views.{CallSeatView}
use Rattle.calls.proofs.Loading.{strides}
use Rattle.calls.proofs.seat.CallSeat.processors.Goals as goal

pub returns-clause-count : goal.returns-clause-count
returns-clause-count g c = strides _ _ (c.word_count.ensures ∙ (ap (λ z. z.shared.table_id.words) c.deref.ensures ∙ c.self.invariant.placed.wide)) ∙ ap (λ (z : CallSeatView _). z.processors) c.self.view_is

pub returns-clause-there : goal.returns-clause-there
returns-clause-there g c = rw (← c.self.view_is) c.self.invariant.rests.there

pub returns-clause-loads : goal.returns-clause-loads
returns-clause-loads g c = rw (← c.self.view_is) c.self.invariant.loads

pub returns-clause-wide : goal.returns-clause-wide
returns-clause-wide g c = rw (← c.self.view_is) (ap (λ (t : TableId). t.words) c.self.invariant.placed.seated ∙ c.self.invariant.placed.wide)
