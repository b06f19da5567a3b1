-- Replacing opens no section. A value that can't be put comes out of its box again.
use Rattle.std.proofs.Common.{ap, ◌∙◌}
use Rattle.std.specs.Prelude.{Box}
use Rattle.srcu.proofs.Boxing.{none_replaced}
use Rattle.srcu.proofs.worker.Worker.replace_box.Goals as goal
use Rattle.srcu.proofs.worker.Worker.replace_box.Goals.{in-Ok-replace, in-Err-replace}

pub invariant_of-self : goal.invariant_of-self
invariant_of-self g c = record { here = c.replace.ensures.here; closed = none_replaced _ _ _ _ _ c.replace.result c.replace.ensures.puts c.self.invariant.closed }

pub returns-after-replace-clause-replaces : goal.returns-after-replace-clause-replaces
returns-after-replace-clause-replaces g c = elim c.match-replace.branch [
  | in-Ok-replace w ↦ rw w.result-is (rw (← c.self.view_is) (record {
    whole = c.in-Ok.whole;
    holds = c.in-Ok.ensures.ok;
    from = c.in-Ok.ensures.allocator;
    replaces = w.in-Ok-replace.ensures.puts;
  }))
  | in-Err-replace w ↦ rw w.result-is (rw (← c.self.view_is) (
    w.into_inner.ensures ∙ (ap (λ (b : Box _ _). b.value) w.in-Err-replace.ensures.puts.0 ∙ c.in-Ok.ensures.ok),
    w.in-Err-replace.ensures.puts.1,
  ))
]
