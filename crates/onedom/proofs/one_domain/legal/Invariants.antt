use Rattle.std.proofs.Common.{◌≡◌, take}
use Rattle.onedom.specs.Histories.{IsLegal}
use Rattle.onedom.proofs.one_domain.legal.Given as goal

abbrev pub invariant-loop-event : goal.invariant-loop-event
invariant-loop-event g l = (l.domain ≡ take l.event-index l.events) × (IsLegal l.domain)
