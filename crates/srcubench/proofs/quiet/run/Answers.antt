-- The engine was that of a new domain.
use Rattle.std.proofs.Common.{ap, ◌∙◌}
use Rattle.scan.specs.Progress.{ScanView, at_work}
use Rattle.srcubench.proofs.quiet.run.Goals as goal

pub returns : goal.returns
returns g c = record {
  domain = c.in_ok-cpus.field-0.engine.domain;
  first = at_work _ c.new-engine.result;
  last = at_work _ c.make_periods-ended.new.engine;
  new = ap (λ (v : ScanView). v.seat) c.new-engine.ensures ∙ c.in_ok-cpus.ensures.made.engine_new;
  carried = c.in_ok-ended.ensures;
}
