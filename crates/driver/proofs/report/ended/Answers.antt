use Rattle.std.proofs.Common.{refl}
use Rattle.domain.proofs.CallerLemmas.{none_still, same_plain}
use Rattle.driver.proofs.report.ended.Goals as goal

pub returns : goal.returns
returns g c = record {
  here = c.number.ensures.stays _ c.requires.here;
  closed = none_still c.args.cpu.now c.number.new.self (same_plain _ _ c.args.cpu.now c.number.new.self c.number.ensures.acts _ refl refl (λ s. refl)) c.requires.closed;
}
