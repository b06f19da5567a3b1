use Rattle.std.proofs.Common.{refl}
use Rattle.domain.proofs.CallerLemmas.{none_still, same_plain}
use Rattle.driver.proofs.report.snapshot.Goals as goal

pub returns-in-Ok : goal.returns-in-Ok
returns-in-Ok g c = record {
  here = c.snapshot.ensures.here;
  closed = none_still c.args.cpu.now c.snapshot.new.cpu (same_plain _ _ c.args.cpu.now c.snapshot.new.cpu c.in-Ok.ensures.acts _ refl refl (λ s. refl)) c.requires.closed;
}
