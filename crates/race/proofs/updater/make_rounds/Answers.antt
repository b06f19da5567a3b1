-- One version more was installed, and one callback queued.
use Rattle.std.proofs.Common.{◌∙◌, arith}
use Rattle.race.proofs.Rounds.{one_made}
use Rattle.race.proofs.updater.make_rounds.Goals as goal

pub loop-round-preserved : goal.loop-round-preserved
loop-round-preserved g c =
    let so_far = c.loop-round.invariant in
    let installed = c.in_ok-install.ensures.goes_on in
    let queued = c.in_ok-queue.ensures in record {
      is = queued.is;
      tells = queued.tells;
      rounds = one_made c.args.course.now c.loop-round.round c.args.updater.now c.loop-round.updater c.queue.new.updater so_far.rounds (record { installed = c.install.new.updater; installs = c.in_ok-install.ensures.installs; queues = queued });
      processor = queued.processor ∙ (installed.processor ∙ so_far.processor);
      versions = let a = installed.versions_are in let b = queued.versions_are in let n = so_far.versions in omega (arith, a, b, n);
      queued = let a = installed.queued_are in let b = queued.queued_are in let n = so_far.queued in omega (arith, a, b, n);
    }
