-- Its rounds go on from nothing.
use Rattle.driver.proofs.Rows.{works_of_all, vain_of_all}
use Rattle.driver.proofs.driving.serve_until.Goals as goal

pub returns-in-Ok-clause-works : goal.returns-in-Ok-clause-works
returns-in-Ok-clause-works g c =
    (c.until_done.new.work, works_of_all (λ p x q. goal.F-step g p x tt q) c.args.domain.now c.nothing-none.result c.args.work c.until_done.new.work c.args.cpu.now c.until_done.new.cpu c.in-Ok.served c.nothing-none.ensures.periods c.nothing-none.ensures.jobs c.in-Ok.ensures.works)

pub returns-clause-works : goal.returns-clause-works
returns-clause-works g c =
    (c.until_done.new.work, works_of_all (λ p x q. goal.F-step g p x tt q) c.args.domain.now c.nothing-none.result c.args.work c.until_done.new.work c.args.cpu.now c.until_done.new.cpu c.in-Err.served c.nothing-none.ensures.periods c.nothing-none.ensures.jobs c.in-Err.ensures.works)

pub returns-clause-vain : goal.returns-clause-vain
returns-clause-vain g c =
    (c.until_done.new.work, vain_of_all (λ p x q. goal.F-step g p x tt q) c.args.domain.now c.nothing-none.result c.args.work c.until_done.new.work c.args.cpu.now c.until_done.new.cpu c.in-Err.served c.nothing-none.ensures.periods c.nothing-none.ensures.jobs c.in-Err.ensures.vain)
