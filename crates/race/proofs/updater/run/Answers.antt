-- As many jobs as the batch had are finished.
use Rattle.std.proofs.Common.{refl, ap, ◌∙◌, arith}
use Rattle.calls.specs.Glossary.{BatchView}
use Rattle.race.proofs.Updating.{after_finish}
use Rattle.race.proofs.updater.run.Goals as goal

-- src/updater.rt:123:1
pub returns : goal.returns
returns g c =
    let same = ap (λ (b : BatchView Unit). b.count) c.loop.invariant in
    let left = ap (λ (b : BatchView Unit). b.count) c.in_default.ensures.0 in
    let told = c.count-count.ensures in
    let sum = c.saturating_add-updater.ensures in
    let own = ap (λ (b : BatchView Unit). b.processor) c.in_default.ensures.0 ∙ (ap (λ (b : BatchView Unit). b.processor) c.loop.invariant ∙ c.requires.batch.1) in
    after_finish c.args.course.now c.args.updater.now c.requires.is c.requires.tells c.next.new.self.processor c.next.new.self.count _ c.finish.ensures.here c.finish.ensures.acts own refl refl refl (λ few. omega (arith, same, left, told, sum, few))
