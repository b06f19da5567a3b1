-- The driver's processor is one more of the domain, whether it closed a section or not, and the updater's is the last.
use Rattle.std.proofs.Common.{sym, subst}
use Rattle.std.proofs.lemmas.List.Elements.{All-push, All-same}
use Rattle.domain.specs.Views.{CpuView, IsOf}
use Rattle.soak.specs.declared.driving.Driver.{Driver}
use Rattle.soak.proofs.run.end.Goals as goal
use Rattle.soak.proofs.run.end.Goals.{in-Some, in_default}

pub rest-requires : goal.rest-requires
rest-requires g c =
    let Here : CpuView _ → Type 0 = IsOf c.args.domain in
    elim c.match-close.branch [
      | in-Some w ↦ subst (λ (v : Driver). Here v.cpu) (sym w.driver-is) (w.up_read.ensures.stays _ c.requires.driver)
      | in_default w ↦ subst (λ (v : Driver). Here v.cpu) (sym w.driver-is) c.requires.driver
    ]

pub cleanup-requires : goal.cleanup-requires
cleanup-requires g c =
    let Here : CpuView _ → Type 0 = IsOf c.args.domain in
    let all = All-same Here _ _ c.push_reserved.ensures.items (All-push Here _ c.rest.new.cpu c.requires.cpus c.rest.ensures) in
    let watching : Here c.match-close.driver.watching =
    elim c.match-close.branch [
      | in-Some w ↦ subst (λ (v : Driver). Here v.watching) (sym w.driver-is) c.requires.watching
      | in_default w ↦ subst (λ (v : Driver). Here v.watching) (sym w.driver-is) c.requires.watching
    ] in
    let both = All-same Here _ _ c.push_reserved-2.ensures.items (All-push Here _ _ all watching) in
    All-same Here _ _ c.push_reserved-3.ensures.items (All-push Here _ c.take_back.new.updater.cpu both c.take_back.ensures.here)
