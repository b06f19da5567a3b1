use Rattle.solo.proofs.CleanupActs.{taken_down, refused_is, in_use, handed_back, refused_met, refused_same}
use Rattle.solo.proofs.solo.Solo.cleanup.Goals as goal

pub settle-requires : goal.settle-requires
settle-requires g c = handed_back _ _ _ _ c.self.invariant.met _ c.self.view_is c.in-Err.domain c.in-Err.cpus.items (refused_is _ _ _ _ c.self.invariant.met _ c.self.view_is c.in-Err.cause c.in-Err.domain c.in-Err.cpus.items c.in-Err.ensures.answer).domain c.in-Err.ensures.back

pub invariant_of-result : goal.invariant_of-result
invariant_of-result g c =
    let r = refused_is _ _ _ _ c.self.invariant.met _ c.self.view_is c.in-Err.cause c.in-Err.domain c.in-Err.cpus.items c.in-Err.ensures.answer in
    record { engine = c.settle.ensures.meets.left; met = refused_met _ _ _ _ c.self.invariant.met _ c.self.view_is r.history r.of_all r.all r.deeds_of_all c.in-Err.cpus.items r.back r.back.same _ _ c.settle.ensures.all c.settle.ensures.meets }

pub returns-in-Ok : goal.returns-in-Ok
returns-in-Ok g c = taken_down _ _ _ _ c.self.invariant.met _ c.self.view_is c.in-Ok.totals c.in-Ok.ensures.answer

pub returns-in-Err : goal.returns-in-Err
returns-in-Err g c =
    let r = refused_is _ _ _ _ c.self.invariant.met _ c.self.view_is c.in-Err.cause c.in-Err.domain c.in-Err.cpus.items c.in-Err.ensures.answer in (
      in_use _ _ _ _ c.self.invariant.met _ c.self.view_is c.in-Err.cause c.in-Err.domain c.in-Err.cpus.items c.in-Err.ensures.answer,
      refused_same _ _ _ _ c.self.invariant.met _ c.self.view_is r.history r.of_all r.all r.deeds_of_all c.in-Err.cpus.items r.back r.back.same _ _ c.settle.ensures.all c.settle.ensures.meets,
    )
