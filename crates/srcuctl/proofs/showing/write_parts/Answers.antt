-- One part more is written.
use Rattle.std.proofs.Common.{rules, ◌≡◌, Ok, Some, None, refl, inl, inr, arith}
use denote.Param.Always.{mut_next}
use Rattle.srcuctl.proofs.Parts.{no_part_written, one_more_written}
use Rattle.srcuctl.proofs.showing.write_parts.Goals as goal

pub loop-at-init : goal.loop-at-init
loop-at-init g c = (c.requires.make, no_part_written _ _ _, λ _. refl)

pub returns-in-Err : goal.returns-in-Err
returns-in-Err g c = λ _. inl (c.loop-at.invariant.2 c.if-at-eq0.true)

pub returns-in_default : goal.returns-in_default
returns-in_default g c =
    let gave : c.make.result ≡ Ok None = search rules in
    let call = rw gave at c.make.ensures in
    record { last = c.loop-at.make; parts = c.loop-at.invariant.1; over = c.make.new.self; ended = (_, _, call, refl, refl) }

pub loop-at-preserved : goal.loop-at-preserved
loop-at-preserved g c =
    let gave : c.make.result ≡ Ok (Some c.in-Some.text) = search rules in
    let call = rw gave at c.make.ensures in
    let wrote = rw c.deref.ensures.value at c.in_ok-write.ensures.written in (
      mut_next g.F.FnMut _ _ _ _ _ c.make.ensures refl c.loop-at.invariant.0,
      one_more_written _ _ _ _ _ _ _ _ c.loop-at.invariant.1 (_, _, call, refl, refl) wrote,
      λ next. absurd (omega (arith, next)),
    )

pub returns : goal.returns
returns g c = λ _. inr (record { wants_memory = refl; last = c.loop-at.make; parts = c.loop-at.invariant.1 })
