use Rattle.std.proofs.Common.{refl}
use Rattle.requests.specs.declared.command.Command.TheVariants as command
use Rattle.names.specs.Bearers.{Held}
use Rattle.session.specs.Entries.{AreTogether}
use Rattle.scan.specs.Standings.{index_now}
use Rattle.session.proofs.Batches.{batches_on}
use Rattle.session.proofs.Users.{users_on}
use Rattle.session.proofs.Quiet.{keeps_jobs}
use Rattle.session.proofs.Holding.{Any}
use Rattle.session.proofs.Together.{together_begun}
use Rattle.session.proofs.Acting.{is_free, is_not_parked, downed, begun_none}
use Rattle.session.proofs.entry.Entry.down.Goals as goal

pub insert-requires-clause-free : goal.insert-requires-clause-free
insert-requires-clause-free g c =
    let asked = rw (← c.self.view_is) at c.requires in
    is_free c.self.inside.name c.args.name c.reserve.new.self.tokens c.self.inside.parking.parked c.self.inside.domain (rw c.in_ok-reserve.ensures.tokens asked.1)

pub invariant_of-self-in-Ok : goal.invariant_of-self-in-Ok
invariant_of-self-in-Ok g c =
    let asked = rw (← c.self.view_is) at c.requires in
    let d = c.self.inside.domain in
    let held : AreTogether c.self.inside.domain c.reserve.new.self.tokens c.self.inside.parking = rw c.in_ok-reserve.ensures.tokens c.self.invariant.0 in
    let free = is_not_parked c.self.inside.name c.args.name c.self.inside.names.tokens c.self.inside.parking.parked d asked.1 in
    rw c.insert.ensures (
      together_begun d c.reserve.new.self.tokens c.self.inside.parking held c.args.name free Any c.down_read.new.self c.args.processor (index_now d.course.standing) c.in-Ok.held
          c.down_read.ensures.same.0 asked.0 c.in-Ok.ensures.section.0 c.in-Ok.ensures.section.1,
      batches_on c.self.inside.domain c.self.inside.outs.items c.self.invariant.1 c.down_read.new.self c.down_read.ensures.same (keeps_jobs refl c.in-Ok.ensures.section.0.happens),
      users_on c.self.inside.domain c.down_read.new.self c.self.inside.chain c.self.inside.board c.down_read.ensures.same.0 c.self.invariant.2,
    )

pub returns-in-Ok-clause-does : goal.returns-in-Ok-clause-does
returns-in-Ok-clause-does g c =
    let asked = rw (← c.self.view_is) at c.requires in
    let free = is_free c.self.inside.name c.args.name c.reserve.new.self.tokens c.self.inside.parking.parked c.self.inside.domain (rw c.in_ok-reserve.ensures.tokens asked.1) in
    rw (← c.self.view_is, c.index-index.ensures.value, c.insert.ensures, ← c.in_ok-reserve.ensures.tokens)
    (downed _ _ c.self.inside.name c.reserve.new.self.tokens c.self.inside.parking.parked c.self.inside.domain c.down_read.new.self c.down_read.ensures.same.1 c.args.processor c.args.name c.in-Ok.held free c.in-Ok.ensures.section.0 c.in-Ok.ensures.section.1)

pub returns-in-Err-clause-does : goal.returns-in-Err-clause-does
returns-in-Err-clause-does g c =
    rw (← c.self.view_is, ← c.in_ok-reserve.ensures.tokens)
    (begun_none _ _ c.self.inside.name c.reserve.new.self.tokens c.self.inside.parking.parked c.self.inside.domain c.down_read.new.self c.args.processor command.Down Held c.args.name c.in-Err.ensures.section.0 c.in-Err.ensures.section.1)
