use Rattle.std.proofs.Common.{refl}
use Rattle.requests.specs.declared.scene.Kind.TheVariants as kind
use Rattle.session.proofs.Batches.{batches_on}
use Rattle.session.proofs.Users.{users_on}
use Rattle.session.proofs.Quiet.{keeps_jobs}
use Rattle.session.proofs.Holding.{Own}
use Rattle.session.proofs.Together.{it_is_of, together_ended}
use Rattle.session.proofs.Acting.{has_kind, unlocked}
use Rattle.session.proofs.entry.Entry.unlock.Goals as goal

pub take_reading-reading-requires : goal.take_reading-reading-requires
take_reading-reading-requires g c =
    let asked = rw (← c.self.view_is) at c.requires in
    has_kind c.self.inside.name c.args.name c.self.inside.names.tokens c.self.inside.parking.parked c.self.inside.domain kind.Reading refl asked

pub read_unlock-requires : goal.read_unlock-requires
read_unlock-requires g c = (it_is_of c.self.inside.domain c.self.inside.names.tokens c.self.inside.parking c.self.invariant.0 c.take_reading-reading.ensures).of_domain

pub invariant_of-self : goal.invariant_of-self
invariant_of-self g c = (
  together_ended c.self.inside.domain c.self.inside.names.tokens c.self.inside.parking c.self.invariant.0 Own c.take_reading-reading.result c.take_reading-reading.ensures c.read_unlock.new.self c.take_reading-reading.result.processor c.read_unlock.ensures.same.0 c.read_unlock.ensures.section,
  batches_on c.self.inside.domain c.self.inside.outs.items c.self.invariant.1 c.read_unlock.new.self c.read_unlock.ensures.same (keeps_jobs refl c.read_unlock.ensures.section),
  users_on c.self.inside.domain c.read_unlock.new.self c.self.inside.chain c.self.inside.board c.read_unlock.ensures.same.0 c.self.invariant.2,
)

pub returns-clause-does : goal.returns-clause-does
returns-clause-does g c = rw (← c.self.view_is)
    (unlocked _ _ c.self.inside.name c.self.inside.names.tokens c.self.inside.parking.parked c.self.inside.domain c.read_unlock.new.self c.read_unlock.ensures.same.1 c.take_reading-reading.result c.take_reading-reading.ensures c.read_unlock.ensures.section)
