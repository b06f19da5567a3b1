use Rattle.std.proofs.Common.{refl}
use Rattle.requests.specs.declared.scene.Kind.TheVariants as kind
use Rattle.session.proofs.Batches.{batches_on}
use Rattle.session.proofs.Users.{users_on}
use Rattle.session.proofs.Quiet.{keeps_jobs}
use Rattle.session.proofs.Holding.{Any}
use Rattle.session.proofs.Together.{it_is_of, together_ended}
use Rattle.session.proofs.Acting.{has_kind, upped}
use Rattle.session.proofs.entry.Entry.up.Goals as goal

pub take_held-held-requires : goal.take_held-held-requires
take_held-held-requires g c =
    let asked = rw (← c.self.view_is) at c.requires in
    has_kind c.self.inside.name c.args.name c.self.inside.names.tokens c.self.inside.parking.parked c.self.inside.domain kind.Held refl asked.1

pub up_read-requires-clause-held : goal.up_read-requires-clause-held
up_read-requires-clause-held g c = (it_is_of c.self.inside.domain c.self.inside.names.tokens c.self.inside.parking c.self.invariant.0 c.take_held-held.ensures).of_domain.table_is

pub invariant_of-self : goal.invariant_of-self
invariant_of-self g c = (
  together_ended c.self.inside.domain c.self.inside.names.tokens c.self.inside.parking c.self.invariant.0 Any c.take_held-held.result c.take_held-held.ensures c.up_read.new.self c.args.processor c.up_read.ensures.same.0 c.up_read.ensures.section,
  batches_on c.self.inside.domain c.self.inside.outs.items c.self.invariant.1 c.up_read.new.self c.up_read.ensures.same (keeps_jobs refl c.up_read.ensures.section),
  users_on c.self.inside.domain c.up_read.new.self c.self.inside.chain c.self.inside.board c.up_read.ensures.same.0 c.self.invariant.2,
)

pub returns-clause-does : goal.returns-clause-does
returns-clause-does g c = rw (← c.self.view_is)
    (upped _ _ c.self.inside.name c.self.inside.names.tokens c.self.inside.parking.parked c.self.inside.domain c.up_read.new.self c.up_read.ensures.same.1 c.args.processor c.take_held-held.result c.take_held-held.ensures c.up_read.ensures.section)
