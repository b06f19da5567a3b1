use Rattle.requests.specs.declared.scene.Kind.TheVariants as kind
use Rattle.names.proofs.TokenKinds.{only_look}
use Rattle.names.proofs.names.Names.take_look.Goals as goal

pub take-requires : goal.take-requires
take-requires g c = (kind.Look, c.requires)

pub unreachable-requires : goal.unreachable-requires
unreachable-requires g c = only_look c.args.name.now c.args.self.now.tokens c.take.result c.take.ensures.taken.there c.requires c.in_default.not-Look
