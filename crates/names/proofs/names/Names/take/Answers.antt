use Rattle.std.proofs.Common.{◌∙◌, sym}
use Rattle.names.proofs.TokenKinds.{none_there}
use Rattle.names.proofs.names.Names.take.Goals as goal

pub unreachable-requires : goal.unreachable-requires
unreachable-requires g c = none_there c.args.name.now c.args.self.now.tokens c.requires.1 (sym c.in_default.is ∙ c.remove.ensures.token)

pub returns-clause-taken : goal.returns-clause-taken
returns-clause-taken g c =
    let (stored, moves) = c.in-Some.ensures.others in
    record { there = sym c.remove.ensures.token ∙ c.in-Some.is; frees = c.remove.ensures.frees; stored = stored; moves = moves }
