use Rattle.std.proofs.Common.{◌∙◌, sym, ap}
use Rattle.std.specs.Option.{option_copied}
use Rattle.names.proofs.TokenKinds.{none_there, only_ticket}
use Rattle.names.proofs.names.Names.ticket.Goals as goal

pub unreachable-requires : goal.unreachable-requires
unreachable-requires g c = none_there c.args.name.now c.args.self.now.tokens c.requires (ap option_copied (sym c.in_default.is) ∙ c.get.ensures)

pub unreachable-requires-in_default-token : goal.unreachable-requires-in_default-token
unreachable-requires-in_default-token g c = only_ticket c.args.name.now c.args.self.now.tokens _ (sym c.get.ensures ∙ ap option_copied c.in-Some.is) c.requires c.in_default-token.not-Ticket
