use Rattle.std.proofs.Common.{◌∙◌, sym, ap}
use Rattle.names.specs.Tokens.{open_index}
use Rattle.session.proofs.Spent.{closed_last, never_open}
use Rattle.session.proofs.entry.cleanup.drop_tokens.Goals as goal

pub loop-token-init : goal.loop-token-init
loop-token-init g c = rw c.into_tokens-tokens.ensures c.requires

pub loop-token-preserved-in-Look : goal.loop-token-preserved-in-Look
loop-token-preserved-in-Look g c = (closed_last c.loop-token.tokens.entries c.take_last.new.tokens.entries (c.in-Some.ensures.last.0, c.in-Some.token) c.in-Some.ensures.last.1 c.loop-token.invariant).0

pub loop-token-preserved : goal.loop-token-preserved
loop-token-preserved g c = (closed_last c.loop-token.tokens.entries c.take_last.new.tokens.entries (c.in-Some.ensures.last.0, c.in-Some.token) c.in-Some.ensures.last.1 c.loop-token.invariant).0

pub unreachable-requires : goal.unreachable-requires
unreachable-requires g c =
    let closed = (closed_last c.loop-token.tokens.entries c.take_last.new.tokens.entries (c.in-Some.ensures.last.0, c.in-Some.token) c.in-Some.ensures.last.1 c.loop-token.invariant).1 in
    never_open c.in-Reading._reading.index (ap open_index (sym c.in-Reading.is) ∙ closed)

pub unreachable-requires-in-Held : goal.unreachable-requires-in-Held
unreachable-requires-in-Held g c =
    let closed = (closed_last c.loop-token.tokens.entries c.take_last.new.tokens.entries (c.in-Some.ensures.last.0, c.in-Some.token) c.in-Some.ensures.last.1 c.loop-token.invariant).1 in
    never_open c.in-Held._held.index (ap open_index (sym c.in-Held.is) ∙ closed)

pub unreachable-requires-in-Lease : goal.unreachable-requires-in-Lease
unreachable-requires-in-Lease g c =
    let closed = (closed_last c.loop-token.tokens.entries c.take_last.new.tokens.entries (c.in-Some.ensures.last.0, c.in-Some.token) c.in-Some.ensures.last.1 c.loop-token.invariant).1 in
    never_open c.in-Lease._lease.held.index (ap open_index (sym c.in-Lease.is) ∙ closed)
