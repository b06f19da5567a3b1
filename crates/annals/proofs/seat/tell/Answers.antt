use Rattle.std.proofs.Common.{ap, ◌∙◌}
use Rattle.annals.proofs.Sharing.{gives_token, takes_token}
use Rattle.annals.proofs.seat.tell.Goals as goal

pub split_seat-token-requires : goal.split_seat-token-requires
split_seat-token-requires g c = (c.requires.second.seated, c.requires.second.some, gives_token g.P.Chronicle.client c.args.top.now.key _ _)

pub join_seat-requires : goal.join_seat-requires
join_seat-requires g c =
    let t = c.split_seat-token.ensures in
    (c.requires.first.seated, t.3 ∙ c.requires.second.seated, ap (λ m. m.1) t.4, c.requires.first.some, takes_token g.P.Chronicle.client c.args.top.now.key _ _ _ _)
