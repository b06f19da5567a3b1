use Rattle.std.proofs.Common.{ap}
use Rattle.calls.proofs.Seating.{some_words}
use Rattle.calls.proofs.Sharing.{withdraws}
use Rattle.calls.proofs.tally.withdraw.Goals as goal

pub join_seat-requires : goal.join_seat-requires
join_seat-requires g c = let p = c.requires.call.0 in let e = c.requires.call.1 in let about = c.requires.call.2 in let call = c.requires.call.3 in
    (c.requires.placed.seated, call.seated, ap (λ m. m.1) call.me, some_words _ _ _ c.requires.placed.wide about.there, withdraws _ _ _ _ _ p e about.who about.calling (ap (λ m. m.0.client.list) call.me))
