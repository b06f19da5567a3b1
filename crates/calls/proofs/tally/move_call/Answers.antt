use Rattle.std.proofs.Common.{refl, ap, ◌∙◌}
use Rattle.calls.specs.Rule.{moving}
use Rattle.calls.proofs.Seating.{some_words}
use Rattle.calls.proofs.Sharing.{moves_call}
use Rattle.calls.proofs.tally.move_call.Goals as goal

pub join_seat-requires : goal.join_seat-requires
join_seat-requires g c = let p = c.requires.call.0 in let e = c.requires.call.1 in let list = c.requires.call.2 in let call = c.requires.call.3 in
    (list.seated, call.seated, ap (λ m. m.1) call.me, some_words _ _ _ c.requires.wide c.requires.call.4, moves_call _ _ _ _ _ p _ _ e (ap (λ m. m.0.role) list.me) (ap (λ m. m.0.client.list) list.me) (ap (λ m. m.0.client.list) call.me) refl c.requires.queued)

pub returns : goal.returns
returns g c p e list call = record {
  table = c.join_seat.ensures.0;
  list_is = c.join_seat.ensures.2 ∙ (λ i. (moving (list.me i).0 (call.me i).0, (list.me i).1));
}
