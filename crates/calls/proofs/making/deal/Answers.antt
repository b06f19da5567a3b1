use Rattle.std.proofs.Common.{rules, ap, sym, ◌∙◌}
use Rattle.annals.specs.Rule.{next, number_of}
use Rattle.calls.specs.Rule.{new_list}
use Rattle.calls.proofs.Sharing.{deals, gives_list, sits_plain}
use Rattle.calls.proofs.Seating.{some_words}
use Rattle.calls.proofs.making.deal.Goals as goal

pub split_seat-seat-requires : goal.split_seat-seat-requires
split_seat-seat-requires g c =
    let t = c.deref.ensures ∙ c.in_ok-table.ensures in
    (search rules, some_words _ _ _ (ap (λ z. z.shared.table_id.words) t ∙ c.requires.dealer.wide) c.requires.there, deals _ _ _ _ (ap (λ m. m.0.role) c.requires.dealer.me))

pub split_seat-right-requires : goal.split_seat-right-requires
split_seat-right-requires g c =
    let t = c.deref-2.ensures ∙ c.in_ok-table.ensures in
    let s = c.split_seat-seat.ensures in (
      s.3 ∙ (c.requires.dealer.seated ∙ sym (ap (λ z. z.shared.table_id) t)),
      some_words _ _ _ (ap (λ z. z.shared.table_id.words) t ∙ c.requires.dealer.wide) c.requires.there,
      gives_list _ _ _ _ _
          (sits_plain _ c.args.spot.now.processor (ap (λ m. m.0.role) s.4 ∙ ap (λ m. next m.0.role) c.requires.dealer.me)) (ap (λ m. m.0.client.list) s.4 ∙ ap (λ m. new_list (number_of m.0.role)) c.requires.dealer.me),
    )
