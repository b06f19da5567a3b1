-- The two were pushed in their order.
use Rattle.std.proofs.Common.{◌≡◌, List, [], ◌∷◌, ◌++◌, ap, sym, ◌∙◌, subst}
use Rattle.sections.specs.Views.{ReadingView}
use Rattle.desk.specs.Views.{SeatView}
use Rattle.desk.specs.Calls.{AreAllSeats}
use Rattle.desk.proofs.CallerLemmas.{two_seats}
use Rattle.domain_threads_tests.proofs.tests.threads.close_two.Goals as goal

pub close-requires : goal.close-requires
close-requires g c =
    let empty : c.expect-seats.result.items ≡ [] = rw c.expect-seats.ensures at c.with_capacity.ensures.items in
    let items : c.push_reserved-2.new.self.items ≡ c.args.first ∷ c.args.second ∷ [] =
    c.push_reserved-2.ensures.items ∙ ap (λ (l : List (SeatView ReadingView)). l ++ c.args.second ∷ []) (c.push_reserved.ensures.items ∙ ap (λ (l : List (SeatView ReadingView)). l ++ c.args.first ∷ []) empty) in
    record { seats = subst (AreAllSeats c.args.desk) (sym items) (two_seats c.args.desk c.args.first c.args.second c.requires.first.0 c.requires.second.0 c.requires.first.1 c.requires.second.1 c.requires.seats) }
