use Rattle.std.proofs.Common.{◌≡◌, List, [], ◌∷◌, ◌++◌, All, ap, sym, ◌∙◌, subst}
use Rattle.std.proofs.lemmas.List.Elements.{All-head}
use Rattle.sections.specs.Views.{ReadingView}
use Rattle.desk.specs.Swaps.{lies_behind}
use Rattle.desk.specs.Views.{SeatView}
use Rattle.desk.specs.Calls.{AreAllSeats}
use Rattle.desk.proofs.Seating.{sole_seat}
use Rattle.desk_tests.proofs.tests.close_sole.Goals as goal

pub close-requires : goal.close-requires
close-requires g c =
    let empty : c.expect-seats.result.items ≡ [] = rw c.expect-seats.ensures at c.with_capacity.ensures.items in
    let items : c.push_reserved.new.self.items ≡ c.args.seat ∷ [] = c.push_reserved.ensures.items ∙ ap (λ (l : List (SeatView ReadingView)). l ++ c.args.seat ∷ []) empty in
    record { seats = subst (AreAllSeats c.args.desk) (sym items) (sole_seat c.args.desk c.args.seat c.requires.seat.0 c.requires.seat.1 c.requires.sole.0) }

pub returns : goal.returns
returns g c =
    let empty : c.expect-seats.result.items ≡ [] = rw c.expect-seats.ensures at c.with_capacity.ensures.items in
    let items : c.push_reserved.new.self.items ≡ c.args.seat ∷ [] = c.push_reserved.ensures.items ∙ ap (λ (l : List (SeatView ReadingView)). l ++ c.args.seat ∷ []) empty in
    let P : SeatView ReadingView → Type 0 = λ v. c.close.result ≡ lies_behind v.seen in
    All-head P c.args.seat [] (subst (All P) items (c.close.ensures.alone c.requires.sole.0))
