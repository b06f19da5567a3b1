-- The four were pushed in their order.
use Rattle.std.proofs.Common.{◌≡◌, List, [], ◌∷◌, ◌++◌, ap, sym, ◌∙◌, subst}
use Rattle.sections.specs.Views.{ReadingView}
use Rattle.desk.specs.Views.{SeatView}
use Rattle.desk.specs.Calls.{AreAllSeats}
use Rattle.domain_threads_tests.proofs.ForThreads.{four_seats}
use Rattle.domain_threads_tests.proofs.tests.threads.close_four.Goals as goal

-- one more behind those that were there
behind : (all more : List (SeatView ReadingView)) (v : SeatView ReadingView) → all ≡ more → all ++ v ∷ [] ≡ more ++ v ∷ []
behind all more v e = ap (λ (l : List (SeatView ReadingView)). l ++ v ∷ []) e

pub close-requires : goal.close-requires
close-requires g c =
    let s = c.args.seats in
    let empty : c.expect-all.result.items ≡ [] = rw c.expect-all.ensures at c.with_capacity.ensures.items in
    let one : c.push_reserved.new.self.items ≡ s.first ∷ [] = c.push_reserved.ensures.items ∙ behind _ _ s.first empty in
    let two : c.push_reserved-2.new.self.items ≡ s.first ∷ s.second ∷ [] = c.push_reserved-2.ensures.items ∙ behind _ _ s.second one in
    let three : c.push_reserved-3.new.self.items ≡ s.first ∷ s.second ∷ s.third ∷ [] = c.push_reserved-3.ensures.items ∙ behind _ _ s.third two in
    let four : c.push_reserved-4.new.self.items ≡ s.first ∷ s.second ∷ s.third ∷ s.fourth ∷ [] = c.push_reserved-4.ensures.items ∙ behind _ _ s.fourth three in
    record { seats = subst (AreAllSeats c.args.desk) (sym four) (four_seats c.args.desk s.first s.second s.third s.fourth c.requires.first c.requires.second c.requires.third c.requires.fourth c.requires.seats) }
