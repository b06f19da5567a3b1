-- The words of `desk`, for files that cite them.
pub use Rattle.desk.specs.BayCalls.{Accepts, AreNewBaySeats, Covers, HasSeenLegal, IsHeldElsewhere, IsLikeFirst, IsNewBay, MakesSwap, Ties, holds, lies, new_bay_seat}
pub use Rattle.desk.specs.BayLaws.{GrowsByOne, GrowsByTwo, HasJust, HasOneHolder, JustOneHolds, OneHolds, OneSwap, OneTurn, SwapsAlone}
pub use Rattle.desk.specs.BayPlays.{Puts, Takes, as_bay_seat, carried}
pub use Rattle.desk.specs.BayRule.{IsOf, StandsFor, bay_client, home_of, lies_now, word_of}
pub use Rattle.desk.specs.BaySeats.{IsDealt, emptied}
pub use Rattle.desk.specs.BayViews.{BaySeatView, BayView}
pub use Rattle.desk.specs.BayWork.{MayLieThere, Works}
pub use Rattle.desk.specs.Calls.{AreAllSeats, AreNewSeats, Closes, Swaps, new_seat}
pub use Rattle.desk.specs.Forged.{ClaimsNone, HasNoMore, IsSeat, NoBaySwapIsForged, NoDeskSwapIsForged}
pub use Rattle.desk.specs.Holding.{IsLegal, IsLegalAfter, MayFollow, holds_after, holds_behind, takes}
pub use Rattle.desk.specs.Plays.{Trades, as_seat, gathered, laid_down, picked_up}
pub use Rattle.desk.specs.Rule.{AreSpread, Books, Fits, Has, Is, Stands, dealer, dealt, gathering, next, number_of, spent, with_account, without_next}
pub use Rattle.desk.specs.Seats.{IsGathering, LiesAlone, account, desk_of}
pub use Rattle.desk.specs.Swaps.{Account, AreInTurn, AreInTurnAfter, IsBeginning, Swap, lies_after, lies_behind, swaps_of}
pub use Rattle.desk.specs.Views.{DeskView, SeatView}
pub use Rattle.desk.specs.declared.bay.view.Terms.{Terms}
pub use Rattle.desk.specs.declared.view.Role.{Role}
