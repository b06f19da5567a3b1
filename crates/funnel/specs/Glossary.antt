-- The words of `funnel`, for files that cite them.
pub use Rattle.funnel.specs.Calls.{AreNew, AreOfProcessors, Asks, IsAskedFor, IsHistoryOf, IsIdle, IsOfProcessor, IsSameSeat, IsSeenBy, LoadsRoot, new_seat}
pub use Rattle.funnel.specs.Histories.{IsBeginning, IsLegal, IsLegalAfter, IsOnItsWay, MayFollow, MayRaise, call_after, call_from, call_of, call_then, given_to, greatest, made_by, raise_of, raised_by, value}
pub use Rattle.funnel.specs.Laws.{HasAsked, HasNoLoadMore, HoldsWhatWasAsked, IsAskedBelow, NeedsClimb, NoStepIsForged, OneHistory, RootHasGreatest}
pub use Rattle.funnel.specs.Making.{IsFounder, IsMadeOf}
pub use Rattle.funnel.specs.Plays.{Admits, FindsRoot, IsSound, Raised, Sat, admitted, looked, raised}
pub use Rattle.funnel.specs.Rule.{Agrees, AreLoads, AreOrdered, IsHolder, Kept, Owns, StandsFor, View, founder, loads_by, loads_of, maker_of, tree_client}
pub use Rattle.funnel.specs.Seats.{IsAtRest, IsPlaced, climb_from}
pub use Rattle.funnel.specs.Tree.{IsChild, IsLeast, IsOn, LeavesAreThere, leaf_of, node_at, nodes_of, parent, room, up, word_of}
pub use Rattle.funnel.specs.Views.{FunnelView}
pub use Rattle.funnel.specs.declared.seat.Level.{Level}
pub use Rattle.funnel.specs.declared.view.Call.{Call}
pub use Rattle.funnel.specs.declared.view.Holder.{Holder}
pub use Rattle.funnel.specs.declared.view.Load.{Load}
pub use Rattle.funnel.specs.declared.view.Raise.{Raise}
pub use Rattle.funnel.specs.declared.view.Shape.{Shape}
