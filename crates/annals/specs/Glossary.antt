-- The words of `annals`, for files that cite them.
pub use Rattle.annals.specs.Client.{Client, StandsFor}
pub use Rattle.annals.specs.Forged.{HasNoMore, MayDo, MayGoOn, NoDeedIsForged, NoEntryIsForged, Scene}
pub use Rattle.annals.specs.Logs.{IsBeginning, Maker, made_by, same_maker}
pub use Rattle.annals.specs.Logs.Maker.{Head, Sitter}
pub use Rattle.annals.specs.Plays.{Admits, FindsAll, IsAt, MadeNone, Sat}
pub use Rattle.annals.specs.Rule.{Fits, Kept, bearer, dealer, dealt, founder, informed, next, number_of, spent, without_next}
pub use Rattle.annals.specs.declared.view.Role.{Role}
pub use Rattle.annals.specs.declared.view.View.{View}
