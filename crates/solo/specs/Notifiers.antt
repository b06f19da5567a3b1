-- How the fields of a chain with what reads there are seen.
use Rattle.std.specs.Prelude.{◌≡◌}
use Rattle.shelf.specs.Cells.{cell_of}
use Rattle.notify.specs.Chains.{ChainState}
use Rattle.solo.specs.declared.notifier.Notifier.TheInside as notifier

abbrev pub view_of_notifier : notifier.Inside → ChainState
view_of_notifier n = n.chain

-- what reads there is of the chain's cell
abbrev pub IsNotifier : notifier.Inside → Type 0
IsNotifier n = n.view ≡ record { place = cell_of n.chain.writer; ids = n.chain.ids }
