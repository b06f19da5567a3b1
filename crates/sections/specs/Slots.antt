-- What lies in the slots of a domain's table: keys to places of vaults.
use Rattle.atomic_table.specs.declared.badge.Badge.{Badge}
use Rattle.vault.specs.declared.key.Tally.{Tally}

abbrev pub Slot : Type 0
Slot = Badge Tally
