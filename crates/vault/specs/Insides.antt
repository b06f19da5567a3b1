-- How the fields of a vault are seen, and what is always true of them.
use Rattle.std.specs.Prelude.{◌≡◌}
use Rattle.atomic_table.specs.Seated.{TableId}
use Rattle.vault.specs.declared.vault.Vault.TheInside as vault

module _ {T A : Type 0} where
  abbrev pub view_of_vault : vault.Inside T A → TableId
  view_of_vault v = v.table.shared.table_id

  abbrev pub IsVault : vault.Inside T A → Type 0
  IsVault v = v.table.shared.table_id.words ≡ 16
