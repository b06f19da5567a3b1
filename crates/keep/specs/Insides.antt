-- How the fields of a lock and of a loan are seen, and what is always true of them.
use Rattle.std.specs.Prelude.{◌≡◌}
use Rattle.atomic_table.specs.Seated.{TableId}
use Rattle.keep.specs.declared.keep.Keep.TheInside as keep
use Rattle.keep.specs.declared.keep.Loan.TheInside as loan
use Rattle.keep.specs.Views.{KeepView}
use Rattle.keep.specs.Guarding.{word_count, HasOnly}

abbrev pub view_of_keep : {T K A : Type 0} → keep.Inside T K A → KeepView K
view_of_keep k = record { lock = k.table.shared.table_id; key = k.table.shared.key }

abbrev pub IsKeep : {T K A : Type 0} → keep.Inside T K A → Type 0
IsKeep k = (k.table.shared.table_id.words ≡ word_count) × (k.table.shared.table_id.slots ≡ 1)

abbrev pub view_of_loan : {T K : Type 0} → loan.Inside T K → TableId
view_of_loan l = l.seat.table_id

abbrev pub IsLoan : {T K : Type 0} → loan.Inside T K → Type 0
IsLoan l = HasOnly l.seat.me
