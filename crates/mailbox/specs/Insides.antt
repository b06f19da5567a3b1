-- How the fields of a mailbox are seen, and what is always true of them.
use Rattle.std.specs.Prelude.{◌≡◌}
use Rattle.mailbox.specs.declared.mailbox.Mailbox.TheInside as mailbox
use Rattle.mailbox.specs.Views.{MailboxView}

abbrev pub view_of_mailbox : {T K A : Type 0} → mailbox.Inside T K A → MailboxView K
view_of_mailbox m = record { place = m.table.shared.table_id; key = m.table.shared.key.key }

abbrev pub IsMailbox : {T K A : Type 0} → mailbox.Inside T K A → Type 0
IsMailbox m = (m.table.shared.table_id.words ≡ 1) × (m.table.shared.table_id.slots ≡ 1)
