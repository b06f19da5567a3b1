-- What a caller knows of a mailbox.
use Rattle.atomic_table.specs.Seated.{TableId}

-- which place it is, and the key that what lies there fits
pub record MailboxView (K : Type 0) : Type 0 where
  pub place : TableId
  pub key : K
