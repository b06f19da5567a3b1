use Rattle.sections.proofs.Sharing.{shows}
use Rattle.sections.proofs.writer.dealing.home_of.Goals as goal

pub split_seat-seat-requires : goal.split_seat-seat-requires
split_seat-seat-requires c = (c.requires.0, c.requires.1, shows _ _ _)
