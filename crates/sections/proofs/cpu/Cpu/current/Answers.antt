use Rattle.sections.proofs.Banking.{free_nothing, free_section, free_shelf}
use Rattle.std.proofs.Common.{rules}
use Rattle.sections.proofs.Sharing.{gives_token}
use Rattle.sections.proofs.cpu.Cpu.current.Goals as goal

pub split_seat-seat-requires : goal.split_seat-seat-requires
split_seat-seat-requires g c = (search rules, search rules, gives_token _ _ _ (search (rules, free_nothing, free_section, free_shelf)))
