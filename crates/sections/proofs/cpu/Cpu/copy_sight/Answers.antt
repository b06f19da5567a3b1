use Rattle.sections.proofs.Banking.{free_nothing, free_section, free_shelf}
use Rattle.std.proofs.Common.{rules, ◌≡◌}
use Rattle.sections.specs.Words.{word_count}
use Rattle.sections.proofs.Sharing.{gives_token}
use Rattle.sections.proofs.Seating.{some_words}
use Rattle.sections.proofs.cpu.Cpu.copy_sight.Goals as goal

pub split_seat-seat-requires : goal.split_seat-seat-requires
split_seat-seat-requires g c = let wide : c.deref.result.now.shared.table_id.words ≡ word_count c.deref.result.now.shared.key.processors c.deref.result.now.shared.key.cells = search rules in
    (search rules, some_words _ _ _ wide, gives_token _ _ _ (search (rules, free_nothing, free_section, free_shelf)))
