use Rattle.sections.proofs.Banking.{free_nothing, free_section, free_shelf}
use Rattle.std.proofs.Common.{rules, ◌≡◌, ap}
use Rattle.sections.specs.Words.{word_count}
use Rattle.sections.proofs.Sharing.{deals}
use Rattle.sections.proofs.Seating.{some_words}
use Rattle.sections.proofs.making.deal.Goals as goal

pub split_seat-dealt-requires : goal.split_seat-dealt-requires
split_seat-dealt-requires g c =
    let wide : c.deref.result.now.shared.table_id.words ≡ word_count c.args.bounds.processors c.args.bounds.cells = search rules in
    (search rules, some_words _ _ _ wide, deals _ _ _ _ (ap (λ m. m.0.role) c.requires.next.me) (search (rules, free_nothing, free_section, free_shelf)))
