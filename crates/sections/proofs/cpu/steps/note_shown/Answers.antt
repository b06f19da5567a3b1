use Rattle.std.proofs.Common.{rules}
use Rattle.sections.proofs.Banking.{free_nothing, free_section, free_shelf}
use Rattle.std.proofs.Common.{ap, ◌∙◌}
use Rattle.sections.specs.Rule.{noting, shower}
use Rattle.sections.proofs.Sharing.{shows, notes}
use Rattle.sections.proofs.Seating.{some_words, keeps_right}
use Rattle.sections.proofs.cpu.steps.note_shown.Goals as goal

pub split_seat-token-requires : goal.split_seat-token-requires
split_seat-token-requires c = (c.requires.second.seated, some_words _ _ _ c.requires.second.wide, shows _ _ _)

pub join_seat-requires : goal.join_seat-requires
join_seat-requires c = (
  c.requires.first.0.seated,
  c.split_seat-token.ensures.3
      ∙ c.requires.second.seated,
  ap (λ m. m.1) c.split_seat-token.ensures.4,
  some_words _ _ _ c.requires.first.0.wide,
  notes _ _ _ _ _ (search (rules, free_nothing, free_section, free_shelf)) (search (rules, free_nothing, free_section, free_shelf)),
)

pub returns-clause-first : goal.returns-clause-first
returns-clause-first c = record {
  table = c.join_seat.ensures.0;
  me = c.join_seat.ensures.2 ∙ ((λ k. (noting c.args.first.now.me.0 (c.split_seat-token.ensures.4 k).0, c.requires.first.0.bare k)) ∙ keeps_right c.args.first.now.me.0 (shower c.args.second.now.me.0) c.requires.first.1);
}
