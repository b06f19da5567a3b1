use Rattle.std.proofs.Common.{rules}
use Rattle.sections.proofs.Banking.{free_nothing, free_section, free_shelf}
use Rattle.std.proofs.Common.{ap, ◌∙◌}
use Rattle.sections.specs.Rule.{hearing}
use Rattle.sections.proofs.Sharing.{shows, hears}
use Rattle.sections.proofs.Seating.{some_words, may_accept, accepts_from}
use Rattle.sections.proofs.cpu.steps.accept.Goals as goal

pub split_seat-token-requires : goal.split_seat-token-requires
split_seat-token-requires c = (c.requires.second.0.seated, some_words _ _ _ c.requires.second.0.wide, shows _ _ _)

pub join_seat-requires : goal.join_seat-requires
join_seat-requires c = (
  c.requires.first.0.seated,
  c.split_seat-token.ensures.3
      ∙ c.requires.second.0.seated,
  ap (λ m. m.1) c.split_seat-token.ensures.4,
  some_words _ _ _ c.requires.first.0.wide,
  hears _ _ _ _ _ (search (rules, free_nothing, free_section, free_shelf)) (search (rules, free_nothing, free_section, free_shelf)),
)

pub load-requires : goal.load-requires
load-requires c =
    let joined = ap (λ m. m.0) c.join_seat.ensures.2 ∙ ap (λ m. hearing c.args.first.now.me.0 m.0) c.split_seat-token.ensures.4 in (
      c.join_seat.ensures.0 ∙ c.requires.first.0.seated,
      some_words _ _ _ c.requires.first.0.wide,
      may_accept _ _ _ c.requires.role.0 c.args.first.now.me.0 c.args.second.now.me.0 _ joined c.requires.first.0.sized c.requires.second.0.sized c.requires.role.1 c.requires.first.1 c.requires.second.1 c.requires.covered.0 c.requires.covered.1,
    )

pub returns-clause-first : goal.returns-clause-first
returns-clause-first c =
    let joined = ap (λ m. m.0) c.join_seat.ensures.2 ∙ ap (λ m. hearing c.args.first.now.me.0 m.0) c.split_seat-token.ensures.4 in
    accepts_from c.load.result c.args.first.now.me.0 c.args.second.now.me.0 _ _ c.requires.first.1.told joined c.load.ensures.2.2 c.requires.covered.0

pub returns-clause-placed : goal.returns-clause-placed
returns-clause-placed c =
    let first = c.requires.first.0 in
    let joined = ap (λ m. m.0) c.join_seat.ensures.2 ∙ ap (λ m. hearing c.args.first.now.me.0 m.0) c.split_seat-token.ensures.4 in
    let accepts = accepts_from c.load.result c.args.first.now.me.0 c.args.second.now.me.0 _ _ c.requires.first.1.told joined c.load.ensures.2.2 c.requires.covered.0 in record {
      seated = c.load.ensures.0 ∙ (c.join_seat.ensures.0 ∙ first.seated);
      wide = first.wide;
      cells = first.cells;
      bare = c.load.ensures.2.0 ∙ (ap (λ m. m.1) c.join_seat.ensures.2 ∙ first.bare);
      sized = accepts.processors ∙ first.sized;
    }
