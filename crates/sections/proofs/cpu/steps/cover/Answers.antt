use Rattle.sections.proofs.Banking.{free_nothing}
use Rattle.std.proofs.Common.{ap, ◌∙◌, sym, subst}
use Rattle.sections.specs.Glossary.{Role, IsMaker, informed}
use Rattle.sections.proofs.Steps.{looks}
use Rattle.sections.proofs.Sharing.{gives_token, takes_token}
use Rattle.sections.proofs.Seating.{some_words, covers_from}
use Rattle.sections.proofs.cpu.steps.cover.Goals as goal

pub split_seat-token-requires : goal.split_seat-token-requires
split_seat-token-requires c = (c.requires.second.0, some_words _ _ _ c.requires.first.0.wide, gives_token _ _ _ (free_nothing _ c.requires.second.2))

pub join_seat-requires : goal.join_seat-requires
join_seat-requires c = (
  c.requires.first.0.seated,
  c.split_seat-token.ensures.3 ∙ c.requires.second.0,
  ap (λ m. m.1) c.split_seat-token.ensures.4,
  some_words _ _ _ c.requires.first.0.wide,
  takes_token _ _ _ _ _
      (free_nothing _ c.requires.first.1.free) (free_nothing _ (ap (λ m. m.0.right) c.split_seat-token.ensures.4 ∙ c.requires.second.2)),
)

pub load-requires : goal.load-requires
load-requires c = (
  c.join_seat.ensures.0 ∙ c.requires.first.0.seated,
  some_words _ _ _ c.requires.first.0.wide,
  looks _ _ _ _ c.requires.maker.0
      (subst (λ (z : Role). IsMaker z c.requires.maker.0) (sym (ap (λ m. m.0.role) c.join_seat.ensures.2)) c.requires.maker.1) (ap (λ m. m.0.processors) c.join_seat.ensures.2 ∙ c.requires.first.0.sized),
)

pub returns-clause-first : goal.returns-clause-first
returns-clause-first c =
    let joined = ap (λ m. m.0) c.join_seat.ensures.2 ∙ ap (λ m. informed c.args.first.now.me.0 m.0) c.split_seat-token.ensures.4 in
    covers_from c.load.result c.args.first.now.me.0 c.args.second.now.me.0 _ _ c.requires.second.2 joined c.load.ensures.2.1 c.load.ensures.2.2 c.load.ensures.2.4
