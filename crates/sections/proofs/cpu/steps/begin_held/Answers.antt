use Rattle.sections.specs.Glossary.{hand_in, lacking}
use Rattle.sections.proofs.Banking.{free_section}
use Rattle.std.proofs.Common.{ap, ◌∙◌}
use Rattle.sections.proofs.Agreement.{lock_there}
use Rattle.sections.proofs.Steps.{begins_here}
use Rattle.sections.proofs.Sharing.{gives_token}
use Rattle.sections.proofs.Seating.{some_words}
use Rattle.sections.proofs.cpu.steps.begin_held.Goals as goal

pub fetch_add-requires : goal.fetch_add-requires
fetch_add-requires c = (
  c.requires.placed.seated,
  rw (c.place_of_lock.ensures, c.requires.placed.wide) (lock_there _ _ _ _ c.requires.there),
  begins_here _ _ _ _ _ _ c.args.processor c.args.index c.requires.placed.sized c.requires.role c.requires.there c.place_of_lock.ensures c.requires.room (ap hand_in c.requires.free),
)

pub split_seat-requires : goal.split_seat-requires
split_seat-requires c = (c.fetch_add.ensures.0 ∙ c.requires.placed.seated, some_words _ _ _ c.requires.placed.wide, gives_token _ _ _ (free_section _ _ _ _ _ (c.fetch_add.ensures.2.1 c.args.processor c.args.index c.requires.role c.place_of_lock.ensures).2))

pub returns : goal.returns
returns c = let told = c.fetch_add.ensures.2.1 c.args.processor c.args.index c.requires.role c.place_of_lock.ensures in
    let bare = c.fetch_add.ensures.2.0 ∙ c.requires.placed.bare in record {
      section = told.0;
      after = c.fetch_add.new.seat.me.0;
      adds = told.1;
      right = told.2;
      kind = told.3;
      same_table = (c.split_seat.ensures.0 ∙ c.fetch_add.ensures.0, c.split_seat.ensures.3 ∙ c.fetch_add.ensures.0);
      stays = c.split_seat.ensures.2 ∙ ap (λ x. (lacking c.fetch_add.new.seat.me.0, x)) bare;
      given = c.split_seat.ensures.4;
    }
