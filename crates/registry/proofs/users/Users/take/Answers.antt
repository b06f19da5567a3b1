-- A held section began, and found the key; or it found none, and ended.
use Rattle.std.proofs.Common.{List, refl, sym, ◌∙◌, subst}
use Rattle.sections.specs.Views.{ReadingView}
use Rattle.sections.specs.Calls.{Unlocks}
use Rattle.sections.specs.Loans.{CatchesUp}
use Rattle.domain.proofs.CallerLemmas.{none_looked}
use Rattle.boxes.specs.Boxes.{IsCellOf}
use Rattle.registry.specs.declared.index.Entry.{Entry}
use Rattle.registry.specs.Using.{HasAt, Lacks}
use Rattle.registry.proofs.Closing.{none_sought, none_taken}
use Rattle.registry.proofs.Staying.{cell_sought, cell_taken, cell_vain}
use Rattle.registry.proofs.users.Users.take.Goals as goal

pub returns-in-Some-clause-takes : goal.returns-in-Some-clause-takes
returns-in-Some-clause-takes g c = record {
  begun = c.down_read.new.self.cpu;
  section = c.in_ok-held.held;
  locks = c.in_ok-held.ensures.downs;
  finds = c.in-Ok.ensures.finds;
  has = subst (λ (xs : List (Entry _ _)). HasAt g.K.Ord.cmp xs c.args.key c.in-Some.place) c.get.ensures c.in-Some.ensures;
}

pub returns-in-None-clause-takes : goal.returns-in-None-clause-takes
returns-in-None-clause-takes g c =
    let finds = c.in-Ok.ensures.finds in
    let back = c.release-held.ensures in record {
      begun = c.down_read.new.self.cpu;
      section = c.in_ok-held.held;
      locks = c.in_ok-held.ensures.downs;
      released = c.release-held.new.cpu.cpu;
      finds = record {
        version = c.in-Ok.pin.found;
        found = c.find.new.cpu.cpu;
        finds = finds.finds;
        of = finds.of;
        round = c.terms.ensures.0;
        lacks = subst (λ (xs : List (Entry _ _)). Lacks g.K.Ord.cmp xs c.args.key) (c.get.ensures ∙ sym c.terms.ensures.1) c.in-None.ensures;
        catches = subst (λ (r : ReadingView). CatchesUp r c.in-Ok.pin.found c.find.new.cpu.cpu c.release-held.new.cpu.cpu) finds.section back.catches;
      };
      ends = subst (λ (r : ReadingView). Unlocks r c.release-held.new.cpu.cpu c.up_read.new.self.cpu) (back.section ∙ finds.section) c.up_read.ensures.ends;
    }

pub returns-in-Err-clause-takes : goal.returns-in-Err-clause-takes
returns-in-Err-clause-takes g c =
    let finds = c.in-Err.ensures.finds in record {
      begun = c.down_read.new.self.cpu;
      section = c.in_ok-held.held;
      locks = c.in_ok-held.ensures.downs;
      released = c.find.new.cpu.cpu;
      finds = record { section = refl; found = finds.found; finds = finds.finds; lacks = finds.lacks };
      ends = subst (λ (r : ReadingView). Unlocks r c.find.new.cpu.cpu c.up_read-in-Err.new.self.cpu) finds.section c.up_read-in-Err.ensures.ends;
    }

-- No reading was opened

pub returns-in-Some-clause-still_none : goal.returns-in-Some-clause-still_none
returns-in-Some-clause-still_none g c = none_taken g.K.Ord.cmp c.args.key c.args.self.now.boxes c.args.cpu.now c.find.new.cpu c.in-Ok.pin c.in-Some.place (returns-in-Some-clause-takes g c)

pub returns-in-None-clause-still_none : goal.returns-in-None-clause-still_none
returns-in-None-clause-still_none g c = none_sought g.K.Ord.cmp c.args.key c.args.self.now.boxes _ c.args.cpu.now c.up_read.new.self (returns-in-None-clause-takes g c)

pub returns-in-Err-clause-still_none : goal.returns-in-Err-clause-still_none
returns-in-Err-clause-still_none g c = none_sought g.K.Ord.cmp c.args.key c.args.self.now.boxes _ c.args.cpu.now c.up_read-in-Err.new.self (returns-in-Err-clause-takes g c)

pub returns-in_err-held-clause-still_none : goal.returns-in_err-held-clause-still_none
returns-in_err-held-clause-still_none g c = none_looked c.args.cpu.now c.down_read.new.self c.in_err-held.ensures.downs

-- The cell is still of its domain

pub returns-in-Some-clause-cell : goal.returns-in-Some-clause-cell
returns-in-Some-clause-cell g c =
    subst (IsCellOf c.find.new.cpu.cpu) (sym c.find.ensures.same)
    (cell_taken g.K.Ord.cmp c.args.key c.args.self.now.boxes c.args.cpu.now.cpu c.find.new.cpu.cpu c.in-Ok.pin c.in-Some.place (returns-in-Some-clause-takes g c) c.requires.cell)

pub returns-in-None-clause-cell : goal.returns-in-None-clause-cell
returns-in-None-clause-cell g c =
    subst (IsCellOf c.up_read.new.self.cpu) (sym c.find.ensures.same)
    (cell_sought g.K.Ord.cmp c.args.key c.args.self.now.boxes _ c.args.cpu.now.cpu c.up_read.new.self.cpu (returns-in-None-clause-takes g c) c.requires.cell)

pub returns-in-Err-clause-cell : goal.returns-in-Err-clause-cell
returns-in-Err-clause-cell g c =
    subst (IsCellOf c.up_read-in-Err.new.self.cpu) (sym c.find.ensures.same)
    (cell_sought g.K.Ord.cmp c.args.key c.args.self.now.boxes _ c.args.cpu.now.cpu c.up_read-in-Err.new.self.cpu (returns-in-Err-clause-takes g c) c.requires.cell)

pub returns-in_err-held-clause-cell : goal.returns-in_err-held-clause-cell
returns-in_err-held-clause-cell g c = cell_vain c.args.self.now.boxes c.args.cpu.now.cpu c.down_read.new.self.cpu c.in_err-held.ensures.downs c.requires.cell
