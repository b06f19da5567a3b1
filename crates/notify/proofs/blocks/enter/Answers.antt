-- The block stands behind all that may precede it.
use Rattle.notify.proofs.Inserting.{entered, kept_entered}
use Rattle.notify.proofs.blocks.enter.Goals as goal

pub returns-clause-inserts : goal.returns-clause-inserts
returns-clause-inserts c = λ ids kept. let a = c.count_before-place.ensures in entered c.as_slice.result.now c.args.blocks.now.items c.insert.new.self.items c.args.block c.count_before-place.result c.as_slice.ensures.value c.insert.ensures.items a.within a.before a.next ids kept

pub returns-clause-kept : goal.returns-clause-kept
returns-clause-kept c = λ ids low fits kept. let a = c.count_before-place.ensures in
    kept_entered c.as_slice.result.now c.args.blocks.now.items c.insert.new.self.items c.args.block c.count_before-place.result c.as_slice.ensures.value c.insert.ensures.items a.within a.before a.next ids kept c.requires.new_id c.requires.few low fits
