use Rattle.domain.proofs.Watchers.{notes_then, snapped, snapshot_tells}
use Rattle.domain.proofs.domain.Domain.snapshot.Goals as goal

pub returns-clause-snaps : goal.returns-clause-snaps
returns-clause-snaps g c = snapped _ c.args.cpu.now c.number-number.new.self c.look.new.self c.counters-zero.new.cpu c.counters-one.new.cpu c.need-need.new.cpu c.tally-calls.new.cpu c.look.result
    c.number-number.ensures.rest c.look.ensures.rest c.counters-zero.ensures.rest c.counters-one.ensures.rest c.need-need.ensures.need.rest c.tally-calls.ensures.rest
    c.number-number.ensures.notes c.look.ensures.looks c.index-index.ensures c.counters-zero.ensures.counts c.counters-one.ensures.counts c.need-need.ensures.need.load c.tally-calls.ensures.adds

pub returns-clause-acts : goal.returns-clause-acts
returns-clause-acts g c =
    let looked = notes_then _ _ _ _ c.number-number.ensures.acts c.look.ensures.acts in
    let zero_counted = notes_then _ _ _ _ looked c.counters-zero.ensures.acts in
    let one_counted = notes_then _ _ _ _ zero_counted c.counters-one.ensures.acts in
    let needed = notes_then _ _ _ _ one_counted c.need-need.ensures.acts in
    notes_then _ _ _ _ needed c.tally-calls.ensures.acts

pub returns-clause-tells : goal.returns-clause-tells
returns-clause-tells g c = snapshot_tells _ _ _ (returns-clause-snaps g c)
