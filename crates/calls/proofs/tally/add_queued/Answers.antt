use Rattle.std.proofs.Common.{◌∙◌, arith}
use Rattle.calls.proofs.Steps.{queues_here}
use Rattle.calls.proofs.Seating.{queued_there}
use Rattle.calls.proofs.tally.add_queued.Goals as goal

pub fetch_add-requires : goal.fetch_add-requires
fetch_add-requires g c =
    let about = c.requires.calling.1 in
    let place = c.place_of_queued.ensures in
    let there = queued_there _ _ _ c.requires.placed.wide about.there in
    (c.requires.placed.seated, omega (arith, place, there), queues_here _ _ _ c.args.processor _ c.requires.calling.0 c.args.seat.now.me place about.who about.calling about.there c.requires.room)

pub returns-clause-queues : goal.returns-clause-queues
returns-clause-queues g c e about = let f = c.fetch_add.ensures in let q = f.2.1 c.args.processor e about.who about.calling in record {
  does = q.does;
  no_list = q.list;
  no_batch = q.batch ∙ about.no_batch;
  own = q.own;
}
