-- One call more.
use Rattle.srcubench.proofs.AllAsked.{one_ask, still_seat}
use Rattle.srcubench.proofs.asking.make_asks.Goals as goal

pub loop-asked-preserved : goal.loop-asked-preserved
loop-asked-preserved g c = record {
  calls = one_ask c.args.new c.loop-asked.asked c.number_asked.result c.args.needs.now c.loop-asked.needs c.ask.new.self c.ask.result c.number_asked.ensures c.loop-asked.invariant.calls c.ask.ensures.asks;
  seat = still_seat c.number_asked.result c.loop-asked.needs c.ask.new.self c.ask.result c.ask.ensures.asks c.loop-asked.invariant.seat;
}
