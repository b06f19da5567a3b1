-- So many handlers were called, and the last one answered OK.
use Rattle.srcubench.proofs.Chained.{all_called}
use Rattle.srcubench.proofs.notifying.call_once.Goals as goal

pub returns-then-count-blocks : goal.returns-then-count-blocks
returns-then-count-blocks g c = all_called _ c.args.handlers.now c.args.blocks c.args.view.now c.args.cpu.now c.call_chain.new.cpu c.in_ok-last.last c.in_ok-last.count c.if-last-eq-OK.true c.if-count-blocks.true c.in_ok-last.ensures.calls
