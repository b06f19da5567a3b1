-- The table was full in between.
use Rattle.srcubench.proofs.installing.time_installs.Goals as goal

pub returns-clause-installs : goal.returns-clause-installs
returns-clause-installs g c = record {
  table = c.fill.new.table;
  cpu = c.fill.new.cpu;
  fills = c.in_ok-fill.ensures.fills;
  installs = c.in_ok-install_often.ensures;
}
