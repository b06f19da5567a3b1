-- It began, looked and ended here.
use Rattle.std.proofs.Common.{inr, subst}
use Rattle.sections.specs.Views.{ReadingView}
use Rattle.sections.specs.Calls.{Unlocks}
use Rattle.srcubench.proofs.Finds.{here, still_here}
use Rattle.srcubench.proofs.finding.find_once.Goals as goal

pub words_and_unlock-requires-clause-here : goal.words_and_unlock-requires-clause-here
words_and_unlock-requires-clause-here g c = here c.args.cpu.now c.read_lock.new.self c.in_ok-reading.reading c.in_ok-reading.ensures

pub read_unlock-requires : goal.read_unlock-requires
read_unlock-requires g c = still_here c.args.words c.args.cpu.now c.read_lock.new.self c.look_up.new.cpu c.in_ok-reading.reading c.look_up.new.reading c.in_ok-reading.ensures c.look_up.ensures.looks c.look_up.ensures.reading

pub returns-then-words-eq16 : goal.returns-then-words-eq16
returns-then-words-eq16 g c = let h = c.words_and_unlock.ensures in record {
  reading = c.in_ok-reading.reading;
  begun = c.read_lock.new.self;
  looked = h.read;
  begins = c.in_ok-reading.ensures;
  looks = record { found = h.found; between = h.at; finds = h.finds; reads = inr (c.if-words-eq16.true, c.words_and_unlock.result, h.reads) };
  ends = h.ends;
}

pub returns : goal.returns
returns g c = record {
  reading = c.in_ok-reading.reading;
  begun = c.read_lock.new.self;
  looked = c.look_up.new.cpu;
  begins = c.in_ok-reading.ensures;
  looks = c.look_up.ensures.looks;
  ends = subst (λ (r : ReadingView). Unlocks r c.look_up.new.cpu c.read_unlock.new.self) c.look_up.ensures.reading c.read_unlock.ensures.ends;
}
