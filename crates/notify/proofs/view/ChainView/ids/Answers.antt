-- The section began, and its last call found the words of one version and ended it; the ids of their blocks are told.
use Rattle.std.proofs.Common.{map, sym}
use Rattle.std.proofs.lemmas.List.{length-map}
use Rattle.notify.specs.Blocks.{block_at}
use Rattle.notify.proofs.Reading.{reads_once}
use Rattle.notify.proofs.view.ChainView.ids.Goals as goal

pub returns-clause-lists : goal.returns-clause-lists
returns-clause-lists g c = record {
  blocks = map block_at c.read-used.result.now;
  reads = reads_once c.args.self.now c.in_ok-reading.reading c.args.cpu.now c.read_lock.new.self c.words_and_unlock-words.new.self c.words_and_unlock-words.result (map block_at c.read-used.result.now) c.in_ok-reading.ensures.locks c.in_ok-reading.ensures.rest c.in_ok-reading.ensures.acts
      (rw (← c.self.view_is) (rw c.deref_mut.ensures.shows at c.words_and_unlock-words.ensures)) (rw (← c.self.view_is) c.read-used.ensures);
  ids_are = c.ids.ensures;
  count_is = sym (length-map c.read-used.result.now block_at);
}
