-- The section began, and its last call found a version, loaded its words and ended it.
use Rattle.std.proofs.Common.{refl}
use Rattle.domain.specs.Views.{with_cpu}
use Rattle.domain.specs.Reading.{ReadsAndEnds}
use Rattle.domain.proofs.CallerLemmas.{begun_here, reads_and_ends}
use Rattle.shelf.proofs.values.Values.get.Goals as goal

pub returns-clause-reads : goal.returns-clause-reads
returns-clause-reads g c =
    let begins = c.in_ok-reading.ensures in
    let after = with_cpu c.words_and_unlock.new.self c.read_lock.new.self in
    let h : ReadsAndEnds c.args.self.now.cell c.in_ok-reading.reading c.words_and_unlock.result c.read_lock.new.self after =
    rw (← c.self.view_is) (reads_and_ends c.read_lock.new.self after refl (rw c.deref_mut.ensures.shows at c.words_and_unlock.ensures) (begun_here _ _ _ begins.locks).0) in record {
      reading = c.in_ok-reading.reading;
      begun = c.read_lock.new.self;
      locks = begins.locks;
      only = begins.rest;
      acts = begins.acts;
      behind = h.read;
      reads = record { found = h.found; between = h.at; finds = h.finds; pinned = h.pinned; only = h.only; loads = record { words = c.words_and_unlock.result; loads = h.loads; is = c.decode.ensures } };
      ends = h.ends;
      rest = h.rest;
      closes = h.closes;
    }
