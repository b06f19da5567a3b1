-- The section began, and its last call found the version, loaded its words and ended it. The plug was looked up in these.
use Rattle.std.proofs.Common.{false, refl}
use Rattle.domain.specs.Views.{with_cpu}
use Rattle.domain.specs.Reading.{ReadsAndEnds}
use Rattle.domain.proofs.CallerLemmas.{begun_here, reads_and_ends}
use Rattle.plugs.proofs.Fresh.{not_older_than_seen}
use Rattle.plugs.proofs.view.TableView.lookup.Goals as goal

pub returns-clause-looks_up : goal.returns-clause-looks_up
returns-clause-looks_up g c =
    let locks = c.in-Ok.ensures.locks in
    let after = with_cpu c.words_and_unlock-words.new.self c.read_lock.new.self in
    let h : ReadsAndEnds c.args.self.now.cell c.in-Ok.reading c.words_and_unlock-words.result c.read_lock.new.self after = rw (← c.self.view_is) (reads_and_ends c.read_lock.new.self after refl (rw c.deref_mut.ensures.shows at c.words_and_unlock-words.ensures) (begun_here _ _ _ locks).0) in record {
      reading = c.in-Ok.reading;
      begun = c.read_lock.new.self;
      locks = locks;
      acts = c.in-Ok.ensures.acts;
      rows = c.plug_in.ensures.rows;
      at = h.read;
      finds = record {
        found = h.found;
        at = h.at;
        finds = h.finds;
        acts = h.looks;
        loads = record { words = c.words_and_unlock-words.result; loads = h.loads; read = c.plug_in.ensures.read };
      };
      not_older = not_older_than_seen false c.args.self.now.cell _ _ _ c.in-Ok.reading h.found locks h.finds;
      ends = h.ends;
      closes = h.closes;
      plug_is = c.plug_in.ensures.plug_is;
    }
