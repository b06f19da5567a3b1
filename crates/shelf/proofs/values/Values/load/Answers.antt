-- All words of the version were loaded.
use Rattle.std.proofs.Common.{refl}
use Rattle.domain.specs.Views.{with_cpu}
use Rattle.domain.proofs.CallerLemmas.{loads_all}
use Rattle.shelf.proofs.values.Values.load.Goals as goal

pub returns-clause-loads : goal.returns-clause-loads
returns-clause-loads g c = record {
  words = c.words.result;
  loads = loads_all c.args.cpu.now (with_cpu c.words.new.self c.args.cpu.now) refl (rw c.deref_mut.ensures.shows at c.words.ensures.reads);
  is = c.decode.ensures;
}
