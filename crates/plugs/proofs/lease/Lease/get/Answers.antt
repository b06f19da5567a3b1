-- The words of the version were loaded, and the plug is that of the key in their rows.
use Rattle.std.proofs.Common.{refl}
use Rattle.domain.specs.Views.{with_cpu}
use Rattle.domain.proofs.CallerLemmas.{loads_all}
use Rattle.plugs.proofs.lease.Lease.get.Goals as goal

pub returns-clause-gets : goal.returns-clause-gets
returns-clause-gets g c = rw (← c.self.view_is) (record {
  rows = c.plug_in.ensures.rows;
  loads = record { words = c.words_held.result; loads = loads_all c.args.cpu.now (with_cpu c.words_held.new.self c.args.cpu.now) refl (rw c.deref_mut.ensures.shows at c.words_held.ensures.reads); read = c.plug_in.ensures.read };
  plug_is = c.plug_in.ensures.plug_is;
})

pub returns-clause-acts : goal.returns-clause-acts
returns-clause-acts g c = (loads_all c.args.cpu.now (with_cpu c.words_held.new.self c.args.cpu.now) refl (rw c.deref_mut.ensures.shows at c.words_held.ensures.reads)).acts
