-- The processor and the writer were new ones.
use Rattle.std.proofs.Common.{ap, ◌∙◌, arith}
use Rattle.std.proofs.lemmas.Result.{IfOk-weaker}
use Rattle.sections.specs.WriterViews.{WriterView}
use Rattle.srcubench.proofs.Drives.{was_some, was_last}
use Rattle.srcubench.proofs.Puts.{of_this, new_pen, have_put}
use Rattle.srcubench.proofs.putting.run.Goals as goal

pub unwrap-cpu-requires : goal.unwrap-cpu-requires
unwrap-cpu-requires g c =
    let count = c.in_ok-domain.ensures.made.count in
    let long = c.in_ok-domain.cpus.ok.0 in
    c.pop.ensures.variant.1 (omega (arith, count, long))

pub unwrap-writer-requires : goal.unwrap-writer-requires
unwrap-writer-requires g c =
    let count = c.in_ok-domain.ensures.writers.count in
    let long = c.in_ok-domain.writers.ok.0 in
    c.pop-2.ensures.variant.1 (omega (arith, count, long))

pub time_puts-requires-clause-here : goal.time_puts-requires-clause-here
time_puts-requires-clause-here g c =
    let some = was_some _ _ _ _ c.pop.ensures.items c.unwrap-cpu.ensures in
    of_this c.args.times c.in_ok-domain.domain _ c.unwrap-cpu.result c.in_ok-domain.ensures.made some (was_last _ _ _ _ c.pop.ensures.items c.unwrap-cpu.ensures) c.in_ok-domain.ensures.all

pub time_puts-requires-clause-shelf : goal.time_puts-requires-clause-shelf
time_puts-requires-clause-shelf g c =
    let pen = new_pen c.in_ok-domain.domain _ c.unwrap-writer.result c.in_ok-domain.ensures.writers (was_last _ _ _ _ c.pop-2.ensures.items c.unwrap-writer.ensures) in
    ap (λ (w : WriterView). w.domain) (c.shelve-shelf.ensures ∙ pen)

pub returns-clause-put : goal.returns-clause-put
returns-clause-put g c =
    let some = was_some _ _ _ _ c.pop.ensures.items c.unwrap-cpu.ensures in
    let pen = new_pen c.in_ok-domain.domain _ c.unwrap-writer.result c.in_ok-domain.ensures.writers (was_last _ _ _ _ c.pop-2.ensures.items c.unwrap-writer.ensures) in
    let have = have_put c.args.times c.in_ok-domain.domain _ c.unwrap-cpu.result c.in_ok-domain.ensures.made some (was_last _ _ _ _ c.pop.ensures.items c.unwrap-cpu.ensures) c.shelve-shelf.result c.time_puts.new.shelf c.time_puts.new.cpu (c.shelve-shelf.ensures ∙ pen) in
    IfOk-weaker c.time_puts.result _ _ (λ _ puts. have puts) c.time_puts.ensures.puts
