-- The processors are new ones.
use Rattle.std.proofs.Common.{arith}
use Rattle.std.proofs.lemmas.List.Elements.{All-pop}
use Rattle.domain.specs.Views.{CpuView}
use Rattle.driver.specs.Pools.{IsIdle}
use Rattle.driver.proofs.CallerLemmas.{new_ones_are_idle, idle_ones_are_here}
use Rattle.soak.proofs.run.found.Goals as goal

pub returns : goal.returns
returns c =
    let P : CpuView _ → Type 0 = IsIdle c.in_ok-domain.domain in
    let last = All-pop P _ _ _ c.pop.ensures.items (new_ones_are_idle _ _ c.in_ok-domain.ensures.made) in
    let serving = All-pop P _ _ _ c.pop-2.ensures.items last.0 in
    let watching = All-pop P _ _ _ c.pop-3.ensures.items serving.0 in
    let at_updating : P c.unwrap-updating.result = rw c.unwrap-updating.ensures at last.1 in
    let at_serving : P c.unwrap-serving.result = rw c.unwrap-serving.ensures at serving.1 in
    let at_watching : P c.unwrap-watching.result = rw c.unwrap-watching.ensures at watching.1 in
    let count = c.in_ok-domain.ensures.made.count in
    let long = c.in_ok-domain.cpus.ok.0 in
    let ten = c.from-processors.ensures in
    let one = rw c.unwrap-updating.ensures at c.pop.ensures.len in
    let two = rw c.unwrap-serving.ensures at c.pop-2.ensures.len in
    let three = rw c.unwrap-watching.ensures at c.pop-3.ensures.len in record {
      cpus = (omega (arith, count, long, ten, one, two, three), idle_ones_are_here _ _ watching.0);
      driver = (at_serving, at_watching);
      updating = at_updating.here;
      cells = c.in_ok-domain.ensures.cells;
      writers = c.in_ok-domain.ensures.writers;
      stop = c.in_ok-stop.ensures;
    }
