-- The processors were new ones of one domain.
use Rattle.std.proofs.Common.{◌≡◌, ℕ, ◌<◌, List, length, slice_index_or, ◌∙◌, subst, arith}
use Rattle.atomic_table.specs.Seated.{TableId}
use Rattle.sections.specs.Views.{CpuView}
use Rattle.sections.specs.Calls.{new_cpu, AreNew}
use Rattle.srcubench.specs.declared.pairs.Reader.{Reader}
use Rattle.srcubench.specs.Readers.{HasMadeAll, HaveMadeAll, AreReadersOfOne}
use Rattle.srcubench.proofs.trial.run.Goals as goal

readers_of_one : (threads pairs : ℕ) (domain : TableId) (cpus : List CpuView) (readers : List Reader) → length cpus ≡ threads → AreNew domain threads pairs cpus → HaveMadeAll pairs cpus readers → AreReadersOfOne threads pairs readers
readers_of_one threads pairs domain cpus readers count new made = record {
  domain = domain;
  count = made.count ∙ count;
  each = λ k r lt.
      let c : CpuView = new_cpu domain threads pairs k in
      let there : k < length cpus = omega (arith, lt, count) in
      subst (λ (v : CpuView). HasMadeAll pairs v (slice_index_or readers k r)) (new k c there) (made.each k c r there);
}

pub returns : goal.returns
returns g c =
    let made = c.in_ok-cpus.ensures.made in
    readers_of_one _ _ _ _ _ made.count made.cpus_new c.in_ok-readers.ensures
