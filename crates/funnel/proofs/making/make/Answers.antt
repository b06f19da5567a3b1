use Rattle.std.proofs.lemmas.Result.{IfOk-weaker}
use Rattle.funnel.specs.Glossary.{Shape, AreOfProcessors, IsMadeOf}
use Rattle.funnel.proofs.Founding.{new_of_processors}
use Rattle.funnel.proofs.making.make.Goals as goal

pub returns-clause-seats : goal.returns-clause-seats
returns-clause-seats g c = let shape : Shape = record { processors = c.args.processors; nodes = c.nodes_for.result } in
    IfOk-weaker c.build.result (λ m. IsMadeOf shape m.0.items m.1) (λ m. AreOfProcessors m.0.items) (λ m made. new_of_processors m.1.domain shape m.0.items made.seats_new) c.build.ensures
