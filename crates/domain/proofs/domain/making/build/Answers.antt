use Rattle.std.proofs.Common.{refl, sym, ap, ◌∙◌, subst, arith}
use Rattle.atomic_table.specs.Seated.{TableId}
use Rattle.sections.specs.Glossary.{cells_in, AreNewWriters, EngineView}
use Rattle.domain.specs.Views.{Engine}
use Rattle.domain.proofs.Founding.{founded, all_of_new}
use Rattle.domain.proofs.domain.making.build.Goals as goal

pub returns-clause-made : goal.returns-clause-made
returns-clause-made g c = founded _ _ _ _ _ _ _ _ _ _ _ _ _ _ _ c.in-Ok.ensures.made c.in_ok-calls.ensures.same
    (ap (λ (z : Engine). z.seat.domain) c.new.ensures ∙ ap (λ (z : EngineView). z.domain) c.in_ok-calls.ensures.same) c.in_ok-needs.ensures.made c.into_tree.ensures c.new.ensures c.in_ok-station.ensures.station c.in_ok-station.ensures.seats c.in_ok-calls.ensures.made c.in_ok-cpus.ensures refl

pub returns-clause-all : goal.returns-clause-all
returns-clause-all g c = let some = c.requires.count.0 in all_of_new _ _ _ (omega (arith, some)) (returns-clause-made g c)

-- the callbacks are of the domain whose words were made
pub returns-clause-cells : goal.returns-clause-cells
returns-clause-cells g c = ap cells_in c.in_ok-calls.ensures.made.of_domain ∙ c.in-Ok.ensures.cells

pub returns-clause-writers : goal.returns-clause-writers
returns-clause-writers g c = subst (λ (t : TableId). AreNewWriters t c.args.limits.cells c.args.limits.slots c.in-Ok.field-0.writers.items) (sym c.in_ok-calls.ensures.made.of_domain) c.in-Ok.ensures.writers
