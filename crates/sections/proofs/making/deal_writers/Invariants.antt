-- The writers so far are dealt, in order.
use Rattle.sections.specs.Glossary.{DealsCells, AreNewWriters}
use Rattle.sections.proofs.making.deal_writers.Given as goal

abbrev pub invariant-loop-cell : goal.invariant-loop-cell
invariant-loop-cell g l = record {
  seat : DealsCells l.fn.bounds l.table.shared.key l.table.shared.table_id l.cell l.seat;
  writers : AreNewWriters l.table.shared.table_id l.cell l.fn.slots l.writers.items;
}
