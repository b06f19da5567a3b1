-- The keys before this place were laid, and the others are left in their order.
use Rattle.std.proofs.Common.{◌≡◌, ◌+◌, ◌<◌, length}
use Rattle.vault.specs.Keys.{AreKeys}
use Rattle.sections.specs.Boxes.{vault_of}
use Rattle.sections_tests.proofs.tests.boxes.equip_all.Given as goal

abbrev pub invariant-loop-place : goal.invariant-loop-place
invariant-loop-place l = record {
  domain : l.writer.domain ≡ l.initial.writer.domain;
  cell : l.writer.cell ≡ l.initial.writer.cell;
  banks : l.writer.plan.banks ≡ l.initial.writer.plan.banks;
  laid : l.writer.plan.keys ≡ l.place;
  of : 0 < l.place → vault_of l.writer ≡ l.vault;
  rest : AreKeys l.vault l.place l.keys.items;
  count : l.place + length l.keys.items ≡ 16;
}
