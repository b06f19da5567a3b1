-- So many keys are dealt.
use Rattle.std.proofs.Common.{◌≡◌, [], length}
use Rattle.vault.specs.Rule.{dealer}
use Rattle.vault.specs.Keys.{AreKeys}
use Rattle.vault.proofs.vault.Vault.deal.Given as goal

abbrev pub invariant-loop : goal.invariant-loop
invariant-loop g l = record {
  count : length l.keys.items ≡ l.counter;
  keys : AreKeys l.self 0 l.keys.items;
  view : l.rest.me ≡ (record (dealer l.places) { count = l.counter }, []);
  table : l.rest.table_id ≡ l.self;
}
