-- The keys before this place are laid.
use Rattle.std.proofs.Common.{◌≡◌, ◌+◌, ◌*◌, reverse}
use Rattle.std.specs.Vec.{vec_len}
use Rattle.vault.specs.Keys.{AreKeys}
use Rattle.boxes.proofs.Equipping.{Equipped}
use Rattle.boxes.proofs.making.lay_keys.Given as goal

abbrev pub invariant-loop-key : goal.invariant-loop-key
invariant-loop-key g l = record {
  laid : Equipped l.fn.vault l.place l.initial.writer l.writer;
  left : vec_len l.keys + l.place ≡ 8 * l.fn.processors;
  keys : AreKeys l.fn.vault l.place (reverse l.keys.items);
}

abbrev pub decreases-loop-key : goal.decreases-loop-key
decreases-loop-key g l = vec_len l.keys
