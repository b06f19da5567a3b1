-- The words of the rows so far are stored, and those behind are zeros.
use Rattle.std.proofs.Common.{◌≡◌, ℕ, ◌+◌, ◌<◌, ◌≤◌, length, get_or}
use Rattle.plugs.specs.declared.rows.Row.{Row}
use Rattle.plugs.specs.Tables.{row_word}
use Rattle.plugs.proofs.rows.Rows.text.Given as goal

abbrev pub invariant-loop-place : goal.invariant-loop-place
invariant-loop-place l = record {
  long : length l.words ≡ 16;
  count : get_or l.words 0 0 ≡ length l.rows;
  stored : (i : ℕ) (d : Row) → i < l.place → get_or l.words (i + 1) 0 ≡ row_word (get_or l.rows i d);
  zeros : (i : ℕ) → l.place ≤ i → i < 15 → get_or l.words (i + 1) 0 ≡ 0;
}
