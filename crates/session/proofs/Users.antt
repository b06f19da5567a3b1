-- The chain and the table of a domain, as the domain goes on.
use Rattle.std.proofs.Common.{◌≡◌, ℕ, List, sym, ap, ◌∙◌, subst, arith}
use Rattle.sections.specs.Words.{cells_in}
use Rattle.notify.specs.Blocks.{IsTextOf}
use Rattle.notify.specs.Chains.{ChainState}
use Rattle.plugs.specs.Tables.{text_of}
use Rattle.plugs.specs.Views.{TableState}
use Rattle.solo.specs.Calls.{SoloView, HasSameTables}
use Rattle.solo.specs.Shelf.{Shelf, in_cell}
use Rattle.session.specs.Entries.{AreUsers}

-- what is current is as it was
pub users_on : (d d' : SoloView (List ℕ)) (s : ChainState) (b : TableState) → HasSameTables d d' → AreUsers d s b → AreUsers d' s b
users_on d d' s b same h =
    let (table, limits, processors, periods, tallies, shelf) = same in
    let cells = ap cells_in table in record {
      chain = record {
        here = h.chain.here ∙ sym table;
        cell = (let low = h.chain.cell.0 in omega (arith, low, cells), h.chain.cell.1);
        small = h.chain.small;
        text = subst (λ (x : Shelf). IsTextOf s.ids (in_cell s.writer.cell x) s.blocks) (sym shelf) h.chain.text;
      };
      first = h.first;
      ids = h.ids;
      table = record {
        here = h.table.here ∙ sym table;
        cell = (let low = h.table.cell.0 in omega (arith, low, cells), h.table.cell.1);
        table = h.table.table;
        text = subst (λ (x : Shelf). in_cell b.writer.cell x ≡ text_of b.rows) (sym shelf) h.table.text;
      };
      second = h.second;
    }
