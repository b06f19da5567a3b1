-- How the fields of a loan are seen, and what is always true of them.
use Rattle.std.specs.Prelude.{◌≡◌, ◌+◌, ◌*◌, Bool, [], ◌∷◌, None}
use Rattle.sections.specs.declared.view.Right.TheVariants.{Section}
use Rattle.sections.specs.declared.cpu.borrowing.Loan.TheInside as loan
use Rattle.sections.specs.Words.{is_held}
use Rattle.sections.specs.Banks.{lent}
use Rattle.sections.specs.Insides.{section_of}
use Rattle.sections.specs.Calls.{EndsWithBegin}
use Rattle.sections.specs.Reads.{IsPinned}
use Rattle.sections.specs.Loans.{LoanView, offer_found}

module _ {K : Type 0} where
  abbrev pub view_of_loan : loan.Inside K → LoanView
  view_of_loan l = record {
    section = record { domain = l.seat.table_id; section = section_of l.seat.me.0.right; processor = l.processor; index = l.index; seen = l.seat.me.0.seen; changes = l.seat.me.0.changes };
    found = l.found;
  }

  pub record IsLoan (held : Bool) (l : loan.Inside K) : Type 0 where
    pub bare : l.seat.me.1 ≡ []
    pub right : l.seat.me.0.right ≡ Section (section_of l.seat.me.0.right) l.processor l.index (lent (section_of l.seat.me.0.right) (8 * l.found.cell + l.found.slot) (offer_found l.found).round ∷ []) None
    pub begun : EndsWithBegin (view_of_loan l).section
    pub kind : is_held (section_of l.seat.me.0.right) ≡ held
    pub pinned : IsPinned (view_of_loan l).section l.found
