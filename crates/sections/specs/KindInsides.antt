-- How the fields of a section of either kind are seen, and what is always true of them.
use Rattle.std.specs.Prelude.{◌≡◌, Bool, [], None}
use Rattle.sections.specs.declared.view.Right.TheVariants.{Section}
use Rattle.sections.specs.declared.cpu.kinds.Section.TheInside as section
use Rattle.sections.specs.declared.cpu.pins.SectionPin.TheInside as pin
use Rattle.sections.specs.Words.{is_held}
use Rattle.sections.specs.Insides.{section_of}
use Rattle.sections.specs.Calls.{EndsWithBegin}
use Rattle.sections.specs.Reads.{IsPinned}
use Rattle.sections.specs.Views.{ReadingView}
use Rattle.sections.specs.Loans.{LoanView}

module _ {K : Type 0} where
  abbrev pub view_of_section : section.Inside K → ReadingView
  view_of_section r = record { domain = r.seat.table_id; section = section_of r.seat.me.0.right; processor = r.processor; index = r.index; seen = r.seat.me.0.seen; changes = r.seat.me.0.changes }

  pub record IsSection (held : Bool) (r : section.Inside K) : Type 0 where
    pub bare : r.seat.me.1 ≡ []
    pub right : r.seat.me.0.right ≡ Section (section_of r.seat.me.0.right) r.processor r.index [] None
    pub begun : EndsWithBegin (view_of_section r)
    pub kind : is_held (section_of r.seat.me.0.right) ≡ held

  abbrev pub view_of_section_pin : pin.Inside K → LoanView
  view_of_section_pin p = record { section = p.section; found = p.found }

  abbrev pub IsSectionPin : pin.Inside K → Type 0
  IsSectionPin p = IsPinned p.section p.found
