-- Sections, from the lines that began them to those that ended them.
use Rattle.std.specs.Prelude.{ℕ, ◌==◌, ◌&&◌, ◌++◌, List, [], ◌∷◌, Option, Some, None, Bool, nat_eq, option_map, option_to_list, unwrap_or, bytes_eq, if◌then◌else◌}
use Rattle.indexmap.specs.IndexMap.{IndexMap, get}
use Rattle.account.specs.declared.deed.Deed.{Deed}
use Rattle.account.specs.declared.deed.Deed.TheVariants as deed
use Rattle.account.specs.declared.deed.Home.{Home}
use Rattle.account.specs.declared.deed.Row.{Row}
use Rattle.account.specs.declared.deed.Section.{Section}
use Rattle.account.specs.declared.span.End.{End}
use Rattle.account.specs.declared.span.Span.{Span}

-- where a line of this number, about this domain, ends the section: it frees the section's name in the section's domain
abbrev pub end_of_deed : Section → ℕ → Option Home → Deed → Option End
end_of_deed s number (Some home) (deed.Ends name processor) =
    if (home.made == s.home.made) && bytes_eq name s.name then Some (record { line = number; processor = unwrap_or processor s.processor }) else None
end_of_deed s number home other = None

abbrev pub end_by : Section → Row → Option End
end_by s row = end_of_deed s row.number row.home row.deed

abbrev pub first_end : Option End → Option End → Option End
first_end (Some end) later = Some end
first_end None later = later

-- where the first of these lines that ends the section ends it
abbrev pub end_in : List Row → Section → Option End
end_in [] s = None
end_in (row ∷ rest) s = first_end (end_by s row) (end_in rest s)

-- the domain and the name of two keys are the same
abbrev pub key_eq : ℕ × List ℕ → ℕ × List ℕ → Bool
key_eq x y = nat_eq x.0 y.0 && bytes_eq x.1 y.1

-- where the section ends, if a line of this number frees its name, on this processor or where it began
abbrev pub end_at : Section → ℕ × Option ℕ → End
end_at s line = record { line = line.0; processor = unwrap_or line.1 s.processor }

-- where the section ends by a map with the line that frees each name
abbrev pub found_in : {S : Type 0} → IndexMap (ℕ × List ℕ) (ℕ × Option ℕ) S → Section → Option End
found_in ends s = option_map (end_at s) (get key_eq ends (s.home.made, s.name))

-- the section that a line has begun, if it has
abbrev pub section_in : Deed → Option Section
section_in (deed.Begins s) = Some s
section_in other = None

-- a section that a line of this number has begun, by where sections end
abbrev pub span_from : (Section → Option End) → ℕ → Section → Span
span_from ends number s = record { section = s; begun = number; end = ends s }

-- the section that a line of this number has begun, if it has, by where sections end
abbrev pub begun_by : (Section → Option End) → ℕ → Deed → List Span
begun_by ends number did = option_to_list (option_map (span_from ends number) (section_in did))

-- the sections of a script: one for each line that began one, in their order. Each goes to the first of the lines after it that ends it
abbrev pub spans_of : List Row → List Span
spans_of [] = []
spans_of (row ∷ rest) = begun_by (end_in rest) row.number row.deed ++ spans_of rest
