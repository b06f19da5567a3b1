-- How the fields of a domain are seen, and what is always true of them.
use Rattle.std.specs.Prelude.{ℕ, List, [], ◌∷◌, Option, Some, None, map}
use Rattle.atomic_table.specs.Seated.{TableId}
use Rattle.sections.specs.declared.limits.Limits.{Limits}
use Rattle.funnel.specs.Histories.{greatest}
use Rattle.desk.specs.BayCalls.{lies}
use Rattle.scan.specs.Progress.{known_by}
use Rattle.calls.specs.declared.view.Deed.{Deed}
use Rattle.calls.specs.Lines.{Line, all_moved, line_in}
use Rattle.calls.specs.Tallies.{queued_in, finished_in}
use Rattle.domain.specs.Views.{DomainView, CpuView}
use Rattle.solo.specs.declared.solo.Solo.TheInside as solo
use Rattle.solo.specs.Calls.{SoloView, new_standing}
use Rattle.solo.specs.Settling.{View, HaveMet}
use Rattle.solo.specs.Shelf.{shelf_of, blank_shelf}

module _ {J : Type 0} where
  -- how many jobs each of these processors ever queued
  abbrev pub queued_on : List (CpuView J) → List ℕ
  queued_on cpus = map (λ c. queued_in c.calls.processor c.calls.seen) cpus

  -- and how many of these are finished
  abbrev pub finished_on : List (CpuView J) → List ℕ
  finished_on cpus = map (λ c. finished_in c.calls.processor c.calls.seen) cpus

  -- the same list, where all that came in is moved behind those that wait
  abbrev pub in_one : Line J → Line J
  in_one l = record { out = l.out; waiting = all_moved l.coming l.waiting; coming = [] }

  -- the list of a processor, where this was done: what was queued there and was not given out
  abbrev pub list_in : ℕ → List (Deed J) → Line J
  list_in p deeds = in_one (line_in p deeds)

  -- the list of each
  abbrev pub lines_on : List (CpuView J) → List (Line J)
  lines_on cpus = map (λ c. list_in c.calls.processor c.calls.seen) cpus

  -- with these tally words, this asked for, these calls, and this engine
  abbrev pub seen_as : TableId → Limits → ℕ → List ℕ → List ℕ → List (Line J) → View → SoloView J
  seen_as tallies limits asked queued finished lines v = record { table = v.seat.domain; limits = limits; tallies = tallies; course = record { standing = known_by v; asked = asked; queued = queued; finished = finished }; lines = lines; shelf = shelf_of v.seat.seen v.seat.texts }

  -- a domain without processors or engine, which there is none of
  abbrev pub nobody : DomainView → Limits → SoloView J
  nobody d limits = record { table = d.domain; limits = limits; tallies = d.tallies; course = record { standing = new_standing limits 0; asked = 0; queued = []; finished = [] }; lines = []; shelf = blank_shelf }

  abbrev pub seen_with : DomainView → Limits → ℕ → List ℕ → List ℕ → List (Line J) → Option View → SoloView J
  seen_with d limits asked queued finished lines None = nobody d limits
  seen_with d limits asked queued finished lines (Some v) = seen_as d.tallies limits asked queued finished lines v

  -- as the first processor knows it: what lies there, and what was asked for; and as each knows its own calls and list
  abbrev pub seen_first : DomainView → Limits → List (CpuView J) → SoloView J
  seen_first d limits [] = nobody d limits
  seen_first d limits (c ∷ cpus) = seen_with d limits (greatest c.needs.seen) (queued_on (c ∷ cpus)) (finished_on (c ∷ cpus)) (lines_on (c ∷ cpus)) (lies c.turn)

  module _ {A : Type 0} where
    abbrev pub view_of_solo : solo.Inside J A → SoloView J
    view_of_solo d = seen_first d.members.domain d.limits d.members.cpus.items

    pub record IsSolo (d : solo.Inside J A) : Type 0 where
      pub engine : View
      pub met : HaveMet d.members.domain d.limits d.members.cpus.items engine
