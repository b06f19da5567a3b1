-- The state of a script: its domains, each with the names in use there, what lies on its desk, the list of each processor, its chain and its table; and its sets of cookies.
use Rattle.std.specs.Prelude.{◌≡◌, ◌≢◌, ℕ, Bool, false, if◌then◌else◌, List, [], ◌∷◌, Option, Some, None, map, position, option_map, option_and_then, slice_get, bytes_eq}
use Rattle.std.specs.Option.{option_map_or}
use Rattle.std.specs.List.{list_any}
use Rattle.std.specs.Map.{lookup}
use Rattle.atomic_table.specs.Seated.{TableId}
use Rattle.sseq.specs.declared.index.Index.{Index}
use Rattle.sections.specs.declared.limits.Limits.{Limits}
use Rattle.sections.specs.declared.writer.Standing.{Standing}
use Rattle.sections.specs.WriterViews.{WriterView}
use Rattle.notify.specs.declared.block.Block.{Block}
use Rattle.notify.specs.Chains.{ChainState}
use Rattle.plugs.specs.declared.rows.Row.{Row}
use Rattle.plugs.specs.Views.{TableState}
use Rattle.calls.specs.Lines.{Line}
use Rattle.solo.specs.Courses.{Course}
use Rattle.requests.specs.declared.scene.Kind.{Kind}
use Rattle.requests.specs.declared.scene.Kind.TheVariants as kind
use Rattle.requests.specs.Scenes.{SceneView}
use Rattle.names.specs.Bearers.{Bearer, kind_of}
use Rattle.names.specs.Parkings.{Parked, is_parked}

-- names, each with what has it. Their order means nothing
abbrev pub Names : Type 0
Names = List (List ℕ × Bearer)

-- the list of a processor: the jobs that wait there in order, each with its name, the cookie of its moment, and its mark; and how many are out, if some are
abbrev pub JobList : Type 0
JobList = Line (List ℕ)

-- how the slots of a cell stand, of which there are so many: `version` is current there, in the slot `current`
pub record Slots : Type 0 where
  pub count : ℕ
  pub version : ℕ
  pub current : ℕ
  pub standings : List Standing

-- the blocks of a chain in calling order, and the rows of a table by rising key, each with the slots of its cell
pub record ChainNow : Type 0 where
  pub blocks : List Block
  pub slots : Slots

pub record TableNow : Type 0 where
  pub rows : List Row
  pub slots : Slots

abbrev pub slots_of : WriterView → Slots
slots_of w = record { count = w.slots; version = w.version; current = w.current; standings = w.standings }

abbrev pub chain_now : ChainState → ChainNow
chain_now s = record { blocks = s.blocks; slots = slots_of s.writer }

abbrev pub table_now : TableState → TableNow
table_now s = record { rows = s.rows; slots = slots_of s.writer }

-- a domain: its name, the names in use there but that of the section on its desk, what lies on the desk, the list of each processor, the chain of its first cell and the table of its second one, and how far it has come
pub record DomainState : Type 0 where
  pub name : List ℕ
  pub names : Names
  pub desk : Option Parked
  pub lines : List JobList
  pub chain : ChainNow
  pub table : TableNow
  pub course : Course

-- the domains, in the order in which they were made
abbrev pub Domains : Type 0
Domains = List DomainState

-- a cookie of a set: the name of its domain, the processor on which it is asked after, its number, and whether it was found done
pub record Member : Type 0 where
  pub domain : List ℕ
  pub processor : ℕ
  pub cookie : ℕ
  pub found : Bool

pub record SetState : Type 0 where
  pub name : List ℕ
  pub members : List Member

-- a cookie of the set is of the domain of this name
abbrev pub has_cookie_of : List ℕ → SetState → Bool
has_cookie_of name set = list_any (λ m. bytes_eq m.domain name) set.members

-- the domains, and the sets, in the order in which they were made
pub record State : Type 0 where
  pub domains : Domains
  pub sets : List SetState

-- there is no domain and no set
abbrev pub nothing_yet : State
nothing_yet = record { domains = []; sets = [] }

-- the limits that hold for each domain of a script, and its state
pub record SessionView : Type 0 where
  pub limits : Limits
  pub state : State

-- `table` tells which cookies are of the domain
pub record EntryView : Type 0 where
  pub limits : Limits
  pub table : TableId
  pub state : DomainState

abbrev pub states_of : List EntryView → Domains
states_of entries = map (λ e. e.state) entries

-- it is the same domain, of as many processors
abbrev pub IsSameHome : EntryView → EntryView → Type 0
IsSameHome e e' = (e'.table ≡ e.table) × (e'.state.course.standing.processors ≡ e.state.course.standing.processors)

-- Names

-- what has this name
abbrev pub bearer_at : List ℕ → Names → Option Bearer
bearer_at name names = lookup (bytes_eq name) names

-- this has the name now (`None`: nothing has it), and every other name has what it had
pub record Becomes (name : List ℕ) (bearer : Option Bearer) (names names' : Names) : Type 0 where
  pub here : bearer_at name names' ≡ bearer
  pub others : (other : List ℕ) → other ≢ name → bearer_at other names' ≡ bearer_at other names

-- Places

-- the place of the domain of this name
unfoldable pub domain_place : List ℕ → Domains → Option ℕ
domain_place w domains = position (λ d. bytes_eq d.name w) domains

-- the place of the set of this name
abbrev pub set_place : List ℕ → List SetState → Option ℕ
set_place w sets = position (λ k. bytes_eq k.name w) sets

-- what has this name in a domain
abbrev pub kind_at : List ℕ → DomainState → Option Kind
kind_at name d = if is_parked name d.desk then Some kind.Parked else option_map kind_of (bearer_at name d.names)

-- what is there, of these domains and sets
abbrev pub scene_with : Domains → List SetState → SceneView
scene_with domains sets = record {
  place_of = λ w. domain_place w domains;
  set_of = λ w. set_place w sets;
  processors_of = λ place. option_map_or (λ d. d.course.standing.processors) (slice_get domains place) 0;
  kind_of = λ place name. option_and_then (λ d. kind_at name d) (slice_get domains place);
}

-- what is there when a line is read
abbrev pub scene_of : State → SceneView
scene_of state = scene_with state.domains state.sets

-- a scene with this domain alone
abbrev pub scene_alone : DomainState → SceneView
scene_alone d = scene_with (d ∷ []) []
