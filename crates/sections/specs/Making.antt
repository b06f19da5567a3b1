-- What a new domain is.
use Rattle.std.specs.Prelude.{◌≡◌, ℕ, ◌≤◌, List, [], length, Result, MatchResult}
use Rattle.atomic_table.specs.Seated.{TableId}
use Rattle.sections.specs.declared.view.Bounds.{Bounds}
use Rattle.sections.specs.declared.limits.Limits.{Limits}
use Rattle.sections.specs.declared.limits.MakeError.{MakeError}
use Rattle.sections.specs.declared.limits.MakeError.TheVariants as refused
use Rattle.sections.specs.declared.view.Role.TheVariants.{Driver}
use Rattle.sections.specs.declared.view.Right.TheVariants.{Nothing, Undealt}
use Rattle.sections.specs.Limits.{AreInRange, most_processors}
use Rattle.sections.specs.Words.{word_count}
use Rattle.sections.specs.Rule.{AreSmall, founder}
use Rattle.sections.specs.Seats.{DomainSeat}
use Rattle.sections.specs.Views.{CpuView, EngineView}
use Rattle.sections.specs.Calls.{AreNew}
use Rattle.sections.specs.EngineCalls.{new_engine}

-- a domain may have so many processors
abbrev pub IsCount : ℕ → Type 0
IsCount processors = (1 ≤ processors) × (processors ≤ most_processors)

-- in a domain of these bounds no counter comes near 2 ^ 64
pub record IsSmall (bounds : Bounds) : Type 0 where
  pub some : 1 ≤ bounds.processors
  pub processors : bounds.processors ≤ most_processors
  pub words : AreSmall bounds
  pub cells : bounds.cells ≤ 4

-- the seat is the engine's and that of the processors from k on, and nothing has happened
pub record IsFounder (bounds key : Bounds) (table : TableId) (k : ℕ) (seat : DomainSeat) : Type 0 where
  pub key_is : key ≡ bounds
  pub wide : table.words ≡ word_count bounds.processors bounds.cells
  pub seated : seat.table_id ≡ table
  pub me : seat.me ≡ (record (founder bounds) { role = Driver k; right = Nothing }, [])

-- and of all cells from c on
pub record DealsCells (bounds key : Bounds) (table : TableId) (c : ℕ) (seat : DomainSeat) : Type 0 where
  pub key_is : key ≡ bounds
  pub wide : table.words ≡ word_count bounds.processors bounds.cells
  pub seated : seat.table_id ≡ table
  pub me : seat.me ≡ (record (founder bounds) { right = Undealt c }, [])

abbrev pub NewTable : Bounds → Bounds → TableId → DomainSeat → Type 0
NewTable bounds key table seat = DealsCells bounds key table 0 seat

abbrev pub bounds_of : ℕ → Limits → Bounds
bounds_of processors limits = record { processors = processors; sections = limits.sections; periods = limits.periods; cells = limits.cells }

-- the processors in order, and the engine's seat, all knowing of nothing yet
pub record IsMade (bounds : Bounds) (cpus : List CpuView) (engine : EngineView) : Type 0 where
  pub count : length cpus ≡ bounds.processors
  pub cpus_new : AreNew engine.domain bounds.processors bounds.sections cpus
  pub engine_new : engine ≡ new_engine engine.domain bounds.processors bounds.periods

-- a refusal holds, and none before it
abbrev pub IsRefusal : ℕ → Limits → MakeError → Type 0
IsRefusal processors limits refused.Processors = ¬ IsCount processors
IsRefusal processors limits refused.Limits = IsCount processors × ¬ AreInRange limits
IsRefusal processors limits refused.Memory = IsCount processors × AreInRange limits

-- it is made only where nothing is to be refused
abbrev pub IsRefused : {M : Type 0} → ℕ → Limits → Result M MakeError → Type 0
IsRefused processors limits result = MatchResult result (λ _. IsCount processors × AreInRange limits) (λ error. IsRefusal processors limits error)
