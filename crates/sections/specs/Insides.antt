-- How the fields of a processor, of the engine's seat and of what they give out are seen, and what is always true of them.
use Rattle.std.specs.Prelude.{◌≡◌, ℕ, ◌+◌, ◌*◌, ◌%◌, ◌^◌, ◌<◌, ◌≤◌, true, false, List, [], length, slice_index, Option, None, Some}
use Rattle.atomic_table.specs.Seated.{TableId}
use Rattle.std.specs.Arc.{arc_value}
use Rattle.sseq.specs.declared.index.Index.{Index}
use Rattle.sseq.specs.Indexes.{index_number}
use Rattle.onedom.specs.declared.event.Maker.TheVariants.{Processor, Engine}
use Rattle.sections.specs.declared.view.View.{View}
use Rattle.sections.specs.declared.view.Right.{Right}
use Rattle.sections.specs.declared.view.Right.TheVariants.{Nothing, Section, Shelf, Undealt}
use Rattle.sections.specs.declared.view.Role.TheVariants.{Cpu, Driver}
use Rattle.sections.specs.declared.cpu.Cpu.TheInside as cpu
use Rattle.sections.specs.declared.cpu.Look.TheInside as look
use Rattle.sections.specs.declared.cpu.Cookie.TheInside as cookie
use Rattle.sections.specs.declared.cpu.Given.TheInside as given
use Rattle.sections.specs.declared.engine.EngineSeat.TheInside as engine
use Rattle.sections.specs.Words.{is_held, open_readings, locks, number_word}
use Rattle.sections.specs.Rule.{steps_of, token}
use Rattle.onedom.specs.declared.event.Event.{Event}
use Rattle.sections.specs.Seats.{DomainSeat, IsPlaced}
use Rattle.sections.specs.Plays.{IsSound}
use Rattle.sections.specs.Calls.{EndsWithBegin, EndsWithNote}
use Rattle.sections.specs.Views.{CpuView, EngineView, LookView, ReadingView, CookieView, no_domain}

abbrev pub section_of : Right → ℕ
section_of Nothing = 0
section_of (Section s p i us hand) = s
section_of (Shelf c words seen q) = 0
section_of (Undealt c) = 0

-- a seat between two calls: it has no right of its own, all that it was told is seen, and what it has seen is sound
pub record IsAtRest (v : View) : Type 0 where
  pub free : v.right ≡ Nothing
  pub told : v.told ≡ []
  pub sound : IsSound v.processors v.role v.mine v.seen v.changes v.texts

abbrev pub view_of_look : look.Inside → LookView
view_of_look l = record { domain = l.seat.table_id; index = l.index; seen = l.seat.me.0.seen; changes = l.seat.me.0.changes }

pub record IsLook (l : look.Inside) : Type 0 where
  pub bare : l.seat.me.1 ≡ []
  pub plain : l.seat.me.0 ≡ token l.seat.me.0.seen l.seat.me.0.changes l.seat.me.0.texts Nothing

-- what a cookie's seat tells. The completed one has none
abbrev pub domain_of : Option DomainSeat → TableId
domain_of None = no_domain
domain_of (Some s) = s.table_id

abbrev pub seen_of : Option DomainSeat → List Event
seen_of None = []
seen_of (Some s) = s.me.0.seen

abbrev pub changes_of : Option DomainSeat → ℕ
changes_of None = 0
changes_of (Some s) = s.me.0.changes

abbrev pub cookie_with : ℕ → Option DomainSeat → CookieView
cookie_with number seat = record { domain = domain_of seat; number = number; seen = seen_of seat; changes = changes_of seat }

abbrev pub view_of_cookie : cookie.Inside → CookieView
view_of_cookie k = cookie_with k.number k.seat

pub record IsGiven (number : ℕ) (s : DomainSeat) : Type 0 where
  pub bare : s.me.1 ≡ []
  pub plain : s.me.0 ≡ token s.me.0.seen s.me.0.changes s.me.0.texts Nothing
  pub given : EndsWithNote number s.me.0.seen
  pub whole : number % 4 ≡ 0
  pub small : number ≤ 2 ^ 61

abbrev pub IsCookieAt : ℕ → Option DomainSeat → Type 0
IsCookieAt number None = number ≡ 1
IsCookieAt number (Some s) = IsGiven number s

abbrev pub IsCookie : cookie.Inside → Type 0
IsCookie k = IsCookieAt k.number k.seat

abbrev pub view_of_given : given.Inside → CookieView
view_of_given k = cookie_with k.number (Some k.seat)

abbrev pub is_given : given.Inside → Type 0
is_given k = IsGiven k.number k.seat

module _ {A : Type 0} where
  abbrev pub view_of_cpu : cpu.Inside A → CpuView
  view_of_cpu c = record {
    domain = c.seat.table_id;
    processors = (arc_value c.table).shared.key.processors;
    sections = c.limit;
    processor = c.processor;
    seen = c.seat.me.0.seen;
    changes = c.seat.me.0.changes;
    texts = c.seat.me.0.texts;
    mine = c.seat.me.0.mine;
    steps = steps_of (Processor c.processor) c.seat.me.0.done;
    left = c.seat.me.0.left;
  }

  pub record IsCpu (c : cpu.Inside A) : Type 0 where
    pub placed : IsPlaced (arc_value c.table).shared.key (arc_value c.table).shared.table_id c.seat
    pub rests : IsAtRest c.seat.me.0
    pub role : c.seat.me.0.role ≡ Cpu c.processor
    pub there : c.processor < (arc_value c.table).shared.key.processors
    pub limit : c.limit ≡ (arc_value c.table).shared.key.sections
    pub begun : (i : Index) → slice_index c.begun (index_number i) ≡ locks c.processor i c.seat.me.0.mine
    pub limited : (i : Index) → slice_index c.begun (index_number i) ≤ c.limit
    pub small : c.limit < 2 ^ 62
    pub settled : slice_index c.begun 0 + slice_index c.begun 1 ≡ length (open_readings c.seat.me.0.mine) + c.settled

  abbrev pub view_of_engine : engine.Inside A → EngineView
  view_of_engine e = record {
    domain = e.seat.table_id;
    processors = (arc_value e.table).shared.key.processors;
    periods = e.periods;
    seen = e.seat.me.0.seen;
    changes = e.seat.me.0.changes;
    texts = e.seat.me.0.texts;
    shown = e.seat.me.0.shown;
    mine = e.seat.me.0.mine;
    steps = steps_of Engine e.seat.me.0.done;
  }

  pub record IsEngine (e : engine.Inside A) : Type 0 where
    pub placed : IsPlaced (arc_value e.table).shared.key (arc_value e.table).shared.table_id e.seat
    pub rests : IsAtRest e.seat.me.0
    pub role : e.seat.me.0.role ≡ Driver (arc_value e.table).shared.key.processors
    pub processors : e.processors ≡ (arc_value e.table).shared.key.processors
    pub some : 1 ≤ e.processors
    pub number : e.number ≡ number_word e.seat.me.0.changes
    pub periods : e.periods ≡ (arc_value e.table).shared.key.periods
    pub small : e.periods < 2 ^ 59
    pub few : e.seat.me.0.changes ≤ 4 * e.periods
