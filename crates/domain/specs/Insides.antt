-- How the fields of a domain and of its processors are seen, and what is always true of them.
use Rattle.std.specs.Prelude.{◌≡◌, ◌≤◌, List}
use Rattle.domain.specs.declared.cpu.Cpu.TheInside as cpu
use Rattle.domain.specs.declared.domain.Domain.TheInside as domain
use Rattle.domain.specs.declared.set.CookieSet.TheInside as set
use Rattle.sections.specs.Sets.{MemberView}
use Rattle.domain.specs.Views.{CpuView, DomainView}

module _ {J A : Type 0} where
  abbrev pub view_of_cpu : cpu.Inside J A → CpuView J
  view_of_cpu c = record { cpu = c.cpu; needs = c.needs; turn = c.turn; calls = c.calls }

  abbrev pub view_of_domain : domain.Inside J A → DomainView
  view_of_domain d = record { domain = d.calls.domain; tree = d.tree; bay = d.station.bay; tallies = d.calls.tallies; processors = d.calls.processors; periods = d.station.first.seat.periods }

  -- there is one at least, and as many as there may be
  pub record IsDomain (d : domain.Inside J A) : Type 0 where
    pub count : d.processors ≡ d.calls.processors
    pub some : 1 ≤ d.processors
    pub few : d.processors ≤ 256

abbrev pub view_of_set : set.Inside → List MemberView
view_of_set s = s.set
