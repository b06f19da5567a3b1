-- What contracts see of a value that stands for a domain.
use Rattle.atomic_table.specs.Seated.{TableId}
use Rattle.sections.specs.declared.token.Home.TheInside as home

abbrev pub home_of : home.Inside → TableId
home_of h = h.seat.table_id
