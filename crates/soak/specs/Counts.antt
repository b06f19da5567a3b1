-- Adding up what threads did.
use Rattle.std.specs.Prelude.{ℕ, ◌+◌, ◌-◌, ◌^◌, min, Bool, if◌then◌else◌}
use Rattle.soak.specs.declared.counts.Counts.{Counts}

-- both, or the largest number
abbrev pub plus : ℕ → ℕ → ℕ
plus a b = min (a + b) (2 ^ 64 - 1)

abbrev pub one_more : ℕ → ℕ
one_more a = plus a 1

-- one more where this is so
abbrev pub more_if : Bool → ℕ → ℕ
more_if so a = if so then one_more a else a

-- each count is that of both
abbrev pub sum_of : Counts → Counts → Counts
sum_of c d = record {
  met = plus c.met d.met;
  opened = plus c.opened d.opened;
  closed = plus c.closed d.closed;
  handed = plus c.handed d.handed;
  queued = plus c.queued d.queued;
  run = plus c.run d.run;
  polled = plus c.polled d.polled;
  waited = plus c.waited d.waited;
  barriers = plus c.barriers d.barriers;
  left = plus c.left d.left;
  again = plus c.again d.again;
  refused = plus c.refused d.refused;
  misplaced = plus c.misplaced d.misplaced;
  early = plus c.early d.early;
  stale = plus c.stale d.stale;
  torn = plus c.torn d.torn;
  boxes = plus c.boxes d.boxes;
  lost = plus c.lost d.lost;
  devices = plus c.devices d.devices;
  back = plus c.back d.back;
  used = plus c.used d.used;
  counted = plus c.counted d.counted;
}
