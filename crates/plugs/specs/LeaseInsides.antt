-- How the field of a lease is seen.
use Rattle.plugs.specs.declared.lease.Lease.TheInside as lease
use Rattle.plugs.specs.Views.{LeaseView}

abbrev pub view_of_lease : lease.Inside → LeaseView
view_of_lease l = record { held = l.pin.section; found = l.pin.found }
