-- How the fields of a station and of its seats are seen.
use Rattle.desk.specs.BayViews.{BayView, BaySeatView}
use Rattle.scan.specs.declared.station.Station.TheInside as station
use Rattle.scan.specs.declared.station.seat.StationSeat.TheInside as seat
use Rattle.scan.specs.Progress.{ScanView}

module _ {A : Type 0} where
  abbrev pub view_of_station : station.Inside A → BayView ScanView
  view_of_station s = s.bay

  abbrev pub view_of_station_seat : seat.Inside A → BaySeatView ScanView
  view_of_station_seat s = s.seat
