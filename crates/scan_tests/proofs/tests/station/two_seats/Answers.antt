-- Two were made, and both are taken out.
use Rattle.std.proofs.Common.{◌≡◌, ◌++◌, length, sym, ap, ◌∙◌, arith}
use Rattle.std.specs.Prelude.{option_to_list}
use Rattle.sections.specs.Views.{CpuView}
use Rattle.desk.specs.BayViews.{BayView}
use Rattle.scan.specs.Progress.{ScanView}
use Rattle.scan_tests.proofs.ForTests.{two_taken}
use Rattle.scan_tests.proofs.tests.station.two_seats.Goals as goal

pub returns-clause-seats : goal.returns-clause-seats
returns-clause-seats c =
    let new = c.in-Ok.ensures.seats in
    let two : length c.in-Ok.seats.items ≡ 2 = new.count ∙ ap (λ (b : BayView ScanView). b.seats) c.in-Ok.ensures.station in
    let both = two_taken _ _ _ _ _ c.unwrap-left.result
    (c.pop-3.ensures.items ∙ ap (λ o. c.pop-3.new.self.items ++ option_to_list o) c.unwrap-right.ensures)
    (c.pop-4.ensures.items ∙ ap (λ o. c.pop-4.new.self.items ++ option_to_list o) c.unwrap-left.ensures) two in
    (sym both.0 ∙ new.each 0 _ (omega (arith, two)), sym both.1 ∙ new.each 1 _ (omega (arith, two)))

pub returns-clause-cpus : goal.returns-clause-cpus
returns-clause-cpus c =
    let made = c.in_ok-cpus.ensures.made in
    let two = made.count in
    let at = ap (λ (b : BayView ScanView). b.domain) c.in-Ok.ensures.station ∙ ap (λ (v : ScanView). v.seat.domain) c.new.ensures in
    let both = two_taken _ _ _ _ _ c.unwrap-first.result
    (c.pop.ensures.items ∙ ap (λ o. c.pop.new.self.items ++ option_to_list o) c.unwrap-second.ensures)
    (c.pop-2.ensures.items ∙ ap (λ o. c.pop-2.new.self.items ++ option_to_list o) c.unwrap-first.ensures) two in
    (ap (λ (x : CpuView). x.domain) (sym both.0 ∙ made.cpus_new 0 _ (omega (arith, two))) ∙ sym at, ap (λ (x : CpuView). x.domain) (sym both.1 ∙ made.cpus_new 1 _ (omega (arith, two))) ∙ sym at)
