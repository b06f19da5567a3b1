use Rattle.std.proofs.Common.{rules, ◌≡◌, ◌∙◌, arith}
use Rattle.onedom.specs.Histories.{starts_in}
use Rattle.onedom.proofs.CallerLemmas.{beginning_trans}
use Rattle.sections_tests.proofs.tests.flip_behind_scan.Goals as goal

pub returns-clause-flipped : goal.returns-clause-flipped
returns-clause-flipped c =
    let same = c.scan.ensures.same.1 in
    let flip = c.flip-current.ensures.step in
    let more = c.add_scan2.ensures.step in
    let running = c.requires.running in
    let before = c.scan.ensures.history.reaches.started in
    let after = more.history.reaches.started in
    let one = flip.changes_are in
    let two = more.changes_are in
    let was = c.scan.ensures.empty (search rules) in
    let starts : starts_in c.scan.new.engine.seen ≡ starts_in c.add_scan2.new.self.seen = omega (arith, same, running, before, after, one, two) in
    (omega (arith, same, one, two), record { moment = was.moment; upto = beginning_trans was.upto (beginning_trans flip.since more.since); since_start = was.since_start ∙ starts; empty = was.empty })
