-- The section is the one that the work was lent, which left it and what is open as it was.
use Rattle.std.proofs.Common.{refl, subst}
use Rattle.sections.specs.Glossary.{ReadingView, Unlocks}
use Rattle.driver.specs.Works.{Opens, Closes, MayGive}
use Rattle.domain.proofs.CallerLemmas.{still_here}
use Rattle.driver.proofs.Keeping.{opened, kept_closed}
use Rattle.driver.proofs.reading.read.Goals as goal

pub read_unlock-requires : goal.read_unlock-requires
read_unlock-requires g c =
    let opens : Opens c.args.cpu.now c.in_ok-reading.reading c.read_lock.new.self = opened _ _ _ c.in_ok-reading.ensures.locks c.read_lock.ensures.rest c.read_lock.ensures.stays in
    let works : MayGive g.F.FnOnce c.args.work c.read_lock.new.self c.in_ok-reading.reading c.work-answer.result c.work-answer.new.arg2 c.work-answer.new.arg3 = record { shown = _; other = _; shows = (refl, refl); left = _; other_left = _; met = c.work-answer.ensures; leaves = (refl, refl) } in
    let kept = c.requires.keeps _ _ _ _ _ opens works in
    still_here c.read_lock.new.self.cpu c.work-answer.new.arg2.cpu c.in_ok-reading.reading c.work-answer.new.arg3 kept.0.same.cpu kept.1 opens.here

pub returns-clause-reads : goal.returns-clause-reads
returns-clause-reads g c =
    let opens : Opens c.args.cpu.now c.in_ok-reading.reading c.read_lock.new.self = opened _ _ _ c.in_ok-reading.ensures.locks c.read_lock.ensures.rest c.read_lock.ensures.stays in
    let works : MayGive g.F.FnOnce c.args.work c.read_lock.new.self c.in_ok-reading.reading c.work-answer.result c.work-answer.new.arg2 c.work-answer.new.arg3 = record { shown = _; other = _; shows = (refl, refl); left = _; other_left = _; met = c.work-answer.ensures; leaves = (refl, refl) } in
    let kept = c.requires.keeps _ _ _ _ _ opens works in record {
      begun = c.read_lock.new.self;
      reading = c.in_ok-reading.reading;
      opens = opens;
      worked = c.work-answer.new.arg2;
      works = record { shown = _; other = _; shows = (refl, refl); left = _; other_left = _; met = c.work-answer.ensures; leaves = (refl, kept.1) };
      closes = record { ends = subst (λ (z : ReadingView). Unlocks z c.work-answer.new.arg2.cpu c.read_unlock.new.self.cpu) kept.1 c.read_unlock.ensures.ends; rest = c.read_unlock.ensures.rest };
    }

pub returns-clause-kept : goal.returns-clause-kept
returns-clause-kept g c =
    let opens : Opens c.args.cpu.now c.in_ok-reading.reading c.read_lock.new.self = opened _ _ _ c.in_ok-reading.ensures.locks c.read_lock.ensures.rest c.read_lock.ensures.stays in
    let works : MayGive g.F.FnOnce c.args.work c.read_lock.new.self c.in_ok-reading.reading c.work-answer.result c.work-answer.new.arg2 c.work-answer.new.arg3 = record { shown = _; other = _; shows = (refl, refl); left = _; other_left = _; met = c.work-answer.ensures; leaves = (refl, refl) } in
    let kept = c.requires.keeps _ _ _ _ _ opens works in
    let closes : Closes c.in_ok-reading.reading c.work-answer.new.arg2 c.read_unlock.new.self = record { ends = subst (λ (z : ReadingView). Unlocks z c.work-answer.new.arg2.cpu c.read_unlock.new.self.cpu) kept.1 c.read_unlock.ensures.ends; rest = c.read_unlock.ensures.rest } in
    kept_closed c.args.cpu.now c.read_lock.new.self c.work-answer.new.arg2 c.read_unlock.new.self c.in_ok-reading.reading opens kept.0 closes c.read_unlock.ensures.stays
