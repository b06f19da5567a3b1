-- The work leaves the section open, which then ends.
use Rattle.std.proofs.Common.{rules}
use Rattle.srcu.specs.Sections.{WorksIn}
use Rattle.srcu.proofs.Sections.{ends_open}
use Rattle.srcu.proofs.worker.reading.work_in.Goals as goal

pub returns-clause-works : goal.returns-clause-works
returns-clause-works g c =
    let begins = c.in_ok-section.ensures.begins in
    let leaves = c.requires.leaves _ _ _ begins c.work.ensures in
    let e = ends_open c.args.cpu.now _ _ _ begins leaves c.drop-section.ensures.closes c.drop-section.ensures.stays in
    let works : WorksIn g.F.FnOnce c.args.work c.args.cpu.now c.work.result c.drop-section.new.self.0 = record { begun = _; begins = begins; left = _; works = c.work.ensures; closes = e.0 } in search (rules, works)

pub returns-clause-kept : goal.returns-clause-kept
returns-clause-kept g c =
    let begins = c.in_ok-section.ensures.begins in
    let leaves = c.requires.leaves _ _ _ begins c.work.ensures in
    let e = ends_open c.args.cpu.now _ _ _ begins leaves c.drop-section.ensures.closes c.drop-section.ensures.stays in
    let kept = e.1 in search (rules, kept)
