-- A version was found, and its words were loaded.
use Rattle.std.proofs.Common.{rules, refl}
use Rattle.domain.specs.Views.{with_cpu}
use Rattle.srcu.proofs.CallerLemmas.{kept_read}
use Rattle.srcu.proofs.Sections.{reads_words, stays_reading}
use Rattle.srcu.proofs.section.Section.words.Goals as goal

pub returns-clause-reads : goal.returns-clause-reads
returns-clause-reads g c =
    let reads = reads_words c.args.self.now.cpu.now (with_cpu c.words.new.self c.args.self.now.cpu.now) c.find-pin.new.self c.args.cell _ c.find-pin.result.found c.words.result refl c.find-pin.ensures.pinned
    (rw c.deref_mut.ensures.shows at c.find-pin.ensures.finds) (rw (c.deref_mut-2.ensures.shows, c.find-pin.ensures.section) at c.words.ensures.reads) in search (rules, reads)

pub returns-clause-stays : goal.returns-clause-stays
returns-clause-stays g c =
    let reads = reads_words c.args.self.now.cpu.now (with_cpu c.words.new.self c.args.self.now.cpu.now) c.find-pin.new.self c.args.cell _ c.find-pin.result.found c.words.result refl c.find-pin.ensures.pinned
    (rw c.deref_mut.ensures.shows at c.find-pin.ensures.finds) (rw (c.deref_mut-2.ensures.shows, c.find-pin.ensures.section) at c.words.ensures.reads) in
    let kept = kept_read _ _ _ _ _ _ reads (stays_reading _ _ _ _ _ reads) in search (rules, kept)
