-- One word more.
use Rattle.std.proofs.Common.{◌∙◌, subst}
use Rattle.sections.specs.Views.{ReadingView, FoundView}
use Rattle.sections.specs.Reads.{ReadsWord}
use Rattle.srcubench.proofs.Finds.{one_word}
use Rattle.srcubench.proofs.finding.read_words.Goals as goal

pub loop-place-preserved : goal.loop-place-preserved
loop-place-preserved g c =
    let v = c.loop-place.invariant in record {
      reads = one_word c.loop-place.place c.word.result c.args.pin.now.section.now c.args.pin.now.found c.args.cpu.now c.loop-place.cpu c.word.new.self v.reads
          (subst (λ (z : ReadingView × FoundView). ReadsWord z.0 z.1 c.loop-place.place c.word.result c.loop-place.cpu c.word.new.self) (λ k. (v.reading k, v.found k)) c.word.ensures.reads);
      domain = c.word.ensures.reads.load.same.0 ∙ v.domain;
      reading = c.word.ensures.same.0 ∙ v.reading;
      found = c.word.ensures.same.1 ∙ v.found;
      name = c.word.ensures.same_reference ∙ v.name;
    }
