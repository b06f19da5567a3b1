-- The section began, and its last call found the words of one version, had the handlers of their blocks called, and ended it.
use Rattle.std.proofs.Common.{List, ℕ, subst}
use Rattle.notify.specs.Blocks.{AreRead}
use Rattle.notify.specs.Calling.{AnswersOf}
use Rattle.notify.proofs.Reading.{reads_once}
use Rattle.notify.proofs.view.ChainView.call_chain.Goals as goal

pub returns-clause-calls : goal.returns-clause-calls
returns-clause-calls g c =
    let h = c.show_words_and_unlock.ensures in
    let a : AnswersOf _ c.self.inside.ids h.2.0.now c.show_words_and_unlock.result.0 c.show_words_and_unlock.result.1 = h.2.1 in record {
      blocks = a.blocks;
      reads = reads_once c.args.self.now c.in_ok-reading.reading c.args.cpu.now c.read_lock.new.self c.show_words_and_unlock.new.self h.0 a.blocks c.in_ok-reading.ensures.locks c.in_ok-reading.ensures.rest c.in_ok-reading.ensures.acts
          (rw (← c.self.view_is) (rw c.deref_mut.ensures.shows at h.1)) (rw (← c.self.view_is) (subst (λ (l : List ℕ). AreRead c.self.inside.ids l a.blocks) h.2.2 a.read));
      answers = a.answers;
    }
