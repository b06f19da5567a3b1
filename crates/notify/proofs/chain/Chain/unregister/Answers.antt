-- The block is taken out, and the text of the others is put.
use Rattle.std.proofs.Common.{◌<◌, List, ℕ, All, ◌^◌, sym, ap, ◌∙◌, subst}
use Rattle.sections.specs.Shelves.{words_of}
use Rattle.notify.specs.declared.block.Block.{Block}
use Rattle.notify.specs.Blocks.{text_of, StandsAt}
use Rattle.domain.specs.Publishing.{Puts}
use Rattle.notify.proofs.Inserting.{small_ids, kept_text}
use Rattle.notify.proofs.chain.Chain.unregister.Goals as goal

pub text-words-requires-clause-small : goal.text-words-requires-clause-small
text-words-requires-clause-small g c = subst (λ (l : List Block). All (λ b. b.id < 2 ^ 32) l) (sym c.as_slice-2.ensures.value) (small_ids c.self.inside.ids c.leave.new.blocks.items (c.leave.ensures.kept c.self.inside.ids c.self.invariant))

pub invariant_of-self-2 : goal.invariant_of-self-2
invariant_of-self-2 g c = c.leave.ensures.kept c.self.inside.ids c.self.invariant

pub returns-clause-unregisters : goal.returns-clause-unregisters
returns-clause-unregisters g c =
    rw (← c.self.view_is) (record {
      removes = c.leave.ensures.removes c.args.id (subst (StandsAt c.in-Some.place c.args.id) c.as_slice.ensures.value c.in-Some.ensures);
      puts = record {
        slot = c.in-Some-claim.slot;
        given = c.claim.new.writer;
        at = c.claim.new.cpu;
        finds = c.in-Some-claim.ensures.claims;
        publishes = subst (λ (l : List ℕ). Puts c.in-Some-claim.slot.slot l c.claim.new.writer c.claim.new.cpu c.publish.new.writer c.publish.new.cpu) (c.text-words.ensures ∙ ap text_of c.as_slice-2.ensures.value) c.publish.ensures.puts.0;
      };
    })

pub returns-clause-has : goal.returns-clause-has
returns-clause-has g c =
    kept_text c.self.inside.ids _ c.leave.new.blocks.items (c.leave.ensures.kept c.self.inside.ids c.self.invariant)
    (ap (λ (n : ℕ). words_of n c.publish.new.writer.version c.publish.new.cpu.cpu.texts) c.publish.ensures.same.1 ∙ (c.publish.ensures.has ∙ (c.text-words.ensures ∙ ap text_of c.as_slice-2.ensures.value)))
