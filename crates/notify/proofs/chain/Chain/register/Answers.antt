-- The block is put in its place, and the text of all is put.
use Rattle.std.proofs.Common.{rules, ◌<◌, List, length, ℕ, ℤ, FitsSigned, w32, All, ◌^◌, sym, ap, ◌∙◌, subst}
use Rattle.std.proofs.lemmas.Int.{to_z-of_z}
use Rattle.sections.specs.Shelves.{words_of}
use Rattle.notify.specs.declared.block.Block.{Block}
use Rattle.notify.specs.Blocks.{text_of, Inserts}
use Rattle.domain.specs.Publishing.{Puts}
use Rattle.notify.proofs.Inserting.{small_ids, kept_text}
use Rattle.notify.proofs.Searching.{not_found}
use Rattle.notify.proofs.chain.Chain.register.Goals as goal

pub text-words-requires-clause-small : goal.text-words-requires-clause-small
text-words-requires-clause-small g c =
    let low : c.args.id < c.self.inside.ids = rw (← c.self.view_is) at c.requires.id in
    let fits = subst (FitsSigned w32) (sym (to_z-of_z w32 c.args.priority c.ranges.priority)) c.ranges.priority in
    subst (λ (l : List Block). All (λ b. b.id < 2 ^ 32) l) (sym c.as_slice-2.ensures.value) (small_ids c.self.inside.ids c.enter.new.blocks.items (c.enter.ensures.kept c.self.inside.ids low fits c.self.invariant))

pub invariant_of-self-2 : goal.invariant_of-self-2
invariant_of-self-2 g c =
    let low : c.args.id < c.self.inside.ids = rw (← c.self.view_is) at c.requires.id in
    let fits = subst (FitsSigned w32) (sym (to_z-of_z w32 c.args.priority c.ranges.priority)) c.ranges.priority in
    c.enter.ensures.kept c.self.inside.ids low fits c.self.invariant

pub returns-clause-registers : goal.returns-clause-registers
returns-clause-registers g c =
    let few : length c.self.inside.blocks.items < 15 = search rules in
    rw (← c.self.view_is) (record {
      new_id = not_found c.place_of.result c.args.id c.as_slice.result.now c.self.inside.blocks.items c.as_slice.ensures.value c.place_of.ensures c.if-is_some.ensures;
      few = few;
      inserts = subst (λ (p : ℤ). Inserts (record { id = c.args.id; priority = p }) c.self.inside.blocks.items c.enter.new.blocks.items) (to_z-of_z w32 c.args.priority c.ranges.priority) (c.enter.ensures.inserts c.self.inside.ids c.self.invariant);
      puts = record {
        slot = c.in-Some.slot;
        given = c.claim.new.writer;
        at = c.claim.new.cpu;
        finds = c.in-Some.ensures.claims;
        publishes = subst (λ (l : List ℕ). Puts c.in-Some.slot.slot l c.claim.new.writer c.claim.new.cpu c.publish.new.writer c.publish.new.cpu) (c.text-words.ensures ∙ ap text_of c.as_slice-2.ensures.value) c.publish.ensures.puts.0;
      };
    })

pub returns-clause-has : goal.returns-clause-has
returns-clause-has g c =
    let low : c.args.id < c.self.inside.ids = rw (← c.self.view_is) at c.requires.id in
    let fits = subst (FitsSigned w32) (sym (to_z-of_z w32 c.args.priority c.ranges.priority)) c.ranges.priority in
    kept_text c.self.inside.ids _ c.enter.new.blocks.items (c.enter.ensures.kept c.self.inside.ids low fits c.self.invariant)
    (ap (λ (n : ℕ). words_of n c.publish.new.writer.version c.publish.new.cpu.cpu.texts) c.publish.ensures.same.1 ∙ (c.publish.ensures.has ∙ (c.text-words.ensures ∙ ap text_of c.as_slice-2.ensures.value)))
