-- What a change of a chain says of the domain in one hand.
use Rattle.std.proofs.Common.{◌≡◌, ℕ, List, refl, sym, ap, ◌∙◌, subst, arith}
use Rattle.solo.proofs.Words.{Result, Ok, Err, MatchResult, IfOk, words_of, cells_in, Block, RegisterRefusal, UnregisterRefusal, IsTextOf, ChainState, IsSameChain, in_cell, with_current, IsCurrent, Registers, Unregisters, RefusesRegister, RefusesUnregister, CpuView, Claims, Puts as Publishes}
use Rattle.solo.proofs.Words.{WriterView, SlotView}
use Rattle.notify.specs.declared.refusals.RegisterRefusal.TheVariants as register
use Rattle.notify.specs.declared.refusals.UnregisterRefusal.TheVariants as unregister
use Rattle.notify.specs.Blocks.{text_of}
use Rattle.notify.specs.Changes as chain
use Rattle.solo.proofs.Meeting as meeting
use Rattle.solo.proofs.Meeting.{Hand}
use Rattle.solo.specs.Versions.{Puts}
use Rattle.solo.proofs.Putting.{SaysBut, SameBut, ShelfStays, lacks, lacks_says, are_put, put_says, nothing_says}

module _ {J : Type 0} where
  module _ (t : Hand J) where
    -- What is current is the chain's

    still_current : (s s' : ChainState) → IsSameChain s s' → SameBut t → IsCurrent t.s s → IsTextOf s.ids (in_cell s.writer.cell (meeting.s' t).shelf) s'.blocks → IsCurrent (meeting.s' t) s'
    still_current s s' chain_same domain was text = record {
      here = chain_same.domain ∙ (was.here ∙ sym domain.0.0);
      cell = (let low = was.cell.0 in let few = was.cell.1 in let c = chain_same.cell in let n = ap cells_in domain.0.0 in (omega (arith, low, c, n), omega (arith, few, c)));
      small = (let small = was.small in let ids = chain_same.ids in omega (arith, small, ids));
      text = subst (λ (z : ℕ × ℕ). IsTextOf z.0 (in_cell z.1 (meeting.s' t).shelf) s'.blocks) (λ i. (sym chain_same.ids i, sym chain_same.cell i)) text;
    }

    -- The calls

    module _ (s s' : ChainState) (same : IsSameChain s s') (was : IsCurrent t.s s) where
      -- behind a change, and where there was none
      current_put : {words : List ℕ} → IsTextOf s'.ids words s'.blocks → SameBut t → in_cell s.writer.cell (meeting.s' t).shelf ≡ text_of s'.blocks → IsCurrent (meeting.s' t) s'
      current_put has domain is =
          still_current s s' same domain was (subst (λ (z : ℕ × List ℕ). IsTextOf z.0 z.1 s'.blocks) (λ i. (same.ids i, sym is i)) (record { chain = has.chain; fit = has.fit; words_are = refl }))

      current_kept : s'.blocks ≡ s.blocks → SameBut t → ShelfStays t → IsCurrent (meeting.s' t) s'
      current_kept blocks domain shelf =
          still_current s s' same domain was (subst (λ (z : List ℕ × List Block). IsTextOf s.ids z.0 z.1) (λ i. (ap (in_cell s.writer.cell) (sym shelf) i, sym blocks i)) was.text)

      abbrev Shelved : {T E : Type 0} → Result T E → Type 0
      Shelved r = MatchResult r (λ _. (meeting.s' t).shelf ≡ with_current s.writer.cell (text_of s'.blocks) t.s.shelf) (λ _. ShelfStays t)

      abbrev Has : Type 0
      Has = IsTextOf s'.ids (words_of s'.writer.cell s'.writer.version t.now.cpu.texts) s'.blocks

      -- the blocks were put
      module _ {slot : SlotView} {given : WriterView} {at : CpuView J} (finds : Claims slot s.writer t.was given at) (publishes : Publishes slot.slot (text_of s'.blocks) given at s'.writer t.now) where
        puts_are : Puts t.p s.writer s'.writer t.s.course (meeting.s' t).course
        puts_are = are_put t s.writer s'.writer (text_of s'.blocks) finds publishes

        published : {it : Type 0} → it → Has → SaysBut t (it × ((meeting.s' t).shelf ≡ with_current s.writer.cell (text_of s'.blocks) t.s.shelf) × IsCurrent (meeting.s' t) s')
        published what has = put_says t s.writer s'.writer (text_of s'.blocks) finds publishes was.cell.1 (ap (λ n. words_of n s'.writer.version t.now.cpu.texts) (sym same.cell) ∙ has.words_are) what (current_put has)

      pub register_says : {T : Type 0} (id : ℕ) (block : Block) (r : Result T RegisterRefusal) → MatchResult r (λ _. chain.Registers block s t.was s' t.now) (λ e. chain.RefusesRegister id e s t.was s' t.now) → IfOk r (λ _. Has)
          → SaysBut t (MatchResult r (λ _. Registers t.p block s s' t.s.course (meeting.s' t).course) (λ e. RefusesRegister t.p id e s s' t.s.course (meeting.s' t).course) × Shelved r × IsCurrent (meeting.s' t) s')
      register_says id block (Ok x) h has = published h.puts.finds h.puts.publishes (record { new_id = h.new_id; few = h.few; inserts = h.inserts; puts = puts_are h.puts.finds h.puts.publishes }) has
      register_says id block (Err register.There) h has = nothing_says t h.nothing.cpu (λ course. (h.has, (h.nothing.chain, course))) (current_kept (ap (λ x. x.blocks) h.nothing.chain))
      register_says id block (Err register.Full) h has = nothing_says t h.nothing.cpu (λ course. (h.new_id, h.full, (h.nothing.chain, course))) (current_kept (ap (λ x. x.blocks) h.nothing.chain))
      register_says id block (Err register.NoSlot) h has = lacks_says t s.writer s'.writer h.none.finds (h.new_id, h.few, record { lacks = lacks t s.writer s'.writer h.none.finds; blocks = h.none.blocks }) (current_kept h.none.blocks)
      register_says id block (Err register.Memory) h has = absurd h

      pub unregister_says : {T : Type 0} (id : ℕ) (r : Result T UnregisterRefusal) → MatchResult r (λ _. chain.Unregisters id s t.was s' t.now) (λ e. chain.RefusesUnregister id e s t.was s' t.now) → IfOk r (λ _. Has)
          → SaysBut t (MatchResult r (λ _. Unregisters t.p id s s' t.s.course (meeting.s' t).course) (λ e. RefusesUnregister t.p id e s s' t.s.course (meeting.s' t).course) × Shelved r × IsCurrent (meeting.s' t) s')
      unregister_says id (Ok x) h has = published h.puts.finds h.puts.publishes (record { removes = h.removes; puts = puts_are h.puts.finds h.puts.publishes }) has
      unregister_says id (Err unregister.NotThere) h has = nothing_says t h.nothing.cpu (λ course. (h.has_none, (h.nothing.chain, course))) (current_kept (ap (λ x. x.blocks) h.nothing.chain))
      unregister_says id (Err unregister.NoSlot) h has = lacks_says t s.writer s'.writer h.none.finds (h.has, record { lacks = lacks t s.writer s'.writer h.none.finds; blocks = h.none.blocks }) (current_kept h.none.blocks)
