use Rattle.std.proofs.Common.{rules}
use Rattle.sections.proofs.Banking.{free_nothing, free_section, free_shelf}
use Rattle.std.proofs.Common.{◌≡◌, ◌≤◌, ℕ, ◌+◌, ap, sym, ◌∙◌, subst, arith}
use Rattle.atomic_table.specs.Seated.{TableId}
use Rattle.sections.specs.Glossary.{lacking, new_writer, AreNewWriters, Bounds, word_count}
use Rattle.sections.specs.declared.view.Right.TheVariants.{Undealt}
use Rattle.sections.proofs.Sharing.{gives_token}
use Rattle.sections.proofs.Seating.{some_words, cells_are}
use Rattle.sections.proofs.Standings.{writer_pushed, no_writers}
use Rattle.sections.proofs.making.deal_writers.Goals as goal

pub loop-cell-init : goal.loop-cell-init
loop-cell-init g c = record {
  seat = c.requires.new;
  writers = no_writers _ _ _ c.in_ok-writers.ensures.items;
}

pub deal_writer-requires-clause-seat : goal.deal_writer-requires-clause-seat
deal_writer-requires-clause-seat g c = let s = c.loop-cell.invariant.seat in record {
  seated = s.seated;
  some = some_words _ _ _ s.wide;
  right = ap (λ m. m.0.right) s.me;
  nothing = ap (λ m. m.0.seen) s.me;
  untold = ap (λ m. m.0.texts) s.me;
  still = ap (λ m. m.0.changes) s.me;
}

pub deal_writer-requires-clause-wide : goal.deal_writer-requires-clause-wide
deal_writer-requires-clause-wide g c = let s = c.loop-cell.invariant.seat in (s.wide ∙ ap (λ (b : Bounds). word_count b.processors b.cells) (sym s.key_is), subst (λ (b : Bounds). b.cells ≤ 4) (sym s.key_is) c.requires.cells)

pub deal_writer-requires-clause-cell : goal.deal_writer-requires-clause-cell
deal_writer-requires-clause-cell g c = let s = c.loop-cell.invariant.seat in let h = cells_are _ _ s.wide c.requires.cells in let i = c.loop-cell-test.true in omega (arith, h, i)

pub loop-cell-preserved : goal.loop-cell-preserved
loop-cell-preserved g c =
    let v = c.loop-cell.invariant in
    let d = c.deal_writer.ensures in record {
      seat = record {
        key_is = v.seat.key_is;
        wide = v.seat.wide;
        seated = d.seat.same_table ∙ v.seat.seated;
        me = d.seat.me ∙ ap (λ m. (record m.0 { right = Undealt (c.loop-cell.cell + 1) }, m.1)) v.seat.me;
      };
      writers = writer_pushed _ _ _ _ _ _ v.writers (d.writer ∙ ap (λ t. new_writer t c.loop-cell.cell c.args.slots) v.seat.seated) c.in_ok-push.ensures.items;
    }

pub split_seat-requires : goal.split_seat-requires
split_seat-requires g c = let s = c.loop-cell.invariant.seat in (s.seated, some_words _ _ _ s.wide, gives_token _ _ _ (search (rules, free_nothing, free_section, free_shelf)))

pub returns : goal.returns
returns g c =
    let v = c.loop-cell.invariant in
    let s = v.seat in
    let all : c.loop-cell.cell ≡ c.args.bounds.cells = omega arith in (
      record { key_is = s.key_is; wide = s.wide; seated = c.split_seat.ensures.0 ∙ s.seated; me = c.split_seat.ensures.2 ∙ ap (λ m. (lacking m.0, m.1)) s.me },
      subst (λ (z : TableId × ℕ). AreNewWriters z.0 z.1 c.args.slots c.loop-cell.writers.items) (λ k. (sym (c.split_seat.ensures.0 ∙ s.seated) k, all k)) v.writers,
    )
