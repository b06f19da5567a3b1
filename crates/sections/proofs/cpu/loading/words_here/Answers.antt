use Rattle.std.proofs.Common.{◌≡◌, ◌+◌, ◌/◌, ◌%◌, [], refl, sym, ap, ◌∙◌, arith}
use Rattle.std.proofs.lemmas.List.{length-set}
use Rattle.onedom.specs.declared.event.Maker.TheVariants.{Processor}
use Rattle.sections.specs.Words.{cell_place, word_place}
use Rattle.sections.proofs.Deeds.{cpu_makes}
use Rattle.sections.proofs.Finding.{finds_here, cell_there, word_there}
use Rattle.sections.proofs.Readings.{so_far_none, so_far_next, so_far_whole, met_here, seen_here}
use Rattle.sections.proofs.Seating.{cells_are}
use Rattle.sections.proofs.Wholes.{loads_next_here}
use Rattle.sections.proofs.cpu.loading.words_here.Goals as goal

pub load-found-requires : goal.load-found-requires
load-found-requires g c = let sec = c.requires.section in (
  c.requires.placed.seated,
  cell_there _ _ _ _ (let h = cells_are _ _ c.requires.placed.wide c.requires.placed.cells in let i = c.requires.cell in omega (arith, h, i)) c.requires.placed.wide c.place_of_cell.ensures,
  finds_here c.args.table.now.shared.key _ _ _ c.args.seat.now.me sec.section c.requires.role.0 sec.begun_on c.args.cell sec.index [] c.requires.placed.sized c.requires.role.1 c.requires.role.2 sec.right
      (let h = cells_are _ _ c.requires.placed.wide c.requires.placed.cells in let i = c.requires.cell in omega (arith, h, i)) c.place_of_cell.ensures,
)

pub place_of_word-first-requires-clause-place : goal.place_of_word-first-requires-clause-place
place_of_word-first-requires-clause-place g c = let sec = c.requires.section in
    ((c.load-found.ensures.2.2 sec.section c.requires.role.0 sec.begun_on c.args.cell sec.index [] c.requires.role.1 sec.right (c.place_of_cell.ensures ∙ ap (λ n. cell_place n c.args.cell) (sym c.requires.placed.sized))).2, omega arith)

pub loop-place-init : goal.loop-place-init
loop-place-init g c = let sec = c.requires.section in let f = c.load-found.ensures.2 in
    let place = c.place_of_cell.ensures ∙ ap (λ n. cell_place n c.args.cell) (sym c.requires.placed.sized) in record {
      at = c.load-found.new.seat.me.0;
      finds = λ s q o i us role right. f.2 s o q c.args.cell i us role right place;
      so_far = so_far_none c.args.cell (c.load-found.result / 16) (f.2 sec.section c.requires.role.0 sec.begun_on c.args.cell sec.index [] c.requires.role.1 sec.right place).0;
      long = refl;
      right = f.1;
      same_table = c.load-found.ensures.0;
      bare = f.0 ∙ c.requires.placed.bare;
    }

pub load-requires : goal.load-requires
load-requires g c =
    let inv = c.loop-place.invariant in let sec = c.requires.section in let all = inv.so_far.sees in
    let found = inv.finds sec.section sec.begun_on c.requires.role.0 sec.index [] c.requires.role.1 sec.right in
    let at : c.place_of_word-first.result + c.loop-place.place ≡ word_place c.args.table.now.shared.key.processors c.args.cell (c.load-found.result % 16) c.loop-place.place = (let e = c.place_of_word-first.ensures in omega (arith, e)) in (
      inv.same_table ∙ c.requires.placed.seated,
      word_there _ _ _ _ _ _ (let h = cells_are _ _ c.requires.placed.wide c.requires.placed.cells in let i = c.requires.cell in omega (arith, h, i)) found.2 c.loop-place-test.true c.requires.placed.wide at,
      loads_next_here c.args.table.now.shared.key _ _ _ c.loop-place.seat.me (Processor c.requires.role.0) c.args.cell (c.load-found.result % 16) c.loop-place.place
          (cpu_makes c.requires.role.0 _ (all.role ∙ (found.0.role ∙ c.requires.role.1))) (all.processors ∙ (found.0.processors ∙ c.requires.placed.sized))
          (met_here c.args.cell c.load-found.result c.loop-place.place c.requires.role.0 c.args.seat.now c.loop-place.words c.loop-place.seat sec c.requires.role.1 inv)
          (let h = cells_are _ _ c.requires.placed.wide c.requires.placed.cells in let i = c.requires.cell in omega (arith, h, i)) found.2 c.loop-place-test.true at,
    )

pub loop-place-preserved : goal.loop-place-preserved
loop-place-preserved g c =
    let inv = c.loop-place.invariant in let sec = c.requires.section in let all = inv.so_far.sees in let f = c.load.ensures.2 in
    let found = inv.finds sec.section sec.begun_on c.requires.role.0 sec.index [] c.requires.role.1 sec.right in
    let met = seen_here c.args.cell c.load-found.result c.loop-place.place c.requires.role.0 c.args.seat.now c.loop-place.words c.loop-place.seat sec c.requires.role.1 inv in
    let gives = f.2 sec.section sec.begun_on c.args.cell (c.load-found.result % 16) (c.load-found.result / 16) c.loop-place.place sec.index (inv.right ∙ sec.right) met found.2 c.loop-place-test.true
    (let e = c.place_of_word-first.ensures in let n = all.processors ∙ (found.0.processors ∙ c.requires.placed.sized) in omega (arith, e, n)) in record {
      at = inv.at;
      finds = inv.finds;
      so_far = so_far_next c.args.cell (c.load-found.result / 16) c.loop-place.place c.load.result inv.at c.loop-place.words c.loop-place.seat.me.0 c.load.new.seat.me.0 found.1 c.loop-place-test.true inv.so_far gives;
      long = length-set c.loop-place.words c.loop-place.place c.load.result ∙ inv.long;
      right = f.1 ∙ inv.right;
      same_table = c.load.ensures.0 ∙ inv.same_table;
      bare = f.0 ∙ inv.bare;
    }

pub returns : goal.returns
returns g c =
    let inv = c.loop-place.invariant in
    let done = c.loop-place-test.false in
    let upto = c.loop-place.auto.place-end in
    let whole = so_far_whole c.args.cell (c.load-found.result / 16) c.loop-place.place inv.at c.loop-place.words c.loop-place.seat.me.0 (omega (arith, done, upto)) inv.so_far in record {
      word = c.load-found.result;
      at = inv.at;
      finds = inv.finds;
      long = inv.long;
      loads = whole.0;
      values = whole.1;
      right = inv.right;
      same_table = inv.same_table;
      bare = inv.bare;
    }
