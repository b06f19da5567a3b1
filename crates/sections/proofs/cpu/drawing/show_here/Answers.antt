use Rattle.std.proofs.Common.{ℕ, ◌+◌, ◌*◌, ◌%◌, [], refl, sym, ap, ◌∙◌, subst, arith}
use Rattle.sections.specs.Glossary.{View, Hand, Offer, cell_place, hand_with, Catches}
use Rattle.sections.proofs.Taking.{returns_here}
use Rattle.sections.proofs.Drawing.{catches_left, exchanged, match_map, none_at}
use Rattle.sections.proofs.Finding.{finds_here, cell_there}
use Rattle.sections.proofs.Seating.{cells_are}
use Rattle.sections.proofs.Showing.{can_take}
use Rattle.sections.proofs.cpu.drawing.show_here.Goals as goal

pub load-word-requires : goal.load-word-requires
load-word-requires g c = let sec = c.requires.section in (
  c.requires.placed.seated,
  cell_there _ _ _ _ (let h = cells_are _ _ c.requires.placed.wide c.requires.placed.cells in let i = c.requires.cell in omega (arith, h, i)) c.requires.placed.wide c.requires.place,
  finds_here c.args.table.now.shared.key _ _ _ c.args.seat.now.me sec.section c.args.processor sec.begun_on c.args.cell sec.index [] c.requires.placed.sized c.requires.role.0 c.requires.role.1 sec.right
      (let h = cells_are _ _ c.requires.placed.wide c.requires.placed.cells in let i = c.requires.cell in omega (arith, h, i)) c.requires.place,
)

pub take_key-key-requires : goal.take_key-key-requires
take_key-key-requires g c = let sec = c.requires.section in let f = c.load-word.ensures.2 in
    (can_take _ _ c.args.processor c.args.cell c.load-word.result _ c.args.seat.now c.load-word.new.seat sec c.requires.placed c.requires.role.0 c.requires.role.1 c.requires.cell c.requires.vault c.load-word.ensures.0 f.0 f.1
    (f.2 sec.section c.args.processor sec.begun_on c.args.cell sec.index [] c.requires.role.0 sec.right (c.requires.place ∙ ap (λ n. cell_place n c.args.cell) (sym c.requires.placed.sized)))).0

pub show-key-requires-clause-key : goal.show-key-requires-clause-key
show-key-requires-clause-key g c = let sec = c.requires.section in let f = c.load-word.ensures.2 in
    let can = can_take _ _ c.args.processor c.args.cell c.load-word.result _ c.args.seat.now c.load-word.new.seat sec c.requires.placed c.requires.role.0 c.requires.role.1 c.requires.cell c.requires.vault c.load-word.ensures.0 f.0 f.1
    (f.2 sec.section c.args.processor sec.begun_on c.args.cell sec.index [] c.requires.role.0 sec.right (c.requires.place ∙ ap (λ n. cell_place n c.args.cell) (sym c.requires.placed.sized))) in
    let r = can.0 in let k = c.take_key-key.ensures.holds r.section r.begun_on r.version r.index r.units r.offer r.right r.found in (k.count, k.round, (k.opens.0 ∙ can.1, k.opens.1))

pub load-requires : goal.load-requires
load-requires g c = let sec = c.requires.section in let f = c.load-word.ensures.2 in
    let can = can_take _ _ c.args.processor c.args.cell c.load-word.result _ c.args.seat.now c.load-word.new.seat sec c.requires.placed c.requires.role.0 c.requires.role.1 c.requires.cell c.requires.vault c.load-word.ensures.0 f.0 f.1
    (f.2 sec.section c.args.processor sec.begun_on c.args.cell sec.index [] c.requires.role.0 sec.right (c.requires.place ∙ ap (λ n. cell_place n c.args.cell) (sym c.requires.placed.sized))) in
    let r = can.0 in let t = c.take_key-key.ensures in let k = t.holds r.section r.begun_on r.version r.index r.units r.offer r.right r.found in
    let y : ℕ = 8 * c.args.cell + c.load-word.result % 16 in let p : ℕ = c.args.processor in
    let h : Hand = hand_with y p c.take_key-key.result k.count k.round in
    let now = exchanged c.take_key-key.new.seat.me c.exchange.new.seat.me (32 * p + y) t.blank c.show-key.result.0 [] t.carried c.exchange.ensures.3 in
    let key = c.show-key.ensures.key k.count k.round (k.opens.0 ∙ can.1, k.opens.1) in (
      c.exchange.ensures.0 ∙ (t.same_table ∙ r.seated),
      r.some,
      returns_here c.args.table.now.shared.key _ _ y r.section r.begun_on k.count k.round r.index r.units h c.show-key.result.0 c.exchange.new.seat.me (ap (λ m. m.0.right) now ∙ k.held) (ap (λ m. m.1) now) (key.0 ∙ sym (k.opens.0 ∙ can.1), key.1) refl refl,
    )

pub returns : goal.returns
returns g c = let sec = c.requires.section in let f = c.load-word.ensures.2 in
    let place = c.requires.place ∙ ap (λ n. cell_place n c.args.cell) (sym c.requires.placed.sized) in
    let can = can_take _ _ c.args.processor c.args.cell c.load-word.result _ c.args.seat.now c.load-word.new.seat sec c.requires.placed c.requires.role.0 c.requires.role.1 c.requires.cell c.requires.vault c.load-word.ensures.0 f.0 f.1
    (f.2 sec.section c.args.processor sec.begun_on c.args.cell sec.index [] c.requires.role.0 sec.right place) in
    let r = can.0 in let t = c.take_key-key.ensures in let k = t.holds r.section r.begun_on r.version r.index r.units r.offer r.right r.found in
    let y : ℕ = 8 * c.args.cell + c.load-word.result % 16 in let p : ℕ = c.args.processor in
    let h : Hand = hand_with y p c.take_key-key.result k.count k.round in
    let now = exchanged c.take_key-key.new.seat.me c.exchange.new.seat.me (32 * p + y) t.blank c.show-key.result.0 [] t.carried c.exchange.ensures.3 in
    let done = c.load.ensures.2 r.section r.begun_on r.index r.units h (ap (λ m. m.0.right) now ∙ k.held) in (
      record {
        word = c.load-word.result;
        at = c.load-word.new.seat.me.0;
        finds = λ s q o i us role right. f.2 s o q c.args.cell i us role right place;
        catches = subst (λ (z : View). Catches c.load-word.new.seat.me.0 z) (sym (ap (λ m. m.0) done)) (catches_left _ _ _ _ (subst (λ (z : View). Catches c.load-word.new.seat.me.0 z) (sym (ap (λ m. m.0) now)) t.catches));
        right = ap (λ m. m.0.right) done ∙ (sym r.right ∙ f.1);
        same_table = c.load.ensures.0 ∙ (c.exchange.ensures.0 ∙ (t.same_table ∙ c.load-word.ensures.0));
        bare = ap (λ m. m.1) done;
      },
      match_map c.show-key.result.1
          (none_at p _ k.count (λ lt. k.some (let e = ap (λ (o : Offer). o.each) can.2 in omega (arith, e, lt))))
          (λ u s. (s.1.0, s.1.1 ∙ (k.rounds s.0 ∙ ap (λ (o : Offer). o.round) can.2), s.1.2)) (c.show-key.ensures.shows k.count k.round (k.opens.0 ∙ can.1, k.opens.1)),
    )
