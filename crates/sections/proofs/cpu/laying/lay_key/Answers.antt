use Rattle.std.proofs.Common.{◌≡◌, ℕ, suc, ◌+◌, ◌*◌, [], ◌∷◌, Some, None, refl, sym, ap, ◌∙◌, subst, arith}
use mathlib.Core.Option.{none}
use Rattle.atomic_table.specs.Table.{step, Allows}
use Rattle.vault.specs.Rule.{key_of}
use Rattle.sections.specs.Glossary.{Kept, hand_with, HandlesBare, handled_bare}
use Rattle.sections.specs.declared.view.Right.TheVariants.{Shelf}
use Rattle.sections.proofs.Laying.{bare_here, equips_here}
use Rattle.sections.proofs.Drawing.{has_one}
use Rattle.sections.proofs.Handling.{bare_seat}
use Rattle.sections.proofs.Writing.{same_shelf_right}
use Rattle.sections.proofs.cpu.laying.lay_key.Goals as goal

pub overflow_add-place : goal.overflow_add-place
overflow_add-place g c = let p = c.ranges.processor.fits in let lx = c.requires.pen.low in let lc = c.requires.pen.inside in omega (arith, p, lx, lc)

pub load-requires : goal.load-requires
load-requires g c = let r = c.requires.pen in (
  r.seated,
  r.some,
  subst (λ (n : ℕ). Allows (Kept c.args.top.now.key) c.args.top.now.table_id.slots c.args.pen.now.id c.args.pen.now.me (8 * c.args.cell + c.args.slot) (λ z. z) (handled_bare n (step c.args.top.now.table_id.slots (8 * c.args.cell + c.args.slot) 0 0 none) c.args.pen.now.me)) (sym c.requires.at)
      (bare_here c.args.top.now.key _ _ _ c.args.cell c.args.slot c.args.processor r.own r.upto r.plan c.args.pen.now.me r.right r.free r.low r.cells r.there r.next refl),
)

pub exchange-requires : goal.exchange-requires
exchange-requires g c = let r = c.requires.pen in let k = subst (λ z. HandlesBare c.args.cell c.args.slot z r.own r.upto r.plan c.args.pen.now.me c.load.new.seat.me) c.requires.at
    (c.load.ensures.2 c.args.cell c.args.slot r.own r.upto r.plan r.right r.low refl (r.next ∙ ap (λ z. 8 * z + c.args.slot) (sym c.requires.at))) in
    (c.load.ensures.0 ∙ r.seated, (k.blank, has_one _ _ _ k.blank (ap (λ m. m.1) k.after)))

pub load-requires-2 : goal.load-requires-2
load-requires-2 g c = let r = c.requires.pen in let x : ℕ = c.args.slot in let p : ℕ = c.args.processor in
    let k = subst (λ z. HandlesBare c.args.cell x z r.own r.upto r.plan c.args.pen.now.me c.load.new.seat.me) c.requires.at (c.load.ensures.2 c.args.cell x r.own r.upto r.plan r.right r.low refl (r.next ∙ ap (λ z. 8 * z + x) (sym c.requires.at))) in
    let now = bare_seat c.args.cell x p r.own r.upto r.plan c.args.pen.now.me c.load.new.seat.me c.exchange.new.seat.me c.args.key k r.bare c.exchange.ensures.3 in (
      c.exchange.ensures.0 ∙ (c.load.ensures.0 ∙ r.seated),
      r.some,
      equips_here c.args.top.now.key _ _ _ c.args.cell x r.own r.upto (record r.plan { hand = Some (hand_with (8 * c.args.cell + x) p k.blank 0 0) }) (hand_with (8 * c.args.cell + x) p k.blank 0 0) c.args.key c.exchange.new.seat.me (ap (λ m. m.0.right) now) refl r.low refl r.next (ap (λ m. m.1) now)
          (c.requires.key.0 ∙ ap (λ z. key_of z 0 0 ∷ []) (sym r.next)) (c.requires.key.1 c.args.cell r.own r.upto r.plan r.right),
    )

pub returns : goal.returns
returns g c = let r = c.requires.pen in let x : ℕ = c.args.slot in let p : ℕ = c.args.processor in record {
  same_table = c.load-2.ensures.0 ∙ (c.exchange.ensures.0 ∙ c.load.ensures.0);
  after = λ own h q right. let next : q.keys ≡ 8 * p + x = ap (λ z. z.keys) (same_shelf_right _ _ own r.own h r.upto q r.plan (sym right ∙ r.right)).3 ∙ r.next in
      let k = subst (λ z. HandlesBare c.args.cell x z own h q c.args.pen.now.me c.load.new.seat.me) c.requires.at (c.load.ensures.2 c.args.cell x own h q right r.low refl (next ∙ ap (λ z. 8 * z + x) (sym c.requires.at))) in
      let now = bare_seat c.args.cell x p own h q c.args.pen.now.me c.load.new.seat.me c.exchange.new.seat.me c.args.key k r.bare c.exchange.ensures.3 in
      c.load-2.ensures.2 c.args.cell (32 * p + (8 * c.args.cell + x)) own h (record q { hand = Some (hand_with (8 * c.args.cell + x) p k.blank 0 0) }) (hand_with (8 * c.args.cell + x) p k.blank 0 0) c.args.key (ap (λ m. m.0.right) now) refl (ap (λ m. m.1) now)
      ∙ (λ j. (record (ap (λ m. m.0) now j) { right = Shelf c.args.cell own h (record q { keys = suc q.keys; vault = Some c.args.key; hand = None }) }, []));
}
