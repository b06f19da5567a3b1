use Rattle.std.proofs.Common.{◌≡◌, ℕ, ◌+◌, ◌-◌, ◌*◌, [], Some, refl, sym, ap, ◌∙◌, subst, arith}
use mathlib.Core.Option.{none}
use Rattle.atomic_table.specs.Table.{step, Allows}
use Rattle.vault.specs.Keys.{IsKey}
use Rattle.sections.specs.Glossary.{Hand, bank_of, with_bank, Kept, hand_with, HandlesKey, handled, bank_laid}
use Rattle.sections.specs.declared.view.Right.TheVariants.{Shelf}
use Rattle.sections.proofs.Laying.{handles_here, lays_here}
use Rattle.sections.proofs.Drawing.{out_is, has_one}
use Rattle.sections.proofs.Handling.{ready_at, handled_seat}
use Rattle.sections.proofs.cpu.laying.lay_parts.Goals as goal

pub overflow_add-place : goal.overflow_add-place
overflow_add-place g c = let p = c.ranges.processor.fits in let lx = c.requires.pen.0.low in let lc = c.requires.pen.0.inside in omega (arith, p, lx, lc)

pub load-requires : goal.load-requires
load-requires g c = let r = c.requires.pen.0 in (
  r.seated,
  r.some,
  subst (λ (n : ℕ). Allows (Kept c.args.top.now.key) c.args.top.now.table_id.slots c.args.pen.now.id c.args.pen.now.me (8 * c.args.cell + c.args.slot) (λ z. z) (handled n (step c.args.top.now.table_id.slots (8 * c.args.cell + c.args.slot) 0 0 none) c.args.pen.now.me)) (sym c.requires.at)
      (handles_here c.args.top.now.key _ _ _ c.args.cell c.args.slot c.args.processor r.own r.upto r.plan c.args.pen.now.me r.right r.free (c.requires.pen.1 r.own r.upto r.plan r.right) r.low r.cells r.there r.keyed refl),
)

pub exchange-key-requires : goal.exchange-key-requires
exchange-key-requires g c = let r = c.requires.pen.0 in let k = subst (λ z. HandlesKey c.args.cell c.args.slot z r.own r.upto r.plan c.args.pen.now.me c.load.new.seat.me) c.requires.at (c.load.ensures.2 c.args.cell c.args.slot r.own r.upto r.plan r.right r.low refl) in
    (c.load.ensures.0 ∙ r.seated, (k.key, has_one _ _ _ k.key (ap (λ m. m.1) k.after)))

pub add-key-requires : goal.add-key-requires
add-key-requires g c = let r = c.requires.pen.0 in let k = subst (λ z. HandlesKey c.args.cell c.args.slot z r.own r.upto r.plan c.args.pen.now.me c.load.new.seat.me) c.requires.at (c.load.ensures.2 c.args.cell c.args.slot r.own r.upto r.plan r.right r.low refl) in
    let out = out_is _ _ _ k.key c.exchange-key.result (ap (λ m. m.1) k.after) c.exchange-key.ensures.2 in let few = c.requires.fits c.args.cell r.own r.upto r.plan r.right in
    (k.count, k.round, subst (λ z. IsKey c.args.vault.now (8 * c.args.processor + c.args.slot) k.count k.round z) (sym out) (k.opens.0 ∙ r.vault_is, k.opens.1), λ more. few.2 (let le = k.few in omega (arith, more, le)) ∙ sym (k.rounds more))

pub exchange-requires : goal.exchange-requires
exchange-requires g c = let r = c.requires.pen.0 in (c.exchange-key.ensures.0 ∙ (c.load.ensures.0 ∙ r.seated), (c.blank.result, has_one _ _ _ c.blank.result (ap (λ m. m.1) c.exchange-key.ensures.3)))

pub load-requires-2 : goal.load-requires-2
load-requires-2 g c = let r = c.requires.pen.0 in let x : ℕ = c.args.slot in let p : ℕ = c.args.processor in
    let k = subst (λ z. HandlesKey c.args.cell c.args.slot z r.own r.upto r.plan c.args.pen.now.me c.load.new.seat.me) c.requires.at (c.load.ensures.2 c.args.cell c.args.slot r.own r.upto r.plan r.right r.low refl) in
    let out = out_is _ _ _ k.key c.exchange-key.result (ap (λ m. m.1) k.after) c.exchange-key.ensures.2 in let few = c.requires.fits c.args.cell r.own r.upto r.plan r.right in
    let now = handled_seat c.args.cell x p r.own r.upto r.plan c.args.pen.now.me c.load.new.seat.me c.exchange-key.new.seat.me c.exchange.new.seat.me c.blank.result c.add-key.result k r.bare c.exchange-key.ensures.3 c.exchange.ensures.3 in
    let added = c.add-key.ensures k.count k.round (subst (λ z. IsKey c.args.vault.now (8 * p + x) k.count k.round z) (sym out) (k.opens.0 ∙ r.vault_is, k.opens.1)) in
    let h : Hand = hand_with (8 * c.args.cell + x) p k.key k.count k.round in let some_more = few.0 in let fit = few.1 in (
      c.exchange.ensures.0 ∙ (c.exchange-key.ensures.0 ∙ (c.load.ensures.0 ∙ r.seated)),
      r.some,
      lays_here c.args.top.now.key _ _ _ c.args.cell x (k.count + c.args.pile.part.count) c.args.pile.part.round r.own r.upto (record r.plan { hand = Some h }) h c.add-key.result c.exchange.new.seat.me (ap (λ m. m.0.right) now) refl r.low refl r.keyed (ap (λ m. m.1) now)
          (ready_at _ _ c.args.cell x p _ _ c.add-key.result r.low (sym (k.opens.0 ∙ r.vault_is)) added) (omega arith) (λ _ laid. few.2 laid) (omega (arith, fit)) (omega (arith, some_more)),
    )

pub returns : goal.returns
returns g c = let r = c.requires.pen.0 in let x : ℕ = c.args.slot in let p : ℕ = c.args.processor in record {
  same_table = c.load-2.ensures.0 ∙ (c.exchange.ensures.0 ∙ (c.exchange-key.ensures.0 ∙ c.load.ensures.0));
  after = λ own h q right. let k = subst (λ z. HandlesKey c.args.cell x z own h q c.args.pen.now.me c.load.new.seat.me) c.requires.at (c.load.ensures.2 c.args.cell x own h q right r.low refl) in
      let r0 = subst (λ z. HandlesKey c.args.cell x z r.own r.upto r.plan c.args.pen.now.me c.load.new.seat.me) c.requires.at (c.load.ensures.2 c.args.cell x r.own r.upto r.plan r.right r.low refl) in
      let out = out_is _ _ _ k.key c.exchange-key.result (ap (λ m. m.1) k.after) c.exchange-key.ensures.2 in let out0 = out_is _ _ _ r0.key c.exchange-key.result (ap (λ m. m.1) r0.after) c.exchange-key.ensures.2 in
      let now = handled_seat c.args.cell x p own h q c.args.pen.now.me c.load.new.seat.me c.exchange-key.new.seat.me c.exchange.new.seat.me c.blank.result c.add-key.result k r.bare c.exchange-key.ensures.3 c.exchange.ensures.3 in
      let in_vault = ap (λ z. z.table_id) (sym out) ∙ (ap (λ z. z.table_id) out0 ∙ (r0.opens.0 ∙ r.vault_is)) in
      let added = c.add-key.ensures k.count k.round (subst (λ z. IsKey c.args.vault.now (8 * p + x) k.count k.round z) (sym out) (in_vault, k.opens.1)) in
      let g' : Hand = hand_with (8 * c.args.cell + x) p k.key k.count k.round in
      let end = c.load-2.ensures.2 c.args.cell x (32 * p + (8 * c.args.cell + x)) (k.count + c.args.pile.part.count) c.args.pile.part.round own h (record q { hand = Some g' }) g' c.add-key.result
      (ap (λ m. m.0.right) now) refl r.low refl (ap (λ m. m.1) now) (ready_at _ _ c.args.cell x p _ _ c.add-key.result r.low (sym in_vault) added) in
      end ∙ (λ j. (record (ap (λ m. m.0) now j) { right = Shelf c.args.cell own h (with_bank q x (bank_laid (bank_of q x) p ((let e : k.count + c.args.pile.part.count - k.count ≡ c.args.pile.part.count = omega arith in e) j) c.args.pile.part.round)) }, []));
}
