use Rattle.std.proofs.Common.{◌≡◌, ℕ, suc, ◌+◌, ◌*◌, [], Some, refl, sym, ap, ◌∙◌, subst, arith}
use mathlib.Core.Option.{none}
use Rattle.atomic_table.specs.Table.{step, Allows}
use Rattle.vault.specs.Keys.{IsKey}
use Rattle.sections.specs.Glossary.{Hand, bank_of, with_bank, Kept, hand_with, HandlesKey, handled, bank_emptied, emptied}
use Rattle.sections.specs.declared.view.Right.TheVariants.{Shelf}
use Rattle.sections.proofs.Laying.{handles_here, empties_here}
use Rattle.sections.proofs.Drawing.{out_is, has_one}
use Rattle.sections.proofs.Handling.{ready_at, handled_seat, counted, rounded}
use Rattle.sections.proofs.cpu.laying.empty_key.Goals as goal

pub overflow_add-place : goal.overflow_add-place
overflow_add-place g c = let p = c.ranges.processor.fits in let lx = c.requires.pen.0.low in let lc = c.requires.pen.0.inside in omega (arith, p, lx, lc)

pub load-requires : goal.load-requires
load-requires g c = let r = c.requires.pen.0 in (
  r.seated,
  r.some,
  subst (λ (n : ℕ). Allows (Kept c.args.top.now.key) c.args.top.now.table_id.slots c.args.pen.now.id c.args.pen.now.me (8 * c.args.cell + c.args.slot) (λ z. z) (handled n (step c.args.top.now.table_id.slots (8 * c.args.cell + c.args.slot) 0 0 none) c.args.pen.now.me)) (sym c.requires.at.0)
      (handles_here c.args.top.now.key _ _ _ c.args.cell c.args.slot c.args.processor r.own r.upto r.plan c.args.pen.now.me r.right r.free (c.requires.pen.1 r.own r.upto r.plan r.right) r.low r.cells r.there r.keyed refl),
)

pub exchange-key-requires : goal.exchange-key-requires
exchange-key-requires g c = let r = c.requires.pen.0 in let k = subst (λ z. HandlesKey c.args.cell c.args.slot z r.own r.upto r.plan c.args.pen.now.me c.load.new.seat.me) c.requires.at.0 (c.load.ensures.2 c.args.cell c.args.slot r.own r.upto r.plan r.right r.low refl) in
    (c.load.ensures.0 ∙ r.seated, (k.key, has_one _ _ _ k.key (ap (λ m. m.1) k.after)))

pub empty-key-requires : goal.empty-key-requires
empty-key-requires g c = let r = c.requires.pen.0 in let k = subst (λ z. HandlesKey c.args.cell c.args.slot z r.own r.upto r.plan c.args.pen.now.me c.load.new.seat.me) c.requires.at.0 (c.load.ensures.2 c.args.cell c.args.slot r.own r.upto r.plan r.right r.low refl) in
    let out = out_is _ _ _ k.key c.exchange-key.result (ap (λ m. m.1) k.after) c.exchange-key.ensures.2 in
    (k.count, k.round, subst (λ z. IsKey c.args.vault.now (8 * c.args.processor + c.args.slot) k.count k.round z) (sym out) (k.opens.0 ∙ r.vault_is, k.opens.1))

pub exchange-requires : goal.exchange-requires
exchange-requires g c = let r = c.requires.pen.0 in (c.exchange-key.ensures.0 ∙ (c.load.ensures.0 ∙ r.seated), (c.blank.result, has_one _ _ _ c.blank.result (ap (λ m. m.1) c.exchange-key.ensures.3)))

pub load-requires-2 : goal.load-requires-2
load-requires-2 g c = let r = c.requires.pen.0 in let x : ℕ = c.args.slot in let p : ℕ = c.args.processor in
    let k = subst (λ z. HandlesKey c.args.cell c.args.slot z r.own r.upto r.plan c.args.pen.now.me c.load.new.seat.me) c.requires.at.0 (c.load.ensures.2 c.args.cell c.args.slot r.own r.upto r.plan r.right r.low refl) in
    let out = out_is _ _ _ k.key c.exchange-key.result (ap (λ m. m.1) k.after) c.exchange-key.ensures.2 in
    let now = handled_seat c.args.cell x p r.own r.upto r.plan c.args.pen.now.me c.load.new.seat.me c.exchange-key.new.seat.me c.exchange.new.seat.me c.blank.result c.empty-key.result.0 k r.bare c.exchange-key.ensures.3 c.exchange.ensures.3 in
    let emptied_now = c.empty-key.ensures k.count k.round (subst (λ z. IsKey c.args.vault.now (8 * p + x) k.count k.round z) (sym out) (k.opens.0 ∙ r.vault_is, k.opens.1)) in
    let h : Hand = hand_with (8 * c.args.cell + x) p k.key k.count k.round in (
      c.exchange.ensures.0 ∙ (c.exchange-key.ensures.0 ∙ (c.load.ensures.0 ∙ r.seated)),
      r.some,
      subst (λ (n : ℕ). Allows (Kept c.args.top.now.key) c.args.top.now.table_id.slots c.exchange.new.seat.id c.exchange.new.seat.me (8 * c.args.cell + x) (λ z. z) (emptied n (step c.args.top.now.table_id.slots (8 * c.args.cell + x) 0 0 none) c.exchange.new.seat.me)) (sym c.requires.at.1)
          (empties_here c.args.top.now.key _ _ _ c.args.cell x k.round r.own r.upto (record r.plan { hand = Some h }) h c.empty-key.result.0 c.exchange.new.seat.me (ap (λ m. m.0.right) now) refl r.low r.cells refl r.keyed (ap (λ m. m.1) now)
          (ready_at _ _ c.args.cell x p _ _ c.empty-key.result.0 r.low (sym (k.opens.0 ∙ r.vault_is)) emptied_now.0) (c.requires.next c.args.cell r.own r.upto r.plan r.right)),
    )

pub returns : goal.returns
returns g c = let r = c.requires.pen.0 in let x : ℕ = c.args.slot in let p : ℕ = c.args.processor in
    let key_of : (own : _) (h : _) (q : _) → c.args.pen.now.me.0.right ≡ Shelf c.args.cell own h q → HandlesKey c.args.cell x p own h q c.args.pen.now.me c.load.new.seat.me =
    (λ own h q right. subst (λ z. HandlesKey c.args.cell x z own h q c.args.pen.now.me c.load.new.seat.me) c.requires.at.0 (c.load.ensures.2 c.args.cell x own h q right r.low refl)) in
    let r0 = key_of r.own r.upto r.plan r.right in let out0 = out_is _ _ _ r0.key c.exchange-key.result (ap (λ m. m.1) r0.after) c.exchange-key.ensures.2 in
    let in_vault = ap (λ z. z.table_id) out0 ∙ (r0.opens.0 ∙ r.vault_is) in record {
      same_table = c.load-2.ensures.0 ∙ (c.exchange.ensures.0 ∙ (c.exchange-key.ensures.0 ∙ c.load.ensures.0));
      after = λ own h q right. let k = key_of own h q right in let out = out_is _ _ _ k.key c.exchange-key.result (ap (λ m. m.1) k.after) c.exchange-key.ensures.2 in
          let now = handled_seat c.args.cell x p own h q c.args.pen.now.me c.load.new.seat.me c.exchange-key.new.seat.me c.exchange.new.seat.me c.blank.result c.empty-key.result.0 k r.bare c.exchange-key.ensures.3 c.exchange.ensures.3 in
          let emptied_now = c.empty-key.ensures k.count k.round (in_vault, ap (λ z. z.views) out ∙ k.opens.1) in
          let end = c.load-2.ensures.2 c.args.cell x own h (record q { hand = Some (hand_with (8 * c.args.cell + x) p k.key k.count k.round) }) (hand_with (8 * c.args.cell + x) p k.key k.count k.round) (ap (λ m. m.0.right) now) refl r.low refl in
          end.0 ∙ (λ j. (record (ap (λ m. m.0) now j) { right = Shelf c.args.cell own h (with_bank q x (bank_emptied (bank_of q x) p (sym (counted c.empty-key.result.1 k.count k.round emptied_now.1) j))) }, []));
      few = λ own h q right. let k = key_of own h q right in let out = out_is _ _ _ k.key c.exchange-key.result (ap (λ m. m.1) k.after) c.exchange-key.ensures.2 in let emptied_now = c.empty-key.ensures k.count k.round (in_vault, ap (λ z. z.views) out ∙ k.opens.1) in
          let n = counted c.empty-key.result.1 k.count k.round emptied_now.1 in let le = k.few in (omega (arith, n, le), λ more. rounded c.empty-key.result.1 k.count k.round emptied_now.1 more ∙ k.rounds (omega (arith, n, more)));
      all = λ own h q right last. let k = key_of own h q right in let out = out_is _ _ _ k.key c.exchange-key.result (ap (λ m. m.1) k.after) c.exchange-key.ensures.2 in let emptied_now = c.empty-key.ensures k.count k.round (in_vault, ap (λ z. z.views) out ∙ k.opens.1) in
          let now = handled_seat c.args.cell x p own h q c.args.pen.now.me c.load.new.seat.me c.exchange-key.new.seat.me c.exchange.new.seat.me c.blank.result c.empty-key.result.0 k r.bare c.exchange-key.ensures.3 c.exchange.ensures.3 in
          let end = c.load-2.ensures.2 c.args.cell x own h (record q { hand = Some (hand_with (8 * c.args.cell + x) p k.key k.count k.round) }) (hand_with (8 * c.args.cell + x) p k.key k.count k.round) (ap (λ m. m.0.right) now) refl r.low refl in
          end.1 (last ∙ sym c.requires.at.1) ∙ sym (counted c.empty-key.result.1 k.count k.round emptied_now.1);
    }
