use Rattle.std.proofs.Common.{ℕ, ◌+◌, ◌*◌, [], None, sym, ap, ◌∙◌, subst, arith}
use Rattle.sections.specs.Glossary.{In, drop_first, Hand, View, units_in, hand_in, is_unit, hand_with, Catches}
use Rattle.sections.specs.declared.view.Right.TheVariants.{Section}
use Rattle.sections.proofs.Taking.{same_reader, pays_here}
use Rattle.sections.proofs.Drawing.{catches_left, exchanged, has_one}
use Rattle.sections.proofs.cpu.drawing.pay_part.Goals as goal

pub overflow_add-processor : goal.overflow_add-processor
overflow_add-processor g c = let p = c.ranges.processor.fits in omega (arith, p)

pub overflow_add-processor-2 : goal.overflow_add-processor-2
overflow_add-processor-2 g c = let low = c.requires.seat.0.low in let p = c.ranges.processor.fits in omega (arith, low, p)

pub add-key-requires : goal.add-key-requires
add-key-requires g c = let r = c.requires.seat.0 in let k = c.take_key-key.ensures.holds r.section r.begun_on r.version r.index r.units r.offer r.right r.found in let u = c.requires.unit in
    let room = k.room u.0 (subst (In u.0) (ap units_in r.right) u.1) u.2 in (k.count, k.round, (k.opens.0 ∙ c.requires.seat.1, k.opens.1), λ more. sym u.3 ∙ (room.1 ∙ sym (k.rounds more)))

pub exchange-requires : goal.exchange-requires
exchange-requires g c = let t = c.take_key-key.ensures in (t.same_table ∙ c.requires.seat.0.seated, (t.blank, has_one _ _ _ t.blank t.carried))

pub load-requires : goal.load-requires
load-requires g c = let r = c.requires.seat.0 in let y : ℕ = c.args.slot in let p : ℕ = c.args.processor in let t = c.take_key-key.ensures in let k = t.holds r.section r.begun_on r.version r.index r.units r.offer r.right r.found in let u = c.requires.unit in
    let h : Hand = hand_with y p c.take_key-key.result k.count k.round in
    let now = exchanged c.take_key-key.new.seat.me c.exchange.new.seat.me (32 * p + y) t.blank c.add-key.result [] t.carried c.exchange.ensures.3 in
    let added = c.add-key.ensures k.count k.round (k.opens.0 ∙ c.requires.seat.1, k.opens.1) in (
      c.exchange.ensures.0 ∙ (t.same_table ∙ r.seated),
      r.some,
      pays_here c.args.top.now.key _ _ y r.section r.begun_on (k.count + c.args.part.count) c.args.part.round r.index r.units h c.add-key.result u.0 c.exchange.new.seat.me (ap (λ m. m.0.right) now ∙ k.held) (ap (λ m. m.1) now) (added.0 ∙ sym (k.opens.0 ∙ c.requires.seat.1), added.1)
          (let one = c.requires.part in omega (arith, one)) (subst (In u.0) (ap units_in r.right) u.1) u.2 (sym u.3),
    )

pub returns : goal.returns
returns g c = let r = c.requires.seat.0 in let y : ℕ = c.args.slot in let p : ℕ = c.args.processor in let t = c.take_key-key.ensures in let u = c.requires.unit in
    let now = exchanged c.take_key-key.new.seat.me c.exchange.new.seat.me (32 * p + y) t.blank c.add-key.result [] t.carried c.exchange.ensures.3 in
    let k0 = t.holds r.section r.begun_on r.version r.index r.units r.offer r.right r.found in
    let views0 = (c.add-key.ensures k0.count k0.round (k0.opens.0 ∙ c.requires.seat.1, k0.opens.1)) in
    let done = c.load.ensures.2 r.section r.begun_on (32 * p + y) (k0.count + c.args.part.count) c.args.part.round r.index r.units (hand_with y p c.take_key-key.result k0.count k0.round) c.add-key.result
    (ap (λ m. m.0.right) now ∙ k0.held) (ap (λ m. m.1) now) (views0.0 ∙ sym (k0.opens.0 ∙ c.requires.seat.1), views0.1) in record {
      same_table = c.load.ensures.0 ∙ (c.exchange.ensures.0 ∙ t.same_table);
      bare = ap (λ m. m.1) done;
      catches = subst (λ (z : View). Catches c.args.seat.now.me.0 z) (sym (ap (λ m. m.0) done)) (catches_left _ _ _ _ (subst (λ (z : View). Catches c.args.seat.now.me.0 z) (sym (ap (λ m. m.0) now)) t.catches));
      free = ap (λ m. hand_in m.0.right) done;
      pays = λ s q i us right. let same = same_reader s q r.section r.begun_on i r.index us r.units None None (sym right ∙ r.right) in
          ap (λ m. m.0.right) done ∙ (λ m. Section (sym same.0 m) (sym same.1 m) (sym same.2 m) (drop_first (is_unit y c.args.part.round) (sym same.3 m)) None);
    }
