use Rattle.std.specs.Prelude.{MatchOption}
use Rattle.std.proofs.Common.{◌≡◌, ℕ, ◌+◌, ◌-◌, ◌*◌, ◌<◌, ◌≤◌, [], ◌∷◌, None, refl, sym, ap, ◌∙◌, subst, arith}
use Rattle.vault.specs.Keys.{IsKey}
use Rattle.sections.specs.Glossary.{View, Hand, vault_place, lent, hand_in, hand_with, Catches}
use Rattle.sections.specs.declared.view.Right.TheVariants.{Section}
use Rattle.sections.proofs.Taking.{draws_here, returns_here}
use Rattle.sections.proofs.Drawing.{catches_left, exchanged, has_one}
use Rattle.sections.proofs.Steps.{same_cpu}
use Rattle.sections.proofs.cpu.drawing.draw_part.Goals as goal

pub overflow_add-processor : goal.overflow_add-processor
overflow_add-processor g c = let p = c.ranges.processor.fits in omega (arith, p)

pub overflow_add-processor-2 : goal.overflow_add-processor-2
overflow_add-processor-2 g c = let low = c.requires.0.low in let p = c.ranges.processor.fits in omega (arith, low, p)

pub cut-key-requires-clause-key : goal.cut-key-requires-clause-key
cut-key-requires-clause-key g c = let r = c.requires.0 in let k = c.take_key-key.ensures.holds r.section r.begun_on r.version r.index r.units r.offer r.right r.found in (k.count, k.round, (k.opens.0 ∙ c.requires.1, k.opens.1))

pub exchange-requires : goal.exchange-requires
exchange-requires g c = let t = c.take_key-key.ensures in (t.same_table ∙ c.requires.0.seated, (t.blank, has_one _ _ _ t.blank t.carried))

pub load-requires : goal.load-requires
load-requires g c = let r = c.requires.0 in let y : ℕ = c.args.slot in let p : ℕ = c.args.processor in let t = c.take_key-key.ensures in let k = t.holds r.section r.begun_on r.version r.index r.units r.offer r.right r.found in
    let h : Hand = hand_with y p c.take_key-key.result k.count k.round in
    let now = exchanged c.take_key-key.new.seat.me c.exchange.new.seat.me (32 * p + y) t.blank c.cut-key.result.0 [] t.carried c.exchange.ensures.3 in
    let cut = subst (λ z. MatchOption z ((k.count ≤ 1) × IsKey c.args.vault.now (vault_place y p) k.count k.round c.cut-key.result.0) (λ part. (1 < k.count) × (part.count ≡ 1) × (part.round ≡ k.round) × IsKey c.args.vault.now (vault_place y p) (k.count - 1) k.round c.cut-key.result.0)) c.in-Some.is
    (c.cut-key.ensures k.count k.round (k.opens.0 ∙ c.requires.1, k.opens.1)) in (
      c.exchange.ensures.0 ∙ (t.same_table ∙ r.seated),
      r.some,
      draws_here c.args.top.now.key _ _ y r.section r.begun_on (k.count - 1) k.round r.index r.units h c.cut-key.result.0 c.exchange.new.seat.me (ap (λ m. m.0.right) now ∙ k.held)
          (ap (λ m. m.1) now) (cut.3.0 ∙ sym (k.opens.0 ∙ c.requires.1), cut.3.1) (let more = cut.0 in omega (arith, more)) (let more = cut.0 in omega (arith, more)) refl,
    )

pub load-requires-in-None : goal.load-requires-in-None
load-requires-in-None g c = let r = c.requires.0 in let y : ℕ = c.args.slot in let p : ℕ = c.args.processor in let t = c.take_key-key.ensures in let k = t.holds r.section r.begun_on r.version r.index r.units r.offer r.right r.found in
    let h : Hand = hand_with y p c.take_key-key.result k.count k.round in
    let now = exchanged c.take_key-key.new.seat.me c.exchange.new.seat.me (32 * p + y) t.blank c.cut-key.result.0 [] t.carried c.exchange.ensures.3 in
    let cut = subst (λ z. MatchOption z ((k.count ≤ 1) × IsKey c.args.vault.now (vault_place y p) k.count k.round c.cut-key.result.0) (λ part. (1 < k.count) × (part.count ≡ 1) × (part.round ≡ k.round) × IsKey c.args.vault.now (vault_place y p) (k.count - 1) k.round c.cut-key.result.0)) c.in-None.is
    (c.cut-key.ensures k.count k.round (k.opens.0 ∙ c.requires.1, k.opens.1)) in (
      c.exchange.ensures.0 ∙ (t.same_table ∙ r.seated),
      r.some,
      returns_here c.args.top.now.key _ _ y r.section r.begun_on k.count k.round r.index r.units h c.cut-key.result.0 c.exchange.new.seat.me (ap (λ m. m.0.right) now ∙ k.held) (ap (λ m. m.1) now) (cut.1.0 ∙ sym (k.opens.0 ∙ c.requires.1), cut.1.1) refl refl,
    )

pub returns-in-Some : goal.returns-in-Some
returns-in-Some g c = let r = c.requires.0 in let y : ℕ = c.args.slot in let p : ℕ = c.args.processor in let t = c.take_key-key.ensures in
    let now = exchanged c.take_key-key.new.seat.me c.exchange.new.seat.me (32 * p + y) t.blank c.cut-key.result.0 [] t.carried c.exchange.ensures.3 in
    let k0 = t.holds r.section r.begun_on r.version r.index r.units r.offer r.right r.found in
    let done = c.load.ensures.2 r.section r.begun_on r.index r.units (hand_with y p c.take_key-key.result k0.count k0.round) (ap (λ m. m.0.right) now ∙ k0.held) in record {
      same_table = c.load.ensures.0 ∙ (c.exchange.ensures.0 ∙ t.same_table);
      bare = ap (λ m. m.1) done;
      catches = subst (λ (z : View). Catches c.args.seat.now.me.0 z) (sym (ap (λ m. m.0) done)) (catches_left _ _ _ _ (subst (λ (z : View). Catches c.args.seat.now.me.0 z) (sym (ap (λ m. m.0) now)) t.catches));
      free = ap (λ m. hand_in m.0.right) done;
      draws = λ s q v i us o right found. let k = t.holds s q v i us o right found in let end = c.load.ensures.2 s q i us (hand_with y p c.take_key-key.result k.count k.round) (ap (λ m. m.0.right) now ∙ k.held) in
          let cut =
          subst (λ z. MatchOption z ((k.count ≤ 1) × IsKey c.args.vault.now (vault_place y p) k.count k.round c.cut-key.result.0) (λ part. (1 < k.count) × (part.count ≡ 1) × (part.round ≡ k.round) × IsKey c.args.vault.now (vault_place y p) (k.count - 1) k.round c.cut-key.result.0)) c.in-Some.is
          (c.cut-key.ensures k.count k.round (k0.opens.0 ∙ c.requires.1, k.opens.1)) in
          let same : k.round ≡ o.round = k.rounds (let more = cut.0 in omega (arith, more)) in
          (cut.1, cut.2 ∙ same, ap (λ m. m.0.right) end ∙ (λ m. Section s q i (lent s y (same m) ∷ us) None));
    }

pub returns-in-None : goal.returns-in-None
returns-in-None g c = let r = c.requires.0 in let y : ℕ = c.args.slot in let p : ℕ = c.args.processor in let t = c.take_key-key.ensures in
    let now = exchanged c.take_key-key.new.seat.me c.exchange.new.seat.me (32 * p + y) t.blank c.cut-key.result.0 [] t.carried c.exchange.ensures.3 in
    let k0 = t.holds r.section r.begun_on r.version r.index r.units r.offer r.right r.found in
    let done = c.load-in-None.ensures.2 r.section r.begun_on r.index r.units (hand_with y p c.take_key-key.result k0.count k0.round) (ap (λ m. m.0.right) now ∙ k0.held) in record {
      same_table = c.load-in-None.ensures.0 ∙ (c.exchange.ensures.0 ∙ t.same_table);
      bare = ap (λ m. m.1) done;
      catches = subst (λ (z : View). Catches c.args.seat.now.me.0 z) (sym (ap (λ m. m.0) done)) (catches_left _ _ _ _ (subst (λ (z : View). Catches c.args.seat.now.me.0 z) (sym (ap (λ m. m.0) now)) t.catches));
      free = ap (λ m. hand_in m.0.right) done;
      draws = λ s q v i us o right found. let k = t.holds s q v i us o right found in let end = c.load-in-None.ensures.2 s q i us (hand_with y p c.take_key-key.result k.count k.round) (ap (λ m. m.0.right) now ∙ k.held) in
          let cut =
          subst (λ z. MatchOption z ((k.count ≤ 1) × IsKey c.args.vault.now (vault_place y p) k.count k.round c.cut-key.result.0) (λ part. (1 < k.count) × (part.count ≡ 1) × (part.round ≡ k.round) × IsKey c.args.vault.now (vault_place y p) (k.count - 1) k.round c.cut-key.result.0)) c.in-None.is
          (c.cut-key.ensures k.count k.round (k0.opens.0 ∙ c.requires.1, k.opens.1)) in
          (ap (λ m. m.0.right) end, record { count = k.count; left = ap (λ m. m.0.left) end; few = cut.0; some = λ a is lt. let same = same_cpu p a (sym (ap (λ m. m.0.role) end ∙ (ap (λ m. m.0.role) now ∙ (t.catches.role ∙ r.role))) ∙ is) in k.some (omega (arith, same, lt)) });
    }
