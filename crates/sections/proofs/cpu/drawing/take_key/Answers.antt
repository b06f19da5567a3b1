use Rattle.std.proofs.Common.{ℕ, ◌+◌, ◌*◌, ◌∷◌, Some, sym, ap, ◌∙◌, subst, arith}
use Rattle.vault.specs.Keys.{IsKey}
use Rattle.sections.specs.Glossary.{View, vault_place, vault_in, hand_with, Catches}
use Rattle.sections.specs.declared.view.Right.TheVariants.{Section}
use Rattle.sections.proofs.Taking.{takes_here}
use Rattle.sections.proofs.Drawing.{out_is, has_one, exchanged}
use Rattle.sections.proofs.cpu.drawing.take_key.Goals as goal

pub load-requires : goal.load-requires
load-requires c = let r = c.requires in (r.seated, r.some, takes_here c.args.top.now.key _ _ c.args.slot r.section r.begun_on c.args.processor r.version r.index r.units r.offer c.args.seat.now.me r.sized r.role r.there r.right r.found r.all_keys r.cell r.low)

pub overflow_add-processor : goal.overflow_add-processor
overflow_add-processor c = let low = c.requires.low in let p = c.ranges.processor.fits in omega (arith, low, p)

pub exchange-requires : goal.exchange-requires
exchange-requires c = let r = c.requires in let t = c.load.ensures.2 r.section r.begun_on c.args.processor r.version r.index r.units r.offer r.role r.right r.found in
    (c.load.ensures.0 ∙ r.seated, (t.key, has_one _ _ _ t.key t.carried))

pub returns : goal.returns
returns c = let r = c.requires in let y : ℕ = c.args.slot in let p : ℕ = c.args.processor in let t = c.load.ensures.2 r.section r.begun_on p r.version r.index r.units r.offer r.role r.right r.found in
    let now = exchanged c.load.new.seat.me c.exchange.new.seat.me (32 * p + y) t.key c.blank.result c.args.seat.now.me.1 t.carried c.exchange.ensures.3 in record {
      same_table = c.exchange.ensures.0 ∙ c.load.ensures.0;
      blank = c.blank.result;
      carried = ap (λ m. m.1) now ∙ ap (λ l. (32 * p + y, c.blank.result) ∷ l) r.bare;
      catches = subst (λ (z : View). Catches c.args.seat.now.me.0 z) (sym (ap (λ m. m.0) now)) t.catches;
      holds = λ s q v i us o right found. let z = c.load.ensures.2 s q p v i us o r.role right found in let out = out_is _ _ _ z.key c.exchange.result z.carried c.exchange.ensures.2 in record {
        count = z.count;
        round = z.round;
        opens = subst (λ k. IsKey (vault_in o.vault) (vault_place y p) z.count z.round k) (sym out) z.opens;
        some = z.some;
        rounds = z.rounds;
        room = z.room;
        held = ap (λ m. m.0.right) now ∙ (z.right ∙ (λ m. Section s q i us (Some (hand_with y p (sym out m) z.count z.round))));
      };
    }
