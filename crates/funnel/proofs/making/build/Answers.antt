use Rattle.std.proofs.Common.{rules, ◌≡◌, ◌<◌, List, refl, ap, sym, ◌∙◌, subst, arith}
use Rattle.std.specs.Arc.{arc_value}
use Rattle.funnel.specs.Glossary.{Shape, word_of, View, IsHolder, loads_of, IsAtRest, FunnelView, new_seat, AreNew}
use Rattle.funnel.specs.declared.view.Holder.TheVariants.{Processor, Engine}
use Rattle.funnel.proofs.Founding.{new_pushed, rests_founding}
use Rattle.funnel.proofs.Shaping.{least_some}
use Rattle.funnel.proofs.making.build.Goals as goal

pub loop-processor-init : goal.loop-processor-init
loop-processor-init g c = record {
  founder = rw c.in_ok-table-2.ensures.ok c.in_ok-table.ensures;
  count = search rules;
  seats_new = subst (λ (xs : List FunnelView). AreNew (arc_value c.in_ok-table-2.table).shared.table_id c.args.shape xs) (sym c.in_ok-seats.ensures.items) (λ k d lt. absurd (omega (arith, lt)));
}

pub deal-requires-clause-next : goal.deal-requires-clause-next
deal-requires-clause-next g c = c.loop-processor.invariant.founder

pub loop-processor-preserved : goal.loop-processor-preserved
loop-processor-preserved g c =
    let v = c.loop-processor.invariant in
    let d = c.in_ok-deal.ensures in
    let new : c.in_ok-deal.field-0 ≡ new_seat (arc_value c.in_ok-table-2.table).shared.table_id c.args.shape (Processor c.loop-processor.processor) =
    d.0 ∙ ap (λ t. new_seat t c.args.shape (Processor c.loop-processor.processor)) v.founder.seated in record {
      founder = d.1;
      count = search rules;
      seats_new = subst (λ (xs : List FunnelView). AreNew (arc_value c.in_ok-table-2.table).shared.table_id c.args.shape xs) (sym c.in_ok-push.ensures.items) (new_pushed _ _ _ _ _ v.count new v.seats_new);
    }

pub returns : goal.returns
returns g c =
    let v = c.loop-processor.invariant in
    let f = v.founder in
    let done = c.loop-processor-test.false in
    let all : c.loop-processor.processor ≡ c.args.shape.processors = omega arith in record {
      count = v.count ∙ all;
      seats_new = subst (λ t. AreNew t c.args.shape c.loop-processor.seats.items) (sym f.seated) v.seats_new;
      engine_new = λ k. record { domain = c.loop-processor.seat.table_id; shape = f.key_is k; holder = Engine; seen = (f.me k).0.seen; mine = (f.me k).0.client.mine; loads = loads_of Engine (f.me k).0.done };
    }

pub invariant_of-engine : goal.invariant_of-engine
invariant_of-engine g c = let f = c.loop-processor.invariant.founder in record {
  placed = record {
    seated = f.seated;
    wide = f.wide ∙ ap (λ (s : Shape). word_of s.nodes) (sym f.key_is);
    some = subst (λ (s : Shape). 0 < s.nodes) (sym f.key_is) (least_some _ _ c.requires.least);
    bare = ap (λ m. m.1) f.me;
    shaped = ap (λ m. m.0.client.shape) f.me ∙ sym f.key_is;
  };
  rests = subst (λ (v : View). IsAtRest v) (sym (ap (λ m. m.0) f.me)) (rests_founding c.args.shape c.loop-processor.processor);
  told = ap (λ m. m.0.told) f.me;
  holder = subst (λ (v : View). IsHolder v.role Engine) (sym (ap (λ m. m.0) f.me)) refl;
  nodes = ap (λ (s : Shape). s.nodes) (sym f.key_is);
  leaf = tt;
}
