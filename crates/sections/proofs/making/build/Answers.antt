use Rattle.std.proofs.Common.{◌≤◌, ◌%◌, rules, ◌≡◌, List, ap, sym, ◌∙◌, subst, arith}
use Rattle.std.specs.Arc.{arc_value}
use Rattle.sections.specs.Glossary.{CpuView, new_cpu, AreNew, Bounds, View, word_count, number_word, steps_of, IsAtRest, AreNewWriters}
use Rattle.sections.specs.declared.view.Role.TheVariants.{Driver}
use Rattle.onedom.specs.declared.event.Maker.TheVariants.{Engine}
use Rattle.sections.proofs.Seating.{cells_are}
use Rattle.sections.proofs.Founding.{new_pushed, rests_founding}
use Rattle.sections.proofs.making.build.Goals as goal

pub loop-processor-init : goal.loop-processor-init
loop-processor-init g c = record {
  founder = rw c.in_ok-table-2.ensures.ok c.in_ok-writers.ensures.0;
  count = search rules;
  cpus_new = subst (λ (xs : List CpuView). AreNew (arc_value c.in_ok-table-2.table).shared.table_id c.args.bounds.processors c.args.bounds.sections xs) (sym c.in_ok-cpus.ensures.items) (λ k d lt. absurd (omega (arith, lt)));
}

pub deal-requires-clause-next : goal.deal-requires-clause-next
deal-requires-clause-next g c = c.loop-processor.invariant.founder

pub loop-processor-preserved : goal.loop-processor-preserved
loop-processor-preserved g c =
    let v = c.loop-processor.invariant in
    let d = c.in_ok-deal.ensures in
    let new : c.in_ok-deal.field-0 ≡ new_cpu (arc_value c.in_ok-table-2.table).shared.table_id c.args.bounds.processors c.args.bounds.sections c.loop-processor.processor =
    d.0 ∙ ap (λ t. new_cpu t c.args.bounds.processors c.args.bounds.sections c.loop-processor.processor) v.founder.seated in record {
      founder = d.1;
      count = search rules;
      cpus_new = subst (λ (xs : List CpuView). AreNew (arc_value c.in_ok-table-2.table).shared.table_id c.args.bounds.processors c.args.bounds.sections xs) (sym c.in_ok-push.ensures.items) (new_pushed _ _ _ _ _ _ v.count new v.cpus_new);
    }

pub invariant_of-result : goal.invariant_of-result
invariant_of-result g c =
    let f = c.loop-processor.invariant.founder in
    let all : c.loop-processor.processor ≡ c.args.bounds.processors = omega arith in
    let key = ap (λ (b : Bounds). b.processors) f.key_is in
    let few = c.requires.small.processors in
    let some = c.requires.small.some in
    record {
      placed = record { seated = f.seated; wide = f.wide ∙ ap (λ b. word_count b.processors b.cells) (sym f.key_is); cells = subst (λ (b : Bounds). b.cells ≤ 4) (sym f.key_is) c.requires.small.cells; bare = ap (λ m. m.1) f.me; sized = ap (λ m. m.0.processors) f.me ∙ sym key };
      rests = subst (λ (v : View). IsAtRest v) (sym (ap (λ m. m.0) f.me)) (rests_founding c.args.bounds c.loop-processor.processor);
      role = ap (λ m. m.0.role) f.me ∙ ap Driver (all ∙ sym key);
      processors = omega (arith, key, few);
      some = omega (arith, key, few, some);
      number = c.zero.ensures ∙ sym (ap (λ m. number_word m.0.changes) f.me);
      periods = ap (λ (b : Bounds). b.periods) (sym f.key_is);
      small = c.requires.small.words.periods;
      few = (let none = ap (λ m. m.0.changes) f.me in omega (arith, none));
    }

pub returns-clause-made : goal.returns-clause-made
returns-clause-made g c =
    let v = c.loop-processor.invariant in
    let f = v.founder in
    let done = c.loop-processor-test.false in
    let all : c.loop-processor.processor ≡ c.args.bounds.processors = omega arith in record {
      count = v.count ∙ all;
      cpus_new = subst (λ t. AreNew t c.args.bounds.processors c.args.bounds.sections c.loop-processor.cpus.items) (sym f.seated) v.cpus_new;
      engine_new = λ k. record {
        domain = c.loop-processor.seat.table_id;
        processors = (f.key_is k).processors;
        periods = c.args.bounds.periods;
        seen = (f.me k).0.seen;
        changes = (f.me k).0.changes;
        texts = (f.me k).0.texts;
        shown = (f.me k).0.shown;
        mine = (f.me k).0.mine;
        steps = steps_of Engine (f.me k).0.done;
      };
    }

pub returns-clause-writers : goal.returns-clause-writers
returns-clause-writers g c =
    let f = c.loop-processor.invariant.founder in
    let w = c.in_ok-writers.ensures in
    subst (λ t. AreNewWriters t c.args.bounds.cells c.args.slots c.in_ok-writers.writers.items) (w.0.seated ∙ (ap (λ t. t.shared.table_id) (sym c.in_ok-table-2.ensures.ok) ∙ sym f.seated)) w.1

pub returns-clause-cells : goal.returns-clause-cells
returns-clause-cells g c = let f = c.loop-processor.invariant.founder in ap (λ t. t.words % 16) f.seated ∙ cells_are _ _ f.wide c.requires.small.cells
