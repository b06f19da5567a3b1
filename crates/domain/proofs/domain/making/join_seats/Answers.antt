use Rattle.std.proofs.Common.{rules, ◌++◌, ap, sym, ◌∙◌, subst, List}
use Rattle.std.specs.Prelude.{option_to_list}
use Rattle.domain.specs.Views.{CpuView}
use Rattle.domain.proofs.Joining.{Joins, joins_none, joins_more}
use Rattle.domain.proofs.domain.making.join_seats.Goals as goal

pub loop-cpu-init : goal.loop-cpu-init
loop-cpu-init g c = record {
  joins = subst (λ (l : List (CpuView _)). Joins c.args.cpus.items c.args.needs.items c.args.turns.items c.args.calls.items c.args.cpus.items c.args.needs.items c.args.turns.items c.args.calls.items l)
      (sym c.in_ok-all.ensures.items) (joins_none _ _ _ _ c.requires.needs c.requires.turns c.requires.calls);
  long = search rules;
  room = search rules;
}

pub loop-cpu-preserved : goal.loop-cpu-preserved
loop-cpu-preserved g c = record {
  joins = subst (λ (l : List (CpuView _)). Joins c.args.cpus.items c.args.needs.items c.args.turns.items c.args.calls.items c.pop.new.self.items c.pop-in-Some.new.self.items c.pop-in-Some-2.new.self.items c.pop-in-Some-3.new.self.items l) (sym c.push_reserved.ensures.items)
      (joins_more _ _ _ _ _ _ _ _ _ _ _ _ _ _ _ _ _ c.loop-cpu.invariant.joins c.in-Some.ensures.items (c.pop-in-Some.ensures.items ∙ ap (λ o. c.pop-in-Some.new.self.items ++ option_to_list o) c.unwrap.ensures)
      (c.pop-in-Some-2.ensures.items ∙ ap (λ o. c.pop-in-Some-2.new.self.items ++ option_to_list o) c.unwrap-in-Some.ensures) (c.pop-in-Some-3.ensures.items ∙ ap (λ o. c.pop-in-Some-3.new.self.items ++ option_to_list o) c.unwrap-in-Some-2.ensures));
  long = search rules;
  room = search rules;
}
