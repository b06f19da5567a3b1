-- What came back, and that a version with no box was put then.
use Rattle.std.proofs.Common.{sym, subst}
use Rattle.domain.specs.Views.{CpuView}
use Rattle.boxes.specs.Boxes.{BoxWriterView}
use Rattle.boxes.specs.Writing.{ReplacesNone}
use Rattle.boxes.proofs.Replacing.{none_back}
use Rattle.boxes.proofs.writer.BoxWriter.retire.Goals as goal

pub returns-in-Some-clause-puts : goal.returns-in-Some-clause-puts
returns-in-Some-clause-puts g c = record {
  freed = c.reclaim-back.new.self;
  at = c.reclaim-back.new.cpu;
  back = c.reclaim-back.ensures.back;
  rest = c.reclaim-back.ensures.rest;
  cookie = _;
  puts = c.in-Some.ensures.puts;
}

pub returns-in-None-clause-puts : goal.returns-in-None-clause-puts
returns-in-None-clause-puts g c =
    let none = c.in-None.ensures.puts in
    subst (λ (z : BoxWriterView _ _). ReplacesNone c.args.self.now c.args.cpu.now z c.put_none.new.cpu) (sym none.1)
    (subst (λ (z : CpuView _). ReplacesNone c.args.self.now c.args.cpu.now c.reclaim-back.new.self z) (sym none.2) (record {
      back = none_back c.reclaim-back.result c.args.self.now c.reclaim-back.new.self c.args.cpu.now.cpu c.reclaim-back.new.cpu.cpu c.reclaim-back.ensures.back none.0;
      none = none.0;
      rest = c.reclaim-back.ensures.rest;
    }))
