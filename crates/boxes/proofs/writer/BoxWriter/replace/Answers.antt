-- What came back, and what was put then.
use Rattle.std.proofs.Common.{sym, ◌∙◌, subst}
use Rattle.domain.specs.Views.{CpuView}
use Rattle.boxes.specs.Boxes.{BoxWriterView}
use Rattle.boxes.specs.Writing.{ReplacesNone}
use Rattle.boxes.proofs.Replacing.{none_back}
use Rattle.boxes.proofs.writer.BoxWriter.replace.Goals as goal

pub returns-in-Ok-clause-puts : goal.returns-in-Ok-clause-puts
returns-in-Ok-clause-puts g c =
    let put = c.in-Ok.ensures.puts in record {
      freed = c.reclaim-old.new.self;
      at = c.reclaim-old.new.cpu;
      back = c.reclaim-old.ensures.back;
      rest = c.reclaim-old.ensures.rest;
      cookie = _;
      this = put.0;
      is = (sym put.1, sym put.2);
      puts = put.3;
    }

pub returns-in-Err-clause-puts : goal.returns-in-Err-clause-puts
returns-in-Err-clause-puts g c =
    let none = c.in-Err.ensures.puts in (
      none.0,
      subst (λ (z : BoxWriterView _ _). ReplacesNone c.args.self.now c.args.cpu.now z c.put.new.cpu) (sym none.2)
          (subst (λ (z : CpuView _). ReplacesNone c.args.self.now c.args.cpu.now c.reclaim-old.new.self z) (sym none.3) (record {
            back = none_back c.reclaim-old.result c.args.self.now c.reclaim-old.new.self c.args.cpu.now.cpu c.reclaim-old.new.cpu.cpu c.reclaim-old.ensures.back none.1;
            none = none.1;
            rest = c.reclaim-old.ensures.rest;
          })),
    )
