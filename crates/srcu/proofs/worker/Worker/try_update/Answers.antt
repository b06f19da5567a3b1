-- What the closure made of the current value was put, or nothing was.
use Rattle.std.proofs.Common.{Result, Ok, sym, subst}
use Rattle.srcu.specs.Updating.{MakesOf, current_in}
use Rattle.srcu.proofs.Updating.{makes_of}
use Rattle.srcu.proofs.worker.Worker.try_update.Goals as goal

pub returns-in-Ok-replace_box-clause-updates : goal.returns-in-Ok-replace_box-clause-updates
returns-in-Ok-replace_box-clause-updates g c = record {
  made = c.in-Ok.value;
  makes = subst (λ (r : Result _ _). MakesOf g.F.FnOnce c.args.make (current_in c.args.writer.now) r) c.in-Ok.is (makes_of g.F.FnOnce c.args.make c.current.result c.make.result c.args.writer.now c.current.ensures c.make.ensures);
  replaces = c.in-Ok-replace_box.ensures.replaces;
}

pub returns-in-Err-replace_box-clause-updates : goal.returns-in-Err-replace_box-clause-updates
returns-in-Err-replace_box-clause-updates g c =
    let h = c.in-Err-replace_box.ensures.replaces in
    let made = subst (λ (r : Result _ _). MakesOf g.F.FnOnce c.args.make (current_in c.args.writer.now) r) c.in-Ok.is (makes_of g.F.FnOnce c.args.make c.current.result c.make.result c.args.writer.now c.current.ensures c.make.ensures) in
    (subst (λ v. MakesOf g.F.FnOnce c.args.make (current_in c.args.writer.now) (Ok v)) (sym h.0) made, h.1)

pub returns-in-Err-clause-updates : goal.returns-in-Err-clause-updates
returns-in-Err-clause-updates g c =
    (subst (λ (r : Result _ _). MakesOf g.F.FnOnce c.args.make (current_in c.args.writer.now) r) c.in-Err.is (makes_of g.F.FnOnce c.args.make c.current.result c.make.result c.args.writer.now c.current.ensures c.make.ensures), search, search)
