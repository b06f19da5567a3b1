-- What the closure made of the value was put right after it, or nothing was.
use Rattle.std.proofs.Common.{List, Result, Ok, ◌∷◌, refl, sym, ap, ◌∙◌, subst}
use Rattle.std.specs.Fn.{FnOnceReturns}
use Rattle.srcu.specs.declared.live.Stage.{Stage}
use Rattle.srcu.specs.declared.live.Stage.TheVariants.{There}
use Rattle.srcu.proofs.Living.{leaves_at, puts_at}
use Rattle.srcu.proofs.Updating.{nothing_yet}
use Rattle.srcu.proofs.live.Live.try_update.Goals as goal

pub returns-in-Ok-put-clause-updates : goal.returns-in-Ok-put-clause-updates
returns-in-Ok-put-clause-updates g c =
    let h = c.in-Ok-put.ensures.puts in record {
      shown = c.shown.result.now;
      made = c.in-Ok.value;
      makes = (c.shown.result, subst (λ (r : Result _ _). FnOnceReturns g.F.FnOnce c.args.make (c.shown.result, tt) r) c.in-Ok.is c.make.ensures, refl);
      puts = puts_at c.args.self.now c.take-place.result.0.writer h.0 c.shown.result.now c.in-Ok.value c.in-Ok-put.updated.older c.in-Ok-put.updated.seen c.args.worker.now.cpu c.put.new.worker.cpu c.shown.ensures h.1 h.2;
    }

pub returns-in-Err-put-clause-updates : goal.returns-in-Err-put-clause-updates
returns-in-Err-put-clause-updates g c =
    let h = c.in-Err-put.ensures.puts in (
      record {
        shown = c.shown.result.now;
        makes = (c.shown.result, subst (λ v. FnOnceReturns g.F.FnOnce c.args.make (c.shown.result, tt) (Ok v)) (sym h.0) (subst (λ (r : Result _ _). FnOnceReturns g.F.FnOnce c.args.make (c.shown.result, tt) r) c.in-Ok.is c.make.ensures), refl);
        leaves = leaves_at c.args.self.now c.take-place.result.0.writer h.1.0 c.shown.result.now c.in-Err-put.unchanged.seen c.shown.ensures h.1.1 h.1.2;
      },
      h.2,
    )

pub returns-in-Err-clause-updates : goal.returns-in-Err-clause-updates
returns-in-Err-clause-updates g c =
    let found = c.take-place.ensures.found in (
      record {
        shown = c.shown.result.now;
        makes = (c.shown.result, subst (λ (r : Result _ _). FnOnceReturns g.F.FnOnce c.args.make (c.shown.result, tt) r) c.in-Err.is c.make.ensures, refl);
        leaves = record {
          lock = c.give-seen.ensures.lock;
          was = c.take-place.result.0.writer;
          left = c.take-place.result.0.writer;
          before = found.0;
          seen = c.give-seen.ensures.left ∙ ap (λ (s : List (Stage _)). There c.take-place.result.0.writer ∷ s) found.1;
          vain = nothing_yet c.take-place.result.0.writer;
          current = c.shown.ensures;
          now = c.shown.ensures;
        };
      },
      refl,
    )
