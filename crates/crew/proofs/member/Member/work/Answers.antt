-- The work was called with the worker and its part.
use Rattle.std.proofs.Common.{sym, ◌∙◌, refl}
use Rattle.crew.proofs.member.Member.work.Goals as goal

pub returns : goal.returns
returns g c = record {
  part = c.unwrap-part.result;
  had = sym c.take.ensures.value ∙ c.unwrap-part.ensures;
  done = c.take.ensures.after;
  gave = c.work-gave.result;
  gave_is = c.replace-before.ensures.after;
  did = record { argument = _; argument_is = refl; after_call = _; call = c.work-gave.ensures; left = refl };
}
