-- It says what was put in, or what lay there, where it was given.
use Rattle.std.proofs.Common.{ap, sym, ◌∙◌, subst}
use Rattle.calls.specs.Barriers.{CoversAll}
use Rattle.domain.specs.Views.{DomainView}
use Rattle.driver.proofs.Ending.{was_given}
use Rattle.driver.proofs.stop.Stop.give.Goals as goal

pub returns-then-is_some-clause-gives : goal.returns-then-is_some-clause-gives
returns-then-is_some-clause-gives g c =
    let found = c.take-sign.ensures.found in
    was_given c.args.self.now _ c.put_back-told.result _ found.0 (sym c.is_some.ensures ∙ c.if-is_some.true) (c.put_back-told.ensures.lock ∙ ap (λ s. s.stop) c.self.view_is) found.1 c.put_back-told.ensures.left

pub returns-clause-gives : goal.returns-clause-gives
returns-clause-gives g c = record {
  ticket = c.in-Ok.ticket;
  says = record {
    stop = c.put_back-told-2.ensures.lock ∙ ap (λ s. s.stop) c.self.view_is;
    before = c.take-sign.result.1.seen;
    seen = c.put_back-told-2.ensures.left;
  };
  covers = subst (λ (d : DomainView). CoversAll c.in-Ok.ticket d.processors c.args.cpu.now.calls.seen) (sym c.requires.domain) c.in-Ok.ensures.covers;
  starts = c.in-Ok.ensures.starts;
}
