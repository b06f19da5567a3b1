-- The last try put it, and those before it put nothing.
use Rattle.std.proofs.Common.{ap, ◌∙◌}
use Rattle.std.specs.Prelude.{Box}
use Rattle.std_alloc.specs.Box.{box_allocator}
use Rattle.onedom.proofs.CallerLemmas.{beginning_trans}
use Rattle.srcu.proofs.Putting.{puts_both}
use Rattle.srcu.proofs.Since.{vain_since}
use Rattle.srcu.proofs.Updating.{nothing_more}
use Rattle.srcu.proofs.worker.Worker.replace_box_wait.Goals as goal

pub returns-in-Ok-try_replace-clause-replaces : goal.returns-in-Ok-try_replace-clause-replaces
returns-in-Ok-try_replace-clause-replaces g c = record {
  last = c.loop.writer;
  vain = c.loop.invariant.nothing;
  at = c.loop.self.cpu;
  since = c.loop.invariant.since;
  only = c.loop.invariant.only;
  replaces = record {
    whole = c.loop.whole;
    holds = ap (λ (b : Box _ _). b.value) c.loop.invariant.whole ∙ c.in-Ok.ensures.ok;
    from = ap box_allocator c.loop.invariant.whole ∙ c.in-Ok.ensures.allocator;
    replaces = c.in-Ok-try_replace.ensures.replaces;
  };
}

pub returns-then-is_spent-clause-replaces : goal.returns-then-is_spent-clause-replaces
returns-then-is_spent-clause-replaces g c =
    let tried = c.in-Err-try_replace.ensures in (
      c.into_inner.ensures ∙ (ap (λ (b : Box _ _). b.value) (tried.replaces.0 ∙ c.loop.invariant.whole) ∙ c.in-Ok.ensures.ok),
      (
        nothing_more c.args.writer.now c.loop.writer c.try_replace.new.writer c.loop.invariant.nothing tried.replaces.1,
        puts_both (λ cell version. ⊥) c.args.self.now.cpu c.loop.self.cpu c.try_replace.new.self.cpu c.loop.invariant.only tried.only,
        c.if-is_spent.ensures,
      ),
    )

pub returns-in-Err-turn_or_refuse-clause-replaces : goal.returns-in-Err-turn_or_refuse-clause-replaces
returns-in-Err-turn_or_refuse-clause-replaces g c =
    let tried = c.in-Err-try_replace.ensures in (
      c.into_inner-in-Err-turn_or_refuse.ensures ∙ (ap (λ (b : Box _ _). b.value) (tried.replaces.0 ∙ c.loop.invariant.whole) ∙ c.in-Ok.ensures.ok),
      (
        nothing_more c.args.writer.now c.loop.writer c.try_replace.new.writer c.loop.invariant.nothing tried.replaces.1,
        puts_both (λ cell version. ⊥) c.args.self.now.cpu c.try_replace.new.self.cpu c.turn_or_refuse.new.self.cpu (puts_both (λ cell version. ⊥) c.args.self.now.cpu c.loop.self.cpu c.try_replace.new.self.cpu c.loop.invariant.only tried.only) c.turn_or_refuse.ensures.only,
        vain_since c.args.self.now.cpu c.try_replace.new.self.cpu c.turn_or_refuse.new.self.cpu (beginning_trans c.loop.invariant.since tried.since) c.in-Err-turn_or_refuse.ensures.vain,
      ),
    )

pub loop-preserved : goal.loop-preserved
loop-preserved g c =
    let v = c.loop.invariant in
    let t = c.try_replace.ensures in
    let tried = c.in-Err-try_replace.ensures in
    let s = c.turn_or_refuse.ensures.same in record {
      same = (s.0 ∙ (t.same.0 ∙ v.same.0), s.1 ∙ (t.same.1 ∙ v.same.1));
      cell = t.writer ∙ v.cell;
      nothing = nothing_more c.args.writer.now c.loop.writer c.try_replace.new.writer v.nothing tried.replaces.1;
      whole = tried.replaces.0 ∙ v.whole;
      only = puts_both (λ cell version. ⊥) c.args.self.now.cpu c.try_replace.new.self.cpu c.turn_or_refuse.new.self.cpu (puts_both (λ cell version. ⊥) c.args.self.now.cpu c.loop.self.cpu c.try_replace.new.self.cpu v.only tried.only) c.turn_or_refuse.ensures.only;
      since = beginning_trans (beginning_trans v.since tried.since) c.in-Ok-turn_or_refuse.ensures.since;
    }
