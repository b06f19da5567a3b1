-- The slot was filled, and then it was put.
use Rattle.std.proofs.Common.{ℕ, ap, refl, subst}
use Rattle.sections.specs.WriterViews.{SlotView}
use Rattle.domain.specs.Glossary.{CpuView, asks_for, PutsAndThen, PutsAndAsks}
use Rattle.domain.proofs.publishing.publish.Goals as goal

pub returns-clause-puts : goal.returns-clause-puts
returns-clause-puts g c =
    let slot = ap (λ (z : SlotView). z.slot) c.fill.ensures.slot in
    let cookie = c.put_and_ask.result in (
      record {
        filled = c.fill.new.writer;
        fills = c.fill.ensures.fills;
        cookie = cookie;
        puts = subst (λ (z : ℕ × CpuView _). PutsAndAsks z.0 cookie c.fill.new.writer z.1 c.put_and_ask.new.writer c.put_and_ask.new.cpu) (λ i. (slot i, c.fill.ensures.cpu i)) c.put_and_ask.ensures.puts;
        acts = subst (λ (z : ℕ × ℕ × CpuView _). PutsAndThen (asks_for cookie 0) z.0 z.1 c.put_and_ask.new.writer.version z.2 c.put_and_ask.new.cpu) (λ i. (c.fill.ensures.fills.same.cell i, slot i, c.fill.ensures.cpu i)) c.put_and_ask.ensures.acts;
      },
      refl,
    )
