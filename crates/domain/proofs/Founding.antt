-- A new domain, from the parts that it is made of.
use Rattle.std.proofs.Common.{◌≡◌, ℕ, ◌<◌, List, All, length, slice_index_or, refl, sym, ap, ◌∙◌, subst, arith}
use Rattle.atomic_table.specs.Seated.{TableId}
use Rattle.sections.specs.declared.view.Bounds.{Bounds}
use Rattle.sections.specs.Views as sections
use Rattle.sections.specs.Glossary.{WriterView, AreNewWriters}
use Rattle.sections.specs.Making as sections_making
use Rattle.sections.specs.Calls as sections_calls
use Rattle.sections.specs.EngineCalls as sections_engine
use Rattle.scan.specs.Progress.{new_engine}
use Rattle.funnel.specs.declared.view.Shape.{Shape}
use Rattle.funnel.specs.Views.{FunnelView}
use Rattle.funnel.specs.declared.view.Holder.TheVariants as holder
use Rattle.funnel.specs.Making as tree_making
use Rattle.funnel.specs.Calls as tree_calls
use Rattle.desk.specs.Glossary.{BayView, BaySeatView, IsNewBay, AreNewBaySeats, new_bay_seat}
use Rattle.calls.specs.Glossary.{CallSeatView, CallsView, AreMade, new_seat}
use Rattle.domain.specs.Glossary.{Engine, DomainView, CpuView, IsOf, IsMade, joined, idle_engine, new_bay, IsAllOf, Each}
use Rattle.domain.proofs.Joining.{joined_at, joined_length}

module _ {J : Type 0} (bounds : Bounds) (d : DomainView) (cs : List sections.CpuView) (e e1 : sections.EngineView) (ns : List FunnelView) (root : FunnelView) (tree_is : TableId)
    (v : Engine) (home : TableId) (b : BayView Engine) (ts : List (BaySeatView Engine)) (kept : CallsView) (ss : List (CallSeatView J)) (all : List (CpuView J)) where
  pub founded : sections_making.IsMade bounds cs e → e1 ≡ e → home ≡ e.domain → tree_making.IsMade bounds.processors ns root → tree_is ≡ root.domain → v ≡ new_engine e1
      → IsNewBay home bounds.processors v b → AreNewBaySeats b ts → AreMade e.domain e.processors kept ss → all ≡ joined cs ns ts ss → d ≡ record {
        domain = kept.domain;
        tree = tree_is;
        bay = b.bay;
        tallies = kept.tallies;
        processors = kept.processors;
        periods = b.first.seat.periods;
      } → IsMade bounds d all
  founded made same at tree rooting engine bay seats callbacks all_are d_is =
      let sized : e.processors ≡ bounds.processors = ap (λ (z : sections.EngineView). z.processors) made.engine_new in
      let ss_many : length ss ≡ length cs = callbacks.seats_new.count ∙ (sized ∙ sym made.count) in
      let ns_many : length ns ≡ length cs = tree.made.count ∙ sym made.count in
      let ts_many : length ts ≡ length cs = seats.count ∙ (ap (λ (z : BayView Engine). z.seats) bay ∙ sym made.count) in
      let many : length all ≡ length cs = ap length all_are ∙ joined_length cs ns ts ss ns_many ts_many ss_many in
      let shape : Shape = record { processors = bounds.processors; nodes = tree.nodes } in
      let domain : d.domain ≡ e.domain = ap (λ (z : DomainView). z.domain) d_is ∙ callbacks.of_domain in
      let place : d.bay ≡ b.bay = ap (λ (z : DomainView). z.bay) d_is in
      let lay : b.first ≡ v = ap (λ (z : BayView Engine). z.first) bay in
      let rooted : d.tree ≡ root.domain = ap (λ (z : DomainView). z.tree) d_is ∙ rooting in
      let lies : v ≡ idle_engine d.domain bounds = engine ∙ ap new_engine (same ∙ (made.engine_new ∙ ap (λ t. sections_engine.new_engine t bounds.processors bounds.periods) (sym domain))) in
      let b_is : b ≡ new_bay d bounds = bay ∙ (λ i. record { bay = sym place i; domain = (at ∙ sym domain) i; seats = bounds.processors; first = lies i }) in
      record {
        count = many ∙ made.count;
        many = ap (λ (z : DomainView). z.processors) d_is ∙ (callbacks.many ∙ sized);
        limit = ap (λ (z : DomainView). z.periods) d_is ∙ ap (λ (z : Engine). z.seat.periods) (lay ∙ lies);
        nodes = tree.nodes;
        least = tree.least;
        each = λ k c lt. let lt_cs : k < length cs = omega (arith, lt, many) in let lt_ns : k < length ns = omega (arith, lt_cs, ns_many) in let lt_ts : k < length ts = omega (arith, lt_cs, ts_many) in let lt_ss : k < length ss = omega (arith, lt_cs, ss_many) in
            ap (λ l. slice_index_or l k c) all_are ∙ (joined_at cs ns ts ss ns_many ts_many ss_many k c lt_cs
            ∙ (λ i. record {
              cpu = (made.cpus_new k c.cpu lt_cs ∙ ap (λ t. sections_calls.new_cpu t bounds.processors bounds.sections k) (sym domain)) i;
              needs = (tree.made.seats_new k c.needs lt_ns ∙ ap (λ t. tree_calls.new_seat t shape (holder.Processor k)) (sym rooted)) i;
              turn = (seats.each k c.turn lt_ts ∙ ap (λ (z : BayView Engine). new_bay_seat z k) b_is) i;
              calls = (callbacks.seats_new.each k c.calls lt_ss ∙ (λ j. new_seat (sym (ap (λ (z : DomainView). z.domain) d_is) j) (sym (ap (λ (z : DomainView). z.tallies) d_is) j) (sized j) k)) i;
            }));
      }

module _ {J : Type 0} where
  -- the processors of a new domain are of it
  pub new_ones_are_here : {bounds : Bounds} (d : DomainView) (cpus : List (CpuView J)) → IsMade bounds d cpus → Each (IsOf d) cpus
  new_ones_are_here d cpus made = λ k c lt. subst (IsOf d) (sym (made.each k c lt)) record {
    domain = refl;
    bay = refl;
    home = refl;
    first = (refl, sym made.many, sym made.limit);
    free = refl;
    tree = refl;
    asks = refl;
    many = sym made.many;
    fits = record { domain = refl; seat = refl; tallies = refl; cpu = refl; there = subst (λ n. k < n) (made.count ∙ sym made.many) lt };
    number = refl;
    seats = sym made.many;
    words = sym made.many;
  }

  -- and all of it
  pub all_of_new : (bounds : Bounds) (d : DomainView) (cpus : List (CpuView J)) → 0 < bounds.processors → IsMade bounds d cpus → IsAllOf d cpus
  all_of_new bounds d cpus some made =
      let shape : Shape = record { processors = bounds.processors; nodes = made.nodes } in
      let count = made.count in
      record {
        some = omega (arith, some, count);
        here = new_ones_are_here d cpus made;
        count = λ k c lt. ap (λ (z : CpuView J). z.cpu.processors) (made.each k c lt) ∙ sym count;
        order = λ k c lt. ap (λ (z : CpuView J). z.cpu.processor) (made.each k c lt);
        tree = d.tree;
        shape = shape;
        asks = λ k c lt. let e = made.each k c lt in (ap (λ (z : CpuView J). z.needs.domain) e, ap (λ (z : CpuView J). z.needs.shape) e, ap (λ (z : CpuView J). z.needs.holder) e);
        leaves = sym count;
      }

-- the writers of a new domain are of it, each of one of its cells
pub writers_here : (domain : TableId) (cells slots : ℕ) (writers : List WriterView) → AreNewWriters domain cells slots writers → All (λ w. (w.domain ≡ domain) × (w.cell < cells)) writers
writers_here domain cells slots writers made = λ k w lt.
    let there : k < cells = (let count = made.count in omega (arith, lt, count)) in
    (ap (λ (z : WriterView). z.domain) (made.each k w there), subst (λ n. n < cells) (sym (ap (λ (z : WriterView). z.cell) (made.each k w there))) there)
