-- Changes open no reading, what is seen goes on, and writer and processor are the same.
use Rattle.std.proofs.Common.{◌≡◌, ℕ, List, [], ◌∷◌, Box, refl, sym, ap, ◌∙◌, subst, arith}
use Rattle.std.specs.declared.cmp.Ordering.{Ordering}
use Rattle.onedom.specs.declared.event.Event.{Event}
use Rattle.onedom.specs.Histories.{ends, IsBeginning, open_sections}
use Rattle.onedom.proofs.CallerLemmas.{begins_grow, beginning_append, beginning_refl, beginning_trans, count_grows}
use Rattle.sections.specs.Views as sections
use Rattle.sections.specs.WriterViews.{WriterView}
use Rattle.sections.specs.Calls.{AllClosed, IsSameCpu}
use Rattle.sections.specs.Writers.{IsSameWriter}
use Rattle.domain.specs.Views.{CpuView, IsSameProcessor, with_cpu}
use Rattle.domain.specs.Writers.{PutsAndAsks}
use Rattle.domain.specs.Waiting.{HasNoneOpen, WaitedFor}
use Rattle.domain.proofs.CallerLemmas.{SameOpen, same_put, same_reclaimed, none_still, same_polled, same_trans, seat_the_same}
use Rattle.boxes.specs.Boxes.{BoxWriterView}
use Rattle.registry.specs.Names.{names_of}
use Rattle.registry.specs.Registry.{RegistryView}
use Rattle.registry.specs.Changing.{ComeBack, Collects, Publishes, Refuses, Removes}
use Rattle.registry.specs.Waiting.{RemovesAndAsks, RemovesAtLast}

cpu_trans : (a b c : sections.CpuView) → IsSameCpu a b → IsSameCpu b c → IsSameCpu a c
cpu_trans a b c h i = (i.0 ∙ h.0, i.1 ∙ h.1, i.2 ∙ h.2, i.3 ∙ h.3)

pub writer_same : (w : WriterView) → IsSameWriter w w
writer_same w = record { domain = refl; cell = refl; slots = refl; version = refl; current = refl }

pub writer_trans : (a b c : WriterView) → IsSameWriter a b → IsSameWriter b c → IsSameWriter a c
writer_trans a b c h i = record { domain = i.domain ∙ h.domain; cell = i.cell ∙ h.cell; slots = i.slots ∙ h.slots; version = i.version ∙ h.version; current = i.current ∙ h.current }

-- what was closed stays closed
closed_on : (seen now later : List Event) → IsBeginning seen now → IsBeginning now later → AllClosed seen now → AllClosed seen later
closed_on seen now later before on closed s was_open still =
    let begun = begins_grow s before in
    let ended = count_grows (ends s) on in
    let some = was_open.0 in
    let none = still.1 in
    closed s was_open (omega (arith, begun, some), omega (arith, ended, none))

module _ {J : Type 0} where
  put_asked : (slot cookie : ℕ) (w w' : WriterView) (c c' : CpuView J) → PutsAndAsks slot cookie w c w' c' → IsSameProcessor c c'
  put_asked slot cookie w w' c c' h = record {
    cpu = cpu_trans c.cpu h.puts.between c'.cpu h.puts.puts.same h.puts.notes.adds.same;
    needs = h.asks.same;
    turn = rw h.turn refl;
    calls = seat_the_same _ _ h.calls;
  }

module _ {V A : Type 0} where
  same_come : (bs : List (Box V A)) (w w' : BoxWriterView V A) (c c' : sections.CpuView) → ComeBack bs w c w' c' → SameOpen c c'
  same_come [] w w' c c' h = ap (λ (z : sections.CpuView). open_sections z.mine) h.1
  same_come (b ∷ bs) w w' c c' h = same_reclaimed h.0.writer h.3.2.asked h.1 c' h.3.2.reclaims ∙ same_come bs w h.0 c h.1 h.2

  pub same_collected : (w w' : BoxWriterView V A) (c c' : sections.CpuView) → Collects w c w' c' → SameOpen c c'
  same_collected w w' c c' h = same_reclaimed h.between.writer w'.writer h.at c' h.last.reclaims ∙ same_come h.back w h.between c h.at h.comes

  -- what is then seen goes on from what was seen
  since_come : (bs : List (Box V A)) (w w' : BoxWriterView V A) (c c' : sections.CpuView) → ComeBack bs w c w' c' → IsBeginning c.seen c'.seen
  since_come [] w w' c c' h = subst (λ (z : sections.CpuView). IsBeginning c.seen z.seen) (sym h.1) (beginning_refl c.seen)
  since_come (b ∷ bs) w w' c c' h = beginning_trans (since_come bs w h.0 c h.1 h.2) h.3.2.reclaims.since.0

  pub since_collected : (w w' : BoxWriterView V A) (c c' : sections.CpuView) → Collects w c w' c' → IsBeginning c.seen c'.seen
  since_collected w w' c c' h = beginning_trans (since_come h.back w h.between c h.at h.comes) h.last.reclaims.since.0

  -- Writer and processor

  cpu_come : (bs : List (Box V A)) (w w' : BoxWriterView V A) (c c' : sections.CpuView) → ComeBack bs w c w' c' → IsSameCpu c c'
  cpu_come [] w w' c c' h = subst (IsSameCpu c) (sym h.1) (refl, refl, refl, refl)
  cpu_come (b ∷ bs) w w' c c' h = cpu_trans c h.1 c' (cpu_come bs w h.0 c h.1 h.2) h.3.2.reclaims.same.1

  pub cpu_collected : (w w' : BoxWriterView V A) (c c' : sections.CpuView) → Collects w c w' c' → IsSameCpu c c'
  cpu_collected w w' c c' h = cpu_trans c h.at c' (cpu_come h.back w h.between c h.at h.comes) h.last.reclaims.same.1

  writer_come : (bs : List (Box V A)) (w w' : BoxWriterView V A) (c c' : sections.CpuView) → ComeBack bs w c w' c' → IsSameWriter w.writer w'.writer
  writer_come [] w w' c c' h = subst (λ (z : BoxWriterView V A). IsSameWriter w.writer z.writer) (sym h.0) (writer_same w.writer)
  writer_come (b ∷ bs) w w' c c' h = writer_trans w.writer h.0.writer w'.writer (writer_come bs w h.0 c h.1 h.2) (writer_trans h.0.writer h.3.2.asked w'.writer h.3.2.reclaims.same.0 h.3.2.takes.same)

  pub writer_collected : (w w' : BoxWriterView V A) (c c' : sections.CpuView) → Collects w c w' c' → IsSameWriter w.writer w'.writer
  writer_collected w w' c c' h = writer_trans w.writer h.between.writer w'.writer (writer_come h.back w h.between c h.at h.comes) h.last.reclaims.same.0

module _ {K V A J : Type 0} where
  pub none_published : (r r' : RegistryView K V A) (c c' : CpuView J) → Publishes r c r' c' → HasNoneOpen c → HasNoneOpen c'
  none_published r r' c c' p none = none_still p.at c' (same_put p.puts.version.slot p.cookie p.puts.version.filled r'.writer.writer p.at.cpu c'.cpu p.puts.version.puts.puts) (none_still c p.at (same_collected r.writer p.collected c.cpu p.at.cpu p.collects) none)

  pub none_refused : (r r' : RegistryView K V A) (c c' : CpuView J) → Refuses r c r' c' → HasNoneOpen c → HasNoneOpen c'
  none_refused r r' c c' h none = none_still c c' (same_collected r.writer r'.writer c.cpu c'.cpu h.collects) none

  pub same_removed : (cmp : K → K → Ordering) (key : K) (r r' : RegistryView K V A) (c c' : CpuView J) → Removes cmp key r c r' c' → IsSameProcessor c c'
  same_removed cmp key r r' c c' h =
      let p = h.publishes in
      let v = p.puts.version in
      same_trans c p.at c' (same_polled c p.at (cpu_collected r.writer p.collected c.cpu p.at.cpu p.collects) p.rest) (put_asked v.slot p.cookie v.filled r'.writer.writer p.at c' v.puts)

  pub same_refused : (r r' : RegistryView K V A) (c c' : CpuView J) → Refuses r c r' c' → IsSameProcessor c c'
  same_refused r r' c c' h = same_polled c c' (cpu_collected r.writer r'.writer c.cpu c'.cpu h.collects) h.rest

  pub same_at_last : (cmp : K → K → Ordering) (key : K) (r r' : RegistryView K V A) (c c' : CpuView J) → RemovesAtLast cmp key r c r' c' → IsSameProcessor c c'
  same_at_last cmp key r r' c c' h = same_trans c h.at c' h.vain.by (same_removed cmp key h.last r' h.at c' h.removes)

  -- so it is where it waited, and then versions came home
  pub same_throughout : (cmp : K → K → Ordering) (key : K) (r s r' : RegistryView K V A) (c at d c' : CpuView J) → RemovesAtLast cmp key r c s at → IsSameProcessor at d → Collects s.writer d.cpu r'.writer c'.cpu → c' ≡ with_cpu c'.cpu d → IsSameProcessor c c'
  same_throughout cmp key r s r' c at d c' h same collects rest = same_trans c at c' (same_at_last cmp key r s c at h) (same_trans at d c' same (same_polled d c' (cpu_collected s.writer r'.writer d.cpu c'.cpu collects) rest))

  unfoldable pub asks_and_collects : (cmp : K → K → Ordering) (key : K) (r s r' : RegistryView K V A) (c at d c' : CpuView J) → RemovesAtLast cmp key r c s at → names_of r'.here ≡ names_of s.here → Collects s.writer d.cpu r'.writer c'.cpu → RemovesAndAsks cmp key r c r'
  asks_and_collects cmp key r s r' c at d c' h here collects =
      record { removed = s; at = at; removes = h; here = here; writer = writer_collected s.writer r'.writer d.cpu c'.cpu collects; asked = at; by = same_at_last cmp key r s c at h; after = beginning_refl _ }

  -- the caller asks at once, when nothing has come home yet
  unfoldable pub asks_at_once : (cmp : K → K → Ordering) (key : K) (r r' : RegistryView K V A) (c c' : CpuView J) → RemovesAtLast cmp key r c r' c' → RemovesAndAsks cmp key r c r'
  asks_at_once cmp key r r' c c' h = record { removed = r'; at = c'; removes = h; here = refl; writer = writer_same r'.writer.writer; asked = c'; by = same_at_last cmp key r r' c c' h; after = beginning_refl _ }

module _ {V A J : Type 0} where
  pub same_collected_in : (w w' : BoxWriterView V A) (c c' : CpuView J) → Collects w c.cpu w' c'.cpu → c' ≡ with_cpu c'.cpu c → IsSameProcessor c c'
  same_collected_in w w' c c' h rest = same_polled c c' (cpu_collected w w' c.cpu c'.cpu h) rest

  pub none_collected : (w w' : BoxWriterView V A) (c c' : CpuView J) → Collects w c.cpu w' c'.cpu → HasNoneOpen c → HasNoneOpen c'
  none_collected w w' c c' h none = none_still c c' (same_collected w w' c.cpu c'.cpu h) none

module _ {J : Type 0} where
  -- so does what is seen after waiting
  pub since_waited : (c c' : CpuView J) → WaitedFor c c' → IsBeginning c.cpu.seen c'.cpu.seen
  since_waited c c' h = beginning_trans (beginning_trans h.noted.since (subst (IsBeginning h.noted.before) (sym h.noted.whole) (beginning_append h.noted.before _))) h.upto

  pub waited_on : (c d c' : CpuView J) → WaitedFor c d → IsBeginning d.cpu.seen c'.cpu.seen → WaitedFor c c'
  waited_on c d c' h on = record {
    number = h.number;
    moment = h.moment;
    noted = h.noted;
    upto = beginning_trans h.upto on;
    closed = closed_on h.moment d.cpu.seen c'.cpu.seen h.upto on h.closed;
  }
