-- All words of a version are loaded, and nothing is done.
use Rattle.std.proofs.Common.{◌≡◌, ℕ, List, [], append-nil, refl, sym, ◌∙◌, subst}
use Rattle.onedom.specs.declared.event.Maker.TheVariants.{Processor}
use Rattle.onedom.specs.declared.event.Event.{Event}
use Rattle.onedom.specs.Histories.{IsBeginning}
use Rattle.sections.specs.Views as views
use Rattle.sections.specs.Glossary.{ReadingView, FoundView, ReadsWords, Finds, IsPinned}
use Rattle.domain.specs.Glossary.{CpuView, with_cpu, LoadsAll, ReadsAndEnds}
use Rattle.sections.specs.Showing as sections
use Rattle.domain.proofs.Acting.{does_nothing, find_acts, end_acts}

module _ {J : Type 0} (c c' : CpuView J) (rest : c' ≡ with_cpu c'.cpu c) where
  pub loads_all : {r : ReadingView} {f : FoundView} {words : List ℕ} → ReadsWords r f words c.cpu c'.cpu → LoadsAll r f words c c'
  loads_all h = record {
    words_are = h.words_are;
    same = h.same;
    mine = h.mine;
    steps = h.steps;
    since = h.since;
    later = h.later;
    texts = h.texts_since;
    covers = record { section = h.covers_reading; found = h.covers; changes = h.not_before; texts = h.texts; history = h.history };
    rest = rest;
    acts = does_nothing c c' rest (record { same = h.same; others = []; since = subst (λ (l : List Event). IsBeginning l c'.cpu.seen) (sym (append-nil c.cpu.seen)) h.since; mine = h.mine ∙ sym (append-nil c.cpu.mine); later = h.later });
  }

-- the section has found it
pins : {cell : ℕ} {r : ReadingView} {c d : views.CpuView} {f : FoundView} → r.domain ≡ c.domain → Finds cell r c d f → IsPinned r f
pins {cell} {r} {c} {d} of h =
    subst (IsPinned r) (sym h.found_is) (sym of, record { before = h.adds.before; by = Processor c.processor; after = []; whole = h.adds.seen })

module _ {J : Type 0} (c c' : CpuView J) (rest : c' ≡ with_cpu c'.cpu c) where
  pub reads_and_ends : {cell : ℕ} {r : ReadingView} {words : List ℕ} → sections.ReadsAndEnds cell r words c.cpu c'.cpu → r.domain ≡ c.cpu.domain → ReadsAndEnds cell r words c c'
  reads_and_ends h of = record {
    found = h.found;
    at = with_cpu h.at c;
    finds = h.finds;
    pinned = pins of h.finds;
    only = refl;
    looks = find_acts c (with_cpu h.at c) refl h.finds;
    read = with_cpu h.read c;
    loads = loads_all (with_cpu h.at c) (with_cpu h.read c) refl h.reads;
    ends = h.ends;
    rest = rest;
    closes = end_acts (with_cpu h.read c) c' rest h.ends;
  }
