-- What was loaded is read as blocks.
use Rattle.std.proofs.Common.{◌≡◌, ℕ, ◌<◌, ◌≤◌, inl, inr, List, All, length, refl, ap, arith}
use Rattle.sections.specs.Views as sections
use Rattle.sections.specs.Views.{ReadingView}
use Rattle.sections.specs.Calls.{ReadLocks}
use Rattle.sections.specs.Showing.{ReadsAndEnds}
use Rattle.domain.specs.Views.{CpuView, with_cpu}
use Rattle.domain.specs.Acting.{begins, ActsAs}
use Rattle.domain.proofs.CallerLemmas.{begun_here, reads_and_ends}
use Rattle.notify.specs.declared.block.Block.{Block}
use Rattle.notify.specs.Blocks.{AreRead}
use Rattle.notify.specs.Chains.{ChainCell}
use Rattle.notify.specs.Reading.{ReadsOnce}

-- no block has another id than those of the chain
pub known_ids : (ids n : ℕ) (words : List ℕ) (blocks : List Block) → ids ≤ n → AreRead ids words blocks → All (λ b. b.id < n) blocks
known_ids ids n words blocks le (inl t) k d lt = let low = t.chain.known k d lt in omega (arith, low, le)
known_ids ids n words blocks le (inr none) k d lt = let e = ap length none.none_read in absurd (omega (arith, lt, e))

module _ {J : Type 0} (v : ChainCell) (r : ReadingView) (c begun : CpuView J) (ended : sections.CpuView) (words : List ℕ) (blocks : List Block) where
  -- the section began, found the words, and ended
  pub reads_once : ReadLocks c.cpu begun.cpu r → begun ≡ with_cpu begun.cpu c → ActsAs (begins r.section r.index) c begun → ReadsAndEnds v.place.cell r words begun.cpu ended → AreRead v.ids words blocks → ReadsOnce v c (with_cpu ended begun) blocks
  reads_once locks only acts reads read = let h = reads_and_ends begun (with_cpu ended begun) refl reads (begun_here c.cpu begun.cpu r locks).0 in record {
    reading = r;
    begun = begun;
    locks = locks;
    only = only;
    acts = acts;
    behind = h.read;
    reads = record { found = h.found; between = h.at; finds = h.finds; pinned = h.pinned; only = h.only; acts = h.looks; words = words; loads = h.loads; read = read };
    ends = h.ends;
    rest = h.rest;
    closes = h.closes;
  }
