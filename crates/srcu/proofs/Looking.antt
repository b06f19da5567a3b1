-- A look at the index word, and then at the counters.
use Rattle.std.proofs.Common.{List, None, refl, subst}
use Rattle.onedom.specs.declared.event.Event.{Event}
use Rattle.onedom.specs.Histories.{IsBeginning}
use Rattle.onedom.proofs.CallerLemmas.{beginning_trans}
use Rattle.sseq.specs.declared.index.Index.{Index}
use Rattle.domain.specs.Views.{CpuView}
use Rattle.domain.specs.Acting.{Acts, ActsAs, loads, nothing}
use Rattle.domain.specs.Watching.{WasEmptyIn, WasOpenIn}
use Rattle.domain.proofs.CallerLemmas.{then_finishes}

-- a moment since a later history is one since an earlier one
pub open_since : (i : Index) (a b c : List Event) → IsBeginning a b → WasOpenIn i b c → WasOpenIn i a c
open_since i a b c on was = record { moment = was.moment; since = beginning_trans on was.since; upto = was.upto; section = was.section; is_open = was.is_open; of_index = was.of_index }

pub empty_since : (i : Index) (a b c : List Event) → IsBeginning a b → WasEmptyIn i b c → WasEmptyIn i a c
empty_since i a b c on was = record { moment = was.moment; since = beginning_trans on was.since; upto = was.upto; empty = was.empty }

module _ {J : Type 0} where
  -- loads, and then more of them
  pub loads_both : (c d e : CpuView J) → ActsAs loads c d → ActsAs loads d e → ActsAs loads c e
  loads_both c d e first second = then_finishes {p = c.cpu.processor} {a = nothing} {owner = 0} {count = 0} {list = None} refl (λ q away. away) first (subst (λ p. Acts p nothing d e) first.events.same.3 second)
