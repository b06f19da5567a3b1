-- Tables that are changed and looked up, one time behind the other.
use Rattle.std.proofs.Common.{◌≡◌, ℕ, ◌+◌, Bool, true, false, Option, Some, List, [], All, Result, IsOk, sym, ap, ◌∙◌, subst, add-one}
use Rattle.sections.specs.Views.{ReadingView}
use Rattle.sections.specs.WriterViews.{WriterView}
use Rattle.sections.specs.Dealing.{new_writer}
use Rattle.domain.specs.Views.{DomainView, CpuView}
use Rattle.plugs.specs.Tables.{IsFull}
use Rattle.plugs.specs.Views.{TableState, LeaseView}
use Rattle.plugs.specs.Reading.{Leases, Gets}
use Rattle.srcubench.specs.Calling.{AreOutcomes}
use Rattle.srcubench.specs.Founding.{IsNew, EachBecomes}
use Rattle.srcubench.specs.Tabling.{InstallsOne, InstallsAll, FillsUp, FillsAndInstalls, Looks, LooksOften, no_rows, HasTable, HaveInstalled, HaveLooked}
use Rattle.srcubench.proofs.Passes.{each_became}

module _ {J : Type 0} where
  -- One more

  pub one_installed : (key_at : ℕ → ℕ) (n : ℕ) (t : TableState) (c : CpuView J) (u : TableState) (d : CpuView J) (t' : TableState) (c' : CpuView J) → InstallsAll key_at n t c u d → InstallsOne (key_at n) u d t' c' → InstallsAll key_at (n + 1) t c t' c'
  one_installed key_at n t c u d t' c' before one = subst (λ k. InstallsAll key_at k t c t' c') (sym (add-one n)) (u, d, before, one)

  pub one_looked : (leased : Bool) (cell n : ℕ) (c d c' : CpuView J) → LooksOften leased cell n c d → Looks leased cell (Some 7) d c' → LooksOften leased cell (n + 1) c c'
  one_looked leased cell n c d c' before one = subst (λ k. LooksOften leased cell k c c') (sym (add-one n)) (d, before, one)

  -- one more was refused, and the table is as it was
  pub filled : (t : TableState) (c : CpuView J) (u : TableState) (d : CpuView J) (t' : TableState) (c' : CpuView J) → InstallsAll (λ n. n) 15 t c u d → IsFull 15 u.rows × (t' ≡ u) × (c' ≡ d) → FillsUp t c t' c'
  filled t c u d t' c' before refused = subst (λ (z : TableState × CpuView J). FillsUp t c z.0 z.1) (λ k. (sym refused.1 k, sym refused.2 k)) (record { installs = before; full = refused.0 })

  -- In the same domain

  same_leased : (cell : ℕ) (lease : LeaseView) (c c' : CpuView J) → Leases cell lease c c' → c'.cpu.domain ≡ c.cpu.domain
  same_leased cell lease c c' h = h.finds.adds.same.0 ∙ (h.downs.enters.adds.same.0 ∙ h.downs.looks.load.same.0)

  -- the lease's section is one of the processor's domain, and stays so while it is read
  pub lease_here : (cell : ℕ) (lease : LeaseView) (c c' : CpuView J) → Leases cell lease c c' → lease.held.domain ≡ c'.cpu.domain
  lease_here cell lease c c' h = ap (λ (r : ReadingView). r.domain) h.downs.enters.reading ∙ sym (h.finds.adds.same.0 ∙ h.downs.enters.adds.same.0)

  pub still_there : (cell key : ℕ) (plug : Option ℕ) (lease : LeaseView) (c d e : CpuView J) → Leases cell lease c d → Gets lease key plug d e → lease.held.domain ≡ e.cpu.domain
  still_there cell key plug lease c d e h g = lease_here cell lease c d h ∙ sym g.loads.loads.same.0

  pub same_looked : (leased : Bool) (cell : ℕ) (plug : Option ℕ) (c c' : CpuView J) → Looks leased cell plug c c' → c'.cpu.domain ≡ c.cpu.domain
  same_looked true cell plug c c' h = h.ends.same.0 ∙ (h.gets.loads.loads.same.0 ∙ same_leased cell h.lease c h.leased h.leases)
  same_looked false cell plug c c' h = h.ends.same.0 ∙ (h.finds.loads.loads.same.0 ∙ (h.finds.finds.adds.same.0 ∙ (h.locks.enters.adds.same.0 ∙ h.locks.looks.load.same.0)))

-- A new domain

pub has_table : (readers : ℕ) (d : DomainView) (cpus : List (CpuView (Unit {0}))) (first last : CpuView (Unit {0})) (w : WriterView) (t t' : TableState) → IsNew readers d cpus first w → t.writer ≡ w → t.rows ≡ [] → FillsUp t first t' last → HasTable readers d cpus t' last
has_table readers d cpus first last w t t' new writer empty fills =
    let none : t ≡ no_rows w = λ k. record { writer = writer k; rows = empty k } in
    record { first = first; writer = w; new = new; fills = subst (λ (z : TableState). FillsUp z first t' last) none fills }

pub have_installed : (times : ℕ) (d : DomainView) (cpus : List (CpuView (Unit {0}))) (w : WriterView) (t t' : TableState) (c c' : CpuView (Unit {0})) → IsNew 0 d cpus c w → t.writer ≡ w → t.rows ≡ [] → FillsAndInstalls times t c t' c' → HaveInstalled times
have_installed times d cpus w t t' c c' new writer empty h =
    let has = has_table 0 d cpus c h.cpu w t h.table new writer empty h.fills in
    record { domain = d; readers = cpus; table = h.table; changer = h.cpu; has = has; last_table = t'; last = c'; installs = h.installs }

pub have_looked : {E : Type 0} (threads : ℕ) (leased : Bool) (times : ℕ) (d : DomainView) (cpus : List (CpuView (Unit {0}))) (t : TableState) (c : CpuView (Unit {0})) (cell : ℕ) (w : WriterView) (outcomes : List (Result (CpuView (Unit {0})) E))
    → HasTable threads d cpus t c → cell ≡ w.cell → w ≡ new_writer d.domain 0 2 → AreOutcomes (LooksOften leased cell times) cpus outcomes → All IsOk outcomes → HaveLooked threads leased times
have_looked threads leased times d cpus t c cell w outcomes has at pen are all = record {
  domain = d;
  readers = cpus;
  table = t;
  changer = c;
  has = has;
  each = subst (λ n. EachBecomes (LooksOften leased n times) cpus) (at ∙ ap (λ (z : WriterView). z.cell) pen) (each_became (LooksOften leased cell times) cpus outcomes are all);
}
