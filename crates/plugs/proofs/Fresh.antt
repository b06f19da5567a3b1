-- A section that begins now finds no version older than its processor had seen.
use Rattle.std.proofs.Common.{ℕ, ◌≤◌, Bool, List, sym, subst, arith}
use Rattle.onedom.specs.declared.event.Event.{Event}
use Rattle.onedom.specs.Histories.{version_of, IsLegal, IsBeginning}
use Rattle.onedom.proofs.CallerLemmas.{beginning_trans, beginning_append, versions_up}
use Rattle.sections.specs.Views.{CpuView, ReadingView, FoundView}
use Rattle.sections.specs.Calls.{LooksAndBegins}
use Rattle.sections.specs.Reads.{Finds}

version_grows : (cell : ℕ) (a b : List Event) → IsBeginning a b → IsLegal b → version_of cell a ≤ version_of cell b
version_grows cell a b up legal = subst (λ (l : List Event). version_of cell a ≤ version_of cell l) (sym up.whole) (versions_up cell a up.rest (subst IsLegal up.whole legal))

pub not_older_than_seen : (held : Bool) (cell : ℕ) (c begun d : CpuView) (r : ReadingView) (f : FoundView) → LooksAndBegins held c begun r → Finds cell r begun d f → version_of cell c.seen ≤ f.version
not_older_than_seen held cell c begun d r f begins finds =
    let adds = begins.enters.adds in
    let up : IsBeginning c.seen begun.seen = beginning_trans begins.looks.load.since (beginning_trans adds.since (subst (λ (l : List Event). IsBeginning adds.before l) (sym adds.seen) (beginning_append adds.before _))) in
    let grown = version_grows cell c.seen begun.seen up adds.history.legal in
    let found = finds.not_older in
    omega (arith, grown, found)
