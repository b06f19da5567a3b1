-- A version was found and read in a section.
use Rattle.std.proofs.Common.{◌≡◌, ◌∙◌, Option, Some, None, sym, subst}
use Rattle.std.specs.Fn.{Once, FnOnceReturnsAt}
use denote.Ref.{Bor}
use Rattle.parts.specs.declared.part.Part.{Part}
use Rattle.parts.specs.declared.terms.Terms.{Terms}
use Rattle.sections.specs.Views.{CpuView}
use Rattle.boxes.specs.Boxes.{BoxesView}
use Rattle.boxes.specs.Showing.{ShowsBox, ShowsNone}
use Rattle.registry.specs.Using.{ReadsVersion}

module _ {X H T : Type 0} (h : Once H (Bor (Part X) × Unit {0}) (T × Terms X)) (by : H) (b : BoxesView) (c c' : CpuView) (o : Option (T × Terms X)) (s : ShowsBox h by b c c' o) where
  -- the closure returned an answer, and the terms of the version that it was shown
  pub reads : (t : T) (terms : Terms X) (P : X → Type 0) → o ≡ Some (t, terms) → ((part : Part X) → FnOnceReturnsAt h by part (t, terms) → P part.value × (terms.value ≡ part.value) × (terms.round ≡ part.round)) → ReadsVersion terms b c c' × P terms.value
  reads t terms P is told =
      let v = subst (ShowsBox h by b c c') is s in
      let both = told v.shows.0 v.shows.2 in (
        record { version = v.version; reads = v.reads; round = both.2 ∙ v.shows.1 },
        subst P (sym both.1) both.0,
      )

  pub reads_none : o ≡ None → ShowsNone b c c'
  reads_none is = subst (ShowsBox h by b c c') is s
