-- Whoever reads a key in one version finds the same plug.
use Rattle.std.proofs.Common.{◌≡◌, ◌≢◌, ℕ, Bool, true, false, Option, List, refl, sym, ap, ◌∙◌, subst}
use Rattle.std.specs.Prelude.{Decides}
use Rattle.std.specs.Str.{bytes_eq}
use Rattle.std.proofs.lemmas.Bool.Decides.{not_from_Decides}
use Rattle.std.proofs.lemmas.Slice.Eq.{bytes_eq-Decides}
use Rattle.sections.specs.Views.{FoundView}
use Rattle.domain.specs.Views.{CpuView}
use Rattle.plugs.specs.declared.rows.Row.{Row}
use Rattle.plugs.specs.Tables.{plug_of, IsTable, text_of, AreRead}
use Rattle.plugs.specs.Views.{LeaseView}
use Rattle.plugs.specs.Reading.{Gets}
use Rattle.shelf.proofs.CallerLemmas.{same_words}
use Rattle.srcu.specs.Leases.{HasPlug}

-- whether the words are the text of the first rows or not
same_rows : (words : List ℕ) (xs ys : List Row) (r : Bool) → Decides r (words ≡ text_of xs) → AreRead words xs → AreRead words ys → xs ≡ ys
same_rows words xs ys true is a b = sym (b.whole xs a.table (is.0 refl))
same_rows words xs ys false is a b =
    let none : (r : List Row) → IsTable r → words ≢ text_of r = λ r table e. not_from_Decides false is refl (e ∙ ap text_of (sym (a.whole r table e))) in
    a.none none ∙ sym (b.none none)

pub one_plug : (found : FoundView) (key : ℕ) (p q : Option ℕ) → HasPlug found key p → HasPlug found key q → p ≡ q
one_plug found key p q h k =
    let same = same_words found k.words h.words k.words_are h.words_are in
    let rows = same_rows h.words h.rows k.rows (bytes_eq h.words (text_of h.rows)) (bytes_eq-Decides h.words (text_of h.rows)) h.read (subst (λ (w : List ℕ). AreRead w k.rows) same k.read) in
    h.plug_is ∙ (ap (λ (l : List Row). plug_of l key) rows ∙ sym k.plug_is)

module _ {J : Type 0} where
  -- what a lease answers
  pub has_got : (lease : LeaseView) (key : ℕ) (plug : Option ℕ) (c c' : CpuView J) → Gets lease key plug c c' → HasPlug lease.found key plug
  has_got lease key plug c c' h = record { words = h.loads.words; rows = h.rows; words_are = h.loads.loads.words_are; read = h.loads.read; plug_is = h.plug_is }
