-- The current version shows what is here.
use Rattle.std.proofs.Common.{◌≡◌, ℕ, List, [], ◌∷◌, Box, Option, Some, None, IfSome, MatchOption, get_or, sym, ap, ◌∙◌, subst}
use Rattle.std.proofs.lemmas.Option.{none-some}
use Rattle.parts.specs.declared.terms.Terms.{Terms}
use Rattle.sections.specs.Views as sections
use Rattle.domain.specs.Views.{CpuView}
use Rattle.boxes.specs.Boxes.{BoxWriterView, Stored, stored_at}
use Rattle.boxes.specs.Writing.{PutsBox}
use Rattle.registry.specs.declared.index.Entry.{Entry}
use Rattle.registry.specs.declared.device.Device.{Device}
use Rattle.registry.specs.Names.{Lends, all_kept, names_of, names_shown}
use Rattle.registry.specs.Registry.{AreParts, ShowsHere}
use Rattle.registry.specs.Changing.{ComeBack, Collects}
use Rattle.registry.proofs.Parts.{same_names}
use Rattle.registry.proofs.Versions.{parts_names}
use Rattle.registry.proofs.Keeping.{stays_of}
use Rattle.registry.proofs.Growing.{put_at}
use Rattle.registry.proofs.Opening.{writer_collected}

module _ {V A : Type 0} where
  -- what did not come back was there
  come_still : (bs : List (Box V A)) (w w' : BoxWriterView V A) (c c' : sections.CpuView) → ComeBack bs w c w' c' → (x : ℕ) (s : Stored V A) → stored_at w' x ≡ Some s → stored_at w x ≡ Some s
  come_still [] w w' c c' h x s at = ap (λ (z : BoxWriterView V A). stored_at z x) (sym h.0) ∙ at
  come_still (b ∷ bs) w w' c c' h x s at = come_still bs w h.0 c h.1 h.2 x s (stays_of h.0 w' x h.3.2.slot s h.3.2.takes.stored at)

  collected_still : (w w' : BoxWriterView V A) (c c' : sections.CpuView) → Collects w c w' c' → (x : ℕ) (s : Stored V A) → stored_at w' x ≡ Some s → stored_at w x ≡ Some s
  collected_still w w' c c' h x s at = come_still h.back w h.between c h.at h.comes x s (ap (λ (z : BoxWriterView V A). stored_at z x) (sym h.last.rest) ∙ at)

module _ {K V A : Type 0} where
  -- it is the same devices that are here
  pub kept_shown : (w : BoxWriterView (List (Entry K V)) A) (ds es : List (Device K V A)) → all_kept es ≡ all_kept ds → ShowsHere w ds → ShowsHere w es
  kept_shown w ds es kept shown s at = shown s at ∙ sym (same_names ds es kept)

  -- versions came home
  pub collected_shown : (w w' : BoxWriterView (List (Entry K V)) A) (c c' : sections.CpuView) (ds es : List (Device K V A)) → Collects w c w' c' → all_kept es ≡ all_kept ds → ShowsHere w ds → ShowsHere w' es
  collected_shown w w' c c' ds es h kept shown s at =
      let current = (writer_collected w w' c c' h).current in kept_shown w ds es kept shown s (collected_still w w' c c' h w.writer.current s (subst (λ (x : ℕ). stored_at w' x ≡ Some s) current at))

  -- a version of these devices was put
  pub put_shown : {J : Type 0} (w w' : BoxWriterView (List (Entry K V)) A) (c c' : CpuView J) (s : Stored (List (Entry K V)) A) (cookie : ℕ) (ds es : List (Device K V A)) → PutsBox s cookie w c w' c' → AreParts s.value ds → Lends 1 ds es → ShowsHere w' es
  put_shown w w' c c' s cookie ds es p parts lends t at =
      let slot = p.version.slot in
      put_at w.stored slot slot s t (λ (z : Stored (List (Entry K V)) A). names_shown z.value ≡ names_of es) (parts_names s.value ds parts ∙ sym (same_names ds es lends.kept)) (λ u e. absurd (none-some u (sym p.version.free.0 ∙ e)))
      (ap (λ l. get_or l slot None) (sym p.stored) ∙ subst (λ (x : ℕ). stored_at w' x ≡ Some t) p.version.puts.puts.current at)

  -- so what the writer knows of the version is what is here
  pub terms_show : (w : BoxWriterView (List (Entry K V)) A) (here : List (Device K V A)) (o : Option (Terms (List (Entry K V)))) → ShowsHere w here
      → MatchOption o (stored_at w w.writer.current ≡ None) (λ t. (s : Stored (List (Entry K V)) A) × (stored_at w w.writer.current ≡ Some s) × (t.value ≡ s.value) × (t.round ≡ s.round))
      → IfSome o (λ t. names_shown t.value ≡ names_of here)
  terms_show w here None shown h = tt
  terms_show w here (Some t) shown h = ap names_shown h.2 ∙ shown h.0 h.1
