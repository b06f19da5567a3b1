-- What was claimed was filled with a text and put.
use Rattle.std.proofs.Common.{◌≡◌, ℕ, List, subst}
use Rattle.sections.specs.WriterViews.{WriterView, SlotView}
use Rattle.domain.specs.Views.{CpuView}
use Rattle.domain.specs.Publishing.{Claims, Puts}
use Rattle.shelf.specs.Replacing.{Replaces}

module _ {J : Type 0} {s : SlotView} {w claimed w' : WriterView} {c at c' : CpuView J} {words text : List ℕ} {cookie : ℕ} where
  pub replaced : Claims s w c claimed at → words ≡ text → (h : Puts s.slot words claimed at w' c') × (h.cookie ≡ cookie) → Replaces text cookie w c w' c'
  replaced claims is puts = subst (λ (l : List ℕ). Replaces l cookie w c w' c') is (record { slot = s; claimed = claimed; at = at; claims = claims; puts = puts.0; cookie_is = puts.1 })
