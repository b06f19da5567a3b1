-- What an updater does that waits, and the words of a configuration.
use Rattle.std.specs.Prelude.{ℕ, List, ◌∷◌, replicate}
use Rattle.srcu.specs.Words.{CpuView, WriterView, Replaces, WaitedFor}

-- the sixteen words of the configuration of this number
abbrev pub text_of : ℕ → List ℕ
text_of number = number ∷ number ∷ replicate 14 0

module _ {J : Type 0} where
  -- a version with these words was put, and behind that a moment was noted: no section that was open then is open now
  pub record ReplacesAndWaits (text : List ℕ) (w : WriterView) (c : CpuView J) (w' : WriterView) (c' : CpuView J) : Type 0 where
    pub between : CpuView J
    pub cookie : ℕ
    pub replaces : Replaces text cookie w c w' between
    pub waits : WaitedFor between c'
