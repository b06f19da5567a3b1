-- What a crew does.
use Rattle.std.specs.Prelude.{◌≡◌, List, [], ◌∷◌, Some, None}
use mathlib.Core.List.{reverse}
use denote.Ref.{MutBor}
use denote.Param.Members.{Shared}
use Rattle.crew.specs.declared.member.Member.{Member}

module _ {W P T : Type 0} where
  -- a worker with its part
  abbrev pub ready : W → P → Member W P T
  ready w p = record { worker = w; part = Some p; gave = None }

  -- each worker with its part, in order
  abbrev pub mustered : List W → List P → List (Member W P T)
  mustered [] ps = []
  mustered (w ∷ ws) [] = []
  mustered (w ∷ ws) (p ∷ ps) = ready w p ∷ mustered ws ps

  -- the same, the last one first
  abbrev pub IsMustered : List W → List P → List (Member W P T) → Type 0
  IsMustered ws ps ms = ms ≡ reverse (mustered ws ps)

  -- a member that has given something
  pub record HasWorked (m : Member W P T) : Type 0 where
    pub gave : T
    pub gave_is : m.gave ≡ Some gave
    pub none : m.part ≡ None

  -- these are the workers of these members, and what they gave
  abbrev pub AreThose : List (Member W P T) → List W → List T → Type 0
  AreThose [] [] [] = Unit {0}
  AreThose [] [] (t ∷ ts) = ⊥
  AreThose [] (w ∷ ws) ts = ⊥
  AreThose (m ∷ ms) [] ts = ⊥
  AreThose (m ∷ ms) (w ∷ ws) [] = ⊥
  AreThose (m ∷ ms) (w ∷ ws) (t ∷ ts) = (m.worker ≡ w) × (m.gave ≡ Some t) × AreThose ms ws ts

  -- the same of members whose last one comes first
  pub record AreBack (ms : List (Member W P T)) (ws : List W) (ts : List T) : Type 0 where
    pub row : List (Member W P T)
    pub is : ms ≡ reverse row
    pub those : AreThose row ws ts

module _ {F M : Type 0} (g : Shared F (MutBor M × Unit {0}) (Unit {0} × (MutBor M × Unit {0}))) (f : F) where
  -- f may be called with a `&mut` to x
  abbrev pub Accepts : M → Type 0
  Accepts x = (p : MutBor M) → p.now ≡ x → g.pre f (p, tt)

  -- a call of f with a `&mut` to x may leave y there
  pub record Changes (x y : M) : Type 0 where
    pub argument : MutBor M
    pub argument_is : argument.now ≡ x
    pub after_call : MutBor M
    pub call : g.post f (argument, tt) (tt, (after_call, tt))
    pub left : after_call.now ≡ y

module _ {F W P T : Type 0} (g : Shared F (MutBor W × (P × Unit {0})) (T × (MutBor W × Unit {0}))) (f : F) where
  -- f may be called with this worker and this part
  abbrev pub Takes : W → P → Type 0
  Takes w p = (m : MutBor W) → m.now ≡ w → g.pre f (m, (p, tt))

  -- one call of f with this worker and this part may leave the worker so, and give this
  pub record Gives (w : W) (p : P) (w' : W) (t : T) : Type 0 where
    pub argument : MutBor W
    pub argument_is : argument.now ≡ w
    pub after_call : MutBor W
    pub call : g.post f (argument, (p, tt)) (t, (after_call, tt))
    pub left : after_call.now ≡ w'

  -- a member that has its part
  pub record IsReady (m : Member W P T) : Type 0 where
    pub part : P
    pub has : m.part ≡ Some part
    pub none : m.gave ≡ None
    pub takes : Takes m.worker part

  -- one call of f with the member's worker and its part may leave the worker so, and give this
  pub record Did (m : Member W P T) (w' : W) (t : T) : Type 0 where
    pub part : P
    pub had : m.part ≡ Some part
    pub did : Gives m.worker part w' t

  -- it has done it
  pub record Does (m m' : Member W P T) : Type 0 where
    pub part : P
    pub had : m.part ≡ Some part
    pub done : m'.part ≡ None
    pub gave : T
    pub gave_is : m'.gave ≡ Some gave
    pub did : Gives m.worker part m'.worker gave

  -- each worker was called with its part, and this is how it was left, and what it gave, in order
  abbrev pub AreDone : List (Member W P T) → List W → List T → Type 0
  AreDone [] [] [] = Unit {0}
  AreDone [] [] (t ∷ ts) = ⊥
  AreDone [] (w ∷ ws) ts = ⊥
  AreDone (m ∷ ms) [] ts = ⊥
  AreDone (m ∷ ms) (w ∷ ws) [] = ⊥
  AreDone (m ∷ ms) (w ∷ ws) (t ∷ ts) = Did m w t × AreDone ms ws ts
