-- What the calls of the ends of a line do.
use Rattle.std.specs.Prelude.{◌≡◌, List, [], ◌∷◌, ◌++◌, Option}
use Rattle.intake.specs.Rule.{MayFollow}
use Rattle.intake.specs.Views.{InletView, OutletView, LazyInletView, LazyOutletView}

module _ {T K A : Type 0} where
  -- the two ends of a new line with this key
  pub record IsNew (key : Option K) (inlet : InletView T K A) (outlet : OutletView T K A) : Type 0 where
    pub inlet_is : inlet ≡ record { line = outlet.line; key = key; pushed = [] }
    pub outlet_is : outlet ≡ record { line = outlet.line; key = key; taken = [] }

  abbrev pub Pushes : InletView T K A → T → InletView T K A → Type 0
  Pushes i x j = j ≡ record i { pushed = i.pushed ++ x ∷ [] }

  -- it was the first of those that were not taken out, and what it has to be behind all before it
  pub record Pops (follows : K → List T → T → Type 0) (o : OutletView T K A) (x : T) (p : OutletView T K A) : Type 0 where
    pub is : p ≡ record o { taken = o.taken ++ x ∷ [] }
    pub follows_is : MayFollow follows o.key o.taken x

-- The same of a line whose queue is made at the first push

module _ {T K : Type 0} where
  abbrev pub PushesLazily : LazyInletView T K → T → LazyInletView T K → Type 0
  PushesLazily i x j = j ≡ record i { pushed = i.pushed ++ x ∷ [] }

  pub record PopsLazily (follows : K → List T → T → Type 0) (o : LazyOutletView T K) (x : T) (p : LazyOutletView T K) : Type 0 where
    pub is : p ≡ record o { taken = o.taken ++ x ∷ [] }
    pub follows_is : MayFollow follows o.key o.taken x
