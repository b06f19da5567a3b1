-- What is there when a line is read.
use Rattle.std.specs.Prelude.{◌≡◌, ℕ, List, Option, Some}
use Rattle.requests.specs.declared.scene.Kind.{Kind}

-- a domain and a set go by their places: `place_of` gives the place of the domain of a name, `set_of` the place of the set of a name, `processors_of` how many processors the domain at a place has, and `kind_of` what has a name there
pub record SceneView : Type 0 where
  pub place_of : List ℕ → Option ℕ
  pub set_of : List ℕ → Option ℕ
  pub processors_of : ℕ → ℕ
  pub kind_of : ℕ → List ℕ → Option Kind

-- a domain is at this place
abbrev pub IsPlace : SceneView → ℕ → Type 0
IsPlace s place = (name : List ℕ) × (s.place_of name ≡ Some place)

-- a set is at this place
abbrev pub IsSetPlace : SceneView → ℕ → Type 0
IsSetPlace s place = (name : List ℕ) × (s.set_of name ≡ Some place)
