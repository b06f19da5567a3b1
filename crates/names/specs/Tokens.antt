-- The names in use in a domain, with the tokens that have them.
use Rattle.std.specs.Prelude.{◌≡◌, ℕ, false, List, ◌∷◌, Option, Some, None, option_map, bytes_eq, count_by, IsPermutation}
use Rattle.std.specs.Map.{lookup}
use Rattle.sseq.specs.declared.index.Index.{Index}
use Rattle.names.specs.declared.names.NamedToken.{NamedToken}
use Rattle.names.specs.declared.names.NamedToken.TheVariants as token
use Rattle.requests.specs.declared.scene.Kind.{Kind}
use Rattle.names.specs.OpenSections.{is_index}
use Rattle.sections.specs.Shelves.{words_of}
use Rattle.plugs.specs.declared.rows.Row.{Row}
use Rattle.plugs.specs.Parts.{rows_in}
use Rattle.plugs.specs.Views.{LeaseView}
use Rattle.names.specs.Bearers.{Bearer, Look, Reading, Held, Ticket, Lease, kind_of}

-- `tokens` are the names with what has them, in an order that means nothing, and `room` is how many more there is memory for
pub record NamesView (A : Type 0) : Type 0 where
  pub tokens : List (List ℕ × NamedToken A)
  pub room : ℕ

-- the rows of the version of a lease
abbrev pub rows_of : LeaseView → List Row
rows_of l = rows_in (words_of l.found.cell l.found.version l.found.texts)

module _ {A : Type 0} where
  -- what has this name
  abbrev pub token_at : List ℕ → List (List ℕ × NamedToken A) → Option (NamedToken A)
  token_at name tokens = lookup (bytes_eq name) tokens

  -- the name is free now, and every other name has what it had
  pub record Frees (name : List ℕ) (old new : List (List ℕ × NamedToken A)) : Type 0 where
    pub here : token_at name new ≡ None
    pub others : (other : List ℕ) → bytes_eq name other ≡ false → token_at other new ≡ token_at other old

  -- what a script knows of a token
  abbrev pub bearer_of : NamedToken A → Bearer
  bearer_of (token.Look l) = Look l.index
  bearer_of (token.Reading r) = Reading r.section r.processor
  bearer_of (token.Held h) = Held h.section
  bearer_of (token.Ticket t) = Ticket t.numbers
  bearer_of (token.Lease l) = Lease l.held.section (rows_of l)

  -- of which kind it is that has this name
  abbrev pub kind_in : List ℕ → List (List ℕ × NamedToken A) → Option Kind
  kind_in name tokens = option_map kind_of (option_map bearer_of (token_at name tokens))

  -- this had the name, which is free now
  pub record TakesOut (name : List ℕ) (t : NamedToken A) (old new : List (List ℕ × NamedToken A)) : Type 0 where
    pub there : token_at name old ≡ Some t
    pub frees : Frees name old new
    pub stored : List ℕ
    pub moves : IsPermutation old ((stored, t) ∷ new)

  -- the index of the open section that a token stands for
  abbrev pub open_index : NamedToken A → Option Index
  open_index (token.Look l) = None
  open_index (token.Reading r) = Some r.index
  open_index (token.Held h) = Some h.index
  open_index (token.Ticket t) = None
  open_index (token.Lease l) = Some l.held.index

  -- how many of the tokens are open sections of this index
  abbrev pub held_of : Index → List (List ℕ × NamedToken A) → ℕ
  held_of i tokens = count_by (λ t. is_index i (open_index t.1)) tokens
