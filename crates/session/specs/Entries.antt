-- How a domain of a session is seen, and what is always true of it.
use Rattle.std.specs.Prelude.{◌≡◌, ℕ, ◌<◌, List, [], ◌∷◌, All, map, Option, Some, None, option_map, IfSome}
use Rattle.atomic_table.specs.Seated.{TableId}
use Rattle.sseq.specs.declared.index.Index.{Index}
use Rattle.onedom.specs.Histories.{begins_of, index_of, IsLegal}
use Rattle.sections.specs.Views.{ReadingView}
use Rattle.sections.specs.Dealing.{new_writer}
use Rattle.sections.specs.Words.{cells_in}
use Rattle.scan.specs.Standings.{Standing}
use Rattle.solo.specs.Calls.{SoloView, IsOf}
use Rattle.solo.specs.Barriers.{IsTicketOf}
use Rattle.names.specs.declared.names.NamedToken.{NamedToken}
use Rattle.names.specs.declared.names.NamedToken.TheVariants as token
use Rattle.session.specs.declared.entry.Entry.TheInside as entry
use Rattle.names.specs.OpenSections.{open_of}
use Rattle.notify.specs.Chains.{ChainState}
use Rattle.plugs.specs.Views.{TableState}
use Rattle.solo.specs.Chains as chains
use Rattle.solo.specs.Tables as tables
use Rattle.names.specs.Tokens.{token_at, rows_of, bearer_of, open_index, held_of}
use Rattle.names.specs.Parkings.{ParkingView}
use Rattle.session.specs.Batches.{Batch, AreBatchesOf}
use Rattle.names.specs.Parkings.{desk_of}
use Rattle.session.specs.States.{Names, ChainNow, TableNow, DomainState, EntryView, chain_now, table_now}

-- the reading is of a section of this domain, and has its index
pub record IsReadingOf (table : TableId) (s : Standing) (r : ReadingView) : Type 0 where
  pub of_domain : IsOf table s.processors r
  pub begun : 0 < begins_of r.section s.history
  pub index : index_of r.section s.history ≡ r.index

-- nothing was put into these cells
abbrev pub IsNewChain : SoloView (List ℕ) → ChainState → Type 0
IsNewChain d s = (s ≡ record { writer = new_writer d.table 0 d.limits.slots; ids = 16; blocks = [] }) × (0 < cells_in d.table)

abbrev pub IsNewTable : SoloView (List ℕ) → TableState → Type 0
IsNewTable d b = (b ≡ record { writer = new_writer d.table 1 d.limits.slots; rows = [] }) × (1 < cells_in d.table)

-- the chain lies in the first cell of the domain, and the table in the second, and they are what is current there
pub record AreUsers (d : SoloView (List ℕ)) (s : ChainState) (b : TableState) : Type 0 where
  pub chain : chains.IsCurrent d s
  pub first : s.writer.cell ≡ 0
  pub ids : s.ids ≡ 16
  pub table : tables.IsCurrent d b
  pub second : b.writer.cell ≡ 1

module _ {A : Type 0} where
  abbrev pub names_of : List (List ℕ × NamedToken A) → Names
  names_of tokens = map (λ t. (t.0, bearer_of t.1)) tokens

  abbrev pub state_with : ChainNow → TableNow → List ℕ → List (List ℕ × NamedToken A) → Option (List ℕ × ReadingView) → SoloView (List ℕ) → DomainState
  state_with chain table name tokens parked d = record {
    name = name;
    names = names_of tokens;
    desk = desk_of parked;
    lines = d.lines;
    chain = chain;
    table = table;
    course = d.course;
  }

  abbrev pub entry_with : ChainNow → TableNow → List ℕ → List (List ℕ × NamedToken A) → Option (List ℕ × ReadingView) → SoloView (List ℕ) → EntryView
  entry_with chain table name tokens parked d = record { limits = d.limits; table = d.table; state = state_with chain table name tokens parked d }

  -- all tokens: those under names, and the section that is parked
  abbrev pub tokens_with : Option (List ℕ × ReadingView) → List (List ℕ × NamedToken A) → List (List ℕ × NamedToken A)
  tokens_with None tokens = tokens
  tokens_with (Some p) tokens = (p.0, token.Held p.1) ∷ tokens

  -- the token is of this domain
  abbrev pub IsTokenOf : SoloView (List ℕ) → NamedToken A → Type 0
  IsTokenOf d (token.Look l) = l.domain ≡ d.table
  IsTokenOf d (token.Reading r) = IsReadingOf d.table d.course.standing r
  IsTokenOf d (token.Held h) = IsReadingOf d.table d.course.standing h
  IsTokenOf d (token.Ticket t) = IsTicketOf d t
  IsTokenOf d (token.Lease l) = IsReadingOf d.table d.course.standing l.held × tables.HoldsRows l (rows_of l)

  -- all tokens are of the domain, and as many of them are open sections of an index as sections of it are open
  pub record AreOf (d : SoloView (List ℕ)) (tokens : List (List ℕ × NamedToken A)) : Type 0 where
    pub legal : IsLegal d.course.standing.history
    pub each : All (λ (t : List ℕ × NamedToken A). IsTokenOf d t.1) tokens
    pub counted : (i : Index) → held_of i tokens ≡ open_of i d.course.standing.history

  -- a domain, the tokens under names there, and its desk: that is of this domain, and the name of what lies there is no other token's
  pub record AreTogether (d : SoloView (List ℕ)) (tokens : List (List ℕ × NamedToken A)) (p : ParkingView) : Type 0 where
    pub all : AreOf d (tokens_with p.parked tokens)
    pub desk : p.domain ≡ d.table
    pub apart : IfSome p.parked (λ named. token_at named.0 tokens ≡ None)

  -- no token is an open section
  abbrev pub AreClosed : List (List ℕ × NamedToken A) → Type 0
  AreClosed tokens = All (λ (t : List ℕ × NamedToken A). open_index t.1 ≡ None) tokens

  -- nothing is left that has to be spent: no token is an open section, nothing is parked, and no batch is out
  pub record AreSpent (tokens : List (List ℕ × NamedToken A)) (p : ParkingView) (kept : List (Option Batch)) : Type 0 where
    pub closed : AreClosed tokens
    pub empty : p.parked ≡ None
    pub finished : All (λ o. o ≡ None) kept

  abbrev pub view_of_entry : entry.Inside A → EntryView
  view_of_entry e = entry_with (chain_now e.chain) (table_now e.board) e.name e.names.tokens e.parking.parked e.domain

  abbrev pub IsEntry : entry.Inside A → Type 0
  IsEntry e = AreTogether e.domain e.names.tokens e.parking × AreBatchesOf e.domain e.outs.items × AreUsers e.domain e.chain e.board
