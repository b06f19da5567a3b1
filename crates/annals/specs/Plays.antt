-- What each step tells the seat that makes it.
use Rattle.std.specs.Prelude.{◌≡◌, ℕ, ◌<◌, List, []}
use mathlib.Core.Option.{Option}
use Rattle.atomic_table.specs.Seated.{TableId}
use Rattle.atomic_table.specs.Table.{Me}
use Rattle.atomic_table.specs.declared.shared.Seat.{Seat}
use Rattle.annals.specs.declared.view.View.{View}
use Rattle.annals.specs.Logs.{Maker, IsBeginning, made_by}
use Rattle.annals.specs.Client.{StandsFor, Client}

abbrev pub Sat : Type 0 → Type 0 → Type 0 → Type 0 → Type 0
Sat S E D C = Me S (View E D C)

module _ {K S E D C : Type 0} (P : Client K S E D C) where
  -- a table at which the seat is: there the caller's rule holds
  pub record IsAt (v : View E D C) : Type 0 where
    pub key : K
    pub world : P.World
    pub words : List ℕ
    pub homes : List (Option S)
    pub log : List E
    pub deeds : List D
    pub agreed : P.agrees key world words homes log deeds
    pub seen : IsBeginning v.seen log
    pub known : P.knows key world v.role log v.client

  -- from v to w nothing was made by who makes the seat's entries
  abbrev pub MadeNone : View E D C → View E D C → Type 0
  MadeNone v w = (m : Maker) → StandsFor v.role m → made_by P.by m w.seen ≡ made_by P.by m v.seen

  -- all entries until now are seen, and so all that was told
  pub record FindsAll (m m' : Sat S E D C) : Type 0 where
    pub now : m' ≡ (record m.0 { seen = m'.0.seen; told = [] }, m.1)
    pub since : IsBeginning m.0.seen m'.0.seen
    pub covers : IsBeginning m.0.told m'.0.seen
    pub own : MadeNone m.0 m'.0
    pub there : IsAt m'.0

  -- just what was told is seen
  pub record Admits (m m' : Sat S E D C) : Type 0 where
    pub now : m' ≡ (record m.0 { seen = m.0.told; told = [] }, m.1)
    pub own : MadeNone m.0 m'.0
    pub there : IsAt m'.0

  abbrev pub found_all : Sat S E D C → ℕ → Sat S E D C → Type 0
  found_all m n m' = FindsAll m m'

  abbrev pub admitted : Sat S E D C → ℕ → Sat S E D C → Type 0
  admitted m n m' = Admits m m'

  -- Two seats

  -- one step by the seat, which has then seen what another had seen
  pub record Covers (m : Sat S E D C) (other : List E) (m' : Sat S E D C) : Type 0 where
    pub now : m' ≡ (record m.0 { seen = m'.0.seen; told = [] }, m.1)
    pub since : IsBeginning m.0.seen m'.0.seen
    pub covers : IsBeginning other m'.0.seen
    pub own : MadeNone m.0 m'.0
    pub there : IsAt m'.0

  -- one step by the seat, which has then seen just this
  pub record Accepts (m : Sat S E D C) (all : List E) (m' : Sat S E D C) : Type 0 where
    pub now : m' ≡ (record m.0 { seen = all; told = [] }, m.1)
    pub own : MadeNone m.0 m'.0
    pub there : IsAt m'.0

module _ {S E D C : Type 0} where
  pub record IsSeated (table : TableId) (seat : Seat S (View E D C)) : Type 0 where
    pub seated : seat.table_id ≡ table
    pub some : 0 < table.words

  -- the same seat
  pub record IsSameSeat (seat seat' : Seat S (View E D C)) : Type 0 where
    pub table : seat'.table_id ≡ seat.table_id
    pub me : seat'.me ≡ seat.me
