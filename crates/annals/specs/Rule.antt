-- The rule of a table with a log: there is one log, and one list of deeds. Each seat has seen a beginning of both, with all of its own entries and deeds, and a rule of the caller's holds.
use Rattle.std.specs.Prelude.{◌≡◌, ℕ, true, ◌+◌, List, []}
use mathlib.Core.Option.{some}
use lib.ListN.{get_elem?}
use Rattle.atomic_table.specs.Table.{State}
use Rattle.annals.specs.declared.view.Role.{Role}
use Rattle.annals.specs.declared.view.Role.TheVariants.{Nobody, Dealer, Sits}
use Rattle.annals.specs.declared.view.View.{View}
use Rattle.annals.specs.Logs.{Maker, IsBeginning, made_by}
use Rattle.annals.specs.Client.{StandsFor, Client}

-- when the next seat is dealt
abbrev pub without_next : Role → Role
without_next Nobody = Nobody
without_next (Dealer k) = Dealer (k + 1)
without_next (Sits n) = Sits n

abbrev pub next : Role → Role
next Nobody = Nobody
next (Dealer k) = Sits k
next (Sits n) = Nobody

abbrev pub number_of : Role → ℕ
number_of Nobody = 0
number_of (Dealer k) = k
number_of (Sits n) = n

module _ {K S E D C : Type 0} (P : Client K S E D C) where
  pub record Fits (key : K) (world : P.World) (log : List E) (deeds : List D) (seat_of : Maker → ℕ) (holder : P.Right → ℕ) (id : ℕ) (v : View E D C) : Type 0 where
    pub seen : IsBeginning v.seen log
    pub told : IsBeginning v.told log
    pub alone : (m : Maker) → StandsFor v.role m → seat_of m ≡ id
    pub own : (m : Maker) → StandsFor v.role m → made_by P.by m log ≡ made_by P.by m v.seen
    pub upto : IsBeginning v.done deeds
    pub own_done : (m : Maker) → StandsFor v.role m → made_by P.doer m deeds ≡ made_by P.doer m v.done
    pub holds : (x : P.Right) → P.has v.role v.client x ≡ true → holder x ≡ id
    pub known : P.knows key world v.role log v.client

  pub record Kept (key : K) (s : State S (View E D C)) : Type 0 where
    pub log : List E
    pub deeds : List D
    pub world : P.World
    pub seat_of : Maker → ℕ
    pub holder : P.Right → ℕ
    pub agreed : P.agrees key world s.words s.homes log deeds
    pub each_view : (j : ℕ) (v : View E D C) → get_elem? s.views j ≡ some v → Fits key world log deeds seat_of holder j v

  -- Views that are made

  abbrev pub founder : K → View E D C
  founder key = record { role = Dealer 0; seen = []; told = []; done = []; client = P.first key }

  -- what is left of a seat that was taken in
  abbrev pub spent : View E D C
  spent = record { role = Nobody; seen = []; told = []; done = []; client = P.blank }

  -- a seat of its own has seen as much
  abbrev pub bearer : View E D C → View E D C
  bearer v = record { role = Nobody; seen = v.seen; told = []; done = []; client = P.blank }

  abbrev pub dealt : View E D C → View E D C
  dealt v = record { role = next v.role; seen = v.seen; told = []; done = v.done; client = P.dealt (number_of v.role) v.client }

module _ {E D C : Type 0} where
  -- what the other seat has seen is told
  abbrev pub informed : View E D C → View E D C → View E D C
  informed v w = record v { told = w.seen }

  abbrev pub dealer : View E D C → View E D C
  dealer v = record v { role = without_next v.role }
