-- That no cut or join of seats claims an entry: only a step on the table gives one.
use Rattle.std.specs.Prelude.{◌≡◌, ℕ, true, List, [], ◌∷◌, ◌++◌}
use mathlib.Core.Option.{Option, some}
use lib.ListN.{get_elem?}
use Rattle.atomic_table.specs.Table.{State, Splits, Joins}
use Rattle.annals.specs.declared.view.Role.{Role}
use Rattle.annals.specs.declared.view.View.{View}
use Rattle.annals.specs.Logs.{Maker, made_by}
use Rattle.annals.specs.Client.{StandsFor, Client}
use Rattle.annals.specs.Rule.{Kept}

-- in what is seen the second time, the maker has no entry that it hasn't in what was seen the first time
pub record HasNoMore {E : Type 0} (by : E → Maker) (m : Maker) (seen again : List E) : Type 0 where
  pub rest : List E
  pub whole : made_by by m seen ≡ made_by by m again ++ rest

module _ {K S E D C : Type 0} (P : Client K S E D C) (key : K) (deeds : List D) where
  -- what is there for the caller's rule, and what a seat of this role knows
  pub record Scene (role : Role) : Type 0 where
    pub world : P.World
    pub words : List ℕ
    pub homes : List (Option S)
    pub log : List E
    pub client : C
    pub agreed : P.agrees key world words homes log deeds
    pub known : P.knows key world role log client

  -- a scene that goes on by one entry of this maker
  pub record GoesOn (o : Maker) (role : Role) (a : Scene role) : Type 0 where
    pub entry : E
    pub by : P.by entry ≡ o
    pub later : Scene role
    pub rights : (x : P.Right) → P.has role later.client x ≡ true → P.has role a.client x ≡ true
    pub log_is : later.log ≡ a.log ++ entry ∷ []
    pub others : (r : Role) (c : C) → (StandsFor r o → ⊥) → P.knows key a.world r a.log c → P.knows key later.world r later.log c

  -- whatever there is, the maker may make one more
  abbrev pub MayGoOn : Maker → Role → Type 0
  MayGoOn o role = (a : Scene role) → GoesOn o role a

module _ {K S E D C : Type 0} (P : Client K S E D C) (key : K) where
  -- however a seat is cut in two or takes another in, the maker m has no entry more, as long as there is another seat elsewhere whose maker o may make more: at the place of that entry, o may have made one of its own
  abbrev pub NoEntryIsForged : Type 0
  NoEntryIsForged = (s : State S (View E D C)) → (r : Kept P key s) → (id : ℕ) (v : View E D C) (m : Maker) → get_elem? s.views id ≡ some v → StandsFor v.role m
      → (there : ℕ) (u : View E D C) (o : Maker) → get_elem? s.views there ≡ some u → StandsFor u.role o → MayGoOn P key r.deeds o u.role → ¬ (there ≡ id)
      → ((left right : View E D C) → Splits (Kept P key) id v left right → HasNoMore P.by m v.seen left.seen × HasNoMore P.by m v.seen right.seen)
      × ((other : ℕ) (w both gone : View E D C) → ¬ (other ≡ id) → ¬ (other ≡ there) → get_elem? s.views other ≡ some w → Joins (Kept P key) id v other w both gone → HasNoMore P.by m v.seen both.seen × HasNoMore P.by m v.seen gone.seen)

  -- whatever there is, this one may do one thing more
  abbrev pub MayDo : Maker → Type 0
  MayDo o = (world : P.World) (words : List ℕ) (homes : List (Option S)) (log : List E) (deeds : List D) → P.agrees key world words homes log deeds → (d : D) × (P.doer d ≡ o) × P.agrees key world words homes log (deeds ++ d ∷ [])

  -- however a seat v is cut in two or takes another in, what comes of it has no deed that was not done: none of a maker h that h's own seat u doesn't have, as long as there is another maker o, for whom no seat here stands, and who may do more
  abbrev pub NoDeedIsForged : Type 0
  NoDeedIsForged = (s : State S (View E D C)) → Kept P key s → (id : ℕ) (v : View E D C) → get_elem? s.views id ≡ some v → (k : ℕ) (u : View E D C) → get_elem? s.views k ≡ some u → (h o : Maker) → StandsFor u.role h → ¬ (h ≡ o) → ¬ StandsFor v.role o → MayDo o
      → ((left right : View E D C) → Splits (Kept P key) id v left right → HasNoMore P.doer h u.done left.done × HasNoMore P.doer h u.done right.done)
      × ((other : ℕ) (w both gone : View E D C) → ¬ (other ≡ id) → get_elem? s.views other ≡ some w → ¬ StandsFor w.role o → Joins (Kept P key) id v other w both gone → HasNoMore P.doer h u.done both.done × HasNoMore P.doer h u.done gone.done)
