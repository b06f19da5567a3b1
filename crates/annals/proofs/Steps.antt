-- A step keeps the rule where the caller's part of it does.
use Rattle.std.proofs.Common.{◌≡◌, ◌≢◌, ◌⊎◌, ℕ, Bool, true, false, cond, ◌<◌, List, [], ◌++◌, All, length, get_or, set, ⊎_elim, inl, inr, refl, sym, ap, ◌∙◌, subst}
use lib.Seq.{set-get_or}
use mathlib.Core.Option.{Option, some}
use lib.ListN.{get_elem?}
use Rattle.atomic_table.specs.Table.{State, Act, keeps, carried_after, homes_after, Valid, Allows}
use Rattle.annals.specs.Glossary.{Role, View, Maker, IsBeginning, made_by, StandsFor, Client, Fits, Kept, Sat, MadeNone, FindsAll, Admits}
use Rattle.annals.proofs.Logs.{beginning_refl, beginning_empty, beginning_more, made_other, own_between}
use Rattle.annals.proofs.Views.{views_set}

module _ {K S E D C : Type 0} (P : Client K S E D C) (key : K) where
  -- all entries of the seat's makers in the log are seen, and all of their deeds are known
  abbrev pub MadeAll : View E D C → List E → Type 0
  MadeAll v log = (n : Maker) → StandsFor v.role n → made_by P.by n log ≡ made_by P.by n v.seen

  abbrev pub DoneAll : View E D C → List D → Type 0
  DoneAll v deeds = (n : Maker) → StandsFor v.role n → made_by P.doer n deeds ≡ made_by P.doer n v.done

  -- another seat's part has none of the rights of this seat
  abbrev pub Apart : View E D C → Role → C → Type 0
  Apart v role c = (x : P.Right) → P.has v.role v.client x ≡ true → P.has role c x ≡ true → ⊥

  -- nobody can have had this right
  abbrev pub IsNew : P.World → List E → P.Right → Type 0
  IsNew world log x = (r : Role) (d : C) → P.knows key world r log d → P.has r d x ≡ true → ⊥

  -- each right that a seat has behind a step it had before, or nobody can have had it
  abbrev pub MayHave : View E D C → P.World → List E → C → Type 0
  MayHave v world log c = (x : P.Right) → P.has v.role c x ≡ true → (P.has v.role v.client x ≡ true) ⊎ IsNew world log x

  -- rights go to one seat: what yet another one has stays with it
  pub still_held : (world : P.World) (log : List E) (to : Bool) (x : P.Right) (id at j : ℕ) (r : Role) (d : C) → P.has r d x ≡ true → P.knows key world r log d → at ≡ j → (to ≡ true → (at ≡ j → ⊥) ⊎ IsNew world log x) → cond to id at ≡ j
  still_held world log true x id at j r d h knows here moved = absurd (⊎_elim (λ away. away here) (λ new. new r d knows h) (moved refl))
  still_held world log false x id at j r d h knows here moved = here

  -- what the caller shows of a step by one that makes the entries of `maker`: what it adds to the log, and that the caller's rule holds again
  pub record Made (maker : Maker) (m : Sat S E D C) (i : ℕ) (f : ℕ → ℕ) (then : ℕ → Sat S E D C → Type 0) (world : P.World) (words : List ℕ) (homes : List (Option S)) (log : List E) (deeds : List D) : Type 0 where
    pub entries : List E
    pub by : All (λ e. P.by e ≡ maker) entries
    pub world' : P.World
    pub client : C
    pub act : Act S
    pub valid : Valid homes m.1 act
    pub agreed : P.agrees key world' (set words i (f (get_or words i 0))) (homes_after homes m.1 act) (log ++ entries) deeds
    pub known : P.knows key world' m.0.role (log ++ entries) client
    pub others : (role : Role) (c : C) → (StandsFor role maker → ⊥) → Apart m.0 role c → P.knows key world role log c → P.knows key world' role (log ++ entries) c
    pub rights : MayHave m.0 world log client
    pub tells : then (get_or words i 0) (record { role = m.0.role; seen = log ++ entries; told = []; done = m.0.done; client = client }, carried_after m.1 act)

  -- the same of a step that adds deeds: the seat may see less than all then, but all entries of its own
  pub record Noted (maker : Maker) (m : Sat S E D C) (i : ℕ) (f : ℕ → ℕ) (then : ℕ → Sat S E D C → Type 0) (world : P.World) (words : List ℕ) (homes : List (Option S)) (log : List E) (deeds : List D) : Type 0 where
    pub acts : List D
    pub doer : All (λ d. P.doer d ≡ maker) acts
    pub seen : List E
    pub since : IsBeginning seen log
    pub own : (n : Maker) → StandsFor m.0.role n → made_by P.by n log ≡ made_by P.by n seen
    pub world' : P.World
    pub client : C
    pub act : Act S
    pub valid : Valid homes m.1 act
    pub agreed : P.agrees key world' (set words i (f (get_or words i 0))) (homes_after homes m.1 act) log (deeds ++ acts)
    pub known : P.knows key world' m.0.role log client
    pub others : (role : Role) (c : C) → (StandsFor role maker → ⊥) → Apart m.0 role c → P.knows key world role log c → P.knows key world' role log c
    pub rights : MayHave m.0 world log client
    pub tells : then (get_or words i 0) (record { role = m.0.role; seen = seen; told = []; done = deeds ++ acts; client = client }, carried_after m.1 act)

  -- what a seat with the view v has to do with these lists
  pub record Sees (v : View E D C) (world : P.World) (log : List E) (deeds : List D) : Type 0 where
    pub seen : IsBeginning v.seen log
    pub told : IsBeginning v.told log
    pub own : MadeAll v log
    pub upto : IsBeginning v.done deeds
    pub own_done : DoneAll v deeds
    pub known : P.knows key world v.role log v.client

  pub sees : (s : State S (View E D C)) (r : Kept P key s) (id : ℕ) (v : View E D C) → get_elem? s.views id ≡ some v → Sees v r.world r.log r.deeds
  sees s r id v at = let g = r.each_view id v at in record { seen = g.seen; told = g.told; own = g.own; upto = g.upto; own_done = g.own_done; known = g.known }

  -- what another seat has stays with it
  not_taken : (id : ℕ) (m : Sat S E D C) (s : State S (View E D C)) (r : Kept P key s) → get_elem? s.views id ≡ some m.0 → (c : C) → MayHave m.0 r.world r.log c
      → (j : ℕ) (z : View E D C) (x : P.Right) → j ≢ id → Fits P key r.world r.log r.deeds r.seat_of r.holder j z → P.has z.role z.client x ≡ true → cond (P.has m.0.role c x) id (r.holder x) ≡ j
  not_taken id m s r at c rights j z x ne u h = still_held r.world r.log (P.has m.0.role c x) x id (r.holder x) j z.role z.client h u.known (u.holds x h) (λ e. ⊎_elim (λ k. inl (λ here. ne (sym here ∙ (r.each_view id m.0 at).holds x k))) (λ new. inr new) (rights x e))

  -- where log and deeds stay, others have to do with them what they had
  pub refits : (world world' : P.World) (log : List E) (deeds : List D) (seat_of : Maker → ℕ) (holder holder' : P.Right → ℕ) (j : ℕ) (z : View E D C)
      → Fits P key world log deeds seat_of holder j z → ((x : P.Right) → P.has z.role z.client x ≡ true → holder' x ≡ j) → P.knows key world' z.role log z.client → Fits P key world' log deeds seat_of holder' j z
  refits world world' log deeds seat_of holder holder' j z u holds known = record { seen = u.seen; told = u.told; alone = u.alone; own = u.own; upto = u.upto; own_done = u.own_done; holds = holds; known = known }

  module _ (slots id : ℕ) (m : Sat S E D C) (i : ℕ) (f : ℕ → ℕ) (then : ℕ → Sat S E D C → Type 0) (maker : Maker) (mine : StandsFor m.0.role maker) where
    pub makes : ((world : P.World) (words : List ℕ) (homes : List (Option S)) (log : List E) (deeds : List D) → P.agrees key world words homes log deeds → Sees m.0 world log deeds → length homes ≡ slots → get_or words i 0 < 18446744073709551616 → Made maker m i f then world words homes log deeds)
        → Allows (Kept P key) slots id m i f then
    makes turn s r wide at few =
        let g = r.each_view id m.0 at in
        let t = turn r.world s.words s.homes r.log r.deeds r.agreed (sees s r id m.0 at) wide few in
        let log' : List E = r.log ++ t.entries in
        let holder' : P.Right → ℕ = λ x. cond (P.has m.0.role t.client x) id (r.holder x) in
        let w : View E D C = record { role = m.0.role; seen = log'; told = []; done = m.0.done; client = t.client } in (
          w,
          t.act,
          t.valid,
          record {
            log = log';
            deeds = r.deeds;
            world = t.world';
            seat_of = r.seat_of;
            holder = holder';
            agreed = t.agreed;
            each_view = views_set (Fits P key t.world' log' r.deeds r.seat_of holder') s.views id w
                record { seen = beginning_refl log'; told = beginning_empty log'; alone = g.alone; own = λ n _. refl; upto = g.upto; own_done = g.own_done; holds = λ x h. ap (λ b. cond b id (r.holder x)) h; known = t.known }
                (λ j z ne e. let u = r.each_view j z e in let not : StandsFor z.role maker → ⊥ = λ h. ne (sym (u.alone maker h) ∙ g.alone maker mine) in record {
                  seen = beginning_more z.seen r.log t.entries u.seen;
                  told = beginning_more z.told r.log t.entries u.told;
                  alone = u.alone;
                  own = λ n h. made_other P.by n maker r.log t.entries (λ is. not (subst (StandsFor z.role) is h)) t.by ∙ u.own n h;
                  upto = u.upto;
                  own_done = u.own_done;
                  holds = λ x h. not_taken id m s r at t.client t.rights j z x ne u h;
                  known = t.others z.role z.client not (λ x k h. ne (sym (u.holds x h) ∙ g.holds x k)) u.known;
                });
          },
          t.tells,
        )

    pub notes : ((world : P.World) (words : List ℕ) (homes : List (Option S)) (log : List E) (deeds : List D) → P.agrees key world words homes log deeds → Sees m.0 world log deeds → length homes ≡ slots → get_or words i 0 < 18446744073709551616 → Noted maker m i f then world words homes log deeds)
        → Allows (Kept P key) slots id m i f then
    notes turn s r wide at few =
        let g = r.each_view id m.0 at in
        let t = turn r.world s.words s.homes r.log r.deeds r.agreed (sees s r id m.0 at) wide few in
        let deeds' : List D = r.deeds ++ t.acts in
        let holder' : P.Right → ℕ = λ x. cond (P.has m.0.role t.client x) id (r.holder x) in
        let w : View E D C = record { role = m.0.role; seen = t.seen; told = []; done = deeds'; client = t.client } in (
          w,
          t.act,
          t.valid,
          record {
            log = r.log;
            deeds = deeds';
            world = t.world';
            seat_of = r.seat_of;
            holder = holder';
            agreed = t.agreed;
            each_view = views_set (Fits P key t.world' r.log deeds' r.seat_of holder') s.views id w
                record { seen = t.since; told = beginning_empty r.log; alone = g.alone; own = t.own; upto = beginning_refl deeds'; own_done = λ n _. refl; holds = λ x h. ap (λ b. cond b id (r.holder x)) h; known = t.known }
                (λ j z ne e. let u = r.each_view j z e in let not : StandsFor z.role maker → ⊥ = λ h. ne (sym (u.alone maker h) ∙ g.alone maker mine) in record {
                  seen = u.seen;
                  told = u.told;
                  alone = u.alone;
                  own = u.own;
                  upto = beginning_more z.done r.deeds t.acts u.upto;
                  own_done = λ n h. made_other P.doer n maker r.deeds t.acts (λ is. not (subst (StandsFor z.role) is h)) t.doer ∙ u.own_done n h;
                  holds = λ x h. not_taken id m s r at t.client t.rights j z x ne u h;
                  known = t.others z.role z.client not (λ x k h. ne (sym (u.holds x h) ∙ g.holds x k)) u.known;
                });
          },
          t.tells,
        )

  -- Loads

  -- what the caller shows of a load that is no entry and no deed: what the seat has then seen, with all entries of its own, and what it then knows
  pub record Looked (m : Sat S E D C) (i : ℕ) (then : ℕ → Sat S E D C → Type 0) (world : P.World) (words : List ℕ) (log : List E) : Type 0 where
    pub seen : List E
    pub since : IsBeginning seen log
    pub own : MadeNone P m.0 record m.0 { seen = seen; told = [] }
    pub client : C
    pub known : P.knows key world m.0.role log client
    pub rights : MayHave m.0 world log client
    pub tells : then (get_or words i 0) (record m.0 { seen = seen; told = []; client = client }, m.1)

  pub looks : (slots id : ℕ) (m : Sat S E D C) (i : ℕ) (then : ℕ → Sat S E D C → Type 0) → ((world : P.World) (words : List ℕ) (homes : List (Option S)) (log : List E) (deeds : List D) → P.agrees key world words homes log deeds → Sees m.0 world log deeds → Looked m i then world words log)
      → Allows (Kept P key) slots id m i (λ n. n) then
  looks slots id m i then turn s r wide at few =
      let g = r.each_view id m.0 at in
      let t = turn r.world s.words s.homes r.log r.deeds r.agreed (sees s r id m.0 at) in
      let holder' : P.Right → ℕ = λ x. cond (P.has m.0.role t.client x) id (r.holder x) in
      let w : View E D C = record m.0 { seen = t.seen; told = []; client = t.client } in (
        w,
        keeps,
        tt,
        subst (λ (ws : List ℕ). Kept P key record { words = ws; homes = s.homes; views = set s.views id w }) (sym (set-get_or s.words i 0)) record {
          log = r.log;
          deeds = r.deeds;
          world = r.world;
          seat_of = r.seat_of;
          holder = holder';
          agreed = r.agreed;
          each_view = views_set (Fits P key r.world r.log r.deeds r.seat_of holder') s.views id w
              record { seen = t.since; told = beginning_empty r.log; alone = g.alone; own = λ n h. g.own n h ∙ sym (t.own n h); upto = g.upto; own_done = g.own_done; holds = λ x h. ap (λ b. cond b id (r.holder x)) h; known = t.known }
              (λ j z ne e. let u = r.each_view j z e in refits r.world r.world r.log r.deeds r.seat_of r.holder holder' j z u (λ x h. not_taken id m s r at t.client t.rights j z x ne u h) u.known);
        },
        t.tells,
      )

  pub finds_all : (slots id : ℕ) (m : Sat S E D C) (i : ℕ) → Allows (Kept P key) slots id m i (λ n. n) (λ n m'. FindsAll P m m')
  finds_all slots id m i = looks slots id m i (λ n m'. FindsAll P m m') (λ world words homes log deeds agreed sees. record {
    seen = log;
    since = beginning_refl log;
    own = sees.own;
    client = m.0.client;
    known = sees.known;
    rights = λ x h. inl h;
    tells = record { now = refl; since = sees.seen; covers = sees.told; own = sees.own; there = record { key = key; world = world; words = words; homes = homes; log = log; deeds = deeds; agreed = agreed; seen = beginning_refl log; known = sees.known } };
  })

  pub admits : (slots id : ℕ) (m : Sat S E D C) (i : ℕ) → IsBeginning m.0.seen m.0.told → Allows (Kept P key) slots id m i (λ n. n) (λ n m'. Admits P m m')
  admits slots id m i covered = looks slots id m i (λ n m'. Admits P m m') (λ world words homes log deeds agreed sees.
      let own : MadeNone P m.0 record m.0 { seen = m.0.told; told = [] } = λ n h. own_between P.by n m.0.seen m.0.told log covered sees.told (sees.own n h) in record {
        seen = m.0.told;
        since = sees.told;
        own = own;
        client = m.0.client;
        known = sees.known;
        rights = λ x h. inl h;
        tells = record { now = refl; own = own; there = record { key = key; world = world; words = words; homes = homes; log = log; deeds = deeds; agreed = agreed; seen = sees.told; known = sees.known } };
      })
