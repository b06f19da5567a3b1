-- From steps at the seat, one behind the other, to an answer of the engine.
use Rattle.std.proofs.Common.{◌≡◌, ◌≢◌, ℕ, ◌≤◌, Bool, true, false, List, [], ◌∷◌, ◌++◌, refl, sym, ap, ◌∙◌, subst, arith}
use Rattle.sections.specs.Glossary.{EngineView, IsSeenByEngine}
use Rattle.scan.specs.Glossary.{Place, Progress, viewed, IsAt, Moves, AtWork, AdvancesTo, GoesOn, Stand, MovesBy, MovesThrough, MovesUntil}
use Rattle.scan.specs.declared.place.Place.TheVariants.{Idle, Unlocks, Locks}
use Rattle.scan.specs.declared.progress.Progress.TheVariants.{Step}
use Rattle.scan.proofs.Stepping.{steps_from, not_idle, IsUnderWay, nothing_yet, under_way, arrives}

joined : (xs ys : List Stand) (s t u : Stand) → MovesBy s xs t → MovesBy t ys u → MovesBy s (xs ++ ys) u
joined [] ys s t u same after = subst (λ z. MovesBy z ys u) same after
joined (x ∷ xs) ys s t u row after = (row.0, joined xs ys x t u row.1 after)

module _ (once : Bool) where
  -- no step was made
  pub stays : (e : EngineView) (p : Place) → IsSeenByEngine e → IsAt e p → MovesThrough once e p e p
  stays e p seen at = record { between = []; row = refl; none = λ _. refl; history = seen; place_is = at }

  pub one_more : (e f g : EngineView) (p q r : Place) → once ≡ false → MovesThrough once e p f q → Moves f q g r Step → MovesThrough once e p g r
  one_more e f g p q r off a m = record {
    between = a.between ++ record { seat = g; place = r } ∷ [];
    row = joined a.between (record { seat = g; place = r } ∷ []) _ _ _ a.row (m, refl);
    none = λ on. absurd cc;
    history = m.history;
    place_is = m.place_is;
  }

  -- the last step, which has an answer unless one at a time is made
  pub stops : (e f g : EngineView) (p q r : Place) (a : Progress) → MovesThrough once e p f q → Moves f q g r a → (once ≡ false → a ≢ Step) → MovesUntil once e p g r a
  stops e f g p q r a before m other = record { seat = f; last = q; before = before; answers = m; other = other }

  pub stops_at_once : (e f : EngineView) (p q : Place) (a : Progress) → IsSeenByEngine e → IsAt e p → Moves e p f q a → (once ≡ false → a ≢ Step) → MovesUntil once e p f q a
  stops_at_once e f p q a seen at m other = stops e e f p p q a (stays e p seen at) m other

  pub answered_later : (e f g : EngineView) (p q r : Place) (a : Progress) → once ≡ false → MovesThrough once e p f q → MovesUntil once f q g r a → MovesUntil once e p g r a
  answered_later e f g p q r a off before m = record {
    seat = m.seat;
    last = m.last;
    before = record {
      between = before.between ++ m.before.between;
      row = joined before.between m.before.between _ _ _ before.row m.before.row;
      none = λ on. absurd cc;
      history = m.before.history;
      place_is = m.before.place_is;
    };
    answers = m.answers;
    other = m.other;
  }

  -- in a scan, up to a processor that is known by another name
  pub up_to_unlocks : (e f : EngineView) (start : Place) (p q ended : ℕ) → p ≡ q → MovesThrough once e start f (Unlocks p ended) → MovesThrough once e start f (Unlocks q ended)
  up_to_unlocks e f start p q ended is row = subst (λ n. MovesThrough once e start f (Unlocks n ended)) is row

  pub up_to_locks : (e f : EngineView) (start : Place) (p q ended begun : ℕ) → p ≡ q → MovesThrough once e start f (Locks p ended begun) → MovesThrough once e start f (Locks q ended begun)
  up_to_locks e f start p q ended begun is row = subst (λ n. MovesThrough once e start f (Locks n ended begun)) is row

-- where one step at a time is made, one was
pub one_step : (e f : EngineView) (p q : Place) (a : Progress) → MovesUntil true e p f q a → Moves e p f q a
one_step e f p q a m =
    let none : MovesBy (record { seat = e; place = p }) [] (record { seat = m.seat; place = m.last }) = subst (λ xs. MovesBy (record { seat = e; place = p }) xs (record { seat = m.seat; place = m.last })) (m.before.none refl) m.before.row in
    subst (λ (z : Stand). Moves z.seat z.place f q a) none m.answers

-- the domain has as many processors as it had
by_same : (xs : List Stand) (s t : Stand) → MovesBy s xs t → t.seat.processors ≡ s.seat.processors
by_same [] s t same = ap (λ (z : Stand). z.seat.processors) same
by_same (x ∷ xs) s t row = by_same xs x t row.1 ∙ row.0.same.1

pub until_same : (once : Bool) (e f : EngineView) (p q : Place) (a : Progress) → MovesUntil once e p f q a → f.processors ≡ e.processors
until_same once e f p q a m = m.answers.same.1 ∙ by_same m.before.between _ _ m.before.row

-- As steps of the engine

pub place_kept : (e f : EngineView) (p q : Place) → Moves e p f q Step → q ≢ Idle
place_kept e f p q m = let more = m.counts in not_idle f.processors q (omega (arith, more))

-- something is to be done there
record IsBusy (s : Stand) : Type 0 where
  pub some : 1 ≤ s.seat.processors
  pub busy : s.place ≢ Idle
  pub history : IsSeenByEngine s.seat
  pub place_is : IsAt s.seat s.place

busy_next : (s t : Stand) → IsBusy s → Moves s.seat s.place t.seat t.place Step → IsBusy t
busy_next s t b m = let some = b.some in let same = m.same.1 in record { some = omega (arith, some, same); busy = place_kept s.seat t.seat s.place t.place m; history = m.history; place_is = m.place_is }

module _ {N : Type 0} (loads : N → ℕ → N → Type 0) (needs : N) (u : AtWork N) where
  record IsComeTo (t : Stand) : Type 0 where
    pub busy : IsBusy t
    pub under_way : IsUnderWay loads u (viewed t.seat needs t.place)

  come_along : (xs : List Stand) (s t : Stand) → IsComeTo s → MovesBy s xs t → IsComeTo t
  come_along [] s t here same = subst IsComeTo (sym same) here
  come_along (x ∷ xs) s t here row = let b = here.busy in
      come_along xs x t (record { busy = busy_next s x b row.0; under_way = under_way loads u _ _ here.under_way (steps_from loads s.seat x.seat needs s.place x.place Step b.some b.busy b.history b.place_is row.0) }) row.1

  pub arrives_by : (e f : EngineView) (p q : Place) (a : Progress) → 1 ≤ e.processors → p ≢ Idle → IsSeenByEngine e → IsAt e p → IsUnderWay loads u (viewed e needs p) → MovesUntil false e p f q a → AdvancesTo loads u a (viewed f needs q)
  arrives_by e f p q a some busy seen at before m =
      let last = come_along m.before.between _ (record { seat = m.seat; place = m.last }) (record { busy = record { some = some; busy = busy; history = seen; place_is = at }; under_way = before }) m.before.row in
      let b = last.busy in
      arrives loads u (viewed m.seat needs m.last) (viewed f needs q) a last.under_way (steps_from loads m.seat f needs m.last q a b.some b.busy b.history b.place_is m.answers) (m.other refl)

-- one step, or steps until there is an answer
pub goes : {N : Type 0} (loads : N → ℕ → N → Type 0) (needs : N) (once : Bool) (e f : EngineView) (p q : Place) (a : Progress) → 1 ≤ e.processors → p ≢ Idle → IsSeenByEngine e → IsAt e p → MovesUntil once e p f q a → GoesOn loads once (viewed e needs p) a (viewed f needs q)
goes loads needs true e f p q a some busy seen at m = steps_from loads e f needs p q a some busy seen at (one_step e f p q a m)
goes loads needs false e f p q a some busy seen at m = arrives_by loads needs (viewed e needs p) e f p q a some busy seen at (nothing_yet loads (viewed e needs p)) m
