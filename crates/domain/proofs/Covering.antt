-- Covering what one processor after the other has seen.
use Rattle.std.proofs.Common.{◌≡◌, ℕ, ◌+◌, ◌<◌, ◌≤◌, List, [], ◌∷◌, ◌++◌, All, map, get_or, length, refl, sym, ap, ◌∙◌, subst, arith, append_assoc, append-nil, length-append}
use Rattle.std.proofs.lemmas.List.{map-append}
use Rattle.std.proofs.lemmas.List.Elements.{All-nil, All-cons, All-push, All-weaker}
use Rattle.onedom.specs.Histories as events
use Rattle.onedom.proofs.CallerLemmas.{beginning_refl, beginning_trans}
use Rattle.sections.specs.declared.view.Step.TheVariants.{LoadIndex}
use Rattle.sections.specs.Glossary.{index_word, IsStart, IsSeenByEngine, IsSameEngine}
use Rattle.sections.specs.Views as sections
use Rattle.sections.specs.declared.view.Shown.TheVariants.{To}
use Rattle.sections.specs.Calls as cpu_calls
use Rattle.sections.specs.EngineCalls as calls
use Rattle.sections.proofs.CallerLemmas.{start_refl, start_trans}
use Rattle.funnel.specs.declared.view.Raise.{Raise}
use Rattle.funnel.specs.Glossary.{FunnelView, value, IsSeenBy, IsSameSeat}
use Rattle.funnel.specs.Histories as tree
use Rattle.funnel.specs.Calls as funnel
use Rattle.desk.specs.Swaps as swaps
use Rattle.desk.specs.Glossary.{swaps_of, BaySeatView, holds}
use Rattle.desk.specs.BayCalls as desk
use Rattle.domain.specs.Glossary.{Engine, CpuView, IsAdmitted}
use Rattle.domain.proofs.Rows.{each_next}
use Rattle.domain.proofs.Turning.{swaps_beginning_refl, swaps_beginning_trans}

-- The engine

module _ {J : Type 0} where
  pub record EngineSoFar (m : ℕ) (e : sections.EngineView) (cpus : List (CpuView J)) (e' : sections.EngineView) : Type 0 where
    pub found : List ℕ
    pub one_each : length found ≡ m
    pub steps : e'.steps ≡ e.steps ++ map LoadIndex found
    pub current : All (λ n. n ≡ index_word e.changes) found
    pub same : IsSameEngine e e'
    pub mine : e'.mine ≡ e.mine
    pub changes : e'.changes ≡ e.changes
    pub shown : e'.shown ≡ e.shown
    pub since : events.IsBeginning e.seen e'.seen
    pub texts : IsStart e.texts e'.texts
    pub history : IsSeenByEngine e'
    pub covers : (k : ℕ) (c : CpuView J) → k < m → events.IsBeginning (get_or cpus k c).cpu.seen e'.seen × ((get_or cpus k c).cpu.changes ≤ e'.changes)

  pub engine_none : (e : sections.EngineView) (cpus : List (CpuView J)) → IsSeenByEngine e → EngineSoFar 0 e cpus e
  engine_none e cpus h = record {
    found = [];
    one_each = refl;
    steps = sym (append-nil e.steps);
    current = All-nil (λ n. n ≡ index_word e.changes);
    same = (refl, refl, refl);
    mine = refl;
    changes = refl;
    shown = refl;
    since = beginning_refl e.seen;
    texts = start_refl e.texts;
    history = h;
    covers = λ k c lt. absurd (omega (arith, lt));
  }

  pub engine_next : (m : ℕ) (e : sections.EngineView) (cpus : List (CpuView J)) (between e' : sections.EngineView) (item d : CpuView J) → m < length cpus → item ≡ get_or cpus m d
      → EngineSoFar m e cpus between → calls.Covers between item.cpu.seen item.cpu.changes e' → EngineSoFar (m + 1) e cpus e'
  engine_next m e cpus between e' item d inside is h c = record {
    found = h.found ++ c.value ∷ [];
    one_each = (let more = length-append h.found (c.value ∷ []) in let so_far = h.one_each in omega (arith, more, so_far));
    steps = c.step.steps ∙ (ap (λ l. l ++ LoadIndex c.value ∷ []) h.steps ∙ (append_assoc e.steps (map LoadIndex h.found) (LoadIndex c.value ∷ []) ∙ ap (λ l. e.steps ++ l) (sym (map-append LoadIndex h.found (c.value ∷ [])))));
    current = All-push (λ n. n ≡ index_word e.changes) h.found c.value h.current (c.current ∙ ap index_word (c.step.changes_are ∙ h.changes));
    same = (c.step.same.0 ∙ h.same.0, c.step.same.1 ∙ h.same.1, c.step.same.2 ∙ h.same.2);
    mine = c.step.mine ∙ h.mine;
    changes = c.step.changes_are ∙ h.changes;
    shown = c.step.shown ∙ h.shown;
    since = beginning_trans h.since c.step.since;
    texts = start_trans h.texts c.step.texts;
    history = c.step.history;
    covers = each_next (λ (x : CpuView J). events.IsBeginning x.cpu.seen between.seen × (x.cpu.changes ≤ between.changes)) (λ (x : CpuView J). events.IsBeginning x.cpu.seen e'.seen × (x.cpu.changes ≤ e'.changes)) m cpus item d inside is
        (λ x q. (beginning_trans q.0 c.step.since, (let same = c.step.changes_are in let low = q.1 in omega (arith, same, low)))) (c.covers, c.not_before) h.covers;
  }

-- The tree

pub raises_beginning_refl : (s : List Raise) → tree.IsBeginning s s
raises_beginning_refl s = record { rest = []; whole = sym (append-nil s) }

pub raises_beginning_trans : (a b c : List Raise) → tree.IsBeginning a b → tree.IsBeginning b c → tree.IsBeginning a c
raises_beginning_trans a b c ab bc = record { rest = ab.rest ++ bc.rest; whole = bc.whole ∙ (ap (λ l. l ++ bc.rest) ab.whole ∙ append_assoc a ab.rest bc.rest) }

module _ {J : Type 0} where
  pub record NeedsSoFar (m : ℕ) (n : FunnelView) (cpus : List (CpuView J)) (n' : FunnelView) : Type 0 where
    pub same : IsSameSeat n n'
    pub mine : n'.mine ≡ n.mine
    pub found : List ℕ
    pub one_each : length found ≡ m
    pub loads : n'.loads ≡ n.loads ++ found
    pub within : All (λ m. (value 0 n.seen ≤ m) × (m ≤ value 0 n'.seen)) found
    pub up : value 0 n.seen ≤ value 0 n'.seen
    pub since : tree.IsBeginning n.seen n'.seen
    pub history : IsSeenBy n'
    pub covers : (k : ℕ) (c : CpuView J) → k < m → tree.IsBeginning (get_or cpus k c).needs.seen n'.seen

  pub needs_none : (n : FunnelView) (cpus : List (CpuView J)) → IsSeenBy n → NeedsSoFar 0 n cpus n
  needs_none n cpus h = record {
    same = record { domain = refl; shape = refl; holder = refl };
    mine = refl;
    found = [];
    one_each = refl;
    loads = sym (append-nil n.loads);
    within = All-nil (λ m. (value 0 n.seen ≤ m) × (m ≤ value 0 n.seen));
    up = omega arith;
    since = raises_beginning_refl n.seen;
    history = h;
    covers = λ k c lt. absurd (omega (arith, lt));
  }

  pub needs_next : (m : ℕ) (n : FunnelView) (cpus : List (CpuView J)) (between n' : FunnelView) (item d : CpuView J) → m < length cpus → item ≡ get_or cpus m d
      → NeedsSoFar m n cpus between → funnel.Covers between item.needs.seen n' → NeedsSoFar (m + 1) n cpus n'
  needs_next m n cpus between n' item d inside is h c = record {
    same = record { domain = c.load.same.domain ∙ h.same.domain; shape = c.load.same.shape ∙ h.same.shape; holder = c.load.same.holder ∙ h.same.holder };
    mine = c.load.mine ∙ h.mine;
    found = h.found ++ c.found ∷ [];
    one_each = (let more = length-append h.found (c.found ∷ []) in let so_far = h.one_each in omega (arith, more, so_far));
    loads = c.load.loads ∙ (ap (λ l. l ++ c.found ∷ []) h.loads ∙ append_assoc n.loads h.found (c.found ∷ []));
    within = All-push (λ x. (value 0 n.seen ≤ x) × (x ≤ value 0 n'.seen)) h.found c.found
        (All-weaker (λ x. (value 0 n.seen ≤ x) × (x ≤ value 0 between.seen)) (λ x. (value 0 n.seen ≤ x) × (x ≤ value 0 n'.seen)) (λ x q. (q.0, (let most = q.1 in let low = c.load.not_below in let now = c.load.current in omega (arith, most, low, now)))) h.found h.within)
        (let up = h.up in let low = c.load.not_below in let now = c.load.current in (omega (arith, up, low), omega (arith, now)));
    up = (let up = h.up in let low = c.load.not_below in let now = c.load.current in omega (arith, up, low, now));
    since = raises_beginning_trans _ _ _ h.since c.load.since;
    history = c.load.history;
    covers = each_next (λ (x : CpuView J). tree.IsBeginning x.needs.seen between.seen) (λ (x : CpuView J). tree.IsBeginning x.needs.seen n'.seen) m cpus item d inside is (λ x q. raises_beginning_trans _ _ _ q c.load.since) c.covers h.covers;
  }

  -- The turns

  pub record TurnSoFar (m : ℕ) (t : BaySeatView Engine) (cpus : List (CpuView J)) (t' : BaySeatView Engine) : Type 0 where
    pub same : t' ≡ record t { seen = t'.seen }
    pub since : swaps.IsBeginning t.seen t'.seen
    pub own : swaps_of t.number t'.seen ≡ swaps_of t.number t.seen
    pub holding : holds t' ≡ holds t
    pub covers : (k : ℕ) (c : CpuView J) → k < m → swaps.IsBeginning (get_or cpus k c).turn.seen t'.seen

  pub turn_none : (t : BaySeatView Engine) (cpus : List (CpuView J)) → TurnSoFar 0 t cpus t
  turn_none t cpus = record { same = refl; since = swaps_beginning_refl t.seen; own = refl; holding = refl; covers = λ k c lt. absurd (omega (arith, lt)) }

  pub turn_next : (m : ℕ) (t : BaySeatView Engine) (cpus : List (CpuView J)) (between t' : BaySeatView Engine) (item d : CpuView J) → m < length cpus → item ≡ get_or cpus m d
      → TurnSoFar m t cpus between → desk.Covers between item.turn.seen t' → TurnSoFar (m + 1) t cpus t'
  turn_next m t cpus between t' item d inside is h c =
      let number : between.number ≡ t.number = ap (λ (z : BaySeatView Engine). z.number) h.same in record {
        same = c.same ∙ ap (λ (z : BaySeatView Engine). record z { seen = t'.seen }) h.same;
        since = swaps_beginning_trans _ _ _ h.since c.since;
        own = ap (λ n. swaps_of n t'.seen) (sym number) ∙ (c.own ∙ (ap (λ n. swaps_of n between.seen) number ∙ h.own));
        holding = c.holding ∙ h.holding;
        covers = each_next (λ (x : CpuView J). swaps.IsBeginning x.turn.seen between.seen) (λ (x : CpuView J). swaps.IsBeginning x.turn.seen t'.seen) m cpus item d inside is (λ x q. swaps_beginning_trans _ _ _ q c.since) c.covers h.covers;
      }

  -- Admitting

  -- the engine and the seat stay as they were first, and admit one more processor
  pub admitted_here : (e e0 : Engine) (n n0 : FunnelView) (c : CpuView J) (cpu' : sections.CpuView) (needs' : FunnelView) → e ≡ e0 → n ≡ n0
      → events.IsBeginning c.cpu.seen e0.seat.seen × (c.cpu.changes ≤ e0.seat.changes) → tree.IsBeginning c.needs.seen n0.seen
      → cpu_calls.Accepts c.cpu e.seat.seen e.seat.changes e.seat.texts cpu' → cpu_calls.IsSeenBy c.cpu → c.cpu.processors ≡ e.seat.processors → ((m : ℕ) → e.seat.shown ≡ To c.cpu.processor m → m ≤ c.cpu.changes)
      → funnel.Accepts c.needs n.seen needs'
      → IsAdmitted e0.seat n0 c (record { cpu = cpu'; needs = needs'; turn = c.turn; calls = c.calls })
  admitted_here e e0 n n0 c cpu' needs' same_engine same_needs since raises accepts was sized heard a = record {
    cpu = record { accepts = subst (λ (z : Engine). cpu_calls.Accepts c.cpu z.seat.seen z.seat.changes z.seat.texts cpu') same_engine accepts; since = since.0; later = since.1 };
    was = was;
    sized = sized ∙ ap (λ (z : Engine). z.seat.processors) same_engine;
    heard = subst (λ (z : Engine). (m : ℕ) → z.seat.shown ≡ To c.cpu.processor m → m ≤ c.cpu.changes) same_engine heard;
    needs = record { same = a.same; mine = a.mine; found = a.found ∷ []; loads = a.loads; since = raises; seen = a.seen ∙ ap (λ (z : FunnelView). z.seen) same_needs; history = a.history };
    one_load = refl;
    root = All-cons (λ m. value 0 n0.seen ≤ m) a.found [] (subst (λ (z : FunnelView). value 0 z.seen ≤ a.found) same_needs a.not_below) (All-nil (λ m. value 0 n0.seen ≤ m));
    turn = refl;
    calls = refl;
  }
