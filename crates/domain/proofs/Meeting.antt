-- A meeting, from its parts.
use Rattle.std.proofs.Common.{◌≡◌, ℕ, zero, suc, ◌<◌, ◌≤◌, List, [], ◌∷◌, ◌++◌, All, map, get_or, length, false, Some, None, refl, sym, ap, ◌∙◌, subst, arith, append_assoc}
use Rattle.std.specs.Prelude.{Option, MatchOption}
use Rattle.std.proofs.lemmas.List.Elements.{All-cons, All-weaker}
use Rattle.onedom.proofs.CallerLemmas.{beginning_trans}
use Rattle.sections.specs.declared.view.Step.{Step}
use Rattle.sections.specs.declared.view.Step.TheVariants.{LoadIndex}
use Rattle.sections.specs.declared.view.Shown.TheVariants.{To}
use Rattle.sections.specs.Glossary.{index_word, Joins, IsTied}
use Rattle.sections.specs.Views as sections
use Rattle.sections.specs.Calls as calls
use Rattle.sections.specs.EngineCalls.{Covers}
use Rattle.sections.proofs.CallerLemmas.{seen_all, start_trans}
use Rattle.scan.specs.Glossary.{with_seat, Takes, TakesTurn}
use Rattle.funnel.specs.declared.view.Shape.{Shape}
use Rattle.funnel.specs.declared.view.Holder.{Holder}
use Rattle.funnel.specs.declared.view.Holder.TheVariants.{Processor}
use Rattle.funnel.specs.declared.view.Raise.{Raise}
use Rattle.funnel.specs.declared.view.Call.TheVariants.{Idle}
use Rattle.funnel.specs.Glossary.{FunnelView, value, call_of, IsLegal, LoadsRoot, IsSeenBy, IsIdle, RootHasGreatest}
use Rattle.desk.specs.Glossary.{lies_after, swaps_of, BaySeatView, holds, MakesSwap, Accepts}
use Rattle.calls.specs.Glossary.{AreTakers, CallSeatView, IsSameSeat}
use Rattle.calls.specs.Meetings as tallies
use Rattle.domain.specs.Glossary.{Engine, DomainView, CpuView, IsEngineOf, IsAllOf, EngineMeets, JoinsTree, TreeMeets, TalliesMeet, MeetsHere, EngineCovers, NeedsCover, TurnCovers, EachBecomes, IsAdmitted, IsTurned, IsHeard}
use Rattle.domain.proofs.Turning.{swaps_beginning_trans}
use Rattle.domain.proofs.Lending.{turn_same}
use Rattle.domain.proofs.Staying.{still_fits}
use Rattle.domain.proofs.Covering.{raises_beginning_trans}

module _ {J : Type 0} where
  -- a swap behind loads is a swap behind what was there before them
  pub swap_behind : (v t w : BaySeatView Engine) (cpus : List (CpuView J)) (left : Engine) → TurnCovers v cpus t → MakesSwap t (Some left) None w → MakesSwap v (Some left) None w
  swap_behind v t w cpus left h m =
      let number : t.number ≡ v.number = ap (λ (z : BaySeatView Engine). z.number) h.same in
      record {
        same = m.same ∙ ap (λ (z : BaySeatView Engine). record z { seen = w.seen }) h.same;
        before = m.before;
        since = swaps_beginning_trans _ _ _ h.since m.since;
        own = ap (λ n. swaps_of n m.before) (sym number) ∙ (m.own ∙ (ap (λ n. swaps_of n t.seen) number ∙ h.own));
        finds = m.finds ∙ ap (λ (z : BaySeatView Engine). lies_after z.first m.before) h.same;
        seen = m.seen ∙ ap (λ n. m.before ++ record { by = n; left = Some left; found = None } ∷ []) number;
        history = m.history;
      }

-- the first processor and the others; the engine that was found, and as it was left
module _ {J : Type 0} (d : DomainView) (c : CpuView J) (cs cs1 cs2 cs3 : List (CpuView J)) (e0 e1 e2 : Engine) (cpu' : sections.CpuView) (found : ℕ) (n1 n2 : FunnelView) (took t2 t3 : BaySeatView Engine) (s : CallSeatView J)
    (takes : Takes c.turn e0 took) (covers : Covers e0.seat c.cpu.seen c.cpu.changes e1.seat) (load : LoadsRoot c.needs found n1)
    (engine : EngineCovers e1.seat cs e2.seat) (needs : NeedsCover n1 cs n2) (turn : TurnCovers took cs t2)
    (accepts : calls.Accepts c.cpu e2.seat.seen e2.seat.changes e2.seat.texts cpu') (was : calls.IsSeenBy c.cpu) (sized : c.cpu.processors ≡ e2.seat.processors) (heard : (n : ℕ) → e2.seat.shown ≡ To c.cpu.processor n → n ≤ c.cpu.changes)
    (admitted : EachBecomes (IsAdmitted e2.seat n2) cs cs1) (puts : MakesSwap t2 (Some e2) None t3) (turned : EachBecomes (IsTurned t3) cs1 cs2)
    (met : tallies.Accepts c.calls s.seen s) (heard_all : EachBecomes (IsHeard s) cs2 cs3) where
  abbrev pub after : List (CpuView J)
  after = record { cpu = cpu'; needs = n2; turn = t3; calls = s } ∷ cs3

  same_count : length after ≡ length (c ∷ cs)
  same_count = ap suc (heard_all.count ∙ (turned.count ∙ admitted.count))

  in_others : (k : ℕ) → suc k < length (c ∷ cs) → k < length cs
  in_others k lt = omega (arith, lt)

  in_admitted : (k : ℕ) → suc k < length (c ∷ cs) → k < length cs1
  in_admitted k lt = let n = admitted.count in omega (arith, lt, n)

  in_turned : (k : ℕ) → suc k < length (c ∷ cs) → k < length cs2
  in_turned k lt = let n = admitted.count in let m = turned.count in omega (arith, lt, n, m)

  -- at the tally words one has changed nothing else
  cpu_is : (k : ℕ) (x : CpuView J) → suc k < length (c ∷ cs) → (get_or cs3 k x).cpu ≡ (get_or cs1 k x).cpu
  cpu_is k x lt = ap (λ (z : CpuView J). z.cpu) (heard_all.each k x (in_turned k lt)).rest ∙ (turned.each k x (in_admitted k lt)).cpu

  needs_are : (k : ℕ) (x : CpuView J) → suc k < length (c ∷ cs) → (get_or cs3 k x).needs ≡ (get_or cs1 k x).needs
  needs_are k x lt = ap (λ (z : CpuView J). z.needs) (heard_all.each k x (in_turned k lt)).rest ∙ (turned.each k x (in_admitted k lt)).needs

  -- the domain's words
  pub each_joins : (k : ℕ) (x : CpuView J) → k < length (c ∷ cs) → Joins (get_or (c ∷ cs) k x).cpu e2.seat.seen e2.seat.changes e2.seat.texts (get_or after k x).cpu
  each_joins zero x lt = record { accepts = accepts; since = beginning_trans covers.covers engine.since; later = (let low = covers.not_before in let same = engine.changes in omega (arith, low, same)) }
  each_joins (suc k) x lt = subst (λ (z : sections.CpuView). Joins (get_or cs k x).cpu e2.seat.seen e2.seat.changes e2.seat.texts z) (sym (cpu_is k x lt)) (admitted.each k x (in_others k lt)).cpu

  each_was : (k : ℕ) (x : CpuView J) → k < length (c ∷ cs) → calls.IsSeenBy (get_or (c ∷ cs) k x).cpu
  each_was zero x lt = was
  each_was (suc k) x lt = (admitted.each k x (in_others k lt)).was

  each_heard : (k : ℕ) (x : CpuView J) → k < length (c ∷ cs) → (n : ℕ) → e2.seat.shown ≡ To (get_or (c ∷ cs) k x).cpu.processor n → n ≤ (get_or (c ∷ cs) k x).cpu.changes
  each_heard zero x lt = heard
  each_heard (suc k) x lt = (admitted.each k x (in_others k lt)).heard

  -- the tree
  pub each_joins_tree : (k : ℕ) (x : CpuView J) → k < length (c ∷ cs) → JoinsTree (get_or (c ∷ cs) k x).needs n2.seen (get_or after k x).needs
  each_joins_tree zero x lt = record {
    same = record { domain = needs.same.domain ∙ load.same.domain; shape = needs.same.shape ∙ load.same.shape; holder = needs.same.holder ∙ load.same.holder };
    mine = needs.mine ∙ load.mine;
    found = found ∷ needs.found;
    loads = needs.loads ∙ (ap (λ l. l ++ needs.found) load.loads ∙ append_assoc c.needs.loads (found ∷ []) needs.found);
    since = raises_beginning_trans _ _ _ load.since needs.since;
    seen = refl;
    history = needs.history;
  }
  each_joins_tree (suc k) x lt =
      let h = (admitted.each k x (in_others k lt)).needs in
      let e = needs_are k x lt in
      record {
        same = record { domain = ap (λ (z : FunnelView). z.domain) e ∙ h.same.domain; shape = ap (λ (z : FunnelView). z.shape) e ∙ h.same.shape; holder = ap (λ (z : FunnelView). z.holder) e ∙ h.same.holder };
        mine = ap (λ (z : FunnelView). z.mine) e ∙ h.mine;
        found = h.found;
        loads = ap (λ (z : FunnelView). z.loads) e ∙ h.loads;
        since = h.since;
        seen = ap (λ (z : FunnelView). z.seen) e ∙ h.seen;
        history = subst (λ (z : FunnelView). IsSeenBy z) (sym e) h.history;
      }

  pub first_loads : (x : CpuView J) (lt : 0 < length (c ∷ cs)) → length (each_joins_tree 0 x lt).found ≡ length (c ∷ cs)
  unfolding each_joins_tree
  first_loads x lt = ap suc needs.one_each

  pub other_loads : (k : ℕ) (x : CpuView J) (lt : k < length (c ∷ cs)) → 0 < k → length (each_joins_tree k x lt).found ≡ 1
  unfolding each_joins_tree
  other_loads zero x lt some = absurd (omega (arith, some))
  other_loads (suc k) x lt some = (admitted.each k x (in_others k lt)).one_load

  first_found : (x : CpuView J) (lt : 0 < length (c ∷ cs)) → All (λ m. (value 0 c.needs.seen ≤ m) × (m ≤ value 0 n2.seen)) (each_joins_tree 0 x lt).found
  unfolding each_joins_tree
  first_found x lt =
      let low = load.not_below in let now = load.current in let up = needs.up in
      All-cons (λ m. (value 0 c.needs.seen ≤ m) × (m ≤ value 0 n2.seen)) found needs.found (low, omega (arith, now, up))
      (All-weaker (λ m. (value 0 n1.seen ≤ m) × (m ≤ value 0 n2.seen)) (λ m. (value 0 c.needs.seen ≤ m) × (m ≤ value 0 n2.seen)) (λ m q. ((let least = q.0 in omega (arith, least, low, now)), q.1)) needs.found needs.within)

  others_found : (k : ℕ) (x : CpuView J) (lt : k < length (c ∷ cs)) → 0 < k → All (λ m. value 0 n2.seen ≤ m) (each_joins_tree k x lt).found
  unfolding each_joins_tree
  others_found zero x lt some = absurd (omega (arith, some))
  others_found (suc k) x lt some = (admitted.each k x (in_others k lt)).root

  -- the turns
  pub first_turn : TakesTurn c.turn e0 e2 t3
  first_turn = record { took = took; takes = takes.swap; puts = swap_behind took t2 t3 cs e2 turn puts }

  other_turn : (k : ℕ) (x : CpuView J) → suc k < length (c ∷ cs) → Accepts (get_or cs k x).turn t3.seen (get_or cs3 k x).turn
  other_turn k x lt =
      let now : (get_or cs3 k x).turn ≡ (get_or cs2 k x).turn = ap (λ (z : CpuView J). z.turn) (heard_all.each k x (in_turned k lt)).rest in
      let was = (admitted.each k x (in_others k lt)).turn in
      subst (λ (z : BaySeatView Engine × BaySeatView Engine). Accepts z.0 t3.seen z.1) (λ i. (was i, sym now i)) (turned.each k x (in_admitted k lt)).turn

  each_turned : (k : ℕ) (x : CpuView J) → k < length (c ∷ cs) → (get_or after k x).turn.seen ≡ t3.seen
  each_turned zero x lt = refl
  each_turned (suc k) x lt = ap (λ (z : BaySeatView Engine). z.seen) (other_turn k x lt).is

  accepted_turns : (k : ℕ) (x : CpuView J) → 0 < k → k < length (c ∷ cs) → Accepts (get_or (c ∷ cs) k x).turn t3.seen (get_or after k x).turn
  accepted_turns zero x some lt = absurd (omega (arith, some))
  accepted_turns (suc k) x some lt = other_turn k x lt

  -- a turn's seat stays that of the domain, and does not have the engine
  pub turn_stays : (k : ℕ) (x : CpuView J) → k < length (c ∷ cs) → holds t3 ≡ false → holds (get_or (c ∷ cs) k x).turn ≡ false
      → ((get_or after k x).turn.bay ≡ (get_or (c ∷ cs) k x).turn.bay) × ((get_or after k x).turn.domain ≡ (get_or (c ∷ cs) k x).turn.domain) × (holds (get_or after k x).turn ≡ false)
      × ((get_or after k x).turn.number ≡ (get_or (c ∷ cs) k x).turn.number) × ((get_or after k x).turn.seats ≡ (get_or (c ∷ cs) k x).turn.seats) × ((get_or after k x).turn.first ≡ (get_or (c ∷ cs) k x).turn.first)
  turn_stays zero x lt free _ = let same = turn_same c.turn e0 e2 took t3 takes.swap (swap_behind took t2 t3 cs e2 turn puts) in
      (ap (λ (z : BaySeatView Engine). z.bay) same, ap (λ (z : BaySeatView Engine). z.domain) same, free, ap (λ (z : BaySeatView Engine). z.number) same, ap (λ (z : BaySeatView Engine). z.seats) same, ap (λ (z : BaySeatView Engine). z.first) same)
  turn_stays (suc k) x lt _ free = let h = other_turn k x lt in
      (ap (λ (z : BaySeatView Engine). z.bay) h.is, ap (λ (z : BaySeatView Engine). z.domain) h.is, h.holding ∙ free, ap (λ (z : BaySeatView Engine). z.number) h.is, ap (λ (z : BaySeatView Engine). z.seats) h.is, ap (λ (z : BaySeatView Engine). z.first) h.is)

  -- the seats at the tally words
  pub each_accepts : (k : ℕ) (x : CpuView J) → k < length (c ∷ cs) → tallies.Accepts (get_or (c ∷ cs) k x).calls s.seen (get_or after k x).calls
  each_accepts zero x lt = met
  each_accepts (suc k) x lt = subst (λ (z : CallSeatView J). tallies.Accepts z s.seen (get_or cs3 k x).calls) ((turned.each k x (in_admitted k lt)).calls ∙ (admitted.each k x (in_others k lt)).calls) (heard_all.each k x (in_turned k lt)).calls

  same_seat : (k : ℕ) (x : CpuView J) → k < length (c ∷ cs) → IsSameSeat (get_or (c ∷ cs) k x).calls (get_or after k x).calls
  same_seat k x lt = let is = (each_accepts k x lt).is in (ap (λ (z : CallSeatView J). z.tallies) is, ap (λ (z : CallSeatView J). z.processors) is, ap (λ (z : CallSeatView J). z.processor) is, ap (λ (z : CallSeatView J). z.domain) is)

  pub tallies_meet : IsAllOf d (c ∷ cs) → TalliesMeet (c ∷ cs) after
  tallies_meet all =
      let h = all.here 0 c (omega arith) in
      record {
        deeds = s.seen;
        each = each_accepts;
        takers = subst (λ n. AreTakers n s.seen) (h.words ∙ (sym h.many ∙ all.count 0 c (omega arith))) met.takers;
      }

  pub all_still : holds t3 ≡ false → IsAllOf d (c ∷ cs) → IsAllOf d after
  all_still free all = record {
    some = omega arith;
    here = λ k x lt. let l = within k lt in let h = all.here k x l in let j = each_joins k x l in let t = turn_stays k x l free h.free in let n = each_joins_tree k x l in record {
      domain = j.accepts.same.0 ∙ h.domain;
      bay = t.0 ∙ h.bay;
      home = t.1 ∙ h.home;
      first = subst (λ (z : Option Engine). MatchOption z ⊥ (IsEngineOf d)) (sym t.5) h.first;
      free = t.2;
      tree = n.same.domain ∙ h.tree;
      asks = n.same.holder ∙ (h.asks ∙ ap Processor (sym j.accepts.same.3));
      many = j.accepts.same.1 ∙ h.many;
      fits = still_fits d (get_or (c ∷ cs) k x) (get_or after k x) j.accepts.same (same_seat k x l) h.fits;
      number = t.3 ∙ (h.number ∙ sym j.accepts.same.3);
      seats = t.4 ∙ h.seats;
      words = (same_seat k x l).1 ∙ h.words;
    };
    count = λ k x lt. (each_joins k x (within k lt)).accepts.same.1 ∙ (all.count k x (within k lt) ∙ sym same_count);
    order = λ k x lt. (each_joins k x (within k lt)).accepts.same.3 ∙ all.order k x (within k lt);
    tree = all.tree;
    shape = all.shape;
    asks = λ k x lt. let n = each_joins_tree k x (within k lt) in let a = all.asks k x (within k lt) in (n.same.domain ∙ a.0, n.same.shape ∙ a.1, n.same.holder ∙ a.2);
    leaves = all.leaves ∙ sym same_count;
  }
    where
      within : (k : ℕ) → k < length after → k < length (c ∷ cs)
      within k lt = subst (λ n. k < n) same_count lt

  -- the processor that had tied the engine knew all of it
  pub engine_meets : IsTied e0.seat → IsAllOf d (c ∷ cs) → EngineMeets e0.seat (c ∷ cs) e2.seat after
  engine_meets tied all =
      let k : ℕ = tied.processor in
      let there = tied.there in
      let count = all.count 0 c (omega arith) in
      let processors = engine.same.1 ∙ covers.step.same.1 in
      let inside : k < length (c ∷ cs) = omega (arith, there, count, processors, sized) in
      let shown : e2.seat.shown ≡ e0.seat.shown = engine.shown ∙ covers.step.shown in
      let changes : e2.seat.changes ≡ e0.seat.changes = engine.changes ∙ covers.step.changes_are in
      let mine : e2.seat.mine ≡ e0.seat.mine = engine.mine ∙ covers.step.mine in
      record {
        found = covers.value ∷ engine.found;
        one_each = ap suc engine.one_each;
        steps = engine.steps ∙ (ap (λ (l : List Step). l ++ map LoadIndex engine.found) covers.step.steps ∙ append_assoc e0.seat.steps (LoadIndex covers.value ∷ []) (map LoadIndex engine.found));
        current = All-cons (λ n. n ≡ index_word e0.seat.changes) covers.value engine.found (covers.current ∙ ap index_word covers.step.changes_are) (subst (λ z. All (λ n. n ≡ index_word z) engine.found) covers.step.changes_are engine.current);
        same = (engine.same.0 ∙ covers.step.same.0, engine.same.1 ∙ covers.step.same.1, engine.same.2 ∙ covers.step.same.2);
        mine = mine;
        changes = changes;
        shown = shown;
        since = beginning_trans covers.step.since engine.since;
        texts = start_trans covers.step.texts engine.texts;
        history = engine.history;
        each = each_joins;
        one = k;
        there = inside;
        knew = λ x. let j = each_joins k x inside in
            let named : e2.seat.shown ≡ To (get_or (c ∷ cs) k x).cpu.processor e0.seat.changes = shown ∙ (tied.shown ∙ ap (λ p. To p e0.seat.changes) (sym (all.order k x inside))) in
            let low = each_heard k x inside e0.seat.changes named in
            let high = j.later in
            seen_all e0.seat e2.seat (get_or (c ∷ cs) k x).cpu (each_was k x inside) j.since engine.history (omega (arith, low, high, changes)) mine changes;
      }

  -- where no call is on its way, the root has all
  pub tree_meets : RootHasGreatest → IsAllOf d (c ∷ cs) → TreeMeets (c ∷ cs) after
  tree_meets law all = record {
    raises = n2.seen;
    each = each_joins_tree;
    first_loads = first_loads;
    others_load = other_loads;
    first_found = first_found;
    others_found = others_found;
    root = law all.shape n2.seen (subst (λ (z : Shape). IsLegal z n2.seen) here needs.history.legal) idle;
  }
    where
      here : n2.shape ≡ all.shape
      here = needs.same.shape ∙ (load.same.shape ∙ (all.asks 0 c (omega arith)).1)

      idle : (p : ℕ) → p < all.shape.processors → call_of p n2.seen ≡ Idle
      idle p lt =
          let leaves = all.leaves in
          let inside : p < length (c ∷ cs) = omega (arith, lt, leaves) in
          let j = each_joins_tree p c inside in
          let holder : (get_or after p c).needs.holder ≡ Processor p = j.same.holder ∙ (all.asks p c inside).2 in
          subst (λ (z : Holder × List Raise). IsIdle z.0 z.1) (λ i. (holder i, j.seen i)) j.history.idle

  pub meets_here : RootHasGreatest → IsTied e0.seat → e2 ≡ with_seat e2.seat e0 → IsAllOf d (c ∷ cs) → MeetsHere (c ∷ cs) after
  meets_here law tied rest all = record {
    found = e0;
    left = e2;
    count = same_count;
    engine = engine_meets tied all;
    rest = rest;
    needs = tree_meets law all;
    turns = record { swaps = t3.seen; seen = each_turned; first = λ x. first_turn; others = accepted_turns };
    calls = tallies_meet all;
  }
