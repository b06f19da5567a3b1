-- Behind a meeting all have seen what was before and the act, and nothing else.
use Rattle.std.proofs.Common.{◌≡◌, ◌≢◌, ℕ, ◌<◌, ◌⊎◌, inl, inr, List, [], ◌++◌, length, get_or, take, sym, ap, ◌∙◌, subst, arith}
use Rattle.solo.proofs.Words.{All, take-append_seam, Maker, Processor, Engine, Event, made_by, IsBeginning, beginning_trans, Limits, HasItsMaker, EngineView, IsCount, Raise, Shape, raised_by, raised_alone, DomainView, CpuView, IsAllOf, EngineMeets, TreeMeets, AllHold, AreTogether, AskTogether}
use Rattle.funnel.specs.declared.view.Holder.TheVariants as holder
use Rattle.funnel.specs.Histories as tree
use Rattle.funnel.proofs.CallerLemmas.{begins_on}
use Rattle.solo.proofs.NothingBetween.{IsMaker, nothing_between, only_the_act}

-- the items as they are kept, all of them
pub all_kept : {X : Type 0} (n : ℕ) (items rest : List X) → n ≡ length items → take n (items ++ rest) ≡ items
all_kept n items rest same = ap (λ k. take k (items ++ rest)) same ∙ take-append_seam items rest

module _ {J : Type 0} where
  -- the engine or a processor has seen this history
  abbrev pub IsSeenByOne : List Event → List (CpuView J) → EngineView → Type 0
  IsSeenByOne history cpus e = IsBeginning history e.seen ⊎ ((k : ℕ) × (d : CpuView J) × (k < length cpus) × IsBeginning history (get_or cpus k d).cpu.seen)

  -- one of those in hand acted: each has just its own events of what was before and of the act, and one has seen the act
  pub record IsActed (limits : Limits) (before others act : List Event) (cpus : List (CpuView J)) (e : EngineView) : Type 0 where
    pub hold : AllHold limits (before ++ act) cpus e
    pub seen : IsSeenByOne (before ++ (others ++ act)) cpus e

  -- nothing came before the act, and all have seen it and nothing else
  pub record IsSettled (limits : Limits) (before others act : List Event) (cpus : List (CpuView J)) (e : EngineView) : Type 0 where
    pub alone : others ≡ []
    pub seen : e.seen ≡ before ++ act
    pub together : AreTogether limits cpus e

  module _ (cpus cpus' : List (CpuView J)) (e e' : EngineView) (count : length cpus' ≡ length cpus) (meets : EngineMeets e cpus e' cpus') (nobody : CpuView J) where
    -- what one of them had seen, all have
    seen_by_all : (history : List Event) → IsSeenByOne history cpus e → IsBeginning history e'.seen
    seen_by_all history (inl is) = beginning_trans is meets.since
    seen_by_all history (inr one) = beginning_trans one.3 (meets.each one.0 one.1 one.2).since

    module _ (limits : Limits) (history : List Event) (hold : AllHold limits history cpus e) where
      each_made : (m : Maker) → IsMaker e.processors m → made_by m e'.seen ≡ made_by m history
      each_made Engine is = sym meets.history.own ∙ (meets.mine ∙ hold.engine)
      each_made (Processor k) is =
          let inside : k < length cpus = omega (arith, hold.all, is) in
          let joins = meets.each k nobody inside in
          let held = hold.each k nobody inside in
          let accepts = joins.accepts in
          sym (ap (λ p. made_by (Processor p) (get_or cpus' k nobody).cpu.seen) (accepts.same.3 ∙ held.processor) ∙ ap (made_by (Processor k)) accepts.seen)
          ∙ (sym accepts.history.own ∙ (accepts.mine ∙ held.mine))

      all_makers : All (HasItsMaker e.processors) e'.seen
      all_makers = subst (λ n. All (HasItsMaker n) e'.seen) meets.same.1 meets.history.makers

      together_after : e'.seen ≡ history → AreTogether limits cpus' e'
      together_after same = record {
        hold = record {
          in_range = hold.in_range;
          periods = meets.same.2 ∙ hold.periods;
          count = subst IsCount (sym meets.same.1) hold.count;
          all = count ∙ (hold.all ∙ sym meets.same.1);
          engine = meets.mine ∙ (hold.engine ∙ ap (made_by Engine) (sym same));
          each = λ k d lt.
              let inside : k < length cpus = omega (arith, count, lt) in
              let accepts = (meets.each k d inside).accepts in
              let held = hold.each k d inside in
              record {
                domain = accepts.same.0 ∙ (held.domain ∙ sym meets.same.0);
                processors_are = accepts.same.1 ∙ (held.processors_are ∙ sym meets.same.1);
                sections = accepts.same.2 ∙ held.sections;
                processor = accepts.same.3 ∙ held.processor;
                mine = accepts.mine ∙ (held.mine ∙ ap (made_by (Processor k)) (sym same));
              };
        };
        history = meets.history;
        seen = λ k d lt. let inside : k < length cpus = omega (arith, count, lt) in (meets.each k d inside).accepts.seen;
        changes = λ k d lt. let inside : k < length cpus = omega (arith, count, lt) in (meets.each k d inside).accepts.changes;
        texts = λ k d lt. let inside : k < length cpus = omega (arith, count, lt) in (meets.each k d inside).accepts.texts;
      }

    -- processor p made the act, and nobody anything else
    pub settled_by : (limits : Limits) (p : ℕ) (before act : List Event) → AllHold limits (before ++ act) cpus e → IsBeginning before e.seen → p < e.processors → made_by (Processor p) act ≡ act → ((k : ℕ) → k ≢ p → made_by (Processor k) act ≡ []) → made_by Engine act ≡ [] → (e'.seen ≡ before ++ act) × AreTogether limits cpus' e'
    settled_by limits p before act hold seen lt own others engine = (seen_is, together_after limits (before ++ act) hold seen_is)
      where
        nobody_else : (m : Maker) → IsMaker e.processors m → m ≢ Processor p → made_by m act ≡ []
        nobody_else Engine is other = engine
        nobody_else (Processor k) is other = others k (λ same. other (ap Processor same))

        seen_is : e'.seen ≡ before ++ act
        seen_is = only_the_act e.processors p before act e'.seen (beginning_trans seen meets.since) (all_makers limits (before ++ act) hold) (each_made limits (before ++ act) hold) lt own nobody_else

    pub settled : (limits : Limits) (before others act : List Event) → IsActed limits before others act cpus e → IsSettled limits before others act cpus' e'
    settled limits before others act h =
        let only = nothing_between e.processors before others act e'.seen (seen_by_all (before ++ (others ++ act)) h.seen) (all_makers limits (before ++ act) h.hold) (λ m is. ap length (each_made limits (before ++ act) h.hold m is)) in
        record { alone = only.0; seen = only.1; together = together_after limits (before ++ act) h.hold only.1 }

  -- The tree

  -- processor p raised these, and nobody anything else: each has just its own raises of what was before and of these
  pub record HaveAsked (p : ℕ) (before act : List Raise) (cpus : List (CpuView J)) : Type 0 where
    pub mine : (k : ℕ) (d : CpuView J) → k < length cpus → (get_or cpus k d).needs.mine ≡ raised_by k (before ++ act)
    pub inside : p < length cpus
    pub own : raised_by p act ≡ act
    pub others : (q : ℕ) → q ≢ p → raised_by q act ≡ []
    pub since : (d : CpuView J) → tree.IsBeginning before (get_or cpus p d).needs.seen

  module _ (d : DomainView) (cpus cpus' : List (CpuView J)) (all : IsAllOf d cpus') (count : length cpus' ≡ length cpus) (meets : TreeMeets cpus cpus') (nobody : CpuView J) (p : ℕ) (before act : List Raise) (h : HaveAsked p before act cpus) where
    raised_there : (k : ℕ) → k < length cpus → raised_by k meets.raises ≡ raised_by k (before ++ act)
    raised_there k there =
        let joins = meets.each k nobody there in
        let is : (get_or cpus' k nobody).needs.holder ≡ holder.Processor k = (all.asks k nobody (omega (arith, there, count))).2 in
        let own : (get_or cpus' k nobody).needs.mine ≡ raised_by k meets.raises = joins.history.own ∙ ((λ i. tree.made_by (is i) (joins.seen i))) in
        sym own ∙ (joins.mine ∙ h.mine k nobody there)

    all_raised : meets.raises ≡ before ++ act
    all_raised =
        let joins = meets.each p nobody h.inside in
        let there : p < length cpus' = (let inside = h.inside in omega (arith, inside, count)) in
        let shape = (all.asks p nobody there).1 in
        let leaves = all.leaves in
        let legal : tree.IsLegal all.shape meets.raises = subst (λ (z : Shape × List Raise). tree.IsLegal z.0 z.1) (λ i. (shape i, joins.seen i)) joins.history.legal in
        raised_alone all.shape p before act meets.raises legal (begins_on (h.since nobody) joins.since) h.own h.others (λ q lt. raised_there q (omega (arith, lt, leaves, count))) (omega (arith, there, leaves))

    pub asked_together : (meets.raises ≡ before ++ act) × AskTogether meets.raises cpus'
    asked_together = (
      all_raised,
      record {
        mine = λ k c lt. let there : k < length cpus = omega (arith, lt, count) in (meets.each k c there).mine ∙ (h.mine k c there ∙ ap (raised_by k) (sym all_raised));
        seen = λ k c lt. (meets.each k c (omega (arith, lt, count))).seen;
        history = λ k c lt. (meets.each k c (omega (arith, lt, count))).history;
        root = meets.root;
      },
    )
