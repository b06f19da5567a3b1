-- Processors of four seats each.
use Rattle.std.proofs.Common.{◌≡◌, ℕ, zero, suc, ◌<◌, ◌+◌, List, [], ◌∷◌, ◌++◌, length, reverse, slice_index_or, refl, sym, ap, ◌∙◌, arith, append_assoc, append-nil}
use Rattle.std.proofs.lemmas.List.{reverse-append, length-append}
use Rattle.sections.specs.Views as sections
use Rattle.funnel.specs.Views.{FunnelView}
use Rattle.desk.specs.BayViews.{BaySeatView}
use Rattle.calls.specs.Views.{CallSeatView}
use Rattle.domain.specs.Glossary.{Engine, CpuView, joined}

module _ {J : Type 0} where
  -- at each place, the four seats of that place
  pub joined_at : (cs : List sections.CpuView) (ns : List FunnelView) (ts : List (BaySeatView Engine)) (ss : List (CallSeatView J)) → length ns ≡ length cs → length ts ≡ length cs → length ss ≡ length cs → (k : ℕ) (d : CpuView J) → k < length cs
      → slice_index_or (joined cs ns ts ss) k d ≡ record { cpu = slice_index_or cs k d.cpu; needs = slice_index_or ns k d.needs; turn = slice_index_or ts k d.turn; calls = slice_index_or ss k d.calls }
  joined_at [] ns ts ss n t s k d lt = absurd (omega (arith, lt))
  joined_at (c ∷ cs) [] ts ss n t s k d lt = absurd (omega (arith, n))
  joined_at (c ∷ cs) (m ∷ ns) [] ss n t s k d lt = absurd (omega (arith, t))
  joined_at (c ∷ cs) (m ∷ ns) (u ∷ ts) [] n t s k d lt = absurd (omega (arith, s))
  joined_at (c ∷ cs) (m ∷ ns) (u ∷ ts) (v ∷ ss) n t s zero d lt = refl
  joined_at (c ∷ cs) (m ∷ ns) (u ∷ ts) (v ∷ ss) n t s (suc k) d lt = joined_at cs ns ts ss (omega (arith, n)) (omega (arith, t)) (omega (arith, s)) k d (omega (arith, lt))

  -- as many as there are of each kind
  pub joined_length : (cs : List sections.CpuView) (ns : List FunnelView) (ts : List (BaySeatView Engine)) (ss : List (CallSeatView J)) → length ns ≡ length cs → length ts ≡ length cs → length ss ≡ length cs → length (joined cs ns ts ss) ≡ length cs
  joined_length [] ns ts ss n t s = refl
  joined_length (c ∷ cs) [] ts ss n t s = absurd (omega (arith, n))
  joined_length (c ∷ cs) (m ∷ ns) [] ss n t s = absurd (omega (arith, t))
  joined_length (c ∷ cs) (m ∷ ns) (u ∷ ts) [] n t s = absurd (omega (arith, s))
  joined_length (c ∷ cs) (m ∷ ns) (u ∷ ts) (v ∷ ss) n t s = ap suc (joined_length cs ns ts ss (omega (arith, n)) (omega (arith, t)) (omega (arith, s)))

  -- those that were taken from the ends are joined already, the last one first
  pub record Joins (cpus : List sections.CpuView) (needs : List FunnelView) (turns : List (BaySeatView Engine)) (calls : List (CallSeatView J)) (cs : List sections.CpuView) (ns : List FunnelView) (ts : List (BaySeatView Engine)) (ss : List (CallSeatView J)) (all : List (CpuView J)) : Type 0 where
    pub cpus_out : List sections.CpuView
    pub needs_out : List FunnelView
    pub turns_out : List (BaySeatView Engine)
    pub calls_out : List (CallSeatView J)
    pub cpus_are : cpus ≡ cs ++ cpus_out
    pub needs_are : needs ≡ ns ++ needs_out
    pub turns_are : turns ≡ ts ++ turns_out
    pub calls_are : calls ≡ ss ++ calls_out
    pub needs_as_many : length ns ≡ length cs
    pub turns_as_many : length ts ≡ length cs
    pub calls_as_many : length ss ≡ length cs
    pub count : length all + length cs ≡ length cpus
    pub joins : reverse all ≡ joined cpus_out needs_out turns_out calls_out

  pub joins_none : (cpus : List sections.CpuView) (needs : List FunnelView) (turns : List (BaySeatView Engine)) (calls : List (CallSeatView J)) → length needs ≡ length cpus → length turns ≡ length cpus → length calls ≡ length cpus → Joins cpus needs turns calls cpus needs turns calls []
  joins_none cpus needs turns calls n t s = record {
    cpus_out = [];
    needs_out = [];
    turns_out = [];
    calls_out = [];
    cpus_are = sym (append-nil cpus);
    needs_are = sym (append-nil needs);
    turns_are = sym (append-nil turns);
    calls_are = sym (append-nil calls);
    needs_as_many = n;
    turns_as_many = t;
    calls_as_many = s;
    count = omega arith;
    joins = refl;
  }

one_off : {X : Type 0} (all rest out : List X) (x : X) (front : List X) → all ≡ front ++ out → front ≡ rest ++ x ∷ [] → all ≡ rest ++ x ∷ out
one_off all rest out x front a f = a ∙ (ap (λ l. l ++ out) f ∙ append_assoc rest (x ∷ []) out)

one_fewer : {X : Type 0} (front rest : List X) (x : X) → front ≡ rest ++ x ∷ [] → length front ≡ length rest + 1
one_fewer front rest x f = ap length f ∙ length-append rest (x ∷ [])

module _ {J : Type 0} where
  pub joins_more : (cpus : List sections.CpuView) (needs : List FunnelView) (turns : List (BaySeatView Engine)) (calls : List (CallSeatView J)) (cs cs' : List sections.CpuView) (ns ns' : List FunnelView) (ts ts' : List (BaySeatView Engine)) (ss ss' : List (CallSeatView J)) (all : List (CpuView J))
      (c : sections.CpuView) (n : FunnelView) (t : BaySeatView Engine) (s : CallSeatView J)
      → Joins cpus needs turns calls cs ns ts ss all → cs ≡ cs' ++ c ∷ [] → ns ≡ ns' ++ n ∷ [] → ts ≡ ts' ++ t ∷ [] → ss ≡ ss' ++ s ∷ []
      → Joins cpus needs turns calls cs' ns' ts' ss' (all ++ record { cpu = c; needs = n; turn = t; calls = s } ∷ [])
  joins_more cpus needs turns calls cs cs' ns ns' ts ts' ss ss' all c n t s h cs_are ns_are ts_are ss_are =
      let a = one_fewer cs cs' c cs_are in
      let b = one_fewer ns ns' n ns_are in
      let d = one_fewer ts ts' t ts_are in
      let g = one_fewer ss ss' s ss_are in
      let e = h.needs_as_many in
      let f = h.turns_as_many in
      let k = h.calls_as_many in
      let i = h.count in
      let j = length-append all (record { cpu = c; needs = n; turn = t; calls = s } ∷ []) in
      record {
        cpus_out = c ∷ h.cpus_out;
        needs_out = n ∷ h.needs_out;
        turns_out = t ∷ h.turns_out;
        calls_out = s ∷ h.calls_out;
        cpus_are = one_off cpus cs' h.cpus_out c cs h.cpus_are cs_are;
        needs_are = one_off needs ns' h.needs_out n ns h.needs_are ns_are;
        turns_are = one_off turns ts' h.turns_out t ts h.turns_are ts_are;
        calls_are = one_off calls ss' h.calls_out s ss h.calls_are ss_are;
        needs_as_many = omega (arith, a, b, e);
        turns_as_many = omega (arith, a, d, f);
        calls_as_many = omega (arith, a, g, k);
        count = omega (arith, a, i, j);
        joins = reverse-append all (record { cpu = c; needs = n; turn = t; calls = s } ∷ []) ∙ ap (λ l. record { cpu = c; needs = n; turn = t; calls = s } ∷ l) h.joins;
      }
