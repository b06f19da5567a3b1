-- Several holders that come to have seen one history.
use Rattle.std.proofs.Common.{◌≡◌, ℕ, ◌+◌, ◌<◌, All, append-nil, List, [], ◌∷◌, ◌++◌, length, refl, sym, ap, ◌∙◌, subst, arith, length-append}
use Rattle.std.proofs.lemmas.List.Elements.{All-head, All-tail}
use Rattle.sections.specs.Glossary.{HasItsMaker, Text, View, IsStart, CpuView, EngineView, IsHistoryOf, IsSeenBy, HasSeenOf, Hears, Ties, TiesEngine, IsTied, HasSeenAll}
use Rattle.sections.proofs.Knowing.{nothing_more}
use Rattle.atomic_table.specs.Seated.{TableId}
use Rattle.onedom.specs.declared.event.Maker.{Maker}
use Rattle.onedom.specs.declared.event.Maker.TheVariants.{Processor, Engine}
use Rattle.onedom.specs.declared.event.Event.{Event}
use Rattle.onedom.specs.declared.event.Event.TheVariants.{Begin, End, Start, Finish, Note, Ask, Find, Put}
use Rattle.onedom.specs.Histories.{made_by, IsBeginning, is_start, is_finish, starts_in, ended_in}
use Rattle.onedom.proofs.CallerLemmas.{count_append, beginnings_compare, beginning_made_by}
use Rattle.sections.specs.declared.view.Role.TheVariants.{Cpu}
use Rattle.sections.specs.declared.view.Shown.TheVariants.{To}
use Rattle.sections.specs.Seats as seats
use Rattle.sections.specs.Calls.{Accepts}
use Rattle.sections.specs.EngineCalls.{Covers, noted}
use Rattle.sections.proofs.Deeds.{cpu_makes}
use Rattle.sections.proofs.CpuViews.{seen_as, history_of}

-- of a maker, a beginning of a history has a beginning of the maker's events there
seen_of : (m : Maker) (mine mine' seen later : List Event) → mine' ≡ made_by m later → IsBeginning seen later → mine ≡ mine' → HasSeenOf m mine seen
seen_of m mine mine' seen later own since same = let b = beginning_made_by m since in record { rest = b.rest; whole = same ∙ (own ∙ b.whole) }

-- Two processors

pub hears_from : (d d' : TableId) (n limit p : ℕ) (v o w : View) → d' ≡ d → v.processors ≡ n → v.role ≡ Cpu p → seats.Covers v o w → Hears (seen_as d n limit p v) o.seen o.changes (seen_as d' n limit p w)
hears_from d d' n limit p v o w same sized is h = record {
  value = h.value;
  current = h.current;
  looks = record {
    same = (same, refl, refl, refl);
    mine = h.mine;
    steps = h.steps (Processor p) (cpu_makes p v.role is);
    since = h.since;
    later = h.later;
    texts = h.texts;
    history = history_of n p w (h.processors ∙ sized) (h.role ∙ is) h.sound;
  };
  covers = h.covers;
  not_before = h.not_before;
}

pub accepted : (d d' : TableId) (n limit p : ℕ) (v o w : View) → d' ≡ d → v.processors ≡ n → v.role ≡ Cpu p → seats.Accepts v o w → Accepts (seen_as d n limit p v) o.seen o.changes o.texts (seen_as d' n limit p w)
accepted d d' n limit p v o w same sized is h = record {
  value = h.value;
  same = (same, refl, refl, refl);
  mine = h.mine;
  steps = h.steps (Processor p) (cpu_makes p v.role is);
  seen = h.seen;
  changes = h.changes;
  texts = h.texts;
  texts_since = subst (λ (z : List Text). IsStart v.texts z) h.texts h.texts_since;
  found = h.found;
  history = history_of n p w (h.processors ∙ sized) (h.role ∙ is) h.sound;
}

pub ties_from : (c c' c'' d d' d'' : CpuView) → Hears c d.seen d.changes c' → d' ≡ d → c'' ≡ c' → Accepts d' c'.seen c'.changes c'.texts d'' → Ties c d c'' d''
ties_from c c' c'' d d' d'' h same_other same a =
    let accepts : Accepts d c'.seen c'.changes c'.texts d'' = subst (λ (z : CpuView). Accepts z c'.seen c'.changes c'.texts d'') same_other a in
    subst (λ (z : CpuView). Ties c d z d'') (sym same) record {
      value = h.value;
      current = h.current;
      looks = h.looks;
      accepts = accepts;
      since = subst (λ (z : List Event). IsBeginning d.seen z) (sym accepts.seen) h.covers;
      later = (let low = h.not_before in let same = accepts.changes in omega (arith, low, same));
      comparable = beginnings_compare h.looks.since h.covers;
      first_known = seen_of (Processor c.processor) _ _ _ _ (h.looks.history.own ∙ ap (λ k. made_by (Processor k) c'.seen) h.looks.same.3) h.covers (sym h.looks.mine);
      second_known = seen_of (Processor d.processor) _ _ _ _ (accepts.history.own ∙ ap (λ k. made_by (Processor k) d''.seen) accepts.same.3) (subst (λ (z : List Event). IsBeginning c.seen z) (sym accepts.seen) h.looks.since) (sym accepts.mine);
    }

-- The engine and a processor

pub ties_engine : (e e' e'' e''' : EngineView) (c c' c'' c''' : CpuView) → Covers e c.seen c.changes e' → c' ≡ c → e'' ≡ e' → Accepts c' e'.seen e'.changes e'.texts c'' → c''' ≡ c'' → e''' ≡ noted c''.processor c''.changes e'' → TiesEngine e c e''' c'''
ties_engine e e' e'' e''' c c' c'' c''' h same_cpu same_engine a last_cpu last_engine =
    let accepts : Accepts c e'.seen e'.changes e'.texts c'' = subst (λ (z : CpuView). Accepts z e'.seen e'.changes e'.texts c'') same_cpu a in
    let noted_as : e''' ≡ noted c.processor e'.changes e' = last_engine ∙ (λ k. noted (accepts.same.3 k) (accepts.changes k) (same_engine k)) in
    subst (λ (z : EngineView × CpuView). TiesEngine e c z.0 z.1) (λ k. (sym noted_as k, sym last_cpu k)) record {
      between = e';
      covers = h;
      notes = refl;
      accepts = accepts;
      since = subst (λ (z : List Event). IsBeginning c.seen z) (sym accepts.seen) h.covers;
      later = (let low = h.not_before in let same = accepts.changes in omega (arith, low, same));
      comparable = beginnings_compare h.step.since h.covers;
      engine_known = seen_of Engine _ _ _ _ h.step.history.own h.covers (sym h.step.mine);
      cpu_known = seen_of (Processor c.processor) _ _ _ _ (accepts.history.own ∙ ap (λ k. made_by (Processor k) c''.seen) accepts.same.3) (subst (λ (z : List Event). IsBeginning e.seen z) (sym accepts.seen) h.step.since) (sym accepts.mine);
    }

pub now_tied : (e e' e'' : EngineView) (c : CpuView) → e' ≡ e → c.changes ≡ e.changes → c.processor < e'.processors → e'' ≡ noted c.processor c.changes e' → IsTied e''
now_tied e e' e'' c same changes there is = subst IsTied (sym is) (record { processor = c.processor; there = there; shown = ap (To c.processor) (changes ∙ sym (ap (λ (z : EngineView). z.changes) same)) })

-- the engine's events in a history are the starts and the ends of periods
engine_events : (n : ℕ) (h : List Event) → All (HasItsMaker n) h → length (made_by Engine h) ≡ starts_in h + ended_in h
engine_events n [] all = refl
engine_events n (e ∷ es) all = engine_event n e es (All-head (HasItsMaker n) e es all) (engine_events n es (All-tail (HasItsMaker n) e es all))
  where
    engine_event : (n : ℕ) (e : Event) (es : List Event) → HasItsMaker n e → length (made_by Engine es) ≡ starts_in es + ended_in es → length (made_by Engine (e ∷ es)) ≡ starts_in (e ∷ es) + ended_in (e ∷ es)
    engine_event n (Begin s p i by) es h r = ap (λ m. length (made_by Engine (Begin s p i m ∷ es))) h.1 ∙ r
    engine_event n (End s q by) es h r = ap (λ m. length (made_by Engine (End s q m ∷ es))) h.1 ∙ r
    engine_event n (Start by) es h r = let a : starts_in (Start by ∷ es) ≡ 1 + starts_in es = count_append is_start (Start by ∷ []) es in let b : ended_in (Start by ∷ es) ≡ ended_in es = refl in ap (λ m. length (made_by Engine (Start m ∷ es))) h ∙ omega (arith, r, a, b)
    engine_event n (Finish by) es h r = let a : starts_in (Finish by ∷ es) ≡ starts_in es = refl in let b : ended_in (Finish by ∷ es) ≡ 1 + ended_in es = count_append is_finish (Finish by ∷ []) es in ap (λ m. length (made_by Engine (Finish m ∷ es))) h ∙ omega (arith, r, a, b)
    engine_event n (Note c (Processor p)) es h r = r
    engine_event n (Note c Engine) es h r = absurd h
    engine_event n (Ask c b (Processor p)) es h r = r
    engine_event n (Ask c b Engine) es h r = absurd h
    engine_event n (Find u d x v (Processor p)) es h r = r
    engine_event n (Find u d x v Engine) es h r = absurd h
    engine_event n (Put d x v (Processor p)) es h r = r
    engine_event n (Put d x v Engine) es h r = absurd h

-- where all changes are known, so are all events of the engine
pub seen_all : (e e' : EngineView) (c : CpuView) → IsSeenBy c → IsBeginning c.seen e'.seen → IsHistoryOf e'.processors Engine e'.mine e'.seen e'.changes e'.texts → c.changes ≡ e'.changes → e'.mine ≡ e.mine → e'.changes ≡ e.changes → HasSeenAll e c
seen_all e e' c was since now same mine changes = record {
  events =
      let a = engine_events c.processors c.seen was.makers in
      let b = engine_events e'.processors e'.seen now.makers in
      let r1 = was.reaches.started in
      let r2 = was.reaches.ended in
      let r3 = now.reaches.started in
      let r4 = now.reaches.ended in
      let begun = beginning_made_by Engine since in
      let whole : length (made_by Engine e'.seen) ≡ length (made_by Engine c.seen) + length begun.rest = ap length begun.whole ∙ length-append (made_by Engine c.seen) begun.rest in
      let none : begun.rest ≡ [] = nothing_more begun.rest (omega (arith, a, b, r1, r2, r3, r4, whole, same)) in
      sym (begun.whole ∙ (ap (λ l. made_by Engine c.seen ++ l) none ∙ append-nil (made_by Engine c.seen))) ∙ (sym now.own ∙ mine);
  changes = same ∙ changes;
}
