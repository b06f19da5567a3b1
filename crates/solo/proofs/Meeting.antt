-- A processor of the domain in one hand acted, and then all have met: the domain has come just so far as the act says.
use Rattle.std.proofs.Common.{◌≡◌, ℕ, zero, suc, ◌+◌, ◌*◌, ◌%◌, ◌<◌, ◌≤◌, ◌⊎◌, cond, max, inl, inr, List, [], ◌∷◌, ◌++◌, length, get_or, set, refl, sym, ap, ◌∙◌, subst, append-nil, append_assoc, ltb, arith, length-set, get_or-set_other, get_or-set_same, le-ltb}
use Rattle.solo.proofs.Words.{◌≢◌, All, Some, None, slice_get, get_or_default, set-get_or, length-map, append_cancel_left, dite, ℕ_discrete, Processor, Engine, Event, Note, IsLegal, IsLegalAfter, IsRunning, IsBeginning, starts_in, ended_in, made_by, cookie_after, legal_after_append, beginning_refl}
use Rattle.solo.proofs.Words.{starts_in_push, ended_in_push, Limits, Reaches, HasItsMaker, IsSameEngine, put_cells, IsStart, last_may_follow, number_at_rest, with_seat, Holder, value, greatest, LoadsRoot, Deed, Line, no_calls, line_in, queued_in, finished_in, deeds_of, CallSeatView, begins_on}
use Rattle.solo.proofs.Words.{DomainView, CpuView, IsAllOf, EngineMeets, MeetsHere, SoloView, HasSameTables, IsSameDomain, OnList, Act, Acts, ActsAs, after, with_asked, more_at, with_events, Does, View, Holds, AllHold, AreTogether, AskTogether, TurnTogether, HaveMet, queued_on, finished_on, in_one}
use Rattle.solo.proofs.Words.{list_in, lines_on, seen_as, seen_first, Shelf, shelf_of}
use Rattle.funnel.specs.declared.view.Holder.TheVariants as holder
use Rattle.funnel.specs.Glossary.{IsBeginning as IsBeginningAtTree}
use Rattle.calls.specs.Tallies as tallies
use Rattle.solo.proofs.Hand.{first_seen, now_is, is_inside}
use Rattle.solo.proofs.Needing.{squeezed, raised_here}
use Rattle.solo.proofs.Tallying.{GoesOnBy, IsTallied, finished_are, queued_here, queued_else, lines_are, at_moment, count_at, found_at, one_count, same_counts, tallied}
use Rattle.solo.proofs.Settled.{HaveAsked, settled_by, asked_together}
use Rattle.solo.proofs.Turning.{idle_turned}
use Rattle.solo.proofs.NothingBetween.{made, made_by_append, all_seen}
use Rattle.solo.proofs.Shelving.{shelf_stays}
use Rattle.solo.proofs.Adding.{Did, did_of}

-- What was added

pub with_asked_is : (n asked : ℕ) → with_asked n asked ≡ max asked n
with_asked_is zero asked = omega arith
with_asked_is (suc n) asked = refl

pub more_is : (p n : ℕ) (counts : List ℕ) → set counts p (get_or counts p 0 + n) ≡ more_at p n counts
more_is p zero counts = ap (set counts p) (let e : get_or counts p 0 + 0 ≡ get_or counts p 0 = omega arith in e) ∙ set-get_or counts p 0
more_is p (suc n) counts = refl

with_events_is : (es history : List Event) → history ++ es ≡ with_events es history
with_events_is [] history = append-nil history
with_events_is (e ∷ es) history = refl

-- where no period runs, the cookie of now is the next one above the number
next_above : (history : List Event) (asked : ℕ) → ¬ IsRunning history → asked % 4 ≡ 0 → number_at_rest history < asked → cookie_after history ≤ asked
next_above history asked resting cookie above =
    let one : cookie_after history ≡ 4 * (ended_in history + 1) = ap (λ b. 4 * (ended_in history + cond b 2 1)) (le-ltb (ended_in history) (starts_in history) (omega (arith, resting))) in
    omega (arith, one, cookie, above)

-- the processor whose seat at the tree it is
abbrev number_of : Holder → ℕ
number_of (holder.Processor q) = q
number_of holder.Engine = 0

-- the domain had come so far, and all had met; processor p was called, and all have met again
pub record Hand (J : Type 0) : Type 0 where
  pub d : DomainView
  pub limits : Limits
  pub cpus : List (CpuView J)
  pub v : View
  pub s : SoloView J
  pub p : ℕ
  pub was : CpuView J
  pub now : CpuView J
  pub d' : DomainView
  pub cpus' : List (CpuView J)
  pub met : HaveMet d limits cpus v
  pub seen : seen_first d limits cpus ≡ s
  pub inside : p < length cpus
  pub is : was ≡ get_or cpus p was
  pub all : IsAllOf d' cpus'
  pub meets : MeetsHere (set cpus p now) cpus'

module _ {J : Type 0} where
  abbrev pub hand_of : {d : DomainView} {limits : Limits} {cpus : List (CpuView J)} {v : View} {s : SoloView J} {was : CpuView J} {d' : DomainView} {cpus' : List (CpuView J)} (p : ℕ) (now : CpuView J)
      → HaveMet d limits cpus v → seen_first d limits cpus ≡ s → p < s.course.standing.processors → was ≡ get_or cpus p was → IsAllOf d' cpus' → MeetsHere (set cpus p now) cpus' → Hand J
  hand_of {d} {limits} {cpus} {v} {s} {was} {d'} {cpus'} p now met seen small is all meets = record { d = d; limits = limits; cpus = cpus; v = v; s = s; p = p; was = was; now = now; d' = d'; cpus' = cpus'; met = met; seen = seen; inside = is_inside d limits cpus v met s seen p small; is = is; all = all; meets = meets }

  module _ (t : Hand J) where
    abbrev pub s' : SoloView J
    s' = seen_first t.d' t.limits t.cpus'

    -- The processor that was called has seen just what all have

    pub view_is : t.s ≡ seen_as t.d.tallies t.limits (greatest t.met.raises) (queued_on t.cpus) (finished_on t.cpus) (lines_on t.cpus) t.v
    view_is = now_is t.d t.limits t.cpus t.v t.met t.s t.seen

    pub many_are : length t.cpus ≡ t.s.course.standing.processors
    many_are = t.met.together.hold.all ∙ sym (ap (λ (x : SoloView J). x.course.standing.processors) view_is)

    pub tallies_are : t.d.tallies ≡ t.s.tallies
    tallies_are = sym (ap (λ (x : SoloView J). x.tallies) view_is)

    pub held : Holds t.s.limits t.s.table t.s.course.standing.processors t.s.course.standing.history t.p t.was.cpu
    held = subst (λ (x : SoloView J). Holds x.limits x.table x.course.standing.processors x.course.standing.history t.p t.was.cpu) (sym view_is) (subst (λ (z : CpuView J). Holds t.limits t.v.seat.domain t.v.seat.processors t.v.seat.seen t.p z.cpu) (sym t.is) (t.met.together.hold.each t.p t.was t.inside))

    pub changes_were : t.was.cpu.changes ≡ t.s.course.standing.changes
    changes_were = ap (λ (x : CpuView J). x.cpu.changes) t.is ∙ (t.met.together.changes t.p t.was t.inside ∙ sym (ap (λ (x : SoloView J). x.course.standing.changes) view_is))

    pub deeds_were : t.was.calls ≡ record { domain = t.d.domain; tallies = t.d.tallies; processors = length t.cpus; processor = t.p; seen = t.met.deeds }
    deeds_were = ap (λ (x : CpuView J). x.calls) t.is ∙ t.met.tally_together.seats t.p t.was t.inside

    pub queued_were : (k : ℕ) → k < length t.cpus → get_or t.s.course.queued k 0 ≡ queued_in k t.met.deeds
    queued_were k lt = ap (λ (x : SoloView J). get_or x.course.queued k 0) view_is ∙ count_at 0 queued_in t.d t.met.deeds t.cpus t.met.tally_together k lt

    pub finished_were : (k : ℕ) → k < length t.cpus → get_or t.s.course.finished k 0 ≡ finished_in k t.met.deeds
    finished_were k lt = ap (λ (x : SoloView J). get_or x.course.finished k 0) view_is ∙ count_at 0 finished_in t.d t.met.deeds t.cpus t.met.tally_together k lt

    pub queued_found : (k : ℕ) → k < length t.cpus → slice_get t.s.course.queued k ≡ Some (get_or t.s.course.queued k 0)
    queued_found k lt = ap (λ (x : SoloView J). slice_get x.course.queued k) view_is ∙ (found_at 0 queued_in t.d t.met.deeds t.cpus t.met.tally_together k lt ∙ ap Some (sym (queued_were k lt)))

    pub finished_found : (k : ℕ) → k < length t.cpus → slice_get t.s.course.finished k ≡ Some (get_or t.s.course.finished k 0)
    finished_found k lt = ap (λ (x : SoloView J). slice_get x.course.finished k) view_is ∙ (found_at 0 finished_in t.d t.met.deeds t.cpus t.met.tally_together k lt ∙ ap Some (sym (finished_were k lt)))

    pub line_found : (k : ℕ) → k < length t.cpus → slice_get t.s.lines k ≡ Some (list_in k t.met.deeds)
    line_found k lt = ap (λ (x : SoloView J). slice_get x.lines k) view_is ∙ found_at no_calls list_in t.d t.met.deeds t.cpus t.met.tally_together k lt

    pub queued_long : length t.s.course.queued ≡ length t.cpus
    queued_long = ap (λ (x : SoloView J). length x.course.queued) view_is ∙ length-map t.cpus (λ c. queued_in c.calls.processor c.calls.seen)

    -- as many periods have ended as there are changes for
    pub reaches_were : Reaches t.s.course.standing.changes t.s.course.standing.history
    reaches_were = subst (λ (x : SoloView J). Reaches x.course.standing.changes x.course.standing.history) (sym view_is) t.met.together.history.reaches

    pub makers_were : All (HasItsMaker t.s.course.standing.processors) t.s.course.standing.history
    makers_were = subst (λ (x : SoloView J). All (HasItsMaker x.course.standing.processors) x.course.standing.history) (sym view_is) t.met.together.history.makers

    holder_is : t.was.needs.holder ≡ holder.Processor t.p
    holder_is = ap (λ (x : CpuView J). x.needs.holder) t.is ∙ (t.met.all.asks t.p t.was t.inside).2

    -- It acted

    -- as the domain's call tells it
    pub did_it : (what : ℕ → Act) → ActsAs what t.was t.now → Did t.p (what t.p) t.was t.now
    did_it what did = did_of t.p (what t.p) t.was t.now (subst (λ q. Acts q (what q) t.was t.now) held.processor did)

    module _ {a : Act} (acts : Did t.p a t.was t.now) where
      abbrev acted_cpus : List (CpuView J)
      acted_cpus = set t.cpus t.p t.now

      count : length t.cpus' ≡ length acted_cpus
      count = t.meets.count

      some : 0 < length t.cpus
      some = t.met.all.some

      long : length acted_cpus ≡ length t.cpus
      long = length-set t.cpus t.p t.now

      here : (c : CpuView J) → get_or acted_cpus t.p c ≡ t.now
      here c = get_or-set_same t.cpus t.p t.now c t.inside

      within : t.p < length acted_cpus
      within = omega (arith, length-set t.cpus t.p t.now, t.inside)

      -- no turn was made but in the meeting, which found the engine that lay there
      same_turns : (k : ℕ) (c : CpuView J) → (get_or acted_cpus k c).turn ≡ (get_or t.cpus k c).turn
      same_turns k c = dite (ℕ_discrete k t.p)
          (λ same. subst (λ q. (get_or acted_cpus q c).turn ≡ (get_or t.cpus q c).turn) (sym same) (ap (λ (z : CpuView J). z.turn) (here c) ∙ (acts.turn ∙ ap (λ (z : CpuView J). z.turn) (t.is ∙ get_or_default t.cpus t.p t.was c t.inside))))
          (λ other. ap (λ (z : CpuView J). z.turn) (get_or-set_other t.cpus t.p k t.now c other))

      turns : (t.meets.found ≡ t.v) × TurnTogether t.meets.turns.swaps t.cpus' t.meets.left
      turns = idle_turned t.met.swaps t.cpus acted_cpus t.v t.met.turn_together some long (λ k c _ lt. same_turns k c) t.cpus' t.meets.found t.meets.left t.meets.turns count t.was (same_turns 0 t.was)

      pub engine_meets : EngineMeets t.v.seat acted_cpus t.meets.left.seat t.cpus'
      engine_meets = subst (λ (z : View). EngineMeets z.seat acted_cpus t.meets.left.seat t.cpus') turns.0 t.meets.engine

      same_engine : IsSameEngine t.v.seat t.meets.left.seat
      same_engine = engine_meets.same

      rest_is : t.meets.left ≡ with_seat t.meets.left.seat t.v
      rest_is = subst (λ (z : View). t.meets.left ≡ with_seat t.meets.left.seat z) turns.0 t.meets.rest

      -- The tree

      have_asked : HaveAsked t.p t.met.raises acts.raised acted_cpus
      have_asked = raised_here t.met.raises t.cpus t.met.ask_together t.p t.inside t.was t.now t.is acts.raised acts.needs (acts.ask_for.own t.p holder_is) (λ q other. acts.ask_for.others q (λ is. other (sym (ap number_of (sym holder_is ∙ is)))))

      asking : (t.meets.needs.raises ≡ t.met.raises ++ acts.raised) × AskTogether t.meets.needs.raises t.cpus'
      asking = asked_together t.d' acted_cpus t.cpus' t.all count t.meets.needs t.was t.p t.met.raises acts.raised have_asked

      asked_is : greatest t.meets.needs.raises ≡ with_asked a.asked (greatest t.met.raises)
      asked_is = ap greatest asking.0 ∙ (acts.ask_for.greatest_is t.met.raises ∙ sym (with_asked_is a.asked (greatest t.met.raises)))

      -- The tally words

      abbrev deeds_after : List (Deed J)
      deeds_after = t.meets.calls.deeds

      tallied_so : IsTallied t.d t.d' t.p t.met.deeds acts.deeds deeds_after t.cpus t.cpus'
      tallied_so = tallied t.d t.d' t.met.deeds t.cpus t.cpus' t.p t.was t.now t.inside t.is t.met.tally_together acts.deeds acts.adds count t.meets.calls t.all

      queued_after : queued_on t.cpus' ≡ more_at t.p a.queued (queued_on t.cpus)
      queued_after =
          let was = count_at 0 queued_in t.d t.met.deeds t.cpus t.met.tally_together t.p t.inside in
          let now = queued_here (length t.cpus) t.p t.met.deeds acts.deeds deeds_after tallied_so.on in
          let more = acts.count.queued in
          one_count 0 queued_in t.d t.d' t.met.deeds deeds_after t.cpus t.cpus' t.met.tally_together tallied_so.together (count ∙ long) t.p (get_or (queued_on t.cpus) t.p 0 + a.queued) (λ there. omega (arith, was, now, more)) (queued_else (length t.cpus) t.p t.met.deeds acts.deeds deeds_after tallied_so.on)
          ∙ more_is t.p a.queued (queued_on t.cpus)

      finished_after : finished_on t.cpus' ≡ more_at a.owner a.finished (finished_on t.cpus)
      finished_after =
          let now = finished_are (length t.cpus) t.p t.met.deeds acts.deeds deeds_after tallied_so.on a.owner in
          let more = acts.count.finished in
          one_count 0 finished_in t.d t.d' t.met.deeds deeds_after t.cpus t.cpus' t.met.tally_together tallied_so.together (count ∙ long) a.owner (get_or (finished_on t.cpus) a.owner 0 + a.finished)
          (λ there. let was = count_at 0 finished_in t.d t.met.deeds t.cpus t.met.tally_together a.owner there in omega (arith, was, now, more))
          (λ k lt other. let are = finished_are (length t.cpus) t.p t.met.deeds acts.deeds deeds_after tallied_so.on k in let none = acts.count.others k other in omega (arith, are, none))
          ∙ more_is a.owner a.finished (finished_on t.cpus)

      -- the lists of all but one
      line_else : (k : ℕ) → k < length t.cpus → a.list ≢ Some k → line_in k deeds_after ≡ line_in k t.met.deeds
      line_else k lt away = lines_are (length t.cpus) t.p t.met.deeds acts.deeds deeds_after tallied_so.on k lt ∙ acts.count.lists k away (line_in k t.met.deeds)

      -- The history

      was_held : Holds t.limits t.v.seat.domain t.v.seat.processors t.v.seat.seen t.p t.was.cpu
      was_held = subst (λ (z : CpuView J). Holds t.limits t.v.seat.domain t.v.seat.processors t.v.seat.seen t.p z.cpu) (sym t.is) (t.met.together.hold.each t.p t.was t.inside)

      -- what the processor has seen of the engine's changes is all of them
      all_changes : t.now.cpu.changes ≡ t.v.seat.changes
      all_changes =
          let before : t.was.cpu.changes ≡ t.v.seat.changes = ap (λ (x : CpuView J). x.cpu.changes) t.is ∙ t.met.together.changes t.p t.was t.inside in
          let joins : t.now.cpu.changes ≤ t.meets.left.seat.changes = subst (λ (x : CpuView J). x.cpu.changes ≤ t.meets.left.seat.changes) (here t.was) (engine_meets.each t.p t.was within).later in
          let most = engine_meets.changes in
          let later = acts.events.later in
          omega (arith, later, before, joins, most)

      abbrev history : List Event
      history = t.v.seat.seen ++ a.events

      -- one that made none of the events
      none_own : (k : ℕ) → made_by (Processor k) a.events ≡ [] → made_by (Processor k) t.v.seat.seen ≡ made_by (Processor k) history
      none_own k none = sym (made_by_append (Processor k) t.v.seat.seen a.events ∙ (ap (λ l. made_by (Processor k) t.v.seat.seen ++ l) none ∙ append-nil (made_by (Processor k) t.v.seat.seen)))

      hold : AllHold t.limits history acted_cpus t.v.seat
      hold = record {
        in_range = t.met.together.hold.in_range;
        periods = t.met.together.hold.periods;
        count = t.met.together.hold.count;
        all = long ∙ t.met.together.hold.all;
        engine = t.met.together.hold.engine ∙ sym (made_by_append Engine t.v.seat.seen a.events ∙ (ap (λ l. made_by Engine t.v.seat.seen ++ l) acts.are_of.engine ∙ append-nil (made_by Engine t.v.seat.seen)));
        each = λ k c lt. dite (ℕ_discrete k t.p)
            (λ same. subst (λ (q : ℕ). Holds t.limits t.v.seat.domain t.v.seat.processors history q (get_or acted_cpus q c).cpu) (sym same) (subst (λ (z : CpuView J). Holds t.limits t.v.seat.domain t.v.seat.processors history t.p z.cpu) (sym (here c)) (record {
              domain = acts.events.same.0 ∙ was_held.domain;
              processors_are = acts.events.same.1 ∙ was_held.processors_are;
              sections = acts.events.same.2 ∙ was_held.sections;
              processor = acts.events.same.3 ∙ was_held.processor;
              mine = acts.events.mine ∙ (ap (λ l. l ++ a.events) was_held.mine ∙ (ap (λ l. made_by (Processor t.p) t.v.seat.seen ++ l) (sym acts.are_of.own) ∙ sym (made_by_append (Processor t.p) t.v.seat.seen a.events)));
            })))
            (λ other. let old = t.met.together.hold.each k c (omega (arith, length-set t.cpus t.p t.now, lt)) in subst (λ (z : CpuView J). Holds t.limits t.v.seat.domain t.v.seat.processors history k z.cpu) (sym (get_or-set_other t.cpus t.p k t.now c other))
            (record { domain = old.domain; processors_are = old.processors_are; sections = old.sections; processor = old.processor; mine = old.mine ∙ none_own k (acts.are_of.others k other) }));
      }

      acted : (t.meets.left.seat.seen ≡ history) × AreTogether t.limits t.cpus' t.meets.left.seat
      acted = settled_by acted_cpus t.cpus' t.v.seat t.meets.left.seat count engine_meets t.was t.limits t.p t.v.seat.seen a.events hold (beginning_refl t.v.seat.seen)
          (let all = t.met.together.hold.all in let inside = t.inside in omega (arith, all, inside)) acts.are_of.own acts.are_of.others acts.are_of.engine

      pub history_is : t.meets.left.seat.seen ≡ history
      history_is = acted.0

      pub together : AreTogether t.limits t.cpus' t.meets.left.seat
      together = acted.1

      -- The theorem

      seen_after : s' ≡ seen_as t.d'.tallies t.limits (greatest t.meets.needs.raises) (queued_on t.cpus') (finished_on t.cpus') (lines_on t.cpus') t.meets.left
      seen_after = first_seen t.d' t.limits t.cpus' t.meets.left (greatest t.meets.needs.raises) t.all.some turns.1.lying (λ c. ap greatest (asking.1.seen 0 c t.all.some))

      all_lines : s'.lines ≡ lines_on t.cpus'
      all_lines = ap (λ (x : SoloView J). x.lines) seen_after

      old_lines : t.s.lines ≡ lines_on t.cpus
      old_lines = ap (λ (x : SoloView J). x.lines) view_is

      -- what was asked for are cookies, and where a period is wanted already, it is the next one
      still_wanted : (¬ IsRunning t.v.seat.seen → 0 < t.v.so_far → greatest t.meets.needs.raises ≡ greatest t.met.raises) × (greatest t.meets.needs.raises % 4 ≡ 0)
      still_wanted = by_case acts.ask_for.cookie
        where
          by_case : (a.asked ≡ 0) ⊎ (before : List Event) × (a.events ≡ before ++ Note a.asked (Processor t.p) ∷ []) → (¬ IsRunning t.v.seat.seen → 0 < t.v.so_far → greatest t.meets.needs.raises ≡ greatest t.met.raises) × (greatest t.meets.needs.raises % 4 ≡ 0)
          by_case (inl none) =
              let same : greatest t.meets.needs.raises ≡ greatest t.met.raises = asked_is ∙ ap (λ n. with_asked n (greatest t.met.raises)) none in
              (λ _ _. same, ap (λ n. n % 4) same ∙ t.met.cookies)
          by_case (inr (early, noted)) =
              let h : List Event = t.v.seat.seen ++ early in
              let note : Event = Note a.asked (Processor t.p) in
              let seen : t.meets.left.seat.seen ≡ h ++ note ∷ [] = history_is ∙ (ap (λ l. t.v.seat.seen ++ l) noted ∙ sym (append_assoc t.v.seat.seen early (note ∷ []))) in
              let cookie : a.asked ≡ cookie_after h = last_may_follow h note (subst IsLegal seen together.history.legal) in
              -- and nothing starts or ends before it
              let quiet = acts.are_of.quiet t.v.seat.seen in
              let starts : starts_in h ≡ starts_in t.v.seat.seen = (let one = ap starts_in seen in let push = starts_in_push h note in let all = ap starts_in history_is in let none = quiet.0 in omega (arith, one, push, all, none)) in
              let ended : ended_in h ≡ ended_in t.v.seat.seen = (let one = ap ended_in seen in let push = ended_in_push h note in let all = ap ended_in history_is in let none = quiet.1 in omega (arith, one, push, all, none)) in
              let now : cookie_after h ≡ cookie_after t.v.seat.seen = λ i. 4 * (ended i + cond (ltb (ended i) (starts i)) 2 1) in
              let asks : greatest t.meets.needs.raises ≡ max (greatest t.met.raises) a.asked = asked_is ∙ with_asked_is a.asked (greatest t.met.raises) in
              let before = t.met.cookies in (
                λ resting half.
                    let wanted = t.met.wanted resting half in let need = wanted.need in let above = wanted.above in
                    let low = next_above t.v.seat.seen (greatest t.met.raises) resting t.met.cookies (omega (arith, need, above)) in omega (arith, low, cookie, now, asks),
                omega (arith, before, cookie, asks),
              )

      pub have_met : HaveMet t.d' t.limits t.cpus' t.meets.left
      have_met = record {
        all = t.all;
        together = together;
        raises = t.meets.needs.raises;
        ask_together = asking.1;
        swaps = t.meets.turns.swaps;
        turn_together = turns.1;
        deeds = deeds_after;
        tally_together = tallied_so.together;
        cookies = still_wanted.1;
        wanted = λ resting some.
            let quiet = acts.are_of.quiet t.v.seat.seen in
            let after = ap starts_in history_is ∙ quiet.0 in
            let ended = ap ended_in history_is ∙ quiet.1 in
            let before : ¬ IsRunning t.v.seat.seen = λ running. resting (omega (arith, after, ended, running)) in
            let so_far = ap (λ (x : View). x.so_far) rest_is in
            let half : 0 < t.v.so_far = omega (arith, so_far, some) in
            let wanted = t.met.wanted before half in
            let need = ap (λ (x : View). x.need) rest_is in record {
              need = need ∙ (wanted.need ∙ sym (still_wanted.0 before half));
              above = (let above = wanted.above in omega (arith, above, need, ended));
            };
      }

      -- what is current in the cells then
      abbrev pub shelf_now : Shelf
      shelf_now = shelf_of t.meets.left.seat.seen t.meets.left.seat.texts

      -- the domain has come just so far
      pub come : s' ≡ record t.s { course = after t.p a t.s.course; lines = lines_on t.cpus'; shelf = shelf_now }
      come = seen_after
          ∙ ((λ z. record {
            table = same_engine.0 z;
            limits = t.limits;
            tallies = tallied_so.tallies z;
            course = record {
              standing = record {
                processors = same_engine.1 z;
                periods = same_engine.2 z;
                history = (history_is ∙ with_events_is a.events t.v.seat.seen) z;
                changes = engine_meets.changes z;
                so_far = ap (λ (x : View). x.so_far) rest_is z;
                began = ap (λ (x : View). x.began) rest_is z;
              };
              asked = asked_is z;
              queued = queued_after z;
              finished = finished_after z;
            };
            lines = lines_on t.cpus';
            shelf = shelf_now;
          }) ∙ sym (ap (λ (x : SoloView J). record x { course = after t.p a x.course; lines = lines_on t.cpus'; shelf = shelf_now }) view_is))

      pub does : (what : ℕ → Act) → a ≡ what t.p → Does t.p what t.s.course s'.course
      does what is = record {
        follows = subst (λ (b : Act). IsLegalAfter t.s.course.standing.history b.events) is (subst (λ (x : SoloView J). IsLegalAfter x.course.standing.history a.events) (sym view_is) (legal_after_append [] t.v.seat.seen a.events (subst IsLegal history_is together.history.legal)).1);
        come = ap (λ (x : SoloView J). x.course) come ∙ ap (λ (b : Act). after t.p b t.s.course) is;
      }

      -- but for what is current in the cells
      pub same_but_shelf : HasSameTables (record t.s { shelf = s'.shelf }) s'
      same_but_shelf = subst (λ (x : SoloView J). HasSameTables (record t.s { shelf = x.shelf }) x) (sym come) (refl, refl, refl, refl, refl, refl)

      -- and that too, where nothing is put
      module _ (none : put_cells a.events ≡ []) where
        pub same_shelf : s'.shelf ≡ t.s.shelf
        same_shelf =
            ap (λ (x : SoloView J). x.shelf) come
            ∙ (shelf_stays t.v.seat.seen a.events t.meets.left.seat.seen history_is none t.v.seat.texts t.meets.left.seat.texts engine_meets.texts t.met.together.history.texts together.history.texts
            ∙ sym (ap (λ (x : SoloView J). x.shelf) view_is))

        pub same_tables : HasSameTables t.s s'
        same_tables =
            let but = same_but_shelf in (but.0, but.1, but.2, but.3, but.4, same_shelf)

      -- The lists

      -- what it has seen of the tally words, all have
      pub seen_by_all : tallies.IsBeginning t.now.calls.seen deeds_after
      seen_by_all = subst (λ (z : CpuView J). tallies.IsBeginning z.calls.seen deeds_after) (here t.was) (t.meets.calls.each t.p t.was within).since

      -- a moment of the call, at which these were done
      moment : (x : List (Deed J)) → tallies.IsBeginning t.was.calls.seen x → tallies.IsBeginning x deeds_after → (made : List (Deed J)) → deeds_of t.was.calls.processor x ≡ deeds_of t.was.calls.processor t.was.calls.seen ++ made → GoesOnBy (length t.cpus) t.p t.met.deeds made x
      moment x low high made own = at_moment (length t.cpus) t.p t.met.deeds acts.deeds deeds_after tallied_so.on x (subst (λ l. tallies.IsBeginning l x) seen_is low) high made (subst (λ (s : CallSeatView J). deeds_of s.processor x ≡ deeds_of s.processor s.seen ++ made) deeds_were own)
        where
          seen_is : t.was.calls.seen ≡ t.met.deeds
          seen_is = ap (λ (s : CallSeatView J). s.seen) deeds_were

      -- what a processor has seen of each list, all have
      pub line_now : (k : ℕ) → k < length t.cpus → line_in k deeds_after ≡ line_in k t.now.calls.seen
      line_now k lt = lines_are (length t.cpus) t.p t.met.deeds acts.deeds deeds_after tallied_so.on k lt ∙ sym (lines_are (length t.cpus) t.p t.met.deeds acts.deeds t.now.calls.seen (moment t.now.calls.seen acts.adds.since seen_by_all acts.deeds acts.adds.own) k lt)

      -- at a moment of the call at which it had done nothing yet, a list was as before
      pub line_before : (x : List (Deed J)) → tallies.IsBeginning t.was.calls.seen x → tallies.IsBeginning x t.now.calls.seen → deeds_of t.was.calls.processor x ≡ deeds_of t.was.calls.processor t.was.calls.seen → (k : ℕ) → k < length t.cpus → line_in k x ≡ line_in k t.met.deeds
      line_before x low high own k lt = lines_are (length t.cpus) t.p t.met.deeds [] x (moment x low (begins_on high seen_by_all) [] (own ∙ sym (append-nil (deeds_of t.was.calls.processor t.was.calls.seen)))) k lt

      -- and at one behind which it did nothing more, it is as behind
      pub line_behind : (x : List (Deed J)) → tallies.IsBeginning t.was.calls.seen x → tallies.IsBeginning x t.now.calls.seen → deeds_of t.was.calls.processor t.now.calls.seen ≡ deeds_of t.was.calls.processor x → (k : ℕ) → k < length t.cpus → line_in k deeds_after ≡ line_in k x
      line_behind x low high own k lt =
          lines_are (length t.cpus) t.p t.met.deeds acts.deeds deeds_after tallied_so.on k lt
          ∙ sym (lines_are (length t.cpus) t.p t.met.deeds acts.deeds x (moment x low (begins_on high seen_by_all) acts.deeds (sym own ∙ acts.adds.own)) k lt)

      -- one list is another, and no other one
      pub on_list : a.list ≡ Some t.p → (becomes : Line J → Line J → Type 0) → (is : Line J) → list_in t.p deeds_after ≡ is → becomes (list_in t.p t.met.deeds) is → OnList t.p becomes t.s.lines s'.lines
      on_list mine becomes is found so = record {
        was = list_in t.p t.met.deeds;
        is = is;
        there = line_found t.p t.inside;
        becomes_so = so;
        rest = all_lines ∙ (one_count no_calls list_in t.d t.d' t.met.deeds deeds_after t.cpus t.cpus' t.met.tally_together tallied_so.together (count ∙ long) t.p is (λ there. found) (λ k lt other. ap in_one (line_else k lt (λ same. other (same_some k (sym (sym mine ∙ same)))))) ∙ ap (λ l. set l t.p is) (sym old_lines));
      }
        where
          same_some : (k : ℕ) → Some k ≡ Some t.p → k ≡ t.p
          same_some k e = cc

      module _ (quiet : a.list ≡ None) where
        lines_stay : lines_on t.cpus' ≡ lines_on t.cpus
        lines_stay = same_counts no_calls list_in t.d t.d' t.met.deeds deeds_after t.cpus t.cpus' t.met.tally_together tallied_so.together (count ∙ long) (λ k lt. ap in_one (line_else k lt (λ some. nothing k (sym quiet ∙ some))))
          where
            nothing : (k : ℕ) → None ≡ Some k → ⊥
            nothing k e = cc

        pub line_quiet : (k : ℕ) → k < length t.cpus → line_in k deeds_after ≡ line_in k t.met.deeds
        line_quiet k lt = line_else k lt (λ some. nothing_some k (sym quiet ∙ some))
          where
            nothing_some : (k : ℕ) → None ≡ Some k → ⊥
            nothing_some k e = cc

        pub same_lines : s'.lines ≡ t.s.lines
        same_lines = all_lines ∙ (lines_stay ∙ sym old_lines)

        pub same_domain : put_cells a.events ≡ [] → IsSameDomain t.s s'
        same_domain none = (same_tables none, same_lines)

        pub come_quietly : put_cells a.events ≡ [] → s' ≡ record t.s { course = after t.p a t.s.course }
        come_quietly none = come ∙ (λ i. record t.s { course = after t.p a t.s.course; lines = (lines_stay ∙ sym old_lines) i; shelf = (sym (ap (λ (x : SoloView J). x.shelf) come) ∙ same_shelf none) i })

      -- What the call found

      pub changes_are : t.now.cpu.changes ≡ t.s.course.standing.changes
      changes_are = all_changes ∙ sym (ap (λ (x : SoloView J). x.course.standing.changes) view_is)

      -- the processor has then seen the whole history, and knows the words of all versions
      pub seen_first_of_all : t.now.cpu.seen ≡ t.meets.left.seat.seen
      seen_first_of_all =
          let seen_is : t.was.cpu.seen ≡ t.v.seat.seen = ap (λ (x : CpuView J). x.cpu.seen) t.is ∙ t.met.together.seen t.p t.was t.inside in
          let high = subst (λ (x : CpuView J). IsBeginning x.cpu.seen t.meets.left.seat.seen) (here t.was) (engine_meets.each t.p t.was within).since in
          all_seen t.p t.v.seat.seen a.events t.now.cpu.seen t.meets.left.seat.seen (subst (λ l. IsBeginning l t.now.cpu.seen) seen_is acts.events.since) high history_is
          (subst (λ l. made (Processor t.p) l + length a.events ≤ made (Processor t.p) t.now.cpu.seen) seen_is acts.events.seen)

      pub seen_now : t.now.cpu.seen ≡ s'.course.standing.history
      seen_now =
          let history = ap (λ (x : SoloView J). x.course.standing.history) come ∙ ap (λ (x : SoloView J). with_events a.events x.course.standing.history) view_is in
          seen_first_of_all ∙ (history_is ∙ (with_events_is a.events t.v.seat.seen ∙ sym history))

      pub texts_start : IsStart t.now.cpu.texts t.meets.left.seat.texts
      texts_start = subst (λ (x : CpuView J). IsStart x.cpu.texts t.meets.left.seat.texts) (here t.was) (engine_meets.each t.p t.was within).accepts.texts_since

      -- a load of the root found just what had been asked for
      pub root_is : (found : ℕ) → LoadsRoot t.was.needs found t.now.needs → found ≡ t.s.course.asked
      root_is found h =
          let none : acts.raised ≡ [] = append_cancel_left t.was.needs.mine acts.raised [] (sym acts.needs.mine ∙ (h.mine ∙ sym (append-nil t.was.needs.mine))) in
          let seen : t.was.needs.seen ≡ t.met.raises = ap (λ (z : CpuView J). z.needs.seen) t.is ∙ t.met.ask_together.seen t.p t.was t.inside in
          let into : IsBeginningAtTree t.now.needs.seen t.meets.needs.raises = subst (λ (z : CpuView J). IsBeginningAtTree z.needs.seen t.meets.needs.raises) (here t.was) (t.meets.needs.each t.p t.was within).since in
          let same : t.now.needs.seen ≡ t.met.raises = squeezed t.met.raises t.now.needs.seen t.meets.needs.raises (subst (λ l. IsBeginningAtTree l t.now.needs.seen) seen h.since) into (asking.0 ∙ (ap (λ l. t.met.raises ++ l) none ∙ append-nil t.met.raises)) in
          h.current ∙ (ap (value 0) same ∙ (t.met.ask_together.root ∙ sym (ap (λ (x : SoloView J). x.course.asked) view_is)))

      pub queued_now : (k : ℕ) → k < length t.cpus → queued_in k deeds_after ≡ get_or (more_at t.p a.queued t.s.course.queued) k 0
      queued_now k lt = sym (count_at 0 queued_in t.d' deeds_after t.cpus' tallied_so.together k (omega (arith, count, length-set t.cpus t.p t.now, lt))) ∙ (ap (λ l. get_or l k 0) queued_after ∙ sym (ap (λ (x : SoloView J). get_or (more_at t.p a.queued x.course.queued) k 0) view_is))

      pub finished_now : (k : ℕ) → k < length t.cpus → finished_in k deeds_after ≡ get_or (more_at a.owner a.finished t.s.course.finished) k 0
      finished_now k lt = sym (count_at 0 finished_in t.d' deeds_after t.cpus' tallied_so.together k (omega (arith, count, length-set t.cpus t.p t.now, lt))) ∙ (ap (λ l. get_or l k 0) finished_after ∙ sym (ap (λ (x : SoloView J). get_or (more_at a.owner a.finished x.course.finished) k 0) view_is))
