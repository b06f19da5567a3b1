-- What the calls for the need and for callbacks say of the domain in one hand, beside their acts.
use Rattle.std.proofs.Common.{◌≡◌, ℕ, ◌*◌, ◌<◌, ◌≤◌, min, List, [], ◌∷◌, ◌++◌, length, get_or, refl, sym, ap, ◌∙◌, subst, arith}
use Rattle.solo.proofs.Words.{All, true, Option, Some, None, IfSome, IsSome, Result, Ok, Err, MatchResult, IfOk, IfErr, slice_get, length-drop, All-nil, All-weaker, periods_ended, Maker, Processor, Event, Ask, ended_in, number_word, Entry, CallRefusal, TakeRefusal, Queue, Take, deed, queued_in}
use Rattle.solo.proofs.Words.{finished_in, deeds_of, AreTrue, CallSeatView, ListKey, ListView, BatchView, ReceiptView, IsHanded, AreHanded, IsTaken, GivesOut, TakesIn, InvokesIn, LacksRoomIn, TakesNothingIn, FinishesIn, FindsLensIn, MovesAll, begins_itself, begins_on, queued_later, finished_later}
use Rattle.solo.proofs.Words.{same_queued, looked_queued, true_beginning, called_here, taken_here, finish_here, moved_all, number_now, Line, line_in, some_out, with_moved, with_call, with_none_out, readied, callbacks_of, LoadsNeed, CallsIn, RefusesCall, Act, loads, notes, takes, asks_for, finishes}
use Rattle.solo.proofs.Words.{ActsAs, IsQueuedAs, OnList, Queues, QueuesNone, QueuesLast, AreOut, IsGiven, GivesFirst, PutsOut, entries_taken, Takes, TakesNone, HasOut, Finishes, FinishesOut, TellsLens, Does as CourseDoes, more_at, in_one, list_in, TakesBatch, TakesUp}
use Rattle.calls.specs.declared.refusals.CallRefusal.TheVariants as calling
use Rattle.calls.specs.declared.refusals.TakeRefusal.TheVariants as take_refusal
use Rattle.calls.specs.declared.view.Act.TheVariants.{Finish}
use Rattle.calls.specs.Glossary.{IsBeginning}
use Rattle.calls.specs.Calls.{Does}
use Rattle.segs.specs.MarkedList.{count_done, lens, numbers}
use Rattle.domain.specs.Acting as domain
use Rattle.solo.specs.declared.queued.Queued.{Queued}
use Rattle.solo.specs.Calls as call
use Rattle.solo.specs.Batches.{AreReady}
use Rattle.solo.proofs.Listed.{called_last, whole_list, gathered_whole}
use Rattle.solo.proofs.Meeting.{Hand, s', deeds_were, queued_were, queued_found, finished_were, finished_found, line_found, queued_now, line_now, line_before, line_behind, line_quiet, on_list, same_lines, seen_by_all, seen_now, tallies_are, reaches_were, changes_are, root_is, does, did_it}
use Rattle.solo.proofs.Called.{Says, SaysOnList, says, says_on_list, still}

-- How far the grace periods have come

-- the number in the last event, where that asks
abbrev number_in : Event → ℕ
number_in (Ask c done by) = c
number_in e = 0

abbrev last_of : ℕ → List Event → ℕ
last_of n [] = n
last_of n (e ∷ es) = last_of (number_in e) es

last_is : (n : ℕ) (l : List Event) (e : Event) → last_of n (l ++ e ∷ []) ≡ number_in e
last_is n [] e = refl
last_is n (x ∷ l) e = last_is (number_in x) l e

-- what was handed out was done by the time of the last event, which told how far they have come
far_enough : {J : Type 0} (reached : ℕ) (seen before : List Event) (by : Maker) → seen ≡ before ++ Ask reached true by ∷ [] → (e : Entry J) → IsHanded e.cookie.number e.cookie.seen seen → e.cookie.number ≤ reached
far_enough reached seen before by is e handed =
    let told = sym (ap (last_of 0) handed.told ∙ last_is 0 handed.before (Ask handed.reached true handed.by)) ∙ (ap (last_of 0) is ∙ last_is 0 before (Ask reached true by)) in
    let enough = handed.not_before in
    omega (arith, told, enough)

-- a batch that was taken from a list
batch_ready : {J : Type 0} (max done far : ℕ) (now : List Event) (l l' : ListView J) (gone : List (Entry J)) (b : BatchView J) → IsTaken l gone (Some b) l' → length gone ≡ min (min max 8) done → All (λ e. e.cookie.number ≤ far) b.entries → AreHanded b.entries now
    → (b.count ≡ length b.entries) × (0 < length b.entries) × AreReady max far now b.entries
batch_ready max done far now l l' [] b is many all handed = absurd is
batch_ready {J} max done far now l l' (e ∷ es) b is many all handed =
    let counted : length b.entries ≡ length (e ∷ es) = ap (λ (x : BatchView J). length x.entries) is.0 in (
      ap (λ (x : BatchView J). x.count) is.0 ∙ sym counted,
      omega (arith, counted),
      record { few = omega (arith, counted, many); most = omega (arith, counted, many); done = all; handed = handed },
    )

-- nothing that was taken is ready
none_ready : {J : Type 0} (max far : ℕ) (now : List Event) → AreReady {J = J} max far now []
none_ready {J} max far now = record {
  few = omega arith;
  most = omega arith;
  done = All-nil (λ (e : Entry J). e.cookie.number ≤ far);
  handed = All-nil (λ (e : Entry J). IsHanded e.cookie.number e.cookie.seen now);
}

module _ {J : Type 0} where
  module _ (t : Hand J) where
    -- the root was loaded
    pub need_says : (need : ℕ) → LoadsNeed t.was need t.now → ActsAs loads t.was t.now → Says t ((s' t ≡ t.s) × (need ≡ t.s.course.asked))
    need_says need h did = says t loads did refl refl _ (still t did, root_is t (did_it t loads did) need h.load)

    -- Jobs are queued

    -- what the seat knew of its own jobs
    counted : queued_in t.was.calls.processor t.was.calls.seen ≡ get_or t.s.course.queued t.p 0
    counted = ap (λ (s : CallSeatView J). queued_in s.processor s.seen) (deeds_were t) ∙ sym (queued_were t t.p t.inside)

    own_number : t.was.calls.processor ≡ t.p
    own_number = ap (λ (s : CallSeatView J). s.processor) (deeds_were t)

    module _ (job : J) where
      abbrev Answer : Type 0
      Answer = Result Queued (J × CallRefusal)

      abbrev IsAnswered : Answer → Type 0
      IsAnswered told = MatchResult told (λ q. Queues t.p q t.s.course (s' t).course) (λ refused. QueuesNone t.p refused.1 t.s.course (s' t).course)

      abbrev LeavesList : Answer → Type 0
      LeavesList told = MatchResult told (λ q. OnList t.p (QueuesLast job q.cookie) t.s.lines (s' t).lines) (λ _. (s' t).lines ≡ t.s.lines)

      abbrev ComesBack : Answer → Type 0
      ComesBack told = IfErr told (λ refused. refused.0 ≡ job)

      -- the job came last in the list
      came_last : (r : ReceiptView J) → CallsIn t.d t.was job r t.now → ActsAs (asks_for r.cookie.number 1) t.was t.now → OnList t.p (QueuesLast job r.cookie.number) t.s.lines (s' t).lines
      came_last r h did =
          let what = asks_for r.cookie.number 1 in
          let e : Entry J = record { job = job; cookie = r.cookie } in
          let q = h.queues.queues.tally in
          let before = line_before t (did_it t what did) q.before q.since record { rest = _ ∷ []; whole = q.seen } q.own t.p t.inside in
          let was : Line J = list_in t.p t.met.deeds in
          on_list t (did_it t what did) refl (QueuesLast job r.cookie.number) (record was { waiting = with_moved e was.waiting })
          (ap in_one (line_now t (did_it t what did) t.p t.inside ∙ (ap (line_in t.p) q.seen ∙ (ap (λ b. line_in t.p (q.before ++ deed b (Queue e) ∷ [])) own_number ∙ (called_here t.p e q.before ∙ ap (with_call e) before)))) ∙ called_last e (line_in t.p t.met.deeds))
          (e, refl, refl, refl)

      queued_says : (r : ReceiptView J) → CallsIn t.d t.was job r t.now → ActsAs (asks_for r.cookie.number 1) t.was t.now
          → SaysOnList t (Queues t.p (record { k = r.k; cookie = r.cookie.number }) t.s.course (s' t).course × OnList t.p (QueuesLast job r.cookie.number) t.s.lines (s' t).lines × Unit {0})
      queued_says r h did = says_on_list t (asks_for r.cookie.number 1) did refl _ (record { number = queued_found t t.p t.inside ∙ ap Some (sym (h.queues.queues.counted ∙ counted)); queues = does t (did_it t (asks_for r.cookie.number 1) did) (asks_for r.cookie.number 1) refl }, came_last r h did, tt)

      refused_says : (refusal : CallRefusal) (back : J) → RefusesCall t.d t.was job (back, refusal) t.now → domain.QueuesNone refusal t.was t.now → SaysOnList t (QueuesNone t.p refusal t.s.course (s' t).course × ((s' t).lines ≡ t.s.lines) × (back ≡ job))
      refused_says calling.Exhausted back h did = says_on_list t loads did refl _ ((queued_found t t.p t.inside ∙ ap Some (sym counted ∙ h.refuses.refuses.cause.0), (does t (did_it t loads did) loads refl).come), same_lines t (did_it t loads did) refl, h.refuses.refuses.job_is)
      refused_says calling.Memory back h did = says_on_list t (notes did.0) did.1 refl _ ((did.0, does t (did_it t (notes did.0) did.1) (notes did.0) refl), same_lines t (did_it t (notes did.0) did.1) refl, h.refuses.refuses.job_is)

      pub call_says : (r : Result (ReceiptView J) (J × CallRefusal)) → MatchResult r (λ r. CallsIn t.d t.was job r t.now) (λ refused. RefusesCall t.d t.was job refused t.now)
          → MatchResult r (λ r. ActsAs (asks_for r.cookie.number 1) t.was t.now) (λ refused. domain.QueuesNone refused.1 t.was t.now) → (told : Answer) → IsQueuedAs r told → SaysOnList t (IsAnswered told × LeavesList told × ComesBack told)
      call_says (Ok r) h did told same = subst (λ x. SaysOnList t (IsAnswered x × LeavesList x × ComesBack x)) (sym same) (queued_says r h did)
      call_says (Err refused) h did told same = subst (λ x. SaysOnList t (IsAnswered x × LeavesList x × ComesBack x)) (sym same) (refused_says refused.1 refused.0 h did)

    -- A batch is taken

    -- how far the grace periods have come, as the engine's changes tell
    reached_is : (changes : ℕ) → changes ≡ t.s.course.standing.changes → 4 * periods_ended (number_word changes) ≡ 4 * ended_in t.s.course.standing.history
    reached_is changes same = let found = ap number_word same in let ended = (reaches_were t).ended in omega (arith, found, ended)

    -- A batch is taken: its jobs were ready, and are out

    module _ (most : ℕ) (b : BatchView J) (h : TakesBatch t.d t.p most b t.was t.now) (what : ℕ → Act) (did : ActsAs what t.was t.now) where
      abbrev far : ℕ
      far = 4 * ended_in t.s.course.standing.history

      all_done : All (λ (e : Entry J). e.cookie.number ≤ far) b.entries
      all_done =
          let asks = h.takes.takes.gives.asks in
          let number : 4 * periods_ended h.takes.takes.gives.number ≡ far = ap (λ n. 4 * periods_ended n) asks.current ∙ reached_is t.now.cpu.changes (changes_are t (did_it t what did)) in
          All-weaker (λ (e : Entry J). IsHanded e.cookie.number e.cookie.seen t.now.cpu.seen) (λ (e : Entry J). e.cookie.number ≤ far)
          (λ e it. subst (λ n. e.cookie.number ≤ n) number (far_enough (4 * periods_ended h.takes.takes.gives.number) t.now.cpu.seen asks.adds.before (Processor t.was.cpu.processor) asks.adds.seen e it)) b.entries h.handed

      are_ready : (b.count ≡ length b.entries) × (0 < length b.entries) × AreReady most far (s' t).course.standing.history b.entries
      are_ready =
          let x = h.takes in
          batch_ready most (count_done (readied x.takes.gives.number x.list.entries)) far (s' t).course.standing.history x.list x.list' x.takes.gone b x.takes.taken_is x.takes.gives.many all_done (subst (AreHanded b.entries) (seen_now t (did_it t what did)) h.handed)

      are_out : (what t.p).queued ≡ 0 → AreOut t.p b.count t.s.course
      are_out none =
          let low = finished_later t.p h.not_before in
          let old = ap (λ (s : CallSeatView J). finished_in t.p s.seen) (deeds_were t) in
          let was = finished_were t t.p t.inside in
          let later = queued_later t.p h.not_after in
          let met = queued_later t.p (seen_by_all t (did_it t what did)) in
          let now = queued_now t (did_it t what did) t.p t.inside ∙ ap (λ n. get_or (more_at t.p n t.s.course.queued) t.p 0) none in
          let moment = h.queued in
          omega (arith, low, old, was, later, met, now, moment)

    -- What is left in the list

    abbrev far_now : ℕ
    far_now = number_now t.s.course.standing

    taken_are : (l l' : ListView J) (gone : List (Entry J)) (taken : Option (BatchView J)) → IsTaken l gone taken l' → gone ≡ entries_taken taken
    taken_are l l' [] None h = refl
    taken_are l l' [] (Some b) h = absurd h
    taken_are l l' (e ∷ es) None h = absurd h
    taken_are l l' (e ∷ es) (Some b) h = ap (λ (z : BatchView J). z.entries) (sym h.0)

    module _ (most : ℕ) (taken : Option (BatchView J)) (x : CallSeatView J) (h : TakesIn (callbacks_of t.d) t.p most t.was.cpu t.was.calls taken t.now.cpu x) (since : IsBeginning x.seen t.now.calls.seen) (what : ℕ → Act) (did : ActsAs what t.was t.now) where
      abbrev given : GivesOut most h.list t.was.cpu t.was.calls h.takes.gone h.list' t.now.cpu x
      given = h.takes.gives

      abbrev taking : Does (Take h.list.processor given.number most h.list.moved) t.was.calls x
      taking = given.tally

      mine : h.list.processor ≡ t.p
      mine = ap (λ (k : ListKey). k.processor) h.of_calls

      mine_still : h.list'.processor ≡ t.p
      mine_still = ap (λ (k : ListKey). k.processor) given.same ∙ mine

      -- the list as it was found, and as it was left
      abbrev found_list : Line J
      found_list = record { out = h.list.out; waiting = h.list.entries; coming = [] }

      abbrev left_list : Line J
      left_list = record { out = h.list'.out; waiting = h.list'.entries; coming = [] }

      behind_it : IsBeginning t.was.calls.seen x.seen
      behind_it = begins_on taking.since record { rest = _ ∷ []; whole = taking.seen }

      true_before : AreTrue taking.before
      true_before = true_beginning (record { rest = _ ∷ []; whole = taking.seen }) taking.loads

      -- nobody else queued anything there meanwhile, so all that came in were moved
      all_came : h.list.moved ≡ length (line_in t.p taking.before).coming
      all_came = moved_all t.p h.list.moved t.was.calls.seen taking.before true_before (subst (λ q. MovesAll q h.list.moved t.was.calls.seen taking.before) mine h.takes.all)
          (subst (λ q. queued_in q t.was.calls.seen ≡ queued_in q taking.before) own_number (sym (same_queued t.was.calls.processor taking.before t.was.calls.seen taking.own)))

      was_found : list_in t.p t.met.deeds ≡ found_list
      was_found =
          ap in_one (sym (line_before t (did_it t what did) taking.before taking.since (begins_on (record { rest = _ ∷ []; whole = taking.seen }) since) taking.own t.p t.inside))
          ∙ whole_list t.p taking.before h.list mine given.was all_came

      -- so nothing is left of that
      none_left : length (line_in t.p x.seen).coming ≡ 0
      none_left =
          let seen : x.seen ≡ taking.before ++ deed t.was.calls.processor (Take t.p given.number most h.list.moved) ∷ [] = taking.seen ∙ ap (λ q. taking.before ++ deed t.was.calls.processor (Take q given.number most h.list.moved) ∷ []) mine in
          let line = ap (line_in t.p) seen ∙ taken_here t.p given.number most h.list.moved taking.before t.was.calls.processor in
          let long = length-drop h.list.moved (line_in t.p taking.before).coming in
          ap (λ (k : Line J). length k.coming) line ∙ omega (arith, long, all_came)

      is_left : list_in t.p x.seen ≡ left_list
      is_left = whole_list t.p x.seen h.list' mine_still given.is
          (let few : h.list'.moved ≤ length (line_in t.p x.seen).coming = subst (λ q. h.list'.moved ≤ length (line_in q x.seen).coming) mine_still given.is.few in let none = none_left in omega (arith, few, none))

      gives_first : GivesFirst far_now most (entries_taken taken) (list_in t.p t.met.deeds) left_list
      gives_first =
          let number : given.number ≡ far_now = given.asks.current ∙ ap number_word (changes_are t (did_it t what did)) in
          subst (λ (k : Line J). GivesFirst far_now most (entries_taken taken) k left_list) (sym was_found)
          (subst (λ (z : ℕ × List (Entry J)). GivesFirst z.0 most z.1 found_list left_list) (λ i. (number i, taken_are h.list h.list' h.takes.gone taken h.takes.taken_is i))
          record { none_out = h.takes.none_out; many = given.many; in_order = given.in_order })

      out_then : left_list.out ≡ some_out (length (entries_taken taken))
      out_then = given.out ∙ ap (λ (l : List (Entry J)). some_out (length l)) (taken_are h.list h.list' h.takes.gone taken h.takes.taken_is)

      module _ (own : deeds_of t.was.calls.processor t.now.calls.seen ≡ deeds_of t.was.calls.processor x.seen) (same : (what t.p).list ≡ Some t.p) where
        left_then : OnList t.p (PutsOut far_now most (entries_taken taken)) t.s.lines (s' t).lines
        left_then = on_list t (did_it t what did) same _ left_list (ap in_one (line_behind t (did_it t what did) x.seen behind_it since own t.p t.inside) ∙ is_left) (record { gives = gives_first; out = out_then })

    -- a batch is out
    has_out : InvokesIn t.p t.was.cpu t.was.calls t.now.cpu t.now.calls → ActsAs loads t.was t.now → HasOut t.p t.s.lines
    has_out h did = record {
      list = list_in t.p t.met.deeds;
      there = line_found t t.p t.inside;
      out = subst (λ (k : Line J). IsSome k.out) (sym (line_now t (did_it t loads did) t.p t.inside) ∙ line_quiet t (did_it t loads did) refl t.p t.inside) h.out;
    }

    taken_says : (most : ℕ) (taken : Option (BatchView J)) → TakesUp t.d t.p most taken t.was t.now → ActsAs (takes t.now.cpu.changes t.p) t.was t.now → t.p < t.s.course.standing.processors → SaysOnList t (Takes t.p most taken t.s (s' t))
    taken_says most taken h did small =
        let far_is = takes t.now.cpu.changes t.p in
        let done = does t (did_it t far_is did) far_is refl in
        says_on_list t far_is did refl _ (record {
          asks = subst (λ n. call.Asks t.p n true t.s.course (s' t).course) (reached_is t.now.cpu.changes (changes_are t (did_it t far_is did))) (record { follows = done.follows; come = done.come });
          ready = ready taken h;
          batch = each taken h;
          list = lists taken h;
        })
      where
        batch_says : (b : BatchView J) → TakesBatch t.d t.p most b t.was t.now → (b.count ≡ length b.entries) × (0 < length b.entries) × AreReady most (4 * ended_in t.s.course.standing.history) (s' t).course.standing.history b.entries
        batch_says b h = are_ready most b h (takes t.now.cpu.changes t.p) did

        ready : (taken : Option (BatchView J)) → TakesUp t.d t.p most taken t.was t.now → AreReady most (4 * ended_in t.s.course.standing.history) (s' t).course.standing.history (entries_taken taken)
        ready None h = none_ready most _ _
        ready (Some b) h = (batch_says b h).2

        each : (taken : Option (BatchView J)) → TakesUp t.d t.p most taken t.was t.now → IfSome taken (IsGiven t.p t.s)
        each None h = tt
        each (Some b) h = record {
          is_of = record { tallies = h.of_processor.0 ∙ tallies_are t; processor = h.of_processor.1; there = small };
          some = (batch_says b h).1;
          counted = (batch_says b h).0;
          out = are_out most b h (takes t.now.cpu.changes t.p) did refl;
        }

        lists : (taken : Option (BatchView J)) → TakesUp t.d t.p most taken t.was t.now → OnList t.p (PutsOut far_now most (entries_taken taken)) t.s.lines (s' t).lines
        lists None h = left_then most None t.now.calls h (begins_itself t.now.calls.seen) (takes t.now.cpu.changes t.p) did refl refl
        lists (Some b) h = left_then most (Some b) h.behind h.takes h.since (takes t.now.cpu.changes t.p) did h.own refl

    -- nothing is taken, and why
    none_taken : (why : TakeRefusal) → TakesNothingIn t.p t.was.cpu t.was.calls why t.now.cpu t.now.calls → ActsAs loads t.was t.now → TakesNone t.p why t.s.lines
    none_taken take_refusal.Invoking h did = has_out h did
    none_taken take_refusal.Memory h did = tt

    pub take_says : (most : ℕ) → t.p < t.s.course.standing.processors → (r : Result (Option (BatchView J)) TakeRefusal) → MatchResult r (λ taken. TakesUp t.d t.p most taken t.was t.now) (λ refusal. TakesNothingIn t.p t.was.cpu t.was.calls refusal t.now.cpu t.now.calls)
        → MatchResult r (λ _. ActsAs (takes t.now.cpu.changes t.p) t.was t.now) (λ _. ActsAs loads t.was t.now) → SaysOnList t (MatchResult r (λ taken. Takes t.p most taken t.s (s' t)) (λ why. TakesNone t.p why t.s.lines × (s' t ≡ t.s)))
    take_says most small (Ok taken) h did = taken_says most taken h did small
    take_says most small (Err why) h did = says_on_list t loads did refl _ (none_taken why h did, still t did)

    -- A batch is finished

    module _ (b : BatchView J) (h : FinishesIn (callbacks_of t.d) t.was.calls b t.now.calls) (did : ActsAs (finishes b.processor b.count) t.was t.now) (at : b.processor ≡ t.p) where
      finished_out : OnList b.processor (FinishesOut b.count) t.s.lines (s' t).lines
      finished_out =
          let what = finishes b.processor b.count in
          let f = h.finishes.tally in
          let before = line_before t (did_it t what did) f.before f.since record { rest = _ ∷ []; whole = f.seen } f.own t.p t.inside in
          let mine : h.list.processor ≡ t.p = ap (λ (k : ListKey). k.processor) h.of_calls ∙ at in
          let was : h.list.out ≡ (line_in t.p f.before).out = subst (λ q. h.list.out ≡ (line_in q f.before).out) mine h.finishes.was.out in
          subst (λ q. OnList q (FinishesOut b.count) t.s.lines (s' t).lines) (sym at) (on_list t (did_it t what did) (ap Some at) (FinishesOut b.count) (with_none_out (list_in t.p t.met.deeds))
          (ap in_one (line_now t (did_it t what did) t.p t.inside ∙ (ap (line_in t.p) f.seen ∙ (ap (λ q. line_in t.p (f.before ++ deed t.was.calls.processor (Finish q b.count) ∷ [])) at ∙ (finish_here t.p b.count f.before t.was.calls.processor ∙ ap (λ k. with_none_out k) before)))))
          (ap (λ (k : Line J). k.out) (sym before) ∙ (sym was ∙ h.finishes.was_out), refl))

      pub finish_says : SaysOnList t (Finishes b.processor b.count t.s.course (s' t).course × OnList b.processor (FinishesOut b.count) t.s.lines (s' t).lines)
      finish_says = says_on_list t (finishes b.processor b.count) did refl _ (
        record {
          n = get_or t.s.course.finished t.p 0;
          there = ap (slice_get t.s.course.finished) at ∙ finished_found t t.p t.inside;
          finishes_are = subst (λ q. CourseDoes q (finishes b.processor b.count) t.s.course (s' t).course) (sym at) (does t (did_it t (finishes b.processor b.count) did) (finishes b.processor b.count) refl);
        },
        finished_out,
      )

  module _ (t : Hand J) (did : ActsAs loads t.was t.now) where
    -- what was found is of just what was done
    found_lens : (found : List ℕ × List ℕ) → FindsLensIn t.p t.was.calls found t.now.calls → TellsLens t.p t.s.lines found
    found_lens found h =
        let same : line_in t.p t.now.calls.seen ≡ line_in t.p t.met.deeds = sym (line_now t (did_it t loads did) t.p t.inside) ∙ line_quiet t (did_it t loads did) refl t.p t.inside in
        let queued = subst (λ q. queued_in q t.was.calls.seen ≡ queued_in q t.now.calls.seen) (own_number t) (sym (looked_queued t.p t.was.calls t.now.calls h.looks)) in
        let all = gathered_whole (line_in t.p t.now.calls.seen) h.moved (moved_all t.p h.moved t.was.calls.seen t.now.calls.seen h.looks.loads h.all queued) in
        record { list = list_in t.p t.met.deeds; there = line_found t t.p t.inside; told_is = h.found_is ∙ ap (λ (k : Line J). (lens k.waiting, numbers k.waiting)) (all ∙ ap in_one same) }

    pub lens_says : {E : Type 0} (r : Result (List ℕ × List ℕ) E) → MatchResult r (λ found. FindsLensIn t.p t.was.calls found t.now.calls) (λ _. LacksRoomIn t.p t.was.calls t.now.calls) → Says t ((s' t ≡ t.s) × IfOk r (TellsLens t.p t.s.lines))
    lens_says (Ok found) h = says t loads did refl refl _ (still t did, found_lens found h)
    lens_says (Err e) h = says t loads did refl refl _ (still t did, tt)
