-- Calls of a processor act: from what a call says of its seats to its act.
use Rattle.std.proofs.Common.{◌≡◌, ◌≢◌, ℕ, suc, ◌+◌, ◌*◌, ◌≤◌, cond, if◌then◌else◌, map, inl, inr, Bool, true, false, List, [], ◌∷◌, ◌++◌, refl, sym, ap, ◌∙◌, subst, append-nil, append_assoc, arith, eq-eqb, ne_eqb}
use Rattle.std.specs.Prelude.{Option, Some, None, MatchOption, Result, Ok, Err, MatchResult}
use Rattle.std.proofs.lemmas.List.{map-append}
use mathlib.Core.Logic.{dite}
use native.Mathlib.Decide.{ℕ_discrete}
use Rattle.sseq.specs.Numbers.{periods_ended, cookie_at}
use Rattle.onedom.specs.declared.event.Maker.TheVariants.{Processor, Engine}
use Rattle.onedom.specs.declared.event.Event.{Event}
use Rattle.onedom.specs.declared.event.Event.TheVariants.{Begin, End, Note, Ask, Find, Put}
use Rattle.onedom.specs.Histories.{is_start, is_finish, starts_in, ended_in, maker_of, same_maker, IsBeginning}
use Rattle.onedom.proofs.CallerLemmas.{bit, beginning_refl, beginning_append, beginning_trans, starts_in_push, ended_in_push, made_by_other, made_by_own, same_maker_refl}
use Rattle.sections.specs.declared.view.Step.{Step}
use Rattle.sections.specs.declared.view.Text.{Text}
use Rattle.sections.specs.declared.cpu.Exhausted.{Exhausted}
use Rattle.sections.specs.declared.cpu.NotACookie.{NotACookie}
use Rattle.sections.specs.Views as sections
use Rattle.sections.specs.Glossary.{LookView, ReadingView, CookieView, FoundView, SightView, MemberView, polled, PollsOne, brought_by, WriterView, PutsSlot, Finds, IsSameCpu, Loads, AddsEvent, Begins, LooksAndBegins, LooksInVain, IsExhausted, Enters, GivesCookie, Asks, IsNoCookie, Ties, Hears as HearsCpu}
use Rattle.sections.specs.Sets.{CatchesUp}
use Rattle.sections.specs.Calls.{Accepts}
use Rattle.funnel.specs.declared.view.Holder.{Holder}
use Rattle.funnel.specs.declared.view.Holder.TheVariants as holder
use Rattle.funnel.specs.declared.view.Raise.{Raise}
use Rattle.funnel.specs.declared.seat.Level.{Level}
use Rattle.funnel.specs.Glossary.{leaf_of, greatest, raised_by, climb_from, FunnelView, LoadsRoot}
use Rattle.funnel.specs.Calls as tree
use Rattle.funnel.proofs.CallerLemmas as climbs
use Rattle.calls.specs.declared.refusals.CallRefusal.{CallRefusal}
use Rattle.calls.specs.declared.refusals.CallRefusal.TheVariants as calling
use Rattle.calls.specs.declared.refusals.TakeRefusal.{TakeRefusal}
use Rattle.calls.specs.declared.refusals.TakeRefusal.TheVariants as refused
use Rattle.calls.specs.declared.view.Act as does
use Rattle.calls.specs.declared.entry.Entry.{Entry}
use Rattle.calls.specs.declared.view.Act.TheVariants.{Queue, Take, Finish, LackRoom, LoadQueued}
use Rattle.calls.specs.declared.view.Deed.{Deed}
use Rattle.calls.specs.Glossary.{Line, with_call, gathered, with_taken, with_none_out, next_line, line_from, deed, queued_in, finished_in, deeds_of, CallSeatView, ListKey, CallsView, BatchView, TicketView, ReceiptView, IsCause, QueuesIn, RefusesIn, TakesIn, TakesNothingIn, FinishesIn, LooksAt, LacksRoomIn, FindsLensIn, queued_loads, finished_loads, Hears, Covers, SeesOut}
use Rattle.calls.specs.Calls.{Does}
use Rattle.calls.specs.Barriers as barriers
use Rattle.calls.proofs.CallerLemmas.{begins_itself, begins_on, deeds_append}
use Rattle.domain.specs.Glossary.{CpuView, with_cpu, with_calls, rows_of_loads, PollsUntilDone, Act, makes, loads, begins, ends, notes, asks_whether, takes, asks_for, finishes, finds, puts, PutsAndThen, MakesEvents, GoesOn, Adds, AreOf, AskFor, Count, Acts, ActsAs, QueuesNone}

-- At the domain's words

-- no event was made
pub made_none : (c c' : sections.CpuView) → IsSameCpu c c' → c'.mine ≡ c.mine → IsBeginning c.seen c'.seen → c.changes ≤ c'.changes → MakesEvents [] c c'
made_none c c' same mine since later = record { same = same; others = []; since = subst (λ l. IsBeginning l c'.seen) (sym (append-nil c.seen)) since; mine = mine ∙ sym (append-nil c.mine); later = later }

loads_make : (l : Step) (c c' : sections.CpuView) → Loads l c c' → MakesEvents [] c c'
loads_make l c c' h = made_none c c' h.same h.mine h.since h.later

none_made : (c c' : sections.CpuView) → c' ≡ c → MakesEvents [] c c'
none_made c c' is = subst (λ (x : sections.CpuView). MakesEvents [] c x) (sym is) (made_none c c (refl, refl, refl, refl) refl (beginning_refl c.seen) (omega arith))

-- an event was made, behind loads
made_behind : {other : List Event} {reached : ℕ} {e : Event} (c m c' : sections.CpuView) → IsSameCpu c m → m.mine ≡ c.mine → IsBeginning c.seen m.seen → c.changes ≤ m.changes → AddsEvent other reached e m c' → MakesEvents (e ∷ []) c c'
made_behind {other} {reached} {e} c m c' same mine before later h =
    let since = beginning_trans before h.since in record {
      same = (h.same.0 ∙ same.0, h.same.1 ∙ same.1, h.same.2 ∙ same.2, h.same.3 ∙ same.3);
      others = since.rest;
      since = subst (λ l. IsBeginning l c'.seen) (h.seen ∙ (ap (λ l. l ++ e ∷ []) since.whole ∙ append_assoc c.seen since.rest (e ∷ []))) (beginning_refl c'.seen);
      mine = h.mine ∙ ap (λ l. l ++ e ∷ []) mine;
      later = (let more = h.later in omega (arith, later, more));
    }

one_made : {other : List Event} {reached : ℕ} {e : Event} (c c' : sections.CpuView) → AddsEvent other reached e c c' → MakesEvents (e ∷ []) c c'
one_made c c' h = made_behind c c c' (refl, refl, refl, refl) refl (beginning_refl c.seen) (omega arith) h

none_of : (p : ℕ) → AreOf p []
none_of p = record { own = refl; others = λ k other. refl; engine = refl; quiet = λ history. (ap starts_in (append-nil history), ap ended_in (append-nil history)) }

one_of : (p : ℕ) (e : Event) → maker_of e ≡ Processor p → is_start e ≡ false → is_finish e ≡ false → AreOf p (e ∷ [])
one_of p e is starts ends = record {
  own = made_by_own (Processor p) [] e (ap (λ m. same_maker m (Processor p)) is ∙ same_maker_refl (Processor p));
  others = λ k other. made_by_other (Processor k) [] e (ap (λ m. same_maker m (Processor k)) is ∙ ne_eqb p k (λ x. other (sym x)));
  engine = made_by_other Engine [] e (ap (λ m. same_maker m Engine) is);
  quiet = λ history.
      let first = starts_in_push history e in let no_start = ap bit starts in
      let second = ended_in_push history e in let no_end = ap bit ends in
      (omega (arith, first, no_start), omega (arith, second, no_end));
}

-- At the tree

pub stays : (e f : FunnelView) → f ≡ e → GoesOn [] e f
stays e f is = subst (λ (z : FunnelView). GoesOn [] e z) (sym is) record { same = record { domain = refl; shape = refl; holder = refl }; since = climbs.begins_itself e.seen; mine = sym (append-nil e.mine) }

pub goes_further : (e f h : FunnelView) → GoesOn [] e f → GoesOn [] f h → GoesOn [] e h
goes_further e f h a b = record {
  same = record { domain = b.same.domain ∙ a.same.domain; shape = b.same.shape ∙ a.same.shape; holder = b.same.holder ∙ a.same.holder };
  since = climbs.begins_on a.since b.since;
  mine = b.mine ∙ (append-nil f.mine ∙ a.mine);
}

asks_nothing : (p : ℕ) (by : Holder) (events : List Event) (queued finished owner : ℕ) (list : Option ℕ) → AskFor p by (record { events = events; asked = 0; queued = queued; finished = finished; owner = owner; list = list }) []
asks_nothing p by events queued finished owner list = record { own = λ q is. refl; others = λ q other. refl; greatest_is = λ before. let none = ap greatest (append-nil before) in omega (arith, none); cookie = inl refl }

abbrev number_of : Holder → ℕ
number_of (holder.Processor q) = q
number_of holder.Engine = 0

-- the seat's own processor asks for a number
module _ (n : ℕ) (v w : FunnelView) (level : Level) (h : tree.Asks n v level w) where
  abbrev climb : List Raise
  climb = climb_from h.processor n (leaf_of v.shape.nodes h.processor) level.nodes

  climb_on : GoesOn climb v w
  climb_on = record { same = h.same; since = climbs.begins_on h.since (record { rest = _ ∷ []; whole = h.seen }); mine = h.mine }

  climb_asks : (p queued : ℕ) → AskFor p v.holder (asks_for n queued p) climb
  climb_asks p queued = record {
    own = λ q is. subst (λ k. raised_by k climb ≡ climb) (ap number_of (sym h.asker ∙ is)) (climbs.climb_is_own h.processor n (leaf_of v.shape.nodes h.processor) level.nodes);
    others = λ q other. climbs.climb_of_no_other h.processor n (leaf_of v.shape.nodes h.processor) level.nodes q (λ same. other (h.asker ∙ ap holder.Processor (sym same)));
    greatest_is = λ before.
        let some : level.nodes ≡ suc h.above = (let nodes = h.nodes in omega (arith, nodes)) in
        ap (λ m. greatest (before ++ climb_from h.processor n (leaf_of v.shape.nodes h.processor) m)) some ∙ climbs.greatest_climbed h.processor n (leaf_of v.shape.nodes h.processor) h.above before;
    cookie = inr refl;
  }

-- At the tally words

module _ {J : Type 0} where
  -- nothing was done there
  pub adds_none : (s t : CallSeatView J) → t ≡ s → Adds [] s t
  adds_none s t is = subst (λ (z : CallSeatView J). Adds [] s z) (sym is) (record { same = (refl, refl, refl, refl); since = begins_itself s.seen; own = sym (append-nil (deeds_of s.processor s.seen)) })

  pub adds_deed : (act : does.Act J) (s t : CallSeatView J) → Does act s t → Adds (deed s.processor act ∷ []) s t
  adds_deed act s t h =
      let p : ℕ = s.processor in
      let d : Deed J = deed s.processor act in record {
        same = h.same;
        since = begins_on h.since (record { rest = d ∷ []; whole = h.seen });
        own = ap (deeds_of p) h.seen ∙ (deeds_append p h.before (d ∷ []) ∙ (ap (λ l. l ++ deeds_of p (d ∷ [])) h.own ∙ ap (λ b. deeds_of p s.seen ++ cond b (d ∷ []) []) (eq-eqb p p refl)));
      }

  pub adds_loads : (acts : List (does.Act J)) (s t : CallSeatView J) → barriers.Loads acts s t → Adds (map (deed s.processor) acts) s t
  adds_loads acts s t h = record { same = h.same; since = h.since; own = h.own }

  -- a load that is no deed
  pub adds_seen : (other : List (Deed J)) (s t : CallSeatView J) → Covers s other t → Adds [] s t
  adds_seen other s t h = record {
    same = (ap (λ (z : CallSeatView J). z.tallies) h.same, ap (λ (z : CallSeatView J). z.processors) h.same, ap (λ (z : CallSeatView J). z.processor) h.same, ap (λ (z : CallSeatView J). z.domain) h.same);
    since = h.since;
    own = h.own ∙ sym (append-nil (deeds_of s.processor s.seen));
  }

  -- no call was queued, none finished, and no list changed
  pub record CountsNothing (act : List (Deed J)) : Type 0 where
    pub queued : (q : ℕ) → queued_in q act ≡ 0
    pub finished : (q : ℕ) → finished_in q act ≡ 0
    pub lists : (q : ℕ) (l : Line J) → line_from q l act ≡ l

module _ {J : Type 0} where
  pub nothing_done : CountsNothing {J = J} []
  nothing_done = record { queued = λ q. refl; finished = λ q. refl; lists = λ q l. refl }

  pub queued_loads_count : (by k : ℕ) (ns : List ℕ) → CountsNothing {J = J} (map (deed by) (queued_loads k ns))
  queued_loads_count by k [] = nothing_done
  queued_loads_count by k (n ∷ ns) = let rest = queued_loads_count by (k + 1) ns in record { queued = λ q. let none = rest.queued q in omega (arith, none); finished = λ q. let none = rest.finished q in omega (arith, none); lists = λ q l. rest.lists q l }

  pub finished_loads_count : (by k : ℕ) (ns : List ℕ) → CountsNothing {J = J} (map (deed by) (finished_loads k ns))
  finished_loads_count by k [] = nothing_done
  finished_loads_count by k (n ∷ ns) = let rest = finished_loads_count by (k + 1) ns in record { queued = λ q. let none = rest.queued q in omega (arith, none); finished = λ q. let none = rest.finished q in omega (arith, none); lists = λ q l. rest.lists q l }

module _ {J : Type 0} where
  pub queued_append : (p : ℕ) (a b : List (Deed J)) → queued_in p (a ++ b) ≡ queued_in p a + queued_in p b
  queued_append p [] b = omega arith
  queued_append p (x ∷ xs) b = let r = queued_append p xs b in omega (arith, r)

  pub finished_append : (p : ℕ) (a b : List (Deed J)) → finished_in p (a ++ b) ≡ finished_in p a + finished_in p b
  finished_append p [] b = omega arith
  finished_append p (x ∷ xs) b = let r = finished_append p xs b in omega (arith, r)

  pub lists_append : (q : ℕ) (l : Line J) (a b : List (Deed J)) → line_from q l (a ++ b) ≡ line_from q (line_from q l a) b
  lists_append q l [] b = refl
  lists_append q l (x ∷ xs) b = lists_append q (next_line q x.by x.act l) xs b

  pub both_count : (a b : List (Deed J)) → CountsNothing a → CountsNothing b → CountsNothing (a ++ b)
  both_count a b first second = record {
    queued = λ q. let cut = queued_append q a b in let f = first.queued q in let s = second.queued q in omega (arith, cut, f, s);
    finished = λ q. let cut = finished_append q a b in let f = first.finished q in let s = second.finished q in omega (arith, cut, f, s);
    lists = λ q l. lists_append q l a b ∙ (ap (λ z. line_from q z b) (first.lists q l) ∙ second.lists q l);
  }

module _ {J : Type 0} where
  pub rows_count : (by : ℕ) (found : List (List ℕ)) → CountsNothing {J = J} (map (deed by) (rows_of_loads found))
  rows_count by [] = nothing_done
  rows_count by (ns ∷ more) = subst (λ l. CountsNothing l) (sym (map-append (deed by) (finished_loads 0 ns) (rows_of_loads more)))
      (both_count (map (deed by) (finished_loads 0 ns)) (map (deed by) (rows_of_loads more)) (finished_loads_count by 0 ns) (rows_count by more))

module _ {J : Type 0} where
  counts_nothing : (p : ℕ) (events : List Event) (asked : ℕ) (deeds : List (Deed J)) → CountsNothing deeds → Count p (record { events = events; asked = asked; queued = 0; finished = 0; owner = 0; list = None }) deeds
  counts_nothing p events asked deeds none = record { queued = none.queued p; finished = none.finished 0; others = λ q other. none.finished q; lists = λ q other l. none.lists q l }

module _ (J : Type 0) where
  queued_one : (p : ℕ) (e : Entry J) → queued_in p (deed p (Queue e) ∷ []) ≡ 1
  queued_one p e = ap (λ b. (if b then 1 else 0) + 0) (eq-eqb p p refl)

  finished_here : (by p n : ℕ) → finished_in {J = J} p (deed by (Finish p n) ∷ []) ≡ n
  finished_here by p n = let one : finished_in {J = J} p (deed by (Finish p n) ∷ []) ≡ n + 0 = ap (λ b. (if b then n else 0) + 0) (eq-eqb p p refl) in omega (arith, one)

  finished_else : (by p n q : ℕ) → q ≢ p → finished_in {J = J} q (deed by (Finish p n) ∷ []) ≡ 0
  finished_else by p n q other = ap (λ b. (if b then n else 0) + 0) (ne_eqb p q (λ e. other (sym e)))

  -- another processor's list stays as it is
  queued_off : (p q : ℕ) (e : Entry J) (l : Line J) → q ≢ p → line_from q l (deed p (Queue e) ∷ []) ≡ l
  queued_off p q e l other = ap (λ (b : Bool). if b then with_call e l else l) (ne_eqb p q (λ same. other (sym same)))

  taken_off : (by p number most moved q : ℕ) (l : Line J) → q ≢ p → line_from q l (deed by (Take p number most moved) ∷ []) ≡ l
  taken_off by p number most moved q l other = ap (λ (b : Bool). if b then with_taken number most (gathered moved l) else l) (ne_eqb p q (λ same. other (sym same)))

  finished_off : (by p n q : ℕ) (l : Line J) → q ≢ p → line_from q l (deed by (Finish p n) ∷ []) ≡ l
  finished_off by p n q l other = ap (λ (b : Bool). if b then with_none_out l else l) (ne_eqb p q (λ same. other (sym same)))

-- A call at the domain's words

module _ {J : Type 0} (c c' : CpuView J) (rest : c' ≡ with_cpu c'.cpu c) where
  quietly : (p : ℕ) (events : List Event) → MakesEvents events c.cpu c'.cpu → AreOf p events → Acts p (record { events = events; asked = 0; queued = 0; finished = 0; owner = 0; list = None }) c c'
  quietly p events made of = record {
    events = made;
    are_of = of;
    raised = [];
    needs = stays c.needs c'.needs (ap (λ (x : CpuView J). x.needs) rest);
    ask_for = asks_nothing p c.needs.holder events 0 0 0 None;
    deeds = [];
    adds = adds_none c.calls c'.calls (ap (λ (x : CpuView J). x.calls) rest);
    count = counts_nothing p events 0 [] nothing_done;
    turn = ap (λ (x : CpuView J). x.turn) rest;
  }

  pub does_nothing : MakesEvents [] c.cpu c'.cpu → ActsAs loads c c'
  does_nothing made = quietly c.cpu.processor [] made (none_of c.cpu.processor)

  pub loads_once : {l : Step} → Loads l c.cpu c'.cpu → ActsAs loads c c'
  loads_once {l} h = does_nothing (loads_make l c.cpu c'.cpu h)

  pub still : c'.cpu ≡ c.cpu → ActsAs loads c c'
  still is = does_nothing (none_made c.cpu c'.cpu is)

  -- just what another has seen is then seen
  pub accepts_all : {all : List Event} {reached : ℕ} {known : List Text} → IsBeginning c.cpu.seen all → c.cpu.changes ≤ reached → Accepts c.cpu all reached known c'.cpu → ActsAs loads c c'
  accepts_all since later h = does_nothing (made_none c.cpu c'.cpu h.same h.mine (subst (λ l. IsBeginning c.cpu.seen l) (sym h.seen) since) (let n = h.changes in omega (arith, later, n)))

  pub tie_acts : {first first' : sections.CpuView} → Ties first c.cpu first' c'.cpu → ActsAs loads c c'
  tie_acts {first} {first'} h = accepts_all (subst (λ l. IsBeginning c.cpu.seen l) h.accepts.seen h.since) (let late = h.later in let n = h.accepts.changes in omega (arith, late, n)) h.accepts

  makes_one : (e : Event) → MakesEvents (e ∷ []) c.cpu c'.cpu → maker_of e ≡ Processor c.cpu.processor → is_start e ≡ false → is_finish e ≡ false → Acts c.cpu.processor (makes e) c c'
  makes_one e made by starts ends = quietly c.cpu.processor (e ∷ []) made (one_of c.cpu.processor e by starts ends)

  -- Sections

  -- one begins, behind loads
  begun : (kind : Bool) (m : sections.CpuView) (look : LookView) (r : ReadingView) → IsSameCpu c.cpu m → m.mine ≡ c.cpu.mine → IsBeginning c.cpu.seen m.seen → c.cpu.changes ≤ m.changes → Begins kind m look c'.cpu r → ActsAs (begins r.section r.index) c c'
  begun kind m look r same mine before later h =
      let here = same.3 in
      let e : Event = Begin h.section m.processor look.index (Processor m.processor) in
      let is : e ≡ Begin r.section c.cpu.processor r.index (Processor c.cpu.processor) = λ i. Begin (ap (λ (x : ReadingView). x.section) (sym h.reading) i) (here i) (ap (λ (x : ReadingView). x.index) (sym h.reading) i) (Processor (here i)) in
      subst (λ x. Acts c.cpu.processor (makes x) c c') is (makes_one e (made_behind c.cpu m c'.cpu same mine before later h.adds) (ap Processor here) refl refl)

  pub enter_acts : (look : LookView) (taken : Result ReadingView Exhausted) → MatchResult taken (λ r. Enters c.cpu look c'.cpu r) (λ _. IsExhausted c.cpu look.index × (c'.cpu ≡ c.cpu)) → MatchResult taken (λ r. ActsAs (begins r.section r.index) c c') (λ _. ActsAs loads c c')
  enter_acts look (Ok r) h = begun false c.cpu look r (refl, refl, refl, refl) refl (beginning_refl c.cpu.seen) (omega arith) h
  enter_acts look (Err x) h = still h.1

  pub lock_acts : (kind : Bool) (taken : Result ReadingView Exhausted) → MatchResult taken (λ r. LooksAndBegins kind c.cpu c'.cpu r) (λ _. LooksInVain c.cpu c'.cpu) → MatchResult taken (λ r. ActsAs (begins r.section r.index) c c') (λ _. ActsAs loads c c')
  lock_acts kind (Ok r) h = let l = h.looks.load in begun kind h.between h.look r l.same l.mine l.since l.later h.enters
  lock_acts kind (Err x) h = loads_once h.looks.load

  pub end_acts : {other : List Event} {reached section : ℕ} → AddsEvent other reached (End section c.cpu.processor (Processor c.cpu.processor)) c.cpu c'.cpu → ActsAs (ends section) c c'
  end_acts {other} {reached} {section} h = makes_one (End section c.cpu.processor (Processor c.cpu.processor)) (one_made c.cpu c'.cpu h) refl refl refl

  -- Cookies

  pub note_acts : {other : List Event} {reached cookie : ℕ} → AddsEvent other reached (Note cookie (Processor c.cpu.processor)) c.cpu c'.cpu → ActsAs (notes cookie) c c'
  note_acts {other} {reached} {cookie} h = makes_one (Note cookie (Processor c.cpu.processor)) (one_made c.cpu c'.cpu h) refl refl refl

  pub cookie_acts : (cookie : CookieView) → GivesCookie c.cpu c'.cpu cookie → ActsAs (notes cookie.number) c c'
  cookie_acts cookie h = subst (λ n. ActsAs (notes n) c c') (ap (λ (x : CookieView). x.number) (sym h.cookie_is)) (note_acts h.notes.adds)

  pub ask_acts : {other : List Event} {reached cookie : ℕ} {done : Bool} → AddsEvent other reached (Ask cookie done (Processor c.cpu.processor)) c.cpu c'.cpu → ActsAs (asks_whether cookie done) c c'
  ask_acts {other} {reached} {cookie} {done} h = makes_one (Ask cookie done (Processor c.cpu.processor)) (one_made c.cpu c'.cpu h) refl refl refl

  pub poll_acts : (cookie : ℕ) (taken : Result Bool NotACookie) → MatchResult taken (λ done. Asks c.cpu.seen c.cpu.changes cookie done c.cpu c'.cpu) (λ _. IsNoCookie cookie × (c'.cpu ≡ c.cpu)) → MatchResult taken (λ done. ActsAs (asks_whether cookie done) c c') (λ _. ActsAs loads c c')
  poll_acts cookie (Ok done) h = ask_acts h.adds
  poll_acts cookie (Err x) h = still h.1

  -- of a member that was found done before, nothing is asked
  member_acts : (X Y Z : Type 0) (k : CookieView) (done : Bool) (found : Option SightView) → MatchOption found (Asks k.seen k.changes k.number done c.cpu c'.cpu × X) (λ _. Y × Z × (c'.cpu ≡ c.cpu))
      → MatchOption found (ActsAs (asks_whether k.number done) c c') (λ _. ActsAs loads c c')
  member_acts X Y Z k done None h = ask_acts h.0.adds
  member_acts X Y Z k done (Some s) h = still h.2

  pub set_acts : (done : Bool) (m m' : MemberView) → PollsOne done m c.cpu m' c'.cpu → MatchOption m.found (ActsAs (asks_whether m.cookie.number done) c c') (λ _. ActsAs loads c c')
  set_acts done m m' h = member_acts (m' ≡ polled done m c'.cpu) (done ≡ true) (m' ≡ m) m.cookie done m.found h

  -- a processor that catches up with a member loads at most
  brings_acts : (brought : Option SightView) → MatchOption brought (c'.cpu ≡ c.cpu) (λ s. HearsCpu c.cpu s.seen s.changes c'.cpu) → ActsAs loads c c'
  brings_acts None h = still h
  brings_acts (Some s) h = loads_once h.looks

  pub catch_acts : {m : MemberView} → CatchesUp m c.cpu c'.cpu → ActsAs loads c c'
  catch_acts {m} h = brings_acts (brought_by m) h.hears

  -- Versions

  pub find_acts : {cell : ℕ} {r : ReadingView} {f : FoundView} → Finds cell r c.cpu c'.cpu f → ActsAs (finds r.section cell f) c c'
  find_acts {cell} {r} {f} h = makes_one (Find r.section cell f.slot f.version (Processor c.cpu.processor)) (one_made c.cpu c'.cpu h.adds) refl refl refl

-- A call at the tally words

module _ {J : Type 0} (c c' : CpuView J) (rest : c' ≡ with_calls c'.calls c) where
  does_deeds : (p finished owner : ℕ) (list : Option ℕ) (deeds : List (Deed J)) → Adds deeds c.calls c'.calls → Count p (record (finishes owner finished p) { list = list }) deeds → Acts p (record (finishes owner finished p) { list = list }) c c'
  does_deeds p finished owner list deeds adds count = record {
    events = none_made c.cpu c'.cpu (ap (λ (x : CpuView J). x.cpu) rest);
    are_of = none_of p;
    raised = [];
    needs = stays c.needs c'.needs (ap (λ (x : CpuView J). x.needs) rest);
    ask_for = asks_nothing p c.needs.holder [] 0 finished owner list;
    deeds = deeds;
    adds = adds;
    count = count;
    turn = ap (λ (x : CpuView J). x.turn) rest;
  }

  pub loads_deeds : (deeds : List (Deed J)) → Adds deeds c.calls c'.calls → CountsNothing deeds → ActsAs loads c c'
  loads_deeds deeds adds none = does_deeds c.cpu.processor 0 0 None deeds adds (counts_nothing c.cpu.processor [] 0 deeds none)

  pub finish_acts : (k : CallsView) (b : BatchView J) → FinishesIn k c.calls b c'.calls → ActsAs (finishes b.processor b.count) c c'
  finish_acts k b h =
      let by = c.calls.processor in
      does_deeds c.cpu.processor b.count b.processor (Some b.processor) (deed by (Finish b.processor b.count) ∷ []) (adds_deed (Finish b.processor b.count) c.calls c'.calls h.finishes.tally)
      (record { queued = refl; finished = finished_here J by b.processor b.count; others = λ q other. finished_else J by b.processor b.count q other; lists = λ q away l. finished_off J by b.processor b.count q l (λ same. away (ap Some (sym same))) })

  pub out_acts : {b : BatchView J} → SeesOut b c.calls c'.calls → ActsAs loads c c'
  out_acts h = loads_deeds [] (adds_seen h.moment c.calls c'.calls h.covers) nothing_done

  -- a queued word is loaded
  pub looks_acts : {p : ℕ} → LooksAt p c.calls c'.calls → ActsAs loads c c'
  looks_acts {p} h = loads_deeds (deed c.calls.processor (LoadQueued p h.found) ∷ []) (record { same = h.same; since = h.since; own = h.own }) (record { queued = λ q. refl; finished = λ q. refl; lists = λ q l. refl })

  -- a call had no room in a list, which is noted
  pub lack_acts : {p : ℕ} → LacksRoomIn p c.calls c'.calls → ActsAs loads c c'
  lack_acts {p} h = loads_deeds _ (adds_deed (LackRoom p h.moved) c.calls c'.calls h.does) (record { queued = λ q. refl; finished = λ q. refl; lists = λ q l. refl })

  pub lens_acts : {E : Type 0} (p : ℕ) (r : Result (List ℕ × List ℕ) E) → MatchResult r (λ found. FindsLensIn p c.calls found c'.calls) (λ _. LacksRoomIn p c.calls c'.calls) → ActsAs loads c c'
  lens_acts p (Ok found) h = looks_acts h.looks
  lens_acts p (Err e) h = lack_acts h

  pub hear_acts : {r : ReceiptView J} → Hears r c.calls c'.calls → ActsAs loads c c'
  hear_acts {r} h = loads_deeds _ (adds_deed (LoadQueued r.processor h.found) c.calls c'.calls h.does) (record { queued = λ q. refl; finished = λ q. refl; lists = λ q l. refl })

  pub barrier_acts : {E : Type 0} (r : Result TicketView E) → MatchResult r (λ ticket. barriers.Starts c.calls ticket c'.calls) (λ _. c'.calls ≡ c.calls) → ActsAs loads c c'
  barrier_acts (Ok t) h = loads_deeds _ (adds_loads (queued_loads 0 t.numbers) c.calls c'.calls h.loads) (queued_loads_count c.calls.processor 0 t.numbers)
  barrier_acts (Err e) h = loads_deeds [] (adds_none c.calls c'.calls h) nothing_done

  pub barrier_polls : {t : TicketView} {done : Bool} → barriers.Polls t c.calls done c'.calls → ActsAs loads c c'
  barrier_polls h = loads_deeds _ (adds_loads (finished_loads 0 h.found) c.calls c'.calls h.loads) (finished_loads_count c.calls.processor 0 h.found)

  pub barrier_waits : {t : TicketView} → PollsUntilDone t c.calls c'.calls → ActsAs loads c c'
  barrier_waits h = loads_deeds _ (adds_loads (rows_of_loads h.found) c.calls c'.calls h.loads) (rows_count c.calls.processor h.found)

-- Jobs are taken

module _ {J : Type 0} (c c' : CpuView J) (rest : c' ≡ with_calls c'.calls (with_cpu c'.cpu c)) where
  takes_out : (k : CallsView) (processor most : ℕ) (taken : Option (BatchView J)) → TakesIn k processor most c.cpu c.calls taken c'.cpu c'.calls → ActsAs (takes c'.cpu.changes processor) c c'
  takes_out k processor most taken h =
      let g = h.takes.gives in
      let p : ℕ = c.cpu.processor in
      let act : does.Act J = Take h.list.processor g.number most h.list.moved in
      let e : Event = Ask (4 * periods_ended g.number) true (Processor p) in
      let own : h.list.processor ≡ processor = ap (λ (z : ListKey). z.processor) h.of_calls in
      subst (λ n. ActsAs (λ q. record (asks_whether (4 * periods_ended n) true q) { list = Some processor }) c c') g.asks.current record {
        events = one_made c.cpu c'.cpu g.asks.adds;
        are_of = one_of p e refl refl refl;
        raised = [];
        needs = stays c.needs c'.needs (ap (λ (x : CpuView J). x.needs) rest);
        ask_for = asks_nothing p c.needs.holder (e ∷ []) 0 0 0 (Some processor);
        deeds = deed c.calls.processor act ∷ [];
        adds = adds_deed act c.calls c'.calls g.tally;
        count = record { queued = refl; finished = refl; others = λ q other. refl; lists = λ q away l. taken_off J c.calls.processor h.list.processor g.number most h.list.moved q l (λ same. away (ap Some (sym (same ∙ own)))) };
        turn = ap (λ (x : CpuView J). x.turn) rest;
      }

  with_calls_alone : c'.cpu ≡ c.cpu → c' ≡ with_calls c'.calls c
  with_calls_alone is = rest ∙ ap (λ (z : sections.CpuView). with_calls c'.calls (with_cpu z c)) is

  pub take_acts : (k : CallsView) (processor most : ℕ) (r : Result (Option (BatchView J)) TakeRefusal) → MatchResult r (λ taken. TakesIn k processor most c.cpu c.calls taken c'.cpu c'.calls) (λ refusal. TakesNothingIn processor c.cpu c.calls refusal c'.cpu c'.calls)
      → MatchResult r (λ _. ActsAs (takes c'.cpu.changes processor) c c') (λ _. ActsAs loads c c')
  take_acts k processor most (Ok taken) h = takes_out k processor most taken h
  take_acts k processor most (Err refused.Invoking) h = looks_acts c c' (with_calls_alone h.cpu) h.looks
  take_acts k processor most (Err refused.Memory) h = lack_acts c c' (with_calls_alone h.0) h.1

-- The root is loaded

module _ {J : Type 0} where
  pub need_acts : {need : ℕ} (c c' : CpuView J) → LoadsRoot c.needs need c'.needs → c' ≡ record c { needs = c'.needs } → ActsAs loads c c'
  need_acts c c' h rest = record {
    events = none_made c.cpu c'.cpu (ap (λ (x : CpuView J). x.cpu) rest);
    are_of = none_of c.cpu.processor;
    raised = [];
    needs = record { same = h.same; since = h.since; mine = h.mine ∙ sym (append-nil c.needs.mine) };
    ask_for = asks_nothing c.cpu.processor c.needs.holder [] 0 0 0 None;
    deeds = [];
    adds = adds_none c.calls c'.calls (ap (λ (x : CpuView J). x.calls) rest);
    count = counts_nothing c.cpu.processor [] 0 [] nothing_done;
    turn = ap (λ (x : CpuView J). x.turn) rest;
  }

-- A cookie is given and asked for, and perhaps a job is queued

module _ {J : Type 0} (c c' : CpuView J) (cookie : ℕ) (level : Level) (h : tree.Asks cookie c.needs level c'.needs) (turn : c'.turn ≡ c.turn) (made : MakesEvents (Note cookie (Processor c.cpu.processor) ∷ []) c.cpu c'.cpu) where
  asked_for : (queued : ℕ) (deeds : List (Deed J)) → Adds deeds c.calls c'.calls → Count c.cpu.processor (asks_for cookie queued c.cpu.processor) deeds → ActsAs (asks_for cookie queued) c c'
  asked_for queued deeds adds count = record {
    events = made;
    are_of = one_of c.cpu.processor (Note cookie (Processor c.cpu.processor)) refl refl refl;
    raised = climb cookie c.needs c'.needs level h;
    needs = climb_on cookie c.needs c'.needs level h;
    ask_for = climb_asks cookie c.needs c'.needs level h c.cpu.processor queued;
    deeds = deeds;
    adds = adds;
    count = count;
    turn = turn;
  }

-- the event of a cookie
noted : (c c' : sections.CpuView) (cookie : CookieView) (number : ℕ) (other : List Event) (reached : ℕ) → cookie ≡ record { domain = c.domain; number = cookie_at number; seen = c'.seen; changes = c'.changes }
    → AddsEvent other reached (Note (cookie_at number) (Processor c.processor)) c c' → MakesEvents (Note cookie.number (Processor c.processor) ∷ []) c c'
noted c c' cookie number other reached is adds = subst (λ n. MakesEvents (Note n (Processor c.processor) ∷ []) c c') (ap (λ (x : CookieView). x.number) (sym is)) (one_made c c' adds)

module _ {J : Type 0} where
  pub start_acts : (c c' : CpuView J) (cookie : CookieView) → GivesCookie c.cpu c'.cpu cookie → (n : ℕ) → n ≡ cookie.number → (level : Level) → tree.Asks n c.needs level c'.needs → c'.turn ≡ c.turn → c'.calls ≡ c.calls → ActsAs (asks_for cookie.number 0) c c'
  start_acts c c' cookie gives n is level asks turn calls = asked_for c c' cookie.number level (subst (λ m. tree.Asks m c.needs level c'.needs) is asks) turn
      (noted c.cpu c'.cpu cookie gives.number _ _ gives.cookie_is gives.notes.adds) 0 [] (adds_none c.calls c'.calls calls) (record { queued = refl; finished = refl; others = λ q other. refl; lists = λ q away l. refl })

-- A version is put, and then a cookie is given, and perhaps asked for

module _ {J : Type 0} (c c' : CpuView J) (slot cookie : ℕ) (w w' : WriterView) (h : PutsSlot slot cookie w c.cpu w' c'.cpu) where
  put_first : ActsAs (puts w.cell slot w'.version) c (with_cpu h.between c)
  put_first = subst (λ v. ActsAs (puts w.cell slot v) c (with_cpu h.between c)) (sym h.version) (makes_one c (with_cpu h.between c) refl (Put w.cell slot (w.version + 1) (Processor c.cpu.processor)) (one_made c.cpu h.between h.puts) refl refl refl)

  pub put_acts : c' ≡ with_cpu c'.cpu c → PutsAndThen (notes cookie) w.cell slot w'.version c c'
  put_acts rest = record { between = with_cpu h.between c; put = put_first; next = subst (λ n. ActsAs (notes n) (with_cpu h.between c) c') (sym h.cookie_is) (note_acts (with_cpu h.between c) c' rest h.notes.adds) }

  pub put_asks : (n : ℕ) → n ≡ cookie → (level : Level) → tree.Asks n c.needs level c'.needs → c'.turn ≡ c.turn → c'.calls ≡ c.calls → PutsAndThen (asks_for cookie 0) w.cell slot w'.version c c'
  put_asks n is level asks turn calls =
      let m : CpuView J = with_cpu h.between c in
      let made : MakesEvents (Note cookie (Processor m.cpu.processor) ∷ []) m.cpu c'.cpu = subst (λ n. MakesEvents (Note n (Processor m.cpu.processor) ∷ []) m.cpu c'.cpu) (sym h.cookie_is) (one_made m.cpu c'.cpu h.notes.adds) in record {
        between = m;
        put = put_first;
        next = asked_for m c' cookie level (subst (λ k. tree.Asks k c.needs level c'.needs) is asks) turn made 0 [] (adds_none c.calls c'.calls calls) (record { queued = refl; finished = refl; others = λ q other. refl; lists = λ q away l. refl });
      }

module _ {J : Type 0} (k : CallsView) (c c' : CpuView J) (job : J) where
  pub queue_acts : c.cpu.processor ≡ c.calls.processor → (r : ReceiptView J) → QueuesIn k c.cpu c.calls job r c'.cpu c'.calls → (n : ℕ) → n ≡ r.cookie.number → (level : Level) → tree.Asks n c.needs level c'.needs → c'.turn ≡ c.turn → ActsAs (asks_for r.cookie.number 1) c c'
  queue_acts same r h n is level asks turn =
      let q = h.queues in
      let e : Entry J = record { job = job; cookie = r.cookie } in
      let deeds : List (Deed J) = deed c.calls.processor (Queue e) ∷ [] in
      let one : queued_in c.cpu.processor deeds ≡ 1 = ap (λ p. queued_in p deeds) same ∙ queued_one J c.calls.processor e in
      asked_for c c' r.cookie.number level (subst (λ m. tree.Asks m c.needs level c'.needs) is asks) turn (noted c.cpu c'.cpu r.cookie q.note.number _ _ q.note.cookie_is q.note.adds) 1 deeds
      (adds_deed (Queue e) c.calls c'.calls q.tally) (record { queued = one; finished = refl; others = λ q other. refl; lists = λ q away l. queued_off J c.calls.processor q e l (λ is. away (ap Some (same ∙ sym is))) })

  pub refusal_acts : c' ≡ with_cpu c'.cpu c → (refused : J × CallRefusal) → RefusesIn k c.cpu c.calls job refused c'.cpu c'.calls → QueuesNone refused.1 c c'
  refusal_acts rest refused h = by_cause refused.1 h.refuses.cause
    where
      by_cause : (why : CallRefusal) → IsCause c.cpu c.calls why c'.cpu → QueuesNone why c c'
      by_cause calling.Exhausted cause = still c c' rest cause.1
      by_cause calling.Memory cause =
          let (cookie, behind, sight, note) = cause.1 in
          (cookie.number, subst (λ n. ActsAs (notes n) c c') (ap (λ (x : CookieView). x.number) (sym note.cookie_is)) (note_acts c c' rest note.adds))

-- One call and then another

-- behind an act that finishes no job, one that makes no event and asks for nothing: it only loads, or it finishes jobs
module _ {J : Type 0} {p : ℕ} {a : Act} {owner count : ℕ} {list : Option ℕ} {was mid now : CpuView J} (none : a.finished ≡ 0) (within : (q : ℕ) → a.list ≢ Some q → list ≢ Some q) (first : Acts p a was mid) (second : Acts p (record (finishes owner count p) { list = list }) mid now) where
  none_before : (q : ℕ) → finished_in q first.deeds ≡ 0
  none_before q = dite (ℕ_discrete q a.owner)
      (λ same. subst (λ k. finished_in k first.deeds ≡ 0) (sym same) (first.count.finished ∙ none))
      (λ other. first.count.others q other)

  raised_both : (q : ℕ) → raised_by q (first.raised ++ second.raised) ≡ raised_by q first.raised ++ raised_by q second.raised
  raised_both q = climbs.made_on q (record { rest = second.raised; whole = refl })

  same_holder : mid.needs.holder ≡ was.needs.holder
  same_holder = first.needs.same.holder

  both_ask : AskFor p was.needs.holder (record a { finished = count; owner = owner }) (first.raised ++ second.raised)
  both_ask = record {
    own = λ q is. raised_both q ∙ (λ i. first.ask_for.own q is i ++ second.ask_for.own q (same_holder ∙ is) i);
    others = λ q other. raised_both q ∙ (λ i. first.ask_for.others q other i ++ second.ask_for.others q (λ is. other (sym same_holder ∙ is)) i);
    greatest_is = λ before.
        let one = first.ask_for.greatest_is before in
        let two = second.ask_for.greatest_is (before ++ first.raised) in
        let whole = ap greatest (append_assoc before first.raised second.raised) in
        omega (arith, one, two, whole);
    cookie = first.ask_for.cookie;
  }

  both_add : Adds (first.deeds ++ second.deeds) was.calls now.calls
  both_add =
      let here = first.adds.same.2 in record {
        same = (second.adds.same.0 ∙ first.adds.same.0, second.adds.same.1 ∙ first.adds.same.1, second.adds.same.2 ∙ here, second.adds.same.3 ∙ first.adds.same.3);
        since = begins_on first.adds.since second.adds.since;
        own = subst (λ q. deeds_of q now.calls.seen ≡ deeds_of q mid.calls.seen ++ second.deeds) here second.adds.own ∙ (ap (λ l. l ++ second.deeds) first.adds.own ∙ append_assoc (deeds_of was.calls.processor was.calls.seen) first.deeds second.deeds);
      }

  pub then_finishes : Acts p (record a { finished = count; owner = owner }) was now
  then_finishes = record {
    events = record {
      same = (second.events.same.0 ∙ first.events.same.0, second.events.same.1 ∙ first.events.same.1, second.events.same.2 ∙ first.events.same.2, second.events.same.3 ∙ first.events.same.3);
      others = first.events.others;
      since = beginning_trans first.events.since (beginning_trans (beginning_append mid.cpu.seen (second.events.others ++ [])) second.events.since);
      mine = second.events.mine ∙ (append-nil mid.cpu.mine ∙ first.events.mine);
      later = (let one = first.events.later in let two = second.events.later in omega (arith, one, two));
    };
    are_of = first.are_of;
    raised = first.raised ++ second.raised;
    needs = record {
      same = record { domain = second.needs.same.domain ∙ first.needs.same.domain; shape = second.needs.same.shape ∙ first.needs.same.shape; holder = second.needs.same.holder ∙ same_holder };
      since = climbs.begins_on first.needs.since second.needs.since;
      mine = second.needs.mine ∙ (ap (λ l. l ++ second.raised) first.needs.mine ∙ append_assoc was.needs.mine first.raised second.raised);
    };
    ask_for = both_ask;
    deeds = first.deeds ++ second.deeds;
    adds = both_add;
    count = record {
      queued = (let cut = queued_append p first.deeds second.deeds in let one = first.count.queued in let two = second.count.queued in omega (arith, cut, one, two));
      finished = (let cut = finished_append owner first.deeds second.deeds in let one = none_before owner in let two = second.count.finished in omega (arith, cut, one, two));
      others = λ q other. let cut = finished_append q first.deeds second.deeds in let one = none_before q in let two = second.count.others q other in omega (arith, cut, one, two);
      lists = λ q away l. lists_append q l first.deeds second.deeds ∙ (ap (λ z. line_from q z second.deeds) (first.count.lists q away l) ∙ second.count.lists q (within q away) l);
    };
    turn = second.turn ∙ first.turn;
  }
