-- What follows where calls were moved to a list before something else is done with it.
use Rattle.std.proofs.Common.{◌≡◌, ℕ, ◌+◌, ◌≤◌, List, [], ◌∷◌, ◌++◌, Option, Some, Result, Ok, Err, length, refl, sym, ap, ◌∙◌, subst, arith}
use Rattle.std.specs.Prelude.{OnErr}
use Rattle.segs.specs.MarkedList.{lens, numbers}
use Rattle.sections.specs.Views.{CpuView}
use Rattle.calls.specs.Glossary.{Act, Deed, Known, Plan, count_out, gathered, line_in, deed, deeds_of, queued_in, AreTakers, IsBeginning, Place, SeesList, known_in, CallSeatView, ListView, BatchView, key_of, next_of, IsListIn, Covers, LooksAt, MovesAll, Came, Gathers, NotesLack, LacksRoom, TakesReady, Takes, FindsLens, view_of_list, IsList}
use Rattle.calls.specs.declared.view.Act.TheVariants.{LackRoom, LoadQueued}
use Rattle.calls.specs.declared.list.List.TheInside as list
use Rattle.calls.specs.Calls.{Does, Looks}
use Rattle.calls.proofs.Lining.{gathered_long}
use Rattle.calls.proofs.Counting.{deeds_own, queued_still, same_queued}
use Rattle.calls.proofs.Loading.{last_true, begins_on, goes_on}
use Rattle.calls.proofs.Listing.{list_from}

-- what is so is so where something failed
pub on_err : {A E : Type 0} (r : Result A E) {P : Type 0} → P → OnErr r P
on_err (Ok x) h = tt
on_err (Err e) h = h

module _ {J : Type 0} where
  -- a load that is a deed, and then one that is none: the seat has looked
  pub looks_at : (p n : ℕ) (s m t : CallSeatView J) → Does (LoadQueued p n) s m → Covers m m.seen t → LooksAt p s t
  looks_at p n s m t d k =
      let act : Act J = LoadQueued p n in
      let by : m.processor ≡ s.processor = d.same.2 in record {
        found = n;
        same = (ap (λ (z : CallSeatView J). z.tallies) k.same ∙ d.same.0, ap (λ (z : CallSeatView J). z.processors) k.same ∙ d.same.1, ap (λ (z : CallSeatView J). z.processor) k.same ∙ by, ap (λ (z : CallSeatView J). z.domain) k.same ∙ d.same.3);
        since = begins_on (goes_on act s m d) k.since;
        own = subst (λ (q : ℕ). deeds_of q t.seen ≡ deeds_of q m.seen) by k.own ∙ (ap (deeds_of s.processor) d.seen ∙ (deeds_own s.processor d.before (deed s.processor act) refl ∙ ap (λ l. l ++ deed s.processor act ∷ []) d.own));
        loads = k.loads;
        takers = subst (λ (q : ℕ). AreTakers q t.seen) d.same.1 k.takers;
      }

  -- a look queues nothing
  pub looked_queued : (p : ℕ) (s t : CallSeatView J) → LooksAt p s t → queued_in s.processor t.seen ≡ queued_in s.processor s.seen
  looked_queued p s t h =
      let act : Act J = LoadQueued p h.found in
      same_queued s.processor t.seen (s.seen ++ deed s.processor act ∷ []) (h.own ∙ sym (deeds_own s.processor s.seen (deed s.processor act) refl)) ∙ queued_still s.processor s.seen s.processor act refl

  -- a look behind a load that is no deed
  pub looks_behind : (p : ℕ) (s m t : CallSeatView J) (a : List (Deed J)) → Covers s a m → LooksAt p m t → LooksAt p s t
  looks_behind p s m t a h k =
      let by : m.processor ≡ s.processor = ap (λ (z : CallSeatView J). z.processor) h.same in
      let many : m.processors ≡ s.processors = ap (λ (z : CallSeatView J). z.processors) h.same in record {
        found = k.found;
        same = (k.same.0 ∙ ap (λ (z : CallSeatView J). z.tallies) h.same, k.same.1 ∙ many, k.same.2 ∙ by, k.same.3 ∙ ap (λ (z : CallSeatView J). z.domain) h.same);
        since = begins_on h.since k.since;
        own = subst (λ (q : ℕ). deeds_of q t.seen ≡ deeds_of q m.seen ++ deed q (LoadQueued p k.found) ∷ []) by k.own ∙ ap (λ l. l ++ deed s.processor (LoadQueued p k.found) ∷ []) h.own;
        loads = k.loads;
        takers = subst (λ (q : ℕ). AreTakers q t.seen) many k.takers;
      }

  -- a deed behind a load that is no deed
  unfoldable pub does_behind : (act : Act J) (s m t : CallSeatView J) (a : List (Deed J)) → Covers s a m → Does act m t → Does act s t
  does_behind act s m t a h d =
      let by : m.processor ≡ s.processor = ap (λ (z : CallSeatView J). z.processor) h.same in record {
        same = (d.same.0 ∙ ap (λ (z : CallSeatView J). z.tallies) h.same, d.same.1 ∙ ap (λ (z : CallSeatView J). z.processors) h.same, d.same.2 ∙ by, d.same.3 ∙ ap (λ (z : CallSeatView J). z.domain) h.same);
        before = d.before;
        since = begins_on h.since d.since;
        own = subst (λ (p : ℕ). deeds_of p d.before ≡ deeds_of p m.seen) by d.own ∙ h.own;
        seen = d.seen ∙ ap (λ (p : ℕ). d.before ++ deed p act ∷ []) by;
        loads = d.loads;
      }

  -- all that had been queued at a moment is moved
  pub moves_all_in : (l : ListView J) (from moment seen : List (Deed J)) → IsBeginning from moment → IsBeginning moment seen → IsListIn seen l → next_of l ≡ queued_in l.processor moment → MovesAll l.processor l.moved from seen
  moves_all_in l from moment seen before after there all = record {
    few = there.few;
    moment = moment;
    not_before = before;
    not_after = after;
    all =
        let fin = there.finished in
        let out = ap count_out there.out in
        let long : length l.entries ≡ length (line_in l.processor seen).waiting + l.moved = ap length there.entries ∙ gathered_long l.moved (line_in l.processor seen) there.few in
        omega (arith, fin, out, long, all);
  }

  pub came_key : (l m : ListView J) → Came l m → key_of m ≡ key_of l
  came_key l m h = ap key_of h.is

  -- something is taken behind what was moved
  pub takes_behind : (max : ℕ) (l m : ListView J) (c : CpuView) (s t : CallSeatView J) (taken : Option (BatchView J)) (l' : ListView J) (c' : CpuView) (s' : CallSeatView J)
      → Gathers l s m t → next_of m ≡ queued_in l.processor t.seen → TakesReady max m c t taken l' c' s' → Takes max m c s taken l' c' s'
  unfolding does_behind
  takes_behind max l m c s t taken l' c' s' g next h =
      let p : m.processor ≡ l.processor = ap (λ (z : ListView J). z.processor) g.came.is in
      let give = h.gives in record {
        none_out = h.none_out;
        gone = h.gone;
        gives = record {
          number = give.number;
          asks = give.asks;
          same = give.same;
          finished = give.finished;
          out = give.out;
          tally = does_behind _ s t s' s.seen g.covers give.tally;
          was = give.was;
          is = give.is;
          in_order = give.in_order;
          many = give.many;
          calls = give.calls;
        };
        all = moves_all_in m s.seen t.seen give.tally.before g.covers.since give.tally.since give.was (next ∙ ap (λ (q : ℕ). queued_in q t.seen) (sym p));
        taken_is = h.taken_is;
      }

module _ {J A : Type 0} (l : list.Inside J A) (plan : Plan) (found : ℕ) (seat seat' list' : Place J) (h : SeesList plan l.processor seat l.seat found seat' list') where
  knows : known_in list'.me.0.client.list ≡ record (known_in l.seat.me.0.client.list) { queued = found }
  knows = ap (λ m. known_in m.0.client.list) h.list_is

  -- a list that was seen knows how many were queued
  pub list_saw : IsList l → IsList (record l { seat = list' })
  list_saw v =
      let few = v.few in
      let least = h.there.queued_least in
      let counted = h.counted in
      let there = v.there in
      let words = ap (λ t. t.words) h.list_table in
      list_from (record l { seat = list' }) (record (known_in l.seat.me.0.client.list) { queued = found }) h.list_is v.wrapping v.waiting v.out record {
        one_domain = v.one_domain;
        key = v.key ∙ (λ i. Some record { domain = l.sight.domain; tallies = sym h.list_table i; processor = l.processor });
        last = v.last;
        arrived = v.arrived;
        numbered = v.numbered;
        few = omega (arith, few, least, counted);
        most = h.few;
        there = omega (arith, there, words);
      }

  pub saw_same : view_of_list (record l { seat = list' }) ≡ record (view_of_list l) { counted = (known_in list'.me.0.client.list).queued }
  saw_same = λ i. record { tallies = h.list_table i; processor = l.processor; counted = (known_in list'.me.0.client.list).queued; finished = (knows i).finished; out = (knows i).out; moved = (knows i).moved; entries = (knows i).waiting; given = l.given; sight = l.sight }

  -- and is what its right knew
  pub saw_was : IsListIn seat'.me.0.seen (view_of_list l)
  saw_was = record { finished = h.there.finished_is; out = h.there.out_is; few = h.there.few; entries = h.there.waiting_is }

  pub saw_in : IsListIn seat'.me.0.seen (view_of_list (record l { seat = list' }))
  saw_in = record {
    finished = ap (λ (z : Known J). z.finished) knows ∙ h.there.finished_is;
    out = ap (λ (z : Known J). z.out) knows ∙ h.there.out_is;
    few = subst (λ (z : Known J). z.moved ≤ length (line_in l.processor seat'.me.0.seen).coming) (sym knows) h.there.few;
    entries = ap (λ (z : Known J). z.waiting) knows ∙ (h.there.waiting_is ∙ ap (λ (z : Known J). (gathered z.moved (line_in l.processor seat'.me.0.seen)).waiting) (sym knows));
  }

module _ {J : Type 0} where
  -- what is noted behind what was moved: not all that had come in were
  pub lacks_behind : (l m l' : ListView J) (s t s' : CallSeatView J) → Gathers l s m t → NotesLack m t s' → l' ≡ m → LacksRoom l s l' s'
  unfolding does_behind
  lacks_behind l m l' s t s' g k same =
      let act : Act J = LackRoom m.processor m.moved in
      let d : Does act s s' = does_behind act s t s' s.seen g.covers k.does in
      subst (λ (z : ListView J). LacksRoom l s z s') (sym same) record {
        came = g.came;
        does = d;
        is = k.is;
        short = last_true d.before s'.seen (deed s.processor act) d.seen d.loads;
      }

module _ {J : Type 0} (l m : ListView J) (s t : CallSeatView J) (l' : ListView J) (s' : CallSeatView J) (g : Gathers l s m t) (k : Looks m t l' s') where
  here : m.processor ≡ l.processor
  here = ap (λ (z : ListView J). z.processor) g.came.is

  looked : LooksAt l.processor s s'
  looked = looks_behind l.processor s t s' s.seen g.covers (subst (λ (q : ℕ). LooksAt q t s') here k.looks)

  -- what the list is, where all were moved
  pub finds_behind : (found : List ℕ × List ℕ) → next_of m ≡ queued_in l.processor t.seen → found ≡ (lens l'.entries, numbers l'.entries) → FindsLens l s found l' s'
  finds_behind found next is =
      let p : l'.processor ≡ l.processor = ap (λ (z : ListView J). z.processor) k.list ∙ here in
      let after : next_of l' ≡ next_of m = ap (λ (z : ListView J). next_of z) k.list in record {
        looks = looked;
        same = ap key_of k.list ∙ came_key l m g.came;
        is = k.is;
        all = subst (λ (q : ℕ). MovesAll q l'.moved s.seen s'.seen) p (moves_all_in l' s.seen t.seen s'.seen g.covers.since k.looks.since k.is (after ∙ (next ∙ ap (λ (q : ℕ). queued_in q t.seen) (sym p))));
        found_is = is;
      }
