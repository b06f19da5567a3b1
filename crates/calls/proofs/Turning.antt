-- A list is the one of its processor behind each step that is made with it.
use Rattle.std.proofs.Common.{◌≡◌, ℕ, zero, suc, ◌↔◌, IsTrue, Bool, true, false, List, [], ◌∷◌, ◌++◌, Option, Some, None, length, refl, sym, ap, ◌∙◌, subst, arith}
use Rattle.std.specs.Prelude.{IsSome}
use Rattle.std.specs.Arc.{arc_value}
use Rattle.atomic_table.specs.Seated.{TableId}
use Rattle.sections.specs.Glossary.{CpuView, SightView, AsksHowFarBehind}
use Rattle.segs.specs.MarkedList.{Done, marked, MarkedList}
use Rattle.calls.specs.Glossary.{Entry, Plan, Act, Deed, Known, count_out, some_out, is_queue, deed, deeds_of, queued_in, AreTakers, IsThere, list_seat, batch_seat, batch_of, Place, IsPlaced, IsKnown, TakesOne, FinishesBatch, SeesList, IsBatchSeat, known_in, first_known, GoesOut, GivesOut, Covers, view_of_seat, IsCallSeat, view_of_list, IsList}
use Rattle.calls.specs.declared.view.Act.TheVariants.{Take}
use Rattle.annals.specs.declared.view.Role.TheVariants.{Sits}
use Rattle.calls.specs.declared.view.ListRight.TheVariants.{NoList, OfList}
use Rattle.calls.specs.declared.view.BatchRight.TheVariants.{NoBatch, OfBatch}
use Rattle.calls.specs.declared.list.List.TheInside as list
use Rattle.calls.specs.declared.seat.CallSeat.TheInside as seat
use Rattle.calls.specs.Plays.{Does as DoesThere}
use Rattle.calls.specs.Calls.{Does}
use Rattle.calls.proofs.Counting.{queued_still, same_queued}
use Rattle.calls.proofs.Lining.{count_some_out}
use Rattle.calls.proofs.Steps.{there_taken, there_finished}
use Rattle.calls.proofs.Keeping.{goes_on_asked, rest_waiting}
use Rattle.calls.proofs.Listing.{IsMoved, moves, list_from, batch_seat_is, taken_is_known}
use Rattle.calls.proofs.Once.{next_calls, same_calls, calls_unqueued}
use Rattle.calls.proofs.Arriving.{intake_as}

module _ {J : Type 0} where
  pub taken_known : (p number max : ℕ) (seat list seat' list' batch : Place J) → TakesOne p number max seat list seat' list' batch → IsKnown p list'.me.0.client.list seat'.me.0.seen
  taken_known p number max seat list seat' list' batch q =
      let k : Known J = known_in list.me.0.client.list in
      subst (λ (z : Known J × List (Deed J)). IsThere p z.0 z.1) (λ i. (sym (ap (λ m. known_in m.0.client.list) q.list_is) i, sym q.does.seen i)) (there_taken p number max q.by k q.does.before q.there)

  pub finished_known_after : (p count : ℕ) (seat list batch seat' list' : Place J) → FinishesBatch p count seat list batch seat' list' → IsKnown p list'.me.0.client.list seat'.me.0.seen
  finished_known_after p count seat list batch seat' list' q =
      let k : Known J = known_in list.me.0.client.list in
      subst (λ (z : Known J × List (Deed J)). IsThere p z.0 z.1) (λ i. (sym (ap (λ m. known_in m.0.client.list) q.list_is) i, sym q.does.seen i)) (there_finished p count q.by k q.does.before q.there)

-- The seat that made a step

pub same_maker : (p q : ℕ) → Sits p ≡ Sits q → p ≡ q
same_maker p q h = cc

module _ {J A : Type 0} (s : seat.Inside J A) (seat' : Place J) (was : IsCallSeat s) where
  -- after a deed that queues nothing
  pub seat_after : (by : ℕ) (act : Act J) → s.seat.me.0.role ≡ Sits by → is_queue act ≡ false → DoesThere by act s.seat.me.0 seat'.me.0 → IsPlaced (arc_value s.table).shared.key (arc_value s.table).shared.table_id seat' → seat'.me.0.client.list ≡ NoList → seat'.me.0.client.batch ≡ NoBatch
      → IsCallSeat (record s { seat = seat' })
  seat_after by act who none d placed no_list no_batch =
      let p : ℕ = s.processor in
      let mine : by ≡ p = same_maker by p (sym who ∙ was.rests.who) in
      let own : deeds_of p d.before ≡ deeds_of p s.seat.me.0.seen = subst (λ (z : ℕ). deeds_of z d.before ≡ deeds_of z s.seat.me.0.seen) mine d.own in record {
        placed = placed;
        rests = record { who = d.who ∙ was.rests.who; there = was.rests.there; no_list = no_list; no_batch = no_batch };
        loads = d.loads;
        queued = was.queued ∙ (sym (same_queued p d.before s.seat.me.0.seen own) ∙ (sym (queued_still p d.before by act none) ∙ ap (queued_in p) (sym d.seen)));
        few = was.few;
        intake = intake_as was.intake (placed.seated ∙ sym was.placed.seated) (ap (Rattle.calls.specs.Lines.calls_in p) d.seen ∙ (calls_unqueued p by act d.before none ∙ same_calls p d.before s.seat.me.0.seen own));
      }

  -- what it did
  unfoldable pub does_after : (by : ℕ) (act : Act J) → s.seat.me.0.role ≡ Sits by → DoesThere by act s.seat.me.0 seat'.me.0 → IsPlaced (arc_value s.table).shared.key (arc_value s.table).shared.table_id seat'
      → Does act (view_of_seat s) (view_of_seat (record s { seat = seat' }))
  does_after by act who d placed =
      let p : ℕ = s.processor in
      let mine : by ≡ p = same_maker by p (sym who ∙ was.rests.who) in record {
        same = (placed.seated ∙ sym was.placed.seated, refl, refl, refl);
        before = d.before;
        since = d.since;
        own = subst (λ (z : ℕ). deeds_of z d.before ≡ deeds_of z s.seat.me.0.seen) mine d.own;
        seen = d.seen ∙ ap (λ (z : ℕ). d.before ++ deed z act ∷ []) mine;
        loads = d.loads;
      }

  -- after a load with a list, which is no deed
  pub seat_saw : (plan : Plan) (p found : ℕ) (list list' : Place J) → plan ≡ (arc_value s.table).shared.key → SeesList plan p s.seat list found seat' list' → IsCallSeat (record s { seat = seat' })
  seat_saw plan p found list list' same h = let f = h.finds s.processor was.rests.who in record {
    placed = record { seated = h.table ∙ was.placed.seated; wide = was.placed.wide; bare = ap (λ m. m.1) h.me ∙ was.placed.bare };
    rests = record { who = ap (λ m. m.0.role) h.me ∙ was.rests.who; there = was.rests.there; no_list = ap (λ m. m.0.client.list) h.me; no_batch = ap (λ m. m.0.client.batch) h.me ∙ was.rests.no_batch };
    loads = f.loads;
    queued = was.queued ∙ sym (same_queued s.processor seat'.me.0.seen s.seat.me.0.seen f.own);
    few = was.few;
    intake = intake_as was.intake h.table (same_calls s.processor seat'.me.0.seen s.seat.me.0.seen f.own);
  }

  pub seat_covers : (plan : Plan) (p found : ℕ) (list list' : Place J) → plan ≡ (arc_value s.table).shared.key → SeesList plan p s.seat list found seat' list' → Covers (view_of_seat s) s.seat.me.0.seen (view_of_seat (record s { seat = seat' }))
  seat_covers plan p found list list' same h = let f = h.finds s.processor was.rests.who in record {
    same = λ i. record { domain = s.sight.domain; tallies = h.table i; processors = (arc_value s.table).shared.key.processors; processor = s.processor; seen = seat'.me.0.seen };
    since = f.since;
    own = f.own;
    covers = f.since;
    loads = f.loads;
    takers = subst (λ (z : Plan). AreTakers z.processors seat'.me.0.seen) same f.takers;
  }

-- A take

-- whether something was taken
pub some_flag : (n : ℕ) → (n ≡ 0 → ⊥) → (IsTrue true ↔ IsSome (some_out n))
some_flag zero some = absurd (some refl)
some_flag (suc n) some = ((λ _. refl), (λ _. refl))

pub some_out_some : (n : ℕ) → (n ≡ 0 → ⊥) → some_out n ≡ Some n
some_out_some zero some = absurd (some refl)
some_out_some (suc n) some = refl

module _ {J A C : Type 0} where
  -- what the steps of a take say
  pub record IsTake (l : list.Inside J A) (c d : CpuView) (s : seat.Inside J C) (number max : ℕ) (items : List (Option (Entry J))) (left : MarkedList (Option (Entry J))) (sight' : SightView) (seat' list' right : Place J) : Type 0 where
    pub old : IsList l
    pub caller : IsCallSeat s
    pub none : (known_in l.seat.me.0.client.list).out ≡ None
    pub domain : c.domain ≡ l.sight.domain
    pub asks : AsksHowFarBehind number l.given l.sight c d sight'
    pub goes : GoesOut number max (known_in l.seat.me.0.client.list).waiting items left.entries
    pub takes : TakesOne l.processor number max s.seat l.seat seat' list' right
    pub placed : IsPlaced (arc_value s.table).shared.key (arc_value s.table).shared.table_id seat'

module _ {J A C : Type 0} (l : list.Inside J A) (c d : CpuView) (s : seat.Inside J C) (number max : ℕ) (items : List (Option (Entry J))) (left : MarkedList (Option (Entry J))) (sight' : SightView) (seat' list' right : Place J) (h : IsTake l c d s number max items left sight' seat' list' right) where
  abbrev before : Known J
  before = known_in l.seat.me.0.client.list

  -- the list after the take
  abbrev pub list_after : Bool → list.Inside J A
  list_after out = record l { waiting = left; sight = sight'; seat = list'; out = out }

  abbrev after : Known J
  after = record before { out = some_out (length h.goes.gone); moved = 0; waiting = h.goes.rest }

  pub took_moved : IsMoved before.waiting l.given sight' h.goes.gone h.goes.rest
  took_moved = moves before.waiting l.given l.sight sight' c d number h.goes.gone h.goes.rest h.old.waiting h.domain h.asks.asks h.goes.in_order

  took_me : list'.me ≡ (list_seat (OfList l.processor after), [])
  took_me = h.takes.list_is ∙ ap (λ (z : Known J). (list_seat (OfList l.processor z), [])) (taken_is_known number max before h.goes.gone h.goes.rest h.goes.in_order h.goes.many)

  pub took_list : (out : Bool) → (IsTrue out ↔ IsSome (some_out (length h.goes.gone))) → IsList (list_after out)
  took_list out flag =
      let long = took_moved.long in
      let were = h.old.numbered in
      let none = ap count_out h.none in
      let some = count_some_out (length h.goes.gone) in
      let there = h.old.there in
      let words = ap (λ (t : TableId). t.words) h.takes.table in
      let on = goes_on_asked number l.sight sight' c d h.domain h.asks.asks in
      list_from (list_after out) after took_me h.goes.left_is (rest_waiting l.given sight' h.goes.gone h.goes.rest took_moved.waiting) flag record {
        one_domain = h.old.one_domain ∙ sym on.domain;
        key = h.old.key ∙ (λ i. Some record { domain = sym on.domain i; tallies = sym h.takes.table i; processor = l.processor });
        last = h.old.last;
        arrived = h.old.arrived;
        numbered = omega (arith, long, were, none, some);
        few = h.old.few;
        most = h.old.most;
        there = omega (arith, there, words);
      }

  pub took_seat : IsCallSeat (record s { seat = seat' })
  took_seat = seat_after s seat' h.caller h.takes.by (Take l.processor number max before.moved) h.takes.who refl h.takes.does h.placed h.takes.no_list h.takes.no_batch

  pub took_gives : (out : Bool) → GivesOut max (view_of_list l) c (view_of_seat s) h.goes.gone (view_of_list (list_after out)) d (view_of_seat (record s { seat = seat' }))
  unfolding does_after
  took_gives out =
      let on = goes_on_asked number l.sight sight' c d h.domain h.asks.asks in
      let there = taken_known l.processor number max s.seat l.seat seat' list' right h.takes in
      let is : known_in list'.me.0.client.list ≡ after = ap (λ m. known_in m.0.client.list) took_me in
      record {
        number = number;
        asks = h.asks.asks;
        same = λ i. record { domain = on.domain i; tallies = h.takes.table i; processor = l.processor };
        finished = ap (λ (z : Known J). z.finished) is;
        out = ap (λ (z : Known J). z.out) is;
        tally = does_after s seat' h.caller h.takes.by (Take l.processor number max before.moved) h.takes.who h.takes.does h.placed;
        was = record { finished = h.takes.there.finished_is; out = h.takes.there.out_is; few = h.takes.there.few; entries = h.takes.there.waiting_is };
        is = record { finished = there.finished_is; out = there.out_is; few = there.few; entries = there.waiting_is };
        in_order = h.goes.in_order ∙ ap (λ (z : Known J). marked Done h.goes.gone ++ z.waiting) (sym is);
        many = h.goes.many;
        calls = next_calls l.processor number h.takes.by max before h.takes.does.before seat'.me.0.seen h.goes.gone h.goes.rest h.takes.does.seen h.takes.does.loads h.none h.takes.there h.goes.in_order;
      }

  right_me : (some : length h.goes.gone ≡ 0 → ⊥) → right.me ≡ (batch_seat (OfBatch l.processor before.finished (length h.goes.gone)), [])
  right_me some =
      h.takes.batch_is ∙ (ap (λ (z : Known J). (batch_seat (batch_of l.processor before.finished z.out), [])) (taken_is_known number max before h.goes.gone h.goes.rest h.goes.in_order h.goes.many)
      ∙ ap (λ (o : Option ℕ). (batch_seat (batch_of l.processor before.finished o), [])) (some_out_some (length h.goes.gone) some))

  -- the right of what was taken
  pub took_right : (length h.goes.gone ≡ 0 → ⊥) → IsBatchSeat right.table_id l.processor (length h.goes.gone) right
  took_right some = batch_seat_is right l.processor before.finished (length h.goes.gone) (right_me some)

  pub took_first : (length h.goes.gone ≡ 0 → ⊥) → first_known right.me.0.client.batch ≡ before.finished
  took_first some = ap (λ m. first_known m.0.client.batch) (right_me some)
