-- The rule of the tally words, over that of a log (`annals`): the words hold the log's counts. A list knows exactly what waits in it, and how many are finished and out; the one batch that is out knows these counts too. And whoever has the right of a call knows that it is the one of its number.
use Rattle.std.specs.Prelude.{◌≡◌, ℕ, ◌+◌, ◌<◌, ◌≤◌, ◌==◌, ◌⊎◌, Bool, true, false, if◌then◌else◌, nat_le, List, [], Option, Some, None, length, slice_index, slice_get}
use Rattle.std.proofs.Common.{refl, sym, ap, true≢false, le-leb, leb-true, ne_eqb, eqb-true, arith}
use Rattle.atomic_table.specs.Table.{State}
use Rattle.annals.specs.declared.view.Role.{Role}
use Rattle.annals.specs.declared.view.Role.TheVariants.{Nobody, Dealer, Sits}
use Rattle.annals.specs.declared.view.View as annals
use Rattle.annals.specs.Logs.Maker.{Head, Sitter}
use Rattle.annals.specs.Client.{Client}
use Rattle.annals.specs.Rule as rule
use Rattle.calls.specs.declared.entry.Entry.{Entry}
use Rattle.calls.specs.declared.view.Plan.{Plan}
use Rattle.calls.specs.declared.view.Deed.{Deed}
use Rattle.calls.specs.declared.view.Known.{Known}
use Rattle.calls.specs.declared.view.ListRight.{ListRight}
use Rattle.calls.specs.declared.view.ListRight.TheVariants.{NoList, OfList, Calling, OfCall}
use Rattle.calls.specs.declared.view.BatchRight.{BatchRight}
use Rattle.calls.specs.declared.view.BatchRight.TheVariants.{NoBatch, OfBatch}
use Rattle.calls.specs.declared.view.Rights.{Rights}
use Rattle.calls.specs.Lines.{count_out, line_in, no_calls, with_moved, gathered, calls_in}
use Rattle.calls.specs.Tallies.{queued_place, finished_place, word_count, most_calls, queued_in, finished_in, AreTakers, AreTrue}

-- what one seat knows
abbrev pub View : Type 0 → Type 0
View J = annals.View (Deed J) (Unit {0}) (Rights J)

-- the call that each processor is about to queue
abbrev pub Pending : Type 0 → Type 0
Pending J = ℕ → Option (Entry J)

-- Rights that are with one seat alone: that of a list, that of its batch, and that of the call which has this number there
pub data Right : Type 0 where
  TheList : ℕ → Right
  TheBatch : ℕ → Right
  TheCall : ℕ → ℕ → Right

abbrev pub has_batch : BatchRight → ℕ → Bool
has_batch NoBatch p = false
has_batch (OfBatch q first count) p = q == p

module _ {J : Type 0} where
  abbrev pub has_list : ListRight J → ℕ → Bool
  has_list NoList p = false
  has_list (OfList q known) p = q == p
  has_list (Calling e) p = false
  has_list (OfCall q number e) p = false

  abbrev pub has_call : ListRight J → ℕ → ℕ → Bool
  has_call NoList p n = false
  has_call (OfList q known) p n = false
  has_call (Calling e) p n = false
  has_call (OfCall q number e) p n = if q == p then number == n else false

  -- the dealer has the lists of all that are still to be dealt
  abbrev pub has_lists : Role → ListRight J → ℕ → Bool
  has_lists Nobody right p = has_list right p
  has_lists (Sits q) right p = has_list right p
  has_lists (Dealer k) right p = nat_le k p

  abbrev pub has : Role → Rights J → Right → Bool
  has role c (TheList p) = has_lists role c.list p
  has role c (TheBatch p) = has_batch c.batch p
  has role c (TheCall p n) = has_call c.list p n

  -- nothing is queued or finished of a processor that is still to be dealt
  pub record IsUndealt (calling : Pending J) (log : List (Deed J)) (p : ℕ) : Type 0 where
    pub queued : queued_in p log ≡ 0
    pub finished : finished_in p log ≡ 0
    pub line : line_in p log ≡ no_calls
    pub quiet : calling p ≡ None

  -- a list, for one who has seen this, is as a right knows it: so many of the calls that came in were moved behind those that wait
  pub record IsThere (p : ℕ) (k : Known J) (seen : List (Deed J)) : Type 0 where
    pub queued_least : k.queued ≤ queued_in p seen
    pub finished_is : k.finished ≡ finished_in p seen
    pub out_is : k.out ≡ (line_in p seen).out
    pub few : k.moved ≤ length (line_in p seen).coming
    pub waiting_is : k.waiting ≡ (gathered k.moved (line_in p seen)).waiting

  -- the call has this number among those that were queued there, or it will have it
  abbrev pub IsCall : Pending J → List (Deed J) → ℕ → ℕ → Entry J → Type 0
  IsCall calling log p number e = (slice_get (calls_in p log) number ≡ Some e) ⊎ ((number ≡ queued_in p log) × (calling p ≡ Some e))

  abbrev pub HasList : Pending J → List (Deed J) → ListRight J → Type 0
  HasList calling log NoList = Unit {0}
  HasList calling log (OfList p known) = IsThere p known log
  HasList calling log (Calling e) = Unit {0}
  HasList calling log (OfCall p number e) = IsCall calling log p number e

  abbrev pub HasBatch : List (Deed J) → BatchRight → Type 0
  HasBatch log NoBatch = Unit {0}
  HasBatch log (OfBatch p first count) = (first ≡ finished_in p log) × ((line_in p log).out ≡ Some count)

  -- the call that a seat is about to queue
  abbrev pub call_of_right : ListRight J → Option (Entry J)
  call_of_right NoList = None
  call_of_right (OfList p known) = None
  call_of_right (Calling e) = Some e
  call_of_right (OfCall p number e) = None

  abbrev pub IsAs : Pending J → Role → List (Deed J) → ListRight J → Type 0
  IsAs calling Nobody log right = Unit {0}
  IsAs calling (Sits p) log right = calling p ≡ call_of_right right
  IsAs calling (Dealer k) log right = (right ≡ NoList) × ((p : ℕ) → k ≤ p → IsUndealt calling log p)

  pub record Knows (calling : Pending J) (role : Role) (log : List (Deed J)) (c : Rights J) : Type 0 where
    pub list : HasList calling log c.list
    pub batch : HasBatch log c.batch
    pub whose : IsAs calling role log c.list

  -- of each processor all that were queued are finished, out, waiting, or behind those that wait, and they are few
  pub record IsCounted (log : List (Deed J)) (p : ℕ) : Type 0 where
    pub all : queued_in p log ≡ finished_in p log + count_out (line_in p log).out + length (line_in p log).waiting + length (line_in p log).coming
    pub few : queued_in p log ≤ most_calls

  pub record Agrees (plan : Plan) (words : List ℕ) (log : List (Deed J)) : Type 0 where
    pub loads : AreTrue log
    pub takers : AreTakers plan.processors log
    pub counted : (p : ℕ) → IsCounted log p
    pub wide : length words ≡ word_count plan.processors
    pub queued : (p : ℕ) → p < plan.processors → slice_index words (queued_place p) ≡ queued_in p log
    pub finished : (p : ℕ) → p < plan.processors → slice_index words (finished_place p) ≡ finished_in p log

  abbrev pub no_rights : Rights J
  no_rights = record { list = NoList; batch = NoBatch }

  -- the right of a list of which nothing was ever queued
  abbrev pub new_list : ℕ → ListRight J
  new_list p = OfList p record { queued = 0; finished = 0; out = None; moved = 0; waiting = [] }

  pub next_knows : (calling : Pending J) (log : List (Deed J)) (c : Rights J) (k : ℕ) → Knows calling (Dealer k) log c → Knows calling (Sits k) log record { list = new_list k; batch = NoBatch }
  next_knows calling log c k h = let u = h.whose.1 k (omega arith) in
      record { list = record { queued_least = omega arith; finished_is = sym u.finished; out_is = ap (λ z. z.out) (sym u.line); few = omega arith; waiting_is = ap (λ z. (gathered 0 z).waiting) (sym u.line) }; batch = tt; whose = u.quiet }

  pub fewer_rights : (c : Rights J) (k : ℕ) (x : Right) → has (Dealer (k + 1)) c x ≡ true → (has (Dealer k) c x ≡ true) × (has (Sits k) record { list = new_list k; batch = NoBatch } x ≡ false)
  fewer_rights c k (TheList p) h = let above = leb-true (k + 1) p h in (le-leb k p (omega (arith, above)), ne_eqb k p (λ e. omega (arith, above, e)))
  fewer_rights c k (TheBatch p) h = (h, refl)
  fewer_rights c k (TheCall p n) h = (h, refl)

  pub next_rights : (c : Rights J) (k : ℕ) (x : Right) → has (Sits k) record { list = new_list k; batch = NoBatch } x ≡ true → has (Dealer k) c x ≡ true
  next_rights c k (TheList p) h = let same = eqb-true k p h in le-leb k p (omega (arith, same))
  next_rights c k (TheBatch p) h = absurd (true≢false (sym h))
  next_rights c k (TheCall p n) h = absurd (true≢false (sym h))

  pub none_had : (c : Rights J) (x : Right) → has Nobody (record c { list = NoList; batch = NoBatch }) x ≡ false
  none_had c (TheList p) = refl
  none_had c (TheBatch p) = refl
  none_had c (TheCall p n) = refl

  abbrev pub tally_client : Client Plan (Option ℕ) (Deed J) (Unit {0}) (Rights J)
  tally_client = record {
    World = Pending J;
    by = λ d. Sitter d.by;
    doer = λ _. Head;
    Right = Right;
    has = has;
    agrees = λ plan _ words homes log _. Agrees plan words log;
    knows = λ plan calling role log c. Knows calling role log c;
    may_deal = λ plan k. Unit {0};
    first = λ plan. no_rights;
    blank = no_rights;
    dealt = λ k c. record { list = new_list k; batch = NoBatch };
    nobody = λ plan calling log. record { list = tt; batch = tt; whose = tt };
    bare = none_had no_rights;
    fewer = λ plan calling log c k h. record { list = h.list; batch = h.batch; whose = (h.whose.0, λ p le. h.whose.1 p (omega (arith, le))) };
    next = λ plan calling log c k may h. next_knows calling log c k h;
    fewer_rights = fewer_rights;
    next_rights = next_rights;
  }

  abbrev pub Kept : Plan → State (Option ℕ) (View J) → Type 0
  Kept = rule.Kept tally_client

  -- Views that are made
  -- a new seat has seen as much, and makes no steps
  abbrev pub note : View J → View J
  note = rule.bearer tally_client

  -- a seat of its own gets the right of the list
  abbrev pub without_list : View J → View J
  without_list v = record v { client = record v.client { list = NoList } }

  abbrev pub list_seat : ListRight J → View J
  list_seat right = record { role = Nobody; seen = []; told = []; done = []; client = record { list = right; batch = NoBatch } }

  abbrev pub only_list : View J → View J
  only_list v = list_seat v.client.list

  abbrev pub batch_seat : BatchRight → View J
  batch_seat right = record { role = Nobody; seen = []; told = []; done = []; client = record { list = NoList; batch = right } }

  -- a seat of its own gets the right of the batch
  abbrev pub without_batch : View J → View J
  without_batch v = record v { client = record v.client { batch = NoBatch } }

  abbrev pub only_batch : View J → View J
  only_batch v = batch_seat v.client.batch

  -- the right of a list, or of a batch, is taken over
  abbrev pub with_list : View J → View J → View J
  with_list v w = record v { client = record v.client { list = w.client.list } }

  abbrev pub with_batch : View J → View J → View J
  with_batch v w = record v { client = record v.client { batch = w.client.batch } }

  -- a call is announced: the seat is about to queue it, and a new one has the call's right
  abbrev pub announcing : Option (Entry J) → View J → View J
  announcing None v = v
  announcing (Some e) v = record v { client = record v.client { list = Calling e } }

  abbrev pub announced : Option (Entry J) → View J → View J
  announced None v = list_seat NoList
  announced (Some e) v = list_seat (OfCall (rule.number_of v.role) (queued_in (rule.number_of v.role) v.seen) e)

  -- a call is moved behind those that wait
  abbrev pub known_moved : Entry J → Known J → Known J
  known_moved e k = record k { moved = k.moved + 1; waiting = with_moved e k.waiting }

  abbrev pub right_moved : ListRight J → ListRight J → ListRight J
  right_moved right NoList = right
  right_moved right (OfList q k) = right
  right_moved right (Calling e) = right
  right_moved NoList (OfCall q number e) = NoList
  right_moved (Calling f) (OfCall q number e) = Calling f
  right_moved (OfCall r m f) (OfCall q number e) = OfCall r m f
  right_moved (OfList p k) (OfCall q number e) = OfList p (known_moved e k)

  abbrev pub moving : View J → View J → View J
  moving v w = record v { client = record v.client { list = right_moved v.client.list w.client.list } }
