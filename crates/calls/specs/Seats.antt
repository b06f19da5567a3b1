-- What the steps do to the seats that they are made with.
use Rattle.std.specs.Prelude.{◌≡◌, ℕ, ◌+◌, ◌<◌, ◌≤◌, List, [], Option, Some, None, length}
use Rattle.atomic_table.specs.Seated.{TableId}
use Rattle.atomic_table.specs.declared.shared.Seat.{Seat}
use Rattle.calls.specs.declared.view.Plan.{Plan}
use Rattle.calls.specs.declared.view.Deed.{Deed}
use Rattle.calls.specs.declared.entry.Entry.{Entry}
use Rattle.calls.specs.declared.view.Act.TheVariants.{Queue, Take, Finish, LackRoom, LoadFinished}
use Rattle.annals.specs.declared.view.Role.TheVariants.{Sits}
use Rattle.calls.specs.declared.view.Known.{Known}
use Rattle.calls.specs.declared.view.ListRight.{ListRight}
use Rattle.calls.specs.declared.view.ListRight.TheVariants.{NoList, OfList, Calling, OfCall}
use Rattle.calls.specs.declared.view.BatchRight.{BatchRight}
use Rattle.calls.specs.declared.view.BatchRight.TheVariants.{NoBatch, OfBatch}
use Rattle.calls.specs.Lines.{count_out}
use Rattle.calls.specs.Tallies.{finished_place, word_count, most_calls, queued_in, AreTakers}
use Rattle.calls.specs.Rule.{View, list_seat, batch_seat, IsThere, known_moved}
use Rattle.calls.specs.Plays.{Does, Looks, FindsAll, IsAdmitted, IsOut, batch_of, line_taken, known_taken, known_finished}

abbrev pub Place : Type 0 → Type 0
Place J = Seat (Option ℕ) (View J)

module _ {J : Type 0} where
  -- the seat is at these tally words, and has no slot
  pub record IsPlaced (plan : Plan) (table : TableId) (seat : Place J) : Type 0 where
    pub seated : seat.table_id ≡ table
    pub wide : table.words ≡ word_count plan.processors
    pub bare : seat.me.1 ≡ []

  -- the seat of a processor between two calls: it has no right, and is about to queue nothing
  pub record IsAtRest (p : ℕ) (plan : Plan) (v : View J) : Type 0 where
    pub who : v.role ≡ Sits p
    pub there : p < plan.processors
    pub no_list : v.client.list ≡ NoList
    pub no_batch : v.client.batch ≡ NoBatch

  -- the seat makes the steps of a processor that is there
  abbrev pub IsOfCaller : Plan → View J → Type 0
  IsOfCaller plan v = (c : ℕ) × (v.role ≡ Sits c) × (c < plan.processors)

  -- the seat is that of a processor which is about to queue this call
  pub record IsAboutTo (p : ℕ) (plan : Plan) (e : Entry J) (v : View J) : Type 0 where
    pub who : v.role ≡ Sits p
    pub there : p < plan.processors
    pub calling : v.client.list ≡ Calling e
    pub no_batch : v.client.batch ≡ NoBatch

  -- what a list's right knows
  abbrev pub known_in : ListRight J → Known J
  known_in NoList = record { queued = 0; finished = 0; out = None; moved = 0; waiting = [] }
  known_in (OfList p known) = known
  known_in (Calling e) = record { queued = 0; finished = 0; out = None; moved = 0; waiting = [] }
  known_in (OfCall p number e) = record { queued = 0; finished = 0; out = None; moved = 0; waiting = [] }

  -- the number of the next one that is moved, among all that were queued
  abbrev pub next_known : Known J → ℕ
  next_known k = k.finished + count_out k.out + length k.waiting

-- what a batch's right knows
abbrev pub first_known : BatchRight → ℕ
first_known NoBatch = 0
first_known (OfBatch p first count) = first

module _ {J : Type 0} where
  -- the list of the processor, for one who has seen this, is as the right knows it
  abbrev pub IsKnown : ℕ → ListRight J → List (Deed J) → Type 0
  IsKnown p right seen = IsThere p (known_in right) seen

  -- the seat is that of the processor's list
  pub record IsListSeat (table : TableId) (p : ℕ) (seat : Place J) : Type 0 where
    pub seated : seat.table_id ≡ table
    pub me : seat.me ≡ (list_seat (OfList p (known_in seat.me.0.client.list)), [])

  -- the seat is that of a call, which has this number on the processor
  pub record IsCallPlace (table : TableId) (p number : ℕ) (e : Entry J) (seat : Place J) : Type 0 where
    pub seated : seat.table_id ≡ table
    pub me : seat.me ≡ (list_seat (OfCall p number e), [])

  -- the seat is that of a batch of so many of the processor
  pub record IsBatchSeat (table : TableId) (p count : ℕ) (seat : Place J) : Type 0 where
    pub seated : seat.table_id ≡ table
    pub me : seat.me ≡ (batch_seat (OfBatch p (first_known seat.me.0.client.batch) count), [])

  -- a call was announced: the seat is about to queue it, and another one has the call's right, under the next number
  pub record Announces (p : ℕ) (e : Entry J) (seat seat' call : Place J) : Type 0 where
    pub table : seat'.table_id ≡ seat.table_id
    pub me : seat'.me ≡ (record seat.me.0 { client = record seat.me.0.client { list = Calling e } }, seat.me.1)
    pub call_is : IsCallPlace seat.table_id p (queued_in p seat.me.0.seen) e call

  -- it is not queued after all
  pub record Withdraws (seat seat' : Place J) : Type 0 where
    pub table : seat'.table_id ≡ seat.table_id
    pub me : seat'.me ≡ (record seat.me.0 { client = record seat.me.0.client { list = NoList } }, seat.me.1)

  -- 1 was added to the queued word for a call, and the word held what the seat knew
  pub record QueuesOne (p : ℕ) (entry : Entry J) (seat : Place J) (found : ℕ) (seat' : Place J) : Type 0 where
    pub does : Does p (Queue entry) seat.me.0 seat'.me.0
    pub no_list : seat'.me.0.client.list ≡ NoList
    pub no_batch : seat'.me.0.client.batch ≡ NoBatch
    pub own : found ≡ queued_in p seat.me.0.seen

  -- the list knows that this call is moved
  pub record MovesCall (p : ℕ) (e : Entry J) (list list' : Place J) : Type 0 where
    pub table : list'.table_id ≡ list.table_id
    pub list_is : list'.me ≡ (list_seat (OfList p (known_moved e (known_in list.me.0.client.list))), [])

  -- the count was added to the finished word. The batch was the one that was out, and is so no more
  pub record FinishesBatch (p count : ℕ) (seat list batch seat' list' : Place J) : Type 0 where
    pub by : ℕ
    pub who : seat.me.0.role ≡ Sits by
    pub does : Does by (Finish p count) seat.me.0 seat'.me.0
    pub there : IsKnown p list.me.0.client.list does.before
    pub no_list : seat'.me.0.client.list ≡ NoList
    pub no_batch : seat'.me.0.client.batch ≡ NoBatch
    pub was_out : (known_in list.me.0.client.list).out ≡ Some count
    pub first : first_known batch.me.0.client.batch ≡ (known_in list.me.0.client.list).finished
    pub table : list'.table_id ≡ list.table_id
    pub list_is : list'.me ≡ (list_seat (OfList p (known_finished count (known_in list.me.0.client.list))), [])

  -- what is ready was taken out of the list. A batch of so many has its right, where there are any
  pub record TakesOne (p number max : ℕ) (seat list seat' list' batch : Place J) : Type 0 where
    pub by : ℕ
    pub who : seat.me.0.role ≡ Sits by
    pub does : Does by (Take p number max (known_in list.me.0.client.list).moved) seat.me.0 seat'.me.0
    pub there : IsKnown p list.me.0.client.list does.before
    pub no_list : seat'.me.0.client.list ≡ NoList
    pub no_batch : seat'.me.0.client.batch ≡ NoBatch
    pub table : list'.table_id ≡ list.table_id
    pub list_is : list'.me ≡ (list_seat (OfList p (known_taken number max (known_in list.me.0.client.list))), [])
    pub batch_table : batch.table_id ≡ list.table_id
    pub batch_is : batch.me ≡ (batch_seat (batch_of p (known_in list.me.0.client.list).finished (line_taken number max (known_in list.me.0.client.list)).out), [])

  -- a call that had come in had no room in the list, which is as its seat knows it. The seat keeps its right
  pub record LacksOne (p : ℕ) (seat list seat' list' : Place J) : Type 0 where
    pub by : ℕ
    pub who : seat.me.0.role ≡ Sits by
    pub does : Does by (LackRoom p (known_in list.me.0.client.list).moved) seat.me.0 seat'.me.0
    pub there : IsKnown p list.me.0.client.list does.before
    pub no_list : seat'.me.0.client.list ≡ NoList
    pub no_batch : seat'.me.0.client.batch ≡ NoBatch
    pub table : list'.table_id ≡ list.table_id
    pub list_is : list'.me ≡ list.me

  -- the finished word at this place was loaded. No more were found than were queued, and all batches were finished by processors that are there
  pub record CountsFinished (plan : Plan) (place : ℕ) (seat : Place J) (found : ℕ) (seat' : Place J) : Type 0 where
    pub table : seat'.table_id ≡ seat.table_id
    pub bare : seat'.me.1 ≡ seat.me.1
    pub looks : (c p : ℕ) → seat.me.0.role ≡ Sits c → place ≡ finished_place p → Looks c (LoadFinished p found) seat.me.0 seat'.me.0
    pub within : (p : ℕ) → place ≡ finished_place p → found ≤ queued_in p seat'.me.0.seen
    pub takers : AreTakers plan.processors seat'.me.0.seen

  -- a word was loaded, and the load is no deed: all that was done until then is seen
  pub record SeesAll (plan : Plan) (seat seat' : Place J) : Type 0 where
    pub table : seat'.table_id ≡ seat.table_id
    pub me : seat'.me ≡ (record seat.me.0 { seen = seat'.me.0.seen; told = [] }, seat.me.1)
    pub finds : (c : ℕ) → seat.me.0.role ≡ Sits c → FindsAll plan.processors c seat.me.0 seat'.me.0

  -- the same, and just what was told is seen
  pub record SeesTold (plan : Plan) (seat seat' : Place J) : Type 0 where
    pub table : seat'.table_id ≡ seat.table_id
    pub me : seat'.me ≡ (record seat.me.0 { seen = seat.me.0.told; told = [] }, seat.me.1)
    pub admits : (c : ℕ) → seat.me.0.role ≡ Sits c → IsAdmitted plan.processors c seat.me.0

  -- all that was done is seen, and the batch is out there. It keeps its right
  pub record SeesBatchOut (plan : Plan) (p count : ℕ) (seat batch seat' batch' : Place J) : Type 0 where
    pub table : seat'.table_id ≡ seat.table_id
    pub me : seat'.me ≡ (record seat.me.0 { client = record seat.me.0.client { batch = NoBatch }; seen = seat'.me.0.seen; told = [] }, seat.me.1)
    pub finds : (c : ℕ) → seat.me.0.role ≡ Sits c → FindsAll plan.processors c seat.me.0 seat'.me.0
    pub out : IsOut p (first_known batch.me.0.client.batch) count seat'.me.0.seen
    pub batch_table : batch'.table_id ≡ batch.table_id
    pub batch_is : batch'.me ≡ batch.me

  -- all that was done is seen, so many were queued, and the list is there as its seat knows it, which keeps its right and knows so many
  pub record SeesList (plan : Plan) (p : ℕ) (seat list : Place J) (found : ℕ) (seat' list' : Place J) : Type 0 where
    pub table : seat'.table_id ≡ seat.table_id
    pub me : seat'.me ≡ (record seat.me.0 { client = record seat.me.0.client { list = NoList }; seen = seat'.me.0.seen; told = [] }, seat.me.1)
    pub finds : (c : ℕ) → seat.me.0.role ≡ Sits c → FindsAll plan.processors c seat.me.0 seat'.me.0
    pub counted : found ≡ queued_in p seat'.me.0.seen
    pub few : found ≤ most_calls
    pub there : IsKnown p list.me.0.client.list seat'.me.0.seen
    pub list_table : list'.table_id ≡ list.table_id
    pub list_is : list'.me ≡ (list_seat (OfList p (record (known_in list.me.0.client.list) { queued = found })), [])
