-- What each step on the tally words tells the seat that makes it.
use Rattle.std.specs.Prelude.{◌≡◌, ℕ, ◌+◌, ◌≤◌, List, [], ◌∷◌, ◌++◌, Option, Some, None}
use Rattle.atomic_table.specs.Table.{Me, Step}
use Rattle.calls.specs.declared.entry.Entry.{Entry}
use Rattle.calls.specs.declared.view.Act.{Act}
use Rattle.calls.specs.declared.view.Act.TheVariants.{Queue, Take, Finish, LackRoom, LoadQueued, LoadFinished}
use Rattle.calls.specs.declared.view.Deed.{Deed}
use Rattle.annals.specs.declared.view.Role.TheVariants.{Sits}
use Rattle.calls.specs.declared.view.Known.{Known}
use Rattle.calls.specs.declared.view.ListRight.TheVariants.{NoList, OfList, Calling}
use Rattle.calls.specs.declared.view.BatchRight.{BatchRight}
use Rattle.calls.specs.declared.view.BatchRight.TheVariants.{NoBatch, OfBatch}
use Rattle.calls.specs.Lines.{Line, with_taken}
use Rattle.calls.specs.Tallies.{queued_place, finished_place, most_calls, deed, queued_in, finished_in, deeds_of, AreTakers, IsBeginning, AreTrue}
use Rattle.calls.specs.Rule.{View, IsThere}

-- the right of the batch that is out, where there is one
abbrev pub batch_of : ℕ → ℕ → Option ℕ → BatchRight
batch_of p first None = NoBatch
batch_of p first (Some count) = OfBatch p first count

abbrev pub Sat : Type 0 → Type 0
Sat J = Me (Option ℕ) (View J)

module _ {J : Type 0} where
  -- the processor's seat did this, behind all that it had seen. What is then seen has just its own deeds of its own, and each load there found what was counted
  pub record Does (p : ℕ) (act : Act J) (v w : View J) : Type 0 where
    pub before : List (Deed J)
    pub seen : w.seen ≡ before ++ deed p act ∷ []
    pub since : IsBeginning v.seen before
    pub own : deeds_of p before ≡ deeds_of p v.seen
    pub who : w.role ≡ v.role
    pub loads : AreTrue w.seen

  -- 1 is added to the queued word for the call that was announced
  pub record Queues (p : ℕ) (entry : Entry J) (v : View J) (n : ℕ) (w : View J) : Type 0 where
    pub does : Does p (Queue entry) v w
    pub own : n ≡ queued_in p v.seen
    pub list : w.client.list ≡ NoList
    pub batch : w.client.batch ≡ v.client.batch

  abbrev pub queues : Step (Option ℕ) → Sat J → ℕ → Sat J → Type 0
  queues st m n m' = (m'.1 ≡ m.1) × ((p : ℕ) (entry : Entry J) → m.0.role ≡ Sits p → m.0.client.list ≡ Calling entry → Queues p entry m.0 n m'.0)

  -- what is left of a list where what is ready was taken out
  abbrev pub line_taken : ℕ → ℕ → Known J → Line J
  line_taken number max k = with_taken number max record { out = k.out; waiting = k.waiting; coming = [] }

  abbrev pub known_taken : ℕ → ℕ → Known J → Known J
  known_taken number max k = record k { out = (line_taken number max k).out; moved = 0; waiting = (line_taken number max k).waiting }

  -- what is ready is taken out of the list, of which nothing was out, and a right goes with the batch
  pub record TakesOut (c p : ℕ) (k : Known J) (number max : ℕ) (v w : View J) : Type 0 where
    pub does : Does c (Take p number max k.moved) v w
    pub there : IsThere p k does.before
    pub list : w.client.list ≡ OfList p (known_taken number max k)
    pub batch : w.client.batch ≡ batch_of p k.finished (line_taken number max k).out

  abbrev pub takes_out : ℕ → ℕ → Step (Option ℕ) → Sat J → ℕ → Sat J → Type 0
  takes_out number max st m n m' = (m'.1 ≡ m.1) × ((c p : ℕ) (k : Known J) → m.0.role ≡ Sits c → m.0.client.list ≡ OfList p k → k.out ≡ None → TakesOut c p k number max m.0 m'.0)

  abbrev pub known_finished : ℕ → Known J → Known J
  known_finished count k = record k { finished = k.finished + count; out = None }

  -- the batch's count is added to the finished word, with the list and the batch: the batch was the one that was out of that list
  pub record Finishes (c p : ℕ) (k : Known J) (first count : ℕ) (v : View J) (n : ℕ) (w : View J) : Type 0 where
    pub does : Does c (Finish p count) v w
    pub there : IsThere p k does.before
    pub found : n ≡ k.finished
    pub first_is : first ≡ k.finished
    pub was_out : k.out ≡ Some count
    pub list : w.client.list ≡ OfList p (known_finished count k)
    pub batch : w.client.batch ≡ NoBatch

  abbrev pub finishes : Step (Option ℕ) → Sat J → ℕ → Sat J → Type 0
  finishes st m n m' = (m'.1 ≡ m.1) × ((c p : ℕ) (k : Known J) (first count : ℕ) → m.0.role ≡ Sits c → m.0.client.list ≡ OfList p k → m.0.client.batch ≡ OfBatch p first count → Finishes c p k first count m.0 n m'.0)

  -- a word was loaded: what was told is covered, and no right has changed
  pub record Looks (c : ℕ) (act : Act J) (v w : View J) : Type 0 where
    pub does : Does c act v w
    pub covers : IsBeginning v.told w.seen
    pub list : w.client.list ≡ v.client.list
    pub batch : w.client.batch ≡ v.client.batch

  -- a call that had come in had no room in the list, which is as the right knows it
  pub record LacksThere (c p : ℕ) (k : Known J) (v w : View J) : Type 0 where
    pub looks : Looks c (LackRoom p k.moved) v w
    pub there : IsThere p k looks.does.before

  abbrev pub lacks_room : Step (Option ℕ) → Sat J → ℕ → Sat J → Type 0
  lacks_room st m n m' = (m'.1 ≡ m.1) × ((c p : ℕ) (k : Known J) → m.0.role ≡ Sits c → m.0.client.list ≡ OfList p k → LacksThere c p k m.0 m'.0)

  -- no more are found than may be queued
  abbrev pub counts_queued : Step (Option ℕ) → Sat J → ℕ → Sat J → Type 0
  counts_queued st m n m' = (m'.1 ≡ m.1) × ((c p : ℕ) → m.0.role ≡ Sits c → st.word ≡ queued_place p → Looks c (LoadQueued p n) m.0 m'.0) × (n ≤ most_calls)

  -- no more are found than were queued, and all batches were finished by processors that are there
  abbrev pub counts_finished : ℕ → Step (Option ℕ) → Sat J → ℕ → Sat J → Type 0
  counts_finished processors st m n m' = (m'.1 ≡ m.1) × ((c p : ℕ) → m.0.role ≡ Sits c → st.word ≡ finished_place p → Looks c (LoadFinished p n) m.0 m'.0) × ((p : ℕ) → st.word ≡ finished_place p → n ≤ queued_in p m'.0.seen) × AreTakers processors m'.0.seen

  -- a word was loaded, and the load is no deed: all that was done until then is seen, with what was told, and of the seat's own just what it knew. All batches there were finished by processors that are there
  pub record FindsAll (processors c : ℕ) (v w : View J) : Type 0 where
    pub since : IsBeginning v.seen w.seen
    pub own : deeds_of c w.seen ≡ deeds_of c v.seen
    pub covers : IsBeginning v.told w.seen
    pub loads : AreTrue w.seen
    pub takers : AreTakers processors w.seen

  abbrev pub found_all : ℕ → Step (Option ℕ) → Sat J → ℕ → Sat J → Type 0
  found_all processors st m n m' = (m' ≡ (record m.0 { seen = m'.0.seen; told = [] }, m.1)) × ((c : ℕ) → m.0.role ≡ Sits c → FindsAll processors c m.0 m'.0)

  -- what was told has just the seat's own deeds of its own, each load there found what was counted, and all batches there were finished by processors that are there
  pub record IsAdmitted (processors c : ℕ) (v : View J) : Type 0 where
    pub own : deeds_of c v.told ≡ deeds_of c v.seen
    pub loads : AreTrue v.told
    pub takers : AreTakers processors v.told

  -- a word was loaded, and the load is no deed: just what was told is seen
  abbrev pub admitted : ℕ → Step (Option ℕ) → Sat J → ℕ → Sat J → Type 0
  admitted processors st m n m' = (m' ≡ (record m.0 { seen = m.0.told; told = [] }, m.1)) × ((c : ℕ) → m.0.role ≡ Sits c → IsAdmitted processors c m.0)

  -- a batch of so many of a processor is out, for one who has seen this: its first number is the finished count, and its jobs were queued and are not finished
  pub record IsOut (p first count : ℕ) (seen : List (Deed J)) : Type 0 where
    pub first_is : first ≡ finished_in p seen
    pub queued : finished_in p seen + count ≤ queued_in p seen

  -- a word was loaded with a batch's right, and the load is no deed: all that was done until then is seen, and the batch is out there
  abbrev pub found_out : ℕ → Step (Option ℕ) → Sat J → ℕ → Sat J → Type 0
  found_out processors st m n m' = found_all processors st m n m' × ((p first count : ℕ) → m.0.client.batch ≡ OfBatch p first count → IsOut p first count m'.0.seen)

  -- the queued word of a list's processor was loaded with its right, and the load is no deed: all that was done until then is seen, and the list is there as the right knows it, and knows how many were queued
  abbrev pub found_list : ℕ → Step (Option ℕ) → Sat J → ℕ → Sat J → Type 0
  found_list processors st m n m' = (m'.1 ≡ m.1) × ((c : ℕ) → m.0.role ≡ Sits c → FindsAll processors c m.0 m'.0)
      × ((p : ℕ) (k : Known J) → m.0.client.list ≡ OfList p k → st.word ≡ queued_place p → (m'.0 ≡ record m.0 { client = record m.0.client { list = OfList p (record k { queued = n }) }; seen = m'.0.seen; told = [] }) × (n ≡ queued_in p m'.0.seen) × IsThere p k m'.0.seen × (n ≤ most_calls))
