-- How the fields of a seat, a list, a batch and of all callbacks are seen, and what is always true of them.
use Rattle.std.specs.Prelude.{◌≡◌, ℕ, ◌<◌, ◌≤◌, ◌↔◌, ◌⊎◌, IsTrue, IsSome, List, [], ◌∷◌, ◌++◌, All, Some, length, map, slice_index_or}
use Rattle.std.specs.Arc.{arc_value}
use Rattle.atomic_table.specs.Seated.{TableId}
use Rattle.keep.specs.Views.{KeepView}
use Rattle.sections.specs.Sights.{SightView}
use Rattle.intake.specs.Views.{LazyInletView}
use Rattle.calls.specs.declared.entry.Entry.{Entry}
use Rattle.calls.specs.declared.entry.Arrival.{Arrival}
use Rattle.calls.specs.declared.seat.CallSeat.TheInside as seat
use Rattle.calls.specs.declared.list.List.TheInside as list
use Rattle.calls.specs.declared.batch.Batch.TheInside as batch
use Rattle.calls.specs.declared.spot.Spot.TheInside as spot
use Rattle.calls.specs.declared.calls.Calls.TheInside as calls
use Rattle.calls.specs.declared.barrier.Ticket.TheInside as ticket
use Rattle.calls.specs.declared.sight.TallySight.TheInside as note
use Rattle.calls.specs.declared.receipt.Receipt.TheInside as receipt
use Rattle.calls.specs.Tallies.{finished_place, word_count, most_calls, queued_in, AreTrue}
use Rattle.calls.specs.Lines.{calls_in}
use Rattle.calls.specs.Seats.{IsPlaced, IsAtRest, IsListSeat, IsBatchSeat, known_in, next_known, first_known}
use Rattle.calls.specs.Waiting.{AreWaiting, wrapped, entries_of}
use Rattle.calls.specs.Views.{CallSeatView, ListKey, ListView, BatchView, NoteView, ReceiptView, TicketView, CallsView}
use Rattle.calls.specs.Arrivals.{GoesOn, entries_in}
use Rattle.calls.specs.Barriers.{IsQueued, IsCallOf}

module _ {J : Type 0} where
  -- the end of a processor's line at which these calls came in. The sight goes as far as all who queued them
  pub record IsIntake (tallies : TableId) (p : ℕ) (inlet : LazyInletView (Arrival J) ListKey) (sight : SightView) (calls : List (Entry J)) : Type 0 where
    pub key : inlet.key ≡ Some record { domain = sight.domain; tallies = tallies; processor = p }
    pub pushed : entries_in inlet.pushed ≡ calls
    pub before : All (λ (y : Arrival J). GoesOn y.sight sight) inlet.pushed

module _ {J : Type 0} where
  -- where nothing was taken out, or that of the last one
  abbrev pub IsLast : List (Arrival J) → SightView → Type 0
  IsLast taken given = (taken ≡ []) ⊎ ((front : List (Arrival J)) × (y : Arrival J) × (taken ≡ front ++ y ∷ []) × (given ≡ y.sight))

module _ {J A : Type 0} where
  abbrev pub view_of_seat : seat.Inside J A → CallSeatView J
  view_of_seat s = record { domain = s.sight.domain; tallies = s.seat.table_id; processors = (arc_value s.table).shared.key.processors; processor = s.processor; seen = s.seat.me.0.seen }

  pub record IsCallSeat (s : seat.Inside J A) : Type 0 where
    pub placed : IsPlaced (arc_value s.table).shared.key (arc_value s.table).shared.table_id s.seat
    pub rests : IsAtRest s.processor (arc_value s.table).shared.key s.seat.me.0
    pub loads : AreTrue s.seat.me.0.seen
    pub queued : s.queued ≡ queued_in s.processor s.seat.me.0.seen
    pub few : s.queued ≤ most_calls
    pub intake : IsIntake s.seat.table_id s.processor s.inlet s.sight (calls_in s.processor s.seat.me.0.seen)

module _ {J A : Type 0} where
  abbrev pub view_of_list : list.Inside J A → ListView J
  view_of_list l = let k = known_in l.seat.me.0.client.list in record { tallies = l.seat.table_id; processor = l.processor; counted = k.queued; finished = k.finished; out = k.out; moved = k.moved; entries = k.waiting; given = l.given; sight = l.sight }

  pub record IsList (l : list.Inside J A) : Type 0 where
    pub seated : IsListSeat l.seat.table_id l.processor l.seat
    pub wrapping : l.waiting.entries ≡ wrapped (known_in l.seat.me.0.client.list).waiting
    pub waiting : AreWaiting l.given l.sight (known_in l.seat.me.0.client.list).waiting
    pub one_domain : l.given.domain ≡ l.sight.domain
    pub key : l.outlet.key ≡ Some record { domain = l.sight.domain; tallies = l.seat.table_id; processor = l.processor }
    pub last : IsLast l.outlet.taken l.given
    pub arrived : l.arrived ≡ length l.outlet.taken
    pub numbered : l.arrived ≡ next_known (known_in l.seat.me.0.client.list)
    pub few : l.arrived ≤ (known_in l.seat.me.0.client.list).queued
    pub most : (known_in l.seat.me.0.client.list).queued ≤ most_calls
    pub out : IsTrue l.out ↔ IsSome (known_in l.seat.me.0.client.list).out
    pub there : finished_place l.processor < l.seat.table_id.words

  abbrev pub view_of_batch : batch.Inside J A → BatchView J
  view_of_batch b = record { tallies = b.seat.table_id; processor = b.processor; first = first_known b.seat.me.0.client.batch; count = b.count; entries = entries_of b.entries.items }

  pub record IsBatch (b : batch.Inside J A) : Type 0 where
    pub seated : IsBatchSeat b.seat.table_id b.processor b.count b.seat
    pub wrapping : b.entries.items ≡ map Some (entries_of b.entries.items)

module _ {J : Type 0} where
  abbrev pub key_of_spot : spot.Inside J → ListKey
  key_of_spot s = record { domain = s.home; tallies = s.seat.table_id; processor = s.processor }

  abbrev pub view_of_note : note.Inside J → NoteView J
  view_of_note n = record { tallies = n.seat.table_id; seen = n.seat.me.0.seen }

module _ {J : Type 0} where
  abbrev pub view_of_receipt : receipt.Inside J → ReceiptView J
  view_of_receipt r = record { tallies = r.note.tallies; processor = r.processor; k = r.k; cookie = r.cookie; seen = r.note.seen }

  pub record IsReceipt (r : receipt.Inside J) : Type 0 where
    pub there : finished_place r.processor < r.note.tallies.words
    pub queued : IsQueued (view_of_receipt r) r.note.seen
    pub call : IsCallOf (view_of_receipt r) r.note.seen

-- the locks in order, each of the list of its processor
abbrev pub AreOfDomain : TableId → TableId → List (KeepView ListKey) → Type 0
AreOfDomain domain tallies locks = (p : ℕ) (d : KeepView ListKey) → p < length locks → (slice_index_or locks p d).key ≡ record { domain = domain; tallies = tallies; processor = p }

-- a table that there is none of
abbrev nowhere : TableId
nowhere = record { words = 0; slots = 0; views_name = 0; atom = 0; block = 0; offset = 0; slot_names = [] }

-- the domain and the tally words of the first lock's list. There always is one
abbrev pub domain_of : List (KeepView ListKey) → TableId
domain_of [] = nowhere
domain_of (lock ∷ locks) = lock.key.domain

abbrev pub tallies_of : List (KeepView ListKey) → TableId
tallies_of [] = nowhere
tallies_of (lock ∷ locks) = lock.key.tallies

module _ {J A : Type 0} where
  abbrev pub view_of_calls : calls.Inside J A → CallsView
  view_of_calls c = record { domain = domain_of c.lists.items; tallies = tallies_of c.lists.items; processors = length c.lists.items }

  pub record AreCalls (c : calls.Inside J A) : Type 0 where
    pub locks : AreOfDomain (domain_of c.lists.items) (tallies_of c.lists.items) c.lists.items
    pub wide : (tallies_of c.lists.items).words ≡ word_count (length c.lists.items)

module _ {J A : Type 0} where
  abbrev pub view_of_ticket : ticket.Inside J A → TicketView
  view_of_ticket t = record { tallies = t.note.tallies; numbers = t.numbers.items }

  pub record IsTicket (t : ticket.Inside J A) : Type 0 where
    pub whole : t.note.tallies.words ≡ word_count (length t.numbers.items)
