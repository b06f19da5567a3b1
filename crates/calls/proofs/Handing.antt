-- What a call learns of a list when it has its lock.
use Rattle.std.proofs.Common.{◌≡◌, ℕ, ◌<◌, List, [], ◌∷◌, Option, Some, None, Result, Ok, Err, length, ap, sym, ◌∙◌, subst}
use Rattle.std.specs.Prelude.{slice_index_or, MatchResult, IfOk, IfSome, IsSome}
use Rattle.atomic_table.specs.Seated.{TableId}
use Rattle.sections.specs.Glossary.{CpuView, IsSameCpu}
use Rattle.keep.specs.Views.{KeepView}
use Rattle.calls.specs.Glossary.{Entry, CallRefusal, TakeRefusal, CallSeatView, ListKey, ListView, BatchView, CallsView, key_of, ReceiptView, gathered, line_in, IsSameSeat, IsCause, Refuses, LooksAt, MovesAll, Came, LacksRoom, IsTaken, TakesAll, TakesNothing, FindsOut, FindsLens, IsListOf, IsOfProcessor, QueuesIn, RefusesIn, TakesIn, InvokesIn, LacksRoomIn, TakesNothingIn, FindsLensIn, AreOfDomain}
use Rattle.calls.specs.declared.refusals.CallRefusal.TheVariants.{Exhausted, Memory}
use Rattle.calls.specs.declared.refusals.TakeRefusal.TheVariants.{Invoking, Memory as NoMemory}
use Rattle.segs.specs.MarkedList.{Mark, lens, numbers}
use Rattle.calls.specs.Calls.{Queues}

-- it is that of the processor whose lock it was
pub behind_lock : {J : Type 0} (domain tallies : TableId) (locks : List (KeepView ListKey)) (k : CallsView) (p : ℕ) (lock : KeepView ListKey) (l : ListView J)
    → k ≡ record { domain = domain; tallies = tallies; processors = length locks } → AreOfDomain domain tallies locks → p < length locks → lock ≡ slice_index_or locks p lock → key_of l ≡ lock.key → IsListOf k p l
behind_lock domain tallies locks k p lock l is all lt at key = key ∙ (ap (λ (z : KeepView ListKey). z.key) at ∙ (all p lock lt ∙ (λ i. record { domain = (sym is i).domain; tallies = (sym is i).tallies; processor = p })))

-- what a take answers
abbrev pub Takings : {J : Type 0} → ℕ → ListView J → CpuView → CallSeatView J → Result (Option (BatchView J)) TakeRefusal → ListView J → CpuView → CallSeatView J → Type 0
Takings max l c s r l' c' s' = MatchResult r (λ taken. TakesAll max l c s taken l' c' s') (λ refusal. TakesNothing l c s refusal l' c' s')

module _ {J : Type 0} where
  -- what was moved leaves what never changes
  came_same_key : (l m : ListView J) → Came l m → key_of m ≡ key_of l
  came_same_key l m h = ap key_of h.is

  nothing_same_key : (l : ListView J) (c : CpuView) (s : CallSeatView J) (why : TakeRefusal) (l' : ListView J) (c' : CpuView) (s' : CallSeatView J) → TakesNothing l c s why l' c' s' → key_of l' ≡ key_of l
  nothing_same_key l c s Invoking l' c' s' h = ap key_of h.list
  nothing_same_key l c s NoMemory l' c' s' h = came_same_key l l' h.1.came

  -- a take leaves what never changes
  pub same_key_taken : (max : ℕ) (l : ListView J) (c : CpuView) (s : CallSeatView J) (r : Result (Option (BatchView J)) TakeRefusal) (l' : ListView J) (c' : CpuView) (s' : CallSeatView J) → Takings max l c s r l' c' s' → key_of l' ≡ key_of l
  same_key_taken max l c s (Ok t) l' c' s' h = h.takes.gives.same ∙ came_same_key l h.gathered h.came
  same_key_taken max l c s (Err e) l' c' s' h = nothing_same_key l c s e l' c' s' h

  -- and so do lens
  pub same_key_found : {E : Type 0} (l : ListView J) (s : CallSeatView J) (r : Result (List ℕ × List ℕ) E) (l' : ListView J) (s' : CallSeatView J) → MatchResult r (λ found. FindsLens l s found l' s') (λ _. LacksRoom l s l' s') → key_of l' ≡ key_of l
  same_key_found l s (Ok t) l' s' h = h.same
  same_key_found l s (Err e) l' s' h = came_same_key l l' h.came

-- Whose the calls are

pub still_same : (c d : CpuView) → d ≡ c → IsSameCpu c d
still_same c d e = (ap (λ z. z.domain) e, ap (λ z. z.processors) e, ap (λ z. z.sections) e, ap (λ z. z.processor) e)

module _ {J : Type 0} where
  pub still_seat : (s t : CallSeatView J) → t ≡ s → IsSameSeat s t
  still_seat s t e = (ap (λ z. z.tallies) e, ap (λ z. z.processors) e, ap (λ z. z.processor) e, ap (λ z. z.domain) e)

  cause_same : (c : CpuView) (s : CallSeatView J) (why : CallRefusal) (c' : CpuView) → IsCause c s why c' → IsSameCpu c c'
  cause_same c s Exhausted c' h = still_same c c' h.1
  cause_same c s Memory c' h = h.1.3.adds.same

  pub same_pushed : (c : CpuView) (s : CallSeatView J) (job : J) (r : Result (ReceiptView J) (J × CallRefusal)) (c' : CpuView) (s' : CallSeatView J)
      → MatchResult r (λ receipt. Queues c s job receipt c' s') (λ refused. Refuses c s job refused c' s') → IsSameCpu c c' × IsSameSeat s s'
  same_pushed c s job (Ok r) c' s' h = (h.note.adds.same, h.tally.same)
  same_pushed c s job (Err e) c' s' h = (cause_same c s e.1 c' h.cause, still_seat s s' h.seat)

  nothing_same : (l : ListView J) (c : CpuView) (s : CallSeatView J) (why : TakeRefusal) (l' : ListView J) (c' : CpuView) (s' : CallSeatView J) → TakesNothing l c s why l' c' s' → IsSameCpu c c' × IsSameSeat s s'
  nothing_same l c s Invoking l' c' s' h = (still_same c c' h.cpu, h.looks.same)
  nothing_same l c s NoMemory l' c' s' h = (still_same c c' h.0, h.1.does.same)

  pub same_taken : (max : ℕ) (l : ListView J) (c : CpuView) (s : CallSeatView J) (r : Result (Option (BatchView J)) TakeRefusal) (l' : ListView J) (c' : CpuView) (s' : CallSeatView J) → Takings max l c s r l' c' s' → IsSameCpu c c' × IsSameSeat s s'
  same_taken max l c s (Ok t) l' c' s' h = (h.takes.gives.asks.adds.same, h.takes.gives.tally.same)
  same_taken max l c s (Err e) l' c' s' h = nothing_same l c s e l' c' s' h

  batch_taken : (l l' : ListView J) (gone : List (Entry J)) (b : BatchView J) → IsTaken l gone (Some b) l' → (b.tallies ≡ l.tallies) × (b.processor ≡ l.processor)
  batch_taken l l' [] b h = absurd h
  batch_taken l l' (e ∷ es) b h = (ap (λ (z : BatchView _). z.tallies) h.0, ap (λ (z : BatchView _). z.processor) h.0)

  pub batch_of_list : (k : CallsView) (p max : ℕ) (l : ListView J) (c : CpuView) (s : CallSeatView J) (r : Result (Option (BatchView J)) TakeRefusal) (l' : ListView J) (c' : CpuView) (s' : CallSeatView J) → IsListOf k p l
      → Takings max l c s r l' c' s' → IfOk r (λ taken. IfSome taken (λ b. IsOfProcessor k p b))
  batch_of_list k p max l c s (Ok None) l' c' s' of h = tt
  batch_of_list k p max l c s (Ok (Some b)) l' c' s' of h = let t = batch_taken h.gathered l' h.takes.gone b h.takes.taken_is in let key = came_same_key l h.gathered h.came ∙ of in (t.0 ∙ ap (λ (z : ListKey). z.tallies) key, t.1 ∙ ap (λ (z : ListKey). z.processor) key)
  batch_of_list k p max l c s (Err e) l' c' s' of h = tt

  -- a batch of the list is out
  pub out_in_list : (k : CallsView) (p : ℕ) (l : ListView J) (c : CpuView) (s : CallSeatView J) (l' : ListView J) (c' : CpuView) (s' : CallSeatView J) → IsListOf k p l → FindsOut l c s l' c' s' → InvokesIn p c s c' s'
  out_in_list k p l c s l' c' s' of h = record {
    cpu = h.cpu;
    looks = subst (λ (z : ℕ). LooksAt z s s') (ap (λ (z : ListKey). z.processor) of) h.looks;
    out = subst (λ (z : ℕ). IsSome (line_in z s'.seen).out) (ap (λ (z : ListKey). z.processor) of) (subst (λ (o : Option ℕ). IsSome o) h.is.out h.invoking);
  }

  -- there was a call that was not moved to the list
  room_in_list : (k : CallsView) (p : ℕ) (l : ListView J) (s : CallSeatView J) (l' : ListView J) (s' : CallSeatView J) → IsListOf k p l → LacksRoom l s l' s' → LacksRoomIn p s s'
  room_in_list k p l s l' s' of h =
      let after : l'.processor ≡ p = ap (λ (z : ListKey). z.processor) (came_same_key l l' h.came ∙ of) in
      subst (λ (q : ℕ). LacksRoomIn q s s') after record { moved = l'.moved; does = h.does; short = h.short }

  nothing_in_list : (k : CallsView) (p : ℕ) (l : ListView J) (c : CpuView) (s : CallSeatView J) (why : TakeRefusal) (l' : ListView J) (c' : CpuView) (s' : CallSeatView J) → IsListOf k p l → TakesNothing l c s why l' c' s' → TakesNothingIn p c s why c' s'
  nothing_in_list k p l c s Invoking l' c' s' of h = out_in_list k p l c s l' c' s' of h
  nothing_in_list k p l c s NoMemory l' c' s' of h = (h.0, room_in_list k p l s l' s' of h.1)

  -- what was taken of the list is so of that of the processor
  pub taken_in_list : (k : CallsView) (p max : ℕ) (l : ListView J) (c : CpuView) (s : CallSeatView J) (r : Result (Option (BatchView J)) TakeRefusal) (l' : ListView J) (c' : CpuView) (s' : CallSeatView J) → IsListOf k p l
      → Takings max l c s r l' c' s' → MatchResult r (λ taken. TakesIn k p max c s taken c' s') (λ refusal. TakesNothingIn p c s refusal c' s')
  taken_in_list k p max l c s (Ok t) l' c' s' of h = record { list = h.gathered; of_calls = came_same_key l h.gathered h.came ∙ of; list' = l'; takes = h.takes }
  taken_in_list k p max l c s (Err e) l' c' s' of h = nothing_in_list k p l c s e l' c' s' of h

  -- what was found of the list is so of that of the processor
  lens_in_list : (k : CallsView) (p : ℕ) (l : ListView J) (s : CallSeatView J) (found : List ℕ × List ℕ) (l' : ListView J) (s' : CallSeatView J) → IsListOf k p l → FindsLens l s found l' s' → FindsLensIn p s found s'
  lens_in_list k p l s found l' s' of h =
      let same : l.processor ≡ p = ap (λ (z : ListKey). z.processor) of in
      let after : l'.processor ≡ p = ap (λ (z : ListKey). z.processor) h.same ∙ same in record {
        looks = subst (λ (z : ℕ). LooksAt z s s') same h.looks;
        moved = l'.moved;
        all = subst (λ (q : ℕ). MovesAll q l'.moved s.seen s'.seen) same h.all;
        found_is = h.found_is ∙ (ap (λ (z : List (Entry J × Mark)). (lens z, numbers z)) h.is.entries ∙ ap (λ (q : ℕ). (lens (gathered l'.moved (line_in q s'.seen)).waiting, numbers (gathered l'.moved (line_in q s'.seen)).waiting)) after);
      }

  pub found_in_list : {E : Type 0} (k : CallsView) (p : ℕ) (l : ListView J) (s : CallSeatView J) (r : Result (List ℕ × List ℕ) E) (l' : ListView J) (s' : CallSeatView J) → IsListOf k p l
      → MatchResult r (λ found. FindsLens l s found l' s') (λ _. LacksRoom l s l' s') → MatchResult r (λ found. FindsLensIn p s found s') (λ _. LacksRoomIn p s s')
  found_in_list k p l s (Ok found) l' s' of h = lens_in_list k p l s found l' s' of h
  found_in_list k p l s (Err e) l' s' of h = room_in_list k p l s l' s' of h

  -- a job that was queued is one at these tally words
  pub queued_in_calls : (k : CallsView) (c : CpuView) (s : CallSeatView J) (job : J) (r : Result (ReceiptView J) (J × CallRefusal)) (c' : CpuView) (s' : CallSeatView J) → s.tallies ≡ k.tallies
      → MatchResult r (λ receipt. Queues c s job receipt c' s') (λ refused. Refuses c s job refused c' s') → MatchResult r (λ receipt. QueuesIn k c s job receipt c' s') (λ refused. RefusesIn k c s job refused c' s')
  queued_in_calls k c s job (Ok r) c' s' here h = record { tallies = h.noted.0 ∙ (h.tally.same.0 ∙ here); queues = h }
  queued_in_calls k c s job (Err e) c' s' here h = record { refuses = h }
