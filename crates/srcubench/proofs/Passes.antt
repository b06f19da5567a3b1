-- Jobs that go in and come out.
use Rattle.std.proofs.Common.{◌≡◌, ℕ, zero, suc, ◌+◌, ◌<◌, ◌≤◌, min, not, List, [], ◌∷◌, All, Some, Result, Ok, Err, IsOk, IfOk, length, slice_index_or, filter, refl, sym, ap, ◌∙◌, subst, add-one, arith}
use Rattle.std.proofs.Math.Nat.{min-le_left}
use Rattle.onedom.specs.declared.event.Maker.TheVariants.{Processor}
use Rattle.onedom.specs.declared.event.Event.TheVariants.{Note}
use Rattle.onedom.specs.Histories.{open_sections}
use Rattle.onedom.proofs.CallerLemmas.{open_sections_plain}
use Rattle.sections.specs.declared.view.Bounds.{Bounds}
use Rattle.sections.specs.Words.{is_held}
use Rattle.sections.specs.Views as sections
use Rattle.calls.specs.declared.entry.Entry.{Entry}
use Rattle.calls.specs.Views.{CallSeatView, ListView, BatchView, CallsView, ReceiptView}
use Rattle.calls.specs.Calls.{IsTaken, TakesIn}
use Rattle.domain.specs.Views.{DomainView, CpuView, IsOf}
use Rattle.domain.specs.Waiting.{HasNoneOpen}
use Rattle.domain.specs.Calling.{CallsIn}
use Rattle.domain.specs.Making.{new_cpu, IsMade}
use Rattle.domain.specs.Meetings.{IsAllOf}
use Rattle.srcubench.specs.Calling.{QueuesAll, RunsBatch, RunsAll, AreOutcomes, OnEachOfNew}
use Rattle.srcubench.specs.Founding.{EachBecomes}

-- Queueing

-- a job that is queued opens no reading
call_none : (d : DomainView) (c c' : CpuView ℕ) (job : ℕ) (r : ReceiptView ℕ) → CallsIn d c job r c' → HasNoneOpen c → HasNoneOpen c'
call_none d c c' job r calls none = ap (λ l. length (filter (λ t. not (is_held t)) l)) (ap open_sections calls.queues.queues.note.adds.mine ∙ open_sections_plain c.cpu.mine (Note _ (Processor c.cpu.processor)) refl (λ s. refl)) ∙ none

pub queues_none : (d : DomainView) (jobs : ℕ) (c c' : CpuView ℕ) → QueuesAll d jobs c c' → HasNoneOpen c → HasNoneOpen c'
queues_none d zero c c' same none = subst HasNoneOpen (sym same) none
queues_none d (suc n) c c' (between, r, before, calls) none = call_none d between c' n r calls (queues_none d n c between before none)

-- one more
pub one_job : (d : DomainView) (n : ℕ) (c between c' : CpuView ℕ) (r : ReceiptView ℕ) → QueuesAll d n c between → CallsIn d between n r c' → QueuesAll d (n + 1) c c'
one_job d n c between c' r before calls = subst (λ k. QueuesAll d k c c') (sym (add-one n)) (between, r, before, calls)

-- Batches

few_of : {J : Type 0} (l l' : ListView J) (gone : List (Entry J)) (b : BatchView J) (n : ℕ) → IsTaken l gone (Some b) l' → length gone ≡ min 8 n → length b.entries ≤ 8
few_of l l' [] b n is many = absurd is
few_of l l' (e ∷ es) b n is many =
    let same : length b.entries ≡ length (e ∷ es) = ap (λ z. length z.entries) is.0 in
    let least = min-le_left 8 n in
    omega (arith, same, many, least)

-- a batch has eight jobs at most
pub few_taken : {J : Type 0} (k : CallsView) (p : ℕ) (c : sections.CpuView) (s : CallSeatView J) (c' : sections.CpuView) (s' : CallSeatView J) (b : BatchView J) → TakesIn k p 8 c s (Some b) c' s' → length b.entries ≤ 8
few_taken k p c s c' s' b t = few_of t.list t.list' t.takes.gone b _ t.takes.taken_is t.takes.gives.many

-- one more
pub one_batch : (d : DomainView) (came more : ℕ) (c b c' : CpuView ℕ) → RunsAll d came c b → RunsBatch d b.cpu.processor more b c' → RunsAll d (came + more) c c'
one_batch d came more c b c' before one = record { batches = more ∷ before.batches; runs = (b, before.runs, one); came = ap (λ n. n + more) before.came }

pub no_batch : (d : DomainView) (c : CpuView ℕ) → RunsAll d 0 c c
no_batch d c = record { batches = []; runs = refl; came = refl }

-- New processors

-- no reading is open there
pub all_ready : {J : Type 0} {bounds : _} (d : DomainView) (cpus : List (CpuView J)) → IsMade bounds d cpus → IsAllOf d cpus → All (λ c. IsOf d c × HasNoneOpen c) cpus
all_ready d cpus made all = λ k c lt. (all.here k c lt, subst HasNoneOpen (sym (made.each k c lt)) refl)

-- where there was no error, it became another one
became : {J : Type 0} {E : Type 0} (Becomes : CpuView J → Type 0) (r : Result (CpuView J) E) → IsOk r → IfOk r Becomes → (last : CpuView J) × Becomes last
became Becomes (Ok last) ok is = (last, is)
became Becomes (Err e) ok is = absurd cc

-- and where there was none, each did
pub each_became : {J : Type 0} {E : Type 0} (Becomes : CpuView J → CpuView J → Type 0) (cpus : List (CpuView J)) (outcomes : List (Result (CpuView J) E)) → AreOutcomes Becomes cpus outcomes → All IsOk outcomes → EachBecomes Becomes cpus
each_became {E = E} Becomes cpus outcomes are all = λ k c lt.
    let r : Result _ E = Ok c in
    let many = are.count in
    became (Becomes (slice_index_or cpus k c)) (slice_index_or outcomes k r) (all k r (omega (arith, lt, many))) (are.each k c r lt)

pub on_each : {J : Type 0} {E : Type 0} (Becomes : DomainView → CpuView J → CpuView J → Type 0) (bounds : Bounds) (d : DomainView) (cpus : List (CpuView J)) (outcomes : List (Result (CpuView J) E))
    → IsMade bounds d cpus → AreOutcomes (Becomes d) cpus outcomes → All IsOk outcomes → OnEachOfNew bounds.processors Becomes
on_each {J = J} {E = E} Becomes bounds d cpus outcomes made are all = record {
  domain = d;
  bounds = bounds;
  many = refl;
  shape = record { processors = bounds.processors; nodes = made.nodes };
  each = λ k lt.
      let c : CpuView J = new_cpu d bounds (record { processors = bounds.processors; nodes = made.nodes }) k in
      let r : Result (CpuView J) E = Ok c in
      let count = made.count in
      let many = are.count in
      let there : k < length cpus = omega (arith, lt, count) in
      became (Becomes d c) (slice_index_or outcomes k r) (all k r (omega (arith, there, many))) (subst (λ (z : CpuView J). IfOk (slice_index_or outcomes k r) (Becomes d z)) (made.each k c there) (are.each k c r there));
}
