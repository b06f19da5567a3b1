-- What is measured, and what is known of a run.
use Rattle.std.specs.Prelude.{◌≡◌, ℕ, ◌*◌, ◌^◌, ◌≤◌, List}
use Rattle.srcubench.specs.declared.pairs.Reader.{Reader}
use Rattle.srcubench.specs.declared.asking.Asker.{Asker}
use Rattle.srcubench.specs.declared.work.Changes.{Changes}
use Rattle.srcubench.specs.declared.work.Changes.TheVariants.{Puts, ChainChanges, Installs}
use Rattle.srcubench.specs.declared.work.Periods.{Periods}
use Rattle.srcubench.specs.declared.work.Periods.TheVariants.{QuietPeriods, DrivenPeriods, DrivenAtOnce, Waits, WaitsAtOnce}
use Rattle.srcubench.specs.declared.work.Queues.{Queues}
use Rattle.srcubench.specs.declared.work.Queues.TheVariants.{Asks, AsksAlone, Entries, Queueing, Callbacks, Given}
use Rattle.srcubench.specs.declared.work.Reads.{Reads}
use Rattle.srcubench.specs.declared.work.Reads.TheVariants.{Pairs, HeldPairs, Finds, Boxes, ChainCalls, Looks}
use Rattle.srcubench.specs.declared.work.Work.{Work}
use Rattle.srcubench.specs.declared.work.Work.TheVariants.{Read, Period, Queue, Change}
use Rattle.srcubench.specs.Readers.{AreReadersOfOne}
use Rattle.srcubench.specs.Asking.{AreAskersOfOne, HasAskedAlone}
use Rattle.srcubench.specs.Calling.{HaveQueued, HavePassed}
use Rattle.srcubench.specs.Chaining.{HaveChanged, HaveCalled}
use Rattle.srcubench.specs.Driving.{HaveDriven, HaveDrivenAtOnce, HaveWaited}
use Rattle.srcubench.specs.Finding.{AreFindersOfOne}
use Rattle.srcubench.specs.Giving.{HaveGiven}
use Rattle.srcubench.specs.Held.{HaveMadeHeldPairs}
use Rattle.srcubench.specs.Periods.{HaveEnded}
use Rattle.srcubench.specs.Putting.{HavePut}
use Rattle.srcubench.specs.Tabling.{HaveInstalled, HaveLooked}
use Rattle.srcubench.specs.Waiting.{HaveWaitedAtOnce}

-- there is something to do

abbrev pub CanRead : Reads → Type 0
CanRead (Pairs threads pairs) = 1 ≤ pairs
CanRead (HeldPairs pairs) = 1 ≤ pairs
CanRead (Finds threads words times) = (1 ≤ times) × (words ≤ 16)
CanRead (Boxes threads times) = (1 ≤ times) × (threads ≤ 2 ^ 16)
CanRead (ChainCalls threads blocks times) = (1 ≤ times) × (threads ≤ 2 ^ 16) × (blocks ≤ 15)
CanRead (Looks threads leased times) = (1 ≤ times) × (threads ≤ 2 ^ 16)

abbrev pub CanPass : Periods → Type 0
CanPass (QuietPeriods processors periods) = 1 ≤ periods
CanPass (DrivenPeriods processors periods) = 1 ≤ periods
CanPass (DrivenAtOnce processors periods) = 1 ≤ periods
CanPass (Waits processors times) = 1 ≤ times
CanPass (WaitsAtOnce threads times) = 1 ≤ times

abbrev pub CanQueue : Queues → Type 0
CanQueue (Asks threads asks new) = (1 ≤ asks) × (asks ≤ 2 ^ 54) × (threads ≤ 2 ^ 16)
CanQueue (AsksAlone processors asks new) = (1 ≤ asks) × (asks ≤ 2 ^ 54) × (1 ≤ processors) × (processors ≤ 2 ^ 16)
CanQueue (Entries way batches) = (1 ≤ batches) × (batches ≤ 2 ^ 54)
CanQueue (Queueing threads jobs) = (1 ≤ threads * jobs) × (threads ≤ 2 ^ 16) × (jobs ≤ 2 ^ 40)
CanQueue (Callbacks threads jobs) = (1 ≤ threads * jobs) × (threads ≤ 2 ^ 16) × (jobs ≤ 2 ^ 40)
CanQueue (Given threads jobs ended) = (1 ≤ threads * jobs) × (threads ≤ 2 ^ 16) × (jobs ≤ 2 ^ 40)

abbrev pub CanChange : Changes → Type 0
CanChange (Puts times) = 1 ≤ times
CanChange (ChainChanges rounds) = (1 ≤ rounds) × (rounds ≤ 2 ^ 54)
CanChange (Installs times) = 1 ≤ times

abbrev pub CanRun : Work → Type 0
CanRun (Read reads) = CanRead reads
CanRun (Period periods) = CanPass periods
CanRun (Queue queues) = CanQueue queues
CanRun (Change changes) = CanChange changes

-- a run has done so much of it

abbrev pub IsRead : Reads → ℕ → Type 0
IsRead (Pairs threads pairs) done = (done ≡ pairs) × (readers : List Reader) × AreReadersOfOne threads pairs readers
IsRead (HeldPairs pairs) done = (done ≡ pairs) × HaveMadeHeldPairs pairs
IsRead (Finds threads words times) done = (done ≡ times) × (readers : List Reader) × AreFindersOfOne threads words times readers
IsRead (Boxes threads times) done = done ≡ times
IsRead (ChainCalls threads blocks times) done = (done ≡ times) × HaveCalled threads blocks times
IsRead (Looks threads leased times) done = (done ≡ times) × HaveLooked threads leased times

abbrev pub IsPassed : Periods → ℕ → Type 0
IsPassed (QuietPeriods processors periods) done = HaveEnded processors periods done
IsPassed (DrivenPeriods processors periods) done = (done ≡ periods) × HaveDriven processors periods
IsPassed (DrivenAtOnce processors periods) done = (done ≡ periods) × HaveDrivenAtOnce processors periods
IsPassed (Waits processors times) done = (done ≡ times) × HaveWaited processors times
IsPassed (WaitsAtOnce threads times) done = (done ≡ times) × HaveWaitedAtOnce threads times

abbrev pub IsQueued : Queues → ℕ → Type 0
IsQueued (Asks threads asks new) done = (done ≡ asks) × (askers : List Asker) × AreAskersOfOne threads new asks askers
IsQueued (AsksAlone processors asks new) done = (done ≡ asks) × HasAskedAlone processors new asks
IsQueued (Entries way batches) done = done ≡ 8 * batches
IsQueued (Queueing threads jobs) done = (done ≡ threads * jobs) × HaveQueued threads jobs
IsQueued (Callbacks threads jobs) done = (done ≡ threads * jobs) × HavePassed threads jobs
IsQueued (Given threads jobs ended) done = (done ≡ threads * jobs) × HaveGiven threads jobs

abbrev pub IsChanged : Changes → ℕ → Type 0
IsChanged (Puts times) done = (done ≡ times) × HavePut times
IsChanged (ChainChanges rounds) done = (done ≡ 2 * rounds) × HaveChanged rounds
IsChanged (Installs times) done = (done ≡ times) × HaveInstalled times

abbrev pub IsDone : Work → ℕ → Type 0
IsDone (Read reads) done = IsRead reads done
IsDone (Period periods) done = IsPassed periods done
IsDone (Queue queues) done = IsQueued queues done
IsDone (Change changes) done = IsChanged changes done
