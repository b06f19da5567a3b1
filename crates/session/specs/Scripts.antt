-- What a line of a script means: which reply it gets, and what it changes.
use Rattle.std.specs.Prelude.{◌≡◌, ℕ, ◌*◌, ◌%◌, ◌<◌, ◌≤◌, Bool, true, false, MatchBool, List, [], ◌∷◌, ◌++◌, length, map, filter, replicate, Option, Some, None, slice_get, slice_index, remove, slice_set, if◌then◌else◌, ◌⊎◌, not}
use Rattle.std.specs.List.{list_all}
use Rattle.sseq.specs.declared.index.Index.{Index}
use Rattle.sseq.specs.declared.index.Index.TheVariants.{Zero, One}
use Rattle.sseq.specs.declared.number.Phase.{Phase}
use Rattle.sseq.specs.Numbers.{state_bits}
use Rattle.sections.specs.declared.limits.Limits.{Limits}
use Rattle.sections.specs.Calls.{IsNoCookie}
use Rattle.sections.specs.declared.writer.Standing.TheVariants.{Blank, Current}
use Rattle.sections.specs.Words.{locks}
use Rattle.sections.specs.Making.{IsCount}
use Rattle.onedom.specs.Histories.{ended_in}
use Rattle.scan.specs.declared.progress.Progress.{Progress}
use Rattle.scan.specs.declared.progress.Progress.TheVariants as progress
use Rattle.scan.specs.declared.progress.NotStarted.{NotStarted}
use Rattle.scan.specs.declared.progress.NotStarted.TheVariants as refusal
use Rattle.scan.specs.Standings.{index_now, number_now}
use Rattle.segs.specs.MarkedList.{lens, numbers}
use Rattle.calls.specs.declared.entry.Entry.{Entry}
use Rattle.domain.specs.declared.domain.cleanup.Totals.{Totals}
use Rattle.domain.specs.declared.domain.cleanup.InUse.TheVariants as busy
use Rattle.calls.specs.declared.refusals.CallRefusal.{CallRefusal}
use Rattle.calls.specs.declared.refusals.CallRefusal.TheVariants as calling
use Rattle.calls.specs.declared.refusals.TakeRefusal.{TakeRefusal}
use Rattle.calls.specs.declared.refusals.TakeRefusal.TheVariants as taking
use Rattle.calls.specs.Lines.{no_calls}
use Rattle.solo.specs.declared.queued.Queued.{Queued}
use Rattle.domain.specs.Acting.{Act as Doing, asks_whether, finishes}
use Rattle.solo.specs.Batches.{AreReady, jobs_of}
use Rattle.solo.specs.Courses.{Course, Does as DoesAct}
use Rattle.solo.specs.Calls as solo
use Rattle.solo.specs.Calls.{new_course, Begins, IsOutOfSections, Ends, GivesCookie, Asks as AsksIfDone, AsksFor, ReadsNumber, OnList, QueuesLast, QueuesNone, GivesFirst, PutsOut, TakesNone, FinishesOut, Starts, StartsNone, Steps, Advances, IsAskedTooMuch}
use Rattle.solo.specs.Cleanup.{IsTakenDown, IsInUse as IsInUseFor}
use Rattle.solo.specs.Barriers.{AreReached}
use Rattle.solo.specs.Versions.{leases, Visits}
use Rattle.solo.specs.Chains.{Registers, RefusesRegister, Unregisters, RefusesUnregister}
use Rattle.solo.specs.Tables.{Installs, IsNotInstalled, Removes, IsNotRemoved}
use Rattle.notify.specs.declared.block.Block.{Block}
use Rattle.notify.specs.declared.refusals.RegisterRefusal.{RegisterRefusal}
use Rattle.notify.specs.declared.refusals.RegisterRefusal.TheVariants as register
use Rattle.notify.specs.declared.refusals.UnregisterRefusal.{UnregisterRefusal}
use Rattle.notify.specs.declared.refusals.UnregisterRefusal.TheVariants as unregister
use Rattle.notify.specs.Calling.{Answers as AnswersOf}
use Rattle.notify.specs.Chains.{ChainState}
use Rattle.plugs.specs.declared.rows.Row.{Row}
use Rattle.plugs.specs.declared.refusals.InstallRefusal.{InstallRefusal}
use Rattle.plugs.specs.declared.refusals.InstallRefusal.TheVariants as install
use Rattle.plugs.specs.declared.refusals.RemoveRefusal.{RemoveRefusal}
use Rattle.plugs.specs.declared.refusals.RemoveRefusal.TheVariants as remove
use Rattle.plugs.specs.Tables.{plug_of}
use Rattle.plugs.specs.Views.{TableState}
use Rattle.requests.specs.Pairs.{value_of}
use Rattle.lines.specs.Lines.{words_of}
use Rattle.requests.specs.declared.fault.Fault.{Fault}
use Rattle.requests.specs.declared.fault.Fault.TheVariants.{Text}
use Rattle.requests.specs.declared.command.Command.{Command}
use Rattle.requests.specs.declared.command.Command.TheVariants as command
use Rattle.requests.specs.declared.cause.Cause.{Cause}
use Rattle.requests.specs.declared.cause.Cause.TheVariants.{Full, Empty, Processors, Memory, Exhausted, Running, NotACookie, Invoking, NoBatch, Sections, Period, Callbacks, There, NotThere, NoSlot}
use Rattle.requests.specs.declared.request.Act.{Act}
use Rattle.requests.specs.declared.request.Act.TheVariants as act
use Rattle.requests.specs.declared.members.Member.{Member as Asked}
use Rattle.requests.specs.declared.request.Request.{Request}
use Rattle.requests.specs.declared.request.Request.TheVariants as request
use Rattle.requests.specs.declared.reply.Segments.{Segments}
use Rattle.requests.specs.declared.reply.Reply.{Reply}
use Rattle.requests.specs.declared.reply.Reply.TheVariants as reply
use Rattle.requests.specs.Faults.{fault_of, is_skipped}
use Rattle.requests.specs.Requests.{WordsAsk}
use Rattle.requests.specs.Replies.{reply_text}
use Rattle.names.specs.OpenSections.{open_of}
use Rattle.names.specs.Bearers.{Bearer, Look, Reading, Held, Ticket, Lease}
use Rattle.names.specs.Parkings.{Parked}
use Rattle.session.specs.States.{State, Domains, DomainState, SetState, Member, has_cookie_of, domain_place, JobList, Slots, chain_now, table_now, Becomes, bearer_at, scene_of}

-- a job that was queued, with its name and its cookie
abbrev pub Job : Type 0
Job = Entry (List ℕ)

-- What one domain does

-- the command is refused for this cause, and nothing is done
pub record IsRefused (c : Command) (cause : Cause) (d : DomainState) (r : Reply) (d' : DomainState) : Type 0 where
  pub after : d' ≡ d
  pub reply : r ≡ reply.Refused c cause

-- a section of index i begins on the processor, and has the name
pub record BeginsUnder (limits : Limits) (p : ℕ) (i : Index) (bearer : ℕ → Bearer) (name : List ℕ) (d : DomainState) (r : Reply) (d' : DomainState) : Type 0 where
  pub section : ℕ
  pub begins : Begins limits p i section d.course d'.course
  pub names : Becomes name (Some (bearer section)) d.names d'.names
  pub rest : d' ≡ record d { names = d'.names; course = d'.course }
  pub reply : r ≡ reply.Index i

-- a look has the index that now is, and the name
pub record LooksUnder (name : List ℕ) (d : DomainState) (r : Reply) (d' : DomainState) : Type 0 where
  pub names : Becomes name (Some (Look (index_now d.course.standing))) d.names d'.names
  pub rest : d' ≡ record d { names = d'.names }
  pub reply : r ≡ reply.Look (index_now d.course.standing)

-- a section of the index that now is begins on the processor, for this command, unless as many were begun there as may
abbrev pub BeginsNow : Limits → ℕ → Command → (ℕ → Bearer) → List ℕ → DomainState → Reply → DomainState → Type 0
BeginsNow limits p c bearer name d r d' = BeginsUnder limits p (index_now d.course.standing) bearer name d r d'
    ⊎ IsOutOfSections limits p (index_now d.course.standing) d.course × IsRefused c Exhausted d r d'

-- it ends on the processor where it begins
abbrev pub Locks : Limits → ℕ → List ℕ → DomainState → Reply → DomainState → Type 0
Locks limits p name d r d' = BeginsNow limits p command.Lock (λ s. Reading s p) name d r d'

-- it may end on any processor
abbrev pub Downs : Limits → ℕ → List ℕ → DomainState → Reply → DomainState → Type 0
Downs limits p name d r d' = BeginsNow limits p command.Down Held name d r d'

-- the look is used up in vain: as many sections of its index were begun on the processor as may. Its name is free
pub record LosesLook (limits : Limits) (p : ℕ) (i : Index) (name : List ℕ) (d : DomainState) (r : Reply) (d' : DomainState) : Type 0 where
  pub full : IsOutOfSections limits p i d.course
  pub names : Becomes name None d.names d'.names
  pub rest : d' ≡ record d { names = d'.names }
  pub reply : r ≡ reply.Refused command.Enter Exhausted

-- the look of this name is used up, and a section of its index begins on the processor, under the same name
pub record Enters (limits : Limits) (p : ℕ) (name : List ℕ) (d : DomainState) (r : Reply) (d' : DomainState) : Type 0 where
  pub index : Index
  pub there : bearer_at name d.names ≡ Some (Look index)
  pub enters : BeginsUnder limits p index (λ s. Reading s p) name d r d' ⊎ LosesLook limits p index name d r d'

-- the section of this name ends, on its own processor, and the name is free
pub record Unlocks (name : List ℕ) (d : DomainState) (r : Reply) (d' : DomainState) : Type 0 where
  pub section : ℕ
  pub processor : ℕ
  pub there : bearer_at name d.names ≡ Some (Reading section processor)
  pub ends : Ends section processor d.course d'.course
  pub names : Becomes name None d.names d'.names
  pub rest : d' ≡ record d { names = d'.names; course = d'.course }
  pub reply : r ≡ reply.Closed

-- the held section of this name ends, on this processor, and the name is free
pub record Ups (p : ℕ) (name : List ℕ) (d : DomainState) (r : Reply) (d' : DomainState) : Type 0 where
  pub section : ℕ
  pub there : bearer_at name d.names ≡ Some (Held section)
  pub ends : Ends section p d.course d'.course
  pub names : Becomes name None d.names d'.names
  pub rest : d' ≡ record d { names = d'.names; course = d'.course }
  pub reply : r ≡ reply.Closed

-- the held section of this name is laid on the desk, where nothing lay
pub record LiesDown (name : List ℕ) (d : DomainState) (r : Reply) (d' : DomainState) : Type 0 where
  pub section : ℕ
  pub there : bearer_at name d.names ≡ Some (Held section)
  pub empty : d.desk ≡ None
  pub names : Becomes name None d.names d'.names
  pub rest : d' ≡ record d { names = d'.names; desk = Some (record { name = name; section = section }) }
  pub reply : r ≡ reply.Parked

abbrev pub Parks : List ℕ → DomainState → Reply → DomainState → Type 0
Parks name d r d' = LiesDown name d r d' ⊎ (lies : Parked) × (d.desk ≡ Some lies) × IsRefused command.Park Full d r d'

-- the section that lies on the desk is taken from there, and has its name
pub record PicksUp (d : DomainState) (r : Reply) (d' : DomainState) : Type 0 where
  pub parked : Parked
  pub there : d.desk ≡ Some parked
  pub names : Becomes parked.name (Some (Held parked.section)) d.names d'.names
  pub rest : d' ≡ record d { names = d'.names; desk = None }
  pub reply : r ≡ reply.Took parked.name

abbrev pub Unparks : DomainState → Reply → DomainState → Type 0
Unparks d r d' = PicksUp d r d' ⊎ (d.desk ≡ None) × IsRefused command.Unpark Empty d r d'

-- the names stay, and what lies on the desk, and the lists. This is the reply
pub record Replies (given : Reply) (d : DomainState) (r : Reply) (d' : DomainState) : Type 0 where
  pub rest : d' ≡ record d { course = d'.course }
  pub reply : r ≡ given

abbrev pub cause_of : NotStarted → Cause
cause_of refusal.Running = Running
cause_of refusal.Exhausted = Exhausted

-- what the engine does, in steps or until there is an answer; refused where a grace period is asked for, and as many have ended as may
abbrev pub Works : (Progress → Course → Course → Type 0) → Command → DomainState → Reply → DomainState → Type 0
Works work c d r d' = ((said : Progress) × work said d.course d'.course × Replies (reply.Progress said) d r d')
    ⊎ IsAskedTooMuch d.course × IsRefused c Exhausted d r d'

-- where the domain stands
pub record Shows (d : DomainState) (r : Reply) (d' : DomainState) : Type 0 where
  pub number : ℕ
  pub phase : Phase
  pub reads : ReadsNumber number d.course d'.course
  pub state : number % 4 ≡ state_bits phase
  pub replies : Replies (reply.State d.name
      (record { number = number; phase = phase })
      (record { index = index_now d.course.standing; zero = open_of Zero d.course.standing.history; one = open_of One d.course.standing.history; need = d.course.asked })) d r d'

-- the job of this name is queued with the cookie of now, and comes last in the processor's list
pub record Queues (p : ℕ) (name : List ℕ) (d : DomainState) (r : Reply) (d' : DomainState) : Type 0 where
  pub job : Queued
  pub queues : solo.Queues p job d.course d'.course
  pub list : OnList p (QueuesLast name job.cookie) d.lines d'.lines
  pub rest : d' ≡ record d { course = d'.course; lines = d'.lines }
  pub reply : r ≡ reply.Queued job.k job.cookie

abbrev pub cause_of_none : CallRefusal → Cause
cause_of_none calling.Exhausted = Exhausted
cause_of_none calling.Memory = Memory

abbrev pub Calls : ℕ → List ℕ → DomainState → Reply → DomainState → Type 0
Calls p name d r d' = Queues p name d r d'
    ⊎ (why : CallRefusal) × QueuesNone p why d.course d'.course × Replies (reply.Refused command.Call (cause_of_none why)) d r d'

-- the processor's list and the grace periods go on, and nothing else of the domain does
abbrev pub KeepsRest : DomainState → DomainState → Type 0
KeepsRest d d' = d' ≡ record d { course = d'.course; lines = d'.lines }

abbrev pub cause_of_taking : TakeRefusal → Cause
cause_of_taking taking.Invoking = Invoking
cause_of_taking taking.Memory = Memory

-- nothing is taken, as a cause stands against it
abbrev pub IsRefusedJobs : Command → ℕ → DomainState → Reply → DomainState → Type 0
IsRefusedJobs c p d r d' = (why : TakeRefusal) × TakesNone p why d.lines × IsRefused c (cause_of_taking why) d r d'

-- the processor is told that the cookie of the number `far` is done, and so many of its own jobs are finished
abbrev pub runs : ℕ → ℕ → ℕ → Doing
runs far count p = record (asks_whether far true p) { finished = count; owner = p; list = Some p }

-- these jobs leave the processor's list: of those that are ready by now the first ones, as many as there are, but no more than eight. A full grace period is over for each of them, and they were queued and not finished
pub record Leave (p : ℕ) (gone : List Job) (becomes : JobList → JobList → Type 0) (d d' : DomainState) : Type 0 where
  pub list : OnList p becomes d.lines d'.lines
  pub ready : AreReady 8 (4 * ended_in d.course.standing.history) d'.course.standing.history gone
  pub unfinished : solo.AreOut p (length gone) d.course
  pub rest : KeepsRest d d'

-- none of them is out then
pub record RunsFirst (number : ℕ) (gone : List Job) (was is : JobList) : Type 0 where
  pub gives : GivesFirst number 8 gone was is
  pub out : is.out ≡ None

-- they run, and are finished at once. The reply has their names, in order
pub record RunsJobs (p : ℕ) (d : DomainState) (r : Reply) (d' : DomainState) : Type 0 where
  pub gone : List Job
  pub leave : Leave p gone (RunsFirst (number_now d.course.standing) gone) d d'
  pub happens : DoesAct p (runs (4 * ended_in d.course.standing.history) (length gone)) d.course d'.course
  pub reply : r ≡ reply.Ran (jobs_of gone)

-- refused where a batch of the processor is out, and nothing is done
abbrev pub Runs : ℕ → DomainState → Reply → DomainState → Type 0
Runs p d r d' = RunsJobs p d r d' ⊎ IsRefusedJobs command.Run p d r d'

-- they are a batch that is out then, if there are any. The reply has their names, in order
pub record TakesJobs (p : ℕ) (d : DomainState) (r : Reply) (d' : DomainState) : Type 0 where
  pub gone : List Job
  pub leave : Leave p gone (PutsOut (number_now d.course.standing) 8 gone) d d'
  pub asks : AsksIfDone p (4 * ended_in d.course.standing.history) true d.course d'.course
  pub reply : r ≡ reply.TookJobs (jobs_of gone)

-- refused as `run` is
abbrev pub TakesOut : ℕ → DomainState → Reply → DomainState → Type 0
TakesOut p d r d' = TakesJobs p d r d' ⊎ IsRefusedJobs command.Batch p d r d'

-- the batch of the processor that is out, of so many jobs, is over, and they are finished
pub record IsOver (p : ℕ) (d : DomainState) (r : Reply) (d' : DomainState) : Type 0 where
  pub count : ℕ
  pub list : OnList p (FinishesOut count) d.lines d'.lines
  pub over : DoesAct p (finishes p count) d.course d'.course
  pub rest : KeepsRest d d'
  pub reply : r ≡ reply.Finished count

-- no batch of the processor is out
pub record HasNoneOut (p : ℕ) (lines : List JobList) : Type 0 where
  pub list : JobList
  pub there : slice_get lines p ≡ Some list
  pub none : list.out ≡ None

abbrev pub Finishes : ℕ → DomainState → Reply → DomainState → Type 0
Finishes p d r d' = IsOver p d r d' ⊎ HasNoneOut p d.lines × IsRefused command.Finish NoBatch d r d'

-- how many jobs are done, wait for each of two numbers, and have none; and these numbers, 0 where there is none
abbrev pub segments_of : List ℕ × List ℕ → Segments
segments_of told = record {
  done = slice_index told.0 0;
  wait = record { count = slice_index told.0 1; number = slice_index told.1 0 };
  ready = record { count = slice_index told.0 2; number = slice_index told.1 1 };
  next = slice_index told.0 3;
}

-- how the jobs of the processor wait
pub record ShowsSegments (p : ℕ) (d : DomainState) (r : Reply) (d' : DomainState) : Type 0 where
  pub list : JobList
  pub there : slice_get d.lines p ≡ Some list
  pub after : d' ≡ d
  pub reply : r ≡ reply.Segs (segments_of (lens list.waiting, numbers list.waiting))

abbrev pub TellsSegments : ℕ → DomainState → Reply → DomainState → Type 0
TellsSegments p d r d' = ShowsSegments p d r d' ⊎ IsRefused command.Segs Memory d r d'

-- a ticket has the name, which waits for all jobs that are queued now
pub record GivesTicket (name : List ℕ) (d : DomainState) (r : Reply) (d' : DomainState) : Type 0 where
  pub names : Becomes name (Some (Ticket d.course.queued)) d.names d'.names
  pub rest : d' ≡ record d { names = d'.names }
  pub reply : r ≡ reply.Ticket

abbrev pub StartsBarrier : List ℕ → DomainState → Reply → DomainState → Type 0
StartsBarrier name d r d' = GivesTicket name d r d' ⊎ IsRefused command.Barrier Memory d r d'

-- the ticket of this name is done where of each processor as many jobs are finished as it waits for. Nothing is done
pub record PollsBarrier (name : List ℕ) (d : DomainState) (r : Reply) (d' : DomainState) : Type 0 where
  pub numbers : List ℕ
  pub there : bearer_at name d.names ≡ Some (Ticket numbers)
  pub done : Bool
  pub reached : MatchBool done (AreReached numbers d.course.finished) (¬ AreReached numbers d.course.finished)
  pub after : d' ≡ d
  pub reply : r ≡ (if done then reply.Done else reply.NotYet)

-- The chain and the table

-- the chain, which is in the first cell, becomes so, the domain goes on so, and nothing else of it does
pub record ChangesChain (changes : ChainState → ChainState → Course → Course → Type 0) (d d' : DomainState) : Type 0 where
  pub was : ChainState
  pub is : ChainState
  pub cell : was.writer.cell ≡ 0
  pub known : d.chain ≡ chain_now was
  pub becomes : d'.chain ≡ chain_now is
  pub changed : changes was is d.course d'.course
  pub rest : d' ≡ record d { chain = d'.chain; course = d'.course }

-- and the table, which is in the second cell
pub record ChangesTable (changes : TableState → TableState → Course → Course → Type 0) (d d' : DomainState) : Type 0 where
  pub was : TableState
  pub is : TableState
  pub cell : was.writer.cell ≡ 1
  pub known : d.table ≡ table_now was
  pub becomes : d'.table ≡ table_now is
  pub changed : changes was is d.course d'.course
  pub rest : d' ≡ record d { table = d'.table; course = d'.course }

abbrev pub cause_of_registering : RegisterRefusal → Cause
cause_of_registering register.There = There
cause_of_registering register.Full = Full
cause_of_registering register.NoSlot = NoSlot
cause_of_registering register.Memory = Memory

abbrev pub cause_of_unregistering : UnregisterRefusal → Cause
cause_of_unregistering unregister.NotThere = NotThere
cause_of_unregistering unregister.NoSlot = NoSlot

abbrev pub cause_of_installing : InstallRefusal → Cause
cause_of_installing install.Full = Full
cause_of_installing install.NoSlot = NoSlot
cause_of_installing install.Memory = Memory

abbrev pub cause_of_removing : RemoveRefusal → Cause
cause_of_removing remove.NotThere = NotThere
cause_of_removing remove.NoSlot = NoSlot

-- the block is in the chain; or there is a cause why it is not
abbrev pub RegistersBlock : ℕ → Block → DomainState → Reply → DomainState → Type 0
RegistersBlock p block d r d' = ChangesChain (Registers p block) d d' × (r ≡ reply.Registered block.id)
    ⊎ (why : RegisterRefusal) × ChangesChain (RefusesRegister p block.id why) d d' × (r ≡ reply.Refused command.Register (cause_of_registering why))

-- the block of this id is gone
abbrev pub UnregistersBlock : ℕ → ℕ → DomainState → Reply → DomainState → Type 0
UnregistersBlock p id d r d' = ChangesChain (Unregisters p id) d d' × (r ≡ reply.Unregistered id)
    ⊎ (why : UnregisterRefusal) × ChangesChain (RefusesUnregister p id why) d d' × (r ≡ reply.Refused command.Unregister (cause_of_unregistering why))

-- the key has this plug then, from this version on
abbrev pub InstallsPlug : ℕ → ℕ → ℕ → DomainState → Reply → DomainState → Type 0
InstallsPlug p key plug d r d' = ((version : ℕ) × ChangesTable (Installs p key plug version) d d' × (r ≡ reply.Installed version))
    ⊎ (why : InstallRefusal) × ChangesTable (IsNotInstalled p key why) d d' × (r ≡ reply.Refused command.Install (cause_of_installing why))

-- it has none then
abbrev pub RemovesPlug : ℕ → ℕ → DomainState → Reply → DomainState → Type 0
RemovesPlug p key d r d' = ((version : ℕ) × ChangesTable (Removes p key version) d d' × (r ≡ reply.Removed version))
    ⊎ (why : RemoveRefusal) × ChangesTable (IsNotRemoved p key why) d d' × (r ≡ reply.Refused command.Remove (cause_of_removing why))

-- a section on the processor reads what is current in the cell, and has ended, unless none may begin there
abbrev pub ReadsCell : Limits → Command → ℕ → ℕ → Reply → DomainState → Reply → DomainState → Type 0
ReadsCell limits c p cell given d r d' = Visits limits p cell d.course d'.course × Replies given d r d'
    ⊎ IsOutOfSections limits p (index_now d.course.standing) d.course × IsRefused c Exhausted d r d'

-- the ids of the chain's blocks
abbrev pub ids_of : List Block → List ℕ
ids_of blocks = map (λ b. b.id) blocks

-- the handlers of its blocks were called with this value, and have given this answer
abbrev pub CallsChain : (ℕ → ℕ → ℕ → Type 0) → Limits → ℕ → ℕ → DomainState → Reply → DomainState → Type 0
CallsChain gives limits p value d r d' = ((last calls : ℕ) × Visits limits p 0 d.course d'.course × AnswersOf (gives value) d.chain.blocks last calls × Replies (reply.Called last calls) d r d')
    ⊎ IsOutOfSections limits p (index_now d.course.standing) d.course × IsRefused command.Notify Exhausted d r d'

abbrev pub plug_told : Option ℕ → Reply
plug_told None = reply.NoPlug
plug_told (Some plug) = reply.Plug plug

-- a section of the index that now is begins on the processor and finds the table's version. It is held under the name, with the rows of this version
pub record LeasesUnder (limits : Limits) (p : ℕ) (name : List ℕ) (d : DomainState) (r : Reply) (d' : DomainState) : Type 0 where
  pub room : locks p (index_now d.course.standing) d.course.standing.history < limits.sections
  pub section : ℕ
  pub slot : ℕ
  pub version : ℕ
  pub happens : DoesAct p (leases section (index_now d.course.standing) 1 slot version) d.course d'.course
  pub names : Becomes name (Some (Lease section d.table.rows)) d.names d'.names
  pub rest : d' ≡ record d { names = d'.names; course = d'.course }
  pub reply : r ≡ reply.Leased (index_now d.course.standing) version

abbrev pub LeasesVersion : Limits → ℕ → List ℕ → DomainState → Reply → DomainState → Type 0
LeasesVersion limits p name d r d' = LeasesUnder limits p name d r d'
    ⊎ IsOutOfSections limits p (index_now d.course.standing) d.course × IsRefused command.Lease Exhausted d r d'

-- the plug of the key in the rows of this lease. Nothing is done
pub record ReadsLease (name : List ℕ) (key : ℕ) (d : DomainState) (r : Reply) (d' : DomainState) : Type 0 where
  pub section : ℕ
  pub rows : List Row
  pub there : bearer_at name d.names ≡ Some (Lease section rows)
  pub names : (other : List ℕ) → bearer_at other d'.names ≡ bearer_at other d.names
  pub rest : d' ≡ record d { names = d'.names }
  pub reply : r ≡ plug_told (plug_of rows key)

-- the section of this lease ends on the processor, and its name is free
pub record ReleasesLease (p : ℕ) (name : List ℕ) (d : DomainState) (r : Reply) (d' : DomainState) : Type 0 where
  pub section : ℕ
  pub rows : List Row
  pub there : bearer_at name d.names ≡ Some (Lease section rows)
  pub ends : Ends section p d.course d'.course
  pub names : Becomes name None d.names d'.names
  pub rest : d' ≡ record d { names = d'.names; course = d'.course }
  pub reply : r ≡ reply.Released

-- what an act does to the domain, and its reply; but for a call of the chain
abbrev pub Does : Limits → Act → DomainState → Reply → DomainState → Type 0
Does limits act.State d r d' = Shows d r d'
Does limits (act.Look p name) d r d' = LooksUnder name d r d'
Does limits (act.Enter p name) d r d' = Enters limits p name d r d'
Does limits (act.Lock p name) d r d' = Locks limits p name d r d'
Does limits (act.Unlock name) d r d' = Unlocks name d r d'
Does limits (act.Down p name) d r d' = Downs limits p name d r d'
Does limits (act.Up p name) d r d' = Ups p name d r d'
Does limits (act.Park name) d r d' = Parks name d r d'
Does limits act.Unpark d r d' = Unparks d r d'
Does limits (act.Ask p) d r d' = (cookie : ℕ) × AsksFor p cookie d.course d'.course × Replies (reply.Cookie cookie) d r d'
Does limits (act.Get p) d r d' = (cookie : ℕ) × GivesCookie p cookie d.course d'.course × Replies (reply.Cookie cookie) d r d'
Does limits (act.Poll p cookie) d r d' = ((done : Bool) × AsksIfDone p cookie done d.course d'.course × Replies (if done then reply.Done else reply.NotYet) d r d')
    ⊎ IsNoCookie cookie × IsRefused command.Poll NotACookie d r d'
Does limits (act.Start p) d r d' = ((number : ℕ) × Starts number d.course d'.course × Replies (reply.Progress (progress.Started number)) d r d')
    ⊎ (why : NotStarted) × StartsNone why d.course × IsRefused command.Start (cause_of why) d r d'
Does limits (act.Advance p) d r d' = Works Advances command.Advance d r d'
Does limits (act.Step p) d r d' = Works Steps command.Step d r d'
Does limits (act.Call p name) d r d' = Calls p name d r d'
Does limits (act.Run p) d r d' = Runs p d r d'
Does limits (act.Batch p) d r d' = TakesOut p d r d'
Does limits (act.Finish p) d r d' = Finishes p d r d'
Does limits (act.Segs p) d r d' = TellsSegments p d r d'
Does limits (act.Barrier p name) d r d' = StartsBarrier name d r d'
Does limits (act.BarrierPoll p name) d r d' = PollsBarrier name d r d'
Does limits (act.Register p id priority) d r d' = RegistersBlock p (record { id = id; priority = priority }) d r d'
Does limits (act.Unregister p id) d r d' = UnregistersBlock p id d r d'
Does limits (act.Chain p) d r d' = ReadsCell limits command.Chain p 0 (reply.Chain (ids_of d.chain.blocks)) d r d'
Does limits (act.Notify p answers) d r d' = ⊥
Does limits (act.Install p key plug) d r d' = InstallsPlug p key plug d r d'
Does limits (act.Remove p key) d r d' = RemovesPlug p key d r d'
Does limits (act.Lookup p key) d r d' = ReadsCell limits command.Lookup p 1 (plug_told (plug_of d.table.rows key)) d r d'
Does limits (act.Lease p name) d r d' = LeasesVersion limits p name d r d'
Does limits (act.Read p name key) d r d' = ReadsLease name key d r d'
Does limits (act.Release p name) d r d' = ReleasesLease p name d r d'

-- what any act does. `gives` is which result the handler of an id may give to a value
abbrev pub Acts : (ℕ → ℕ → ℕ → Type 0) → Limits → Act → DomainState → Reply → DomainState → Type 0
Acts gives limits (act.Notify p answers) d r d' = CallsChain gives limits p (value_of answers.by_id) d r d'
Acts gives limits other d r d' = Does limits other d r d'

-- What a script does

-- the domain at the place goes on, with its name, and no other does
pub record GoesOn (domains : Domains) (place : ℕ) (d d' : DomainState) (domains' : Domains) : Type 0 where
  pub there : slice_get domains place ≡ Some d
  pub same : d'.name ≡ d.name
  pub others : domains' ≡ slice_set domains place d'

-- the slots of a cell to which nothing was put: the first one is current
abbrev pub new_slots : Limits → Slots
new_slots limits = record { count = limits.slots; version = 0; current = 0; standings = Current ∷ Blank ∷ Blank ∷ Blank ∷ Blank ∷ Blank ∷ Blank ∷ Blank ∷ [] }

abbrev pub new_domain : Limits → List ℕ → ℕ → DomainState
new_domain limits name processors = record { name = name; names = []; desk = None; lines = replicate processors no_calls; chain = record { blocks = []; slots = new_slots limits }; table = record { rows = []; slots = new_slots limits }; course = new_course limits processors }

-- a domain comes behind those that are there
pub record Makes (limits : Limits) (domains : Domains) (name : List ℕ) (processors : ℕ) (r : Reply) (domains' : Domains) : Type 0 where
  pub room : length domains < 8
  pub count : IsCount processors
  pub after : domains' ≡ domains ++ new_domain limits name processors ∷ []
  pub reply : r ≡ reply.Made name processors

-- no domain comes: eight are there, or else it can't have so many processors, or else there was no memory
pub record MakesNone (domains : Domains) (processors : ℕ) (r : Reply) (domains' : Domains) : Type 0 where
  pub after : domains' ≡ domains
  pub cause : ((8 ≤ length domains) × (r ≡ reply.Refused command.Domain Full))
      ⊎ (length domains < 8) × (¬ IsCount processors) × (r ≡ reply.Refused command.Domain Processors)
      ⊎ (length domains < 8) × IsCount processors × (r ≡ reply.Refused command.Domain Memory)

-- why a domain is in use: the first cause that holds
abbrev pub IsInUse : Course → Cause → Type 0
IsInUse c (Sections n) = IsInUseFor c (busy.Sections n)
IsInUse c Period = IsInUseFor c busy.Period
IsInUse c (Callbacks n) = IsInUseFor c (busy.Callbacks n)
IsInUse c other = ⊥

-- the domain at the place isn't in use, and goes, with all names there, and so does each set that has a cookie of it. The other domains and sets stay in their order
pub record CleansUp (state : State) (place : ℕ) (r : Reply) (state' : State) : Type 0 where
  pub domain : DomainState
  pub totals : Totals
  pub there : slice_get state.domains place ≡ Some domain
  pub taken_down : IsTakenDown domain.course totals
  pub gone : state'.domains ≡ remove state.domains place
  pub sets : state'.sets ≡ filter (λ k. not (has_cookie_of domain.name k)) state.sets
  pub reply : r ≡ reply.Cleaned totals.opened totals.closed

-- it is in use for this cause, and nothing is done
pub record CleansNone (state : State) (place : ℕ) (r : Reply) (state' : State) : Type 0 where
  pub domain : DomainState
  pub there : slice_get state.domains place ≡ Some domain
  pub cause : Cause
  pub in_use : IsInUse domain.course cause
  pub after : state' ≡ state
  pub reply : r ≡ reply.Refused command.Cleanup cause

-- Sets

-- on a processor of the domain at the place the cookie of this number is given and asked for. It is the member's, which nobody has found done yet
pub record AsksAt (domains : Domains) (asked : Asked) (m : Member) (domains' : Domains) : Type 0 where
  pub domain : DomainState
  pub after : DomainState
  pub goes_on : GoesOn domains asked.domain domain after domains'
  pub asks : AsksFor asked.processor m.cookie domain.course after.course
  pub rest : after ≡ record domain { course = after.course }
  pub is : m ≡ record { domain = domain.name; processor = asked.processor; cookie = m.cookie; found = false }

-- the same in each of the places, in this order
abbrev pub AskInTurn : Domains → List Asked → List Member → Domains → Type 0
AskInTurn domains [] [] domains' = domains' ≡ domains
AskInTurn domains (a ∷ asked) (m ∷ members) domains' = (between : Domains) × AsksAt domains a m between × AskInTurn between asked members domains'
AskInTurn domains _ _ domains' = ⊥

-- a set comes behind those that are there
pub record MakesSet (state : State) (name : List ℕ) (asked : List Asked) (r : Reply) (state' : State) : Type 0 where
  pub room : length state.sets < 8
  pub members : List Member
  pub ask : AskInTurn state.domains asked members state'.domains
  pub sets : state'.sets ≡ state.sets ++ record { name = name; members = members } ∷ []
  pub reply : r ≡ reply.Set (map (λ m. m.cookie) members)

-- eight are there, and nothing is done
pub record MakesNoSet (state : State) (r : Reply) (state' : State) : Type 0 where
  pub full : length state.sets ≡ 8
  pub after : state' ≡ state
  pub reply : r ≡ reply.Refused command.Set Full

-- the member is asked after on its processor of the domain of this name, and was found done, or not
pub record AsksAfter (domains : Domains) (m m' : Member) (domains' : Domains) : Type 0 where
  pub place : ℕ
  pub domain : DomainState
  pub after : DomainState
  pub there : domain_place m.domain domains ≡ Some place
  pub goes_on : GoesOn domains place domain after domains'
  pub asks : AsksIfDone m.processor m.cookie m'.found domain.course after.course
  pub rest : after ≡ record domain { course = after.course }
  pub is : m' ≡ record m { found = m'.found }

-- where it was found done before, nothing is done
abbrev pub PollsOne : Domains → Member → Member → Domains → Type 0
PollsOne domains m m' domains' = MatchBool m.found ((m' ≡ m) × (domains' ≡ domains)) (AsksAfter domains m m' domains')

-- each member, in order
abbrev pub PollInTurn : Domains → List Member → List Member → Domains → Type 0
PollInTurn domains [] [] domains' = domains' ≡ domains
PollInTurn domains (m ∷ members) (m' ∷ members') domains' = (between : Domains) × PollsOne domains m m' between × PollInTurn between members members' domains'
PollInTurn domains _ _ domains' = ⊥

-- the set at the place was found done where each of its members was, by now or before
pub record PollsSet (state : State) (place : ℕ) (r : Reply) (state' : State) : Type 0 where
  pub set : SetState
  pub members : List Member
  pub there : slice_get state.sets place ≡ Some set
  pub poll : PollInTurn state.domains set.members members state'.domains
  pub sets : state'.sets ≡ slice_set state.sets place (record set { members = members })
  pub reply : r ≡ (if list_all (λ m. m.found) members then reply.Done else reply.NotYet)

-- the reply to what was asked, and the state behind it
abbrev pub Answers : (ℕ → ℕ → ℕ → Type 0) → Limits → State → Request → Reply → State → Type 0
Answers gives limits state (request.Domain name processors) r state' = (Makes limits state.domains name processors r state'.domains ⊎ MakesNone state.domains processors r state'.domains) × (state'.sets ≡ state.sets)
Answers gives limits state (request.On place what) r state' = (d d' : DomainState) × GoesOn state.domains place d d' state'.domains × Acts gives limits what d r d' × (state'.sets ≡ state.sets)
Answers gives limits state (request.Set name asked) r state' = MakesSet state name asked r state' ⊎ MakesNoSet state r state'
Answers gives limits state (request.SetPoll place) r state' = PollsSet state place r state'
Answers gives limits state (request.Cleanup place) r state' = CleansUp state place r state' ⊎ CleansNone state place r state'

-- Lines

-- nothing is done, and the reply is the fault
pub record IsFaulty (number : ℕ) (f : Fault) (state : State) (bytes : List ℕ) (faulty : Bool) (state' : State) : Type 0 where
  pub reply : bytes ≡ reply_text (reply.Faulty number f)
  pub faulty_is : faulty ≡ true
  pub after : state' ≡ state

pub record IsSkipped (state : State) (bytes : List ℕ) (faulty : Bool) (state' : State) : Type 0 where
  pub reply : bytes ≡ []
  pub faulty_is : faulty ≡ false
  pub after : state' ≡ state

pub record IsAnswered (gives : ℕ → ℕ → ℕ → Type 0) (limits : Limits) (state : State) (words : List (List ℕ)) (bytes : List ℕ) (faulty : Bool) (state' : State) : Type 0 where
  pub asked : Request
  pub asks : WordsAsk (scene_of state) words asked
  pub given : Reply
  pub answers : Answers gives limits state asked given state'
  pub reply : bytes ≡ reply_text given
  pub faulty_is : faulty ≡ false

abbrev pub FaultGives : (ℕ → ℕ → ℕ → Type 0) → Limits → State → ℕ → List (List ℕ) → Option Fault → List ℕ → Bool → State → Type 0
FaultGives gives limits state number words None bytes faulty state' = IsAnswered gives limits state words bytes faulty state'
FaultGives gives limits state number words (Some f) bytes faulty state' = IsFaulty number f state bytes faulty state'

-- what these words give as the line of this number: the bytes that are written, whether it is faulty, and the state behind it
abbrev pub WordsGive : (ℕ → ℕ → ℕ → Type 0) → Limits → State → ℕ → List (List ℕ) → List ℕ → Bool → State → Type 0
WordsGive gives limits state number words bytes faulty state' = (is_skipped words ≡ true → IsSkipped state bytes faulty state')
    × (is_skipped words ≡ false → FaultGives gives limits state number words (fault_of (scene_of state) words) bytes faulty state')

-- what a line gives, which is text or not
abbrev pub LineGives : (ℕ → ℕ → ℕ → Type 0) → Limits → State → ℕ → Option (List ℕ) → List ℕ → Bool → State → Type 0
LineGives gives limits state number None bytes faulty state' = IsFaulty number Text state bytes faulty state'
LineGives gives limits state number (Some line) bytes faulty state' = WordsGive gives limits state number (words_of line) bytes faulty state'
