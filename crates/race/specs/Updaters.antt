-- What the updater has, and what it tells of itself.
use Rattle.std.specs.Prelude.{◌≡◌, ◌≢◌, ℕ, zero, suc, ◌+◌, ◌%◌, ◌^◌, ◌<◌, ◌≤◌, List}
use Rattle.sections.specs.Words.{opened_in, closed_in}
use Rattle.calls.specs.declared.refusals.CallRefusal.{CallRefusal}
use Rattle.calls.specs.declared.refusals.CallRefusal.TheVariants as calling
use Rattle.calls.specs.declared.view.Deed.{Deed}
use Rattle.calls.specs.Tallies.{queued_in, finished_in, deeds_of}
use Rattle.calls.specs.Views.{CallSeatView}
use Rattle.domain.specs.Views.{IsOf}
use Rattle.plugs.specs.Changes.{Installs}
use Rattle.race.specs.declared.course.Course.{Course}
use Rattle.race.specs.declared.updater.Updater.{Updater}
use Rattle.race.specs.declared.updater.Halt.{Halt}
use Rattle.race.specs.declared.updater.Halt.TheVariants as halt

-- why the updater halts whose call was refused
abbrev pub halt_of : CallRefusal → Halt
halt_of calling.Exhausted = halt.Spent
halt_of calling.Memory = halt.Memory

-- what the seat did at the tally words
abbrev pub own_deeds : CallSeatView Unit → List (Deed Unit)
own_deeds s = deeds_of s.processor s.seen

-- a processor of the domain, and a table of it
pub record IsUpdaterOf (g : Course) (u : Updater) : Type 0 where
  pub here : IsOf g.domain u.cpu
  pub table : u.table.writer.domain ≡ g.domain.domain

-- so many callbacks of processor p were queued, and so many finished, where so many can be told; and none of another processor was finished
pub record TellsOf (p queued finished : ℕ) (deeds : List (Deed Unit)) : Type 0 where
  pub queued_are : queued_in p deeds ≡ queued
  pub finished_are : finished_in p deeds < 2 ^ 64 → finished ≡ finished_in p deeds
  pub others : (q : ℕ) → q ≢ p → finished_in q deeds ≡ 0

-- What the updater counts is what its processor did: callbacks of its own that it queued and finished, and no other ones. It began no section, and ended none
pub record Tells (u : Updater) : Type 0 where
  pub opened : opened_in u.cpu.cpu.mine ≡ 0
  pub closed : closed_in u.cpu.cpu.mine ≡ 0
  pub calls : TellsOf u.cpu.calls.processor u.queued u.finished (own_deeds u.cpu.calls)

-- the same processor, with so many versions more, and so many callbacks more that were queued
pub record GoesOn (g : Course) (versions queued : ℕ) (u u' : Updater) : Type 0 where
  pub is : IsUpdaterOf g u'
  pub tells : Tells u'
  pub processor : u'.cpu.cpu.processor ≡ u.cpu.cpu.processor
  pub versions_are : u'.versions ≡ u.versions + versions
  pub queued_are : u'.queued ≡ u.queued + queued

-- in the end the round's plug was installed with its key
pub record InstallsIn (g : Course) (round : ℕ) (u u' : Updater) : Type 0 where
  pub before : Updater
  pub waits : GoesOn g 0 0 u before
  pub version : ℕ
  pub installs : Installs (round % 15) round version before.table before.cpu u'.table u'.cpu

-- one round: its plug was installed with its key, and a callback was queued
pub record MakesRound (g : Course) (round : ℕ) (u u' : Updater) : Type 0 where
  pub installed : Updater
  pub installs : InstallsIn g round u installed
  pub queues : GoesOn g 0 1 installed u'

-- so many rounds, from round 0 on
abbrev pub MakesRounds : Course → ℕ → Updater → Updater → Type 0
MakesRounds g zero u u' = u' ≡ u
MakesRounds g (suc n) u u' = (before : Updater) × MakesRounds g n u before × MakesRound g n before u'

-- all rounds were made, with one version and one callback in each
pub record MakesAll (g : Course) (u u' : Updater) : Type 0 where
  pub rounds : MakesRounds g g.rounds u u'
  pub versions : u'.versions ≡ g.rounds
  pub queued : u'.queued ≡ g.rounds

-- the same, and the engine was driven and callbacks were run at most
pub record HasMadeAll (g : Course) (u u' : Updater) : Type 0 where
  pub made : Updater
  pub makes : MakesAll g u made
  pub goes_on : GoesOn g 0 0 made u'

-- at most so many versions were installed, and no more callbacks queued than that
pub record HasUpdated (g : Course) (u : Updater) : Type 0 where
  pub is : IsUpdaterOf g u
  pub tells : Tells u
  pub versions : u.versions ≤ g.rounds
  pub queued : u.queued ≤ u.versions

-- nothing was done yet
pub record IsNew (g : Course) (u : Updater) : Type 0 where
  pub is : IsUpdaterOf g u
  pub tells : Tells u
  pub none : (u.versions ≡ 0) × (u.queued ≡ 0)
