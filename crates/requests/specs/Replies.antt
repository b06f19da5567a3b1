-- The texts of replies.
use Rattle.std.specs.Prelude.{ℕ, ◌-◌, false, List, [], ◌∷◌, ◌++◌, length, replicate, codes, decimal}
use Rattle.std.specs.Fmt.{digits}
use Rattle.std.specs.List.{flat_map}
use Rattle.sseq.specs.Indexes.{index_text}
use Rattle.sseq.specs.Numbers.{phase_text}
use Rattle.scan.specs.declared.progress.Progress.{Progress}
use Rattle.scan.specs.declared.progress.Progress.TheVariants as progress
use Rattle.requests.specs.declared.cause.Cause.{Cause}
use Rattle.requests.specs.declared.cause.Cause.TheVariants as cause
use Rattle.requests.specs.declared.reply.Period.{Period}
use Rattle.requests.specs.declared.reply.Sections.{Sections}
use Rattle.requests.specs.declared.reply.Waiting.{Waiting}
use Rattle.requests.specs.declared.reply.Segments.{Segments}
use Rattle.requests.specs.declared.reply.Reply.{Reply}
use Rattle.requests.specs.declared.reply.Reply.TheVariants as reply
use Rattle.requests.specs.Commands.{command_word}
use Rattle.requests.specs.Faults.{fault_word}

abbrev pub cause_text : Cause → List ℕ
cause_text cause.Full = codes "full"
cause_text cause.Empty = codes "empty"
cause_text cause.Processors = codes "processors"
cause_text cause.Memory = codes "memory"
cause_text cause.Exhausted = codes "exhausted"
cause_text cause.Running = codes "running"
cause_text cause.Busy = codes "busy"
cause_text cause.NotACookie = codes "not-a-cookie"
cause_text cause.Invoking = codes "invoking"
cause_text cause.NoBatch = codes "none"
cause_text (cause.Sections count) = codes "sections " ++ decimal count
cause_text cause.Period = codes "period"
cause_text (cause.Callbacks count) = codes "callbacks " ++ decimal count
cause_text cause.There = codes "there"
cause_text cause.NotThere = codes "notthere"
cause_text cause.NoSlot = codes "noslot"

abbrev pub period_text : Period → List ℕ
period_text p = codes "number " ++ decimal p.number ++ codes " " ++ phase_text p.phase

abbrev pub sections_text : Sections → List ℕ
sections_text s = codes "index " ++ index_text s.index ++ codes " open " ++ decimal s.zero ++ codes " " ++ decimal s.one ++ codes " need " ++ decimal s.need

-- names, each with a space before it
abbrev pub names_text : List (List ℕ) → List ℕ
names_text names = flat_map (λ name. codes " " ++ name) names

-- ids, each with a space before it
abbrev pub ids_text : List ℕ → List ℕ
ids_text ids = flat_map (λ id. codes " " ++ decimal id) ids

abbrev pub at_least_four : List ℕ → List ℕ
at_least_four glyphs = replicate (4 - length glyphs) 48 ++ glyphs

-- lower hexadecimal, with zeros before it where it has less than four digits
abbrev pub hexadecimal : ℕ → List ℕ
hexadecimal n = at_least_four (digits 16 false n)

abbrev pub waiting_text : Waiting → List ℕ
waiting_text w = decimal w.count ++ codes " " ++ decimal w.number

abbrev pub segments_text : Segments → List ℕ
segments_text s = codes "done " ++ decimal s.done ++ codes " wait " ++ waiting_text s.wait ++ codes " ready " ++ waiting_text s.ready ++ codes " next " ++ decimal s.next

-- what the engine answered
abbrev pub progress_text : Progress → List ℕ
progress_text progress.Idle = codes "idle"
progress_text (progress.Started n) = codes "started " ++ decimal n
progress_text (progress.Flipped i) = codes "flipped " ++ index_text i
progress_text (progress.Ended n) = codes "ended " ++ decimal n
progress_text (progress.Waiting i) = codes "waiting " ++ index_text i
progress_text progress.Step = codes "step"

abbrev pub words_text : Reply → List ℕ
words_text (reply.Made d n) = codes "made " ++ d ++ codes " " ++ decimal n
words_text (reply.State d period sections) = codes "state " ++ d ++ codes " " ++ period_text period ++ codes " " ++ sections_text sections
words_text (reply.Look i) = codes "look " ++ index_text i
words_text (reply.Index i) = codes "index " ++ index_text i
words_text reply.Closed = codes "closed"
words_text reply.Parked = codes "parked"
words_text (reply.Took s) = codes "took " ++ s
words_text (reply.Cookie c) = codes "cookie " ++ decimal c
words_text reply.Done = codes "done"
words_text reply.NotYet = codes "not yet"
words_text (reply.Progress p) = progress_text p
words_text (reply.Queued k c) = codes "queued " ++ decimal k ++ codes " cookie " ++ decimal c
words_text (reply.Ran jobs) = codes "ran" ++ names_text jobs
words_text (reply.TookJobs jobs) = codes "took" ++ names_text jobs
words_text (reply.Finished n) = codes "finished " ++ decimal n
words_text (reply.Segs s) = codes "segs " ++ segments_text s
words_text reply.Ticket = codes "ticket"
words_text (reply.Registered id) = codes "registered " ++ decimal id
words_text (reply.Unregistered id) = codes "unregistered " ++ decimal id
words_text (reply.Chain ids) = codes "chain" ++ ids_text ids
words_text (reply.Called last calls) = hexadecimal last ++ codes " calls " ++ decimal calls
words_text (reply.Installed version) = codes "installed version " ++ decimal version
words_text (reply.Removed version) = codes "removed version " ++ decimal version
words_text (reply.Plug plug) = codes "plug " ++ decimal plug
words_text reply.NoPlug = codes "none"
words_text (reply.Leased i version) = codes "lease index " ++ index_text i ++ codes " version " ++ decimal version
words_text reply.Released = codes "released"
words_text (reply.Set numbers) = codes "set" ++ ids_text numbers
words_text (reply.Cleaned opened closed) = codes "cleaned opened " ++ decimal opened ++ codes " closed " ++ decimal closed
words_text (reply.Refused c why) = codes "refused " ++ command_word c ++ codes " " ++ cause_text why
words_text (reply.Faulty n f) = codes "line " ++ decimal n ++ codes ": " ++ fault_word f

-- each reply ends with one line feed
abbrev pub reply_text : Reply → List ℕ
reply_text r = words_text r ++ 10 ∷ []
