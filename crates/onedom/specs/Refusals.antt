-- Why an event may not follow a history.
use Rattle.std.specs.Prelude.{◌≢◌, ℕ, ◌<◌, List, codes}
use Rattle.onedom.specs.declared.event.Event.{Event}
use Rattle.onedom.specs.declared.event.Event.TheVariants.{Begin, End, Start, Finish, Note, Ask, Find, Put}
use Rattle.onedom.specs.declared.illegal.Illegal.{Illegal}
use Rattle.onedom.specs.declared.illegal.Illegal.TheVariants.{SectionUsed, NotOpen, PeriodRunning, NoPeriod, StillOpen, WrongCookie, WrongPoll, WrongFind, WrongPut, Memory}
use Rattle.onedom.specs.Histories.{begins_of, IsOpen, IsRunning, WasOpenAtStart, cookie_after, MayFollow}

-- a section that was open when the running grace period started is still open
pub record IsStillOpen (history : List Event) : Type 0 where
  pub running : IsRunning history
  pub section : ℕ
  pub was_open : WasOpenAtStart history section
  pub is_open : IsOpen history section

-- each event has causes of its own; for want of memory alone, one that may follow is refused
abbrev pub IsRefusal : List Event → Event → Illegal → Type 0
IsRefusal history (Begin s p i by) SectionUsed = 0 < begins_of s history
IsRefusal history (End s q by) NotOpen = ¬ IsOpen history s
IsRefusal history (Start by) PeriodRunning = IsRunning history
IsRefusal history (Finish by) NoPeriod = ¬ IsRunning history
IsRefusal history (Finish by) StillOpen = IsStillOpen history
IsRefusal history (Note cookie by) WrongCookie = cookie ≢ cookie_after history
IsRefusal history (Ask cookie done by) WrongPoll = ¬ MayFollow history (Ask cookie done by)
IsRefusal history (Find s cell slot version by) NotOpen = ¬ IsOpen history s
IsRefusal history (Find s cell slot version by) WrongFind = IsOpen history s × ¬ MayFollow history (Find s cell slot version by)
IsRefusal history (Put cell slot version by) WrongPut = ¬ MayFollow history (Put cell slot version by)
IsRefusal history e Memory = MayFollow history e
IsRefusal history e cause = ⊥

-- as a refusal is printed
abbrev pub illegal_text : Illegal → List ℕ
illegal_text SectionUsed = codes "the section's number was used before"
illegal_text NotOpen = codes "the section is not open"
illegal_text PeriodRunning = codes "a grace period runs"
illegal_text NoPeriod = codes "no grace period runs"
illegal_text StillOpen = codes "a section that was open at the start is open"
illegal_text WrongCookie = codes "another cookie is given now"
illegal_text WrongPoll = codes "that is not the answer to this cookie"
illegal_text WrongFind = codes "that is not current in the cell"
illegal_text WrongPut = codes "that can't be put into the cell"
illegal_text Memory = codes "out of memory"
