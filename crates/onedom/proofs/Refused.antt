-- What a refusal says, and the places of a legal history.
use Rattle.std.proofs.Common.{◌≡◌, ℕ, suc, ◌+◌, ◌<◌, ◌≢◌, List, [], ◌∷◌, ◌++◌, length, get_or, take, drop, refl, sym, ap, ◌∙◌, subst, take-append-drop, drop-cons, arith}
use Rattle.std.proofs.lemmas.List.{take_more}
use Rattle.onedom.specs.declared.event.Maker.{Maker}
use Rattle.onedom.specs.declared.event.Event.{Event}
use Rattle.onedom.specs.declared.event.Event.TheVariants.{Begin, End, Start, Finish, Note, Ask, Find, Put}
use Rattle.onedom.specs.declared.illegal.Illegal.{Illegal}
use Rattle.onedom.specs.declared.illegal.Illegal.TheVariants.{SectionUsed, NotOpen, PeriodRunning, NoPeriod, StillOpen, WrongCookie, WrongPoll, WrongFind, WrongPut, Memory}
use Rattle.onedom.specs.Histories.{IsOpen, IsRunning, WasOpenAtStart, slot_of, version_of, MayFollow, IsLegal}
use Rattle.onedom.specs.Refusals.{IsRefusal}
use Rattle.onedom.proofs.Pushes.{legal_after_append, legal_push}

-- an event that is refused for another cause than memory may not follow
pub refused_illegal : (history : List Event) (e : Event) (cause : Illegal) → IsRefusal history e cause → cause ≢ Memory → ¬ MayFollow history e
refused_illegal history e Memory r other may = other refl
refused_illegal history (Begin s p i by) SectionUsed r other may = omega arith
refused_illegal history (Begin s p i by) NotOpen r other may = r
refused_illegal history (Begin s p i by) PeriodRunning r other may = r
refused_illegal history (Begin s p i by) NoPeriod r other may = r
refused_illegal history (Begin s p i by) StillOpen r other may = r
refused_illegal history (Begin s p i by) WrongCookie r other may = r
refused_illegal history (Begin s p i by) WrongPoll r other may = r
refused_illegal history (Begin s p i by) WrongFind r other may = r
refused_illegal history (Begin s p i by) WrongPut r other may = r
refused_illegal history (End s q by) SectionUsed r other may = r
refused_illegal history (End s q by) NotOpen r other may = r may
refused_illegal history (End s q by) PeriodRunning r other may = r
refused_illegal history (End s q by) NoPeriod r other may = r
refused_illegal history (End s q by) StillOpen r other may = r
refused_illegal history (End s q by) WrongCookie r other may = r
refused_illegal history (End s q by) WrongPoll r other may = r
refused_illegal history (End s q by) WrongFind r other may = r
refused_illegal history (End s q by) WrongPut r other may = r
refused_illegal history (Start by) SectionUsed r other may = r
refused_illegal history (Start by) NotOpen r other may = r
refused_illegal history (Start by) PeriodRunning r other may = may r
refused_illegal history (Start by) NoPeriod r other may = r
refused_illegal history (Start by) StillOpen r other may = r
refused_illegal history (Start by) WrongCookie r other may = r
refused_illegal history (Start by) WrongPoll r other may = r
refused_illegal history (Start by) WrongFind r other may = r
refused_illegal history (Start by) WrongPut r other may = r
refused_illegal history (Finish by) SectionUsed r other may = r
refused_illegal history (Finish by) NotOpen r other may = r
refused_illegal history (Finish by) PeriodRunning r other may = r
refused_illegal history (Finish by) NoPeriod r other may = r may.0
refused_illegal history (Finish by) StillOpen r other may = may.1 r.section r.was_open r.is_open
refused_illegal history (Finish by) WrongCookie r other may = r
refused_illegal history (Finish by) WrongPoll r other may = r
refused_illegal history (Finish by) WrongFind r other may = r
refused_illegal history (Finish by) WrongPut r other may = r
refused_illegal history (Note cookie by) SectionUsed r other may = r
refused_illegal history (Note cookie by) NotOpen r other may = r
refused_illegal history (Note cookie by) PeriodRunning r other may = r
refused_illegal history (Note cookie by) NoPeriod r other may = r
refused_illegal history (Note cookie by) StillOpen r other may = r
refused_illegal history (Note cookie by) WrongCookie r other may = r may
refused_illegal history (Note cookie by) WrongPoll r other may = r
refused_illegal history (Note cookie by) WrongFind r other may = r
refused_illegal history (Note cookie by) WrongPut r other may = r
refused_illegal history (Ask cookie done by) SectionUsed r other may = r
refused_illegal history (Ask cookie done by) NotOpen r other may = r
refused_illegal history (Ask cookie done by) PeriodRunning r other may = r
refused_illegal history (Ask cookie done by) NoPeriod r other may = r
refused_illegal history (Ask cookie done by) StillOpen r other may = r
refused_illegal history (Ask cookie done by) WrongCookie r other may = r
refused_illegal history (Ask cookie done by) WrongPoll r other may = r may
refused_illegal history (Ask cookie done by) WrongFind r other may = r
refused_illegal history (Ask cookie done by) WrongPut r other may = r
refused_illegal history (Find s cell slot version by) SectionUsed r other may = r
refused_illegal history (Find s cell slot version by) NotOpen r other may = r may.0
refused_illegal history (Find s cell slot version by) PeriodRunning r other may = r
refused_illegal history (Find s cell slot version by) NoPeriod r other may = r
refused_illegal history (Find s cell slot version by) StillOpen r other may = r
refused_illegal history (Find s cell slot version by) WrongCookie r other may = r
refused_illegal history (Find s cell slot version by) WrongPoll r other may = r
refused_illegal history (Find s cell slot version by) WrongFind r other may = r.1 may
refused_illegal history (Find s cell slot version by) WrongPut r other may = r
refused_illegal history (Put cell slot version by) SectionUsed r other may = r
refused_illegal history (Put cell slot version by) NotOpen r other may = r
refused_illegal history (Put cell slot version by) PeriodRunning r other may = r
refused_illegal history (Put cell slot version by) NoPeriod r other may = r
refused_illegal history (Put cell slot version by) StillOpen r other may = r
refused_illegal history (Put cell slot version by) WrongCookie r other may = r
refused_illegal history (Put cell slot version by) WrongPoll r other may = r
refused_illegal history (Put cell slot version by) WrongFind r other may = r
refused_illegal history (Put cell slot version by) WrongPut r other may = r may

-- an event that may follow is refused for want of memory alone
pub memory_refused : (history : List Event) (e : Event) → MayFollow history e → IsRefusal history e Memory
memory_refused history (Begin s p i by) may = may
memory_refused history (End s q by) may = may
memory_refused history (Start by) may = may
memory_refused history (Finish by) may = may
memory_refused history (Note cookie by) may = may
memory_refused history (Ask cookie done by) may = may
memory_refused history (Find u cell slot version by) may = may
memory_refused history (Put cell slot version by) may = may

pub still_open_refused : (history : List Event) (by : Maker) → IsRunning history → (s : ℕ) × WasOpenAtStart history s × IsOpen history s → (IsRefusal history (Finish by) StillOpen) × (¬ MayFollow history (Finish by))
still_open_refused history by running stuck = (record { running = running; section = stuck.0; was_open = stuck.1; is_open = stuck.2 }, (λ may. may.1 stuck.0 stuck.1 stuck.2))

-- in a legal history each event may follow those before it
pub legal_split : (before : List Event) (e : Event) (after : List Event) → IsLegal (before ++ e ∷ after) → MayFollow before e
legal_split before e after legal = (legal_after_append [] before (e ∷ after) legal).1.0

pub legal_at : (events : List Event) (i : ℕ) (d : Event) → i < length events → IsLegal events → MayFollow (take i events) (get_or events i d)
legal_at events i d inside legal = let parts : events ≡ take i events ++ get_or events i d ∷ drop (suc i) events = sym (take-append-drop i events) ∙ ap (λ l. take i events ++ l) (drop-cons events i d inside) in
    legal_split (take i events) (get_or events i d) (drop (suc i) events) (subst IsLegal parts legal)

-- a history that was run up to a refusal is not legal
pub refused_at : (events run : List Event) (i : ℕ) (d : Event) (cause : Illegal) → i < length events → run ≡ take i events → IsRefusal run (get_or events i d) cause → cause ≢ Memory → ¬ IsLegal events
refused_at events run i d cause inside upto r other legal =
    refused_illegal run (get_or events i d) cause r other (subst (λ (h : List Event). MayFollow h (get_or events i d)) (sym upto) (legal_at events i d inside legal))

-- one event more was run
pub run_on : (events run after : List Event) (i : ℕ) (d : Event) → i < length events → run ≡ take i events → after ≡ run ++ get_or events i d ∷ [] → after ≡ take (i + 1) events
run_on events run after i d inside upto added = added ∙ (ap (λ h. h ++ get_or events i d ∷ []) upto ∙ sym (take_more events i d inside))

pub run_legal : (run after : List Event) (e : Event) → IsLegal run → MayFollow run e → after ≡ run ++ e ∷ [] → IsLegal after
run_legal run after e legal may added = subst IsLegal (sym added) (legal_push run e legal may)

-- Finds that are refused
pub find_not_open : (history : List Event) (s cell slot version : ℕ) (by : Maker) → (¬ IsOpen history s) → (IsRefusal history (Find s cell slot version by) NotOpen) × (¬ MayFollow history (Find s cell slot version by))
find_not_open history s cell slot version by closed = (closed, (λ may. closed may.0))

pub find_wrong : (history : List Event) (s cell slot version : ℕ) (by : Maker) → IsOpen history s → (¬ ((slot ≡ slot_of cell history) × (version ≡ version_of cell history))) → (IsRefusal history (Find s cell slot version by) WrongFind) × (¬ MayFollow history (Find s cell slot version by))
find_wrong history s cell slot version by is_open other = let no : ¬ MayFollow history (Find s cell slot version by) = λ may. other (may.1, may.2) in ((is_open, no), no)
