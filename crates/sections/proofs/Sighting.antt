-- What a processor does behind all that a sight has seen.
use Rattle.std.proofs.Common.{◌≡◌, ℕ, ◌*◌, ◌<◌, ◌≤◌, inr, true, false, List, [], ◌∷◌, ◌++◌, refl, sym, ap, ◌∙◌, subst, append_assoc, arith}
use mathlib.Core.Option.{none}
use Rattle.atomic_table.specs.Table.{step, Allows}
use Rattle.sseq.specs.Numbers.{periods_ended}
use Rattle.onedom.specs.declared.event.Maker.{Maker}
use Rattle.onedom.specs.declared.event.Maker.TheVariants.{Processor}
use Rattle.onedom.specs.declared.event.Event.{Event}
use Rattle.onedom.specs.declared.event.Event.TheVariants.{Note, Ask}
use Rattle.onedom.specs.Histories.{begins, ends, IsOpen, IsLegal, IsBeginning}
use Rattle.onedom.proofs.CallerLemmas.{law, bit, begins_of_push, ends_of_push}
use Rattle.sections.specs.Glossary.{Bounds, number_place, Kept, Adds, Sat, EndsWithNote, AllClosed, asked_how_far}
use Rattle.sections.specs.declared.view.Role.TheVariants.{Cpu}
use Rattle.sections.proofs.Steps.{tells_here}

same_cpu : (p q : ℕ) → Cpu p ≡ Cpu q → p ≡ q
same_cpu p q h = cc

pub asks_how_far : (bounds : Bounds) (slots id : ℕ) (me : Sat) (p : ℕ) → me.0.processors ≡ bounds.processors → me.0.role ≡ Cpu p → p < bounds.processors
    → Allows (Kept bounds) slots id me number_place (λ x. x) (asked_how_far (step slots number_place 0 0 none) me)
asks_how_far bounds slots id me p sized is lt = tells_here bounds slots id me p (λ n. Ask (4 * periods_ended n) true (Processor p)) (asked_how_far (step slots number_place 0 0 none) me) sized is lt
    (λ n. record { by = refl; no_start = refl; no_finish = refl; no_lock = λ _ _. refl; no_unlock = λ _ _ _. refl; no_end = λ _. refl; maker = λ m lt. lt; no_put = refl })
    (λ s r. let number = r.words.number in let ended = r.words.reaches.ended in (inr (omega arith), ((λ _. inr (omega (arith, number, ended))), (λ _. refl))))
    (λ n w found right adds. (refl, right, found, λ q is'. subst (λ (z : ℕ). Adds me.0 (Ask (4 * periods_ended n) true (Processor z)) w) (same_cpu p q (sym is ∙ is')) adds))

-- an event that is no Begin and no End opens and closes nothing
unplain : (s : ℕ) (history : List Event) (e : Event) → begins s e ≡ false → ends s e ≡ false → IsOpen (history ++ e ∷ []) s → IsOpen history s
unplain s history e no_begin no_end o = let a = begins_of_push s history e in let b = ends_of_push s history e in let x : bit (begins s e) ≡ 0 = ap bit no_begin in let some = o.0 in let none = o.1 in
    (omega (arith, a, x, some), omega (arith, b, none))

-- who is told that as many periods have ended as a cookie waits for knows that all that was open when it was given is closed
pub closed_behind : (cookie asked : ℕ) (given before after : List Event) (by : Maker) → cookie ≤ asked → EndsWithNote cookie given → IsBeginning given before → after ≡ before ++ Ask asked true by ∷ [] → IsLegal after → AllClosed given after
closed_behind cookie asked given before after by le noted since is legal s was_open still =
    let front : List Event = noted.before in
    let note : Event = Note cookie noted.by in
    let ask : Event = Ask asked true by in
    let split : before ≡ front ++ note ∷ since.rest = since.whole ∙ (ap (λ l. l ++ since.rest) noted.whole ∙ append_assoc front (note ∷ []) since.rest) in
    let whole : after ≡ front ++ note ∷ since.rest ++ ask ∷ [] = is ∙ ap (λ l. l ++ ask ∷ []) split in
    let opened : IsOpen front s = unplain s front note refl refl (subst (λ l. IsOpen l s) noted.whole was_open) in
    let now : IsOpen (front ++ note ∷ since.rest) s = subst (λ l. IsOpen l s) split (unplain s before ask refl refl (subst (λ l. IsOpen l s) is still)) in
    law front since.rest [] cookie asked noted.by by (subst IsLegal whole legal) le s opened now
