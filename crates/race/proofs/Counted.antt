-- What calls of one processor add to the callbacks that it has counted.
use Rattle.std.proofs.Common.{◌≡◌, ◌≢◌, ℕ, zero, suc, ◌+◌, ◌^◌, ◌<◌, ◌⊎◌, inl, inr, Bool, List, ◌++◌, refl, sym, ap, ◌∙◌, subst, arith}
use Rattle.race.proofs.Words.{dite, ℕ_discrete, Event, count_append, is_begin, is_end, opened_in, closed_in, WriterView, question, questions, standing_of, Standing, Deed, queued_in, finished_in, deeds_of, CallSeatView, CpuView, Acts, queued_append, finished_append, TellsOf, own_deeds}
use Rattle.sections.specs.declared.writer.Standing.TheVariants.{Blank, Out, Current, Retired}
use Rattle.domain.specs.Glossary.{Act}

-- no section begins or ends in it
pub record IsQuiet (act : List Event) : Type 0 where
  pub opened : opened_in act ≡ 0
  pub closed : closed_in act ≡ 0

pub quiet_append : (a b : List Event) → IsQuiet a → IsQuiet b → IsQuiet (a ++ b)
quiet_append a b f s = record {
  opened = let n = count_append is_begin a b in let x = f.opened in let y = s.opened in omega (arith, n, x, y);
  closed = let n = count_append is_end a b in let x = f.closed in let y = s.closed in omega (arith, n, x, y);
}

-- no question about a slot is one
question_quiet : (p : ℕ) (done : Bool) (s : Standing) → IsQuiet (question p done s)
question_quiet p done Blank = record { opened = refl; closed = refl }
question_quiet p done Out = record { opened = refl; closed = refl }
question_quiet p done Current = record { opened = refl; closed = refl }
question_quiet p done (Retired number) = record { opened = refl; closed = refl }

pub questions_quiet : (p : ℕ) (done : ℕ → Bool) (w : WriterView) (x : ℕ) → IsQuiet (questions p done w x)
questions_quiet p done w zero = record { opened = refl; closed = refl }
questions_quiet p done w (suc x) = quiet_append (questions p done w x) (question p (done x) (standing_of w x)) (questions_quiet p done w x) (question_quiet p (done x) (standing_of w x))

-- the processor queued so many callbacks and finished so many of its own, and did nothing else of the kind
pub record Adds (queued finished : ℕ) (c c' : CpuView Unit) : Type 0 where
  pub same : c'.calls.processor ≡ c.calls.processor
  pub opened : opened_in c'.cpu.mine ≡ opened_in c.cpu.mine
  pub closed : closed_in c'.cpu.mine ≡ closed_in c.cpu.mine
  pub queued_are : queued_in c.calls.processor (own_deeds c'.calls) ≡ queued_in c.calls.processor (own_deeds c.calls) + queued
  pub finished_are : finished_in c.calls.processor (own_deeds c'.calls) ≡ finished_in c.calls.processor (own_deeds c.calls) + finished
  pub others : (q : ℕ) → q ≢ c.calls.processor → finished_in q (own_deeds c'.calls) ≡ finished_in q (own_deeds c.calls)

-- Single calls

more_opened : (l l' act : List Event) → l' ≡ l ++ act → IsQuiet act → opened_in l' ≡ opened_in l
more_opened l l' act is quiet = let a = ap opened_in is in let n = count_append is_begin l act in let none = quiet.opened in omega (arith, a, n, none)

more_closed : (l l' act : List Event) → l' ≡ l ++ act → IsQuiet act → closed_in l' ≡ closed_in l
more_closed l l' act is quiet = let a = ap closed_in is in let n = count_append is_end l act in let none = quiet.closed in omega (arith, a, n, none)

-- one that leaves the seat at the tally words as it was
pub adds_nothing : (c c' : CpuView Unit) (act : List Event) → c'.calls ≡ c.calls → c'.cpu.mine ≡ c.cpu.mine ++ act → IsQuiet act → Adds 0 0 c c'
adds_nothing c c' act calls mine quiet = record {
  same = ap (λ (s : CallSeatView Unit). s.processor) calls;
  opened = more_opened c.cpu.mine c'.cpu.mine act mine quiet;
  closed = more_closed c.cpu.mine c'.cpu.mine act mine quiet;
  queued_are = let a = ap (λ (s : CallSeatView Unit). queued_in c.calls.processor (own_deeds s)) calls in omega (arith, a);
  finished_are = let a = ap (λ (s : CallSeatView Unit). finished_in c.calls.processor (own_deeds s)) calls in omega (arith, a);
  others = λ q ne. ap (λ (s : CallSeatView Unit). finished_in q (own_deeds s)) calls;
}

none_finished : (p : ℕ) (a : Act) (deeds : List (Deed Unit)) → finished_in a.owner deeds ≡ a.finished → ((q : ℕ) → q ≢ a.owner → finished_in q deeds ≡ 0) → (a.finished ≡ 0) ⊎ (a.owner ≡ p) → (q : ℕ) → q ≢ p → finished_in q deeds ≡ 0
none_finished p a deeds here others (inl none) q ne = dite (ℕ_discrete q a.owner) (λ e. ap (λ k. finished_in k deeds) e ∙ (here ∙ none)) (λ apart. others q apart)
none_finished p a deeds here others (inr own) q ne = others q (λ e. ne (e ∙ own))

all_finished : (p : ℕ) (a : Act) (deeds : List (Deed Unit)) → finished_in a.owner deeds ≡ a.finished → ((q : ℕ) → q ≢ a.owner → finished_in q deeds ≡ 0) → (a.finished ≡ 0) ⊎ (a.owner ≡ p) → finished_in p deeds ≡ a.finished
all_finished p a deeds here others (inl none) = dite (ℕ_discrete p a.owner) (λ e. ap (λ k. finished_in k deeds) e ∙ here) (λ apart. others p apart ∙ sym none)
all_finished p a deeds here others (inr own) = ap (λ k. finished_in k deeds) (sym own) ∙ here

-- one that acts in the way of all calls
pub adds_act : (p : ℕ) (a : Act) (c c' : CpuView Unit) → Acts p a c c' → c.calls.processor ≡ p → IsQuiet a.events → (a.finished ≡ 0) ⊎ (a.owner ≡ p) → Adds a.queued a.finished c c'
adds_act p a c c' h here quiet whose =
    let mine : own_deeds c'.calls ≡ own_deeds c.calls ++ h.deeds = ap (λ k. deeds_of k c'.calls.seen) (h.adds.same.2) ∙ h.adds.own in
    let q : queued_in c.calls.processor h.deeds ≡ a.queued = ap (λ k. queued_in k h.deeds) here ∙ h.count.queued in
    let f : finished_in c.calls.processor h.deeds ≡ a.finished = ap (λ k. finished_in k h.deeds) here ∙ all_finished p a h.deeds h.count.finished h.count.others whose in record {
      same = h.adds.same.2;
      opened = more_opened c.cpu.mine c'.cpu.mine a.events h.events.mine quiet;
      closed = more_closed c.cpu.mine c'.cpu.mine a.events h.events.mine quiet;
      queued_are = let cut = ap (queued_in c.calls.processor) mine ∙ queued_append c.calls.processor (own_deeds c.calls) h.deeds in omega (arith, cut, q);
      finished_are = let cut = ap (finished_in c.calls.processor) mine ∙ finished_append c.calls.processor (own_deeds c.calls) h.deeds in omega (arith, cut, f);
      others = λ k ne. let cut = ap (finished_in k) mine ∙ finished_append k (own_deeds c.calls) h.deeds in let none = none_finished p a h.deeds h.count.finished h.count.others whose k (λ e. ne (e ∙ sym here)) in omega (arith, cut, none);
    }

-- what is told then
pub tells_after : (dq df q f q' f' : ℕ) (c c' : CpuView Unit) → Adds dq df c c' → TellsOf c.calls.processor q f (own_deeds c.calls) → q' ≡ q + dq → (f + df < 2 ^ 64 → f' ≡ f + df) → TellsOf c'.calls.processor q' f' (own_deeds c'.calls)
tells_after dq df q f q' f' c c' h was queued finished = subst (λ k. TellsOf k q' f' (own_deeds c'.calls)) (sym h.same) (record {
  queued_are = let a = h.queued_are in let b = was.queued_are in omega (arith, a, b, queued);
  finished_are = λ few.
      let a = h.finished_are in
      let b = was.finished_are (omega (arith, few, a)) in
      let n = finished (omega (arith, few, a, b)) in
      omega (arith, a, b, n);
  others = λ k ne. h.others k ne ∙ was.others k ne;
})
