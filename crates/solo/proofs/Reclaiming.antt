-- Questions about retired slots, and what a processor adds that asks them.
use Rattle.std.proofs.Common.{◌≡◌, ℕ, zero, suc, ◌+◌, ◌≤◌, Bool, [], ◌∷◌, ◌++◌, length, inl, refl, sym, ap, ◌∙◌, subst, append-nil, arith, ne_eqb, length-append}
use Rattle.solo.proofs.Words.{filter_map-append, dite, dec_lt, Processor, Ask, made_by, starts_in, ended_in, beginning_refl, made_by_own, made_by_other, same_maker_refl, starts_in_push, ended_in_push, Blank, Out, Current, Retired, put_cell, put_cells, WriterView, Reclaims, question, questions}
use Rattle.solo.proofs.Words.{greatest, CpuView, with_cpu, AreOf, stays, adds_none, all_of, reclaims}
use Rattle.sections.specs.Glossary.{standing_of}
use Rattle.sections.specs.declared.writer.Standing.{Standing}
use Rattle.solo.proofs.NothingBetween.{made, made_append}
use Rattle.solo.proofs.Adding.{Did, are_both}

-- Questions

none_of : (p : ℕ) → AreOf p []
none_of p = record { own = refl; others = λ k other. refl; engine = refl; quiet = λ history. (ap starts_in (append-nil history), ap ended_in (append-nil history)) }

one_of : (p n : ℕ) (done : Bool) → AreOf p (Ask n done (Processor p) ∷ [])
one_of p n done = record {
  own = made_by_own (Processor p) [] (Ask n done (Processor p)) (same_maker_refl (Processor p));
  others = λ k other. made_by_other (Processor k) [] (Ask n done (Processor p)) (ne_eqb p k (λ same. other (sym same)));
  engine = refl;
  quiet = λ history. let first = starts_in_push history (Ask n done (Processor p)) in let second = ended_in_push history (Ask n done (Processor p)) in (omega (arith, first), omega (arith, second));
}

question_is : (p : ℕ) (done : Bool) (s : Standing) → AreOf p (question p done s)
question_is p done Blank = none_of p
question_is p done Out = none_of p
question_is p done Current = none_of p
question_is p done (Retired n) = one_of p n done

pub questions_are : (p : ℕ) (done : ℕ → Bool) (w : WriterView) (slots : ℕ) → AreOf p (questions p done w slots)
questions_are p done w zero = none_of p
questions_are p done w (suc x) = are_both p (questions p done w x) (question p (done x) (standing_of w x)) (questions_are p done w x) (question_is p (done x) (standing_of w x))

no_put : (p : ℕ) (done : Bool) (s : Standing) → put_cells (question p done s) ≡ []
no_put p done Blank = refl
no_put p done Out = refl
no_put p done Current = refl
no_put p done (Retired n) = refl

-- none of them is a Put
pub questions_put : (p : ℕ) (done : ℕ → Bool) (w : WriterView) (slots : ℕ) → put_cells (questions p done w slots) ≡ []
questions_put p done w zero = refl
questions_put p done w (suc x) = filter_map-append put_cell (questions p done w x) (question p (done x) (standing_of w x)) ∙ (λ i. questions_put p done w x i ++ no_put p (done x) (standing_of w x) i)

-- A processor asks them

module _ {J : Type 0} (p : ℕ) (was now : CpuView J) (here : was.cpu.processor ≡ p) (own : was.cpu.mine ≡ made_by (Processor p) was.cpu.seen) (w w' : WriterView) (h : Reclaims w was.cpu w' now.cpu) (rest : now ≡ with_cpu now.cpu was) where
  asked : now.cpu.mine ≡ was.cpu.mine ++ questions p h.done w w.slots
  asked = subst (λ q. now.cpu.mine ≡ was.cpu.mine ++ questions q h.done w w.slots) here h.mine

  grows : made (Processor p) was.cpu.seen ≤ made (Processor p) now.cpu.seen
  grows = let all = ap (made (Processor p)) h.since.0.whole ∙ made_append (Processor p) was.cpu.seen h.since.0.rest in omega (arith, all)

  seen_all : made (Processor p) was.cpu.seen + length (questions p h.done w w.slots) ≤ made (Processor p) now.cpu.seen
  seen_all = dite (dec_lt 0 (length (questions was.cpu.processor h.done w w.slots)))
      (λ some.
      let it = (h.some some).3 in
      let mine = ap length asked ∙ length-append was.cpu.mine (questions p h.done w w.slots) in
      let before = ap length own in
      let behind : length now.cpu.mine ≡ made (Processor p) now.cpu.seen = ap length it.own ∙ ap (λ q. made (Processor q) now.cpu.seen) (h.same.1.3 ∙ here) in
      omega (arith, mine, before, behind))
      (λ none.
      let up = grows in
      let same : length (questions was.cpu.processor h.done w w.slots) ≡ length (questions p h.done w w.slots) = ap (λ q. length (questions q h.done w w.slots)) here in
      omega (arith, none, up, same))

  pub reclaim_did : Did p (reclaims h.done w p) was now
  reclaim_did = record {
    events = record { same = h.same.1; since = h.since.0; mine = asked; seen = seen_all; later = h.since.1 };
    are_of = questions_are p h.done w w.slots;
    raised = [];
    needs = stays was.needs now.needs (ap (λ (x : CpuView J). x.needs) rest);
    ask_for = record { own = λ q is. refl; others = λ q other. refl; greatest_is = λ before. let none = ap greatest (append-nil before) in omega (arith, none); cookie = inl refl };
    deeds = [];
    adds = adds_none was.calls now.calls (ap (λ (x : CpuView J). x.calls) rest);
    count = record { queued = refl; finished = refl; others = λ q other. refl; lists = λ q away l. refl };
    turn = ap (λ (x : CpuView J). x.turn) rest;
  }

-- Nothing is done
module _ {J : Type 0} (p : ℕ) (was now : CpuView J) (same : was ≡ now) where
  pub nothing_did : Did p (all_of [] 0) was now
  nothing_did = subst (λ (x : CpuView J). Did p (all_of [] 0) was x) same (record {
    events = record { same = (refl, refl, refl, refl); since = beginning_refl was.cpu.seen; mine = sym (append-nil was.cpu.mine); seen = no_more (made (Processor p) was.cpu.seen); later = as_many was.cpu.changes };
    are_of = none_of p;
    raised = [];
    needs = stays was.needs was.needs refl;
    ask_for = record { own = λ q is. refl; others = λ q other. refl; greatest_is = λ before. let none = ap greatest (append-nil before) in omega (arith, none); cookie = inl refl };
    deeds = [];
    adds = adds_none was.calls was.calls refl;
    count = record { queued = refl; finished = refl; others = λ q other. refl; lists = λ q away l. refl };
    turn = refl;
  })
    where
      no_more : (n : ℕ) → n + 0 ≤ n
      no_more n = omega (arith)

      as_many : (n : ℕ) → n ≤ n
      as_many n = omega (arith)
