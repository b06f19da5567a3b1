-- One slot after another is reclaimed.
use Rattle.std.proofs.Common.{◌≡◌, ◌≢◌, ℕ, zero, suc, ◌+◌, ◌<◌, ◌≤◌, Bool, true, false, cond, eqb, List, [], ◌∷◌, ◌++◌, length, get_or, set, refl, sym, ap, ◌∙◌, subst, append-nil, append_assoc, length-append, ne_eqb, eq-eqb, arith, get_or-set_other}
use mathlib.Core.Logic.{dite}
use native.Mathlib.Decide.{ℕ_discrete}
use Rattle.onedom.specs.declared.event.Maker.TheVariants.{Processor}
use Rattle.onedom.specs.declared.event.Event.{Event}
use Rattle.onedom.specs.declared.event.Event.TheVariants.{Ask}
use Rattle.onedom.specs.Histories.{IsBeginning}
use Rattle.onedom.proofs.CallerLemmas.{beginning_refl, beginning_trans, beginning_push}
use Rattle.sections.specs.Glossary.{Standing, CpuView, WriterView, standing_of, ReclaimsSlot, reclaimed, question, questions, ReclaimsBelow}
use Rattle.sections.specs.declared.writer.Standing.TheVariants.{Blank, Retired}
use Rattle.sections.proofs.Shelving.{start_refl, start_trans}

-- the questions about the slots below one depend on the answers about these alone
questions_same : (p : ℕ) (f g : ℕ → Bool) (w : WriterView) (k : ℕ) → ((x : ℕ) → x < k → f x ≡ g x) → questions p f w k ≡ questions p g w k
questions_same p f g w zero same = refl
questions_same p f g w (suc k) same = λ i. questions_same p f g w k (λ x lt. same x (omega (arith, lt))) i ++ question p (same k (omega arith) i) (standing_of w k)

-- a slot is blank, and the others are as they were
blank_there : (xs : List Standing) (x : ℕ) → get_or (set xs x Blank) x Blank ≡ Blank
blank_there [] x = refl
blank_there (t ∷ ts) zero = refl
blank_there (t ∷ ts) (suc x) = blank_there ts x

pub reclaims_none : (w : WriterView) (c : CpuView) → ReclaimsBelow 0 w c w c
reclaims_none w c = record {
  done = λ x. false;
  standings = λ x lt. absurd (omega (arith, lt));
  mine = sym (append-nil c.mine);
  steps = refl;
  none = λ _. (refl, refl);
  some = λ lt. absurd (omega (arith, lt));
  same = (record { domain = refl; cell = refl; slots = refl; version = refl; current = refl }, (refl, refl, refl, refl));
  words = refl;
  plan = refl;
  since = (beginning_refl c.seen, omega arith, start_refl c.texts, beginning_refl w.seen);
}

-- what is not retired is asked nothing about
unasked : (p : ℕ) (d : Bool) (t : Standing) → ((n : ℕ) → t ≢ Retired n) → (question p d t ≡ []) × (reclaimed d t ≡ t)
unasked p d (Retired n) other = absurd (other n refl)
unasked p d _ other = (refl, refl)

reclaims_skip_suc : (k : ℕ) (w : WriterView) (c : CpuView) (w' : WriterView) (c' : CpuView) → standing_of w' k ≡ standing_of w k → ((n : ℕ) → standing_of w' k ≢ Retired n) → ReclaimsBelow k w c w' c' → ReclaimsBelow (suc k) w c w' c'
reclaims_skip_suc k w c w' c' still other h =
    let u = unasked c.processor (h.done k) (standing_of w k) (λ n e. other n (still ∙ e)) in
    let all : questions c.processor h.done w (suc k) ≡ questions c.processor h.done w k = ap (λ l. questions c.processor h.done w k ++ l) u.0 ∙ append-nil (questions c.processor h.done w k) in record {
      done = h.done;
      standings = λ x lt. dite (ℕ_discrete x k)
          (λ e. subst (λ (z : ℕ). standing_of w' z ≡ reclaimed (h.done z) (standing_of w z)) (sym e) (still ∙ sym u.1))
          (λ n. h.standings x (omega (arith, lt, n)));
      mine = h.mine ∙ ap (λ l. c.mine ++ l) (sym all);
      steps = h.steps;
      none = λ e. h.none (ap length (sym all) ∙ e);
      some = λ lt. h.some (subst (λ (l : List Event). 0 < length l) all lt);
      same = h.same;
      words = h.words;
      plan = h.plan;
      since = h.since;
    }

reclaims_ask_suc : (k n : ℕ) (answer : Bool) (w : WriterView) (c : CpuView) (w' : WriterView) (c' : CpuView) (w'' : WriterView) (c'' : CpuView)
    → standing_of w' k ≡ standing_of w k → standing_of w' k ≡ Retired n → ReclaimsBelow k w c w' c' → ReclaimsSlot k n answer w' c' w'' c'' → ReclaimsBelow (suc k) w c w'' c''
reclaims_ask_suc k n answer w c w' c' w'' c'' still is h r =
    let p : ℕ = c.processor in
    let done : ℕ → Bool = λ x. cond (eqb x k) answer (h.done x) in
    let here : done k ≡ answer = ap (λ b. cond b answer (h.done k)) (eq-eqb k k refl) in
    let else_done : (x : ℕ) → x ≢ k → done x ≡ h.done x = λ x ne. ap (λ b. cond b answer (h.done x)) (ne_eqb x k ne) in
    let was : standing_of w k ≡ Retired n = sym still ∙ is in
    let asked : question p (done k) (standing_of w k) ≡ Ask n answer (Processor p) ∷ [] = λ i. question p (here i) (was i) in
    let all : questions p done w (suc k) ≡ questions p h.done w k ++ Ask n answer (Processor p) ∷ [] = λ i. questions_same p done h.done w k (λ x lt. else_done x (λ e. omega (arith, lt, e))) i ++ asked i in
    let a = r.asks.adds in
    let mine : c''.mine ≡ c'.mine ++ Ask n answer (Processor p) ∷ [] = a.mine ∙ ap (λ q. c'.mine ++ Ask n answer (Processor q) ∷ []) h.same.1.3 in
    let upto : IsBeginning a.before c''.seen = subst (λ (l : List Event). IsBeginning a.before l) (sym a.seen) (beginning_push (Ask n answer (Processor c'.processor)) (beginning_refl a.before)) in
    let low = h.since.1 in let high = a.later in
    let else_same : (x : ℕ) → x ≢ k → standing_of w'' x ≡ standing_of w' x = λ x ne. others r.done r.waits x ne in record {
      done = done;
      standings = λ x lt. dite (ℕ_discrete x k)
          (λ e. subst (λ (z : ℕ). standing_of w'' z ≡ reclaimed (done z) (standing_of w z)) (sym e)
          (there r.done r.waits is ∙ sym (λ i. reclaimed (here i) (was i))))
          (λ ne. else_same x ne ∙ (h.standings x (omega (arith, lt, ne)) ∙ ap (λ d. reclaimed d (standing_of w x)) (sym (else_done x ne))));
      mine = mine ∙ (ap (λ l. l ++ Ask n answer (Processor p) ∷ []) h.mine ∙ (append_assoc c.mine (questions p h.done w k) (Ask n answer (Processor p) ∷ []) ∙ ap (λ l. c.mine ++ l) (sym all)));
      steps = a.steps ∙ h.steps;
      none = λ e. let l = ap length all in let m = length-append (questions p h.done w k) (Ask n answer (Processor p) ∷ []) in absurd (omega (arith, e, l, m));
      some = λ _. (
        record { own = c'.mine; before = a.before; last = Ask n answer (Processor c'.processor); mine = a.mine; seen = a.seen },
        beginning_trans h.since.3 (beginning_trans a.covers upto),
        r.covers,
        a.history,
      );
      same = (
        record { domain = r.same.domain ∙ h.same.0.domain; cell = r.same.cell ∙ h.same.0.cell; slots = r.same.slots ∙ h.same.0.slots; version = r.same.version ∙ h.same.0.version; current = r.same.current ∙ h.same.0.current },
        (a.same.0 ∙ h.same.1.0, a.same.1 ∙ h.same.1.1, a.same.2 ∙ h.same.1.2, a.same.3 ∙ h.same.1.3),
      );
      words = r.words ∙ h.words;
      plan = r.plan ∙ h.plan;
      since = (beginning_trans h.since.0 (beginning_trans a.since upto), omega (arith, low, high), start_trans h.since.2 a.texts, beginning_trans h.since.3 r.since);
    }
  where
    there : (answer ≡ true → w''.standings ≡ set w'.standings k Blank) → (answer ≡ false → w''.standings ≡ w'.standings) → standing_of w' k ≡ Retired n → standing_of w'' k ≡ reclaimed answer (Retired n)
    there = told answer
      where
        told : (b : Bool) → (b ≡ true → w''.standings ≡ set w'.standings k Blank) → (b ≡ false → w''.standings ≡ w'.standings) → standing_of w' k ≡ Retired n → standing_of w'' k ≡ reclaimed b (Retired n)
        told true yes_ no_ is = ap (λ l. get_or l k Blank) (yes_ refl) ∙ blank_there w'.standings k
        told false yes_ no_ is = ap (λ l. get_or l k Blank) (no_ refl) ∙ is

    others : (answer ≡ true → w''.standings ≡ set w'.standings k Blank) → (answer ≡ false → w''.standings ≡ w'.standings) → (x : ℕ) → x ≢ k → standing_of w'' x ≡ standing_of w' x
    others = told answer
      where
        told : (b : Bool) → (b ≡ true → w''.standings ≡ set w'.standings k Blank) → (b ≡ false → w''.standings ≡ w'.standings) → (x : ℕ) → x ≢ k → standing_of w'' x ≡ standing_of w' x
        told true yes_ no_ x ne = ap (λ l. get_or l x Blank) (yes_ refl) ∙ get_or-set_other w'.standings k x Blank Blank ne
        told false yes_ no_ x ne = ap (λ l. get_or l x Blank) (no_ refl)

next : (k : ℕ) → suc k ≡ k + 1
next k = omega arith

pub reclaims_skip : (k : ℕ) (w : WriterView) (c : CpuView) (w' : WriterView) (c' : CpuView) → standing_of w' k ≡ standing_of w k → ((n : ℕ) → standing_of w' k ≢ Retired n) → ReclaimsBelow k w c w' c' → ReclaimsBelow (k + 1) w c w' c'
reclaims_skip k w c w' c' still other h = subst (λ (m : ℕ). ReclaimsBelow m w c w' c') (next k) (reclaims_skip_suc k w c w' c' still other h)

pub reclaims_ask : (k n : ℕ) (answer : Bool) (w : WriterView) (c : CpuView) (w' : WriterView) (c' : CpuView) (w'' : WriterView) (c'' : CpuView)
    → standing_of w' k ≡ standing_of w k → standing_of w' k ≡ Retired n → ReclaimsBelow k w c w' c' → ReclaimsSlot k n answer w' c' w'' c'' → ReclaimsBelow (k + 1) w c w'' c''
reclaims_ask k n answer w c w' c' w'' c'' still is h r = subst (λ (m : ℕ). ReclaimsBelow m w c w'' c'') (next k) (reclaims_ask_suc k n answer w c w' c' w'' c'' still is h r)

-- the slots from the next one on are as they were
pub later_still : (k n : ℕ) (answer : Bool) (w w' w'' : WriterView) (c' c'' : CpuView) → ((x : ℕ) → k ≤ x → standing_of w' x ≡ standing_of w x) → ReclaimsSlot k n answer w' c' w'' c'' → (x : ℕ) → k + 1 ≤ x → standing_of w'' x ≡ standing_of w x
later_still k n answer w w' w'' c' c'' still r x le = told answer r.done r.waits ∙ still x (omega (arith, le))
  where
    told : (b : Bool) → (b ≡ true → w''.standings ≡ set w'.standings k Blank) → (b ≡ false → w''.standings ≡ w'.standings) → standing_of w'' x ≡ standing_of w' x
    told true yes_ no_ = ap (λ l. get_or l x Blank) (yes_ refl) ∙ get_or-set_other w'.standings k x Blank Blank (λ e. omega (arith, e, le))
    told false yes_ no_ = ap (λ l. get_or l x Blank) (no_ refl)
