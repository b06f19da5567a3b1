-- The results of the handlers that were called so far.
use Rattle.std.proofs.Common.{◌≡◌, ◌≢◌, ℕ, ◌+◌, ◌-◌, ◌<◌, List, [], ◌∷◌, ◌++◌, length, map, take, get_or, refl, sym, ap, ◌∙◌, subst, arith, length-append}
use mathlib.Core.Logic.{dite}
use native.Mathlib.Decide.{ℕ_discrete}
use Rattle.std.specs.List.{AllZip}
use Rattle.std.proofs.lemmas.List.{length-map, get_or_append_left, get_or_default, get_or-map}
use Rattle.std.proofs.lemmas.List.Elements.{all_zip_more}
use Rattle.std.proofs.Math.Seq.{get_or-append_seam}
use Rattle.notify.specs.declared.block.Block.{Block}
use Rattle.notify.specs.Calling.{GivesAt, Stops, Answers}
use Rattle.notify.proofs.Chains.{blank}

abbrev ids_of : List Block → List ℕ
ids_of blocks = map (λ b. b.id) blocks

-- the handlers of the first so many blocks were called, and none stops
pub record AnsweredTo {H : Type 0} (says : H → ℕ → Type 0) (handlers : List H) (blocks : List Block) (place last : ℕ) : Type 0 where
  pub results : List ℕ
  pub given : AllZip (GivesAt says handlers) (take place (map (λ b. b.id) blocks)) results
  pub long : length results ≡ place
  pub goes_on : (i : ℕ) → i < place → ¬ Stops (get_or results i 0)
  pub last_is : last ≡ get_or results (place - 1) 0

module _ {H : Type 0} (says : H → ℕ → Type 0) (handlers : List H) (blocks : List Block) where
  pub answered_none : AnsweredTo says handlers blocks 0 0
  answered_none = record { results = []; given = tt; long = refl; goes_on = λ i lt. absurd (omega (arith, lt)); last_is = refl }

  -- the handler of the block at this place may say this
  pub called : (place : ℕ) (h : H) (r : ℕ) → place < length blocks → (get_or blocks place blank).id < length handlers → h ≡ get_or handlers (get_or blocks place blank).id h → says h r → GivesAt says handlers (get_or (map (λ b. b.id) blocks) place 0) r
  called place h r there low is answered = subst (λ n. GivesAt says handlers n r) (sym (get_or-map (λ b. b.id) blocks place blank 0 there)) (record { there = low; handler = h; is = is; answered = answered })

  module _ (place last : ℕ) (there : place < length blocks) (h : AnsweredTo says handlers blocks place last) (r : ℕ) (given : GivesAt says handlers (get_or (map (λ b. b.id) blocks) place 0) r) where
    abbrev more : List ℕ
    more = h.results ++ r ∷ []

    more_given : AllZip (GivesAt says handlers) (take (place + 1) (ids_of blocks)) more
    more_given = all_zip_more (GivesAt says handlers) (ids_of blocks) h.results place (get_or (ids_of blocks) place 0) r on (get_or_default (ids_of blocks) place 0 (get_or (ids_of blocks) place 0) on) h.given given
      where
        on : place < length (ids_of blocks)
        on = let l = length-map blocks (λ b. b.id) in omega (arith, l, there)

    more_long : length more ≡ place + 1
    more_long = length-append h.results (r ∷ []) ∙ ap (λ n. n + 1) h.long

    last_place : (n : ℕ) → n + 1 - 1 ≡ n
    last_place n = omega (arith)

    more_last : r ≡ get_or more (place + 1 - 1) 0
    more_last = sym (ap (λ n. get_or more n 0) (last_place place ∙ sym h.long) ∙ get_or-append_seam h.results r [] 0)

    more_before : (i : ℕ) → i < place → ¬ Stops (get_or more i 0)
    more_before i lt = subst (λ n. ¬ Stops n) (sym (get_or_append_left h.results (r ∷ []) 0 i (let l = h.long in omega (arith, l, lt)))) (h.goes_on i lt)

    less : (i p : ℕ) → i < p + 1 → i ≢ p → i < p
    less i p lt n = omega (arith, lt, n)

    -- one more was called
    pub answered_more : ¬ Stops r → AnsweredTo says handlers blocks (place + 1) r
    answered_more on = record {
      results = more;
      given = more_given;
      long = more_long;
      goes_on = λ i lt. dite (ℕ_discrete i place)
          (λ e. λ stops. on (subst Stops (ap (λ n. get_or more n 0) (e ∙ sym (last_place place)) ∙ sym more_last) stops))
          (λ n. more_before i (less i place lt n));
      last_is = more_last;
    }

    -- one more was called, and it stops
    pub answers_stopped : Stops r → Answers (GivesAt says handlers) blocks r (place + 1)
    answers_stopped stops = record {
      results = more;
      given = more_given;
      answer = record {
        count_is = sym more_long;
        last_is = more_last;
        goes_on = λ i lt. more_before i (omega (arith, lt));
        within = omega (arith, there);
        ends = λ _. stops;
      };
    }

  -- all were called
  pub answers_all : (place last n : ℕ) → place ≡ length blocks → place ≡ n → AnsweredTo says handlers blocks place last → Answers (GivesAt says handlers) blocks last n
  answers_all place last n all is h = subst (λ k. Answers (GivesAt says handlers) blocks last k) is (record {
    results = h.results;
    given = h.given;
    answer = record {
      count_is = sym h.long;
      last_is = h.last_is;
      goes_on = λ i lt. h.goes_on i (omega (arith, lt));
      within = omega (arith, all);
      ends = λ lt. absurd (omega (arith, lt, all));
    };
  })
