-- From what a step on the tally words tells a seat to what the steps of a call do to it.
use Rattle.std.proofs.Common.{◌≡◌, ℕ, ◌+◌, ◌*◌, ◌<◌, List, [], sym, ap, ◌∙◌, subst, arith}
use Rattle.calls.specs.Glossary.{View, Act, Deed, word_count, deeds_of, AreTakers, IsBeginning, AreTrue, ListRight, with_list, without_list, with_batch, without_batch, Sat, FindsAll}
use Rattle.calls.specs.declared.view.BatchRight.TheVariants.{NoBatch}
use Rattle.calls.specs.declared.view.ListRight.TheVariants.{NoList}
use Rattle.calls.specs.Plays.{Does}

pub some_words : (words n p : ℕ) → words ≡ word_count n → p < n → 0 < words
some_words words n p wide lt = omega (arith, wide, lt)

pub queued_there : (words n p : ℕ) → words ≡ word_count n → p < n → 16 * p + 8 < words
queued_there words n p wide lt = omega (arith, wide, lt)

pub finished_there : (words n p : ℕ) → words ≡ word_count n → p < n → 16 * p + 16 < words
finished_there words n p wide lt = omega (arith, wide, lt)

module _ {J : Type 0} where
  -- the same, where the seat took a right over before the step and gave one away after it
  unfoldable pub does_through : (p : ℕ) (act : Act J) (v j w w' : View J) → j.seen ≡ v.seen → j.role ≡ v.role → w'.seen ≡ w.seen → w'.role ≡ w.role → Does p act j w → Does p act v w'
  does_through p act v j w w' seen who seen' who' h = record {
    before = h.before;
    seen = seen' ∙ h.seen;
    since = subst (λ (l : List (Deed J)). IsBeginning l h.before) seen h.since;
    own = h.own ∙ ap (deeds_of p) seen;
    who = who' ∙ (h.who ∙ who);
    loads = subst (λ (l : List (Deed J)). AreTrue l) (sym seen') h.loads;
  }

  -- the seat, where a list's right was taken over before the load and given away after it
  pub list_through : (a j e t : Sat J) (w : View J) (right : ListRight J) → j ≡ (with_list a.0 w, a.1) → e ≡ (record j.0 { client = record j.0.client { list = right }; seen = e.0.seen; told = [] }, j.1)
      → t ≡ (without_list e.0, e.1) → t ≡ (record a.0 { client = record a.0.client { list = NoList }; seen = t.0.seen; told = [] }, a.1)
  list_through a j e t w right taken loaded given =
      let seen : t.0.seen ≡ e.0.seen = ap (λ m. m.0.seen) given in
      given ∙ ((λ i. (without_list (loaded i).0, (loaded i).1)) ∙ (λ i. (record (taken i).0 { client = record (taken i).0.client { list = NoList }; seen = sym seen i; told = [] }, (taken i).1)))

  -- a load with a batch's right, between taking it over and giving it back
  pub load_through : (a j e t : Sat J) (w : View J) → j ≡ (with_batch a.0 w, a.1) → e ≡ (record j.0 { seen = e.0.seen; told = [] }, j.1) → t ≡ (without_batch e.0, e.1) → t ≡ (record a.0 { client = record a.0.client { batch = NoBatch }; seen = t.0.seen; told = [] }, a.1)
  load_through a j e t w taken loaded given =
      let seen : t.0.seen ≡ e.0.seen = ap (λ m. m.0.seen) given in
      given ∙ ((λ i. (without_batch (loaded i).0, (loaded i).1)) ∙ (λ i. (record (taken i).0 { client = record (taken i).0.client { batch = NoBatch }; seen = sym seen i; told = [] }, (taken i).1)))

  pub finds_through : (n c : ℕ) (a j e t : View J) → j.seen ≡ a.seen → j.told ≡ a.told → t.seen ≡ e.seen → FindsAll n c j e → FindsAll n c a t
  finds_through n c a j e t was told seen h = record {
    since = subst (λ (z : List (Deed J) × List (Deed J)). IsBeginning z.0 z.1) (λ i. (was i, sym seen i)) h.since;
    own = ap (deeds_of c) seen ∙ (h.own ∙ ap (deeds_of c) was);
    covers = subst (λ (z : List (Deed J) × List (Deed J)). IsBeginning z.0 z.1) (λ i. (told i, sym seen i)) h.covers;
    loads = subst (λ (l : List (Deed J)). AreTrue l) (sym seen) h.loads;
    takers = subst (λ (l : List (Deed J)). AreTakers n l) (sym seen) h.takers;
  }
