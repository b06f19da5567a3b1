-- The callbacks of all processors, counted by who did it.
use Rattle.std.proofs.Common.{◌≡◌, ℕ, ◌<◌, ◌==◌, Bool, List, [], ◌∷◌, inl, inr, All, refl, sym, eq-eqb, ne_eqb}
use Rattle.race.proofs.Words.{All-nil, All-cons, Act, Deed, finished_by, finished_in, deeds_of, AreTakers, IsTaker, added}
use Rattle.calls.specs.declared.view.Act.TheVariants.{Queue, Take, Finish, LackRoom, LoadQueued, LoadFinished}
use Rattle.race.proofs.Parting.{Counts, parts}

module _ {J : Type 0} where
  abbrev by_processor : ℕ → Deed J → Bool
  by_processor k d = d.by == k

  abbrev CountsOf : ℕ → ℕ → Deed J → Type 0
  CountsOf q n d = Counts (finished_in q) (λ (z : Deed J). finished_by q z.act) refl (λ z zs. refl) by_processor n d

  made : (q n : ℕ) (d : Deed J) → d.by < n → CountsOf q n d
  made q n d lt = inr (record { maker = d.by; there = lt; one = eq-eqb d.by d.by refl; others = λ k ne. ne_eqb d.by k (λ e. ne (sym e)) })

  one_finish : (q n by : ℕ) (act : Act J) → IsTaker n by act → CountsOf q n record { by = by; act = act }
  one_finish q n by (Queue e) h = inl refl
  one_finish q n by (Take p c max moved) h = inl refl
  one_finish q n by (Finish p c) h = made q n record { by = by; act = Finish p c } h
  one_finish q n by (LackRoom p moved) h = inl refl
  one_finish q n by (LoadQueued p c) h = inl refl
  one_finish q n by (LoadFinished p c) h = inl refl

  each : (q n : ℕ) (all : List (Deed J)) → AreTakers n all → All (CountsOf q n) all
  each q n [] h = All-nil (CountsOf q n)
  each q n (d ∷ ds) h = All-cons (CountsOf q n) d ds (one_finish q n d.by d.act h.0) (each q n ds h.1)

  -- what is finished of a processor, by all who finished it
  pub finished_by_all : (q n : ℕ) (all : List (Deed J)) → AreTakers n all → added (λ k. finished_in q (deeds_of k all)) 0 n ≡ finished_in q all
  finished_by_all q n all takers = parts (finished_in q) (λ (z : Deed J). finished_by q z.act) refl (λ z zs. refl) by_processor n all (each q n all takers)
