-- The rule tells of one history, and no seat can claim a load that it did not make. What barriers cover.
use Rattle.std.proofs.Common.{◌≡◌, ℕ, zero, suc, true, true≢false, List, [], ◌∷◌, Option, None, replicate, refl, sym, ap, ◌∙◌, subst, arith, ⊎_elim}
use Rattle.std.proofs.lemmas.List.{length-replicate}
use mathlib.Core.Option.{some, some-injective, some-ne-none}
use lib.ListN.{get_elem?}
use Rattle.atomic_table.specs.Table.{State}
use Rattle.annals.specs.declared.view.Role.TheVariants.{Sits}
use Rattle.annals.specs.Glossary.{Maker, made_by, Head, Sitter, StandsFor, Fits}
use Rattle.annals.proofs.CallerLemmas as annals
use Rattle.calls.specs.Glossary.{Plan, Deed, queued_place, finished_place, word_count, deed, queued_in, finished_in, deeds_of, IsBeginning, View, Right, has, no_rights, none_had, tally_client, Kept, note, TheList, TheBatch, TheCall, OneHistory, idle_seat, NoStepIsForged, StaysQueued, StaysFinished, BarriersCover}
use Rattle.calls.specs.declared.view.Act.TheVariants.{LoadQueued}
use Rattle.calls.proofs.Counting.{begins_empty, begins_itself}
use Rattle.calls.proofs.Founding.{all_zero}
use Rattle.calls.proofs.Loading.{queued_later, finished_later}

module _ {J : Type 0} where
  pub one_history : OneHistory J
  one_history plan s r = record {
    log = r.log;
    loads = r.agreed.loads;
    queued = r.agreed.queued;
    finished = r.agreed.finished;
    within = λ p. let all = (r.agreed.counted p).all in omega (arith, all);
    seen = λ j v at. (r.each_view j v at).seen;
  }

-- processor 0 has done nothing, and processor 1 has loaded a word

module _ {J : Type 0} where
  abbrev first_load : Deed J
  first_load = deed 1 (LoadQueued 0 0)

  abbrev one_that_looked : View J
  one_that_looked = record { role = Sits 1; seen = first_load ∷ []; told = []; done = []; client = no_rights }

  abbrev three_seats : Plan → State (Option ℕ) (View J)
  three_seats plan = record { words = replicate (word_count plan.processors) 0; homes = []; views = idle_seat ∷ one_that_looked ∷ note idle_seat ∷ [] }

callers : Maker → ℕ
callers Head = 3
callers (Sitter zero) = 0
callers (Sitter (suc p)) = 1

module _ {J : Type 0} (plan : Plan) where
  abbrev log : List (Deed J)
  log = first_load ∷ []

  abbrev IsSeat : ℕ → View J → Type 0
  IsSeat j v = Fits tally_client plan (λ _. None) log [] callers (λ _. 3) j v

  sits_there : (p : ℕ) (seen : List (Deed J)) → IsBeginning seen log → deeds_of p log ≡ deeds_of p seen → IsSeat (callers (Sitter p)) record { role = Sits p; seen = seen; told = []; done = []; client = no_rights }
  sits_there p seen begins own = record {
    seen = begins;
    told = begins_empty log;
    alone = only (λ m. callers m ≡ callers (Sitter p)) refl;
    own = only (λ m. made_by (λ (d : Deed J). Sitter d.by) m log ≡ made_by (λ (d : Deed J). Sitter d.by) m seen) own;
    upto = annals.beginning_empty [];
    own_done = λ m _. refl;
    holds = none_held;
    known = record { list = tt; batch = tt; whose = refl };
  }
    where
      only : (F : Maker → Type 0) → F (Sitter p) → (m : Maker) → StandsFor (Sits p) m → F m
      only F here Head h = absurd h
      only F here (Sitter q) h = subst (λ z. F (Sitter z)) (sym h) here

      none_held : (x : Right) → has {J = J} (Sits p) no_rights x ≡ true → 3 ≡ callers (Sitter p)
      none_held (TheList q) h = absurd (true≢false (sym h))
      none_held (TheBatch q) h = absurd (true≢false (sym h))
      none_held (TheCall q n) h = absurd (true≢false (sym h))

  three_fit : (j : ℕ) (v : View J) → get_elem? (three_seats plan).views j ≡ some v → IsSeat j v
  unfolding callers
  three_fit zero v e = subst (IsSeat 0) (some-injective idle_seat v e) (sits_there 0 [] (begins_empty log) refl)
  three_fit (suc zero) v e = subst (IsSeat 1) (some-injective one_that_looked v e) (sits_there 1 log (begins_itself log) refl)
  three_fit (suc (suc zero)) v e = subst (IsSeat 2) (some-injective (note idle_seat) v e)
      record {
        seen = begins_empty log;
        told = begins_empty log;
        alone = λ m h. absurd h;
        own = λ m h. absurd h;
        upto = annals.beginning_empty [];
        own_done = λ m h. absurd h;
        holds = λ x h. absurd (true≢false (sym h ∙ none_had (no_rights {J = J}) x));
        known = record { list = tt; batch = tt; whose = tt };
      }
  three_fit (suc (suc (suc j))) v e = absurd (some-ne-none v (sym e))

module _ (J : Type 0) where
  none_queued : (p : ℕ) → queued_in {J = J} p (first_load ∷ []) ≡ 0
  none_queued p = omega arith

  none_finished : (p : ℕ) → finished_in {J = J} p (first_load ∷ []) ≡ 0
  none_finished p = omega arith

module _ {J : Type 0} where
  three_kept : (plan : Plan) → Kept {J = J} plan (three_seats plan)
  three_kept plan = record {
    log = first_load ∷ [];
    deeds = [];
    world = λ _. None;
    seat_of = callers;
    holder = λ _. 3;
    agreed = record {
      loads = (refl, tt);
      takers = (tt, tt);
      counted = λ p. let q = none_queued J p in let f = none_finished J p in record { all = omega (arith, q, f); few = omega (arith, q) };
      wide = length-replicate (word_count plan.processors) 0;
      queued = λ p _. all_zero (word_count plan.processors) (replicate (word_count plan.processors) 0) refl (queued_place p) ∙ sym (none_queued J p);
      finished = λ p _. all_zero (word_count plan.processors) (replicate (word_count plan.processors) 0) refl (finished_place p) ∙ sym (none_finished J p);
    };
    each_view = three_fit plan;
  }

module _ {J : Type 0} where
  one_head : (d e : Deed J) (log : List (Deed J)) → IsBeginning (d ∷ []) log → IsBeginning (e ∷ []) log → d.by ≡ e.by
  one_head d e log a b = let same : d ∷ a.rest ≡ e ∷ b.rest = sym a.whole ∙ b.whole in let head : d ≡ e = cc in ap (λ x. x.by) head

  -- nobody has a deed of processor 0's where processor 1 has done one
  not_claimed : (plan : Plan) (views : List (View J)) (r : Kept plan record { words = (three_seats {J = J} plan).words; homes = []; views = views }) (d : Deed J) (j : ℕ) (v : View J) → d.by ≡ 0 → v.seen ≡ d ∷ [] → get_elem? views 1 ≡ some one_that_looked → get_elem? views j ≡ some v → ⊥
  not_claimed plan views r d j v by claims other at =
      let mine : IsBeginning (d ∷ []) r.log = subst (λ (l : List (Deed J)). IsBeginning l r.log) claims (r.each_view j v at).seen in
      let same : 0 ≡ 1 = sym by ∙ one_head d first_load r.log mine (r.each_view 1 one_that_looked other).seen in
      absurd (omega (arith, same))

module _ {J : Type 0} where
  pub never_forged : NoStepIsForged J
  never_forged = record {
    splits = λ plan d left right by claims splits. let r = splits (three_seats plan) (three_kept plan) refl in ⊎_elim
        (λ c. not_claimed plan _ r d 0 left by c refl refl)
        (λ c. not_claimed plan _ r d 3 right by c refl refl)
        claims;
    joins = λ plan d both spent by claims joins. let r = joins (three_seats plan) (three_kept plan) refl (λ e. omega (arith, e)) refl in ⊎_elim
        (λ c. not_claimed plan _ r d 0 both by c refl refl)
        (λ c. not_claimed plan _ r d 2 spent by c refl refl)
        claims;
  }

  -- Barriers

  pub stays_queued : StaysQueued J
  stays_queued r seen later on is = let more = queued_later r.processor on in omega (arith, more, is)

  pub stays_finished : StaysFinished J
  stays_finished r seen later on is = let more = finished_later r.processor on in omega (arith, more, is)

  pub barriers_cover : BarriersCover J
  barriers_cover r s t s' seen starts there queued done = let number = starts.not_below r.processor there in let reached = done r.processor in omega (arith, number, reached, queued)
