-- The loads of a meeting keep the rule of the tally words, and are no deeds.
use Rattle.std.proofs.Common.{◌≡◌, ℕ, ◌<◌, ◌≤◌, ◌⊎◌, inl, true, true≢false, List, [], get_or, refl, sym, ap, ◌∙◌, subst, arith}
use mathlib.Core.Option.{none}
use Rattle.atomic_table.specs.Table.{step, Allows}
use Rattle.annals.specs.declared.view.Role.TheVariants.{Sits}
use Rattle.annals.specs.Logs.Maker.{Sitter}
use Rattle.annals.proofs.CallerLemmas as annals
use Rattle.annals.proofs.CallerLemmas.{Sees, looks}
use Rattle.calls.specs.Glossary.{Plan, Deed, Known, BatchRight, queued_place, most_calls, queued_in, deeds_of, AreTakers, IsBeginning, AreTrue, count_out, line_in, View, Pending, Right, has, IsThere, HasBatch, Knows, Agrees, tally_client, Kept, TheList, TheBatch, TheCall, Sat, FindsAll, found_all, admitted, found_out, found_list}
use Rattle.calls.specs.declared.view.ListRight.TheVariants.{OfList}
use Rattle.calls.specs.declared.view.BatchRight.TheVariants.{OfBatch}
use Rattle.calls.proofs.Counting.{begins_itself, earlier_takers, own_between, true_beginning}
use Rattle.calls.proofs.Knowing.{sits}
use Rattle.calls.proofs.Steps.{same_list, in_hand, still_quiet, same_lists}

module _ {J : Type 0} (plan : Plan) where
  finds : (c many : ℕ) (v w : View J) (calling : Pending J) (words : List ℕ) (log : List (Deed J)) (deeds : List (Unit {0})) → plan.processors ≡ many → w.seen ≡ log → Agrees plan words log → Sees tally_client plan v calling log deeds → v.role ≡ Sits c → FindsAll many c v w
  finds c many v w calling words log deeds all seen a sees who = record {
    since = subst (λ (l : List (Deed J)). IsBeginning v.seen l) (sym seen) sees.seen;
    own = ap (deeds_of c) seen ∙ sees.own (Sitter c) (sits c v.role who);
    covers = subst (λ (l : List (Deed J)). IsBeginning v.told l) (sym seen) sees.told;
    loads = subst (λ (l : List (Deed J)). AreTrue l) (sym seen) a.loads;
    takers = subst (λ (z : ℕ × List (Deed J)). AreTakers z.0 z.1) (λ i. (all i, sym seen i)) a.takers;
  }

  -- all that was done is seen
  finds_log : (slots id word many : ℕ) (me : Sat J) (then : ℕ → Sat J → Type 0) → plan.processors ≡ many
      → ((calling : Pending J) (words : List ℕ) (log : List (Deed J)) → Agrees plan words log → Knows calling me.0.role log me.0.client
      → ((c : ℕ) → me.0.role ≡ Sits c → FindsAll many c me.0 (record me.0 { seen = log; told = [] })) → then (get_or words word 0) (record me.0 { seen = log; told = [] }, me.1))
      → Allows (Kept plan) slots id me word (λ x. x) then
  finds_log slots id word many me then all tells = looks tally_client plan slots id me word then (λ calling words homes log deeds a sees. record {
    seen = log;
    since = begins_itself log;
    own = sees.own;
    client = me.0.client;
    known = sees.known;
    rights = λ x h. inl h;
    tells = tells calling words log a sees.known (λ c is. finds c many me.0 (record me.0 { seen = log; told = [] }) calling words log deeds all refl a sees is);
  })

  pub finds_all_here : (slots id word many : ℕ) (me : Sat J) → plan.processors ≡ many → Allows (Kept plan) slots id me word (λ x. x) (found_all many (step slots word 0 0 none) me)
  finds_all_here slots id word many me all = finds_log slots id word many me (found_all many (step slots word 0 0 none) me) all (λ calling words log a known found. (refl, found))

  -- and a batch whose right the seat has is out there
  pub finds_out_here : (slots id word many : ℕ) (me : Sat J) → plan.processors ≡ many → Allows (Kept plan) slots id me word (λ x. x) (found_out many (step slots word 0 0 none) me)
  finds_out_here slots id word many me all = finds_log slots id word many me (found_out many (step slots word 0 0 none) me) all (λ calling words log a known found. (
    (refl, found),
    λ p first count is. let has : HasBatch log (OfBatch p first count) = subst (λ (z : BatchRight). HasBatch log z) is known.batch in let counted = (a.counted p).all in
        let out : count_out (line_in p log).out ≡ count = ap count_out has.1 in record { first_is = has.0; queued = omega (arith, counted, out) },
  ))

  -- a list whose right the seat has is there as the right knows it
  pub finds_list_here : (slots id c p word many : ℕ) (k : Known J) (me : Sat J) → plan.processors ≡ many → me.0.role ≡ Sits c → me.0.client.list ≡ OfList p k → word ≡ queued_place p → p < plan.processors → Allows (Kept plan) slots id me word (λ x. x) (found_list many (step slots word 0 0 none) me)
  finds_list_here slots id c p word many k me all who list place lt = looks tally_client plan slots id me word (found_list many (step slots word 0 0 none) me) (λ calling words homes log deeds a sees.
      let v : View J = me.0 in
      let x : ℕ = get_or words word 0 in
      let found : x ≡ queued_in p log = ap (λ z. get_or words z 0) place ∙ a.queued p lt in
      let few = (a.counted p).few in
      let there = in_hand plan calling log c p k v who list sees.known in
      let known : Known J = record k { queued = x } in
      let w : View J = record v { client = record v.client { list = OfList p known }; seen = log; told = [] } in record {
        seen = log;
        since = begins_itself log;
        own = sees.own;
        client = w.client;
        known = record {
          list = record { queued_least = omega (arith, found); finished_is = there.finished_is; out_is = there.out_is; few = there.few; waiting_is = there.waiting_is };
          batch = sees.known.batch;
          whose = still_quiet plan calling log log c p k known v who list sees.known;
        };
        rights = kept _ x;
        tells = (
          refl,
          λ q is. finds q many v w calling words log deeds all refl a sees is,
          λ q j list' word_is. let same = same_list p k q j (sym list ∙ list') in
              subst (λ (z : ℕ × Known J). (w ≡ record v { client = record v.client { list = OfList z.0 (record z.1 { queued = x }) }; seen = log; told = [] }) × (x ≡ queued_in z.0 log) × IsThere z.0 z.1 log × (x ≤ most_calls))
              (λ i. (same.0 i, same.1 i)) (refl, found, there, omega (arith, few, found)),
        );
      })
    where
      kept : (F : Right → Type 0) (n : ℕ) (x : Right) → has me.0.role (record me.0.client { list = OfList p (record k { queued = n }) }) x ≡ true → (has me.0.role me.0.client x ≡ true) ⊎ F x
      kept F n (TheList q) h = inl (sym (same_lists plan me.0 p k (record k { queued = n }) list q) ∙ h)
      kept F n (TheBatch q) h = inl h
      kept F n (TheCall q m) h = absurd (true≢false (sym h))

  -- just what was told is seen
  pub admits_here : (slots id c word many : ℕ) (me : Sat J) → plan.processors ≡ many → me.0.role ≡ Sits c → IsBeginning me.0.seen me.0.told → Allows (Kept plan) slots id me word (λ x. x) (admitted many (step slots word 0 0 none) me)
  admits_here slots id c word many me all who since = looks tally_client plan slots id me word (admitted many (step slots word 0 0 none) me) (λ calling words homes log deeds a sees.
      let own : (p : ℕ) → me.0.role ≡ Sits p → deeds_of p me.0.told ≡ deeds_of p me.0.seen = λ p is. own_between p me.0.seen me.0.told log since sees.told (sees.own (Sitter p) (sits p me.0.role is)) in record {
        seen = me.0.told;
        since = sees.told;
        own = λ n h. annals.own_between (λ (d : Deed J). Sitter d.by) n me.0.seen me.0.told log since sees.told (sees.own n h);
        client = me.0.client;
        known = sees.known;
        rights = λ x h. inl h;
        tells = (refl, λ p is. record { own = own p is; loads = true_beginning sees.told a.loads; takers = earlier_takers many sees.told (subst (λ (n : ℕ). AreTakers n log) all a.takers) });
      })
