-- A load of a tally word keeps their rule, and is one more deed of its maker.
use Rattle.std.proofs.Common.{◌≡◌, ℕ, ◌+◌, ◌<◌, ◌≤◌, inl, false, List, [], ◌∷◌, ◌++◌, length, get_or, refl, sym, ap, ◌∙◌, subst, arith}
use lib.Seq.{set-get_or}
use mathlib.Core.Option.{none}
use Rattle.atomic_table.specs.Table.{step, keeps, Allows}
use Rattle.annals.specs.declared.view.Role.TheVariants.{Sits}
use Rattle.annals.specs.Logs.Maker.{Sitter}
use Rattle.annals.proofs.CallerLemmas.{makes}
use Rattle.calls.specs.Glossary.{Plan, Act, Deed, Known, Line, count_out, next_line, line_in, queued_place, finished_place, deed, is_queue, queued_in, finished_by, finished_in, IsTaker, AreTakers, IsTrueOf, View, Pending, IsThere, Knows, Agrees, tally_client, Kept, Sat, LacksThere, lacks_room, counts_queued, counts_finished, next_known}
use Rattle.calls.specs.declared.view.Act.TheVariants.{LackRoom, LoadQueued, LoadFinished}
use Rattle.calls.specs.declared.view.ListRight.TheVariants.{OfList}
use Rattle.calls.specs.Plays.{Looks}
use Rattle.calls.proofs.Counting.{queued_still, finished_still, begins_pushed, one_more_true, one_more_taker}
use Rattle.calls.proofs.Lining.{line_push, gathered_long}
use Rattle.calls.proofs.Knowing.{sits, by_one, Untouched, still_counted, deed_stays}
use Rattle.calls.proofs.Steps.{same_list, same_caller, in_hand}

module _ {J : Type 0} where
  -- what the seat then knows
  abbrev looked : View J → List (Deed J) → ℕ → Act J → View J
  looked v log c act = record v { seen = log ++ deed c act ∷ []; told = [] }

module _ {J : Type 0} (plan : Plan) (slots id c word : ℕ) (me : Sat J) (then : ℕ → Sat J → Type 0) (who : me.0.role ≡ Sits c) where
  -- an act that changes no count and no list, and may be done here, with what it tells
  pub record IsLook (words : List ℕ) (log : List (Deed J)) : Type 0 where
    pub act : Act J
    pub no_queue : is_queue act ≡ false
    pub no_finish : (p : ℕ) → finished_by p act ≡ 0
    pub no_turn : (p : ℕ) (l : Line J) → next_line p c act l ≡ l
    pub fits : IsTrueOf log act
    pub taker : IsTaker plan.processors c act
    pub tells : (looks : Looks c act me.0 (looked me.0 log c act)) → looks.does.before ≡ log → then (get_or words word 0) (looked me.0 log c act, me.1)

  pub looks_here : ((calling : Pending J) (words : List ℕ) (log : List (Deed J)) → Agrees plan words log → Knows calling me.0.role log me.0.client → IsLook words log) → Allows (Kept plan) slots id me word (λ x. x) then
  looks_here look = makes tally_client plan slots id me word (λ x. x) then (Sitter c) (sits c me.0.role who) (λ calling words homes log deeds a sees _ _.
      let l = look calling words log a sees.known in
      let d : Deed J = deed c l.act in
      let log' : List (Deed J) = log ++ d ∷ [] in
      let untouched : (p : ℕ) → Untouched log log' p = λ p. record { queued = queued_still p log c l.act l.no_queue; finished = finished_still p log c l.act (l.no_finish p); line = line_push p log c l.act ∙ l.no_turn p (line_in p log) } in
      let true' = one_more_true log d a.loads l.fits in record {
        entries = d ∷ [];
        by = by_one d;
        world' = calling;
        client = me.0.client;
        act = keeps;
        valid = tt;
        agreed = subst (λ (ws : List ℕ). Agrees plan ws log') (sym (set-get_or words word 0)) record {
          loads = true';
          takers = one_more_taker plan.processors log d a.takers l.taker;
          counted = λ p. still_counted log log' p (untouched p) (a.counted p);
          wide = a.wide;
          queued = λ p below. a.queued p below ∙ sym (untouched p).queued;
          finished = λ p below. a.finished p below ∙ sym (untouched p).finished;
        };
        known = deed_stays calling log d l.no_queue me.0.role me.0.client (λ q _ _. untouched q) (λ q _ _ _ _. untouched q) (λ _ _ q _. untouched q) sees.known;
        others = λ role e _ _. deed_stays calling log d l.no_queue role e (λ q _ _. untouched q) (λ q _ _ _ _. untouched q) (λ _ _ q _. untouched q);
        rights = λ x h. inl h;
        tells = l.tells record {
          does = record { before = log; seen = refl; since = sees.seen; own = sees.own (Sitter c) (sits c me.0.role who); who = refl; loads = true' };
          covers = begins_pushed d sees.told;
          list = refl;
          batch = refl;
        } refl;
      })

module _ {J : Type 0} (plan : Plan) where
  pub lacks_here : (slots id c p word : ℕ) (k : Known J) (me : Sat J) → me.0.role ≡ Sits c → me.0.client.list ≡ OfList p k → next_known k < k.queued → Allows (Kept plan) slots id me word (λ x. x) (lacks_room (step slots word 0 0 none) me)
  lacks_here slots id c p word k me who list short = looks_here plan slots id c word me (lacks_room (step slots word 0 0 none) me) who (λ calling words log a known.
      let v : View J = me.0 in
      let there = in_hand plan calling log c p k v who list known in
      let left : k.moved < length (line_in p log).coming =
      let long : length k.waiting ≡ length (line_in p log).waiting + k.moved = ap length there.waiting_is ∙ gathered_long k.moved (line_in p log) there.few in
      let finished = there.finished_is in
      let out = ap count_out there.out_is in
      let least = there.queued_least in
      let all = (a.counted p).all in
      omega (arith, long, finished, out, least, all, short) in record {
        act = LackRoom p k.moved;
        no_queue = refl;
        no_finish = λ _. refl;
        no_turn = λ _ _. refl;
        fits = left;
        taker = tt;
        tells = λ looks before. (
          refl,
          λ b q f who' list'. let l = same_list p k q f (sym list ∙ list') in let a = same_caller c b (sym who ∙ who') in
              subst (λ (z : ℕ × ℕ × Known J). LacksThere z.0 z.1 z.2 v (looked v log c (LackRoom p k.moved))) (λ i. (a i, l.0 i, l.1 i)) record { looks = looks; there = subst (λ (l : List (Deed J)). IsThere p k l) (sym before) there },
        );
      })

  pub counts_queued_here : (slots id c p word : ℕ) (me : Sat J) → word ≡ queued_place p → me.0.role ≡ Sits c → p < plan.processors → Allows (Kept plan) slots id me word (λ x. x) (counts_queued (step slots word 0 0 none) me)
  counts_queued_here slots id c p word me place who lt = looks_here plan slots id c word me (counts_queued (step slots word 0 0 none) me) who (λ calling words log a known.
      let x : ℕ = get_or words word 0 in
      let found : x ≡ queued_in p log = ap (λ z. get_or words z 0) place ∙ a.queued p lt in
      let few = (a.counted p).few in record {
        act = LoadQueued p x;
        no_queue = refl;
        no_finish = λ _. refl;
        no_turn = λ _ _. refl;
        fits = found;
        taker = tt;
        tells = λ looks before. (
          refl,
          λ b q is word_is. let one : p ≡ q = omega (arith, place, word_is) in subst (λ (z : ℕ × ℕ). Looks z.0 (LoadQueued z.1 x) me.0 (looked me.0 log c (LoadQueued p x))) (λ i. (same_caller c b (sym who ∙ is) i, one i)) looks,
          omega (arith, found, few),
        );
      })

  pub counts_finished_here : (slots id c p word many : ℕ) (me : Sat J) → plan.processors ≡ many → word ≡ finished_place p → me.0.role ≡ Sits c → p < plan.processors → Allows (Kept plan) slots id me word (λ x. x) (counts_finished many (step slots word 0 0 none) me)
  counts_finished_here slots id c p word many me all place who lt = looks_here plan slots id c word me (counts_finished many (step slots word 0 0 none) me) who (λ calling words log a known.
      let x : ℕ = get_or words word 0 in
      let found : x ≡ finished_in p log = ap (λ z. get_or words z 0) place ∙ a.finished p lt in
      let log' : List (Deed J) = log ++ deed c (LoadFinished p x) ∷ [] in
      let counted = (a.counted p).all in
      let still = queued_still p log c (LoadFinished p x) refl in
      let low : x ≤ queued_in p log' = omega (arith, found, counted, still) in record {
        act = LoadFinished p x;
        no_queue = refl;
        no_finish = λ _. refl;
        no_turn = λ _ _. refl;
        fits = found;
        taker = tt;
        tells = λ looks before. (
          refl,
          λ b q is word_is. let one : p ≡ q = omega (arith, place, word_is) in subst (λ (z : ℕ × ℕ). Looks z.0 (LoadFinished z.1 x) me.0 (looked me.0 log c (LoadFinished p x))) (λ i. (same_caller c b (sym who ∙ is) i, one i)) looks,
          λ q word_is. let one : p ≡ q = omega (arith, place, word_is) in subst (λ (z : ℕ). x ≤ queued_in z log') one low,
          subst (λ (z : ℕ). AreTakers z log') all (one_more_taker plan.processors log (deed c (LoadFinished p x)) a.takers tt),
        );
      })
