-- Each step on the tally words keeps their rule.
use Rattle.std.proofs.Common.{◌≡◌, ◌≢◌, ℕ, ◌+◌, ◌%◌, ◌^◌, ◌<◌, ◌≤◌, ◌⊎◌, inl, inr, ⊎_elim, true, true≢false, eq-eqb, eqb-true, List, [], ◌∷◌, ◌++◌, Option, Some, None, get_or, set, length, refl, sym, ap, ◌∙◌, subst, arith, length-set, get_or-set_other, get_or-set_same}
use Rattle.std.specs.Prelude.{slice_get}
use lib.Seq.{set-get_or}
use mathlib.Core.Logic.{dite}
use mathlib.Core.Option.{none}
use native.Mathlib.Decide.{ℕ_discrete}
use Rattle.atomic_table.specs.Table.{step, keeps, Allows}
use Rattle.segs.specs.MarkedList.{Mark}
use Rattle.annals.specs.declared.view.Role.{Role}
use Rattle.annals.specs.declared.view.Role.TheVariants.{Sits}
use Rattle.annals.specs.Glossary.{Sitter, StandsFor}
use Rattle.annals.proofs.CallerLemmas.{IsNew, makes}
use Rattle.calls.specs.Glossary.{Entry, Plan, Act, Known, Deed, ListRight, BatchRight, Line, count_out, gathered, line_in, calls_in, with_call, with_taken, with_none_out, queued_place, finished_place, most_calls, deed, queued_in, finished_in, AreTrue, View, Pending, Right, has_list, has_batch, has_lists, has, IsThere, HasList, HasBatch, IsAs, Knows, IsCounted, Agrees, tally_client, Kept, TheList, TheBatch, TheCall, Sat, queues, line_taken, known_taken, TakesOut, takes_out, known_finished, Finishes, finishes, batch_of}
use Rattle.calls.specs.declared.view.Act.TheVariants.{Queue, Take, Finish}
use Rattle.calls.specs.declared.view.ListRight.TheVariants.{NoList, OfList, Calling}
use Rattle.calls.specs.declared.view.BatchRight.TheVariants.{NoBatch, OfBatch}
use Rattle.calls.specs.Plays.{Queues}
use Rattle.calls.proofs.Counting.{queued_here, queued_else, queued_still, finished_here, finished_else, finished_still, same_queued, begins_itself, begins_pushed, one_more_true, one_more_taker}
use Rattle.calls.proofs.Lining.{called_here, called_else, called_long, gathered_called, gathered_long, gathered_left, taken_here, taken_else, taken_long, finish_here, finish_else}
use Rattle.calls.proofs.Once.{call_found, call_stays}
use Rattle.calls.proofs.Knowing.{given, given_here, given_else, sits, some_or_none, batch_new, by_one, list_like, Untouched, there_still, still_counted, batch_carried, knows_carried, turn_stays}

pub same_caller : (p q : ℕ) → Sits p ≡ Sits q → p ≡ q
same_caller p q h = cc

same_batch : (p f n p' f' n' : ℕ) → OfBatch p f n ≡ OfBatch p' f' n' → (p ≡ p') × (f ≡ f') × (n ≡ n')
same_batch p f n p' f' n' h = ((cc), (cc), (cc))

module _ {J : Type 0} where
  pub same_list : (p : ℕ) (k : Known J) (p' : ℕ) (k' : Known J) → OfList p k ≡ OfList p' k' → (p ≡ p') × (k ≡ k')
  same_list p k p' k' h = ((cc), (cc))

  same_calling : (e e' : Entry J) → Calling e ≡ Calling e' → e ≡ e'
  same_calling e e' h = cc

  -- a list knows no less where one more call came in
  there_called : (p : ℕ) (e : Entry J) (k : Known J) (log : List (Deed J)) → IsThere p k log → IsThere p k (log ++ deed p (Queue e) ∷ [])
  there_called p e k log h =
      let line : line_in p (log ++ deed p (Queue e) ∷ []) ≡ with_call e (line_in p log) = called_here p e log in record {
        queued_least = let one = queued_here p e log in let least = h.queued_least in omega (arith, one, least);
        finished_is = h.finished_is ∙ sym (finished_still p log p (Queue e) refl);
        out_is = h.out_is ∙ ap (λ (z : Line J). z.out) (sym line);
        few = let long = ap (λ (z : Line J). length z.coming) line ∙ called_long e (line_in p log) in let few = h.few in omega (arith, long, few);
        waiting_is = h.waiting_is ∙ (sym (gathered_called k.moved e (line_in p log) h.few) ∙ ap (λ (z : Line J). (gathered k.moved z).waiting) (sym line));
      }

  -- a take leaves what a list then knows
  pub there_taken : (p number max c : ℕ) (k : Known J) (log : List (Deed J)) → IsThere p k log → IsThere p (known_taken number max k) (log ++ deed c (Take p number max k.moved) ∷ [])
  there_taken p number max c k log h =
      let line : line_in p (log ++ deed c (Take p number max k.moved) ∷ []) ≡ with_taken number max (gathered k.moved (line_in p log)) = taken_here p number max k.moved log c in
      let same : (line_taken number max k).waiting ≡ (with_taken number max (gathered k.moved (line_in p log))).waiting = ap (λ (z : List (Entry J × Mark)). (with_taken number max record { out = k.out; waiting = z; coming = [] }).waiting) h.waiting_is in
      let out : (line_taken number max k).out ≡ (with_taken number max (gathered k.moved (line_in p log))).out = ap (λ (z : List (Entry J × Mark)). (with_taken number max record { out = k.out; waiting = z; coming = [] }).out) h.waiting_is in record {
        queued_least = let q = queued_still p log c (Take p number max k.moved) refl in let least = h.queued_least in omega (arith, q, least);
        finished_is = h.finished_is ∙ sym (finished_still p log c (Take p number max k.moved) refl);
        out_is = out ∙ ap (λ (z : Line J). z.out) (sym line);
        few = omega arith;
        waiting_is = same ∙ ap (λ (z : Line J). z.waiting) (sym line);
      }

  -- and so does the end of a batch
  pub there_finished : (p n c : ℕ) (k : Known J) (log : List (Deed J)) → IsThere p k log → IsThere p (known_finished n k) (log ++ deed c (Finish p n) ∷ [])
  there_finished p n c k log h =
      let line : line_in p (log ++ deed c (Finish p n) ∷ []) ≡ with_none_out (line_in p log) = finish_here p n log c in record {
        queued_least = let q = queued_still p log c (Finish p n) refl in let least = h.queued_least in omega (arith, q, least);
        finished_is = ap (λ z. z + n) h.finished_is ∙ sym (finished_here p n log c);
        out_is = ap (λ (z : Line J). z.out) (sym line);
        few = subst (λ (z : Line J). k.moved ≤ length z.coming) (sym line) h.few;
        waiting_is = h.waiting_is ∙ ap (λ (z : Line J). (gathered k.moved z).waiting) (sym line);
      }

-- one word has another value
set_words : (words : List ℕ) (word y : ℕ) (place : ℕ → ℕ) (p many : ℕ) (count count' : ℕ → ℕ) → word ≡ place p → word < length words → y ≡ count' p → ((k : ℕ) → k ≢ p → (place k ≢ word) × (count' k ≡ count k)) → ((k : ℕ) → k < many → get_or words (place k) 0 ≡ count k)
    → (k : ℕ) → k < many → get_or (set words word y) (place k) 0 ≡ count' k
set_words words word y place p many count count' at inside up apart was k below = dite (ℕ_discrete k p)
    (λ kp. ap (λ z. get_or (set words word y) z 0) (ap place kp ∙ sym at) ∙ (get_or-set_same words word y 0 inside ∙ (up ∙ ap count' (sym kp))))
    (λ kp. let t = apart k kp in get_or-set_other words word (place k) y 0 t.0 ∙ (was k below ∙ sym t.1))

module _ {J : Type 0} (plan : Plan) where
  -- what holds of each processor that is another one, and of this one, holds of each
  each_counted : (log : List (Deed J)) (p : ℕ) → IsCounted log p → ((k : ℕ) → k ≢ p → IsCounted log k) → (k : ℕ) → IsCounted log k
  each_counted log p here else_ k = dite (ℕ_discrete k p) (λ e. subst (λ (z : ℕ). IsCounted log z) (sym e) here) (λ ne. else_ k ne)

  pub queues_here : (slots id p word : ℕ) (e : Entry J) (me : Sat J) → word ≡ queued_place p → me.0.role ≡ Sits p → me.0.client.list ≡ Calling e → p < plan.processors → queued_in p me.0.seen < most_calls
      → Allows (Kept plan) slots id me word (λ x. (x + 1) % 2 ^ 64) (queues (step slots word 1 0 none) me)
  queues_here slots id p word e me place who list lt room = makes tally_client plan slots id me word (λ x. (x + 1) % 2 ^ 64) (queues (step slots word 1 0 none) me) (Sitter p) (sits p me.0.role who) (λ calling words homes log deeds a sees _ _.
      let v : View J = me.0 in
      let own = sees.own (Sitter p) (sits p v.role who) in
      let about : calling p ≡ Some e = subst (λ (z : Role × ListRight J). IsAs calling z.0 log z.1) (λ i. (who i, list i)) sees.known.whose in
      let d : Deed J = deed p (Queue e) in
      let log' : List (Deed J) = log ++ d ∷ [] in
      let same : queued_in p v.seen ≡ queued_in p log = same_queued p v.seen log (sym own) in
      let x : ℕ = get_or words word 0 in
      let found : x ≡ queued_in p log = ap (λ z. get_or words z 0) place ∙ a.queued p lt in
      let calling' : Pending J = given p None calling in
      let one : queued_in p log' ≡ queued_in p log + 1 = queued_here p e log in
      let line : line_in p log' ≡ with_call e (line_in p log) = called_here p e log in
      let still : (k : ℕ) → finished_in k log' ≡ finished_in k log = λ k. finished_still k log p (Queue e) refl in
      let else_ : (k : ℕ) → p ≢ k → Untouched log log' k = λ k ne. record { queued = queued_else k p e log ne; finished = still k; line = called_else k p e log ne } in
      let same_out : (k : ℕ) → (line_in k log').out ≡ (line_in k log).out = λ k. dite (ℕ_discrete p k)
      (λ at. subst (λ z. (line_in z log').out ≡ (line_in z log).out) at (ap (λ (z : Line J). z.out) line))
      (λ ne. ap (λ (z : Line J). z.out) (else_ k ne).line) in
      let wide = a.wide in
      let inside : word < length words = omega (arith, wide, lt, place) in
      let batches : (q f n : ℕ) → f ≡ finished_in q log → (line_in q log).out ≡ Some n → (f ≡ finished_in q log') × ((line_in q log').out ≡ Some n) = λ q f n first out. (first ∙ sym (still q), same_out q ∙ out) in
      let up : (x + 1) % 2 ^ 64 ≡ queued_in p log' = omega (arith, found, same, room, one) in
      let true' : AreTrue log' = one_more_true log d a.loads tt in
      let w : View J = record { role = v.role; seen = log'; told = []; done = v.done; client = record { list = NoList; batch = v.client.batch } } in record {
        entries = d ∷ [];
        by = by_one d;
        world' = calling';
        client = w.client;
        act = keeps;
        valid = tt;
        agreed = record {
          loads = true';
          takers = one_more_taker plan.processors log d a.takers tt;
          counted = each_counted log' p
              (let all = (a.counted p).all in let fin = still p in let out = ap count_out (same_out p) in let waits = ap (λ (z : Line J). length z.waiting) line in let long = ap (λ (z : Line J). length z.coming) line ∙ called_long e (line_in p log) in record {
                all = omega (arith, one, fin, all, out, waits, long);
                few = omega (arith, one, same, room);
              })
              (λ k ne. still_counted log log' k (else_ k (λ t. ne (sym t))) (a.counted k));
          wide = length-set words word ((x + 1) % 2 ^ 64) ∙ wide;
          queued = set_words words word ((x + 1) % 2 ^ 64) queued_place p plan.processors (λ k. queued_in k log) (λ k. queued_in k log') place inside up (λ k ne. ((λ h. ne (omega (arith, h, place))), queued_else k p e log (λ h. ne (sym h)))) a.queued;
          finished = λ k below. get_or-set_other words word (finished_place k) ((x + 1) % 2 ^ 64) 0 (λ h. absurd (omega (arith, h, place))) ∙ (a.finished k below ∙ sym (still k));
        };
        known = record { list = tt; batch = batch_carried log log' v.client.batch (λ q f n _. batches q f n) sees.known.batch; whose = subst (λ (z : Role). IsAs calling' z log' NoList) (sym who) (given_here p None calling) };
        others = λ role c not apart. knows_carried calling calling' log log' role c record {
          lists = λ q k _ there. dite (ℕ_discrete p q)
              (λ t. subst (λ (z : ℕ). IsThere z k log → IsThere z k log') t (there_called p e k log) there)
              (λ away. there_still log log' q k (else_ q away) there);
          calls = λ q n f _ is. ⊎_elim
              (λ (h : slice_get (calls_in q log) n ≡ Some f). inl (call_stays q n f log log' (begins_pushed d (begins_itself log)) h))
              (λ (h : (n ≡ queued_in q log) × (calling q ≡ Some f)). dite (ℕ_discrete p q)
              (λ t. inl (subst (λ (z : ℕ). slice_get (calls_in z log') n ≡ Some f) t (call_found p n e log (h.0 ∙ ap (λ z. queued_in z log) (sym t)) ∙ (sym about ∙ (ap calling t ∙ h.1)))))
              (λ away. inr (h.0 ∙ sym (queued_else q p e log away), given_else p None calling q (λ t. away (sym t)) ∙ h.1)))
              is;
          batches = λ q f n _. batches q f n;
          undealt = λ k is q le u. let away : p ≢ q = λ t. not (subst (λ (r : Role). StandsFor r (Sitter p)) (sym is) (omega (arith, le, t))) in let t = else_ q away in record {
            queued = t.queued ∙ u.queued;
            finished = t.finished ∙ u.finished;
            line = t.line ∙ u.line;
            quiet = given_else p None calling q (λ h. away (sym h)) ∙ u.quiet;
          };
          quiet = λ q is. given_else p None calling q (λ t. not (sits p role (is ∙ ap Sits t)));
        };
        rights = gone _;
        tells = (
          refl,
          λ p' e' who' list'. subst (λ (z : ℕ × Entry J). Queues z.0 z.1 v x w) (λ i. (same_caller p p' (sym who ∙ who') i, same_calling e e' (sym list ∙ list') i)) record {
            does = record { before = log; seen = refl; since = sees.seen; own = own; who = refl; loads = true' };
            own = found ∙ sym same;
            list = refl;
            batch = refl;
          },
        );
      })
    where
      gone : (F : Right → Type 0) (x : Right) → has {J = J} me.0.role record { list = NoList; batch = me.0.client.batch } x ≡ true → (has me.0.role me.0.client x ≡ true) ⊎ F x
      gone F (TheList q) h = absurd (true≢false (sym h ∙ ap (λ (r : Role). has_lists {J = J} r NoList q) who))
      gone F (TheBatch q) h = inl h
      gone F (TheCall q n) h = absurd (true≢false (sym h))

  -- the step of one who has the list of processor p in hand, and knows of it
  pub in_hand : (calling : Pending J) (log : List (Deed J)) (c p : ℕ) (known : Known J) (v : View J) → v.role ≡ Sits c → v.client.list ≡ OfList p known → Knows calling v.role log v.client → IsThere p known log
  in_hand calling log c p known v who list h = subst (λ (z : ListRight J). HasList calling log z) list h.list

  -- as before it is about to queue nothing
  pub still_quiet : (calling : Pending J) (log log' : List (Deed J)) (c p : ℕ) (known after : Known J) (v : View J) → v.role ≡ Sits c → v.client.list ≡ OfList p known → Knows calling v.role log v.client → IsAs calling v.role log' (OfList p after)
  still_quiet calling log log' c p known after v who list h = subst (λ (z : Role). IsAs calling z log' (OfList p after)) (sym who) (subst (λ (z : Role × ListRight J). IsAs calling z.0 log z.1) (λ i. (who i, list i)) h.whose)

  pub same_lists : (v : View J) (p : ℕ) (known after : Known J) → v.client.list ≡ OfList p known → (q : ℕ) → has_lists v.role (OfList p after) q ≡ has_lists v.role v.client.list q
  same_lists v p known after list = list_like v.role v.client.list (OfList p after) (λ q. sym (ap (λ r. has_list r q) list))

  pub finishes_here : (slots id c p g n word : ℕ) (k : Known J) (me : Sat J) → word ≡ finished_place p → me.0.role ≡ Sits c → me.0.client.list ≡ OfList p k → me.0.client.batch ≡ OfBatch p g n → p < plan.processors → c < plan.processors
      → Allows (Kept plan) slots id me word (λ x. (x + n) % 2 ^ 64) (finishes (step slots word n 0 none) me)
  finishes_here slots id c p g n word known me place who list batch lt here = makes tally_client plan slots id me word (λ x. (x + n) % 2 ^ 64) (finishes (step slots word n 0 none) me) (Sitter c) (sits c me.0.role who) (λ calling words homes log deeds a sees _ _.
      let v : View J = me.0 in
      let there = in_hand calling log c p known v who list sees.known in
      let bat : HasBatch log (OfBatch p g n) = subst (λ (z : BatchRight). HasBatch log z) batch sees.known.batch in
      let d : Deed J = deed c (Finish p n) in
      let log' : List (Deed J) = log ++ d ∷ [] in
      let x : ℕ = get_or words word 0 in
      let found : x ≡ finished_in p log = ap (λ z. get_or words z 0) place ∙ a.finished p lt in
      let all = (a.counted p).all in
      let few = (a.counted p).few in
      let many : count_out (line_in p log).out ≡ n = ap count_out bat.1 in
      let line : line_in p log' ≡ with_none_out (line_in p log) = finish_here p n log c in
      let more : finished_in p log' ≡ finished_in p log + n = finished_here p n log c in
      let still : (k : ℕ) → queued_in k log' ≡ queued_in k log = λ k. queued_still k log c (Finish p n) refl in
      let else_ : (k : ℕ) → k ≢ p → Untouched log log' k = λ k ne. record { queued = still k; finished = finished_else k p n log c (λ e. ne (sym e)); line = finish_else k p n log c (λ e. ne (sym e)) } in
      let wide = a.wide in
      let inside : word < length words = omega (arith, wide, lt, place) in
      let up : (x + n) % 2 ^ 64 ≡ finished_in p log' = omega (arith, found, all, few, many, more) in
      let true' : AreTrue log' = one_more_true log d a.loads bat.1 in
      let w : View J = record { role = v.role; seen = log'; told = []; done = v.done; client = record { list = OfList p (known_finished n known); batch = NoBatch } } in record {
        entries = d ∷ [];
        by = by_one d;
        world' = calling;
        client = w.client;
        act = keeps;
        valid = tt;
        agreed = record {
          loads = true';
          takers = one_more_taker plan.processors log d a.takers here;
          counted = each_counted log' p
              (let none = ap (λ (z : Line J). count_out z.out) line in let long = ap (λ (z : Line J). length z.waiting) line in let came = ap (λ (z : Line J). length z.coming) line in let qs = still p in record {
                all = omega (arith, none, more, many, all, qs, long, came);
                few = omega (arith, qs, few);
              })
              (λ k ne. still_counted log log' k (else_ k ne) (a.counted k));
          wide = length-set words word ((x + n) % 2 ^ 64) ∙ wide;
          queued = λ k below. get_or-set_other words word (queued_place k) ((x + n) % 2 ^ 64) 0 (λ h. absurd (omega (arith, h, place))) ∙ (a.queued k below ∙ sym (still k));
          finished = set_words words word ((x + n) % 2 ^ 64) finished_place p plan.processors (λ k. finished_in k log) (λ k. finished_in k log') place inside up (λ k ne. ((λ h. ne (omega (arith, h, place))), (else_ k ne).finished)) a.finished;
        };
        known = record { list = there_finished p n c known log there; batch = tt; whose = still_quiet calling log log' c p known (known_finished n known) v who list sees.known };
        others = λ role e not apart. turn_stays calling log d refl plan v c p known who list else_ role e apart (λ q f m is out t. apart (TheBatch p) (ap (λ r. has_batch r p) batch ∙ eq-eqb p p refl) (ap (λ r. has_batch r p) is ∙ eq-eqb q p t));
        rights = kept _;
        tells = (
          refl,
          λ c' p' k' g' n' who' list' batch'. let l = same_list p known p' k' (sym list ∙ list') in let k = same_batch p g n p' g' n' (sym batch ∙ batch') in let a = same_caller c c' (sym who ∙ who') in
              subst (λ (z : ℕ × ℕ × Known J × ℕ × ℕ). Finishes z.0 z.1 z.2 z.3 z.4 v x w) (λ i. (a i, l.0 i, l.1 i, k.1 i, k.2 i)) record {
                does = record { before = log; seen = refl; since = sees.seen; own = sees.own (Sitter c) (sits c v.role who); who = refl; loads = true' };
                there = there;
                found = found ∙ sym there.finished_is;
                first_is = bat.0 ∙ sym there.finished_is;
                was_out = there.out_is ∙ bat.1;
                list = refl;
                batch = refl;
              },
        );
      })
    where
      kept : (F : Right → Type 0) (x : Right) → has {J = J} me.0.role record { list = OfList p (known_finished n known); batch = NoBatch } x ≡ true → (has me.0.role me.0.client x ≡ true) ⊎ F x
      kept F (TheList q) h = inl (sym (same_lists me.0 p known (known_finished n known) list q) ∙ h)
      kept F (TheBatch q) h = absurd (true≢false (sym h))
      kept F (TheCall q m) h = absurd (true≢false (sym h))

  pub takes_here : (slots id c p number max word : ℕ) (known : Known J) (me : Sat J) → me.0.role ≡ Sits c → me.0.client.list ≡ OfList p known → known.out ≡ None → c < plan.processors → Allows (Kept plan) slots id me word (λ x. x) (takes_out number max (step slots word 0 0 none) me)
  takes_here slots id c p number max word known me who list none_out here = makes tally_client plan slots id me word (λ x. x) (takes_out number max (step slots word 0 0 none) me) (Sitter c) (sits c me.0.role who) (λ calling words homes log deeds a sees _ _.
      let v : View J = me.0 in
      let there = in_hand calling log c p known v who list sees.known in
      let m : ℕ = known.moved in
      let act : Act J = Take p number max m in
      let d : Deed J = deed c act in
      let log' : List (Deed J) = log ++ d ∷ [] in
      let was : Line J = gathered m (line_in p log) in
      let after : IsThere p (known_taken number max known) log' = there_taken p number max c known log there in
      let line : line_in p log' ≡ with_taken number max was = taken_here p number max m log c in
      let queued : (k : ℕ) → queued_in k log' ≡ queued_in k log = λ k. queued_still k log c act refl in
      let finished : (k : ℕ) → finished_in k log' ≡ finished_in k log = λ k. finished_still k log c act refl in
      let else_ : (k : ℕ) → k ≢ p → Untouched log log' k = λ k ne. record { queued = queued k; finished = finished k; line = taken_else k p number max m log c (λ e. ne (sym e)) } in
      let nothing_out : (line_in p log).out ≡ None = sym there.out_is ∙ none_out in
      let true' : AreTrue log' = one_more_true log d a.loads (nothing_out, there.few) in
      let w : View J = record { role = v.role; seen = log'; told = []; done = v.done; client = record { list = OfList p (known_taken number max known); batch = batch_of p known.finished (line_taken number max known).out } } in record {
        entries = d ∷ [];
        by = by_one d;
        world' = calling;
        client = w.client;
        act = keeps;
        valid = tt;
        agreed = subst (λ (ns : List ℕ). Agrees plan ns log') (sym (set-get_or words word 0)) record {
          loads = true';
          takers = one_more_taker plan.processors log d a.takers here;
          counted = each_counted log' p
              (let all = (a.counted p).all in let few = (a.counted p).few in let qs = queued p in let fs = finished p in let long = ap (λ (z : Line J). count_out z.out + length z.waiting) line
              ∙ taken_long number max was in let waits = gathered_long m (line_in p log) there.few in let came = ap (λ (z : Line J). length z.coming) line ∙ gathered_left m (line_in p log) in let enough = there.few in let none = ap count_out nothing_out in
              record { all = omega (arith, long, waits, came, enough, none, all, qs, fs); few = omega (arith, qs, few) })
              (λ k ne. still_counted log log' k (else_ k ne) (a.counted k));
          wide = a.wide;
          queued = λ k below. a.queued k below ∙ sym (queued k);
          finished = λ k below. a.finished k below ∙ sym (finished k);
        };
        known = record { list = after; batch = has_batch_of log' p known.finished (line_taken number max known).out (there.finished_is ∙ sym (finished p)) (sym after.out_is); whose = still_quiet calling log log' c p known (known_taken number max known) v who list sees.known };
        others = λ role e not apart. turn_stays calling log d refl plan v c p known who list else_ role e apart (λ q f n is out t. some_or_none n (line_in p log).out nothing_out (ap (λ z. (line_in z log).out) (sym t) ∙ out));
        rights = got calling log nothing_out;
        tells = (
          refl,
          λ c' p' k' who' list' none'. let l = same_list p known p' k' (sym list ∙ list') in let a = same_caller c c' (sym who ∙ who') in
              subst (λ (z : ℕ × ℕ × Known J). TakesOut z.0 z.1 z.2 number max v w) (λ i. (a i, l.0 i, l.1 i)) record {
                does = record { before = log; seen = refl; since = sees.seen; own = sees.own (Sitter c) (sits c v.role who); who = refl; loads = true' };
                there = there;
                list = refl;
                batch = refl;
              },
        );
      })
    where
      has_batch_of : (log : List (Deed J)) (p f : ℕ) (o : Option ℕ) → f ≡ finished_in p log → (line_in p log).out ≡ o → HasBatch log (batch_of p f o)
      has_batch_of log p f None first out = tt
      has_batch_of log p f (Some n) first out = (first, out)

      its_own : (f q : ℕ) (o : Option ℕ) → has_batch (batch_of p f o) q ≡ true → p ≡ q
      its_own f q None h = absurd (true≢false (sym h))
      its_own f q (Some n) h = eqb-true p q h

      -- nobody can have had the right of a batch where none was out
      got : (calling : Pending J) (log : List (Deed J)) → (line_in p log).out ≡ None → (x : Right) → has me.0.role record {
        list = OfList p (known_taken number max known);
        batch = batch_of p known.finished (line_taken number max known).out;
      } x ≡ true → (has me.0.role me.0.client x ≡ true) ⊎ IsNew tally_client plan calling log x
      got calling log none_yet (TheList q) h = inl (sym (same_lists me.0 p known (known_taken number max known) list q) ∙ h)
      got calling log none_yet (TheBatch q) h = inr (λ r e knows had. batch_new log e.batch q knows.batch had (ap (λ z. (line_in z log).out) (sym (its_own known.finished q (line_taken number max known).out h)) ∙ none_yet))
      got calling log none_yet (TheCall q n) h = absurd (true≢false (sym h))
