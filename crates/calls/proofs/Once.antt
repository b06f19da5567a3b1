-- Each call is given out once, in its order: what waits on a processor is what was queued there and not given out.
use Rattle.std.proofs.Common.{◌≡◌, ℕ, zero, suc, ◌+◌, ◌<◌, ◌≤◌, ◌==◌, Bool, true, false, if◌then◌else◌, cond, List, [], ◌∷◌, ◌++◌, Some, None, map, length, take, drop, refl, sym, ap, ◌∙◌, subst, eq-eqb, ne_eqb, append_assoc, append-nil, arith}
use Rattle.std.proofs.Math.Seq.{drop-append_seam, take-append_seam, get_or-append_seam}
use Rattle.std.specs.Prelude.{slice_get}
use Rattle.std.proofs.lemmas.Option.{slice_get-get_or, slice_get_within, get_or_from_slice_get}
use Rattle.std.proofs.lemmas.List.{length-append, length-drop, drop-drop, drop-append-le, take-append-drop, get_or_append_left}
use mathlib.Core.Logic.{dite}
use native.Mathlib.Decide.{ℕ_discrete}
use Rattle.segs.specs.MarkedList.{Mark, Done, Next, marked, remarked, advanced, reached, next_becomes, number_given, awaited}
use Rattle.calls.specs.Glossary.{Entry, Act, Deed, Known, Line, count_out, some_out, with_call, with_moved, all_moved, gathered, with_taken, with_none_out, last_number, readied, many_ready, next_line, line_in, call_of, calls_in, deed, is_queue, queued_in, finished_by, finished_in, given_out, deeds_of, IsBeginning, IsTrueOf, AreTrueAfter, AreTrue, IsThere, WaitsInOrder, GivesOnce, KeepsCalls}
use Rattle.calls.specs.declared.view.Act.TheVariants.{Queue, Take, Finish, LackRoom, LoadQueued, LoadFinished}
use Rattle.calls.proofs.Counting.{finished_push}
use Rattle.calls.proofs.Counting.{true_beginning}
use Rattle.calls.proofs.Lining.{count_some_out, line_push, few_ready, gathered_long, gathered_next}

module _ {J : Type 0} where
  -- the entries, without marks
  abbrev pub plain : List (Entry J × Mark) → List (Entry J)
  plain l = map (λ e. e.0) l

  plain_remarked : (change : Mark → Mark) (l : List (Entry J × Mark)) → plain (remarked change l) ≡ plain l
  plain_remarked change [] = refl
  plain_remarked change (x ∷ xs) = ap (λ z. x.0 ∷ z) (plain_remarked change xs)

  plain_long : (l : List (Entry J × Mark)) → length (plain l) ≡ length l
  plain_long [] = refl
  plain_long (x ∷ xs) = ap suc (plain_long xs)

  plain_push : (l : List (Entry J × Mark)) (e : Entry J × Mark) → plain (l ++ e ∷ []) ≡ plain l ++ e.0 ∷ []
  plain_push [] e = refl
  plain_push (x ∷ xs) e = ap (λ z. x.0 ∷ z) (plain_push xs e)

  plain_drop : (n : ℕ) (l : List (Entry J × Mark)) → plain (drop n l) ≡ drop n (plain l)
  plain_drop zero l = refl
  plain_drop (suc n) [] = refl
  plain_drop (suc n) (x ∷ xs) = plain_drop n xs

  plain_readied : (number : ℕ) (l : List (Entry J × Mark)) → plain (readied number l) ≡ plain l
  plain_readied number l = plain_remarked (next_becomes (number_given (last_number l) (awaited (advanced number l)))) (advanced number l) ∙ plain_remarked (reached number) l

  plain_all_moved : (es : List (Entry J)) (w : List (Entry J × Mark)) → plain (all_moved es w) ≡ plain w ++ es
  plain_all_moved [] w = sym (append-nil (plain w))
  plain_all_moved (e ∷ es) w = plain_all_moved es (with_moved e w) ∙ (ap (λ z. z ++ es) (plain_remarked (next_becomes (number_given e.cookie.number (awaited (w ++ (e, Next) ∷ [])))) (w ++ (e, Next) ∷ []) ∙ plain_push w (e, Next)) ∙ append_assoc (plain w) (e ∷ []) es)

  plain_gathered : (n : ℕ) (k : Line J) → plain (gathered n k).waiting ++ (gathered n k).coming ≡ plain k.waiting ++ k.coming
  plain_gathered n k = ap (λ z. z ++ drop n k.coming) (plain_all_moved (take n k.coming) k.waiting) ∙ (append_assoc (plain k.waiting) (take n k.coming) (drop n k.coming) ∙ ap (λ z. plain k.waiting ++ z) (take-append-drop n k.coming))

  -- Calls

  calls_push : (p : ℕ) (l : List (Deed J)) (d : Deed J) → calls_in p (l ++ d ∷ []) ≡ calls_in p l ++ (if d.by == p then call_of d.act else [])
  calls_push p [] d = append-nil (if d.by == p then call_of d.act else [])
  calls_push p (x ∷ xs) d = ap (λ z. (if x.by == p then call_of x.act else []) ++ z) (calls_push p xs d) ∙ sym (append_assoc (if x.by == p then call_of x.act else []) (calls_in p xs) (if d.by == p then call_of d.act else []))

  calls_append : (p : ℕ) (a b : List (Deed J)) → calls_in p (a ++ b) ≡ calls_in p a ++ calls_in p b
  calls_append p [] b = refl
  calls_append p (x ∷ xs) b = ap (λ z. (if x.by == p then call_of x.act else []) ++ z) (calls_append p xs b) ∙ sym (append_assoc (if x.by == p then call_of x.act else []) (calls_in p xs) (calls_in p b))

  one_call : (act : Act J) (here : Bool) → length (if here then call_of act else []) ≡ (if is_queue act then (if here then 1 else 0) else 0)
  one_call (Queue e) true = refl
  one_call (Queue e) false = refl
  one_call (Take q number max moved) true = refl
  one_call (Take q number max moved) false = refl
  one_call (Finish q n) true = refl
  one_call (Finish q n) false = refl
  one_call (LackRoom q moved) true = refl
  one_call (LackRoom q moved) false = refl
  one_call (LoadQueued q n) true = refl
  one_call (LoadQueued q n) false = refl
  one_call (LoadFinished q n) true = refl
  one_call (LoadFinished q n) false = refl

  -- there are as many as the count says
  pub calls_counted : (p : ℕ) (l : List (Deed J)) → length (calls_in p l) ≡ queued_in p l
  calls_counted p [] = refl
  calls_counted p (x ∷ xs) = let both = length-append (if x.by == p then call_of x.act else []) (calls_in p xs) in let one = one_call x.act (x.by == p) in let rest = calls_counted p xs in omega (arith, both, one, rest)

  -- What one more deed leaves

  -- a list with what is finished and all calls: what waits, and behind it what came in, is what was not given out
  pub record IsGood (k : Line J) (f : ℕ) (cs : List (Entry J)) : Type 0 where
    pub order : plain k.waiting ++ k.coming ≡ drop (f + count_out k.out) cs
    pub enough : f + count_out k.out ≤ length cs

  -- the same list, as another one says it
  good_as : (k k' : Line J) (f f' : ℕ) (cs cs' : List (Entry J)) → k' ≡ k → f' ≡ f → cs' ≡ cs → IsGood k f cs → IsGood k' f' cs'
  good_as k k' f f' cs cs' line finished calls good = subst (λ (z : Line J × ℕ × List (Entry J)). IsGood z.0 z.1 z.2) (λ i. (sym line i, sym finished i, sym calls i)) good

  -- what a deed has to be, by the list before it
  abbrev Could : ℕ → Act J → Line J → Type 0
  Could p (Queue e) k = Unit {0}
  Could p (Take q number max moved) k = q ≡ p → k.out ≡ None
  Could p (Finish q n) k = q ≡ p → k.out ≡ Some n
  Could p (LackRoom q moved) k = Unit {0}
  Could p (LoadQueued q n) k = Unit {0}
  Could p (LoadFinished q n) k = Unit {0}

  with_call_good : (e : Entry J) (k : Line J) (f : ℕ) (cs : List (Entry J)) → IsGood k f cs → IsGood (with_call e k) (f + 0) (cs ++ e ∷ [])
  with_call_good e k f cs good =
      let m : ℕ = f + count_out k.out in
      let same : m ≡ f + 0 + count_out k.out = omega arith in
      let long = length-append cs (e ∷ []) in
      let enough = good.enough in
      record {
        order = sym (append_assoc (plain k.waiting) k.coming (e ∷ [])) ∙ (ap (λ z. z ++ e ∷ []) good.order ∙ (sym (drop-append-le m cs (e ∷ []) enough) ∙ ap (λ z. drop z (cs ++ e ∷ [])) same));
        enough = omega (arith, enough, long);
      }

  gathered_good : (n : ℕ) (k : Line J) (f : ℕ) (cs : List (Entry J)) → IsGood k f cs → IsGood (gathered n k) f cs
  gathered_good n k f cs good = record { order = plain_gathered n k ∙ good.order; enough = good.enough }

  with_taken_good : (number max : ℕ) (k : Line J) (f : ℕ) (cs : List (Entry J)) → k.out ≡ None → IsGood k f cs → IsGood (with_taken number max k) (f + 0) (cs ++ [])
  with_taken_good number max k f cs none good =
      let ready : List (Entry J × Mark) = readied number k.waiting in
      let n : ℕ = many_ready max ready in
      let m : ℕ = f + count_out k.out in
      let out : count_out (some_out n) ≡ n = count_some_out n in
      let was : count_out k.out ≡ 0 = ap count_out none in
      let same : m + n ≡ f + 0 + count_out (some_out n) = omega (arith, out, was) in
      let few = few_ready max ready in
      let plain_ready : length (plain ready) ≡ length ready = plain_long ready in
      let long : length (plain ready) ≡ length (plain k.waiting) = ap length (plain_readied number k.waiting) in
      let there : length (plain k.waiting ++ k.coming) ≡ length (drop m cs) = ap length good.order in
      let both = length-append (plain k.waiting) k.coming in
      let left = length-drop m cs in
      let enough = good.enough in
      let all : plain ready ++ k.coming ≡ drop m cs = ap (λ z. z ++ k.coming) (plain_readied number k.waiting) ∙ good.order in
      good_as (with_taken number max k) (with_taken number max k) (f + 0) (f + 0) cs (cs ++ []) refl refl (append-nil cs) record {
        order = ap (λ z. z ++ k.coming) (plain_drop n ready) ∙ (sym (drop-append-le n (plain ready) k.coming (omega (arith, few, plain_ready))) ∙ (ap (drop n) all ∙ (drop-drop n m cs ∙ ap (λ z. drop z cs) same)));
        enough = omega (arith, same, few, plain_ready, long, there, both, left, enough);
      }

  with_none_out_good : (n : ℕ) (k : Line J) (f : ℕ) (cs : List (Entry J)) → k.out ≡ Some n → IsGood k f cs → IsGood (with_none_out k) (f + n) (cs ++ [])
  with_none_out_good n k f cs is good =
      let out : count_out k.out ≡ n = ap count_out is in
      let same : f + count_out k.out ≡ f + n + 0 = omega (arith, out) in
      let enough = good.enough in
      good_as (with_none_out k) (with_none_out k) (f + n) (f + n) cs (cs ++ []) refl refl (append-nil cs) record { order = good.order ∙ ap (λ z. drop z cs) same; enough = omega (arith, same, enough) }

  still_good : (k : Line J) (f : ℕ) (cs : List (Entry J)) → IsGood k f cs → IsGood k (f + 0) (cs ++ [])
  still_good k f cs good = good_as k k f (f + 0) cs (cs ++ []) refl (let e : f + 0 ≡ f = omega arith in e) (append-nil cs) good

  none_of : (act : Act J) (here : Bool) → call_of act ≡ [] → (if here then call_of act else []) ≡ []
  none_of act true none = none
  none_of act false none = refl

  next_good : (p by : ℕ) (act : Act J) (k : Line J) (f : ℕ) (cs : List (Entry J)) → Could p act k → IsGood k f cs → IsGood (next_line p by act k) (f + finished_by p act) (cs ++ (if by == p then call_of act else []))
  next_good p by (Queue e) k f cs could good = either (by == p)
    where
      either : (b : Bool) → IsGood (if b then with_call e k else k) (f + 0) (cs ++ (if b then e ∷ [] else []))
      either true = with_call_good e k f cs good
      either false = still_good k f cs good
  next_good p by (Take q number max moved) k f cs could good = good_as (next_line p by (Take q number max moved) k) (next_line p by (Take q number max moved) k)
      (f + 0) (f + 0) (cs ++ []) (cs ++ (if by == p then [] else [])) refl refl (ap (λ z. cs ++ z) (none_of (Take q number max moved) (by == p) refl))
      (dite (ℕ_discrete q p)
      (λ e. good_as (with_taken number max (gathered moved k)) (next_line p by (Take q number max moved) k) (f + 0) (f + 0) (cs ++ []) (cs ++ [])
      (ap (λ (b : Bool). if b then with_taken number max (gathered moved k) else k) (eq-eqb q p e)) refl refl (with_taken_good number max (gathered moved k) f cs (could e) (gathered_good moved k f cs good)))
      (λ ne. good_as k (next_line p by (Take q number max moved) k) (f + 0) (f + 0) (cs ++ []) (cs ++ []) (ap (λ (b : Bool). if b then with_taken number max (gathered moved k) else k) (ne_eqb q p ne)) refl refl (still_good k f cs good)))
  next_good p by (Finish q n) k f cs could good = good_as (next_line p by (Finish q n) k) (next_line p by (Finish q n) k) (f + finished_by {J = J} p (Finish q n))
      (f + finished_by {J = J} p (Finish q n)) (cs ++ []) (cs ++ (if by == p then [] else [])) refl refl (ap (λ z. cs ++ z) (none_of (Finish q n) (by == p) refl))
      (dite (ℕ_discrete q p)
      (λ e. good_as (with_none_out k) (next_line p by (Finish q n) k) (f + n) (f + finished_by {J = J} p (Finish q n)) (cs ++ []) (cs ++ [])
      (ap (λ (b : Bool). if b then with_none_out k else k) (eq-eqb q p e)) (ap (λ (b : Bool). f + (if b then n else 0)) (eq-eqb q p e)) refl (with_none_out_good n k f cs (could e) good))
      (λ ne. good_as k (next_line p by (Finish q n) k) (f + 0) (f + finished_by {J = J} p (Finish q n)) (cs ++ []) (cs ++ []) (ap (λ (b : Bool). if b then with_none_out k else k) (ne_eqb q p ne)) (ap (λ (b : Bool). f + (if b then n else 0)) (ne_eqb q p ne)) refl (still_good k f cs good)))
  next_good p by (LackRoom q moved) k f cs could good = good_as k k (f + 0) (f + 0) (cs ++ []) (cs ++ (if by == p then [] else [])) refl refl (ap (λ z. cs ++ z) (none_of (LackRoom q moved) (by == p) refl)) (still_good k f cs good)
  next_good p by (LoadQueued q n) k f cs could good = good_as k k (f + 0) (f + 0) (cs ++ []) (cs ++ (if by == p then [] else [])) refl refl (ap (λ z. cs ++ z) (none_of (LoadQueued q n) (by == p) refl)) (still_good k f cs good)
  next_good p by (LoadFinished q n) k f cs could good = good_as k k (f + 0) (f + 0) (cs ++ []) (cs ++ (if by == p then [] else [])) refl refl (ap (λ z. cs ++ z) (none_of (LoadFinished q n) (by == p) refl)) (still_good k f cs good)

  -- All deeds

  could_be : (p : ℕ) (l : List (Deed J)) (act : Act J) → IsTrueOf l act → Could p act (line_in p l)
  could_be p l (Queue e) h = tt
  could_be p l (Take q number max moved) h = λ e. subst (λ z. (line_in z l).out ≡ None) e h.0
  could_be p l (Finish q n) h = λ e. subst (λ z. (line_in z l).out ≡ Some n) e h
  could_be p l (LackRoom q moved) h = tt
  could_be p l (LoadQueued q n) h = tt
  could_be p l (LoadFinished q n) h = tt

  abbrev pub GoodIn : ℕ → List (Deed J) → Type 0
  GoodIn p l = IsGood (line_in p l) (finished_in p l) (calls_in p l)

  good_push : (p : ℕ) (l : List (Deed J)) (d : Deed J) → IsTrueOf l d.act → GoodIn p l → GoodIn p (l ++ d ∷ [])
  good_push p l d so good = good_as (next_line p d.by d.act (line_in p l)) (line_in p (l ++ d ∷ [])) (finished_in p l + finished_by p d.act) (finished_in p (l ++ d ∷ [])) (calls_in p l ++ (if d.by == p then call_of d.act else [])) (calls_in p (l ++ d ∷ []))
      (line_push p l d.by d.act) (finished_push p l d) (calls_push p l d) (next_good p d.by d.act (line_in p l) (finished_in p l) (calls_in p l) (could_be p l d.act so) good)

  good_after : (p : ℕ) (before l : List (Deed J)) → AreTrueAfter before l → GoodIn p before → GoodIn p (before ++ l)
  good_after p before [] so good = subst (λ z. GoodIn p z) (sym (append-nil before)) good
  good_after p before (d ∷ ds) so good = subst (λ z. GoodIn p z) (append_assoc before (d ∷ []) ds) (good_after p (before ++ d ∷ []) ds so.1 (good_push p before d so.0 good))

  pub good_in : (p : ℕ) (l : List (Deed J)) → AreTrue l → GoodIn p l
  good_in p l so = good_after p [] l so record { order = refl; enough = omega arith }

  pub waits_in_order : WaitsInOrder J
  waits_in_order p seen so = (good_in p seen so).order

  -- no fewer are given out
  next_grows : (p by : ℕ) (act : Act J) (k : Line J) (f : ℕ) → Could p act k → f + count_out k.out ≤ f + finished_by p act + count_out (next_line p by act k).out
  next_grows p by (Queue e) k f could = either (by == p)
    where
      either : (b : Bool) → f + count_out k.out ≤ f + 0 + count_out (if b then with_call e k else k).out
      either true = omega arith
      either false = omega arith
  next_grows p by (Take q number max moved) k f could = dite (ℕ_discrete q p)
      (λ e. let none : count_out k.out ≡ 0 = ap count_out (could e) in omega (arith, none))
      (λ ne. let same : count_out (next_line p by (Take q number max moved) k).out ≡ count_out k.out = ap (λ (b : Bool). count_out (if b then with_taken number max (gathered moved k) else k).out) (ne_eqb q p ne) in omega (arith, same))
  next_grows p by (Finish q n) k f could = dite (ℕ_discrete q p)
      (λ e. let out : count_out k.out ≡ n = ap count_out (could e) in let more : finished_by {J = J} p (Finish q n) ≡ n = ap (λ (b : Bool). if b then n else 0) (eq-eqb q p e) in omega (arith, out, more))
      (λ ne. let same : count_out (next_line p by (Finish q n) k).out ≡ count_out k.out = ap (λ (b : Bool). count_out (if b then with_none_out k else k).out) (ne_eqb q p ne) in omega (arith, same))
  next_grows p by (LackRoom q moved) k f could = omega arith
  next_grows p by (LoadQueued q n) k f could = omega arith
  next_grows p by (LoadFinished q n) k f could = omega arith

  grows_after : (p : ℕ) (before l : List (Deed J)) → AreTrueAfter before l → given_out p before ≤ given_out p (before ++ l)
  grows_after p before [] so = let same = ap (given_out p) (append-nil before) in omega (arith, same)
  grows_after p before (d ∷ ds) so =
      let one = next_grows p d.by d.act (line_in p before) (finished_in p before) (could_be p before d.act so.0) in
      let line = ap (λ (z : Line J). count_out z.out) (line_push p before d.by d.act) in
      let finished = finished_push p before d in
      let rest = grows_after p (before ++ d ∷ []) ds so.1 in
      let same = ap (given_out p) (append_assoc before (d ∷ []) ds) in
      omega (arith, one, line, finished, rest, same)

  true_rest : (before a b : List (Deed J)) → AreTrueAfter before (a ++ b) → AreTrueAfter (before ++ a) b
  true_rest before [] b h = subst (λ z. AreTrueAfter z b) (sym (append-nil before)) h
  true_rest before (x ∷ xs) b h = subst (λ z. AreTrueAfter z b) (append_assoc before (x ∷ []) xs) (true_rest (before ++ x ∷ []) xs b h.1)

  never_falls : (p : ℕ) (seen later : List (Deed J)) → AreTrue later → IsBeginning seen later → given_out p seen ≤ given_out p later
  never_falls p seen later so on = let more = grows_after p seen on.rest (true_rest [] seen on.rest (subst (λ z. AreTrue z) on.whole so)) in let same = ap (given_out p) on.whole in omega (arith, more, same)

  -- where something is taken, no batch is out
  none_at_take : (p by number max moved : ℕ) (later : List (Deed J)) → AreTrue (later ++ deed by (Take p number max moved) ∷ []) → (line_in p later).out ≡ None
  none_at_take p by number max moved later so = (true_rest [] later (deed by (Take p number max moved) ∷ []) so).0.0

  pub gives_once : GivesOnce J
  gives_once p by number max moved by' number' max' moved' before later on so =
      let more = never_falls p (before ++ deed by (Take p number max moved) ∷ []) later (true_beginning record { rest = deed by' (Take p number' max' moved') ∷ []; whole = refl } so) on in
      let same = finished_push p before (deed by (Take p number max moved)) in
      let none : count_out (line_in p later).out ≡ 0 = ap count_out (none_at_take p by' number' max' moved' later so) in
      omega (arith, more, same, none)

  calls_stay : (p : ℕ) (seen later : List (Deed J)) → IsBeginning seen later → calls_in p seen ≡ take (queued_in p seen) (calls_in p later)
  calls_stay p seen later on =
      sym (ap (λ z. take (queued_in p seen) (calls_in p z)) on.whole ∙ (ap (take (queued_in p seen)) (calls_append p seen on.rest) ∙ (ap (λ z. take z (calls_in p seen ++ calls_in p on.rest)) (sym (calls_counted p seen)) ∙ take-append_seam (calls_in p seen) (calls_in p on.rest))))

  pub keeps_calls : KeepsCalls J
  keeps_calls = record { counted = calls_counted; stay = calls_stay }

  -- a call that was queued is found at its number, and stays there
  pub call_found : (p k : ℕ) (e : Entry J) (before : List (Deed J)) → k ≡ queued_in p before → slice_get (calls_in p (before ++ deed p (Queue e) ∷ [])) k ≡ Some e
  call_found p k e before is =
      let cs : List (Entry J) = calls_in p before in
      let calls : calls_in p (before ++ deed p (Queue e) ∷ []) ≡ cs ++ e ∷ [] = calls_push p before (deed p (Queue e)) ∙ ap (λ (b : Bool). cs ++ (if b then e ∷ [] else [])) (eq-eqb p p refl) in
      let long = length-append cs (e ∷ []) in
      ap (λ l. slice_get l k) calls ∙ (ap (slice_get (cs ++ e ∷ [])) (is ∙ sym (calls_counted p before)) ∙ (slice_get-get_or (cs ++ e ∷ []) (length cs) e (omega (arith, long)) ∙ ap Some (get_or-append_seam cs e [] e)))

  pub call_stays : (p k : ℕ) (e : Entry J) (seen later : List (Deed J)) → IsBeginning seen later → slice_get (calls_in p seen) k ≡ Some e → slice_get (calls_in p later) k ≡ Some e
  call_stays p k e seen later on at =
      let cs : List (Entry J) = calls_in p seen in
      let more : List (Entry J) = calls_in p on.rest in
      let inside : k < length cs = slice_get_within cs k e at in
      let long = length-append cs more in
      ap (λ z. slice_get (calls_in p z) k) on.whole ∙ (ap (λ l. slice_get l k) (calls_append p seen on.rest) ∙ (slice_get-get_or (cs ++ more) k e (omega (arith, inside, long)) ∙ ap Some (get_or_append_left cs more e k inside ∙ get_or_from_slice_get cs k e e at)))

  -- A take gives out the very next calls

  plain_marked : (m : Mark) (l : List (Entry J)) → plain (marked m l) ≡ l
  plain_marked m [] = refl
  plain_marked m (x ∷ xs) = ap (λ z. x ∷ z) (plain_marked m xs)

  plain_append : (a b : List (Entry J × Mark)) → plain (a ++ b) ≡ plain a ++ plain b
  plain_append [] b = refl
  plain_append (x ∷ xs) b = ap (λ z. x.0 ∷ z) (plain_append xs b)

  pub next_calls : (p number by max : ℕ) (k : Known J) (before seen : List (Deed J)) (gone : List (Entry J)) (rest : List (Entry J × Mark)) → seen ≡ before ++ deed by (Take p number max k.moved) ∷ [] → AreTrue seen → k.out ≡ None → IsThere p k before
      → readied number k.waiting ≡ marked Done gone ++ rest → gone ≡ take (length gone) (drop k.finished (calls_in p seen))
  next_calls p number by max k before seen gone rest is so none_out there order =
      let l : Line J = gathered k.moved (line_in p before) in
      let good = gathered_good k.moved (line_in p before) (finished_in p before) (calls_in p before) (good_in p before (front_true before (deed by (Take p number max k.moved) ∷ []) (subst (λ z. AreTrue z) is so))) in
      let none : count_out (line_in p before).out ≡ 0 = ap count_out (sym there.out_is ∙ none_out) in
      let counted = there.finished_is in
      let same : finished_in p before + count_out (line_in p before).out ≡ k.finished = omega (arith, none, counted) in
      let calls : calls_in p seen ≡ calls_in p before = ap (calls_in p) is ∙ (calls_push p before (deed by (Take p number max k.moved)) ∙ (ap (λ z. calls_in p before ++ z) (none_of (Take p number max k.moved) (by == p) refl) ∙ append-nil (calls_in p before))) in
      let front : gone ++ plain rest ≡ plain l.waiting = ap (λ z. z ++ plain rest) (sym (plain_marked Done gone)) ∙ (sym (plain_append (marked Done gone) rest) ∙ (ap plain (sym order) ∙ (plain_readied number k.waiting ∙ ap plain there.waiting_is))) in
      let all : gone ++ (plain rest ++ l.coming) ≡ drop k.finished (calls_in p seen) =
      sym (append_assoc gone (plain rest) l.coming) ∙ (ap (λ z. z ++ l.coming) front ∙ (good.order ∙ (ap (λ z. drop z (calls_in p before)) same ∙ ap (drop k.finished) (sym calls)))) in
      sym (take-append_seam gone (plain rest ++ l.coming)) ∙ ap (take (length gone)) all
    where
      front_true : (a b : List (Deed J)) → AreTrue (a ++ b) → AreTrue a
      front_true a b h = true_beginning record { rest = b; whole = refl } h

  -- What is moved next

  behind_at : (xs : List (Entry J)) (i : ℕ) (e : Entry J) → slice_get xs i ≡ Some e → (rest : List (Entry J)) × (drop i xs ≡ e ∷ rest)
  behind_at [] i e h = let wrong : None ≡ Some e = h in cc
  behind_at (x ∷ xs) zero e h = (xs, ap (λ z. z ∷ xs) (same x e h))
    where
      same : (a b : Entry J) → Some a ≡ Some b → a ≡ b
      same a b h = cc
  behind_at (x ∷ xs) (suc i) e h = behind_at xs i e h

  take_next : (n : ℕ) (xs rest : List (Entry J)) (e : Entry J) → drop n xs ≡ e ∷ rest → take (suc n) xs ≡ take n xs ++ e ∷ []
  take_next zero [] rest e h = cc
  take_next zero (x ∷ xs) rest e h = let first : x ≡ e = cc in ap (λ z. z ∷ []) first
  take_next (suc n) [] rest e h = cc
  take_next (suc n) (x ∷ xs) rest e h = ap (λ z. x ∷ z) (take_next n xs rest e h)

  -- a call that has the list's next number is the first of those that came in
  pub next_comes : (p : ℕ) (k : Known J) (log : List (Deed J)) (e : Entry J) → AreTrue log → IsThere p k log → slice_get (calls_in p log) (k.finished + count_out k.out + length k.waiting) ≡ Some e
      → (k.moved + 1 ≤ length (line_in p log).coming) × (with_moved e k.waiting ≡ (gathered (k.moved + 1) (line_in p log)).waiting)
  next_comes p k log e so there at =
      let l : Line J = line_in p log in
      let good = good_in p log so in
      let g : ℕ = finished_in p log + count_out l.out in
      let few = there.few in
      let fin = there.finished_is in
      let out = ap count_out there.out_is in
      let long : length k.waiting ≡ length l.waiting + k.moved = ap length there.waiting_is ∙ gathered_long k.moved l few in
      let same : k.finished + count_out k.out + length k.waiting ≡ g + (length (plain l.waiting) + k.moved) = let w = plain_long l.waiting in omega (arith, fin, out, long, w) in
      let b = behind_at (calls_in p log) (k.finished + count_out k.out + length k.waiting) e at in
      let behind : drop k.moved l.coming ≡ e ∷ b.0 =
      sym (ap (drop k.moved) (drop-append_seam (plain l.waiting) l.coming))
      ∙ (drop-drop k.moved (length (plain l.waiting)) (plain l.waiting ++ l.coming) ∙ (ap (drop (length (plain l.waiting) + k.moved)) good.order ∙ (drop-drop (length (plain l.waiting) + k.moved) g (calls_in p log) ∙ (ap (λ n. drop n (calls_in p log)) (sym same) ∙ b.1)))) in
      let left : length (drop k.moved l.coming) ≡ suc (length b.0) = ap length behind in
      let cut = length-drop k.moved l.coming in
      let suc_is : suc k.moved ≡ k.moved + 1 = omega arith in
      (omega (arith, left, cut), ap (with_moved e) there.waiting_is ∙ sym (gathered_next k.moved l e (ap (λ n. take n l.coming) (sym suc_is) ∙ take_next k.moved l.coming b.0 e behind)))

  -- a processor's own deeds tell which calls it has queued
  calls_deeds : (p : ℕ) (l : List (Deed J)) → calls_in p (deeds_of p l) ≡ calls_in p l
  calls_deeds p [] = refl
  calls_deeds p (x ∷ xs) = let rest = calls_deeds p xs in dite (ℕ_discrete x.by p)
      (λ e. ap (λ b. calls_in p (cond b (x ∷ deeds_of p xs) (deeds_of p xs))) (eq-eqb x.by p e) ∙ ap (λ z. (if x.by == p then call_of x.act else []) ++ z) rest)
      (λ n. ap (λ b. calls_in p (cond b (x ∷ deeds_of p xs) (deeds_of p xs))) (ne_eqb x.by p n) ∙ (rest ∙ ap (λ z. z ++ calls_in p xs) (sym (ap (λ (b : Bool). if b then call_of x.act else []) (ne_eqb x.by p n)))))

  pub same_calls : (p : ℕ) (a b : List (Deed J)) → deeds_of p a ≡ deeds_of p b → calls_in p a ≡ calls_in p b
  same_calls p a b same = sym (calls_deeds p a) ∙ (ap (calls_in p) same ∙ calls_deeds p b)

  -- one more call, and other deeds
  pub calls_here : (p : ℕ) (e : Entry J) (l : List (Deed J)) → calls_in p (l ++ deed p (Queue e) ∷ []) ≡ calls_in p l ++ e ∷ []
  calls_here p e l = calls_push p l (deed p (Queue e)) ∙ ap (λ (b : Bool). calls_in p l ++ (if b then e ∷ [] else [])) (eq-eqb p p refl)

  pub calls_still : (p c : ℕ) (act : Act J) (l : List (Deed J)) → call_of act ≡ [] → calls_in p (l ++ deed c act ∷ []) ≡ calls_in p l
  calls_still p c act l none = calls_push p l (deed c act) ∙ (ap (λ z. calls_in p l ++ z) (none_of act (c == p) none) ∙ append-nil (calls_in p l))

  no_call : (act : Act J) → is_queue act ≡ false → call_of act ≡ []
  no_call (Queue e) h = let wrong : true ≡ false = h in cc
  no_call (Take p number max moved) h = refl
  no_call (Finish p n) h = refl
  no_call (LackRoom p moved) h = refl
  no_call (LoadQueued p n) h = refl
  no_call (LoadFinished p n) h = refl

  pub calls_unqueued : (p c : ℕ) (act : Act J) (l : List (Deed J)) → is_queue act ≡ false → calls_in p (l ++ deed c act ∷ []) ≡ calls_in p l
  calls_unqueued p c act l none = calls_still p c act l (no_call act none)
