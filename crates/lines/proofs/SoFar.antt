-- A run that goes on: byte by byte, and line by line.
use Rattle.std.proofs.Common.{◌≡◌, ◌≢◌, ℕ, ◌+◌, ◌<◌, ◌≤◌, Bool, true, false, ◌||◌, List, [], ◌∷◌, ◌++◌, Option, Some, None, cond, length, get_or, take, drop, refl, sym, ap, ◌∙◌, subst, append_assoc, append-nil, take-append-drop, add-zero, rules, arith}
use borrow.Author.Tests.{tests}
use Rattle.std.specs.Io.KnownBytes.{Appends}
use Rattle.lines.specs.Lines.{is_text, lines_of, pieces, text_of, without_empty_last}
use Rattle.lines.specs.Runs.{AnswerFails, Answering, BreaksOff, EndsEarly, IsRun, IsSoFar}
use Rattle.lines.specs.declared.error.RunError.{RunError}
use Rattle.lines.specs.declared.error.RunError.TheVariants as error
use Rattle.std.proofs.KnownBytes.{Appends-kept, Appends-nil, Appends-trans}
use Rattle.std.proofs.lemmas.List.{drop_more, length_push, take_all, take_more}
use Rattle.lines.proofs.Pieces.{lines_of-before, lines_of-pieces, pieces-line, pieces-push, whole_lines_of-pieces}

or_assoc : (a b c : Bool) → ((a || b) || c) ≡ (a || (b || c))
or_assoc true b c = refl
or_assoc false b c = refl

or_false : (a : Bool) → (a || false) ≡ a
or_false true = refl
or_false false = refl

some_of : (b : Bool) (xs ys : List ℕ) → cond b (Some xs) None ≡ Some ys → xs ≡ ys
some_of true xs ys e = cc
some_of false xs ys e = absurd (cc)

text_of-nil : (front : List ℕ) → text_of front ≡ Some [] → front ≡ []
text_of-nil front e = some_of (is_text front) front [] e

one_line : (front : List ℕ) → front ≢ [] → without_empty_last (front ∷ []) ≡ front ∷ []
one_line [] some = absurd (some refl)
one_line (x ∷ xs) some = search (rules, tests)

module _ {S : Type 0} (gives : Answering S) where
  -- a run and one line more
  pub IsRun-push : (s : S) (number : ℕ) (lines : List (List ℕ)) (written : List ℕ) (faulty : Bool) (between : S)
      → IsRun gives s number lines written faulty between → (line reply : List ℕ) (bad : Bool) (s' : S)
      → gives between (number + length lines) (text_of line) reply bad s'
      → IsRun gives s number (lines ++ line ∷ []) (written ++ reply) (faulty || bad) s'
  IsRun-push s number [] written faulty between run line reply bad s' given =
      let here = subst (λ n. gives between n (text_of line) reply bad s') (add-zero number) given in (
        reply,
        [],
        bad,
        false,
        s',
        subst (λ m. gives m number (text_of line) reply bad s') run.2 here,
        (refl, refl, refl),
        ap (λ w. w ++ reply) run.0 ∙ sym (append-nil reply),
        ap (λ b. b || bad) run.1 ∙ sym (or_false bad),
      )
  IsRun-push s number (l ∷ lines) written faulty between run line reply bad s' given =
      let (first, replies, first_bad, others_bad, next, gave, rest, all, any) = run in
      let same : number + length (l ∷ lines) ≡ number + 1 + length lines = omega arith in (
        first,
        replies ++ reply,
        first_bad,
        others_bad || bad,
        next,
        gave,
        IsRun-push next (number + 1) lines replies others_bad between rest line reply bad s' (subst (λ n. gives between n (text_of line) reply bad s') same given),
        ap (λ w. w ++ reply) all ∙ append_assoc first replies reply,
        ap (λ b. b || bad) any ∙ or_assoc first_bad others_bad bad,
      )

  -- nothing was read yet
  pub IsSoFar-begin : (start : S) (line : Option (List ℕ)) (number : ℕ) (faulty : Bool) → line ≡ Some [] → number ≡ 1 → faulty ≡ false
      → IsSoFar gives start [] [] line number faulty start
  IsSoFar-begin start line number faulty empty first none = record { ran = []; front = []; in_order = refl; run = (refl, none, refl); numbered = first; kept = empty }

  module _ {start : S} {taken given : List ℕ} {line : Option (List ℕ)} {number : ℕ} {faulty : Bool} {s : S} (so_far : IsSoFar gives start taken given line number faulty s) where
    -- the same, of equal texts
    pub IsSoFar-same : (taken' given' : List ℕ) → taken ≡ taken' → given ≡ given' → IsSoFar gives start taken' given' line number faulty s
    IsSoFar-same taken' given' same_taken same_given = record {
      ran = so_far.ran;
      front = so_far.front;
      in_order = ap (pieces 10) (sym same_taken) ∙ so_far.in_order;
      run = subst (λ w. IsRun gives start 1 so_far.ran w faulty s) same_given so_far.run;
      numbered = so_far.numbered;
      kept = so_far.kept;
    }

    -- a byte of the next line was read
    pub IsSoFar-byte : (byte : ℕ) (line' : Option (List ℕ)) → byte ≢ 10 → ((front : List ℕ) → line ≡ text_of front → line' ≡ text_of (front ++ byte ∷ []))
        → IsSoFar gives start (taken ++ byte ∷ []) given line' number faulty s
    IsSoFar-byte byte line' other pushed = record {
      ran = so_far.ran;
      front = so_far.front ++ byte ∷ [];
      in_order = pieces-push taken byte so_far.ran so_far.front other so_far.in_order;
      run = so_far.run;
      numbered = so_far.numbered;
      kept = pushed so_far.front so_far.kept;
    }

    answered : (reply : List ℕ) (bad : Bool) (s' : S) → gives s number line reply bad s' → gives s (length so_far.ran + 1) (text_of so_far.front) reply bad s'
    answered reply bad s' gave =
        subst (λ l. gives s (length so_far.ran + 1) l reply bad s') so_far.kept (subst (λ n. gives s n line reply bad s') so_far.numbered gave)

    run_on : (reply : List ℕ) (bad : Bool) (s' : S) → gives s number line reply bad s' → IsRun gives start 1 (so_far.ran ++ so_far.front ∷ []) (given ++ reply) (faulty || bad) s'
    run_on reply bad s' gave =
        let same : length so_far.ran + 1 ≡ 1 + length so_far.ran = omega arith in
        IsRun-push start 1 so_far.ran given faulty s so_far.run so_far.front reply bad s' (subst (λ n. gives s n (text_of so_far.front) reply bad s') same (answered reply bad s' gave))

    -- the next line was ended by a line feed, and run
    pub IsSoFar-line : (byte : ℕ) (reply : List ℕ) (bad : Bool) (s' : S) (line' : Option (List ℕ)) (number' : ℕ) (faulty' : Bool) → byte ≡ 10
        → gives s number line reply bad s' → line' ≡ Some [] → number' ≡ number + 1 → faulty' ≡ (faulty || bad)
        → IsSoFar gives start (taken ++ byte ∷ []) (given ++ reply) line' number' faulty' s'
    IsSoFar-line byte reply bad s' line' number' faulty' feed gave empty next any = record {
      ran = so_far.ran ++ so_far.front ∷ [];
      front = [];
      in_order = ap (λ b. pieces 10 (taken ++ b ∷ [])) feed ∙ pieces-line taken so_far.ran so_far.front so_far.in_order;
      run = subst (λ f. IsRun gives start 1 (so_far.ran ++ so_far.front ∷ []) (given ++ reply) f s') (sym any) (run_on reply bad s' gave);
      numbered = next ∙ ap (λ n. n + 1) so_far.numbered ∙ ap (λ n. n + 1) (sym (length_push so_far.ran so_far.front));
      kept = empty;
    }

    -- a line was not run to its end
    pub EndsEarly-within : (text : List ℕ) (others : List (List ℕ)) → lines_of text ≡ so_far.ran ++ so_far.front ∷ others
        → (old new : Option (List ℕ)) (e : RunError) (s' : S) → AnswerFails gives s number line old new e s'
        → (more : List ℕ) × Appends old new more × EndsEarly gives start text (given ++ more) e s'
    EndsEarly-within text others in_order old new error.Read s' fails = absurd fails
    EndsEarly-within text others in_order old new error.Write s' fails =
        let (reply, bad, count, gave, short, wrote) = fails in
        let ended : BreaksOff gives start (lines_of text) = record {
          first = so_far.ran;
          line = so_far.front;
          others = others;
          in_order = in_order;
          replies = given;
          faulty = faulty;
          state = s;
          run = so_far.run;
        } in
        (take count reply, wrote, (ended, reply, bad, count, answered reply bad s' gave, short, refl))
    EndsEarly-within text others in_order old new error.Memory s' fails =
        let ended : BreaksOff gives start (lines_of text) = record {
          first = so_far.ran;
          line = so_far.front;
          others = others;
          in_order = in_order;
          replies = given;
          faulty = faulty;
          state = s;
          run = so_far.run;
        } in
        ([], Appends-kept old old new [] (Appends-nil old) fails, (ended, append-nil given))

    -- ---- at the end of the text

    -- nothing stands behind its last line feed
    pub finish-empty : line ≡ Some [] → IsRun gives start 1 (lines_of taken) (given ++ []) faulty s
    finish-empty empty =
        let none : so_far.front ≡ [] = text_of-nil so_far.front (sym so_far.kept ∙ empty) in
        let order = lines_of-pieces taken so_far.ran so_far.front so_far.in_order ∙ ap (λ f. so_far.ran ++ without_empty_last (f ∷ [])) none ∙ append-nil so_far.ran in
        subst (λ l. IsRun gives start 1 l (given ++ []) faulty s) (sym order)
        (subst (λ w. IsRun gives start 1 so_far.ran w faulty s) (sym (append-nil given)) so_far.run)

    last_line : line ≢ Some [] → lines_of taken ≡ so_far.ran ++ so_far.front ∷ []
    last_line some =
        lines_of-pieces taken so_far.ran so_far.front so_far.in_order ∙ ap (λ l. so_far.ran ++ l) (one_line so_far.front (λ none. some (so_far.kept ∙ ap text_of none)))

    -- what stands there is a line, and was run
    pub finish-line : (reply : List ℕ) (bad : Bool) (s' : S) (faulty' : Bool) → line ≢ Some [] → gives s number line reply bad s' → faulty' ≡ (faulty || bad)
        → IsRun gives start 1 (lines_of taken) (given ++ reply) faulty' s'
    finish-line reply bad s' faulty' some gave any =
        subst (λ l. IsRun gives start 1 l (given ++ reply) faulty' s') (sym (last_line some))
        (subst (λ f. IsRun gives start 1 (so_far.ran ++ so_far.front ∷ []) (given ++ reply) f s') (sym any) (run_on reply bad s' gave))

    pub finish-fails : (old new : Option (List ℕ)) (e : RunError) (s' : S) → line ≢ Some [] → AnswerFails gives s number line old new e s'
        → (more : List ℕ) × Appends old new more × EndsEarly gives start taken (given ++ more) e s'
    finish-fails old new e s' some fails = EndsEarly-within taken [] (last_line some) old new e s' fails

    -- the reader failed
    pub EndsEarly-read : EndsEarly gives start taken given error.Read s
    EndsEarly-read = (faulty, subst (λ l. IsRun gives start 1 l given faulty s) (sym (whole_lines_of-pieces taken so_far.ran so_far.front so_far.in_order)) so_far.run)

  -- ---- bytes that are fed, the first i of which were taken
  module _ {start : S} (taken given : List ℕ) where
    -- nothing was taken yet
    pub fed-none : {line : Option (List ℕ)} {number : ℕ} {faulty : Bool} {s : S} → IsSoFar gives start taken given line number faulty s
        → IsSoFar gives start (taken ++ []) (given ++ []) line number faulty s
    fed-none so_far = IsSoFar-same so_far _ _ (sym (append-nil taken)) (sym (append-nil given))

    -- all were taken
    pub fed-all : (bytes : List ℕ) (i : ℕ) → length bytes ≤ i → (more : List ℕ) {line : Option (List ℕ)} {number : ℕ} {faulty : Bool} {s : S}
        → IsSoFar gives start (taken ++ take i bytes) (given ++ more) line number faulty s → IsSoFar gives start (taken ++ bytes) (given ++ more) line number faulty s
    fed-all bytes i all more so_far = IsSoFar-same so_far _ _ (ap (λ t. taken ++ t) (take_all i bytes all)) refl

    module _ (bytes : List ℕ) (i : ℕ) (within : i < length bytes) (more : List ℕ) {line : Option (List ℕ)} {number : ℕ} {faulty : Bool} {s : S}
        (so_far : IsSoFar gives start (taken ++ take i bytes) (given ++ more) line number faulty s) where
      one_more : (taken ++ take i bytes) ++ get_or bytes i 0 ∷ [] ≡ taken ++ take (i + 1) bytes
      one_more = append_assoc taken (take i bytes) _ ∙ ap (λ t. taken ++ t) (sym (take_more bytes i 0 within))

      pub fed-byte : (line' : Option (List ℕ)) → get_or bytes i 0 ≢ 10
          → ((front : List ℕ) → line ≡ text_of front → line' ≡ text_of (front ++ get_or bytes i 0 ∷ []))
          → IsSoFar gives start (taken ++ take (i + 1) bytes) (given ++ more) line' number faulty s
      fed-byte line' other pushed = IsSoFar-same (IsSoFar-byte so_far (get_or bytes i 0) line' other pushed) _ _ one_more refl

      pub fed-line : (reply : List ℕ) (bad : Bool) (s' : S) (line' : Option (List ℕ)) (number' : ℕ) (faulty' : Bool) → get_or bytes i 0 ≡ 10
          → gives s number line reply bad s' → line' ≡ Some [] → number' ≡ number + 1 → faulty' ≡ (faulty || bad)
          → IsSoFar gives start (taken ++ take (i + 1) bytes) (given ++ (more ++ reply)) line' number' faulty' s'
      fed-line reply bad s' line' number' faulty' feed gave empty next any =
          IsSoFar-same (IsSoFar-line so_far (get_or bytes i 0) reply bad s' line' number' faulty' feed gave empty next any) _ _ one_more (append_assoc given more reply)

      rest_is : get_or bytes i 0 ≡ 10 → taken ++ bytes ≡ (taken ++ take i bytes) ++ 10 ∷ drop (i + 1) bytes
      rest_is feed =
          ap (λ t. taken ++ t) (sym (take-append-drop i bytes) ∙ ap (λ t. take i bytes ++ t) (drop_more bytes i 0 within ∙ ap (λ x. x ∷ drop (i + 1) bytes) feed))
          ∙ sym (append_assoc taken (take i bytes) (10 ∷ drop (i + 1) bytes))

      pub fed-fails : (u v w : Option (List ℕ)) (e : RunError) (s' : S) → get_or bytes i 0 ≡ 10 → Appends u v more → AnswerFails gives s number line v w e s'
          → (all : List ℕ) × Appends u w all × EndsEarly gives start (taken ++ bytes) (given ++ all) e s'
      fed-fails u v w e s' feed before fails =
          let order = ap lines_of (rest_is feed) ∙ lines_of-before (taken ++ take i bytes) (drop (i + 1) bytes) so_far.ran so_far.front so_far.in_order in
          let (last, wrote, ends) = EndsEarly-within so_far (taken ++ bytes) _ order v w e s' fails in
          (more ++ last, Appends-trans u v w more last before wrote, subst (λ t. EndsEarly gives start (taken ++ bytes) t e s') (append_assoc given more last) ends)
