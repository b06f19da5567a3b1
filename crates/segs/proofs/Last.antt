-- The entry that `last_next` finds.
use Rattle.std.proofs.Common.{◌≡◌, ℕ, ◌+◌, ◌-◌, ◌<◌, List, [], ◌∷◌, ◌++◌, length, get_or, refl, sym, ap, ◌∙◌, arith, append_assoc}
use Rattle.std.proofs.lemmas.List.{get_or_at, length_push}
use Rattle.segs.specs.declared.segment.Segment.{Segment}
use Rattle.segs.specs.MarkedList.{Mark, Next, count_next}
use Rattle.segs.proofs.Lists.{in_segments, marked-append, count_next_is}
use Rattle.segs.proofs.Cuts.{Stands, IsCut, cut_of, seen_cut, done_of, wait_of, next_ready_of, next_of}

module _ {T : Type 0} where
  by_last : (xs : List T) → 0 < length xs → (front : List T) × (e : T) × (xs ≡ front ++ e ∷ [])
  by_last [] l = absurd (omega arith)
  by_last (y ∷ []) l = ([], y, refl)
  by_last (y ∷ z ∷ xs) l = let rest = by_last (z ∷ xs) (omega arith) in (y ∷ rest.0, rest.1, ap (λ l. y ∷ l) rest.2)

  last_marked : (d : List T) (n : ℕ) (w : List T) (m : ℕ) (r front : List T) (e : T) → in_segments d n w m r (front ++ e ∷ []) ≡ in_segments d n w m r front ++ (e, Next) ∷ []
  last_marked d n w m r front e = simp (marked-append, append_assoc)

  last_cut : {xs : List T} {done : ℕ} {wait next_ready : Segment} (d w r x : List T) → IsCut xs done wait next_ready d w r x → 0 < length x → (e : T) → e ≡ get_or xs (length xs - 1) e → (front : List (T × Mark)) × (in_segments d wait.number w next_ready.number r x ≡ front ++ (e, Next) ∷ [])
  last_cut {xs} {done} {wait} {next_ready} d w r x c l e h =
      let parts = by_last x l in
      let front = d ++ (w ++ (r ++ parts.0)) in
      let whole : xs ≡ front ++ parts.1 ∷ [] = c.whole ∙ ap (λ l. d ++ (w ++ (r ++ l))) parts.2 ∙ simp append_assoc in
      let long : length xs ≡ length front + 1 = ap length whole ∙ length_push front parts.1 in
      let found : get_or xs (length xs - 1) e ≡ parts.1 = ap (λ l. get_or l (length xs - 1) e) whole ∙ get_or_at front parts.1 [] e (length xs - 1) (omega arith) in (
        in_segments d wait.number w next_ready.number r parts.0,
        ap (λ l. in_segments d wait.number w next_ready.number r l) parts.2
            ∙ last_marked d wait.number w next_ready.number r parts.0 parts.1 ∙ ap (λ y. in_segments d wait.number w next_ready.number r parts.0 ++ (y, Next) ∷ []) (sym (h ∙ found)),
      )

  pub last_of : {xs : List T} {len done : ℕ} {wait next_ready : Segment} {entries : List (T × Mark)} → Stands xs len done wait next_ready entries → 0 < count_next entries → (e : T) → e ≡ get_or xs (len - 1) e → (front : List (T × Mark)) × (entries ≡ front ++ (e, Next) ∷ [])
  last_of {xs} {len} {done} {wait} {next_ready} s some e h =
      let long = ap count_next (seen_cut s) ∙ count_next_is (done_of xs done) wait.number (wait_of xs done wait) next_ready.number (next_ready_of xs done wait next_ready) (next_of xs done wait next_ready) in
      rw (seen_cut s) (last_cut _ _ _ _ (cut_of s) (omega arith) e (h ∙ ap (λ k. get_or xs (k - 1) e) s.long))
