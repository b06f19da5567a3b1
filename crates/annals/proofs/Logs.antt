-- Logs, and the entries of one maker in them.
use Rattle.std.proofs.Common.{◌≡◌, ◌≢◌, ◌+◌, ◌≤◌, true, false, cond, List, [], ◌∷◌, ◌++◌, All, length, refl, sym, ap, ◌∙◌, append_assoc, append-nil, length-append, eq-eqb, ne_eqb, arith}
use Rattle.std.proofs.lemmas.List.Elements.{filter-append, All-head, All-tail}
use Rattle.annals.specs.Glossary.{Maker, same_maker, IsBeginning, made_by, Head, Sitter}

-- Makers

pub same_maker_refl : (m : Maker) → same_maker m m ≡ true
same_maker_refl Head = refl
same_maker_refl (Sitter n) = eq-eqb n n refl

pub same_maker_else : (m n : Maker) → m ≢ n → same_maker m n ≡ false
same_maker_else Head Head ne = absurd (ne refl)
same_maker_else Head (Sitter n) ne = refl
same_maker_else (Sitter m) Head ne = refl
same_maker_else (Sitter m) (Sitter n) ne = ne_eqb m n (λ e. ne (ap Sitter e))

module _ {E : Type 0} where
  -- Beginnings

  pub beginning_refl : (log : List E) → IsBeginning log log
  beginning_refl log = record { rest = []; whole = sym (append-nil log) }

  pub beginning_empty : (log : List E) → IsBeginning [] log
  beginning_empty log = record { rest = log; whole = refl }

  pub beginning_more : (seen log more : List E) → IsBeginning seen log → IsBeginning seen (log ++ more)
  beginning_more seen log more h = record { rest = h.rest ++ more; whole = ap (λ l. l ++ more) h.whole ∙ append_assoc seen h.rest more }

  pub beginning_on : (a b c : List E) → IsBeginning a b → IsBeginning b c → IsBeginning a c
  beginning_on a b c h g = record { rest = h.rest ++ g.rest; whole = g.whole ∙ (ap (λ l. l ++ g.rest) h.whole ∙ append_assoc a h.rest g.rest) }

  -- of two beginnings of one log the shorter one is a beginning of the other
  pub shorter_begins : (a b r q : List E) → a ++ r ≡ b ++ q → length a ≤ length b → IsBeginning a b
  shorter_begins [] b r q e le = record { rest = b; whole = refl }
  shorter_begins (x ∷ xs) [] r q e le = absurd (omega (arith, le))
  shorter_begins (x ∷ xs) (y ∷ ys) r q e le =
      let same : x ≡ y = cc in
      let tail : xs ++ r ≡ ys ++ q = cc in
      let h = shorter_begins xs ys r q tail (omega (arith, le)) in record { rest = h.rest; whole = ap (λ z. z ∷ ys) (sym same) ∙ ap (λ l. x ∷ l) h.whole }

  -- Entries of one maker

  module _ (by : E → Maker) where
    pub made_append : (m : Maker) (a b : List E) → made_by by m (a ++ b) ≡ made_by by m a ++ made_by by m b
    made_append m a b = filter-append (λ e. same_maker (by e) m) a b

    none_made : (m n : Maker) (es : List E) → m ≢ n → All (λ e. by e ≡ n) es → made_by by m es ≡ []
    none_made m n [] ne all = refl
    none_made m n (e ∷ es) ne all =
        let is : by e ≡ n = All-head (λ (x : E). by x ≡ n) e es all in
        ap (λ b. cond b (e ∷ made_by by m es) (made_by by m es)) (ap (λ z. same_maker z m) is ∙ same_maker_else n m (λ h. ne (sym h)))
        ∙ none_made m n es ne (All-tail (λ (x : E). by x ≡ n) e es all)

    -- what another one makes is none of these
    pub made_other : (m n : Maker) (log es : List E) → m ≢ n → All (λ e. by e ≡ n) es → made_by by m (log ++ es) ≡ made_by by m log
    made_other m n log es ne all = made_append m log es ∙ (ap (λ l. made_by by m log ++ l) (none_made m n es ne all) ∙ append-nil (made_by by m log))

    -- its own entry stands last among them
    pub made_own : (m : Maker) (log : List E) (e : E) → by e ≡ m → made_by by m (log ++ e ∷ []) ≡ made_by by m log ++ e ∷ []
    made_own m log e is = made_append m log (e ∷ []) ∙ ap (λ b. made_by by m log ++ cond b (e ∷ []) []) (ap (λ z. same_maker z m) is ∙ same_maker_refl m)

    nothing_more : (xs : List E) → length xs ≡ 0 → xs ≡ []
    nothing_more [] e = refl
    nothing_more (x ∷ xs) e = absurd (omega arith)

    -- who made just the same in two lists has just this in all that lie between
    pub own_between : (m : Maker) (a b c : List E) → IsBeginning a b → IsBeginning b c → made_by by m c ≡ made_by by m a → made_by by m b ≡ made_by by m a
    own_between m a b c ab bc same =
        let up : length (made_by by m b) ≡ length (made_by by m a) + length (made_by by m ab.rest) = ap (λ l. length (made_by by m l)) ab.whole ∙ (ap length (made_append m a ab.rest) ∙ length-append (made_by by m a) (made_by by m ab.rest)) in
        let over : length (made_by by m c) ≡ length (made_by by m b) + length (made_by by m bc.rest) = ap (λ l. length (made_by by m l)) bc.whole ∙ (ap length (made_append m b bc.rest) ∙ length-append (made_by by m b) (made_by by m bc.rest)) in
        let alike = ap length same in
        ap (made_by by m) ab.whole ∙ (made_append m a ab.rest ∙ (ap (λ l. made_by by m a ++ l) (nothing_more (made_by by m ab.rest) (omega (arith, up, over, alike))) ∙ append-nil (made_by by m a)))
