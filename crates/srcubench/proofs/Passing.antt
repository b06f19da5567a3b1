-- Entries that all have one mark.
use Rattle.std.proofs.Common.{◌≡◌, ℕ, ◌+◌, ◌-◌, ◌≤◌, List, [], ◌∷◌, ◌++◌, length, min, refl, sym, ap, ◌∙◌, length-append, arith}
use Rattle.segs.specs.MarkedList.{Mark, Done, At, Next, marked, assigned, advanced, count_done}
use Rattle.segs.proofs.CallerLemmas.{marked_push, assigned_next, assigned_last, advanced_at, count_done_marked, done_left}
use Rattle.srcubench.specs.Lists.{AreMarked}

pub none_marked : (mark : Mark) (list : List (ℕ × Mark)) → list ≡ [] → AreMarked mark 0 list
none_marked mark list empty = ([], refl, empty)

one_longer : (xs : List ℕ) (x n : ℕ) → length xs ≡ n → length (xs ++ x ∷ []) ≡ n + 1
one_longer xs x n e = length-append xs (x ∷ []) ∙ omega (arith, e)

-- one more is next
pub one_pushed : (n x : ℕ) (list after : List (ℕ × Mark)) → after ≡ list ++ (x, Next) ∷ [] → AreMarked Next n list → AreMarked Next (n + 1) after
one_pushed n x list after h m = (m.0 ++ x ∷ [], one_longer m.0 x n m.1, h ∙ (ap (λ l. l ++ (x, Next) ∷ []) m.2 ∙ marked_push Next m.0 x))

-- one more was next, and got the number
pub one_assigned : (s n x : ℕ) (list pushed after : List (ℕ × Mark)) → pushed ≡ list ++ (x, Next) ∷ [] → after ≡ assigned s pushed → AreMarked (At s) n list → AreMarked (At s) (n + 1) after
one_assigned s n x list pushed after h g m = (m.0 ++ x ∷ [], one_longer m.0 x n m.1, g ∙ (ap (λ l. assigned s l) (h ∙ ap (λ l. l ++ (x, Next) ∷ []) m.2) ∙ assigned_last s m.0 x))

-- all of them got the number
pub all_assigned : (s n : ℕ) (list after : List (ℕ × Mark)) → after ≡ assigned s list → AreMarked Next n list → AreMarked (At s) n after
all_assigned s n list after h m = (m.0, m.1, h ∙ (ap (λ l. assigned s l) m.2 ∙ assigned_next s m.0))

-- and were done
pub all_advanced : (s n : ℕ) (list after : List (ℕ × Mark)) → after ≡ advanced s list → AreMarked (At s) n list → AreMarked Done n after
all_advanced s n list after h m = (m.0, m.1, h ∙ (ap (λ l. advanced s l) m.2 ∙ advanced_at s m.0))

-- eight of them leave, where so many are there
pub eight_taken : (n : ℕ) (list after : List (ℕ × Mark)) (taken : List ℕ) → list ≡ marked Done taken ++ after → length taken ≡ min (min 8 8) (count_done list) → 8 ≤ n → AreMarked Done n list → (length taken ≡ 8) × AreMarked Done (n - 8) after
eight_taken n list after taken h many enough m =
    let there : count_done list ≡ n = ap count_done m.2 ∙ (count_done_marked m.0 ∙ m.1) in
    let eight : length taken ≡ 8 = omega (arith, many, there, enough) in
    let left = done_left m.0 taken after (sym m.2 ∙ h) in
    let long = left.2 in
    let all = m.1 in
    (eight, (left.0, omega (arith, long, all, eight), left.1))

-- none of none is there
pub none_left : (mark : Mark) (n : ℕ) (list : List (ℕ × Mark)) → n ≡ 0 → AreMarked mark n list → list ≡ []
none_left mark n list none ([], long, all) = all
none_left mark n list none (x ∷ xs, long, all) = absurd (omega (arith, long, none))
