-- Whether another seat had the engine since a turn.
use Rattle.std.proofs.Common.{◌≡◌, ◌≢◌, ℕ, ◌⊎◌, inl, inr, List, [], ◌∷◌, ◌++◌, length, Option, Some, None, refl, sym, ap, ◌∙◌, subst, append_assoc, append-nil, length-append, arith}
use Rattle.desk.specs.Swaps.{Swap, lies_after, swaps_of, IsBeginning}
use Rattle.desk.specs.BayViews.{BaySeatView}
use Rattle.desk.specs.BayCalls.{lies, MakesSwap}
use Rattle.desk.specs.Holding.{MayFollow, IsLegalAfter, IsLegal}
use Rattle.desk.proofs.CallerLemmas.{makes_lie, swaps_of_own, own_between}
use Rattle.scan.specs.Stations.{TakesTurn, FindsBusy}
use Rattle.domain.specs.Views.{Engine}
use Rattle.domain.proofs.CallerLemmas.{swaps_beginning_trans}
use Rattle.laws.specs.Driving.{HadCompany}

-- where a turn ended, what it left lies
pub left_there : (t t' : BaySeatView Engine) (found left : Engine) → TakesTurn t found left t' → lies t' ≡ Some left
left_there t t' found left turn = makes_lie turn.took (Some left) None t' turn.puts

swapped : (t : BaySeatView Engine) (left found : Option Engine) (t' : BaySeatView Engine) → MakesSwap t left found t' → IsBeginning t.seen t'.seen
swapped t left found t' swap = swaps_beginning_trans t.seen swap.before t'.seen swap.since record { rest = record { by = t.number; left = left; found = found } ∷ []; whole = swap.seen }

-- of legal swaps each may follow those before it
legal_at : (seats : ℕ) (first : Option Engine) (before swaps more : List (Swap Engine)) (s : Swap Engine) → IsLegalAfter seats first before (swaps ++ s ∷ more) → MayFollow seats first (before ++ swaps) s
legal_at seats first before [] more s h = subst (λ b. MayFollow seats first b s) (sym (append-nil before)) h.0
legal_at seats first before (x ∷ xs) more s h = subst (λ b. MayFollow seats first b s) (append_assoc before (x ∷ []) xs) (legal_at seats first (before ++ x ∷ []) xs more s h.1)

-- the seat's own next swap finds what lies there, or another seat made one before it
module _ (t : BaySeatView Engine) (left found : Option Engine) (t' : BaySeatView Engine) (swap : MakesSwap t left found t') where
  own_one : (s : Swap Engine) (more : List (Swap Engine)) → swap.before ≡ t.seen ++ s ∷ more → s.by ≢ t.number
  own_one s more e is =
      let up : IsBeginning t.seen (t.seen ++ s ∷ []) = record { rest = s ∷ []; whole = refl } in
      let on : IsBeginning (t.seen ++ s ∷ []) swap.before = record { rest = more; whole = e ∙ sym (append_assoc t.seen (s ∷ []) more) } in
      let none = ap length (own_between t.number t.seen (t.seen ++ s ∷ []) swap.before up on swap.own) in
      let one = ap length (swaps_of_own t.number t.seen s is) in
      let long = length-append (swaps_of t.number t.seen) (s ∷ []) in
      omega (arith, none, one, long)

  by_rest : (rest : List (Swap Engine)) → swap.before ≡ t.seen ++ rest → (found ≡ lies t) ⊎ HadCompany t t'
  by_rest [] e = inl (swap.finds ∙ ap (lies_after t.first) (e ∙ append-nil t.seen))
  by_rest (s ∷ more) e =
      let last : List (Swap Engine) = record { by = t.number; left = left; found = found } ∷ [] in
      let whole : t'.seen ≡ t.seen ++ s ∷ (more ++ last) = swap.seen ∙ (ap (λ l. l ++ last) e ∙ append_assoc t.seen (s ∷ more) last) in
      inr record {
        swap = s;
        other = own_one s more e;
        found = (legal_at t'.seats t'.first [] t.seen (more ++ last) s (subst (IsLegal t'.seats t'.first) whole swap.history.legal)).finds ∙ ap (λ (z : BaySeatView Engine). lies_after z.first t.seen) swap.same;
        upto = record { rest = more ++ last; whole = whole ∙ sym (append_assoc t.seen (s ∷ []) (more ++ last)) };
      }

  pub next_swap : (found ≡ lies t) ⊎ HadCompany t t'
  next_swap = by_rest swap.since.rest swap.since.whole

company_on : (t u w : BaySeatView Engine) → HadCompany t u → IsBeginning u.seen w.seen → HadCompany t w
company_on t u w h on = record { swap = h.swap; other = h.other; found = h.found; upto = swaps_beginning_trans (t.seen ++ h.swap ∷ []) u.seen w.seen h.upto on }

same_value : (x y : Engine) → Some x ≡ Some y → x ≡ y
same_value x y e = cc

-- a turn finds what the one before it left, or there was company
pub next_turn : (t t' : BaySeatView Engine) (left found later : Engine) → lies t ≡ Some left → TakesTurn t found later t' → (found ≡ left) ⊎ HadCompany t t'
next_turn t t' left found later there turn = by_first (next_swap t None (Some found) turn.took turn.takes)
  where
    by_first : (Some found ≡ lies t) ⊎ HadCompany t turn.took → (found ≡ left) ⊎ HadCompany t t'
    by_first (inl e) = inl (same_value found left (e ∙ there))
    by_first (inr h) = inr (company_on t turn.took t' h (swapped turn.took (Some later) None t' turn.puts))

-- and who finds the place empty has company
pub busy_is_company : (t t' : BaySeatView Engine) (left : Engine) → lies t ≡ Some left → FindsBusy t t' → HadCompany t t'
busy_is_company t t' left there busy = by_first (next_swap t None None t' busy.swap)
  where
    differ : None ≡ Some left → ⊥
    differ e = cc

    by_first : (None ≡ lies t) ⊎ HadCompany t t' → HadCompany t t'
    by_first (inl e) = absurd (differ (e ∙ there))
    by_first (inr h) = h
