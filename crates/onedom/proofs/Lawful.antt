-- The laws of legal histories.
use Rattle.std.proofs.Common.{◌≡◌, List, [], ◌∷◌, ◌++◌, refl, sym, ap, subst, append_assoc, append-nil, arith}
use Rattle.onedom.specs.declared.event.Event.{Event}
use Rattle.onedom.specs.declared.event.Event.TheVariants.{End}
use Rattle.onedom.specs.Histories.{begins, ends, MayFollow, IsLegalAfter, IsLegal}
use Rattle.onedom.specs.Laws.{EachMayFollow, OneMore, BeginningsAreLegal, OpenHasOneBegin, OnlyOpenEnds, ClosedForGood, OpenAreListed}
use Rattle.onedom.proofs.Pushes.{count_append, legal_push, well_used}
use Rattle.onedom.proofs.Beginnings.{legal_beginning, beginning_append}
use Rattle.onedom.proofs.Opens.{open_once, open_there, times_open_once}
use Rattle.onedom.proofs.Refused.{legal_split}

-- each cut is legal
legal_by_cuts : (before history : List Event) → ((front : List Event) (e : Event) (after : List Event) → history ≡ front ++ e ∷ after → MayFollow (before ++ front) e) → IsLegalAfter before history
legal_by_cuts before [] cuts = tt
legal_by_cuts before (e ∷ es) cuts = (
  subst (λ (h : List Event). MayFollow h e) (append-nil before) (cuts [] e es refl),
  legal_by_cuts (before ++ e ∷ []) es (λ front x after h. subst (λ (l : List Event). MayFollow l x) (sym (append_assoc before (e ∷ []) front)) (cuts (e ∷ front) x after (ap (λ l. e ∷ l) h))),
)

pub each_may_follow : EachMayFollow
each_may_follow history = (
  (λ legal before e after h. legal_split before e after (subst IsLegal h legal)),
  (λ cuts. legal_by_cuts [] history cuts),
)

pub one_more : OneMore
one_more history e = (
  (λ legal. (legal_beginning (beginning_append history (e ∷ [])) legal, legal_split history e [] legal)),
  (λ parts. legal_push history e parts.0 parts.1),
)

pub beginnings_are_legal : BeginningsAreLegal
beginnings_are_legal seen history h legal = legal_beginning h legal

pub open_has_one_begin : OpenHasOneBegin
open_has_one_begin history s legal is_open = let w = (well_used s history legal).once in let some = is_open.0 in (omega (arith, w, some), is_open.1)

pub only_open_ends : OnlyOpenEnds
only_open_ends before s q by after legal = legal_split before (End s q by) after legal

pub closed_for_good : ClosedForGood
closed_for_good history rest s legal some =
    let w = well_used s (history ++ rest) legal in let once = w.once in let u = well_used s history (legal_beginning (beginning_append history rest) legal) in let before = u.ended_after in let now = w.ended_after in
    let b = count_append (begins s) history rest in let d = count_append (ends s) history rest in
    ((λ is_open. let none = is_open.1 in omega (arith, none, d, some)), omega (arith, once, before, b, some), omega (arith, once, now, before, b, d, some))

pub open_are_listed : OpenAreListed
open_are_listed history s legal = (
  ((λ some. open_there s history some), (λ is_open. let one = open_once s history legal is_open in omega (arith, one))),
  times_open_once s history legal,
)
