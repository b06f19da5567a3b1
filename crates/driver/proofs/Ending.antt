-- What was finished, started and covered stays so, for one who sees more.
use Rattle.std.proofs.Common.{◌≡◌, ℕ, ◌∷◌, ◌++◌, List, [], Option, Some, None, refl, IsSome, ap, sym, ◌∙◌, subst, arith}
use Rattle.std.proofs.lemmas.Bool.{false≢true}
use Rattle.trail.specs.Views.{SightView}
use Rattle.trail.specs.Calls.{IsEarlier, Follows}
use Rattle.calls.specs.declared.view.Deed.{Deed}
use Rattle.calls.specs.Glossary.{IsBeginning, TicketView, IsSameSeat, CoversAll}
use Rattle.calls.proofs.CallerLemmas.{begins_on, queued_later, finished_later}
use Rattle.domain.specs.Views.{CpuView}
use Rattle.driver.specs.Glossary.{HasStarted, StopView, Word, Stays, WasGiven, IsDoneBy}

module _ {J : Type 0} where
  pub done_later : (word : Word) (seen later : List (Deed J)) → IsBeginning seen later → IsDoneBy word seen → IsDoneBy word later
  done_later None seen later b h = absurd h
  done_later (Some None) seen later b h = tt
  done_later (Some (Some t)) seen later b h = (
    (λ p. let done = h.0 p in let more = finished_later p b in omega (arith, done, more)),
    (λ r covered. let done = h.1 r covered in let more = finished_later r.processor b in omega (arith, done, more)),
  )

  pub covers_earlier : (t : TicketView) (processors : ℕ) (seen later : List (Deed J)) → IsBeginning seen later → CoversAll t processors later → CoversAll t processors seen
  covers_earlier t processors seen later b h = λ r lt queued. let more = queued_later r.processor b in h r lt (omega (arith, queued, more))

  pub started_later : (c x y : CpuView J) (t : TicketView) → HasStarted c t x → IsBeginning x.calls.seen y.calls.seen → HasStarted c t y
  started_later c x y t h b = record { told = h.told; noted = h.noted; seat = h.seat; since = h.since; starts = h.starts; until = begins_on h.until b }

  pub started_earlier : (b c x : CpuView J) (t : TicketView) → IsSameSeat b.calls c.calls → IsBeginning b.calls.seen c.calls.seen → HasStarted c t x → HasStarted b t x
  started_earlier b c x t same s h = record { told = h.told; noted = h.noted; seat = (h.seat.0 ∙ same.0, h.seat.1 ∙ same.1, h.seat.2 ∙ same.2, h.seat.3 ∙ same.3); since = begins_on s h.since; starts = h.starts; until = h.until }

-- A sign that was given says the same ever after

first_of : Word → List Word → Word
first_of d [] = d
first_of d (w ∷ ws) = w

rest_of : List Word → List Word
rest_of [] = []
rest_of (w ∷ ws) = ws

apart : (l ws : List Word) (w : Word) → l ≡ [] → l ≡ w ∷ ws → ⊥
apart l ws w a b = cc

never : (ws earlier : List Word) (w : Word) → [] ≡ ws ++ (w ∷ earlier) → ⊥
never [] earlier w e = apart [] earlier w refl e
never (v ∷ ws) earlier w e = apart [] (ws ++ (w ∷ earlier)) v refl e

stays_from : (by : Option TicketView) (e newest : Word) → e ≡ Some by → Stays e newest → newest ≡ Some by
stays_from by e newest is stays = subst (λ w. Stays w newest) is stays

stays_so : (by : Option TicketView) (newest : Word) (before since earlier : List Word) → Follows Stays newest before → newest ∷ before ≡ since ++ (Some by ∷ earlier) → newest ≡ Some by
unfolding first_of rest_of
stays_so by newest before [] earlier row is = ap (first_of newest) is
stays_so by newest [] (w ∷ ws) earlier row is = absurd (never ws earlier (Some by) (ap rest_of is))
stays_so by newest (e ∷ before) (w ∷ ws) earlier row is = stays_from by e newest (stays_so by e before ws earlier row.1 (ap rest_of is)) row.0

-- so two that were told by it were told the same
pub told_the_same : (by also : Option TicketView) (newest : Word) (before seen told other earlier past : List Word) → seen ≡ newest ∷ before → Follows Stays newest before → IsEarlier told seen → IsEarlier other seen → told ≡ Some by ∷ earlier → other ≡ Some also ∷ past → by ≡ also
told_the_same by also newest before seen told other earlier past is row a b says says_too =
    let first = stays_so by newest before a.0 earlier row (sym is ∙ (a.1 ∙ ap (λ l. a.0 ++ l) says)) in
    let second = stays_so also newest before b.0 past row (sym is ∙ (b.1 ∙ ap (λ l. b.0 ++ l) says_too)) in
    same_by by also newest first second
  where
    same_by : (x y : Option TicketView) (w : Word) → w ≡ Some x → w ≡ Some y → x ≡ y
    same_by x y w p q = cc

-- a sign that said something, and says the same as it is left, was given
pub was_given : (p : StopView) (word : Word) (told : SightView Word) (seen before : List Word) → IsSome word → told.lock ≡ p.stop → seen ≡ word ∷ before → told.seen ≡ word ∷ seen → WasGiven p told
was_given p None told seen before some stop found left = absurd (false≢true some)
was_given p (Some by) told seen before some stop found left = record { stop = stop; by = by; before = before; seen = left ∙ ap (λ l. Some by ∷ l) found }
