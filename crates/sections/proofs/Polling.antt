-- What a poll knows of its cookie, which was given in a domain or is the completed one, and what the step on the number tells.
use Rattle.std.proofs.Common.{◌≡◌, ℕ, ⊎_elim, Bool, Option, None, Some, sym, ap, ◌∙◌, subst, arith}
use Rattle.atomic_table.specs.Seated.{TableId}
use Rattle.sseq.specs.Numbers.{done_at}
use Rattle.onedom.specs.declared.event.Maker.TheVariants.{Processor}
use Rattle.onedom.specs.declared.event.Event.TheVariants.{Ask}
use Rattle.sections.specs.Glossary.{Adds, FindsNumber, DomainSeat, AsksNumber, cookie_with, IsGiven, IsCookieAt, CookieView, IsKnownIn, completed_cookie}
use Rattle.sections.specs.declared.view.Role.TheVariants.{Cpu}

-- a cookie with a seat was given, and where one may ask after it is where it was given
pub given_by : {number : ℕ} {o : Option DomainSeat} (s : DomainSeat) → o ≡ Some s → IsCookieAt number o → IsGiven number s
given_by {number} s is i = subst (λ (z : Option DomainSeat). IsCookieAt number z) is i

pub given_as : {number : ℕ} {o : Option DomainSeat} (s : DomainSeat) (k : CookieView) → cookie_with number o ≡ k → o ≡ Some s → cookie_with number (Some s) ≡ k
given_as {number} s k view is = ap (cookie_with number) (sym is) ∙ view

pub given_there : {number : ℕ} {o : Option DomainSeat} (s : DomainSeat) (k : CookieView) (domain : TableId) → cookie_with number o ≡ k → o ≡ Some s → IsCookieAt number o → IsKnownIn domain k → s.table_id ≡ domain
given_there {number} s k domain view is i known =
    let given : cookie_with number (Some s) ≡ k = given_as s k view is in
    let whole = (given_by s is i).whole in
    ⊎_elim (λ one. absurd (let n : number ≡ 1 = ap (λ (z : CookieView). z.number) given ∙ one in omega (arith, whole, n))) (λ there. ap (λ (z : CookieView). z.domain) given ∙ there) known

-- one without is the completed one
pub given_by_none : {number : ℕ} {o : Option DomainSeat} (k : CookieView) → cookie_with number o ≡ k → o ≡ None → IsCookieAt number o → completed_cookie ≡ k
given_by_none {number} k view is i = ap (λ (n : ℕ). cookie_with n None) (sym (subst (λ (z : Option DomainSeat). IsCookieAt number z) is i)) ∙ (ap (cookie_with number) (sym is) ∙ view)

-- the number was loaded for a cookie
pub asks_number : (cookie asked n : ℕ) (seat seat' : DomainSeat) (answer : Bool) → cookie ≡ asked → seat'.table_id ≡ seat.table_id → seat'.me.1 ≡ seat.me.1 → seat'.me.0.right ≡ seat.me.0.right → FindsNumber n seat'.me.0
    → ((p : ℕ) → seat.me.0.role ≡ Cpu p → Adds seat.me.0 (Ask asked (done_at n asked) (Processor p)) seat'.me.0) → answer ≡ done_at n cookie → AsksNumber cookie seat answer seat'
asks_number cookie asked n seat seat' answer same table bare right finds adds is = record {
  number = n;
  same_table = table;
  bare = bare;
  right = right;
  finds = finds;
  answer_is = is;
  adds = λ p role. subst (λ (b : Bool). Adds seat.me.0 (Ask cookie b (Processor p)) seat'.me.0) (sym is) (subst (λ (k : ℕ). Adds seat.me.0 (Ask k (done_at n k) (Processor p)) seat'.me.0) (sym same) (adds p role));
}
