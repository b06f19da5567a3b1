-- Members of a set of cookies.
use Rattle.std.proofs.Common.{◌≡◌, ℕ, ◌<◌, true, List, length, get_or, IsTrue, sym, ap, ◌∙◌, arith}
use Rattle.std.specs.List.{list_all}
use Rattle.std.proofs.lemmas.List.{length-map, get_or-map}
use Rattle.std.proofs.lemmas.List.Sums.{AllPass-from_list_all}
use Rattle.sections.specs.Views.{CookieView, completed_cookie}
use Rattle.sections.specs.Sets.{MemberView, unfound, cookies_of, member_at, is_found}

-- there are as many members as cookies
pub within : (i : ℕ) (members : List MemberView) → i < length (cookies_of members) → i < length members
within i members lt = let long = length-map members (λ (m : MemberView). m.cookie) in omega (arith, lt, long)

-- where the cookies are the same, that of each member is
pub same_cookie : (i : ℕ) (members others : List MemberView) → cookies_of members ≡ cookies_of others → i < length (cookies_of others) → (member_at i members).cookie ≡ (member_at i others).cookie
same_cookie i members others same lt =
    let as_many : length (cookies_of members) ≡ length (cookies_of others) = ap length same in
    let cookie : MemberView → CookieView = λ m. m.cookie in
    sym (get_or-map cookie members i (unfound completed_cookie) completed_cookie (within i members (omega (arith, lt, as_many))))
    ∙ (ap (λ (l : List CookieView). get_or l i completed_cookie) same ∙ get_or-map cookie others i (unfound completed_cookie) completed_cookie (within i others lt))

-- where all were found done, each was
pub found_at : (i : ℕ) (members : List MemberView) → true ≡ list_all is_found members → i < length members → IsTrue (is_found (member_at i members))
found_at i members all lt = AllPass-from_list_all is_found members (sym all) i (unfound completed_cookie) lt
