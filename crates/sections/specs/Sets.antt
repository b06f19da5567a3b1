-- Several cookies at once, each of some domain.
use Rattle.std.specs.Prelude.{◌≡◌, ℕ, ◌<◌, Bool, true, IsTrue, List, length, map, [], ◌∷◌, ◌++◌, Option, None, Some, MatchOption, if◌then◌else◌, eqb, slice_index_or, slice_set}
use Rattle.std.specs.Option.{is_some}
use Rattle.atomic_table.specs.Seated.{TableId}
use Rattle.onedom.specs.declared.event.Maker.{Maker}
use Rattle.onedom.specs.declared.event.Event.{Event}
use Rattle.onedom.specs.declared.event.Event.TheVariants.{Ask}
use Rattle.onedom.specs.Histories.{IsLegal, IsBeginning}
use Rattle.sections.specs.Views.{CpuView, CookieView, completed_cookie, IsKnownIn}
use Rattle.sections.specs.Sights.{SightView, sight_of}
use Rattle.sections.specs.Calls.{Asks, AllClosed, Hears}

-- a cookie in a set, and how far the processor had then seen that found it done, if one did
pub record MemberView : Type 0 where
  pub cookie : CookieView
  pub found : Option SightView

-- a cookie that nobody has found done yet
abbrev pub unfound : CookieView → MemberView
unfound k = record { cookie = k; found = None }

-- the cookies of a set
abbrev pub cookies_of : List MemberView → List CookieView
cookies_of members = map (λ m. m.cookie) members

-- in this domain one may ask after the cookie at this place
abbrev pub IsPlacedIn : TableId → ℕ → List CookieView → Type 0
IsPlacedIn domain i cookies = (i < length cookies) × IsKnownIn domain (slice_index_or cookies i completed_cookie)

-- the member at this place. Behind the last one there is none, and this says the completed cookie
abbrev pub member_at : ℕ → List MemberView → MemberView
member_at i members = slice_index_or members i (unfound completed_cookie)

-- in the cookie's own domain, behind all that was seen when it was given, somebody asked after its number, and was told that it is done: that was the last thing in what he had then seen. No section is open there that was open when the cookie was given
pub record IsFoundDone (k : CookieView) (s : SightView) : Type 0 where
  pub here : IsKnownIn s.domain k
  pub before : List Event
  pub by : Maker
  pub covers : IsBeginning k.seen before
  pub asked : s.seen ≡ before ++ Ask k.number true by ∷ []
  pub legal : IsLegal s.seen
  pub closed : AllClosed k.seen s.seen

-- what is always true of a member
abbrev pub IsMember : MemberView → Type 0
IsMember m = MatchOption m.found (Unit {0}) (λ s. IsFoundDone m.cookie s)

-- the member was found done
pub record IsDoneThere (m : MemberView) : Type 0 where
  pub sight : SightView
  pub found : m.found ≡ Some sight
  pub done : IsFoundDone m.cookie sight

-- whether somebody found the member done
abbrev pub is_found : MemberView → Bool
is_found m = is_some m.found

-- what a member brings to a processor: how far it was seen where it was found done. The completed cookie brings nothing
abbrev pub brought_by : MemberView → Option SightView
brought_by m = if eqb m.cookie.number 1 then None else m.found

-- one load of the index word, after which the processor has seen what the member brings; where that is nothing, nothing is done. If the member was found done, no section is open now that was open when its cookie was given
pub record CatchesUp (m : MemberView) (c c' : CpuView) : Type 0 where
  pub hears : MatchOption (brought_by m) (c' ≡ c) (λ s. Hears c s.seen s.changes c')
  pub closed : IsTrue (is_found m) → AllClosed m.cookie.seen c'.seen

-- after this answer of a poll the member was found done, or stays as it is
abbrev pub polled : Bool → MemberView → CpuView → MemberView
polled done m c = if done then (record m { found = Some (sight_of c) }) else m

-- one poll of the member's cookie. Where the member was found done before, nothing is done
abbrev pub PollsOne : Bool → MemberView → CpuView → MemberView → CpuView → Type 0
PollsOne done m c m' c' = MatchOption m.found (Asks m.cookie.seen m.cookie.changes m.cookie.number done c c' × (m' ≡ polled done m c')) (λ _. (done ≡ true) × (m' ≡ m) × (c' ≡ c))

-- the same of the member at this place, and each other one stays as it is. So do all cookies
pub record PollsMember (i : ℕ) (done : Bool) (members : List MemberView) (c : CpuView) (members' : List MemberView) (c' : CpuView) : Type 0 where
  pub polls : PollsOne done (member_at i members) c (member_at i members') c'
  pub others : members' ≡ slice_set members i (member_at i members')
  pub cookies : cookies_of members' ≡ cookies_of members
