-- How the words of a line are read, one by one.
use Rattle.std.specs.Prelude.{◌≡◌, ℕ, ◌<◌, pos, not, ◌&&◌, ◌||◌, Bool, true, false, List, [], ◌∷◌, Some, None, Result, MatchResult, All, unwrap_or}
use Rattle.std.specs.List.{list_all}
use Rattle.lines.specs.Lines.{number_of}
use Rattle.requests.specs.declared.fault.Fault.{Fault}
use Rattle.requests.specs.declared.command.Argument.{Argument}
use Rattle.requests.specs.declared.command.Argument.TheVariants.{NewDomain, AnyNumber, ADomain, AProcessor, NewName, ALook, AReading, AHeld, ATicket, AJob, ALease, AnId, APriority, AKey, APlug, NewSet, ASet}
use Rattle.requests.specs.declared.given.Given.{Given}
use Rattle.requests.specs.declared.scene.Kind.TheVariants as kind
use Rattle.requests.specs.Scenes.{SceneView, IsPlace, IsSetPlace}
use Rattle.requests.specs.Faults.{argument_fault}
use Rattle.requests.specs.Requests.{IsMemberIn}
use Rattle.requests.specs.Numbers.{id_of, priority_of, word32_of}

-- what is given with one word more, which is this argument
abbrev pub filled : SceneView → Given → Argument → List ℕ → Given
filled s g NewDomain w = record g { name = w }
filled s g AnyNumber w = record g { number = unwrap_or (number_of w) 0 }
filled s g ADomain w = record g { domain = unwrap_or (s.place_of w) g.domain }
filled s g AProcessor w = record g { processor = unwrap_or (number_of w) 0 }
filled s g NewName w = record g { name = w }
filled s g ALook w = record g { name = w }
filled s g AReading w = record g { name = w }
filled s g AHeld w = record g { name = w }
filled s g ATicket w = record g { name = w }
filled s g AJob w = record g { name = w }
filled s g ALease w = record g { name = w }
filled s g AnId w = record g { id = unwrap_or (id_of w) 0 }
filled s g APriority w = record g { priority = unwrap_or (priority_of w) (pos 0) }
filled s g AKey w = record g { key = unwrap_or (word32_of w) 0 }
filled s g APlug w = record g { plug = unwrap_or (word32_of w) 0 }
filled s g NewSet w = record g { name = w }
filled s g ASet w = record g { set = unwrap_or (s.set_of w) g.set }

-- the word is read as this argument, or has this fault
abbrev pub IsRead : SceneView → Given → Argument → List ℕ → Result Given Fault → Type 0
IsRead s g a w r = MatchResult r
    (λ g'. (argument_fault s g.domain a w ≡ None) × (g' ≡ filled s g a w))
    (λ f. argument_fault s g.domain a w ≡ Some f)

-- what is given is what the argument should be
abbrev pub Suits : SceneView → Given → Argument → Type 0
Suits s g NewDomain = s.place_of g.name ≡ None
Suits s g AnyNumber = Unit {0}
Suits s g ADomain = IsPlace s g.domain
Suits s g AProcessor = g.processor < s.processors_of g.domain
Suits s g NewName = s.kind_of g.domain g.name ≡ None
Suits s g ALook = s.kind_of g.domain g.name ≡ Some kind.Look
Suits s g AReading = s.kind_of g.domain g.name ≡ Some kind.Reading
Suits s g AHeld = s.kind_of g.domain g.name ≡ Some kind.Held
Suits s g ATicket = s.kind_of g.domain g.name ≡ Some kind.Ticket
Suits s g AJob = Unit {0}
Suits s g ALease = s.kind_of g.domain g.name ≡ Some kind.Lease
Suits s g AnId = g.id < 16
Suits s g APriority = Unit {0}
Suits s g AKey = Unit {0}
Suits s g APlug = Unit {0}
Suits s g NewSet = s.set_of g.name ≡ None
Suits s g ASet = IsSetPlace s g.set

abbrev pub AllSuit : SceneView → Given → List Argument → Type 0
AllSuit s g [] = Unit {0}
AllSuit s g (a ∷ rest) = Suits s g a × AllSuit s g rest

-- what is given is what the words behind a command's arguments should be
abbrev pub BehindSuits : SceneView → Bool → Given → Type 0
BehindSuits s true g = All (IsMemberIn s) g.members
BehindSuits s false g = Unit {0}

-- the argument is one of a domain, which a word before it has named
abbrev pub needs_domain : Argument → Bool
needs_domain NewDomain = false
needs_domain AnyNumber = false
needs_domain ADomain = false
needs_domain AProcessor = true
needs_domain NewName = true
needs_domain ALook = true
needs_domain AReading = true
needs_domain AHeld = true
needs_domain ATicket = true
needs_domain AJob = false
needs_domain ALease = true
needs_domain AnId = false
needs_domain APriority = false
needs_domain AKey = false
needs_domain APlug = false
needs_domain NewSet = false
needs_domain ASet = false

-- the fields of what is given that an argument fills
pub data Field : Type 0 where
  Domain : Field
  Processor : Field
  Name : Field
  Number : Field
  Id : Field
  Priority : Field
  Key : Field
  Plug : Field
  Set : Field

abbrev pub same_field : Field → Field → Bool
same_field Domain Domain = true
same_field Processor Processor = true
same_field Name Name = true
same_field Number Number = true
same_field Id Id = true
same_field Priority Priority = true
same_field Key Key = true
same_field Plug Plug = true
same_field Set Set = true
same_field _ _ = false

-- the field that an argument fills
abbrev pub field_of : Argument → Field
field_of NewDomain = Name
field_of AnyNumber = Number
field_of ADomain = Domain
field_of AProcessor = Processor
field_of NewName = Name
field_of ALook = Name
field_of AReading = Name
field_of AHeld = Name
field_of ATicket = Name
field_of AJob = Name
field_of ALease = Name
field_of AnId = Id
field_of APriority = Priority
field_of AKey = Key
field_of APlug = Plug
field_of NewSet = Name
field_of ASet = Set

abbrev pub names_domain : Argument → Bool
names_domain a = same_field (field_of a) Domain

-- the second argument may stand behind the first: it fills another field, and names no domain
abbrev pub may_follow : Argument → Argument → Bool
may_follow a b = not (same_field (field_of a) (field_of b)) && not (names_domain b)

abbrev pub names_domain_first : List Argument → Bool
names_domain_first [] = true
names_domain_first (a ∷ rest) = names_domain a || (not (needs_domain a) && names_domain_first rest)

abbrev pub fill_apart : List Argument → Bool
fill_apart [] = true
fill_apart (a ∷ rest) = list_all (may_follow a) rest && fill_apart rest

-- arguments as a row has them: a domain is named before an argument of it, and each argument fills a field of its own
pub record AreOfARow (taken : List Argument) : Type 0 where
  pub first : names_domain_first taken ≡ true
  pub apart : fill_apart taken ≡ true
