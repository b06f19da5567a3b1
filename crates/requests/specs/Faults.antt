-- What can be wrong with a line.
use Rattle.std.specs.Prelude.{ℕ, ◌==◌, nat_lt, not, ◌&&◌, Bool, true, false, List, [], ◌∷◌, length, map, Option, Some, None, is_some, unwrap_or, codes, if◌then◌else◌}
use Rattle.std.specs.Borrow.{Bor}
use Rattle.lines.specs.Lines.{is_name, number_of}
use Rattle.requests.specs.declared.fault.Fault.{Fault}
use Rattle.requests.specs.declared.fault.Fault.TheVariants as fault
use Rattle.requests.specs.declared.command.Command.{Command}
use Rattle.requests.specs.declared.command.Argument.{Argument}
use Rattle.requests.specs.declared.command.Argument.TheVariants.{NewDomain, AnyNumber, ADomain, AProcessor, NewName, ALook, AReading, AHeld, ATicket, AJob, ALease, AnId, APriority, AKey, APlug, NewSet, ASet}
use Rattle.requests.specs.declared.scene.Kind.{Kind}
use Rattle.requests.specs.declared.scene.Kind.TheVariants.{Look, Reading, Held, Parked, Ticket, Lease}
use Rattle.requests.specs.Commands.{command_of, arguments, takes_members, fits_members, arguments_in, behind_in}
use Rattle.requests.specs.Numbers.{id_of, priority_of, word32_of}
use Rattle.requests.specs.Pairs.{pairs_of}
use Rattle.requests.specs.Scenes.{SceneView}

abbrev pub fault_word : Fault → List ℕ
fault_word fault.Text = codes "text"
fault_word fault.Command = codes "command"
fault_word fault.Words = codes "words"
fault_word fault.Name = codes "name"
fault_word fault.Domain = codes "domain"
fault_word fault.Taken = codes "taken"
fault_word fault.Number = codes "number"
fault_word fault.Processor = codes "processor"
fault_word fault.Pair = codes "pair"

-- the bytes of words
abbrev pub texts : List (Bor (List ℕ)) → List (List ℕ)
texts words = map (λ w. w.now) words

-- a line without a word, or whose first word begins with `#`, gets no reply
abbrev pub begins_with_hash : List ℕ → Bool
begins_with_hash [] = false
begins_with_hash (x ∷ w) = x == 35

abbrev pub is_skipped : List (List ℕ) → Bool
is_skipped [] = true
is_skipped (w ∷ ws) = begins_with_hash w

-- One word

-- the fault of a word that should be a name, whether it is in use or not
abbrev pub name_fault : List ℕ → Option Fault
name_fault w = if is_name w then None else Some fault.Name

-- the fault of a word that should be a new name, and that is in use or not
abbrev pub new_name_fault : List ℕ → Bool → Option Fault
new_name_fault w in_use = if not (is_name w) then Some fault.Name else (if in_use then Some fault.Taken else None)

-- the fault of a word that should name a domain, the one at this place
abbrev pub domain_fault : List ℕ → Option ℕ → Option Fault
domain_fault w place = if not (is_name w) then Some fault.Name else (if is_some place then None else Some fault.Domain)

-- the fault of a word that should be the number that is found in it, if any
abbrev pub number_fault : {N : Type 0} → Option N → Option Fault
number_fault None = Some fault.Number
number_fault (Some n) = None

-- the fault of a word that should be the number of one of so many processors
abbrev pub processor_fault : ℕ → Option ℕ → Option Fault
processor_fault processors None = Some fault.Number
processor_fault processors (Some p) = if nat_lt p processors then None else Some fault.Processor

abbrev pub same_kind : Kind → Kind → Bool
same_kind Look Look = true
same_kind Reading Reading = true
same_kind Held Held = true
same_kind Parked Parked = true
same_kind Ticket Ticket = true
same_kind Lease Lease = true
same_kind _ _ = false

abbrev pub has_kind : Kind → Option Kind → Bool
has_kind kind None = false
has_kind kind (Some other) = same_kind kind other

-- the fault of a word that should be the name of a thing of this kind, and is the name of this, if of anything
abbrev pub kind_fault : Kind → List ℕ → Option Kind → Option Fault
kind_fault kind w found = if is_name w && has_kind kind found then None else Some fault.Name

-- the fault of a word that should name a set, the one at this place
abbrev pub set_fault : List ℕ → Option ℕ → Option Fault
set_fault w place = if is_name w && is_some place then None else Some fault.Name

-- what is wrong with the word that should be this argument, where the words before it have named the domain at this place
unfoldable pub argument_fault : SceneView → ℕ → Argument → List ℕ → Option Fault
argument_fault s place NewDomain w = new_name_fault w (is_some (s.place_of w))
argument_fault s place AnyNumber w = number_fault (number_of w)
argument_fault s place ADomain w = domain_fault w (s.place_of w)
argument_fault s place AProcessor w = processor_fault (s.processors_of place) (number_of w)
argument_fault s place NewName w = new_name_fault w (is_some (s.kind_of place w))
argument_fault s place ALook w = kind_fault Look w (s.kind_of place w)
argument_fault s place AReading w = kind_fault Reading w (s.kind_of place w)
argument_fault s place AHeld w = kind_fault Held w (s.kind_of place w)
argument_fault s place ATicket w = kind_fault Ticket w (s.kind_of place w)
argument_fault s place AJob w = name_fault w
argument_fault s place ALease w = kind_fault Lease w (s.kind_of place w)
argument_fault s place AnId w = number_fault (id_of w)
argument_fault s place APriority w = number_fault (priority_of w)
argument_fault s place AKey w = number_fault (word32_of w)
argument_fault s place APlug w = number_fault (word32_of w)
argument_fault s place NewSet w = new_name_fault w (is_some (s.set_of w))
argument_fault s place ASet w = set_fault w (s.set_of w)

-- The words of a line

-- the place of the domain that the words up to this one have named
unfoldable pub place_after : SceneView → ℕ → Argument → List ℕ → ℕ
place_after s place ADomain w = unwrap_or (s.place_of w) place
place_after s place _ w = place

abbrev pub or_else : Option Fault → Option Fault → Option Fault
or_else None second = second
or_else (Some f) second = Some f

-- the first fault of the arguments, from left to right
abbrev pub arguments_fault : SceneView → ℕ → List Argument → List (List ℕ) → Option Fault
arguments_fault s place [] ws = None
arguments_fault s place (a ∷ rest) [] = None
arguments_fault s place (a ∷ rest) (w ∷ ws) = or_else (argument_fault s place a w) (arguments_fault s (place_after s place a w) rest ws)

-- the fault of words that should be these arguments: their number, or the first fault of one. No argument of a domain stands before the word that names the domain, so the place at first is of no matter
abbrev pub words_fault : SceneView → List Argument → List (List ℕ) → Option Fault
words_fault s taken ws = if length ws == length taken then arguments_fault s 0 taken ws else Some fault.Words

-- the fault of words that should be pairs
abbrev pub pairs_fault : List (List ℕ) → Option Fault
pairs_fault ws = if is_some (pairs_of ws) then None else Some fault.Pair

-- a member is a domain and one of its processors
abbrev pub member_arguments : List Argument
member_arguments = ADomain ∷ AProcessor ∷ []

-- the first fault of words that should be members, two words each
unfoldable pub members_fault : SceneView → List (List ℕ) → Option Fault
members_fault s [] = None
members_fault s (d ∷ []) = Some fault.Words
members_fault s (d ∷ p ∷ ws) = or_else (words_fault s member_arguments (d ∷ p ∷ [])) (members_fault s ws)

-- the fault of words behind a command's arguments, which should be members, or else pairs
abbrev pub behind_fault : SceneView → Bool → List (List ℕ) → Option Fault
behind_fault s true ws = members_fault s ws
behind_fault s false ws = pairs_fault ws

-- the fault of words that are the arguments of a command and its members: another number of words than such a command's
abbrev pub count_fault : Bool → Option Fault
count_fault fits = if fits then None else Some fault.Words

abbrev pub command_fault : SceneView → Option Command → List (List ℕ) → Option Fault
command_fault s None ws = Some fault.Command
command_fault s (Some c) ws = or_else (count_fault (fits_members c (length ws))) (or_else (words_fault s (arguments c) (arguments_in c ws)) (behind_fault s (takes_members c) (behind_in c ws)))

-- what is wrong with the words of a line: the first of a fault of the command, of the number of words, of each argument, and of the pairs or members
unfoldable pub fault_of : SceneView → List (List ℕ) → Option Fault
fault_of s [] = None
fault_of s (w ∷ ws) = command_fault s (command_of w) ws
