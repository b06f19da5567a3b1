-- The rule of a bay's table, over that of its log (`annals`): the swaps are legal, the word and the slot agree with them, and each seat knows the bay's terms.
use Rattle.std.specs.Prelude.{◌≡◌, ℕ, ◌<◌, false, List, [], ◌∷◌, Option, Some, None, IfSome}
use mathlib.Core.Option.{none, some}
use Rattle.atomic_table.specs.Seated.{TableId}
use Rattle.atomic_table.specs.Table.{State}
use Rattle.annals.specs.declared.view.Role.{Role}
use Rattle.annals.specs.declared.view.Role.TheVariants.{Nobody, Dealer, Sits}
use Rattle.annals.specs.declared.view.View as annals
use Rattle.annals.specs.Logs.Maker.{Head, Sitter}
use Rattle.annals.specs.Client.{Client}
use Rattle.annals.specs.Client as client
use Rattle.annals.specs.Rule as rule
use Rattle.desk.specs.declared.bay.view.Plan.{Plan}
use Rattle.desk.specs.declared.bay.view.Terms.{Terms}
use Rattle.desk.specs.Swaps.{Swap, lies_after}
use Rattle.desk.specs.Holding.{IsLegal}

-- what one seat knows
abbrev pub View : Type 0 → Type 0
View T = annals.View (Swap T) (Unit {0}) (Terms T)

-- whose swaps a seat of the table makes
abbrev pub StandsFor : Role → ℕ → Type 0
StandsFor role number = client.StandsFor role (Sitter number)

module _ {T : Type 0} where
  -- the word, and the slot, while this lies in the bay
  abbrev pub word_of : Option T → ℕ
  word_of None = 1
  word_of (Some x) = 0

  abbrev pub home_of : Option T → mathlib.Core.Option.Option (Option T)
  home_of None = none
  home_of (Some x) = some (Some x)

  -- what lies in the bay behind these swaps
  abbrev pub lies_now : Plan T → List (Swap T) → Option T
  lies_now plan swaps = lies_after (Some plan.first.value) swaps

  abbrev pub IsOf : Plan T → Terms T → Type 0
  IsOf plan c = (c.home ≡ plan.home) × (c.seats ≡ plan.seats) × (c.first ≡ Some plan.first.value)

  -- a seat that sits is one of so many
  abbrev pub Knows : Plan T → Role → Terms T → Type 0
  Knows plan Nobody c = Unit {0}
  Knows plan (Dealer k) c = IsOf plan c
  Knows plan (Sits n) c = IsOf plan c × (n < plan.seats)

  -- `domain` says of which domain a value is, and `like` which values are like another one
  pub record Agrees (domain : T → TableId) (like : T → T → Type 0) (plan : Plan T) (words : List ℕ) (homes : List (mathlib.Core.Option.Option (Option T))) (swaps : List (Swap T)) : Type 0 where
    pub words_are : words ≡ word_of (lies_now plan swaps) ∷ []
    pub homes_are : homes ≡ home_of (lies_now plan swaps) ∷ []
    pub legal : IsLegal plan.seats (Some plan.first.value) swaps
    pub first_of_domain : domain plan.first.value ≡ plan.home
    pub of_domain : IfSome (lies_now plan swaps) (λ x. domain x ≡ plan.home)
    pub first_alike : like plan.first.value plan.first.value
    pub alike : IfSome (lies_now plan swaps) (λ x. like plan.first.value x)

  abbrev pub first_terms : Plan T → Terms T
  first_terms plan = record { home = plan.home; seats = plan.seats; first = Some plan.first.value }

  abbrev pub no_terms : Terms T
  no_terms = record { home = record { words = 0; slots = 0; views_name = 0; atom = 0; block = 0; offset = 0; slot_names = [] }; seats = 0; first = None }

  abbrev pub bay_client : (T → TableId) → (T → T → Type 0) → Client (Plan T) (Option T) (Swap T) (Unit {0}) (Terms T)
  bay_client domain like = record {
    World = Unit {0};
    by = λ s. Sitter s.by;
    doer = λ _. Head;
    Right = ⊥;
    has = λ role c x. false;
    agrees = λ plan _ words homes swaps _. Agrees domain like plan words homes swaps;
    knows = λ plan _ role _ c. Knows plan role c;
    may_deal = λ plan k. k < plan.seats;
    first = first_terms;
    blank = no_terms;
    dealt = λ _ c. c;
    nobody = λ plan _ _. tt;
    bare = λ x. absurd x;
    fewer = λ plan _ _ c k h. h;
    next = λ plan _ _ c k lt h. (h, lt);
    fewer_rights = λ c k x h. absurd x;
    next_rights = λ c k x h. absurd x;
  }

  abbrev pub Kept : (T → TableId) → (T → T → Type 0) → Plan T → State (Option T) (View T) → Type 0
  Kept domain like = rule.Kept (bay_client domain like)

  -- the first seat
  abbrev pub founder : Plan T → View T
  founder plan = record { role = Dealer 0; seen = []; told = []; done = []; client = first_terms plan }
