-- What a caller knows of a processor, of the engine's seat, and of what they give out.
use Rattle.std.specs.Prelude.{◌≡◌, ℕ, ◌⊎◌, List, [], Option}
use Rattle.atomic_table.specs.Seated.{TableId}
use Rattle.sseq.specs.declared.index.Index.{Index}
use Rattle.onedom.specs.declared.event.Event.{Event}
use Rattle.sections.specs.declared.view.Left.{Left}
use Rattle.sections.specs.declared.view.Step.{Step}
use Rattle.sections.specs.declared.view.Text.{Text}
use Rattle.sections.specs.declared.view.Shown.{Shown}

-- `domain` is the table of the domain, `processors` how many processors it has, `sections` how many sections of one index this one may begin, `processor` its number. `seen` is the history as far as
-- this processor has seen it, and `changes` how often the engine had changed the number and the index word by then.
-- `texts` are the words of the versions that were put there, one text for each Put, in their order. `mine` are its own events in the history, and `steps` its steps that are no events. `left` is what lay with the key that it gave back last, if that was as it had found it
pub record CpuView : Type 0 where
  pub domain : TableId
  pub processors : ℕ
  pub sections : ℕ
  pub processor : ℕ
  pub seen : List Event
  pub changes : ℕ
  pub texts : List Text
  pub mine : List Event
  pub steps : List Step
  pub left : Option Left

pub record EngineView : Type 0 where
  pub domain : TableId
  pub processors : ℕ
  pub periods : ℕ
  pub seen : List Event
  pub changes : ℕ
  pub texts : List Text
  pub shown : Shown
  pub mine : List Event
  pub steps : List Step

pub record LookView : Type 0 where
  pub domain : TableId
  pub index : Index
  pub seen : List Event
  pub changes : ℕ

pub record ReadingView : Type 0 where
  pub domain : TableId
  pub section : ℕ
  pub processor : ℕ
  pub index : Index
  pub seen : List Event
  pub changes : ℕ

-- a cookie that was given, or the completed one, which alone has the number 1: that is of no domain, and nothing was seen when it was made
pub record CookieView : Type 0 where
  pub domain : TableId
  pub number : ℕ
  pub seen : List Event
  pub changes : ℕ

-- the table of no domain: each of those has words
abbrev pub no_domain : TableId
no_domain = record { words = 0; slots = 0; views_name = 0; atom = 0; block = 0; offset = 0; slot_names = [] }

abbrev pub completed_cookie : CookieView
completed_cookie = record { domain = no_domain; number = 1; seen = []; changes = 0 }

-- in this domain one may ask after the cookie: it was given there, or it is the completed one
abbrev pub IsKnownIn : TableId → CookieView → Type 0
IsKnownIn domain k = (k.number ≡ 1) ⊎ (k.domain ≡ domain)

-- what a section found: `version` of `cell` lies in `slot`. `texts` are the words of the versions that were put in the history that was seen
pub record FoundView : Type 0 where
  pub domain : TableId
  pub cell : ℕ
  pub slot : ℕ
  pub version : ℕ
  pub seen : List Event
  pub changes : ℕ
  pub texts : List Text
