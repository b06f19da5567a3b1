-- The rule of the tree, over that of its history (`annals`): the history is legal, each node holds what it says, each load of the root found what it says, and each seat knows where its call stands.
use Rattle.std.specs.Prelude.{◌≡◌, ℕ, false, ◌+◌, ◌<◌, ◌≤◌, List, [], ◌∷◌, All, Option, length, map, slice_index}
use Rattle.std.proofs.Common.{sym, ◌∙◌, arith}
use Rattle.atomic_table.specs.Table.{State}
use Rattle.annals.specs.declared.view.Role.{Role}
use Rattle.annals.specs.declared.view.Role.TheVariants.{Nobody, Dealer, Sits}
use Rattle.annals.specs.declared.view.View as annals
use Rattle.annals.specs.Logs.{Maker}
use Rattle.annals.specs.Logs.Maker.{Head, Sitter}
use Rattle.annals.specs.Logs as logs
use Rattle.annals.specs.Client.{Client}
use Rattle.annals.specs.Client as client
use Rattle.annals.specs.Rule as rule
use Rattle.funnel.specs.declared.view.Shape.{Shape}
use Rattle.funnel.specs.declared.view.Holder.{Holder}
use Rattle.funnel.specs.declared.view.Holder.TheVariants.{Processor, Engine}
use Rattle.funnel.specs.declared.view.Raise.{Raise}
use Rattle.funnel.specs.declared.view.Load.{Load}
use Rattle.funnel.specs.declared.view.Known.{Known}
use Rattle.funnel.specs.declared.view.Call.{Call}
use Rattle.funnel.specs.declared.view.Call.TheVariants.{Idle}
use Rattle.funnel.specs.Tree.{word_of}
use Rattle.funnel.specs.Histories.{IsBeginning, value, IsLegal, call_of, raised_by}

-- Loads of the root

-- each load was made at a moment that goes on from those of the ones before
abbrev pub AreOrdered : List Load → Type 0
AreOrdered [] = Unit {0}
AreOrdered (l ∷ ls) = All (λ m. IsBeginning l.at m.at) ls × AreOrdered ls

-- all loads until now: each found what the root held
pub record AreLoads (loads : List Load) (log : List Raise) : Type 0 where
  pub found : All (λ l. l.found ≡ value 0 l.at) loads
  pub ordered : AreOrdered loads
  pub until : All (λ l. IsBeginning l.at log) loads

-- the engine deals the processors' seats
abbrev pub maker_of : Holder → Maker
maker_of (Processor p) = Sitter p
maker_of Engine = Head

abbrev pub loads_by : Holder → List Load → List Load
loads_by h loads = logs.made_by (λ l. maker_of l.by) (maker_of h) loads

-- what one holder found, in order
abbrev pub loads_of : Holder → List Load → List ℕ
loads_of h loads = map (λ l. l.found) (loads_by h loads)

-- what a seat knows of the loads of the root
abbrev pub IsUpto : List Load → List Load → Type 0
IsUpto known loads = logs.IsBeginning known loads

-- Seats

-- what one seat knows
abbrev pub View : Type 0
View = annals.View Raise Load Known

-- whose steps a seat makes
abbrev pub IsHolder : Role → Holder → Type 0
IsHolder Nobody h = ⊥
IsHolder (Sits p) h = h ≡ Processor p
IsHolder (Dealer k) h = h ≡ Engine

-- the engine's seat stands for the processors that are still to be dealt too
abbrev pub StandsFor : Role → Holder → Type 0
StandsFor role h = client.StandsFor role (maker_of h)

-- a processor's seat knows all of its raises in a history and where its call stands there. The engine raises nothing, nor did a processor that is still to be dealt
abbrev pub Owns : Role → List Raise → Call → List Raise → Type 0
Owns Nobody mine call history = Unit {0}
Owns (Sits p) mine call history = (mine ≡ raised_by p history) × (call ≡ call_of p history)
Owns (Dealer k) mine call history = (mine ≡ []) × (call ≡ Idle) × ((p : ℕ) → k ≤ p → (raised_by p history ≡ []) × (call_of p history ≡ Idle))

pub fewer_owned : (k : ℕ) (mine : List Raise) (call : Call) (history : List Raise) → Owns (Dealer k) mine call history → Owns (Dealer (k + 1)) mine call history
fewer_owned k mine call history h = (h.0, h.1, λ p le. h.2 p (omega (arith, le)))

pub next_owned : (k : ℕ) (mine : List Raise) (call : Call) (history : List Raise) → Owns (Dealer k) mine call history → Owns (Sits k) mine call history
next_owned k mine call history h = let none = h.2 k (omega arith) in (h.0 ∙ sym none.0, h.1 ∙ sym none.1)

pub record Agrees (shape : Shape) (words : List ℕ) (log : List Raise) (loads : List Load) : Type 0 where
  pub legal : IsLegal shape log
  pub wide : length words ≡ word_of shape.nodes
  pub nodes : (k : ℕ) → k < shape.nodes → slice_index words (word_of k) ≡ value k log
  pub loaded : AreLoads loads log

abbrev pub unknown : Shape → Known
unknown shape = record { shape = shape; mine = []; call = Idle }

abbrev pub tree_client : Client Shape (Option ℕ) Raise Load Known
tree_client = record {
  World = Unit {0};
  by = λ r. Sitter r.by;
  doer = λ l. maker_of l.by;
  Right = ⊥;
  has = λ role c x. false;
  agrees = λ shape _ words homes log loads. Agrees shape words log loads;
  knows = λ shape _ role log c. Owns role c.mine c.call log;
  may_deal = λ shape k. Unit {0};
  first = unknown;
  blank = unknown record { processors = 0; nodes = 0 };
  dealt = λ _ c. c;
  nobody = λ shape _ log. tt;
  bare = λ x. absurd x;
  fewer = λ shape _ log c k h. fewer_owned k c.mine c.call log h;
  next = λ shape _ log c k may h. next_owned k c.mine c.call log h;
  fewer_rights = λ c k x h. absurd x;
  next_rights = λ c k x h. absurd x;
}

abbrev pub Kept : Shape → State (Option ℕ) View → Type 0
Kept = rule.Kept tree_client

abbrev pub founder : Shape → View
founder shape = record { role = Dealer 0; seen = []; told = []; done = []; client = unknown shape }
