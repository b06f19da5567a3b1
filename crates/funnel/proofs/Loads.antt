-- Whose steps are whose, and the list of all loads of the root.
use Rattle.std.proofs.Common.{◌≡◌, ℕ, List, [], ◌∷◌, ◌++◌, All, map, refl, sym, ap, ◌∙◌, subst}
use Rattle.std.proofs.lemmas.List.{map-append}
use Rattle.std.proofs.lemmas.List.Elements.{All-nil, All-head, All-tail, All-push, All-weaker}
use Rattle.annals.specs.declared.view.Role.{Role}
use Rattle.annals.specs.declared.view.Role.TheVariants.{Nobody, Dealer, Sits}
use Rattle.annals.specs.Logs.{Maker, made_by}
use Rattle.annals.specs.Client as client
use Rattle.annals.proofs.CallerLemmas as annals
use Rattle.funnel.specs.Glossary.{Holder, Raise, Load, IsBeginning, value, AreOrdered, AreLoads, maker_of, loads_by, loads_of, IsHolder, StandsFor}
use Rattle.funnel.proofs.Values.{begins_itself, begins_on}

-- Holders

pub holder_stands : (r : Role) (h : Holder) → IsHolder r h → StandsFor r h
holder_stands Nobody h is = is
holder_stands (Sits p) h is = subst (λ (z : Holder). StandsFor (Sits p) z) (sym is) refl
holder_stands (Dealer k) h is = subst (λ (z : Holder). StandsFor (Dealer k) z) (sym is) tt

pub one_holder : (r : Role) (h g : Holder) → IsHolder r h → IsHolder r g → h ≡ g
one_holder Nobody h g a b = absurd a
one_holder (Sits p) h g a b = a ∙ sym b
one_holder (Dealer k) h g a b = a ∙ sym b

-- What all loaded until now

-- time goes by
pub loads_later : (loads : List Load) (a b : List Raise) → IsBeginning a b → AreLoads loads a → AreLoads loads b
loads_later loads a b on h = record { found = h.found; ordered = h.ordered; until = All-weaker (λ l. IsBeginning l.at a) (λ l. IsBeginning l.at b) (λ l g. begins_on g on) loads h.until }

ordered_push : (ls : List Load) (l : Load) → AreOrdered ls → All (λ m. IsBeginning m.at l.at) ls → AreOrdered (ls ++ l ∷ [])
ordered_push [] l h all = (All-nil (λ m. IsBeginning l.at m.at), tt)
ordered_push (m ∷ ms) l h all = (All-push (λ x. IsBeginning m.at x.at) ms l h.0 (All-head (λ x. IsBeginning x.at l.at) m ms all), ordered_push ms l h.1 (All-tail (λ x. IsBeginning x.at l.at) m ms all))

abbrev pub load_of : Holder → ℕ → List Raise → Load
load_of h found at = record { by = h; found = found; at = at }

-- the root is loaded now
pub loads_push : (loads : List Load) (h : Holder) (found : ℕ) (log : List Raise) → found ≡ value 0 log → AreLoads loads log → AreLoads (loads ++ load_of h found log ∷ []) log
loads_push loads h found log is a = record {
  found = All-push (λ l. l.found ≡ value 0 l.at) loads (load_of h found log) a.found is;
  ordered = ordered_push loads (load_of h found log) a.ordered a.until;
  until = All-push (λ l. IsBeginning l.at log) loads (load_of h found log) a.until (begins_itself log);
}

-- the load is the seat's own, behind those that it had made
pub one_more_load : (r : Role) (h : Holder) (found : ℕ) (log : List Raise) (known loads : List Load) → IsHolder r h → ((m : Maker) → client.StandsFor r m → made_by (λ (l : Load). maker_of l.by) m loads ≡ made_by (λ (l : Load). maker_of l.by) m known)
    → (g : Holder) → IsHolder r g → loads_of g (loads ++ load_of h found log ∷ []) ≡ loads_of g known ++ found ∷ []
one_more_load r h found log known loads is own g is' =
    ap (map (λ l. l.found)) (annals.made_own (λ (l : Load). maker_of l.by) (maker_of g) loads (load_of h found log) (ap maker_of (one_holder r h g is is')))
    ∙ (map-append (λ l. l.found) (loads_by g loads) (load_of h found log ∷ []) ∙ ap (λ ls. map (λ l. l.found) ls ++ found ∷ []) (own (maker_of g) (holder_stands r g is')))
