-- A call, step by step.
use Rattle.std.proofs.Common.{◌≡◌, ◌≢◌, ℕ, suc, ◌+◌, ◌-◌, ◌/◌, ◌<◌, ◌≤◌, ◌↔◌, ◌==◌, Bool, true, false, IsTrue, [], ◌∷◌, ◌++◌, nat_le, cond, inr, refl, sym, ap, ◌∙◌, subst, le-leb, append_assoc, append-nil, arith}
use mathlib.Core.Logic.{dite}
use native.Mathlib.Decide.{ℕ_discrete}
use Rattle.funnel.specs.Glossary.{parent, up, IsBeginning, raise_of, value, MayRaise, call_after, View, Raised, climb_from}
use Rattle.funnel.specs.declared.view.Call.TheVariants.{Idle, From}
use Rattle.funnel.specs.Seats.{Climbs}
use Rattle.funnel.proofs.Climbing.{goes_up}
use Rattle.funnel.proofs.Values.{value_here, begins_pushed, begins_on, begins_itself}

-- so far a call has raised so many nodes from the leaf on
pub record HasClimbed (p leaf n nodes : ℕ) (v0 v : View) : Type 0 where
  pub mine : v.client.mine ≡ v0.client.mine ++ climb_from p n leaf nodes
  pub since : IsBeginning v0.seen v.seen
  pub shape : v.client.shape ≡ v0.client.shape
  pub role : v.role ≡ v0.role
  pub loads : v.done ≡ v0.done

pub climbed_none : (p leaf n : ℕ) (v : View) → HasClimbed p leaf n 0 v v
climbed_none p leaf n v = record { mine = sym (append-nil v.client.mine); since = begins_itself v.seen; shape = refl; role = refl; loads = refl }

-- what a step saw goes on from what the call had seen
goes_on : (p : ℕ) (v0 v w : View) (k n found : ℕ) → IsBeginning v0.seen v.seen → Raised p k n found v w → IsBeginning v0.seen w.seen
goes_on p v0 v w k n found since r = subst (λ z. IsBeginning v0.seen z) (sym r.seen) (begins_pushed (raise_of p k n) (begins_on since r.since))

pub one_more : (p leaf n nodes k found : ℕ) (v0 v w : View) → HasClimbed p leaf n nodes v0 v → k ≡ up nodes leaf → Raised p k n found v w → HasClimbed p leaf n (nodes + 1) v0 w
one_more p leaf n nodes k found v0 v w c is r =
    let more : nodes + 1 ≡ suc nodes = omega arith in record {
      mine = r.mine ∙ ((λ i. c.mine i ++ raise_of p (is i) n ∷ []) ∙ (append_assoc v0.client.mine (climb_from p n leaf nodes) (raise_of p (up nodes leaf) n ∷ []) ∙ ap (λ m. v0.client.mine ++ climb_from p n leaf m) (sym more)));
      since = goes_on p v0 v w k n found c.since r;
      shape = r.shape ∙ c.shape;
      role = r.role ∙ c.role;
      loads = r.loads ∙ c.loads;
    }

-- no node so far is the root
pub inner_more : (leaf nodes k : ℕ) → ((m : ℕ) → m < nodes → up m leaf ≢ 0) → k ≡ up nodes leaf → k ≢ 0 → (m : ℕ) → m < nodes + 1 → up m leaf ≢ 0
inner_more leaf nodes k inner is other m lt = dite (ℕ_discrete m nodes)
    (λ last root. other (is ∙ (ap (λ z. up z leaf) (sym last) ∙ root)))
    (λ earlier. inner m (omega (arith, lt, earlier)))

pub climbs_here : (p leaf n nodes k found : ℕ) (v0 v w : View) (b : Bool) → HasClimbed p leaf n nodes v0 v → ((m : ℕ) → m < nodes → up m leaf ≢ 0) → k ≡ up nodes leaf → Raised p k n found v w → (IsTrue b ↔ (n ≤ found)) → (¬ IsTrue b → k ≡ 0) → call_after k n found ≡ Idle
    → Climbs p leaf n v0 (record { nodes = nodes + 1; found = b }) w
climbs_here p leaf n nodes k found v0 v w b c inner is r told root ends =
    let seen : w.seen ≡ r.before ++ raise_of p (up nodes leaf) n ∷ [] = r.seen ∙ (λ i. r.before ++ raise_of p (is i) n ∷ []) in
    let before : found ≡ value (up nodes leaf) r.before = r.found_is ∙ ap (λ z. value z r.before) is in
    let more = one_more p leaf n nodes k found v0 v w c is r in record {
      above = nodes;
      nodes = refl;
      below = inner;
      mine = more.mine;
      before = r.before;
      since = begins_on c.since r.since;
      seen = seen;
      holds = (let here = ap (value (up nodes leaf)) seen ∙ value_here (up nodes leaf) r.before (raise_of p (up nodes leaf) n) refl in omega (arith, here));
      found = ((λ t. let le = told.0 t in omega (arith, le, before)), (λ le. told.1 (omega (arith, le, before))));
      at_root = λ no. sym is ∙ root no;
      shape = more.shape;
      role = more.role;
      loads = more.loads;
      told = r.told;
      rests = record { sound = r.sound; idle = r.call ∙ ends };
    }

pub stops_found : (k n found : ℕ) → n ≤ found → call_after k n found ≡ Idle
stops_found k n found le = ap (λ b. cond b Idle (cond (k == 0) Idle (From k n))) (le-leb n found le)

pub stops_at_root : (k n found : ℕ) → k ≡ 0 → call_after k n found ≡ Idle
stops_at_root k n found root = ap (λ z. call_after z n found) root ∙ either (nat_le n found)
  where
    either : (b : Bool) → cond b Idle Idle ≡ Idle
    either true = refl
    either false = refl

pub next_step : (p : ℕ) (v w : View) (leaf k n found : ℕ) → Raised p k n found v w → found < n → k ≢ 0 → MayRaise leaf w.client.call ((k - 1) / 4) n
next_step p v w leaf k n found r less inner = inr (k, r.call ∙ goes_up k n found less inner, (omega (arith, inner), omega (arith, inner)))

pub next_node : (leaf nodes k : ℕ) → k ≡ up nodes leaf → (k - 1) / 4 ≡ up (nodes + 1) leaf
next_node leaf nodes k is = let more : nodes + 1 ≡ suc nodes = omega arith in ap parent is ∙ ap (λ m. up m leaf) (sym more)
