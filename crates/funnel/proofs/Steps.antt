-- Each step on the tree keeps its rule.
use Rattle.std.proofs.Common.{◌≡◌, ℕ, ◌<◌, max, List, [], ◌∷◌, ◌++◌, All, get_or, set, length, refl, sym, ap, ◌∙◌, subst, arith, length-set, get_or-set_other, get_or-set_same}
use Rattle.std.proofs.lemmas.List.Elements.{All-nil, All-cons}
use lib.Seq.{set-get_or}
use mathlib.Core.Logic.{dite}
use mathlib.Core.Option.{none}
use native.Mathlib.Decide.{ℕ_discrete}
use Rattle.atomic_table.specs.Table.{step, keeps, Allows}
use Rattle.annals.specs.declared.view.Role.{Role}
use Rattle.annals.specs.declared.view.Role.TheVariants.{Sits}
use Rattle.annals.specs.Logs.Maker.{Sitter}
use Rattle.annals.proofs.CallerLemmas as annals
use Rattle.annals.proofs.CallerLemmas.{makes, notes}
use Rattle.sseq.specs.Numbers.{IsNumber}
use Rattle.funnel.specs.Glossary.{Shape, Holder, Raise, Load, Call, leaf_of, word_of, node_at, IsBeginning, raise_of, value, call_after, MayRaise, MayFollow, IsLegal, View, maker_of, IsHolder, StandsFor, Owns, Agrees, tree_client, Kept, Raised, Sat, raised, looked, admitted}
use Rattle.funnel.specs.declared.view.Holder.TheVariants.{Processor}
use Rattle.funnel.proofs.Values.{value_here, value_else, begins_itself, begins_pushed}
use Rattle.funnel.proofs.Climbing.{call_here, legal_push}
use Rattle.funnel.proofs.Asked.{legal_part, value_later}
use Rattle.funnel.proofs.Loads.{load_of, holder_stands, loads_later, loads_push, one_more_load}
use Rattle.funnel.proofs.Knowing.{raised_own, owns_stays, owns_between}

same_asker : (p q : ℕ) → Sits p ≡ Sits q → p ≡ q
same_asker p q h = cc

node_back : (k : ℕ) → node_at (word_of k) ≡ k
node_back k = omega arith

pub raised_at : (p word k n found : ℕ) (v w : View) → word ≡ word_of k → Raised p (node_at word) n found v w → Raised p k n found v w
raised_at p word k n found v w place r = subst (λ z. Raised p z n found v w) (ap node_at place ∙ node_back k) r

by_holder : (h : Holder) (found : ℕ) (log : List Raise) → All (λ l. maker_of l.by ≡ maker_of h) (load_of h found log ∷ [])
by_holder h found log = All-cons (λ (l : Load). maker_of l.by ≡ maker_of h) (load_of h found log) [] refl (All-nil (λ (l : Load). maker_of l.by ≡ maker_of h))

by_asker : (p k n : ℕ) → All (λ r. Sitter r.by ≡ Sitter p) (raise_of p k n ∷ [])
by_asker p k n = All-cons (λ (r : Raise). Sitter r.by ≡ Sitter p) (raise_of p k n) [] refl (All-nil (λ (r : Raise). Sitter r.by ≡ Sitter p))

module _ (shape : Shape) where
  pub raises_here : (slots id p word k n : ℕ) (me : Sat) → word ≡ word_of k → me.0.client.shape ≡ shape → me.0.role ≡ Sits p → p < shape.processors → k < shape.nodes → MayRaise (leaf_of shape.nodes p) me.0.client.call k n → IsNumber n
      → Allows (Kept shape) slots id me word (λ x. max x n) (raised (step slots word n 0 none) me)
  raises_here slots id p word k n me place sized is there lt may number = makes tree_client shape slots id me word (λ x. max x n) (raised (step slots word n 0 none) me) (Sitter p) (subst (λ (x : Role). StandsFor x (Processor p)) (sym is) refl) (λ _ words homes log loads a sees _ _.
      let v : View = me.0 in
      let mine : List Raise = v.client.mine in
      let made : Owns (Sits p) mine v.client.call log = subst (λ (m : Role). Owns m mine v.client.call log) is sees.known in
      let e : Raise = raise_of p k n in
      let log' : List Raise = log ++ e ∷ [] in
      let x : ℕ = get_or words word 0 in
      let found : x ≡ value k log = ap (λ z. get_or words z 0) place ∙ a.nodes k lt in
      let call' : Call = call_after k n x in
      let owns' : Owns (Sits p) (mine ++ e ∷ []) call' log' = (ap (λ l. l ++ e ∷ []) made.0 ∙ sym (raised_own p log e refl), ap (call_after k n) found ∙ sym (call_here p log e refl)) in
      let owns : Owns v.role (mine ++ e ∷ []) call' log' = subst (λ (m : Role). Owns m (mine ++ e ∷ []) call' log') (sym is) owns' in
      let may' : MayFollow shape log e = record { by = there; next = subst (λ (z : Call). MayRaise (leaf_of shape.nodes p) z k n) made.1 may; number = number } in
      let legal' : IsLegal shape log' = legal_push shape [] log e a.legal may' in
      let inside : word < length words = let wide = a.wide in omega (arith, wide, lt, place) in record {
        entries = e ∷ [];
        by = by_asker p k n;
        world' = tt;
        client = record { shape = v.client.shape; mine = mine ++ e ∷ []; call = call' };
        act = keeps;
        valid = tt;
        agreed = record {
          legal = legal';
          wide = length-set words word (max x n) ∙ a.wide;
          nodes = λ j below. dite (ℕ_discrete j k)
              (λ jk. ap (λ z. get_or (set words word (max x n)) z 0) (ap word_of jk ∙ sym place) ∙ (get_or-set_same words word (max x n) 0 inside ∙ (ap (λ z. max z n) found ∙ (sym (value_here k log e refl) ∙ ap (λ z. value z log') (sym jk)))))
              (λ jk. get_or-set_other words word (word_of j) (max x n) 0 (λ h. jk (omega (arith, h, place))) ∙ (a.nodes j below ∙ sym (value_else j log e (λ h. jk (sym h)))));
          loaded = loads_later loads log log' (begins_pushed e (begins_itself log)) a.loaded;
        };
        known = owns;
        others = λ role c not apart h. owns_stays log e role c.mine c.call not h;
        rights = λ x h. absurd x;
        tells = (
          refl,
          λ q is'. let back : node_at word ≡ k = ap node_at place ∙ node_back k in
              let w : View = record { role = v.role; seen = log'; told = []; done = v.done; client = record { shape = v.client.shape; mine = mine ++ e ∷ []; call = call' } } in
              subst (λ (z : ℕ × ℕ). Raised z.0 z.1 n x v w) (λ i. (same_asker p q (sym is ∙ is') i, sym back i)) record {
                before = log;
                seen = refl;
                since = sees.seen;
                found_is = found;
                mine = refl;
                shape = refl;
                role = refl;
                told = refl;
                call = refl;
                loads = refl;
                sound = record { legal = subst (λ z. IsLegal z log') (sym sized) legal'; owns = owns };
              },
        );
      })

  -- a load of the root changes no word, and is one more load of its holder
  noted : (words : List ℕ) (log : List Raise) (loads : List Load) (h : Holder) → 0 < shape.nodes → Agrees shape words log loads → Agrees shape (set words 0 (get_or words 0 0)) log (loads ++ load_of h (get_or words 0 0) log ∷ [])
  noted words log loads h inner a = let l : Load = load_of h (get_or words 0 0) log in
      subst (λ (ws : List ℕ). Agrees shape ws log (loads ++ l ∷ [])) (sym (set-get_or words 0 0)) record { legal = a.legal; wide = a.wide; nodes = a.nodes; loaded = loads_push loads h (get_or words 0 0) log (a.nodes 0 inner) a.loaded }

  pub finds_root : (slots id : ℕ) (me : Sat) (h : Holder) → IsHolder me.0.role h → me.0.client.shape ≡ shape → 0 < shape.nodes → Allows (Kept shape) slots id me 0 (λ x. x) (looked (step slots 0 0 0 none) me)
  finds_root slots id me h is sized inner = notes tree_client shape slots id me 0 (λ x. x) (looked (step slots 0 0 0 none) me) (maker_of h) (holder_stands me.0.role h is) (λ _ words homes log loads a sees _ _.
      let x : ℕ = get_or words 0 0 in record {
        acts = load_of h x log ∷ [];
        doer = by_holder h x log;
        seen = log;
        since = begins_itself log;
        own = λ n _. refl;
        world' = tt;
        client = me.0.client;
        act = keeps;
        valid = tt;
        agreed = noted words log loads h inner a;
        known = sees.known;
        others = λ role c not apart k. k;
        rights = λ x h. absurd x;
        tells = (
          refl,
          record {
            load = record {
              mine = refl;
              shape = refl;
              role = refl;
              told = refl;
              call = refl;
              loads = one_more_load me.0.role h x log me.0.done loads is sees.own_done;
              sound = record { legal = subst (λ z. IsLegal z log) (sym sized) a.legal; owns = sees.known };
            };
            current = a.nodes 0 inner;
            since = sees.seen;
            covers = sees.told;
          },
          refl,
        );
      })

  -- the load shows that the seat raised no node that it was not told of
  pub admits_here : (slots id : ℕ) (me : Sat) (h : Holder) → IsHolder me.0.role h → me.0.client.shape ≡ shape → 0 < shape.nodes → IsBeginning me.0.seen me.0.told → Owns me.0.role me.0.client.mine me.0.client.call me.0.seen
      → Allows (Kept shape) slots id me 0 (λ x. x) (admitted (step slots 0 0 0 none) me)
  admits_here slots id me h is sized inner covered own = notes tree_client shape slots id me 0 (λ x. x) (admitted (step slots 0 0 0 none) me) (maker_of h) (holder_stands me.0.role h is) (λ _ words homes log loads a sees _ _.
      let v : View = me.0 in
      let x : ℕ = get_or words 0 0 in record {
        acts = load_of h x log ∷ [];
        doer = by_holder h x log;
        seen = v.told;
        since = sees.told;
        own = λ n k. sees.own n k ∙ sym (annals.own_between (λ (r : Raise). Sitter r.by) n v.seen v.told log covered sees.told (sees.own n k));
        world' = tt;
        client = v.client;
        act = keeps;
        valid = tt;
        agreed = noted words log loads h inner a;
        known = sees.known;
        others = λ role c not apart k. k;
        rights = λ x h. absurd x;
        tells = (
          refl,
          record {
            load = record {
              mine = refl;
              shape = refl;
              role = refl;
              told = refl;
              call = refl;
              loads = one_more_load v.role h x log v.done loads is sees.own_done;
              sound = record { legal = subst (λ z. IsLegal z v.told) (sym sized) (legal_part shape sees.told a.legal); owns = owns_between v.role v.client.mine v.client.call covered sees.told own sees.known };
            };
            seen = refl;
            not_below = let current = a.nodes 0 inner in let grows = value_later 0 sees.told in omega (arith, current, grows);
          },
          refl,
        );
      })
