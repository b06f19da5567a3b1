-- No cut or join of a bay's seats can claim a swap: another seat may swap again, so the law of its log holds.
use Rattle.std.proofs.Common.{◌≡◌, ℕ, Bool, true, false, List, ◌∷◌, [], ◌++◌, Option, Some, None, IfSome, is_some, refl, sym, subst}
use Rattle.atomic_table.specs.Seated.{TableId}
use Rattle.annals.specs.declared.view.Role.{Role}
use Rattle.annals.specs.declared.view.Role.TheVariants.{Sits}
use Rattle.annals.specs.Glossary.{Sitter, MayGoOn}
use Rattle.annals.proofs.CallerLemmas as annals
use Rattle.desk.specs.Glossary.{Swap, lies_after, holds_behind, StandsFor, word_of, home_of, lies_now, bay_client, NoBaySwapIsForged}
use Rattle.desk.specs.declared.bay.view.Plan.{Plan}
use Rattle.desk.proofs.Turns.{lies_push}
use Rattle.desk.proofs.Holders.{legal_push}

module _ {T : Type 0} where
  -- it puts back what lay there first, or takes
  abbrev left_by : Bool → T → Option T
  left_by true x = Some x
  left_by false x = None

  puts_if : (b : Bool) (x : T) → is_some (left_by b x) ≡ b
  puts_if true x = refl
  puts_if false x = refl

  left_is : (Q : T → Type 0) (b : Bool) (x : T) → Q x → IfSome (left_by b x) Q
  left_is Q true x h = h
  left_is Q false x h = tt

  -- a seat of the bay may swap again
  swaps_again : (domain : T → TableId) (like : T → T → Type 0) (plan : Plan T) (deeds : List (Unit {0})) (o : ℕ) → MayGoOn (bay_client domain like) plan deeds (Sitter o) (Sits o)
  swaps_again domain like plan deeds o a =
      let first : T = plan.first.value in
      let made : Swap T = record { by = o; left = left_by (holds_behind o a.log) first; found = lies_after (Some first) a.log } in
      let after : List (Swap T) = a.log ++ made ∷ [] in
      let lies : (Q : T → Type 0) → Q first → IfSome (lies_now plan after) Q = λ Q h. subst (λ (z : Option T). IfSome z Q) (sym (lies_push (Some first) a.log made)) (left_is Q (holds_behind o a.log) first h) in record {
        entry = made;
        by = refl;
        later = record {
          world = tt;
          words = word_of (lies_now plan after) ∷ [];
          homes = home_of (lies_now plan after) ∷ [];
          log = after;
          client = a.client;
          agreed = record {
            words_are = refl;
            homes_are = refl;
            legal = legal_push plan.seats (Some first) a.log made a.agreed.legal record { by = a.known.1; finds = refl; in_turn = puts_if (holds_behind o a.log) first };
            first_of_domain = a.agreed.first_of_domain;
            of_domain = lies (λ x. domain x ≡ plan.home) a.agreed.first_of_domain;
            first_alike = a.agreed.first_alike;
            alike = lies (λ x. like first x) a.agreed.first_alike;
          };
          known = a.known;
        };
        rights = λ x h. absurd x;
        log_is = refl;
        others = λ role c not h. h;
      }

pub never_forged : {T : Type 0} (domain : T → TableId) (like : T → T → Type 0) → NoBaySwapIsForged domain like
never_forged domain like plan s r id v m mine seat there u o at is apart =
    let g = annals.never_forged (bay_client domain like) plan s r id v (Sitter m) mine seat there u (Sitter o) at (subst (λ (x : Role). StandsFor x o) (sym is) refl) (subst (MayGoOn (bay_client domain like) plan r.deeds (Sitter o)) (sym is) (swaps_again domain like plan r.deeds o)) apart in (
      (λ left right splits. let h = g.0 left right splits in (record { rest = h.0.rest; whole = h.0.whole }, record { rest = h.1.rest; whole = h.1.whole })),
      (λ other w both gone not_me not_there was joins. let h = (g.1 other w both gone not_me not_there was joins).0 in record { rest = h.rest; whole = h.whole }),
    )
