-- The handlers of a script, in the order of their ids.
use Rattle.std.proofs.Common.{◌≡◌, ℕ, ◌+◌, ◌<◌, List, [], ◌∷◌, ◌++◌, length, get_or, subst, arith, below_more, length-append}
use Rattle.std.proofs.lemmas.List.{get_or_append_left, get_or_push}
use Rattle.notify.specs.Calling.{GivesAt}
use Rattle.srcuctl.specs.Handlers.{answer_in, Gives}

-- `gives` is which result a handler may give to a value
module _ {H : Type 0} (gives : H → ℕ → ℕ → Type 0) where
  -- there are so many handlers, and each gives nothing but what a value tells the handler of its place
  pub record AreHanded (handlers : List H) (count : ℕ) : Type 0 where
    pub long : length handlers ≡ count
    pub each : (id : ℕ) → id < count → (d : H) (value result : ℕ) → gives (get_or handlers id d) value result → result ≡ answer_in value id

  -- the next one comes behind them
  pub one_more : (handlers : List H) (n : ℕ) (h : H) (handlers' : List H) → AreHanded handlers n → handlers' ≡ handlers ++ h ∷ [] → ((value result : ℕ) → gives h value result → result ≡ answer_in value n) → AreHanded handlers' (n + 1)
  one_more handlers n h handlers' before behind here = rw behind (record {
    long = omega (arith, length-append handlers (h ∷ []), before.long);
    each = below_more _ n
        (λ id within d value result gave. before.each id within d value result (subst (λ x. gives x value result) (get_or_append_left handlers (h ∷ []) d id (omega (arith, before.long))) gave))
        (λ d value result gave. here value result (subst (λ x. gives x value result) (get_or_push handlers h d n before.long) gave));
  })

  -- what the handler of an id may give of sixteen is what the value tells it
  pub told : (handlers : List H) → AreHanded handlers 16 → (value id result : ℕ) → GivesAt (λ h y. gives h value y) handlers id result → Gives value id result
  told handlers all value id result at =
      let within : id < 16 = subst (λ n. id < n) all.long at.there in record {
        there = within;
        answered = all.each id within at.handler value result (subst (λ h. gives h value result) at.is at.answered);
      }
