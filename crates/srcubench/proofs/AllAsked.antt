-- Asks that are made one behind the other, with new seats.
use Rattle.std.proofs.Common.{◌≡◌, ℕ, ◌+◌, ◌-◌, ◌^◌, ◌<◌, ◌≤◌, Bool, List, [], ◌∷◌, All, length, slice_index_or, sym, ap, ◌∙◌, subst, add-one, arith}
use Rattle.std.proofs.lemmas.List.Elements.{All-nil, All-cons, All-head, All-tail}
use Rattle.atomic_table.specs.Seated.{TableId}
use Rattle.funnel.specs.declared.view.Shape.{Shape}
use Rattle.funnel.specs.declared.view.Holder.TheVariants.{Processor}
use Rattle.funnel.specs.declared.seat.Level.{Level}
use Rattle.funnel.specs.Views.{FunnelView}
use Rattle.funnel.specs.Calls.{IsOfProcessor, Asks, new_seat, AreNew}
use Rattle.srcubench.specs.declared.asking.Asker.{Asker}
use Rattle.srcubench.specs.Asking.{asked_number, CanAsk, AsksAll, HasAskedAll, HaveAskedAll, AreAskersOfOne, HasAskedAlone}

pub one_ask : (new : Bool) (n number : ℕ) (u v w : FunnelView) (level : Level) → number ≡ asked_number new n → AsksAll new n u v → Asks number v level w → AsksAll new (n + 1) u w
one_ask new n number u v w level is before asks = subst (λ k. AsksAll new k u w) (sym (add-one n)) (v, level, before, subst (λ k. Asks k v level w) is asks)

pub still_seat : (number : ℕ) (v w : FunnelView) (level : Level) → Asks number v level w → IsOfProcessor v → IsOfProcessor w
still_seat number v w level asks seat = (seat.0, asks.same.holder ∙ seat.1)

pub all_can : (asks : ℕ) (seats : List FunnelView) → asks ≤ 2 ^ 54 → All IsOfProcessor seats → All (CanAsk asks) seats
all_can asks [] few all = All-nil (CanAsk asks)
all_can asks (v ∷ vs) few all = All-cons (CanAsk asks) v vs (let seat = All-head IsOfProcessor v vs all in record { few = few; processor = seat.0; asker = seat.1 }) (all_can asks vs few (All-tail IsOfProcessor v vs all))

pub askers_of_one : (threads : ℕ) (new : Bool) (asks : ℕ) (domain : TableId) (shape : Shape) (seats : List FunnelView) (askers : List Asker) → length seats ≡ threads → AreNew domain shape seats → HaveAskedAll new asks seats askers → AreAskersOfOne threads new asks askers
askers_of_one threads new asks domain shape seats askers count are made = record {
  domain = domain;
  shape = shape;
  count = made.count ∙ count;
  each = λ k a lt.
      let v : FunnelView = new_seat domain shape (Processor k) in
      let there : k < length seats = omega (arith, lt, count) in
      subst (λ (z : FunnelView). HasAskedAll new asks z (slice_index_or askers k a)) (are k v there) (made.each k v a there);
}

-- The last one of a new tree

module _ (processors nodes : ℕ) (domain : TableId) (seats : List FunnelView) (v : FunnelView) (are : AreNew domain (record { processors = processors; nodes = nodes }) seats) (some : 0 < length seats) (last : v ≡ slice_index_or seats (length seats - 1) v) where
  last_is : v ≡ new_seat domain (record { processors = processors; nodes = nodes }) (Processor (length seats - 1))
  last_is = last ∙ are (length seats - 1) v (omega (arith, some))

  pub last_can : (asks : ℕ) → asks ≤ 2 ^ 54 → CanAsk asks v
  last_can asks few = record { few = few; processor = length seats - 1; asker = ap (λ (z : FunnelView). z.holder) last_is }

  pub asked_alone : (new : Bool) (asks : ℕ) (w : FunnelView) → length seats ≡ processors → AsksAll new asks v w → HasAskedAlone processors new asks
  asked_alone new asks w count calls = record {
    domain = domain;
    nodes = nodes;
    number = length seats - 1;
    there = omega (arith, count, some);
    last = w;
    calls = subst (λ (z : FunnelView). AsksAll new asks z w) last_is calls;
  }
