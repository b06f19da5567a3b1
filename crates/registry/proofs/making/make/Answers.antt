-- Nothing is there yet.
use Rattle.std.proofs.Common.{◌≡◌, ℕ, ◌≤◌, List, [], Option, Some, None, length, get_or, replicate, ap, ◌∙◌, arith, ⊎_elim}
use Rattle.std.proofs.lemmas.Bool.{cases_lt}
use Rattle.std.proofs.lemmas.List.{get_or-replicate, get_or_past, length-replicate}
use Rattle.std.specs.declared.cmp.Ordering.{Ordering}
use Rattle.domain.proofs.CallerLemmas.{none_still, same_put}
use Rattle.boxes.specs.Boxes.{BoxWriterView, Stored}
use Rattle.registry.specs.declared.index.Entry.{Entry}
use Rattle.registry.specs.Registry.{IsRegistry}
use Rattle.registry.proofs.making.make.Goals as goal

none_stored : {X : Type 0} (xs : List (Option X)) (x : ℕ) (s : X) → xs ≡ replicate 8 None → get_or xs x None ≡ Some s → ⊥
none_stored {X} xs x s e h =
    let n = length-replicate {A = Option X} 8 None in
    let none : get_or (replicate {A = Option X} 8 None) x None ≡ None = ⊎_elim (λ l. get_or-replicate 8 x None None l) (λ g. get_or_past (replicate 8 None) x None (omega (arith, n, g))) (cases_lt x 8) in
    let at : get_or xs x None ≡ get_or (replicate {A = Option X} 8 None) x None = ap (λ l. get_or l x None) e in cc

empty : {K V A : Type 0} (cmp : K → K → Ordering) (w : BoxWriterView (List (Entry K V)) A) → w.stored ≡ replicate 8 None → w.writer.slots ≤ 8 → IsRegistry {K = K} {V = V} {A = A} cmp w [] [] 0
empty {K = K} {V = V} {A = A} cmp w e few = record {
  few = omega arith;
  who = λ n. None;
  here_are = λ k d l. absurd (omega (arith, l));
  leaving_are = λ k d l. absurd (omega (arith, l));
  numbered = record {
    ordered = λ i j d lt l. absurd (omega (arith, l));
    here_are = λ k d l. absurd (omega (arith, l));
    leaving_are = λ k d l. absurd (omega (arith, l));
    one = λ n. omega arith;
  };
  versions = record {
    eight = ap length e ∙ length-replicate {A = Option (Stored (List (Entry K V)) A)} 8 None;
    slots = few;
    put = omega arith;
    inside = λ x s h. absurd (none_stored w.stored x s e h);
    below = λ x s h. absurd (none_stored w.stored x s e h);
    own = λ x s h. absurd (none_stored w.stored x s e h);
  };
}

pub invariant_of-registry : goal.invariant_of-registry
invariant_of-registry g c =
    let e = c.in-Ok.ensures.puts in
    let slots = e.puts.puts.slots ∙ e.same.slots in
    rw (c.new.ensures.items, c.new-in-Ok.ensures.items) (record {
      registry = empty g.K.Ord.cmp c.in-Ok.writer c.in-Ok.ensures.nothing (omega (arith, slots, c.slots-slots.ensures.0, c.slots-slots.ensures.1));
      shown = λ s at. absurd (none_stored c.in-Ok.writer.stored c.in-Ok.writer.writer.current s c.in-Ok.ensures.nothing at);
    })

pub returns-in-Ok-clause-still_none : goal.returns-in-Ok-clause-still_none
returns-in-Ok-clause-still_none g c =
    let put = c.in-Ok.ensures.puts in
    none_still c.args.cpu.now c.make.new.cpu (same_put put.slot put.cookie put.equipped c.in-Ok.writer.writer c.args.cpu.now.cpu c.make.new.cpu.cpu put.puts.puts)
