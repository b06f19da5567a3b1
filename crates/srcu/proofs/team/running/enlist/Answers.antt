-- Another worker is out, with its number.
use Rattle.std.proofs.Common.{◌≡◌, ◌+◌, ◌++◌, ◌∷◌, [], ℕ, List, ap, sym, ◌∙◌, arith, length}
use Rattle.std.specs.List.{range_with_len}
use Rattle.std.specs.Option.{option_to_list}
use Rattle.std.proofs.lemmas.List.Elements.{All-pop, All-push, All-same}
use Rattle.driver.specs.Pools.{IsIdle}
use Rattle.srcu.specs.Workers.{WorkerView}
use Rattle.srcu.proofs.Crewing.{one_number_more}
use Rattle.srcu.proofs.team.running.enlist.Goals as goal

pub loop-number-preserved : goal.loop-number-preserved
loop-number-preserved g c =
    let v = c.loop-number.invariant in
    let d = c.args.domain.now in
    let put = c.push_reserved.ensures in
    let number = c.push_reserved-in-loop-number.ensures in
    let one = ap (λ r. length (option_to_list r)) c.unwrap.ensures in
    let a = c.pop.ensures.len in
    let b = put.len in
    let many = v.counts.0 in
    let numbers = v.counts.1 in
    let sum = v.counts.2 in
    let e = number.len in
    let room = v.room.1 in
    let cap = put.capacity in
    let room' = v.room.2 in
    let cap' = number.capacity in record {
      idle = (All-pop (IsIdle d) _ _ _ c.pop.ensures.items v.idle).0;
      out = All-same (λ (w : WorkerView g.row.J.Denot). w.domain ≡ d) _ _ put.items (All-push (λ (w : WorkerView g.row.J.Denot). w.domain ≡ d) _ _ v.out (ap (λ (w : WorkerView g.row.J.Denot). w.domain) c.new.ensures));
      numbers = number.items ∙ (ap (λ (l : List ℕ). l ++ c.loop-number.number ∷ []) v.numbers ∙ sym (one_number_more c.loop-number.number));
      counts = (omega (arith, b, many), omega (arith, e, numbers), omega (arith, a, one, sum));
      room = (v.room.0, omega (arith, room, cap), omega (arith, room', cap'));
      capacity = c.pop.ensures.capacity ∙ v.capacity;
    }
