-- Another one has its part.
use Rattle.std.proofs.Common.{suc, [], ◌∷◌, ◌++◌, refl, sym, ap, ◌∙◌, arith, append-nil, append_assoc}
use Rattle.crew.proofs.Rows.{one_more, none_there}
use Rattle.crew.proofs.crew.muster.Goals as goal

pub loop-part-init : goal.loop-part-init
loop-part-init g c =
    let room = c.requires.room in
    let full = room.1 in
    let none = room.0 in
    ([], [], sym (append-nil _), sym (append-nil _), none_there _ (sym c.args.members.ok.0 ∙ none), c.requires.as_many, refl, omega (arith, full, none), refl, omega (arith, none))

pub loop-part-preserved : goal.loop-part-preserved
loop-part-preserved g c =
    let v = c.loop-part.invariant in
    let w = c.in-Some-pop.worker in
    let p = c.in-Some.part in
    let one = c.in-Some-pop.ensures in
    let other = c.in-Some.ensures in
    let put = c.push_reserved.ensures in
    let long = one.len in
    let long' = other.len in
    let same = v.5 in
    let room = v.7 in
    let more = put.len in
    let all = v.9 in
    let cap = put.capacity in (
      w ∷ v.0,
      p ∷ v.1,
      v.2 ∙ (ap (λ l. l ++ v.0) one.items ∙ append_assoc _ (w ∷ []) v.0),
      v.3 ∙ (ap (λ l. l ++ v.1) other.items ∙ append_assoc _ (p ∷ []) v.1),
      one_more w p v.0 v.1 _ _ v.4 put.items,
      omega (arith, long, long', same),
      ap suc v.6,
      omega (arith, long', room, more, cap),
      one.capacity ∙ v.8,
      omega (arith, long', all, more),
    )
