-- Another one is back.
use Rattle.std.proofs.Common.{Some, [], ◌∷◌, ◌++◌, sym, ◌∙◌, subst, arith, append-nil}
use Rattle.std.proofs.lemmas.List.Elements.{All-pop}
use Rattle.crew.specs.Parts.{HasWorked, AreThose}
use Rattle.crew.proofs.Rows.{one_less, one_back, none_back}
use Rattle.crew.proofs.crew.dismiss.Goals as goal

pub loop-member-init : goal.loop-member-init
loop-member-init g c =
    let room = c.requires.room in
    let a = room.0 in
    let b = room.1 in
    let d = room.2 in
    let e = room.3 in
    ([], sym (append-nil _), none_back g.row.W.Denot g.row.P.Denot g.row.T.Denot _ _ (sym c.args.workers.ok.0 ∙ a) (sym c.args.given.ok.0 ∙ b), c.requires.done, omega (arith, a, d), omega (arith, b, e))

pub unreachable-requires : goal.unreachable-requires
unreachable-requires g c = c.in_default-part.not-None (All-pop HasWorked _ _ (Some c.in-Some.member) c.in-Some.ensures.items c.loop-member.invariant.3).1.none

pub unreachable-requires-in_default-gave : goal.unreachable-requires-in_default-gave
unreachable-requires-in_default-gave g c =
    let h = (All-pop HasWorked _ _ (Some c.in-Some.member) c.in-Some.ensures.items c.loop-member.invariant.3).1 in
    c.in_default-gave.not-Some h.gave h.gave_is

pub loop-member-preserved : goal.loop-member-preserved
loop-member-preserved g c =
    let v = c.loop-member.invariant in
    let one = c.in-Some.ensures in
    let m = c.in-Some.member in
    let put = c.push_reserved.ensures in
    let laid = c.push_reserved-in-Some.ensures in
    let long = one.len in
    let a = v.4 in
    let b = v.5 in
    let p = put.len in
    let q = laid.len in
    let r = put.capacity in
    let s = laid.capacity in (
      v.0 ++ m ∷ [],
      one_less _ _ _ v.0 m v.1 one.items,
      subst (λ l. AreThose (v.0 ++ m ∷ []) l c.push_reserved-in-Some.new.self.items) (sym put.items) (subst (λ l. AreThose (v.0 ++ m ∷ []) (c.loop-member.workers.items ++ m.worker ∷ []) l) (sym laid.items) (one_back v.0 _ _ m c.in-Some-gave.gave v.2 c.in-Some-gave.is)),
      (All-pop HasWorked _ _ (Some m) one.items v.3).0,
      omega (arith, long, a, p, r),
      omega (arith, long, b, q, s),
    )
