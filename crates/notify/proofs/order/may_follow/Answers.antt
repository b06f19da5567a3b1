-- They are compared where they lie.
use Rattle.std.proofs.Common.{rules, ◌≡◌, ◌-◌, ◌∙◌, IsTrue, Bool, true, false, map, get_or, refl, subst, sym, arith}
use Rattle.std.specs.Int.Signed.{clash_ℤ}
use Rattle.std.proofs.lemmas.List.{get_or-map}
use Rattle.notify.specs.declared.block.Block.{Block}
use Rattle.notify.specs.Blocks.{MayPrecede, block_at}
use Rattle.notify.proofs.Chains.{blank}
use Rattle.notify.proofs.order.may_follow.Goals as goal

true_unless : (b : Bool) → (b ≡ false → ⊥) → IsTrue b
true_unless true never = refl
true_unless false never = absurd (never refl)

pub returns-else-place-eq0 : goal.returns-else-place-eq0
returns-else-place-eq0 c =
    let used = c.args.used.now in let place = c.args.place in let there = c.requires in let some = c.if-place-eq0.false in
    let one : (d : Block) → c.block.result ≡ get_or (map block_at used) (place - 1) d = λ d. c.block.ensures ∙ sym (get_or-map block_at used (place - 1) 0 d (omega (arith, there, some))) in
    let two : (d : Block) → c.block-else-place-eq0.result ≡ get_or (map block_at used) place d = λ d. c.block-else-place-eq0.ensures ∙ sym (get_or-map block_at used place 0 d there) in (
      λ h d _. subst (λ (x : Block). MayPrecede x.priority (get_or (map block_at used) place d).priority) (one d)
          (subst (λ (y : Block). MayPrecede c.block.result.priority y.priority) (two d) (c.may_precede.ensures.may (search rules))),
      λ follows. true_unless c.may_precede.result (λ f. clash_ℤ (c.may_precede.ensures.lower f)
          (subst (λ (x : Block). MayPrecede x.priority c.block-else-place-eq0.result.priority) (sym (one blank))
          (subst (λ (y : Block). MayPrecede (get_or (map block_at used) (place - 1) blank).priority y.priority) (sym (two blank)) (follows blank (omega (arith, some)))))),
    )
