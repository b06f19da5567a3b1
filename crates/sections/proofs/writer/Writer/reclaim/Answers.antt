use Rattle.std.proofs.Common.{◌≡◌, ℕ, ◌+◌, ◌≤◌, get_or, refl, sym, ap, ◌∙◌, subst, arith}
use Rattle.sections.specs.Glossary.{CpuView, WriterView, standing_of, ReclaimsBelow}
use Rattle.sections.specs.declared.writer.Standing.TheVariants.{Blank}
use Rattle.sections.proofs.Reclaiming.{reclaims_none, reclaims_skip, reclaims_ask, later_still}
use Rattle.sections.proofs.writer.Writer.reclaim.Goals as goal
use Rattle.sections.proofs.writer.Writer.reclaim.Goals.{in-Retired, in_default}

pub loop-slot-init : goal.loop-slot-init
loop-slot-init g c = record { so_far = reclaims_none _ _; still = λ x _. refl }

pub reclaim_slot-requires-clause-here : goal.reclaim_slot-requires-clause-here
reclaim_slot-requires-clause-here g c = let s = c.loop-slot.invariant.so_far.same in s.1.0 ∙ (c.requires.here ∙ sym s.0.domain)

pub reclaim_slot-requires-clause-slot : goal.reclaim_slot-requires-clause-slot
reclaim_slot-requires-clause-slot g c =
    let slots : c.loop-slot.self.slots ≡ c.self.inside.slots = c.loop-slot.invariant.so_far.same.0.slots ∙ ap (λ z. z.slots) (sym c.self.view_is) in
    let inside = c.loop-slot-test.true in
    (omega (arith, slots, inside), ap (λ z. standing_of z c.loop-slot.slot) (sym c.self-in-loop-slot.view_is) ∙ c.in-Retired.is)

pub loop-slot-preserved : goal.loop-slot-preserved
loop-slot-preserved g c =
    let v = c.loop-slot.invariant in
    let k : ℕ = c.loop-slot.slot in
    let w : WriterView = c.loop-slot.self in
    let d : CpuView = c.loop-slot.cpu in
    let there : standing_of w k ≡ get_or c.self-in-loop-slot.inside.standings k Blank = ap (λ z. standing_of z k) (sym c.self-in-loop-slot.view_is) in
    elim c.match-self-slot.branch [
      | in-Retired b ↦ subst (λ (z : WriterView × CpuView). record { so_far : ReclaimsBelow (k + 1) c.args.self.now c.args.cpu.now z.0 z.1; still : (x : ℕ) → k + 1 ≤ x → standing_of z.0 x ≡ standing_of c.args.self.now x }) (λ i. (sym b.self-is i, sym b.cpu-is i))
          record { so_far = reclaims_ask k b.in-Retired.number _ c.args.self.now c.args.cpu.now w d _ _ (v.still k (omega arith)) (there ∙ b.in-Retired.is) v.so_far b.reclaim_slot.ensures; still = later_still k b.in-Retired.number _ c.args.self.now w _ d _ v.still b.reclaim_slot.ensures }
      | in_default b ↦ subst (λ (z : WriterView × CpuView). record { so_far : ReclaimsBelow (k + 1) c.args.self.now c.args.cpu.now z.0 z.1; still : (x : ℕ) → k + 1 ≤ x → standing_of z.0 x ≡ standing_of c.args.self.now x }) (λ i. (sym b.self-is i, sym b.cpu-is i))
          record { so_far = reclaims_skip k c.args.self.now c.args.cpu.now w d (v.still k (omega arith)) (λ n e. b.in_default.not-Retired n (sym there ∙ e)) v.so_far; still = λ x le. v.still x (omega (arith, le)) }
    ]

pub returns : goal.returns
returns g c =
    let v = c.loop-slot.invariant in
    let slots : c.args.self.now.slots ≡ c.self.inside.slots = ap (λ z. z.slots) (sym c.self.view_is) in
    let all : c.loop-slot.slot ≡ c.args.self.now.slots = omega (arith, slots) in
    subst (λ (n : ℕ). ReclaimsBelow n c.args.self.now c.args.cpu.now c.loop-slot.self c.loop-slot.cpu) all v.so_far
