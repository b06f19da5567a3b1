use Rattle.std.proofs.Common.{◌≡◌, ℕ, inl, refl, subst, rules, arith}
use denote.Param.Object.{read_made}
use Rattle.srcuctl.specs.Handlers.{answer_in, Gives}
use Rattle.srcuctl.proofs.Handed.{AreHanded, one_more, told}
use Rattle.srcuctl.proofs.Whole.{recorded_as_told}
use Rattle.srcuctl.proofs.recording.record_told.OwnLists.{own-1}
use Rattle.srcuctl.proofs.recording.record_told.Goals as goal

-- the box that was put last answers as the handler does that was made for it
pub loop-id-preserved : goal.loop-id-preserved
loop-id-preserved g c =
    let handler = c.in_ok-handler.handler.value in
    let id_is : handler.id ≡ c.loop-id.id = search rules in
    one_more _ _ _ c.into_dyn_box.result _ c.loop-id.invariant (search rules)
    (λ value result gave. subst (λ id. result ≡ answer_in value id) id_is
    (subst (λ (may : ℕ → ℕ → Type 0). may value result)
    (read_made own-1 (own-1.entry (inl tt)) (inl tt) refl (ℕ → ℕ → Type 0) (λ e h. e.1.answers h 1) c.into_dyn_box.result.vtable c.into_dyn_box.result.value handler c.into_dyn_box.ensures.1) gave))

pub returns : goal.returns
returns g c =
    let sixteen : c.loop-id.id ≡ 16 = omega arith in
    let all : AreHanded (λ h value result. (own-1.entry h.vtable).1.answers h.value 1 value result) c.deref.result.now 16 = rw (c.deref.ensures.value, ← sixteen) c.loop-id.invariant in
    recorded_as_told _ Gives c.args.limits c.args.script.now c.record.result (told _ c.deref.result.now all) c.record.ensures
