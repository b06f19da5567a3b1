use Rattle.std.proofs.Common.{ℕ, ◌∙◌, refl, sym, subst}
use Rattle.onedom.specs.declared.event.Event.{Event}
use Rattle.onedom.specs.declared.illegal.Illegal.TheVariants.{StillOpen, NotOpen, WrongFind}
use Rattle.onedom.specs.Histories.{IsOpen, MayFollow}
use Rattle.onedom.specs.Refusals.{IsRefusal}
use Rattle.onedom.proofs.Cells.{same_section}
use Rattle.onedom.proofs.Refused.{still_open_refused, find_not_open, find_wrong}
use Rattle.onedom.proofs.one_domain.may_follow.Goals as goal

pub returns-in-Finish-2-clause-refused : goal.returns-in-Finish-2-clause-refused
returns-in-Finish-2-clause-refused c = subst (λ (e : Event). (IsRefusal c.args.history.now e StillOpen) × (¬ MayFollow c.args.history.now e)) (sym c.in-Finish-2.is)
    (still_open_refused c.args.history.now c.in-Finish-2.by (c.if-not-is_running.ensures.0 refl) (c.is_still_open.ensures.0 c.if-is_still_open.true))

pub returns-in-Find-clause-refused : goal.returns-in-Find-clause-refused
returns-in-Find-clause-refused c = subst (λ (e : Event). (IsRefusal c.args.history.now e NotOpen) × (¬ MayFollow c.args.history.now e)) (sym c.in-Find.is)
    (find_not_open c.args.history.now c.in-Find.section c.in-Find.cell c.in-Find.slot c.in-Find.version c.in-Find.by (λ is_open. let f = c.if-not-is_open-2.ensures.1 is_open in cc))

pub returns-in-Find-2-clause-refused : goal.returns-in-Find-2-clause-refused
returns-in-Find-2-clause-refused c = subst (λ (e : Event). (IsRefusal c.args.history.now e WrongFind) × (¬ MayFollow c.args.history.now e)) (sym c.in-Find-2.is)
    (find_wrong c.args.history.now c.in-Find-2.section c.in-Find-2.cell c.in-Find-2.slot c.in-Find-2.version c.in-Find-2.by
    (subst (λ (s : ℕ). IsOpen c.args.history.now s) (let one = c.in-Find.is in let two = c.in-Find-2.is in same_section (sym one ∙ two)) (c.if-not-is_open-2.ensures.0 refl))
    (λ is. let f = c.if-not-is_current.ensures.1 is in cc))

pub returns-in_default-7-clause-follows : goal.returns-in_default-7-clause-follows
returns-in_default-7-clause-follows c = subst (λ (e : Event). MayFollow c.args.history.now e) (sym c.in-Find-2.is)
    (let now = c.if-not-is_current.ensures.0 refl in (
      subst (λ (s : ℕ). IsOpen c.args.history.now s) (let one = c.in-Find.is in let two = c.in-Find-2.is in same_section (sym one ∙ two)) (c.if-not-is_open-2.ensures.0 refl),
      now.0,
      now.1,
    ))
