use Rattle.std.proofs.Common.{◌+◌, ◌*◌, sym, ap, ◌∙◌}
use Rattle.sections.specs.Loans.{offer_found}
use Rattle.sections.proofs.Lending.{pinned_at, offers_as, catches_as, knows_offer, catches_up, same_lender, still_bare, still_begun, still_of_kind, right_free, has_unit, paid_back}
use Rattle.sections.proofs.cpu.Cpu.pay.Goals as goal

pub pay_in-requires-clause-found : goal.pay_in-requires-clause-found
pay_in-requires-clause-found g c =
    knows_offer c.found.invariant (pinned_at c.found.view_is c.loan.invariant.pinned) (ap (λ z. z.section.domain) c.loan.view_is ∙ (c.requires.here ∙ (ap (λ z. z.domain) (sym c.self.view_is) ∙ (c.self.invariant.placed.seated ∙ ap (λ z. z.shared.table_id) (sym c.deref.ensures)))))
    (offers_as (ap (λ z. z.shared.key.processors) c.deref.ensures ∙ ap (λ z. z.processors) c.self.view_is) (c.found.view_is ∙ ap (λ z. z.found) c.loan.view_is) c.requires.vault)

pub pay_in-requires-clause-unit : goal.pay_in-requires-clause-unit
pay_in-requires-clause-unit g c = has_unit c.loan.invariant.right (ap (λ f. 8 * f.cell + f.slot) (sym c.found.view_is)) (ap (λ z. (offer_found z.found).round) c.loan.view_is ∙ sym c.requires.part.1)

pub invariant_of-result : goal.invariant_of-result
invariant_of-result g c =
    let d = c.pay_in.ensures.pays in
    let now = paid_back d c.loan.invariant.right (ap (λ f. 8 * f.cell + f.slot) (sym c.found.view_is)) (ap (λ z. (offer_found z.found).round) c.loan.view_is ∙ sym c.requires.part.1) in record {
      bare = still_bare d.covers now c.loan.invariant.bare;
      right = right_free now;
      begun = still_begun d.covers now c.loan.invariant.begun;
      kind = still_of_kind d.covers now c.loan.invariant.kind;
    }

pub returns-clause-catches : goal.returns-clause-catches
returns-clause-catches g c = catches_as (ap (λ z. z.section) c.loan.view_is) (c.found.view_is ∙ ap (λ z. z.found) c.loan.view_is) c.self.view_is (catches_up c.found.invariant (pinned_at c.found.view_is c.loan.invariant.pinned) c.self.invariant c.pay_in.ensures.pays.covers)

pub returns-clause-section : goal.returns-clause-section
returns-clause-section g c = same_lender c.pay_in.ensures.pays.covers (paid_back c.pay_in.ensures.pays c.loan.invariant.right (ap (λ f. 8 * f.cell + f.slot) (sym c.found.view_is)) (ap (λ z. (offer_found z.found).round) c.loan.view_is ∙ sym c.requires.part.1)) ∙ ap (λ z. z.section) c.loan.view_is
