use Rattle.std.proofs.Common.{refl, sym, ap, ◌∙◌}
use Rattle.sections.specs.Loans.{offer_found}
use Rattle.sections.proofs.Pinning.{pinned_as}
use Rattle.sections.proofs.Lending.{offers_as, catches_as, knows_offer, catches_cpu, catches_up, same_lender, still_bare, still_begun, still_of_kind, still_pinned, right_free, right_lent, same_found, drawn, undrawn, lacks}
use Rattle.sections.proofs.cpu.Cpu.draw.Goals as goal
use Rattle.sections.proofs.cpu.Cpu.draw.Goals.{in-Some, in-None}

pub draw_in-part-requires-clause-found : goal.draw_in-part-requires-clause-found
draw_in-part-requires-clause-found g c =
    knows_offer c.found.invariant (pinned_as c.section.view_is c.found.view_is c.pin.invariant)
    (ap (λ z. z.domain) c.section.view_is ∙ (ap (λ z. z.section.domain) c.pin.view_is ∙ (c.requires.here ∙ (ap (λ z. z.domain) (sym c.self.view_is) ∙ (c.self.invariant.placed.seated ∙ ap (λ z. z.shared.table_id) (sym c.deref.ensures))))))
    (offers_as (ap (λ z. z.shared.key.processors) c.deref.ensures ∙ ap (λ z. z.processors) c.self.view_is) (c.found.view_is ∙ ap (λ z. z.found) c.pin.view_is) c.requires.vault)

pub invariant_of-loan : goal.invariant_of-loan
invariant_of-loan g c =
    let d = c.draw_in-part.ensures.draws in
    let one = drawn c.found.invariant (pinned_as c.section.view_is c.found.view_is c.pin.invariant) d c.section.invariant.right c.in-Some.is in
    let same = same_found c.found.inside c.draw_in-part.new.found c.draw_in-part.ensures.found in record {
      bare = still_bare d.covers one.2 c.section.invariant.bare;
      right = right_lent same refl refl one.2;
      begun = still_begun d.covers one.2 c.section.invariant.begun;
      kind = still_of_kind d.covers one.2 c.section.invariant.kind;
      pinned = still_pinned d.covers one.2 same (pinned_as c.section.view_is c.found.view_is c.pin.invariant);
    }

pub invariant_of-result : goal.invariant_of-result
invariant_of-result g c =
    let d = c.draw_in-part.ensures.draws in
    let none = undrawn c.found.invariant (pinned_as c.section.view_is c.found.view_is c.pin.invariant) d c.section.invariant.right c.in-None.is in record {
      bare = still_bare d.covers none c.section.invariant.bare;
      right = right_free none;
      begun = still_begun d.covers none c.section.invariant.begun;
      kind = still_of_kind d.covers none c.section.invariant.kind;
    }

pub invariant_of-self : goal.invariant_of-self
invariant_of-self g c = catches_cpu c.found.invariant (pinned_as c.section.view_is c.found.view_is c.pin.invariant) c.self.invariant c.draw_in-part.ensures.draws.covers

pub returns-clause-catches : goal.returns-clause-catches
returns-clause-catches g c = catches_as (c.section.view_is ∙ ap (λ z. z.section) c.pin.view_is) (c.found.view_is ∙ ap (λ z. z.found) c.pin.view_is) c.self.view_is
    (catches_up c.found.invariant (pinned_as c.section.view_is c.found.view_is c.pin.invariant) c.self.invariant c.draw_in-part.ensures.draws.covers)

pub returns-clause-lends : goal.returns-clause-lends
returns-clause-lends g c =
    let d = c.draw_in-part.ensures.draws in
    elim c.match-part.branch [
      | in-Some w ↦
          let one = drawn c.found.invariant (pinned_as c.section.view_is c.found.view_is c.pin.invariant) d c.section.invariant.right w.in-Some.is in
          let section = same_lender d.covers one.2 ∙ (c.section.view_is ∙ ap (λ z. z.section) c.pin.view_is) in
          let found = same_found c.found.inside c.draw_in-part.new.found c.draw_in-part.ensures.found ∙ (c.found.view_is ∙ ap (λ z. z.found) c.pin.view_is) in
          rw w.result-is ((λ n. record { section = section n; found = found n }), (one.0, one.1 ∙ ap (λ f. (offer_found f).round) (c.found.view_is ∙ ap (λ z. z.found) c.pin.view_is)))
      | in-None w ↦
          let pinned = pinned_as c.section.view_is c.found.view_is c.pin.invariant in
          let now = catches_cpu c.found.invariant pinned c.self.invariant d.covers in
          rw w.result-is (
            same_lender d.covers (undrawn c.found.invariant pinned d c.section.invariant.right w.in-None.is)
                ∙ (c.section.view_is ∙ ap (λ z. z.section) c.pin.view_is),
            rw (← (c.found.view_is ∙ ap (λ z. z.found) c.pin.view_is)) (lacks c.found.invariant pinned d c.section.invariant.right c.self.inside w.in-None.is now.role),
          )
    ]
