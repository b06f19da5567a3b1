use Rattle.std.proofs.Common.{◌≡◌, Bool, ap, ◌∙◌}
use Rattle.std.specs.List.{list_all}
use Rattle.session.specs.States.{Member}
use Rattle.session.specs.Sets.{SetView, members_of}
use Rattle.session.proofs.Cookies.{all_found}
use Rattle.session.proofs.sets.NamedSet.is_done.Goals as goal

pub returns : goal.returns
returns c =
    c.done.ensures.found
    ∙ (all_found c.self.inside.places.items c.self.inside.set c.self.invariant
    ∙ ap (λ (v : SetView). list_all (λ (m : Member). m.found) (members_of v.places v.members)) c.self.view_is)
