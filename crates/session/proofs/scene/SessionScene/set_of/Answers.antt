use Rattle.std.proofs.Common.{◌∙◌, rules, sym, ap}
use Rattle.std.specs.Prelude.{bytes_eq}
use borrow.Author.Tests.{tests}
use Rattle.std.proofs.lemmas.Iterator.{YieldsList-from_slice}
use Rattle.std.proofs.lemmas.Iterator.Search.{position_from_yields_List}
use Rattle.session.specs.States.{SessionView, SetState, set_place}
use Rattle.session.specs.Sets.{SetView, set_of}
use Rattle.session.proofs.Places.{position-map}
use Rattle.session.proofs.scene.SessionScene.set_of.Goals as goal

pub returns : goal.returns
returns g c =
    position_from_yields_List (λ (k : SetView). bytes_eq k.name c.args.set.now) _ _ c.position.result c.position.ensures.ran (YieldsList-from_slice c.self.inside.sets.items cc) (λ x b q k. search (rules, tests))
    ∙ (sym (position-map (λ (k : SetState). bytes_eq k.name c.args.set.now) set_of c.self.inside.sets.items) ∙ ap (λ (v : SessionView). set_place c.args.set.now v.state.sets) c.self.view_is)
