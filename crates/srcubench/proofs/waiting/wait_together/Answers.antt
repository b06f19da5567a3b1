-- Each processor is the domain's, and no reading is open there.
use Rattle.std.proofs.Common.{sym, subst}
use Rattle.std.proofs.lemmas.List.Elements.{All-get_or}
use Rattle.domain.specs.Views.{CpuView, IsOf}
use Rattle.domain.specs.Waiting.{HasNoneOpen}
use Rattle.srcubench.proofs.waiting.wait_together.Goals as goal

pub map_vec-requires-after_bounds : goal.map_vec-requires-after_bounds
map_vec-requires-after_bounds g c κs within i x lt e =
    let ready : IsOf c.args.domain.now x × HasNoneOpen x = subst (λ (z : CpuView (Unit {0})). IsOf c.args.domain.now z × HasNoneOpen z) (sym e) (All-get_or (λ (z : CpuView (Unit {0})). IsOf c.args.domain.now z × HasNoneOpen z) c.args.cpus.items i x lt c.requires) in
    λ κs' pointer borrowed fits κs'' lives. ready
