-- Each processor is the domain's.
use Rattle.std.proofs.Common.{ℕ, sym, subst}
use Rattle.std.proofs.lemmas.List.Elements.{All-get_or}
use Rattle.domain.specs.Views.{CpuView, IsOf}
use Rattle.srcubench.proofs.callbacks.queue_together.Goals as goal

pub map_vec-requires-after_bounds : goal.map_vec-requires-after_bounds
map_vec-requires-after_bounds g c κs within i x lt e =
    let here : IsOf c.args.domain.now x = subst (λ (z : CpuView ℕ). IsOf c.args.domain.now z) (sym e) (All-get_or (λ (z : CpuView ℕ). IsOf c.args.domain.now z) c.args.cpus.items i x lt c.requires) in
    λ κs' pointer borrowed fits κs'' lives. here
