use Rattle.std.proofs.Common.{rules, ◌≡◌, ap, ◌∙◌, sym, subst}
use Rattle.funnel.specs.Plays.{FindsRoot}
use Rattle.funnel.proofs.Calling.{loads_root, root_is_number}
use Rattle.funnel.proofs.seat.FunnelSeat.root_need.Goals as goal

pub unwrap-requires : goal.unwrap-requires
unwrap-requires g c = let number = root_is_number _ _ _ c.load_root-found.ensures.root in search rules

pub returns : goal.returns
returns g c =
    let v = c.self.invariant in
    let same : c.load_root-found.result ≡ c.unwrap.result = search rules in
    let moved = c.load_root-found.ensures.placed.seated ∙ (ap (λ t. t.shared.table_id) c.deref.ensures ∙ sym v.placed.seated) in
    let found : FindsRoot c.unwrap.result c.self.inside.seat.me.0 c.load_root-found.new.seat.me.0 = subst (λ n. FindsRoot n c.self.inside.seat.me.0 c.load_root-found.new.seat.me.0) same c.load_root-found.ensures.root in
    rw (← c.self.view_is) (loads_root _ _ _ _ _ _ c.load_root-found.new.seat.me.0 moved v.placed.shaped v.holder v.rests.idle found)
