use Rattle.std.proofs.Common.{◌≡◌, List, subst, rules}
use Rattle.onedom.specs.declared.event.Event.{Event}
use Rattle.onedom.specs.Histories.{MayFollow}
use Rattle.onedom.proofs.Pushes.{legal_pushed}
use Rattle.onedom.proofs.Refused.{memory_refused}
use Rattle.onedom.proofs.one_domain.OneDomain.apply.Goals as goal

pub invariant_of-self-2 : goal.invariant_of-self-2
invariant_of-self-2 g c =
    let may = subst (λ (h : List Event). MayFollow h c.args.event) c.deref.ensures.value c.in_ok-may_follow.ensures.follows in
    legal_pushed _ c.self.inside.events.items c.push.new.self.items c.args.event c.push.ensures.items c.self.invariant may

pub returns-in_err-map_err-clause-refused : goal.returns-in_err-map_err-clause-refused
returns-in_err-map_err-clause-refused g c = let same : c.deref.result.now ≡ c.args.self.now = cc in
    let may = subst (λ (h : List Event). MayFollow h c.args.event) same c.in_ok-may_follow.ensures.follows in
    let refused = memory_refused c.args.self.now c.args.event may in search rules
