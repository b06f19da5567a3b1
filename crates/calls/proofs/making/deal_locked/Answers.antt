use Rattle.std.proofs.Common.{ap, sym, ◌∙◌}
use Rattle.calls.specs.Views.{key_of}
use Rattle.calls.proofs.making.deal_locked.Goals as goal

pub new-requires : goal.new-requires
new-requires g c =
    let dealt = c.in_ok-seat.ensures.0 in
    ap key_of dealt.list ∙ (λ i. record { domain = dealt.of_domain i; tallies = sym c.requires.spot.0 i; processor = c.args.spot.now.processor })
