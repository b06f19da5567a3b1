use Rattle.std.proofs.Common.{refl}
use Rattle.solo.proofs.Calling.{Hand, hand_of, in_items, all_here, says_does}
use Rattle.domain.specs.Glossary.{notes}
use Rattle.solo.proofs.solo.Solo.cookie.Goals as goal

pub index_mut-requires : goal.index_mut-requires
index_mut-requires g c = in_items c.self.invariant.met c.self.view_is c.requires _ c.self.inside.members.cpus.ok.0

pub settle-requires : goal.settle-requires
settle-requires g c = all_here c.self.invariant.met c.self.view_is c.requires c.index_mut.ensures.value c.cookie-cookie.ensures.acts c.cookie-cookie.ensures.stays

pub invariant_of-self : goal.invariant_of-self
invariant_of-self g c =
    let hand : Hand g.row.J.Denot = hand_of c.args.processor c.cookie-cookie.new.self c.self.invariant.met c.self.view_is c.requires c.index_mut.ensures.value c.settle.ensures.all c.settle.ensures.meets in
    record { engine = c.settle.ensures.meets.left; met = (says_does hand (notes c.cookie-cookie.result.number) c.cookie-cookie.ensures.acts refl refl).met }

pub returns-clause-same : goal.returns-clause-same
returns-clause-same g c =
    let hand : Hand g.row.J.Denot = hand_of c.args.processor c.cookie-cookie.new.self c.self.invariant.met c.self.view_is c.requires c.index_mut.ensures.value c.settle.ensures.all c.settle.ensures.meets in
    (says_does hand (notes c.cookie-cookie.result.number) c.cookie-cookie.ensures.acts refl refl).same

pub returns-clause-cookie : goal.returns-clause-cookie
returns-clause-cookie g c =
    let hand : Hand g.row.J.Denot = hand_of c.args.processor c.cookie-cookie.new.self c.self.invariant.met c.self.view_is c.requires c.index_mut.ensures.value c.settle.ensures.all c.settle.ensures.meets in
    rw c.number.ensures.value (says_does hand (notes c.cookie-cookie.result.number) c.cookie-cookie.ensures.acts refl refl).what
