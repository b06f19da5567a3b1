use Rattle.std.proofs.Common.{refl, ap, ◌∙◌}
use Rattle.solo.proofs.Calling.{Hand, hand_of, in_items, lent, all_there, says_does, held}
use Rattle.solo.proofs.Words.{asks_for, CookieView}
use Rattle.solo.proofs.solo.Solo.start_poll.Goals as goal

abbrev hand : (g : _) → goal.After-settle g → Hand g.row.J.Denot
hand g c = hand_of c.args.processor c.start_poll-cookie.new.cpu c.self.invariant.met c.self.view_is c.requires c.index_mut-cpu.ensures.value c.settle.ensures.all c.settle.ensures.meets

pub index_mut-cpu-requires : goal.index_mut-cpu-requires
index_mut-cpu-requires g c = in_items c.self.invariant.met c.self.view_is c.requires _ c.self.inside.members.cpus.ok.0

pub start_poll-cookie-requires : goal.start_poll-cookie-requires
start_poll-cookie-requires g c = lent c.self.invariant.met c.self.view_is c.requires c.index_mut-cpu.ensures.value

pub settle-requires : goal.settle-requires
settle-requires g c = all_there c.self.invariant.met c.self.view_is c.requires c.index_mut-cpu.ensures.value c.start_poll-cookie.ensures.acts c.start_poll-cookie.ensures.here

pub invariant_of-self : goal.invariant_of-self
invariant_of-self g c = record { engine = c.settle.ensures.meets.left; met = (says_does (hand g c) (asks_for c.start_poll-cookie.result.number 0) c.start_poll-cookie.ensures.acts refl refl).met }

pub returns : goal.returns
returns g c = let it = says_does (hand g c) (asks_for c.start_poll-cookie.result.number 0) c.start_poll-cookie.ensures.acts refl refl in record { same = it.same; asks = it.what; domain = ap (λ (k : CookieView). k.domain) c.start_poll-cookie.ensures.starts.gives.cookie_is ∙ (held (hand g c)).domain }
