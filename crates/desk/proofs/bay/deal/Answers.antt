use Rattle.std.proofs.Common.{ap, ◌∙◌, refl, arith}
use Rattle.annals.specs.Rule.{dealer}
use Rattle.desk.proofs.BayDealing.{dealt_so}
use Rattle.desk.proofs.bay.deal.Goals as goal

pub deal-requires : goal.deal-requires
deal-requires g c = let d = c.requires.dealer in let one = d.wide in let role = ap (λ m. m.0.role) d.me in (
  omega arith,
  (record { seated = d.seated; some = omega (arith, one) }, (rw role refl, rw role c.requires.there)),
)

pub returns : goal.returns
returns g c = let d = c.requires.dealer in let s = c.deal.ensures in record {
  dealer = record { wide = d.wide; seated = s.table.0 ∙ d.seated; me = s.dealer ∙ (λ q. (dealer (d.me q).0, (d.me q).1)) };
  dealt = dealt_so g.T.Token.domain g.T.Alike.like c.args.top.now.key _ c.args.top.now.table_id c.args.number _ _ (s.table.1 ∙ d.seated) d.me s.dealt;
}
