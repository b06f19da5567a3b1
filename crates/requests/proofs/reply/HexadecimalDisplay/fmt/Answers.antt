use Rattle.std.proofs.Common.{subst}
use Rattle.std.specs.Fmt.{DisplaysOnOk}
use Rattle.requests.proofs.Hexadecimal.{is_shown}
use Rattle.requests.proofs.reply.HexadecimalDisplay.fmt.Goals as goal

pub returns : goal.returns
returns g c = record {
  writes = subst (λ o. DisplaysOnOk g.W.Write.write_str_gives c.args.f.now c.write.result o c.write.new.self) (is_shown c.in_radix.result c.laid_out.result c.args.self.now.0 c.laid_out.ensures c.in_radix.ensures) c.write.ensures.writes;
  styled = tt;
}
