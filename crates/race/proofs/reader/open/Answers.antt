-- So few sections were begun that the processor isn't refused one.
use Rattle.std.proofs.Common.{◌<◌, arith}
use Rattle.sections.specs.Glossary.{opened_in}
use Rattle.race.proofs.Stepping.{not_in_vain}
use Rattle.race.proofs.reader.open.Goals as goal

-- src/reader.rt:33:9
pub unreachable-requires : goal.unreachable-requires
unreachable-requires c =
    let cpu = c.args.reader.now.cpu.cpu in
    let few : opened_in cpu.mine < cpu.sections = (let told = c.requires.tells.opened in let limit = c.requires.is.limit in let below = c.requires.few in omega (arith, told, limit, below)) in
    not_in_vain cpu c.lease.new.cpu.cpu few c.in_default.ensures.leases
