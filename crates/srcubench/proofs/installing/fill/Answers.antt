-- One key more was refused.
use Rattle.std.proofs.Common.{subst}
use Rattle.plugs.specs.declared.refusals.InstallRefusal.{InstallRefusal}
use Rattle.plugs.specs.Changes.{IsNotInstalled}
use Rattle.srcubench.proofs.Tabled.{filled}
use Rattle.srcubench.proofs.installing.fill.Goals as goal

pub returns-clause-fills : goal.returns-clause-fills
returns-clause-fills c =
    let refused = subst (λ (x : InstallRefusal). IsNotInstalled 15 x c.install_all.new.table c.install_all.new.cpu c.install.new.self c.install.new.cpu) c.in-Err-Full.field-0-is c.in-Err-Full.ensures.installs in
    filled c.args.table.now c.args.cpu.now c.install_all.new.table c.install_all.new.cpu c.install.new.self c.install.new.cpu c.in_ok-install_all.ensures.installs refused
