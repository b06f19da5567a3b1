use Rattle.std.proofs.Common.{refl, sym, ap, ◌∙◌, subst}
use Rattle.solo.proofs.Words.{TableId, AreNewWriters, cells_in}
use Rattle.solo.proofs.Hand.{own_table}
use Rattle.solo.proofs.Founding.{met, is_new_domain}
use Rattle.solo.proofs.solo.Solo.new.Goals as goal

pub invariant_of-solo : goal.invariant_of-solo
invariant_of-solo g c = record { engine = _; met = met c.args.limits c.args.processors c.in_ok-domain.domain c.in_ok-domain.cpus.items c.in_ok-domain.ensures.made c.in_ok-domain.ensures.refused.0 c.in_ok-domain.ensures.refused.1 }

pub returns : goal.returns
returns g c =
    let table = own_table (met c.args.limits c.args.processors c.in_ok-domain.domain c.in_ok-domain.cpus.items c.in_ok-domain.ensures.made c.in_ok-domain.ensures.refused.0 c.in_ok-domain.ensures.refused.1) refl in record {
      domain = is_new_domain c.args.limits c.args.processors c.in_ok-domain.domain c.in_ok-domain.cpus.items c.in_ok-domain.ensures.made c.in_ok-domain.ensures.refused.0 c.in_ok-domain.ensures.refused.1;
      writers = subst (λ (x : TableId). AreNewWriters x c.args.limits.cells c.args.limits.slots c.in_ok-domain.writers.items) (sym table) c.in_ok-domain.ensures.writers;
      cells = ap cells_in table ∙ c.in_ok-domain.ensures.cells;
    }
