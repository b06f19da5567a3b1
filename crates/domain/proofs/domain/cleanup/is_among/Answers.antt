use Rattle.std.proofs.Common.{rules}
use Rattle.std.specs.Prelude.{◌==◌}
use borrow.Author.Tests.{tests}
use Rattle.std.proofs.lemmas.Iterator.{YieldsList-from_slice}
use Rattle.std.proofs.lemmas.Iterator.Search.{any_from_yields_List}
use Rattle.domain.specs.Views.{CpuView}
use Rattle.domain.proofs.domain.cleanup.is_among.Goals as goal

pub returns : goal.returns
returns g c = any_from_yields_List (λ (x : CpuView _). x.cpu.processor == c.args.processor) _ _ c.any.result c.any.ensures.ran (YieldsList-from_slice c.args.cpus.now cc) (λ x b q k. search (rules, tests))
