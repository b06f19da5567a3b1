-- There is room for all.
use Rattle.srcubench.proofs.Finds.{all_found}
use Rattle.srcubench.proofs.finding.find_all.Goals as goal

pub returns : goal.returns
returns c =
    let all = all_found _ _ _ _ _ c.requires.room c.find_often-made.ensures in
    record { all = all.all; finds = all.finds }
