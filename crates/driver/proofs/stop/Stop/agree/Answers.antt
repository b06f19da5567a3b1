-- Of the two sights one goes on from the other, and a sign that is given stays as it is.
use Rattle.driver.proofs.Ending.{told_the_same}
use Rattle.driver.proofs.stop.Stop.agree.Goals as goal

pub returns : goal.returns
returns g c = λ by also says says_too. let row = c.hear.ensures.goes in
    told_the_same by also row.0 row.1 c.hear.result.seen c.args.told.seen c.args.other.seen says.before says_too.before row.2 row.3 c.hear.ensures.covers c.hear.ensures.hears says.seen says_too.seen
