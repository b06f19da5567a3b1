-- Whatever is read where nothing is.
use Rattle.std.proofs.Common.{rules, ◌<◌, length, ◌∙◌}
use Rattle.std.proofs.lemmas.List.{get_or_default}
use Rattle.boxes.proofs.rest.take_at.Goals as goal

pub returns-clause-value : goal.returns-clause-value
returns-clause-value g c = λ d. let low = c.requires in let lt : c.args.place < length c.args.row.now = search rules in c.take.ensures.value ∙ get_or_default c.args.row.now c.args.place _ d lt
