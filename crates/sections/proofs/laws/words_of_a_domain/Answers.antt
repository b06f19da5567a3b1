use Rattle.sections.proofs.OneHistory.{one_history, words_agree, shown_is_seen}
use Rattle.sections.proofs.laws.words_of_a_domain.Goals as goal

pub returns : goal.returns
returns c = record { history = one_history; words = words_agree; shown = shown_is_seen }
