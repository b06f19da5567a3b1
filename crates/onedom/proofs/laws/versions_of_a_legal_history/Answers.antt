use Rattle.onedom.proofs.Versions.{current_is_shelved, found_stays, clear_until_put, reclaim}
use Rattle.onedom.proofs.laws.versions_of_a_legal_history.Goals as goal

pub returns : goal.returns
returns c = record { current = current_is_shelved; found = found_stays; clear = clear_until_put; reclaim = reclaim }
