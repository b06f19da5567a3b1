-- Neither of the two calls begins or ends a section.
use Rattle.driver.proofs.CallerLemmas.{kept_finding, kept_loading, kept_trans}
use Rattle.driver_tests.proofs.tests.lending.first_word.Goals as goal

pub returns-clause-kept : goal.returns-clause-kept
returns-clause-kept c = kept_trans _ _ _ (kept_finding _ _ c.find-version.result.found _ _ c.find-version.ensures.acts) (kept_loading _ _ c.word.ensures.acts)
