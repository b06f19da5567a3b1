-- The version that was found is loaded twice, and has the same words each time.
use Rattle.std.proofs.Common.{◌≡◌, subst}
use Rattle.srcu.specs.Words.{FoundView, AreWords}
use Rattle.srcu.proofs.CallerLemmas.{same_words}
use Rattle.tour.proofs.readers.sleep_in_section.Goals as goal

pub returns : goal.returns
returns g c =
    let first = c.load-before.ensures.loads in
    let second = c.load-behind.ensures.loads in
    let found = c.find-version.result.found in
    let are : AreWords found second.words = subst (λ (f : FoundView). AreWords f second.words) c.load-before.ensures.same.1 second.loads.words_are in
    let same : second.words ≡ first.words = same_words found second.words first.words are first.loads.words_are in
    cc (second.is, first.is)
