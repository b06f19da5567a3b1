-- One round more.
use Rattle.std.proofs.Common.{ℕ, ◌+◌, sym, subst, add-one}
use Rattle.race.proofs.Words.{Course, Reader, Updater}
use Rattle.race.specs.Readers as reading
use Rattle.race.specs.Updaters as updating

pub one_read : (g : Course) (n : ℕ) (r d r' : Reader) → reading.MakesRounds g n r d → reading.MakesRound g n d r' → reading.MakesRounds g (n + 1) r r'
one_read g n r d r' before one = subst (λ k. reading.MakesRounds g k r r') (sym (add-one n)) (d, before, one)

pub one_made : (g : Course) (n : ℕ) (u d u' : Updater) → updating.MakesRounds g n u d → updating.MakesRound g n d u' → updating.MakesRounds g (n + 1) u u'
one_made g n u d u' before one = subst (λ k. updating.MakesRounds g k u u') (sym (add-one n)) (d, before, one)
