-- Jobs that are given out, one round behind the other.
use Rattle.std.proofs.Common.{◌≡◌, ℕ, ◌+◌, [], ◌∷◌, Option, refl, sym, ap, subst, add-one}
use Rattle.domain.specs.Views.{DomainView, CpuView}
use Rattle.srcubench.specs.Calling.{RunsReady}
use Rattle.srcubench.specs.Giving.{jobs_in, RunsEach, GivesRound, GivesAll}

-- one processor more
pub one_more : (d : DomainView) (p before : ℕ) (more : Option ℕ) (c b c' : CpuView ℕ) → RunsEach d p before c b → RunsReady d p more b c' → RunsEach d (p + 1) (before + jobs_in more) c c'
one_more d p before more c b c' each ready = subst (λ k. RunsEach d k (before + jobs_in more) c c') (sym (add-one p)) (b, before, more, each, ready, refl)

pub one_more_of : (d : DomainView) (p before came : ℕ) (more : Option ℕ) (c b c' : CpuView ℕ) → RunsEach d p before c b → RunsReady d p more b c' → came ≡ before + jobs_in more → RunsEach d (p + 1) came c c'
one_more_of d p before came more c b c' each ready is = subst (λ n. RunsEach d (p + 1) n c c') (sym is) (one_more d p before more c b c' each ready)

-- one round more
pub one_round : (d : DomainView) (queuers came more : ℕ) (c b c' : CpuView ℕ) → queuers ≡ c.cpu.processor → GivesAll d came c b → GivesRound d queuers more b c' → GivesAll d (came + more) c c'
one_round d queuers came more c b c' is before one = record {
  rounds = more ∷ before.rounds;
  gives = (b, before.gives, subst (λ q. GivesRound d q more b c') is one);
  came = ap (λ n. n + more) before.came;
}

pub no_round : (d : DomainView) (c : CpuView ℕ) → GivesAll d 0 c c
no_round d c = record { rounds = []; gives = refl; came = refl }
