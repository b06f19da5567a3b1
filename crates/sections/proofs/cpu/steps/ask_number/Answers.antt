use Rattle.std.proofs.Common.{rules, ◌≡◌, ◌≢◌, ℕ, ◌∙◌, eq-eqb, subst}
use Rattle.sseq.specs.Numbers.{IsCookieNumber}
use Rattle.sseq.proofs.CallerLemmas.{done_one, done_other}
use Rattle.sections.proofs.Steps.{asks_here}
use Rattle.sections.proofs.Seating.{two_words}
use Rattle.sections.proofs.Polling.{asks_number}
use Rattle.sections.proofs.cpu.steps.ask_number.Goals as goal

pub load-found-requires : goal.load-found-requires
load-found-requires g c = (
  c.requires.placed.seated,
  two_words _ _ _ c.requires.placed.wide,
  asks_here _ _ _ _ c.requires.role.0 _ c.requires.placed.sized c.requires.role.1 c.requires.role.2 (subst (λ (n : ℕ). IsCookieNumber n) c.requires.cookie.0 c.requires.cookie.1),
)

pub returns-then-cookie-eq-COMPLETED : goal.returns-then-cookie-eq-COMPLETED
returns-then-cookie-eq-COMPLETED g c =
    let told = c.load-found.ensures in
    let one : c.args.cookie ≡ 1 = c.if-cookie-eq-COMPLETED.true in
    asks_number c.args.cookie _ c.load-found.result _ _ _ c.requires.cookie.0 told.0 told.2.0 told.2.1 told.2.2 told.2.3 (eq-eqb c.args.cookie 1 one ∙ done_one c.load-found.result c.args.cookie one)

pub returns-else-cookie-eq-COMPLETED : goal.returns-else-cookie-eq-COMPLETED
returns-else-cookie-eq-COMPLETED g c =
    let told = c.load-found.ensures in
    let other : c.args.cookie ≢ 1 = search rules in
    asks_number c.args.cookie _ c.load-found.result _ _ _ c.requires.cookie.0 told.0 told.2.0 told.2.1 told.2.2 told.2.3 (done_other c.load-found.result c.args.cookie other)
