-- What the closure answered last is the last result.
use Rattle.std.proofs.Common.{rules, ◌≡◌, ℕ, ControlFlow, subst}
use Rattle.roster.specs.Calling.{Calls}
use Rattle.roster.proofs.Folding.{calls_of, payload}
use Rattle.roster.proofs.callers.Callers.call.Goals as goal

pub returns-in-Continue-clause-calls : goal.returns-in-Continue-clause-calls
returns-in-Continue-clause-calls g c =
    subst (λ (a : ControlFlow ℕ ℕ). Calls (λ h r. g.H.Handler.answers h c.args.action c.args.value r) c.args.self.now.users.boxes c.args.cpu.now.cpu c.try_fold.new.cpu.cpu c.try_fold.new.self.last (payload a)) c.in-Continue.is
    (calls_of _ (λ h r. g.H.Handler.answers h c.args.action c.args.value r) _ c.args.self.now.users.boxes c.args.cpu.now.cpu c.try_fold.new.cpu.cpu c.try_fold.new.self.last _ c.in_ok-last.ensures.folds (λ x k d answer f' called. search rules))

pub returns-in-Break-clause-calls : goal.returns-in-Break-clause-calls
returns-in-Break-clause-calls g c =
    subst (λ (a : ControlFlow ℕ ℕ). Calls (λ h r. g.H.Handler.answers h c.args.action c.args.value r) c.args.self.now.users.boxes c.args.cpu.now.cpu c.try_fold.new.cpu.cpu c.try_fold.new.self.last (payload a)) c.in-Break.is
    (calls_of _ (λ h r. g.H.Handler.answers h c.args.action c.args.value r) _ c.args.self.now.users.boxes c.args.cpu.now.cpu c.try_fold.new.cpu.cpu c.try_fold.new.self.last _ c.in_ok-last.ensures.folds (λ x k d answer f' called. search rules))
