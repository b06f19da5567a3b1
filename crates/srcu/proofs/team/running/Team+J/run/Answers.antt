-- The workers go out, and come back.
use Rattle.std.proofs.Common.{◌≡◌, ◌+◌, ℕ, length, ap, sym, ◌∙◌, subst, arith}
use Rattle.domain.specs.Views.{DomainView}
use Rattle.srcu.specs.Teams.{TeamView}
use Rattle.srcu.specs.Crews.{MayRun, RunStays, AllRan}
use Rattle.srcu.proofs.Crewing.{takes_all, all_back, as_many, all_ran}
use Rattle.srcu.proofs.team.running.Team+J.run.Goals as goal

pub at_once-requires-after_bounds : goal.at_once-requires-after_bounds
at_once-requires-after_bounds g c κs within =
    let here : c.args.self.now.domain ≡ c.self.inside.domain.now = sym (ap (λ (t : TeamView). t.domain) c.self.view_is) in
    let out = c.in_ok-workers.ensures in
    takes_all g.F.Fn c.args.work c.self.inside.domain.now c.args.many (subst (λ (d : DomainView). MayRun g.F.Fn c.args.work d c.args.many) here c.requires.may) _ _ out.numbers (sym c.in_ok-workers.workers.ok.0 ∙ out.workers.1) out.workers.0

pub disband-requires-clause-workers : goal.disband-requires-clause-workers
disband-requires-clause-workers g c =
    let here : c.args.self.now.domain ≡ c.self.inside.domain.now = sym (ap (λ (t : TeamView). t.domain) c.self.view_is) in
    all_back g.F.Fn c.args.work c.self.inside.domain.now (subst (λ (d : DomainView). RunStays g.F.Fn c.args.work d) here c.requires.stays) _ _ _ _ c.in_ok-workers.ensures.workers.0 c.in-Ok.ensures

pub disband-requires-clause-room : goal.disband-requires-clause-room
disband-requires-clause-room g c =
    let out = c.in_ok-workers.ensures in
    let same = sym c.in_ok-workers.workers.ok.0 ∙ out.workers.1 in
    let many = as_many g.F.Fn c.args.work c.self.inside.domain.now c.args.many _ _ _ _ out.numbers same c.in-Ok.ensures in
    let back = c.in-Ok.workers.ok.0 ∙ many in
    let left = out.workers.2 in
    let cap = c.enlist.ensures.capacity in
    let room = c.self.inside.cpus.ok.1 in
    omega (arith, back, left, cap, room)

pub returns-in-Ok-clause-same : goal.returns-in-Ok-clause-same
returns-in-Ok-clause-same g c =
    let out = c.in_ok-workers.ensures in
    let same = sym c.in_ok-workers.workers.ok.0 ∙ out.workers.1 in
    let many = as_many g.F.Fn c.args.work c.self.inside.domain.now c.args.many _ _ _ _ out.numbers same c.in-Ok.ensures in
    let back = c.in-Ok.workers.ok.0 ∙ many in
    let left = out.workers.2 in
    let all = c.disband.ensures.back in
    let a = c.disband.new.cpus.ok.0 in
    let b = c.self.inside.cpus.ok.0 in
    let long : length c.disband.new.cpus.items ≡ length c.self.inside.cpus.items = omega (arith, back, left, all, a, b) in
    ap (λ (n : ℕ). record { domain = c.self.inside.domain.now; cpus = n; writers = length c.self.inside.writers.items }) long ∙ c.self.view_is

pub returns-in-Ok-clause-ran : goal.returns-in-Ok-clause-ran
returns-in-Ok-clause-ran g c =
    let here : c.args.self.now.domain ≡ c.self.inside.domain.now = sym (ap (λ (t : TeamView). t.domain) c.self.view_is) in
    let out = c.in_ok-workers.ensures in
    let same = sym c.in_ok-workers.workers.ok.0 ∙ out.workers.1 in
    rw here (all_ran g.F.Fn c.args.work c.self.inside.domain.now c.args.many _ _ _ _ out.numbers same out.workers.0 c.in-Ok.ensures)
