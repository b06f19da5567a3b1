-- The workers go out, and come back; so does the one of this thread.
use Rattle.std.proofs.Common.{◌≡◌, ◌+◌, ℕ, length, ap, sym, ◌∙◌, subst, arith, refl, Some}
use Rattle.std.proofs.lemmas.List.Elements.{All-pop, All-push, All-same}
use Rattle.domain.specs.Views.{DomainView}
use Rattle.driver.specs.Pools.{IsIdle}
use Rattle.srcu.specs.Teams.{TeamView}
use Rattle.srcu.specs.Workers.{WorkerView}
use Rattle.srcu.specs.Crews.{MayRun, RunStays, AllRan, MayControl, ControlStays, IsControlled}
use Rattle.srcu.proofs.Crewing.{takes_all, all_back, as_many, all_ran, still_controlled, was_controlled}
use Rattle.srcu.proofs.team.running.Team+J.run_beside.Goals as goal

pub at_once_beside-requires-clause-takes : goal.at_once_beside-requires-clause-takes
at_once_beside-requires-clause-takes g c κs within =
    let here : c.args.self.now.domain ≡ c.self.inside.domain.now = sym (ap (λ (t : TeamView). t.domain) c.self.view_is) in
    let out = c.in-Ok.ensures in
    takes_all g.F.Fn c.args.work c.self.inside.domain.now c.args.many (subst (λ (d : DomainView). MayRun g.F.Fn c.args.work d c.args.many) here c.requires.may) _ _ out.numbers (sym c.in-Ok.crew.0.ok.0 ∙ out.workers.1) out.workers.0

pub disband-requires-clause-workers : goal.disband-requires-clause-workers
disband-requires-clause-workers g c =
    let here : c.args.self.now.domain ≡ c.self.inside.domain.now = sym (ap (λ (t : TeamView). t.domain) c.self.view_is) in
    all_back g.F.Fn c.args.work c.self.inside.domain.now (subst (λ (d : DomainView). RunStays g.F.Fn c.args.work d) here c.requires.stays) _ _ _ _ c.in-Ok.ensures.workers.0 c.in-Ok-at_once_beside.ensures.0

pub disband-requires-clause-room : goal.disband-requires-clause-room
disband-requires-clause-room g c =
    let out = c.in-Ok.ensures in
    let same = sym c.in-Ok.crew.0.ok.0 ∙ out.workers.1 in
    let many = as_many g.F.Fn c.args.work c.self.inside.domain.now c.args.many _ _ _ _ out.numbers same c.in-Ok-at_once_beside.ensures.0 in
    let back = c.in-Ok-at_once_beside.back.0.ok.0 ∙ many in
    let left = out.workers.2 in
    let cap = c.enlist.ensures.capacity in
    let popped = c.in-Some.ensures.len in
    let first = c.in-Some.ensures.capacity in
    let room = c.self.inside.cpus.ok.1 in
    omega (arith, back, left, cap, room, popped, first)

pub push_reserved-requires-in-Ok-at_once_beside : goal.push_reserved-requires-in-Ok-at_once_beside
push_reserved-requires-in-Ok-at_once_beside g c =
    let out = c.in-Ok.ensures in
    let same = sym c.in-Ok.crew.0.ok.0 ∙ out.workers.1 in
    let many = as_many g.F.Fn c.args.work c.self.inside.domain.now c.args.many _ _ _ _ out.numbers same c.in-Ok-at_once_beside.ensures.0 in
    let back = c.in-Ok-at_once_beside.back.0.ok.0 ∙ many in
    let left = out.workers.2 in
    let cap = c.enlist.ensures.capacity in
    let popped = c.in-Some.ensures.len in
    let first = c.in-Some.ensures.capacity in
    let room = c.self.inside.cpus.ok.1 in
    let all = c.disband.ensures.back in
    let last = c.disband.ensures.capacity in
    omega (arith, back, left, cap, room, popped, first, all, last)

pub new-worker-requires : goal.new-worker-requires
new-worker-requires g c = (All-pop (IsIdle c.self.inside.domain.now) _ _ (Some c.in-Some.cpu) c.in-Some.ensures.items c.self.invariant.0).1

pub enlist-requires : goal.enlist-requires
enlist-requires g c = (All-pop (IsIdle c.self.inside.domain.now) _ _ (Some c.in-Some.cpu) c.in-Some.ensures.items c.self.invariant.0).0

pub invariant_of-self-in-Ok-at_once_beside : goal.invariant_of-self-in-Ok-at_once_beside
invariant_of-self-in-Ok-at_once_beside g c =
    let d = c.self.inside.domain.now in
    let here : c.args.self.now.domain ≡ d = sym (ap (λ (t : TeamView). t.domain) c.self.view_is) in
    let left = still_controlled g.G.FnOnce c.args.control d (subst (λ (x : DomainView). ControlStays g.G.FnOnce c.args.control x) here c.requires.control_stays) c.new-worker.result c.at_once_beside.new.control.1.now _
    (ap (λ (w : WorkerView g.row.J.Denot). w.domain) c.new-worker.ensures) c.in-Ok-at_once_beside.ensures.1.met.1 in
    let link : c.worker-2-1.given.0 ≡ c.at_once_beside.new.control.1.now = c.worker-2-1.given.1 (sym c.in-Ok-at_once_beside.ensures.1.met.0.1) in
    let idle = subst (λ (x : DomainView). IsIdle x c.into_cpu-in-Ok-at_once_beside.result) (ap (λ (w : WorkerView g.row.J.Denot). w.domain) link ∙ left) c.into_cpu-in-Ok-at_once_beside.ensures.idle in
    (All-same (IsIdle d) _ _ c.push_reserved-in-Ok-at_once_beside.ensures.items (All-push (IsIdle d) _ _ c.disband.ensures.idle idle), c.self.invariant.1)

pub returns-in-Ok-at_once_beside-clause-same : goal.returns-in-Ok-at_once_beside-clause-same
returns-in-Ok-at_once_beside-clause-same g c =
    let out = c.in-Ok.ensures in
    let same = sym c.in-Ok.crew.0.ok.0 ∙ out.workers.1 in
    let many = as_many g.F.Fn c.args.work c.self.inside.domain.now c.args.many _ _ _ _ out.numbers same c.in-Ok-at_once_beside.ensures.0 in
    let back = c.in-Ok-at_once_beside.back.0.ok.0 ∙ many in
    let left = out.workers.2 in
    let popped = c.in-Some.ensures.len in
    let all = c.disband.ensures.back in
    let last = c.push_reserved-in-Ok-at_once_beside.ensures.len in
    let a = c.push_reserved-in-Ok-at_once_beside.new.self.ok.0 in
    let b = c.self.inside.cpus.ok.0 in
    let long : length c.push_reserved-in-Ok-at_once_beside.new.self.items ≡ length c.self.inside.cpus.items = omega (arith, back, left, popped, all, last, a, b) in
    ap (λ (n : ℕ). record { domain = c.self.inside.domain.now; cpus = n; writers = length c.self.inside.writers.items }) long ∙ c.self.view_is

pub returns-in-Ok-at_once_beside-clause-ran : goal.returns-in-Ok-at_once_beside-clause-ran
returns-in-Ok-at_once_beside-clause-ran g c =
    let here : c.args.self.now.domain ≡ c.self.inside.domain.now = sym (ap (λ (t : TeamView). t.domain) c.self.view_is) in
    let out = c.in-Ok.ensures in
    let same = sym c.in-Ok.crew.0.ok.0 ∙ out.workers.1 in
    rw here (all_ran g.F.Fn c.args.work c.self.inside.domain.now c.args.many _ _ _ _ out.numbers same out.workers.0 c.in-Ok-at_once_beside.ensures.0)

pub returns-in-Ok-at_once_beside-clause-controlled : goal.returns-in-Ok-at_once_beside-clause-controlled
returns-in-Ok-at_once_beside-clause-controlled g c =
    let here : c.args.self.now.domain ≡ c.self.inside.domain.now = sym (ap (λ (t : TeamView). t.domain) c.self.view_is) in
    rw here (was_controlled g.G.FnOnce c.args.control c.self.inside.domain.now c.new-worker.result c.at_once_beside.new.control.1.now _ (ap (λ (w : WorkerView g.row.J.Denot). w.domain) c.new-worker.ensures) c.in-Ok-at_once_beside.ensures.1.met.1)

pub invariant_of-self-in-Err-at_once_beside : goal.invariant_of-self-in-Err-at_once_beside
invariant_of-self-in-Err-at_once_beside g c =
    let d = c.self.inside.domain.now in
    let same = c.in-Err-at_once_beside.ensures.1 in
    let link : c.worker-2-1.given.0 ≡ c.at_once_beside.new.control.1.now = c.worker-2-1.given.1 (sym (ap (λ k. k.1.ghost_name) same)) in
    let left = ap (λ (w : WorkerView g.row.J.Denot). w.domain) link ∙ (ap (λ k. k.1.now.domain) same ∙ ap (λ (w : WorkerView g.row.J.Denot). w.domain) c.new-worker.ensures) in
    let idle = subst (λ (x : DomainView). IsIdle x c.into_cpu-in-Err-at_once_beside.result) left c.into_cpu-in-Err-at_once_beside.ensures.idle in
    (All-same (IsIdle d) _ _ c.push_reserved-in-Err-at_once_beside.ensures.items (All-push (IsIdle d) _ _ c.disband-in-Err-at_once_beside.ensures.idle idle), c.self.invariant.1)
