-- All workers did their parts, and came back.
use Rattle.std.proofs.Common.{◌∙◌, sym, subst, arith}
use Rattle.crew.specs.declared.member.Member.{Member}
use Rattle.crew.specs.Parts.{Takes, IsReady, Does}
use Rattle.crew.proofs.Rows.{same_long, ready_back, has_worked, zip_weaker, all_done}
use Rattle.crew.proofs.crew.at_once.Goals as goal

pub muster-members-requires-clause-as_many : goal.muster-members-requires-clause-as_many
muster-members-requires-clause-as_many g c = c.args.workers.ok.0 ∙ (same_long (Takes g.F.Fn c.args.work.now) _ _ c.requires ∙ sym c.args.parts.ok.0)

pub do_each-requires-after_bounds : goal.do_each-requires-after_bounds
do_each-requires-after_bounds g c κs within =
    let M = Member g.row.W.Denot g.row.P.Denot g.row.T.Denot in
    let all = ready_back g.F.Fn c.args.work.now _ _ _ c.muster-members.ensures.members c.requires in
    λ k d lt p is. subst (λ (m : M). IsReady g.F.Fn c.args.work.now m) (sym is) (all k d lt)

pub dismiss-requires-clause-done : goal.dismiss-requires-clause-done
dismiss-requires-clause-done g c =
    let M = Member g.row.W.Denot g.row.P.Denot g.row.T.Denot in
    has_worked g.F.Fn c.args.work.now _ _ (zip_weaker _ (Does g.F.Fn c.args.work.now) (λ x y h. subst (λ (m : M). Does g.F.Fn c.args.work.now x m) h.left (subst (λ (m : M). Does g.F.Fn c.args.work.now m h.after_call.now) h.argument_is h.call)) _ _ c.do_each.ensures.each)

pub dismiss-requires-clause-room : goal.dismiss-requires-clause-room
dismiss-requires-clause-room g c =
    let many = c.do_each.ensures.as_many in
    let all = c.muster-members.ensures.as_many in
    let left = c.muster-members.ensures.workers.0 in
    let cap = c.muster-members.ensures.workers.1 in
    let long = c.args.workers.ok.1 in
    let same = c.args.workers.ok.0 ∙ (same_long (Takes g.F.Fn c.args.work.now) _ _ c.requires ∙ sym c.args.parts.ok.0) in
    let given = c.in-Ok-with_capacity.ensures.capacity in
    let none = c.in-Ok-with_capacity.ensures.len in
    let asked = c.len-2.ensures in
    (left, none, omega (arith, many, all, cap, long, same), omega (arith, many, all, given, asked))

pub returns : goal.returns
returns g c =
    let M = Member g.row.W.Denot g.row.P.Denot g.row.T.Denot in
    let did = zip_weaker _ (Does g.F.Fn c.args.work.now) (λ x y h. subst (λ (m : M). Does g.F.Fn c.args.work.now x m) h.left (subst (λ (m : M). Does g.F.Fn c.args.work.now m h.after_call.now) h.argument_is h.call)) _ _ c.do_each.ensures.each in
    all_done g.F.Fn c.args.work.now _ _ _ _ _ _ c.muster-members.ensures.members did c.dismiss.ensures
