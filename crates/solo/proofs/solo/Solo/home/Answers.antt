use Rattle.std.proofs.Common.{◌≡◌, List, set, sym, ap, ◌∙◌, subst}
use Rattle.solo.proofs.Words.{set-get_or, CpuView, with_cpu, SoloView, HaveMet, seen_first}
use Rattle.solo.proofs.Hand.{first_inside, now_is, in_vector}
use Rattle.solo.proofs.solo.Solo.home.Goals as goal

pub index_mut-requires : goal.index_mut-requires
index_mut-requires g c = in_vector _ c.self.inside.members.cpus.items _ c.self.inside.members.cpus.ok.0 (first_inside _ _ _ _ c.self.invariant.met)

unchanged : (g : _) (c : goal.After-self-1 g) → set c.self.inside.members.cpus.items 0 (with_cpu c.home.new.self c.index_mut.result.now) ≡ c.self.inside.members.cpus.items
unchanged g c = ap (λ z. set c.self.inside.members.cpus.items 0 z) (ap (λ z. with_cpu z c.index_mut.result.now) (c.home.ensures.same ∙ c.deref_mut.ensures.shows) ∙ c.index_mut.ensures.value) ∙ set-get_or c.self.inside.members.cpus.items 0 c.index_mut.result.now

pub invariant_of-self : goal.invariant_of-self
invariant_of-self g c = record { engine = c.self.invariant.engine; met = subst (λ (l : List (CpuView _)). HaveMet c.self.inside.members.domain c.self.inside.limits l c.self.invariant.engine) (sym (unchanged g c)) c.self.invariant.met }

pub returns : goal.returns
returns g c = record {
  home = c.home.ensures.home ∙ ap (λ z. z.domain) c.deref_mut.ensures.shows
      ∙ ((ap (λ (z : CpuView _). z.cpu.domain) c.index_mut.ensures.value ∙ (c.self.invariant.met.together.hold.each 0 c.index_mut.result.now (first_inside _ _ _ _ c.self.invariant.met)).domain)
      ∙ sym (ap (λ (x : SoloView g.row.J.Denot). x.table) (now_is _ _ _ _ c.self.invariant.met _ c.self.view_is)));
  same = ap (λ (l : List (CpuView _)). seen_first c.self.inside.members.domain c.self.inside.limits l) (unchanged g c) ∙ c.self.view_is;
}
