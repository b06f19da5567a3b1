use Rattle.std.proofs.Common.{rules, refl, ap, sym, ◌∙◌, subst}
use Rattle.calls.specs.Glossary.{ListView, IsInvoking}
use Rattle.calls.proofs.Listing.{none_out, is_out}
use Rattle.calls.proofs.Gathering.{takes_behind, lacks_behind}
use Rattle.calls.proofs.list.List.take.Goals as goal

pub take_ready-requires : goal.take_ready-requires
take_ready-requires g c =
    let g1 = c.gather.ensures.gathers in (
      search rules,
      (
        record { domain = c.requires.domain ∙ ap (λ l. l.sight.domain) (sym g1.came.is); tallies = ap (λ s. s.tallies) g1.covers.same ∙ (c.requires.tallies ∙ ap (λ l. l.tallies) (sym g1.came.is)) },
        ap (λ l. l.out) g1.came.is ∙ (ap (λ l. l.out) (sym c.self.view_is) ∙ none_out c.self.inside.out _ c.self.invariant.out c.if-self.false),
      ),
    )

pub returns-in-Ok-clause-takes : goal.returns-in-Ok-clause-takes
returns-in-Ok-clause-takes g c =
    let g1 = c.gather.ensures.gathers in record {
      gathered = c.gather.new.self;
      came = g1.came;
      takes = takes_behind _ c.args.self.now c.gather.new.self c.args.cpu.now c.args.seat.now c.gather.new.seat _ _ _ _ g1 c.in-Ok.ensures.all c.take_ready.ensures.takes;
    }

pub returns-then-self-clause-takes : goal.returns-then-self-clause-takes
returns-then-self-clause-takes g c = record {
  invoking = subst (λ (l : ListView g.row.J.Denot). IsInvoking l) c.self.view_is (is_out c.self.inside.out _ c.self.invariant.out c.if-self.true);
  list = c.look.ensures.list;
  cpu = refl;
  looks = c.look.ensures.looks;
  is = c.look.ensures.was;
}

pub returns-in-Err-clause-takes : goal.returns-in-Err-clause-takes
returns-in-Err-clause-takes g c = (refl, lacks_behind c.args.self.now c.gather.new.self c.note_lack.new.self c.args.seat.now c.gather.new.seat c.note_lack.new.seat c.gather.ensures.gathers c.note_lack.ensures.notes c.note_lack.ensures.same)
