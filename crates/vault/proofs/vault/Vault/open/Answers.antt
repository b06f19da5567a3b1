use Rattle.std.proofs.Common.{◌∷◌, [], sym, ap, ◌∙◌, subst, Option, None}
use Rattle.atomic_table.specs.Table.{rest}
use Rattle.vault.specs.declared.pile.Pile.{Pile}
use Rattle.vault.specs.declared.key.Tally.{Tally}
use Rattle.vault.specs.Rule.{Lies, key_of}
use Rattle.vault.proofs.Steps.{opens_here}
use Rattle.vault.proofs.Calls.{Sat, has_step, knows, in_hand, first_is}
use Rattle.vault.proofs.vault.Vault.open.Goals as goal

pub load-requires : goal.load-requires
load-requires g c = let is = c.requires.2 in let into = c.into_seat-seat.ensures in let m = c.into_seat-seat.result.me in let same = knows c.args.key.views m.0 (key_of c.args.place c.requires.0 c.requires.1) into.2 is.1 in
    (into.0 ∙ (is.0 ∙ sym c.self.view_is), has_step c.self.inside.table.shared.table_id c.self.invariant, opens_here _ _ c.args.place m (ap (λ (z : Tally). z.key) same) (ap (λ (z : Tally). z.out) same))

pub exchange-found-requires : goal.exchange-found-requires
exchange-found-requires g c = let is = c.requires.2 in let into = c.into_seat-seat.ensures in let m = c.into_seat-seat.result.me in let same = knows c.args.key.views m.0 (key_of c.args.place c.requires.0 c.requires.1) into.2 is.1 in
    let took = c.load.ensures.2 c.args.place (ap (λ (z : Tally). z.key) same) in
    (c.load.ensures.0 ∙ (into.0 ∙ (is.0 ∙ sym c.self.view_is)), (took.0, took.3 ∙ ap (λ cs. (c.args.place, took.0) ∷ rest cs) (sym took.3)))

pub returns-clause-table : goal.returns-clause-table
returns-clause-table g c = let is = c.requires.2 in let into = c.into_seat-seat.ensures in let m = c.into_seat-seat.result.me in let same = knows c.args.key.views m.0 (key_of c.args.place c.requires.0 c.requires.1) into.2 is.1 in
    let took = c.load.ensures.2 c.args.place (ap (λ (z : Tally). z.key) same) in
    (c.exchange-found.ensures.0 ∙ (c.load.ensures.0 ∙ (into.0 ∙ is.0)), in_hand c.args.place took.0 None c.load.new.seat.me c.exchange-found.new.seat.me [] (took.3 ∙ ap (λ cs. (c.args.place, took.0) ∷ cs) into.3) c.exchange-found.ensures.3)

pub returns-clause-key : goal.returns-clause-key
returns-clause-key g c = λ had round is. let into = c.into_seat-seat.ensures in let m = c.into_seat-seat.result.me in let same = knows c.args.key.views m.0 (key_of c.args.place had round) into.2 is.1 in
    let took = c.load.ensures.2 c.args.place (ap (λ (z : Tally). z.key) same) in (
      ap (λ (z : Sat g.row.T.Denot). z.0) c.exchange-found.ensures.3 ∙ (took.2 ∙ ap (λ (z : Tally). record z { out = 1 }) same),
      subst (λ (z : Option (Pile g.row.T.Denot) × Tally). Lies z.0 z.1.count z.1.round) (λ i. (sym (first_is c.args.place took.0 c.exchange-found.result c.load.new.seat.me.1 m.1 took.3 c.exchange-found.ensures.2) i, same i)) took.1,
    )
