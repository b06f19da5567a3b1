use Rattle.std.proofs.Common.{◌≡◌, ◌∷◌, [], refl, sym, ap, ◌∙◌, subst, arith, Option, None}
use Rattle.atomic_table.specs.Table.{rest}
use Rattle.vault.specs.declared.pile.Pile.{Pile}
use Rattle.vault.specs.declared.key.Tally.{Tally}
use Rattle.vault.specs.Rule.{Lies, count_of, key_of, round_of}
use Rattle.vault.proofs.CallerLemmas.{same_key}
use Rattle.vault.proofs.Steps.{opens_here, shuts_here}
use Rattle.vault.proofs.Calls.{Sat, has_step, knows, first_is, shut_is, counts_lying, round_lying, option_map}
use Rattle.vault.proofs.vault.Vault.show.Goals as goal

pub load-requires : goal.load-requires
load-requires g c = let is = c.requires.key.2 in let into = c.into_seat-seat.ensures in let m = c.into_seat-seat.result.me in let same = knows c.args.key.views m.0 (key_of c.args.place c.requires.key.0 c.requires.key.1) into.2 is.1 in
    (into.0 ∙ (is.0 ∙ sym c.self.view_is), has_step c.self.inside.table.shared.table_id c.self.invariant, opens_here _ _ c.args.place m (ap (λ (z : Tally). z.key) same) (ap (λ (z : Tally). z.out) same))

pub slot_mut-requires : goal.slot_mut-requires
slot_mut-requires g c = let is = c.requires.key.2 in let into = c.into_seat-seat.ensures in let m = c.into_seat-seat.result.me in let same = knows c.args.key.views m.0 (key_of c.args.place c.requires.key.0 c.requires.key.1) into.2 is.1 in
    let took = c.load.ensures.2 c.args.place (ap (λ (z : Tally). z.key) same) in
    (c.load.ensures.0 ∙ (into.0 ∙ (is.0 ∙ sym c.self.view_is)), (took.0, took.3 ∙ ap (λ cs. (c.args.place, took.0) ∷ rest cs) (sym took.3)))

pub load-requires-2 : goal.load-requires-2
load-requires-2 g c = let is = c.requires.key.2 in let into = c.into_seat-seat.ensures in let m = c.into_seat-seat.result.me in let same = knows c.args.key.views m.0 (key_of c.args.place c.requires.key.0 c.requires.key.1) into.2 is.1 in
    let took = c.load.ensures.2 c.args.place (ap (λ (z : Tally). z.key) same) in let there = c.slot_mut.result.now in (
      c.load.ensures.0 ∙ (into.0 ∙ (is.0 ∙ sym c.self.view_is)),
      has_step c.self.inside.table.shared.table_id c.self.invariant,
      shuts_here _ _ c.args.place there (c.load.new.seat.me.0, (c.args.place, there) ∷ rest c.load.new.seat.me.1) (ap (λ (z : Tally). z.key) took.2 ∙ ap (λ (z : Tally). z.key) same) (ap (λ cs. (c.args.place, there) ∷ rest cs) took.3 ∙ ap (λ cs. (c.args.place, there) ∷ cs) into.3),
    )

pub into_badge-requires : goal.into_badge-requires
into_badge-requires g c = let is = c.requires.key.2 in let into = c.into_seat-seat.ensures in let m = c.into_seat-seat.result.me in let same = knows c.args.key.views m.0 (key_of c.args.place c.requires.key.0 c.requires.key.1) into.2 is.1 in
    let took = c.load.ensures.2 c.args.place (ap (λ (z : Tally). z.key) same) in let there = c.slot_mut.result.now in
    (c.load-2.ensures.2 c.args.place there (ap (λ (z : Tally). z.key) took.2 ∙ ap (λ (z : Tally). z.key) same) (ap (λ cs. (c.args.place, there) ∷ rest cs) took.3 ∙ ap (λ cs. (c.args.place, there) ∷ cs) into.3)).1

pub returns-clause-key : goal.returns-clause-key
returns-clause-key g c = λ had round is. let into = c.into_seat-seat.ensures in let m = c.into_seat-seat.result.me in let same = knows c.args.key.views m.0 (key_of c.args.place had round) into.2 is.1 in
    let took = c.load.ensures.2 c.args.place (ap (λ (z : Tally). z.key) same) in let there = c.slot_mut.result.now in
    let did = c.load-2.ensures.2 c.args.place there (ap (λ (z : Tally). z.key) took.2 ∙ ap (λ (z : Tally). z.key) same) (ap (λ cs. (c.args.place, there) ∷ rest cs) took.3 ∙ ap (λ cs. (c.args.place, there) ∷ cs) into.3) in
    let view : c.load.new.seat.me.0 ≡ record (key_of c.args.place had round) { out = 1 } = took.2 ∙ ap (λ (z : Tally). record z { out = 1 }) same in
    let lies = subst (λ (z : Option (Pile g.row.T.Denot) × Tally). Lies z.0 z.1.count z.1.round) (λ i. (sym (first_is c.args.place took.0 there c.load.new.seat.me.1 m.1 took.3 c.slot_mut.ensures.value) i, same i)) took.1 in
    same_key c.args.self.now c.args.place (count_of there) had (round_of there round) round c.into_badge.result
    (c.into_badge.ensures.0 ∙ (c.load-2.ensures.0 ∙ (c.load.ensures.0 ∙ (into.0 ∙ is.0))), c.into_badge.ensures.2 ∙ ap (λ (z : Tally). z ∷ []) (did.0 ∙ shut_is c.load.new.seat.me.0 (record (key_of c.args.place had round) { out = 1 }) c.args.place there view refl))
    (counts_lying there had round lies) (round_lying there had round lies)

pub returns-clause-shows : goal.returns-clause-shows
returns-clause-shows g c = λ had round is. let into = c.into_seat-seat.ensures in let m = c.into_seat-seat.result.me in let same = knows c.args.key.views m.0 (key_of c.args.place had round) into.2 is.1 in
    let took = c.load.ensures.2 c.args.place (ap (λ (z : Tally). z.key) same) in let there = c.slot_mut.result.now in
    let lies = subst (λ (z : Option (Pile g.row.T.Denot) × Tally). Lies z.0 z.1.count z.1.round) (λ i. (sym (first_is c.args.place took.0 there c.load.new.seat.me.1 m.1 took.3 c.slot_mut.ensures.value) i, same i)) took.1 in
    option_map c.show_in-shown.result (λ none. subst (λ (z : Option (Pile g.row.T.Denot)). Lies z had round) none lies)
    (λ u s. let p = subst (λ (z : Option (Pile g.row.T.Denot)). Lies z had round) s.1 lies in let counted = s.0.counted in let some = s.0.some in let many = p.0 in (omega (arith, counted, some, many), (s.0.part, p.1, s.2))) c.show_in-shown.ensures
