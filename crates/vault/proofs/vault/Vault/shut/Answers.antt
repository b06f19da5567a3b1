use Rattle.std.proofs.Common.{◌∷◌, [], sym, ap, ◌∙◌, None}
use Rattle.vault.specs.declared.key.Tally.{Tally}
use Rattle.vault.proofs.Steps.{shuts_here}
use Rattle.vault.proofs.Calls.{Sat, has_step, in_hand, shut_is}
use Rattle.vault.proofs.vault.Vault.shut.Goals as goal

pub load-requires : goal.load-requires
load-requires g c = let put = c.exchange.ensures in let me = c.exchange.new.seat.me in let view = ap (λ (z : Sat g.row.T.Denot). z.0) put.3 in (
  put.0 ∙ (c.requires.table.0 ∙ sym c.self.view_is),
  has_step c.self.inside.table.shared.table_id c.self.invariant,
  shuts_here _ _ c.args.place c.args.pile me (ap (λ (z : Tally). z.key) view ∙ c.requires.key) (in_hand c.args.place None c.args.pile c.args.seat.me me [] c.requires.table.1 put.3),
)

pub into_badge-requires : goal.into_badge-requires
into_badge-requires g c = let put = c.exchange.ensures in let me = c.exchange.new.seat.me in let view = ap (λ (z : Sat g.row.T.Denot). z.0) put.3 in
    (c.load.ensures.2 c.args.place c.args.pile (ap (λ (z : Tally). z.key) view ∙ c.requires.key) (in_hand c.args.place None c.args.pile c.args.seat.me me [] c.requires.table.1 put.3)).1

pub returns : goal.returns
returns g c = let put = c.exchange.ensures in let me = c.exchange.new.seat.me in let view = ap (λ (z : Sat g.row.T.Denot). z.0) put.3 in
    let did = c.load.ensures.2 c.args.place c.args.pile (ap (λ (z : Tally). z.key) view ∙ c.requires.key) (in_hand c.args.place None c.args.pile c.args.seat.me me [] c.requires.table.1 put.3) in
    (c.into_badge.ensures.0 ∙ (c.load.ensures.0 ∙ (put.0 ∙ c.requires.table.0)), c.into_badge.ensures.2 ∙ ap (λ (z : Tally). z ∷ []) (did.0 ∙ shut_is me.0 c.args.seat.me.0 c.args.place c.args.pile view c.requires.key))
