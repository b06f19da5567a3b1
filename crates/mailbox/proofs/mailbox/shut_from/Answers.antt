-- What lay there fits, and the place is closed.
use Rattle.std.proofs.Common.{Option, None, IfSome, ◌∷◌, refl, ap, ◌∙◌, subst, arith}
use Rattle.atomic_table.specs.Table.{rest}
use Rattle.mailbox.proofs.Keeping.{lays, fit_of, same_found}
use Rattle.mailbox.proofs.mailbox.shut_from.Goals as goal

pub store-requires : goal.store-requires
store-requires g c =
    let one = c.requires.top.0 in
    let h = c.in_ok-seat.ensures in (
      c.exchange-value.ensures.0 ∙ h.table,
      omega (arith, one),
      lays g.T.Posted.fits c.args.top.now.key.key _ _ _ None 3 3 c.requires.top.1 (ap (λ m. m.1) c.exchange-value.ensures.3 ∙ ap (λ l. (0, None) ∷ rest l) h.has.slot) (ap (λ m. m.0.pins) c.exchange-value.ensures.3 ∙ h.has.pins)
          (λ e. absurd (omega (arith, e)))
          (λ _. refl)
          (λ _. (refl, λ e. absurd (omega (arith, e))))
          (λ _. refl),
    )

pub returns : goal.returns
returns g c =
    let h = c.in_ok-seat.ensures in
    record {
      table = c.store.ensures.0 ∙ (c.exchange-value.ensures.0 ∙ h.table);
      pins = c.store.ensures.2 refl;
      fit = subst (λ (x : Option g.row.T.Denot). IfSome x (λ y. g.T.Posted.fits y c.args.top.now.key.key)) (same_found h.has.found c.exchange-value.result _ h.has.slot c.exchange-value.ensures.2) (fit_of g.T.Posted.fits c.args.top.now.key.key c.args.from h.has.found h.has.is);
    }
