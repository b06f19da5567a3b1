-- The row stands where its key belongs.
use Rattle.std.proofs.Common.{◌≡◌, ◌<◌, List, length, ap, ◌∙◌, sym, subst, arith}
use Rattle.plugs.specs.declared.rows.Row.{Row}
use Rattle.plugs.specs.Tables.{Maps, Unmaps}
use Rattle.plugs.specs.Parts.{IsBetween}
use Rattle.plugs.proofs.Changing.{put_in}
use Rattle.plugs.proofs.rows.Rows.insert.Goals as goal

pub returns : goal.returns
returns c =
    let rows = c.self.inside.rows.items in
    let is = sym c.self.view_is in
    let row : Row = record { key = c.args.key; plug = c.args.plug } in
    let between : IsBetween c.take_out-place.result c.args.key rows = subst (λ (l : List Row). IsBetween c.take_out-place.result c.args.key l) is c.take_out-place.ensures.between in
    let unmaps : Unmaps c.args.key c.args.self.now rows = subst (λ (l : List Row). Unmaps c.args.key c.args.self.now l) is c.take_out-place.ensures.unmaps in
    let few = unmaps.table.few in
    let room : length rows < 15 = let n = λ (all : length rows ≡ 15). c.requires (c.take_out-place.ensures.room (ap (length {A = Row}) is ∙ all)) in omega (arith, few, n) in
    subst (λ (l : List Row). Maps c.args.key c.args.plug c.args.self.now l) (sym c.insert.ensures.items) (put_in c.take_out-place.result row c.args.self.now rows between unmaps (c.ranges.key.fits, c.ranges.plug.fits) room)
