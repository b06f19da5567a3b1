use Rattle.std.proofs.Common.{ap, sym, ◌∙◌, arith}
use Rattle.calls.specs.Views.{CallsView, NoteView, ReceiptView}
use Rattle.calls.proofs.Loading.{queued_later, same_many, receipt_inside}
use Rattle.calls.proofs.Once.{call_stays}
use Rattle.calls.proofs.calls.Calls.hear.Goals as goal

pub load_behind-requires-clause-note : goal.load_behind-requires-clause-note
load_behind-requires-clause-note g c = ap (λ (r : ReceiptView g.row.J.Denot). r.tallies) c.receipt.view_is ∙ (c.requires.1 ∙ sym c.requires.0)

pub load_behind-requires-clause-there : goal.load_behind-requires-clause-there
load_behind-requires-clause-there g c =
    let tallies = c.requires.0 ∙ ap (λ (k : CallsView). k.tallies) (sym c.self.view_is) in
    let own = ap (λ (r : ReceiptView g.row.J.Denot). r.tallies) c.receipt.view_is ∙ (c.requires.1 ∙ sym c.requires.0) in
    receipt_inside _ _ _ _ c.processors.ensures.wide own c.receipt.invariant.there

pub returns-clause-hears : goal.returns-clause-hears
returns-clause-hears g c = rw (← c.receipt.view_is) (record { found = c.load_behind.result; does = c.load_behind.ensures.does; covers = c.load_behind.ensures.covers; not_below = c.load_behind.ensures.not_below })

pub returns-clause-same : goal.returns-clause-same
returns-clause-same g c = rw (← c.receipt.view_is) (ap (λ (n : NoteView g.row.J.Denot). record { tallies = n.tallies; processor = c.receipt.inside.processor; k = c.receipt.inside.k; cookie = c.receipt.inside.cookie; seen = n.seen }) c.load_behind.ensures.same)

pub returns-clause-queued : goal.returns-clause-queued
returns-clause-queued g c = rw (← c.receipt.view_is) (
    let r = c.receipt.invariant in
    let queued = r.queued in
    let more = queued_later c.receipt.inside.processor c.load_behind.ensures.covers in
    (omega (arith, more, queued), (r.call.0, call_stays c.receipt.inside.processor c.receipt.inside.k _ _ _ c.load_behind.ensures.covers r.call.1)))
