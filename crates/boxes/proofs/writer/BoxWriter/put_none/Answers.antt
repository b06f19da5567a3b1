-- A slot with no box was put.
use Rattle.std.proofs.Common.{ap, ◌∙◌}
use Rattle.boxes.proofs.Keeping.{none_there}
use Rattle.boxes.proofs.Slots.{put_none_keeps, bare_slot}
use Rattle.boxes.proofs.Putting.{puts_version, offer_put, taken_same, taken_out, taken_words}
use Rattle.boxes.proofs.writer.BoxWriter.put_none.Goals as goal

pub invariant_of-self : goal.invariant_of-self
invariant_of-self g c =
    let i = c.self.invariant in
    let none = none_there c.self.inside.rests c.in-Some.slot.slot c.args.self.now c.free_slot.new.self c.in-Some.slot (ap (λ z. z.stored) c.self.view_is) c.in-Some.ensures in
    let k = put_none_keeps c.in-Some.slot.slot c.self.inside.processors _ c.self.inside.writer c.put_and_ask.new.writer c.self.inside.rests i.eight c.in-Some.ensures.gives.1.low i.keys i.laid none c.put_and_ask.ensures.puts.puts.plan in
    record { eight = i.eight; keys = k.0; laid = k.1 }

pub returns-clause-puts : goal.returns-clause-puts
returns-clause-puts g c =
    let takes = c.in-Some.ensures in
    let i = c.self.invariant in
    let none = none_there c.self.inside.rests c.in-Some.slot.slot c.args.self.now c.free_slot.new.self c.in-Some.slot (ap (λ z. z.stored) c.self.view_is) c.in-Some.ensures in
    let bare = bare_slot c.in-Some.slot.slot c.self.inside.writer c.self.inside.rests c.in-Some.ensures.gives.1.low i.laid none in
    let same = taken_same _ _ _ _ _ c.in-Some.ensures (ap (λ z. z.writer) c.self.view_is) in
    let offers = offer_put c.put_and_ask.result c.in-Some.slot.slot c.args.self.now c.self.inside.writer c.put_and_ask.new.writer c.args.cpu.now c.put_and_ask.new.cpu same c.put_and_ask.ensures.puts in record {
      version = puts_version c.put_and_ask.result c.in-Some.slot c.args.self.now c.free_slot.new.self _ c.self.inside.writer c.args.cpu.now c.put_and_ask.new.cpu c.in-Some.ensures same
          (taken_out _ _ _ _ _ c.in-Some.ensures (ap (λ z. z.writer) c.self.view_is)) (taken_words _ _ _ _ _ c.in-Some.ensures (ap (λ z. z.writer) c.self.view_is)) c.put_and_ask.ensures.puts
          (ap (λ z. z.processors) c.self.view_is ∙ ap (λ z. z.processors) c.in-Some.ensures.rest) (ap (λ z. z.vault) c.self.view_is ∙ ap (λ z. z.vault) c.in-Some.ensures.rest);
      stored = ap (λ z. z.stored) c.self.view_is ∙ ap (λ z. z.stored) c.in-Some.ensures.rest;
      nothing = ap (λ o. o.laid) offers ∙ bare.0;
      each = ap (λ o. o.each) offers ∙ bare.1;
    }
