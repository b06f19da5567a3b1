-- One part of each device was lent, and put; or all came back.
use Rattle.std.proofs.Common.{◌≡◌, ℕ, ◌<◌, List, Box, length, get_or, refl, sym, ap, ◌∙◌, subst}
use Rattle.registry.specs.declared.index.Entry.{Entry}
use Rattle.registry.specs.declared.device.Device.{Device}
use Rattle.registry.specs.Order.{AreInOrder}
use Rattle.registry.specs.Registry.{AreParts}
use Rattle.registry.proofs.Versions.{parts_keys, parts_many, parts_round, lends_back}
use Rattle.registry.proofs.publishing.publish.Goals as goal

pub invariant_of-new : goal.invariant_of-new
invariant_of-new g c = subst (λ (l : List _). AreInOrder g.K.Ord.cmp l) (sym (parts_keys _ _ c.in-Ok.ensures.lends.1)) c.requires.ordered

pub take_back-requires-clause-many : goal.take_back-requires-clause-many
take_back-requires-clause-many g c =
    let is = c.into_entries.ensures ∙ (c.into_inner.ensures ∙ (ap (λ (z : Box _ _). z.value) c.in-Err-put.ensures.puts.0 ∙ c.in-Ok-new.ensures.ok)) in
    ap length is ∙ parts_many _ _ _ c.in-Ok.ensures.lends.1 c.in-Ok.ensures.lends.0

pub take_back-requires-clause-parts : goal.take_back-requires-clause-parts
take_back-requires-clause-parts g c =
    let is = c.into_entries.ensures ∙ (c.into_inner.ensures ∙ (ap (λ (z : Box _ _). z.value) c.in-Err-put.ensures.puts.0 ∙ c.in-Ok-new.ensures.ok)) in
    subst (λ (es : List (Entry _ _)). (k : ℕ) (e : Entry _ _) (d : Device _ _ _) → k < length es → (get_or es k e).part.round ≡ (get_or c.lend_all.new.self.here.items k d).deed.deed.round) (sym is) (parts_round _ _ _ c.in-Ok.ensures.lends.1 c.in-Ok.ensures.lends.0)

pub take_back-requires-in-Err-clause-many : goal.take_back-requires-in-Err-clause-many
take_back-requires-in-Err-clause-many g c = ap length (c.into_entries-in-Err.ensures ∙ c.in-Err.ensures.value_returned) ∙ parts_many _ _ _ c.in-Ok.ensures.lends.1 c.in-Ok.ensures.lends.0

pub take_back-requires-in-Err-clause-parts : goal.take_back-requires-in-Err-clause-parts
take_back-requires-in-Err-clause-parts g c =
    let is = c.into_entries-in-Err.ensures ∙ c.in-Err.ensures.value_returned in
    subst (λ (es : List (Entry _ _)). (k : ℕ) (e : Entry _ _) (d : Device _ _ _) → k < length es → (get_or es k e).part.round ≡ (get_or c.lend_all.new.self.here.items k d).deed.deed.round) (sym is) (parts_round _ _ _ c.in-Ok.ensures.lends.1 c.in-Ok.ensures.lends.0)

pub returns-in-Ok-put-clause-puts : goal.returns-in-Ok-put-clause-puts
returns-in-Ok-put-clause-puts g c =
    let p = c.in-Ok-put.ensures.puts in
    let is = p.1 ∙ c.in-Ok-new.ensures.ok in
    (c.in-Ok.ensures.lends.0, (p.0, c.in-Ok-put.field-0, subst (λ (es : List (Entry _ _)). AreParts es c.args.devices.now.here.items) (sym is) c.in-Ok.ensures.lends.1, p.3))

pub returns-in-Err-put-clause-puts : goal.returns-in-Err-put-clause-puts
returns-in-Err-put-clause-puts g c = (lends_back _ _ _ c.in-Ok.ensures.lends.0 c.take_back.ensures.here, c.in-Err-put.ensures.puts.2, c.in-Err-put.ensures.puts.3)

pub returns-in-Err-clause-puts : goal.returns-in-Err-clause-puts
returns-in-Err-clause-puts g c = (lends_back _ _ _ c.in-Ok.ensures.lends.0 c.take_back-in-Err.ensures.here, refl, refl)

pub returns-in-Err-put-clause-refused : goal.returns-in-Err-put-clause-refused
returns-in-Err-put-clause-refused g c = let p = c.in-Err-put.ensures.puts in rw p.2 p.1
