use Rattle.std.proofs.Common.{◌≡◌, ℕ, Some, refl, ap, sym, ◌∙◌, subst, arith}
use Rattle.calls.specs.Glossary.{count_out, known_finished, IsPlaced, IsKnown, FinishesBatch, known_in}
use Rattle.calls.specs.declared.view.Act.TheVariants.{Finish}
use Rattle.calls.proofs.Listing.{list_from, not_out}
use Rattle.calls.proofs.Turning.{seat_after, does_after, finished_known_after}
use Rattle.calls.proofs.list.List.finish.Goals as goal

pub invariant_of-self : goal.invariant_of-self
invariant_of-self g c =
    let v = c.self.invariant in
    let same : c.batch.inside.processor ≡ c.self.inside.processor = ap (λ b. b.processor) c.batch.view_is ∙ (c.requires.processor ∙ ap (λ l. l.processor) (sym c.self.view_is)) in
    let q = subst (λ (p : ℕ). FinishesBatch p c.batch.inside.count c.seat.inside.seat c.self.inside.seat c.batch.inside.seat c.add_finished.new.seat c.add_finished.new.list) same c.add_finished.ensures.finishes in
    let was = ap count_out q.was_out in
    let numbered = v.numbered in
    let there = v.there in
    let words = ap (λ t. t.words) q.table in
    list_from _ (known_finished c.batch.inside.count (known_in c.self.inside.seat.me.0.client.list)) q.list_is v.wrapping v.waiting (not_out _ refl) record {
      one_domain = v.one_domain;
      key = v.key ∙ (λ i. Some record { domain = c.self.inside.sight.domain; tallies = sym q.table i; processor = c.self.inside.processor });
      last = v.last;
      arrived = v.arrived;
      numbered = omega (arith, was, numbered);
      few = v.few;
      most = v.most;
      there = omega (arith, there, words);
    }

pub invariant_of-seat : goal.invariant_of-seat
invariant_of-seat g c =
    let q = c.add_finished.ensures.finishes in
    seat_after c.seat.inside c.add_finished.new.seat c.seat.invariant q.by (Finish c.batch.inside.processor c.batch.inside.count) q.who refl q.does (subst (λ t. IsPlaced t.shared.key t.shared.table_id c.add_finished.new.seat) c.deref.ensures c.add_finished.ensures.placed) q.no_list q.no_batch

pub returns : goal.returns
unfolding does_after
returns g c =
    let same : c.batch.inside.processor ≡ c.self.inside.processor = ap (λ b. b.processor) c.batch.view_is ∙ (c.requires.processor ∙ ap (λ l. l.processor) (sym c.self.view_is)) in
    let p : ℕ = c.batch.inside.processor in
    let q = c.add_finished.ensures.finishes in
    let after = finished_known_after p c.batch.inside.count _ _ _ _ _ q in
    let h = q.list_is in
    let before = subst (λ (k : ℕ). IsKnown k c.self.inside.seat.me.0.client.list q.does.before) same q.there in
    let now = subst (λ (k : ℕ). IsKnown k c.add_finished.new.list.me.0.client.list c.add_finished.new.seat.me.0.seen) same after in
    rw (← c.self.view_is, ← c.seat.view_is, ← c.batch.view_is) (record {
      tally = does_after c.seat.inside c.add_finished.new.seat c.seat.invariant q.by (Finish p c.batch.inside.count) q.who q.does (subst (λ t. IsPlaced t.shared.key t.shared.table_id c.add_finished.new.seat) c.deref.ensures c.add_finished.ensures.placed);
      was = record { finished = before.finished_is; out = before.out_is; few = before.few; entries = before.waiting_is };
      is = record { finished = now.finished_is; out = now.out_is; few = now.few; entries = now.waiting_is };
      was_out = q.was_out;
      first = q.first;
      list = λ i. let k = known_in (h i).0.client.list in record { tallies = q.table i; processor = c.self.inside.processor; counted = k.queued; finished = k.finished; out = k.out; moved = k.moved; entries = k.waiting; given = c.self.inside.given; sight = c.self.inside.sight };
    })
