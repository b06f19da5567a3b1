use Rattle.std.proofs.Common.{rules, ◌<◌, Some, refl, ap, sym, ◌∙◌, subst, arith}
use Rattle.calls.specs.Glossary.{IsPlaced, known_in, ListView, next_of}
use Rattle.calls.specs.declared.view.Act.TheVariants.{LackRoom}
use Rattle.calls.proofs.Listing.{list_from}
use Rattle.calls.proofs.Turning.{seat_after, does_after}
use Rattle.calls.proofs.list.List.note_lack.Goals as goal

pub lack_room-requires : goal.lack_room-requires
lack_room-requires g c =
    (omega arith, (search rules, (search rules, (search rules, (search rules, subst (λ (l : ListView g.row.J.Denot). next_of l < l.counted) (sym c.self.view_is) c.requires.short)))))

pub invariant_of-self : goal.invariant_of-self
invariant_of-self g c =
    let v = c.self.invariant in
    let q = c.lack_room.ensures.lacks in
    let there = v.there in
    let words = ap (λ t. t.words) q.table in
    list_from _ (known_in c.self.inside.seat.me.0.client.list) (q.list_is ∙ v.seated.me) v.wrapping v.waiting v.out record {
      one_domain = v.one_domain;
      key = v.key ∙ (λ i. Some record { domain = c.self.inside.sight.domain; tallies = sym q.table i; processor = c.self.inside.processor });
      last = v.last;
      arrived = v.arrived;
      numbered = v.numbered;
      few = v.few;
      most = v.most;
      there = omega (arith, there, words);
    }

pub invariant_of-seat : goal.invariant_of-seat
invariant_of-seat g c =
    let q = c.lack_room.ensures.lacks in
    seat_after c.seat.inside c.lack_room.new.seat c.seat.invariant q.by (LackRoom c.self.inside.processor (known_in c.self.inside.seat.me.0.client.list).moved) q.who refl q.does
    (subst (λ t. IsPlaced t.shared.key t.shared.table_id c.lack_room.new.seat) c.deref.ensures c.lack_room.ensures.placed) q.no_list q.no_batch

pub returns-clause-notes : goal.returns-clause-notes
unfolding does_after
returns-clause-notes g c =
    let q = c.lack_room.ensures.lacks in
    rw (← c.self.view_is, ← c.seat.view_is) (record {
      does = does_after c.seat.inside c.lack_room.new.seat c.seat.invariant q.by (LackRoom c.self.inside.processor (known_in c.self.inside.seat.me.0.client.list).moved) q.who q.does
          (subst (λ t. IsPlaced t.shared.key t.shared.table_id c.lack_room.new.seat) c.deref.ensures c.lack_room.ensures.placed);
      is = record { finished = q.there.finished_is; out = q.there.out_is; few = q.there.few; entries = q.there.waiting_is };
    })

pub returns-clause-same : goal.returns-clause-same
returns-clause-same g c =
    let q = c.lack_room.ensures.lacks in
    rw (← c.self.view_is) (λ i. let k = known_in (q.list_is i).0.client.list in record { tallies = q.table i; processor = c.self.inside.processor; counted = k.queued; finished = k.finished; out = k.out; moved = k.moved; entries = k.waiting; given = c.self.inside.given; sight = c.self.inside.sight })
