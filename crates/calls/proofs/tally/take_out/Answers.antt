use Rattle.std.proofs.Common.{ℕ, [], ap, sym, ◌∙◌, subst, arith}
use Rattle.calls.specs.Glossary.{ListRight, BatchRight, list_seat, batch_seat, TakesOut, known_in}
use Rattle.calls.specs.declared.view.Act.TheVariants.{Take}
use Rattle.calls.proofs.Steps.{takes_here}
use Rattle.calls.proofs.Sharing.{gives_list, takes_list, passes_batch, nobody_plain, sits_plain}
use Rattle.calls.proofs.Seating.{some_words, queued_there, does_through}
use Rattle.calls.proofs.tally.take_out.Goals as goal

pub split_seat-right-requires : goal.split_seat-right-requires
split_seat-right-requires g c = (c.requires.list.seated, some_words _ _ _ c.requires.placed.wide c.requires.there, gives_list _ _ _ _ _ (nobody_plain _ (ap (λ m. m.0.role) c.requires.list.me)) (ap (λ m. m.0.client.list) c.requires.list.me))

pub join_seat-requires : goal.join_seat-requires
join_seat-requires g c = (
  c.requires.placed.seated,
  c.split_seat-right.ensures.3 ∙ c.requires.list.seated,
  ap (λ m. m.1) c.split_seat-right.ensures.4,
  some_words _ _ _ c.requires.placed.wide c.requires.there,
  takes_list _ _ _ _ _ _ _ (sits_plain _ _ c.requires.rests.1.who) (ap (λ m. m.0.role) c.split_seat-right.ensures.4) c.requires.rests.1.no_list (ap (λ m. m.0.client.list) c.split_seat-right.ensures.4 ∙ ap (λ m. m.0.client.list) c.requires.list.me),
)

pub load-requires : goal.load-requires
load-requires g c =
    let j = c.join_seat.ensures.2 in
    let list = ap (λ m. m.0.client.list) j ∙ (ap (λ m. m.0.client.list) c.split_seat-right.ensures.4 ∙ ap (λ m. m.0.client.list) c.requires.list.me) in
    let place = c.place_of_queued.ensures in
    let there = queued_there _ _ _ c.requires.placed.wide c.requires.there in (
      c.join_seat.ensures.0 ∙ c.requires.placed.seated,
      omega (arith, place, there),
      takes_here _ _ _ c.requires.rests.0 c.args.processor g.N.Taking.number g.N.Taking.max _ _ c.join_seat.new.seat.me (ap (λ m. m.0.role) j ∙ c.requires.rests.1.who) list c.requires.none c.requires.rests.1.there,
    )

pub split_seat-requires : goal.split_seat-requires
split_seat-requires g c =
    let j = c.join_seat.ensures.2 in
    let f = c.load.ensures in
    let list = ap (λ m. m.0.client.list) j ∙ (ap (λ m. m.0.client.list) c.split_seat-right.ensures.4 ∙ ap (λ m. m.0.client.list) c.requires.list.me) in
    let who = ap (λ m. m.0.role) j ∙ c.requires.rests.1.who in
    let q = f.2.1 c.requires.rests.0 c.args.processor _ who list c.requires.none in
    (f.0 ∙ (c.join_seat.ensures.0 ∙ c.requires.placed.seated), some_words _ _ _ c.requires.placed.wide c.requires.there, gives_list _ _ _ _ _ (sits_plain _ c.requires.rests.0 (q.does.who ∙ who)) q.list)

pub split_seat-requires-2 : goal.split_seat-requires-2
split_seat-requires-2 g c = (c.split_seat.ensures.0 ∙ (c.load.ensures.0 ∙ (c.join_seat.ensures.0 ∙ c.requires.placed.seated)), some_words _ _ _ c.requires.placed.wide c.requires.there, passes_batch _ _ _)

pub returns-clause-takes : goal.returns-clause-takes
unfolding does_through
returns-clause-takes g c =
    let p : ℕ = c.args.processor in
    let b : ℕ = c.requires.rests.0 in
    let j = c.join_seat.ensures.2 in
    let f = c.load.ensures in
    let t = c.split_seat.ensures in
    let u = c.split_seat-2.ensures in
    let list = ap (λ m. m.0.client.list) j ∙ (ap (λ m. m.0.client.list) c.split_seat-right.ensures.4 ∙ ap (λ m. m.0.client.list) c.requires.list.me) in
    let who = ap (λ m. m.0.role) j ∙ c.requires.rests.1.who in
    let q = subst (λ (z : ℕ × ℕ). TakesOut b p (known_in c.args.list.now.me.0.client.list) z.0 z.1 c.join_seat.new.seat.me.0 c.load.new.seat.me.0) (λ i. (c.requires.taking.0 i, c.requires.taking.1 i)) (f.2.1 b p _ who list c.requires.none) in record {
      by = b;
      who = c.requires.rests.1.who;
      does = does_through b (Take p c.args.number c.args.max (known_in c.args.list.now.me.0.client.list).moved) c.args.seat.now.me.0 c.join_seat.new.seat.me.0 c.load.new.seat.me.0 c.split_seat-2.new.seat.me.0
          (ap (λ m. m.0.seen) j) (ap (λ m. m.0.role) j) (ap (λ m. m.0.seen) u.2 ∙ ap (λ m. m.0.seen) t.2) (ap (λ m. m.0.role) u.2 ∙ ap (λ m. m.0.role) t.2) q.does;
      there = q.there;
      no_list = ap (λ m. m.0.client.list) u.2 ∙ ap (λ m. m.0.client.list) t.2;
      no_batch = ap (λ m. m.0.client.batch) u.2;
      table = t.3 ∙ (f.0 ∙ (c.join_seat.ensures.0 ∙ (c.requires.placed.seated ∙ sym c.requires.list.seated)));
      list_is = t.4 ∙ ap (λ (r : ListRight _). (list_seat r, [])) q.list;
      batch_table = u.3 ∙ (t.0 ∙ (f.0 ∙ (c.join_seat.ensures.0 ∙ (c.requires.placed.seated ∙ sym c.requires.list.seated))));
      batch_is = u.4 ∙ ap (λ (r : BatchRight). (batch_seat r, [])) (ap (λ m. m.0.client.batch) t.2 ∙ q.batch);
    }
