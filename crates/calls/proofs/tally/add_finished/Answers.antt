use Rattle.std.proofs.Common.{ℕ, [], ap, sym, ◌∙◌, arith}
use Rattle.calls.specs.Glossary.{ListRight, list_seat}
use Rattle.calls.specs.declared.view.Act.TheVariants.{Finish}
use Rattle.calls.proofs.Steps.{finishes_here}
use Rattle.calls.proofs.Sharing.{gives_list, takes_list, takes_batch, nobody_plain, sits_plain}
use Rattle.calls.proofs.Seating.{some_words, finished_there, does_through}
use Rattle.calls.proofs.tally.add_finished.Goals as goal

pub join_seat-requires : goal.join_seat-requires
join_seat-requires g c = (c.requires.placed.seated, c.requires.batch.seated, ap (λ m. m.1) c.requires.batch.me, some_words _ _ _ c.requires.placed.wide c.requires.there, takes_batch _ _ _ _ _)

pub split_seat-right-requires : goal.split_seat-right-requires
split_seat-right-requires g c = (c.requires.list.seated, some_words _ _ _ c.requires.placed.wide c.requires.there, gives_list _ _ _ _ _ (nobody_plain _ (ap (λ m. m.0.role) c.requires.list.me)) (ap (λ m. m.0.client.list) c.requires.list.me))

pub join_seat-requires-2 : goal.join_seat-requires-2
join_seat-requires-2 g c = (
  c.join_seat.ensures.0 ∙ c.requires.placed.seated,
  c.split_seat-right.ensures.3
      ∙ c.requires.list.seated,
  ap (λ m. m.1) c.split_seat-right.ensures.4,
  some_words _ _ _ c.requires.placed.wide c.requires.there,
  takes_list _ _ _ _ _ _ _ (sits_plain _ _ (ap (λ m. m.0.role) c.join_seat.ensures.2 ∙ c.requires.rests.1.who)) (ap (λ m. m.0.role) c.split_seat-right.ensures.4)
      (ap (λ m. m.0.client.list) c.join_seat.ensures.2 ∙ c.requires.rests.1.no_list) (ap (λ m. m.0.client.list) c.split_seat-right.ensures.4 ∙ ap (λ m. m.0.client.list) c.requires.list.me),
)

pub fetch_add-requires : goal.fetch_add-requires
fetch_add-requires g c =
    let j = c.join_seat.ensures.2 in
    let k = c.join_seat-2.ensures.2 in
    let who = ap (λ m. m.0.role) k ∙ (ap (λ m. m.0.role) j ∙ c.requires.rests.1.who) in
    let list = ap (λ m. m.0.client.list) k ∙ (ap (λ m. m.0.client.list) c.split_seat-right.ensures.4 ∙ ap (λ m. m.0.client.list) c.requires.list.me) in
    let batch = ap (λ m. m.0.client.batch) k ∙ (ap (λ m. m.0.client.batch) j ∙ ap (λ m. m.0.client.batch) c.requires.batch.me) in
    let place = c.place_of_finished.ensures in
    let there = finished_there _ _ _ c.requires.placed.wide c.requires.there in (
      c.join_seat-2.ensures.0 ∙ (c.join_seat.ensures.0 ∙ c.requires.placed.seated),
      omega (arith, place, there),
      finishes_here _ _ _ _ c.args.processor _ _ _ _ c.join_seat-2.new.seat.me place who list batch c.requires.there c.requires.rests.1.there,
    )

pub split_seat-requires : goal.split_seat-requires
split_seat-requires g c =
    let j = c.join_seat.ensures.2 in
    let k = c.join_seat-2.ensures.2 in
    let f = c.fetch_add.ensures in
    let who = ap (λ m. m.0.role) k ∙ (ap (λ m. m.0.role) j ∙ c.requires.rests.1.who) in
    let list = ap (λ m. m.0.client.list) k ∙ (ap (λ m. m.0.client.list) c.split_seat-right.ensures.4 ∙ ap (λ m. m.0.client.list) c.requires.list.me) in
    let batch = ap (λ m. m.0.client.batch) k ∙ (ap (λ m. m.0.client.batch) j ∙ ap (λ m. m.0.client.batch) c.requires.batch.me) in
    let q = f.2.1 c.requires.rests.0 c.args.processor _ _ _ who list batch in
    (f.0 ∙ (c.join_seat-2.ensures.0 ∙ (c.join_seat.ensures.0 ∙ c.requires.placed.seated)), some_words _ _ _ c.requires.placed.wide c.requires.there, gives_list _ _ _ _ _ (sits_plain _ c.requires.rests.0 (q.does.who ∙ who)) q.list)

pub returns-clause-finishes : goal.returns-clause-finishes
unfolding does_through
returns-clause-finishes g c =
    let j = c.join_seat.ensures.2 in
    let k = c.join_seat-2.ensures.2 in
    let f = c.fetch_add.ensures in
    let t = c.split_seat.ensures in
    let p : ℕ = c.args.processor in
    let n : ℕ = c.args.count in
    let kept = ap (λ m. m.0.role) k ∙ ap (λ m. m.0.role) j in
    let who = ap (λ m. m.0.role) k ∙ (ap (λ m. m.0.role) j ∙ c.requires.rests.1.who) in
    let list = ap (λ m. m.0.client.list) k ∙ (ap (λ m. m.0.client.list) c.split_seat-right.ensures.4 ∙ ap (λ m. m.0.client.list) c.requires.list.me) in
    let batch = ap (λ m. m.0.client.batch) k ∙ (ap (λ m. m.0.client.batch) j ∙ ap (λ m. m.0.client.batch) c.requires.batch.me) in
    let q = f.2.1 c.requires.rests.0 p _ _ _ who list batch in record {
      by = c.requires.rests.0;
      who = c.requires.rests.1.who;
      does = does_through c.requires.rests.0 (Finish p n) c.args.seat.now.me.0 c.join_seat-2.new.seat.me.0 c.fetch_add.new.seat.me.0 c.split_seat.new.seat.me.0 (ap (λ m. m.0.seen) k ∙ ap (λ m. m.0.seen) j) kept (ap (λ m. m.0.seen) t.2) (ap (λ m. m.0.role) t.2) q.does;
      there = q.there;
      no_list = ap (λ m. m.0.client.list) t.2;
      no_batch = ap (λ m. m.0.client.batch) t.2 ∙ q.batch;
      was_out = q.was_out;
      first = q.first_is;
      table = t.3 ∙ (f.0 ∙ (c.join_seat-2.ensures.0 ∙ (c.join_seat.ensures.0 ∙ (c.requires.placed.seated ∙ sym c.requires.list.seated))));
      list_is = t.4 ∙ ap (λ (r : ListRight _). (list_seat r, [])) q.list;
    }
