use Rattle.std.proofs.Common.{◌≡◌, ℕ, List, [], ap, sym, ◌∙◌, subst, arith}
use Rattle.calls.specs.Glossary.{ListRight, Deed, queued_in, list_seat, Sat, FindsAll, IsKnown}
use Rattle.calls.proofs.Seating.{some_words, queued_there, list_through, finds_through}
use Rattle.calls.proofs.Sharing.{gives_list, takes_list, nobody_plain, sits_plain}
use Rattle.calls.proofs.Meeting.{finds_list_here}
use Rattle.calls.proofs.tally.see_list.Goals as goal

pub split_seat-right-requires : goal.split_seat-right-requires
split_seat-right-requires g c = (c.requires.list.seated, some_words _ _ _ c.requires.placed.wide c.requires.there, gives_list _ _ _ _ _ (nobody_plain _ (ap (λ m. m.0.role) c.requires.list.me)) (ap (λ m. m.0.client.list) c.requires.list.me))

pub join_seat-requires : goal.join_seat-requires
join_seat-requires g c = (
  c.requires.placed.seated,
  c.split_seat-right.ensures.3 ∙ c.requires.list.seated,
  ap (λ m. m.1) c.split_seat-right.ensures.4,
  some_words _ _ _ c.requires.placed.wide c.requires.there,
  takes_list _ _ _ _ _ _ _ (sits_plain _ _ c.requires.rests.1.who) (ap (λ m. m.0.role) c.split_seat-right.ensures.4) c.requires.rests.1.no_list (ap (λ m. m.0.client.list) c.split_seat-right.ensures.4 ∙ ap (λ m. m.0.client.list) c.requires.list.me),
)

pub load-found-requires : goal.load-found-requires
load-found-requires g c =
    let low = queued_there _ _ _ c.requires.placed.wide c.requires.there in
    let at = c.place_of_queued.ensures in
    let j = c.join_seat.ensures in
    let list = ap (λ m. m.0.client.list) j.2 ∙ (ap (λ m. m.0.client.list) c.split_seat-right.ensures.4 ∙ ap (λ m. m.0.client.list) c.requires.list.me) in (
      j.0 ∙ c.requires.placed.seated,
      omega (arith, low, at),
      finds_list_here _ _ _ c.requires.rests.0 c.args.processor _ g.N.Counting.count _ c.join_seat.new.seat.me c.requires.count (ap (λ m. m.0.role) j.2 ∙ c.requires.rests.1.who) list at c.requires.there,
    )

pub split_seat-requires : goal.split_seat-requires
split_seat-requires g c =
    let j = c.join_seat.ensures in
    let e = c.load-found.ensures in
    let list = ap (λ m. m.0.client.list) j.2 ∙ (ap (λ m. m.0.client.list) c.split_seat-right.ensures.4 ∙ ap (λ m. m.0.client.list) c.requires.list.me) in
    let me = (e.2.2 c.args.processor _ list c.place_of_queued.ensures).0 in
    (e.0 ∙ (j.0 ∙ c.requires.placed.seated), some_words _ _ _ c.requires.placed.wide c.requires.there, gives_list _ _ _ _ _ (sits_plain _ c.requires.rests.0 (ap (λ v. v.role) me ∙ (ap (λ m. m.0.role) j.2 ∙ c.requires.rests.1.who))) (ap (λ v. v.client.list) me))

pub returns : goal.returns
returns g c =
    let p : ℕ = c.args.processor in
    let j = c.join_seat.ensures in
    let e = c.load-found.ensures in
    let t = c.split_seat.ensures in
    let a = c.args.seat.now.me.0 in
    let b : ListRight _ = c.args.list.now.me.0.client.list in
    let taken : c.join_seat.new.seat.me.0.client.list ≡ b = ap (λ (m : Sat _). m.0.client.list) j.2 ∙ ap (λ (m : Sat _). m.0.client.list) c.split_seat-right.ensures.4 in
    let mine = taken ∙ ap (λ m. m.0.client.list) c.requires.list.me in
    let seen : c.split_seat.new.seat.me.0.seen ≡ c.load-found.new.seat.me.0.seen = ap (λ m. m.0.seen) t.2 in
    let found = e.2.2 p _ mine c.place_of_queued.ensures in
    let given = ap (λ v. v.client.list) found.0 in record {
      table = t.0 ∙ (e.0 ∙ j.0);
      me = list_through c.args.seat.now.me c.join_seat.new.seat.me c.load-found.new.seat.me c.split_seat.new.seat.me c.split_seat-right.result.me.0 _ j.2 (λ i. (found.0 i, e.2.0 i)) t.2;
      finds = λ k who. subst (λ n. FindsAll n k a c.split_seat.new.seat.me.0) (sym c.requires.count)
          (finds_through _ k a c.join_seat.new.seat.me.0 c.load-found.new.seat.me.0 c.split_seat.new.seat.me.0 (ap (λ m. m.0.seen) j.2) (ap (λ m. m.0.told) j.2) seen (e.2.1 k (ap (λ m. m.0.role) j.2 ∙ who)));
      counted = found.1 ∙ ap (queued_in p) (sym seen);
      few = found.3;
      there = subst (λ (l : List (Deed _)). IsKnown p b l) (sym seen) found.2;
      list_table = t.3 ∙ (e.0 ∙ (j.0 ∙ (c.requires.placed.seated ∙ sym c.requires.list.seated)));
      list_is = t.4 ∙ ap (λ (r : ListRight _). (list_seat r, [])) given;
    }
