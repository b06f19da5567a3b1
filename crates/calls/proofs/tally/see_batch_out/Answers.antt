use Rattle.std.proofs.Common.{◌≡◌, List, [], ap, sym, ◌∙◌, subst, arith}
use Rattle.calls.specs.Glossary.{BatchRight, Deed, batch_seat, Sat, FindsAll, IsOut, first_known}
use Rattle.calls.proofs.Seating.{some_words, queued_there, load_through, finds_through}
use Rattle.calls.proofs.Sharing.{passes_batch, takes_batch}
use Rattle.calls.proofs.Meeting.{finds_out_here}
use Rattle.calls.proofs.tally.see_batch_out.Goals as goal

pub split_seat-right-requires : goal.split_seat-right-requires
split_seat-right-requires g c = (c.requires.batch, some_words _ _ _ c.requires.placed.wide c.requires.rests.there, passes_batch _ _ _)

pub join_seat-requires : goal.join_seat-requires
join_seat-requires g c = (c.requires.placed.seated, c.split_seat-right.ensures.3 ∙ c.requires.batch, ap (λ m. m.1) c.split_seat-right.ensures.4, some_words _ _ _ c.requires.placed.wide c.requires.rests.there, takes_batch _ _ _ _ _)

pub load-requires : goal.load-requires
load-requires g c =
    let low = queued_there _ _ _ c.requires.placed.wide c.requires.rests.there in
    let at = c.place_of_queued.ensures in
    let j = c.join_seat.ensures in
    (j.0 ∙ c.requires.placed.seated, omega (arith, low, at), finds_out_here _ _ _ _ g.N.Counting.count c.join_seat.new.seat.me c.requires.count)

pub split_seat-requires : goal.split_seat-requires
split_seat-requires g c = (c.load.ensures.0 ∙ (c.join_seat.ensures.0 ∙ c.requires.placed.seated), some_words _ _ _ c.requires.placed.wide c.requires.rests.there, passes_batch _ _ _)

pub returns : goal.returns
returns g c p count is =
    let j = c.join_seat.ensures in
    let e = c.load.ensures in
    let t = c.split_seat.ensures in
    let a = c.args.seat.now.me.0 in
    let b : BatchRight = c.args.batch.now.me.0.client.batch in
    let taken : c.join_seat.new.seat.me.0.client.batch ≡ b = ap (λ (m : Sat _). m.0.client.batch) j.2 ∙ ap (λ (m : Sat _). m.0.client.batch) c.split_seat-right.ensures.4 in
    let given : c.load.new.seat.me.0.client.batch ≡ b = ap (λ m. m.0.client.batch) e.2.0.0 ∙ taken in
    let seen : c.split_seat.new.seat.me.0.seen ≡ c.load.new.seat.me.0.seen = ap (λ m. m.0.seen) t.2 in record {
      table = t.0 ∙ (e.0 ∙ j.0);
      me = load_through c.args.seat.now.me c.join_seat.new.seat.me c.load.new.seat.me c.split_seat.new.seat.me c.split_seat-right.result.me.0 j.2 e.2.0.0 t.2;
      finds = λ k who. subst (λ n. FindsAll n k a c.split_seat.new.seat.me.0) (sym c.requires.count)
          (finds_through _ k a c.join_seat.new.seat.me.0 c.load.new.seat.me.0 c.split_seat.new.seat.me.0 (ap (λ m. m.0.seen) j.2) (ap (λ m. m.0.told) j.2) seen (e.2.0.1 k (ap (λ m. m.0.role) j.2 ∙ who)));
      out = subst (λ (l : List (Deed _)). IsOut p (first_known b) count l) (sym seen) (e.2.1 p (first_known b) count (taken ∙ ap (λ m. m.0.client.batch) is.me));
      batch_table = t.3 ∙ (e.0 ∙ (j.0 ∙ (c.requires.placed.seated ∙ sym c.requires.batch)));
      batch_is = t.4 ∙ (ap (λ (r : BatchRight). (batch_seat r, [])) (given ∙ ap (λ m. m.0.client.batch) is.me) ∙ sym is.me);
    }
