-- The next one that is left is the next reader.
use Rattle.std.proofs.Common.{rules, ◌≡◌, ◌+◌, ℕ, [], ◌∷◌, length, sym, ap, ◌∙◌, subst, arith, length-append}
use Rattle.race.proofs.Words.{vec_len, into_iter_items, Started, HasRead, IsStarted, number_of}
use Rattle.race.proofs.Placing.{EachFrom, each_none, each_pushed, from_first, first_of, rest_of}
use Rattle.race.proofs.workers.join_all.Goals as goal

pub loop-started-init : goal.loop-started-init
loop-started-init g c =
    let course = c.args.course.now in
    let Q : ℕ → Started → Type 0 = λ i s. IsStarted course s × (number_of s ≡ i) in
    let long : vec_len c.args.readers.now ≡ length c.args.readers.now.items = c.args.readers.now.ok.0 in
    let room = c.requires.room.0 in
    let none : length c.args.readers.now.items ≡ 0 = omega (arith, long, room) in record {
      each = each_none (HasRead course) c.args.readers.now.items none;
      started = subst (EachFrom Q (length c.args.readers.now.items)) (sym c.into_iter-started-iterator.ensures.into_iter_gives.0) (from_first Q (length c.args.readers.now.items) c.args.all.items none c.requires.all);
      count = search rules;
      room = search rules;
    }

pub loop-started-preserved : goal.loop-started-preserved
loop-started-preserved g c =
    let before = c.loop-started.invariant in
    let course = c.args.course.now in
    let Q : ℕ → Started → Type 0 = λ i s. IsStarted course s × (number_of s ≡ i) in
    let k = length c.loop-started.readers.items in
    let left : EachFrom Q k (c.in-Some.started ∷ into_iter_items c.next.new.self) = subst (EachFrom Q k) c.in-Some.ensures.steps.0 before.started in
    let next = first_of Q k c.in-Some.started (into_iter_items c.next.new.self) left in
    let one_more : length c.push_reserved.new.self.items ≡ k + 1 = ap length c.push_reserved.ensures.items ∙ length-append c.loop-started.readers.items (c.join-reader.result.0 ∷ []) in record {
      each = each_pushed (HasRead course) c.loop-started.readers.items c.push_reserved.new.self.items c.join-reader.result.0 c.push_reserved.ensures.items before.each (subst (λ n. HasRead course n c.join-reader.result.0) next.1 c.join-reader.ensures);
      started = rest_of Q k (length c.push_reserved.new.self.items) c.in-Some.started (into_iter_items c.next.new.self) one_more left;
      count = search rules;
      room = search rules;
    }
