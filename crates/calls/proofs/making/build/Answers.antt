use Rattle.std.proofs.Common.{rules, ◌≡◌, ◌∙◌, List, [], ◌∷◌, ◌++◌, length, vec_len, ap, sym, subst, arith}
use Rattle.std.specs.Arc.{arc_value}
use Rattle.atomic_table.specs.Seated.{TableId}
use Rattle.calls.specs.Glossary.{Plan, CallSeatView, ListKey, new_seat, AreOfDomain}
use Rattle.keep.specs.Views.{KeepView}
use Rattle.calls.proofs.Sharing.{gives_note}
use Rattle.calls.proofs.Founding.{AreNewSoFar, new_so_far, locks_so_far, first_key}
use Rattle.calls.proofs.making.build.Goals as goal

pub split_seat-requires : goal.split_seat-requires
split_seat-requires g c =
    let t = c.deref.ensures in
    let d = c.in_ok-table.ensures.dealer in
    let plan = ap (λ (p : Plan). p.processors) c.in_ok-table.ensures.key_is in
    let wide = ap (λ z. z.shared.table_id.words) t ∙ d.wide in
    let some = c.requires in
    (d.seated ∙ ap (λ z. z.shared.table_id) (sym t), omega (arith, wide, plan, some), gives_note _ _ _)

pub loop-processor-init : goal.loop-processor-init
loop-processor-init g c =
    let d = c.in_ok-table.ensures.dealer in
    let s = c.split_seat.ensures in
    let seats = c.in_ok-seats.ensures.seats in
    let locks = c.in_ok-seats.ensures.locks in
    let no_seat = seats.0 in
    let no_lock = locks.0 in
    let seats_long : vec_len c.in_ok-seats.seats ≡ length c.in_ok-seats.seats.items = c.in_ok-seats.seats.ok.0 in
    let locks_long : vec_len c.in_ok-seats.lists ≡ length c.in_ok-seats.lists.items = c.in_ok-seats.lists.ok.0 in record {
      sized = ap (λ (p : Plan). p.processors) c.in_ok-table.ensures.key_is;
      dealer = record { wide = d.wide; seated = s.0 ∙ d.seated; me = s.2 ∙ d.me };
      spot = (c.home.ensures.home, s.3 ∙ d.seated);
      engine = c.home.ensures.same;
      seats_count = no_seat;
      seats_room = seats.1;
      seats_new = λ p e lt. absurd (omega (arith, no_seat, seats_long, lt));
      locks_count = no_lock;
      locks_room = locks.1;
      locks = λ p e lt. absurd (omega (arith, no_lock, locks_long, lt));
    }

pub deal_locked-requires : goal.deal_locked-requires
deal_locked-requires g c = (omega arith, (search rules, (c.loop-processor.invariant.dealer, search rules)))

pub loop-processor-preserved : goal.loop-processor-preserved
loop-processor-preserved g c =
    let v = c.loop-processor.invariant in
    let d = c.in_ok-seat.ensures in
    let home = ap (λ (k : ListKey). k.domain) c.spot.view_is ∙ v.spot.0 in
    let words = ap (λ (k : ListKey). k.tallies) c.spot.view_is ∙ v.spot.1 in
    let seats : c.push_reserved.new.self.items ≡ c.loop-processor.seats.items ++ c.in_ok-seat.seat ∷ [] = c.push_reserved.ensures.items in
    let lists : c.push_reserved-in-loop-processor.new.self.items ≡ c.loop-processor.lists.items ++ c.in_ok-seat.lock ∷ [] = c.push_reserved-in-loop-processor.ensures.items in
    let seats_long : vec_len c.loop-processor.seats ≡ length c.loop-processor.seats.items = c.loop-processor.seats.ok.0 in
    let locks_long : vec_len c.loop-processor.lists ≡ length c.loop-processor.lists.items = c.loop-processor.lists.ok.0 in
    let e = v.seats_count in
    let f = v.locks_count in
    let a = c.push_reserved.ensures.len in
    let b = c.push_reserved-in-loop-processor.ensures.len in
    let seats_room = v.seats_room in
    let locks_room = v.locks_room in
    let seats_cap = c.push_reserved.ensures.capacity in
    let locks_cap = c.push_reserved-in-loop-processor.ensures.capacity in
    let key = d.lock ∙ (λ i. record { domain = home i; tallies = words i; processor = c.loop-processor.processor }) in
    let table : TableId = (arc_value c.in_ok-table.table).shared.table_id in
    let new = d.seat ∙ (λ i. new_seat (home i) table (v.sized i) c.loop-processor.processor) in record {
      sized = v.sized;
      dealer = d.dealer;
      spot = (home, words);
      engine = d.same ∙ v.engine;
      seats_count = omega (arith, a, e);
      seats_room = omega (arith, seats_cap, seats_room);
      seats_new = subst (λ (z : List (CallSeatView _)). AreNewSoFar c.args.engine.now.domain table c.args.processors z) (sym seats)
          (new_so_far c.args.engine.now.domain table c.args.processors c.loop-processor.processor c.loop-processor.seats.items c.in_ok-seat.seat (sym seats_long ∙ e) new v.seats_new);
      locks_count = omega (arith, b, f);
      locks_room = omega (arith, locks_cap, locks_room);
      locks = subst (λ (z : List (KeepView ListKey)). AreOfDomain c.args.engine.now.domain table z) (sym lists) (locks_so_far c.args.engine.now.domain table c.loop-processor.processor c.loop-processor.lists.items c.in_ok-seat.lock (sym locks_long ∙ f) key v.locks);
    }

pub invariant_of-result : goal.invariant_of-result
invariant_of-result g c =
    let v = c.loop-processor.invariant in
    let le = c.loop-processor.auto.processor-end in
    let ge = c.loop-processor-test.false in
    let count = v.locks_count in
    let long : vec_len c.loop-processor.lists ≡ length c.loop-processor.lists.items = c.loop-processor.lists.ok.0 in
    let sized = v.sized in
    let some = c.requires in
    let first = first_key c.args.engine.now.domain (arc_value c.in_ok-table.table).shared.table_id c.loop-processor.lists.items (omega (arith, some, le, ge, count, long)) v.locks in
    let wide = ap (λ (t : TableId). t.words) first.1 ∙ v.dealer.wide in record {
      locks = λ p d lt. v.locks p d lt ∙ (λ i. record { domain = sym first.0 i; tallies = sym first.1 i; processor = p });
      wide = omega (arith, le, ge, count, long, sized, wide);
    }

pub returns : goal.returns
returns g c =
    let v = c.loop-processor.invariant in
    let le = c.loop-processor.auto.processor-end in
    let ge = c.loop-processor-test.false in
    let e = v.seats_count in
    let f = v.locks_count in
    let seats_long : vec_len c.loop-processor.seats ≡ length c.loop-processor.seats.items = c.loop-processor.seats.ok.0 in
    let locks_long : vec_len c.loop-processor.lists ≡ length c.loop-processor.lists.items = c.loop-processor.lists.ok.0 in
    let some = c.requires in
    let first = first_key c.args.engine.now.domain (arc_value c.in_ok-table.table).shared.table_id c.loop-processor.lists.items (omega (arith, some, le, ge, f, locks_long)) v.locks in record {
      made = record {
        of_domain = first.0;
        many = omega (arith, le, ge, f, locks_long);
        seats_new = record { count = omega (arith, le, ge, e, seats_long); each = λ p d lt. v.seats_new p d lt ∙ (λ i. new_seat (sym first.0 i) (sym first.1 i) c.args.processors p) };
      };
      same = v.engine;
    }
