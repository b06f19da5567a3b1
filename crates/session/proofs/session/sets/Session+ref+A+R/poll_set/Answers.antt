use Rattle.std.proofs.Common.{◌≡◌, ◌∙◌, ℕ, ◌<◌, Bool, List, length, get_or, set, refl, sym, ap, subst, arith}
use Rattle.std.specs.Prelude.{All, option_map, if◌then◌else◌}
use Rattle.std.specs.List.{refill}
use Rattle.std.specs.Vec.{with_items}
use Rattle.std.proofs.lemmas.Option.{slice_get-map, slice_get_read}
use Rattle.std.proofs.lemmas.List.{length-map, length-set, map-set, get_or_default, with_items_is}
use Rattle.std.proofs.lemmas.List.Elements.{All-set}
use Rattle.requests.specs.declared.reply.Reply.TheVariants as reply
use Rattle.session.specs.States.{EntryView, states_of}
use Rattle.session.specs.Sets.{SetView, members_of, set_of, sets_of, Home, home_of, homes_of, AreHere, AreAllHere}
use Rattle.session.specs.Scripts.{PollInTurn}
use Rattle.session.proofs.Cookies.{all_stay, limits_stay, refilled}
use Rattle.session.proofs.session.sets.Session+ref+A+R.poll_set.Goals as goal

pub invariant_of-self : goal.invariant_of-self
invariant_of-self g c =
    let entries = c.self.inside.entries.items in
    let sets = c.self.inside.sets.items in
    let new = c.poll_in_turn.new in
    let did = c.poll_in_turn.ensures in
    let r = c.index-deref_mut-at.result in
    let k : SetView = get_or c.deref_mut-2.result.now c.args.at r in
    let small = rw (← c.self.view_is) at c.requires in
    let many = length-map sets set_of in
    let within : c.args.at < length sets = omega (arith, small, many) in
    let value = c.deref_mut-2.ensures.value in
    let k_is : k ≡ get_or sets c.args.at k = ap (λ (l : List SetView). get_or l c.args.at r) value ∙ get_or_default sets c.args.at r k within in
    let homes : homes_of new.entries ≡ homes_of entries = did.homes ∙ ap homes_of c.deref_mut.ensures.value in
    let long = length-map new.entries home_of in
    let before = length-map entries home_of in
    let as_long = ap length homes in
    let ok = c.self.inside.entries.ok.0 in
    let stay : (with_items c.self.inside.entries new.entries).items ≡ new.entries = with_items_is c.self.inside.entries new.entries (omega (arith, long, before, as_long, ok)) in
    let put : refill (length sets) sets (set c.deref_mut-2.result.now c.args.at new.set) ≡ set sets c.args.at new.set = ap (λ (l : List SetView). refill (length sets) sets (set l c.args.at new.set)) value ∙ refilled sets (set sets c.args.at new.set) (length-set sets c.args.at new.set) in
    let limits = c.self.inside.limits in
    record {
      in_range = c.self.invariant.in_range;
      cells = c.self.invariant.cells;
      same = subst (λ (l : List EntryView). All (λ (e : EntryView). e.limits ≡ limits) l) (sym stay) (limits_stay limits entries new.entries homes c.self.invariant.same);
      here = subst (λ (z : List EntryView × List SetView). AreAllHere z.0 z.1) (λ i. (sym stay i, sym put i))
          (All-set (λ (s : SetView). AreHere (homes_of new.entries) s.places s.members) sets c.args.at new.set (subst (λ (hs : List Home). AreHere hs new.set.places new.set.members) (sym did.homes) did.here) (all_stay entries new.entries sets homes c.self.invariant.here));
    }

pub returns-then-poll_in_turn-clause-polls : goal.returns-then-poll_in_turn-clause-polls
returns-then-poll_in_turn-clause-polls g c =
    let entries = c.self.inside.entries.items in
    let sets = c.self.inside.sets.items in
    let new = c.poll_in_turn.new in
    let did = c.poll_in_turn.ensures in
    let r = c.index-deref_mut-at.result in
    let k : SetView = get_or c.deref_mut-2.result.now c.args.at r in
    let small = rw (← c.self.view_is) at c.requires in
    let many = length-map sets set_of in
    let within : c.args.at < length sets = omega (arith, small, many) in
    let value = c.deref_mut-2.ensures.value in
    let k_is : k ≡ get_or sets c.args.at k = ap (λ (l : List SetView). get_or l c.args.at r) value ∙ get_or_default sets c.args.at r k within in
    let homes : homes_of new.entries ≡ homes_of entries = did.homes ∙ ap homes_of c.deref_mut.ensures.value in
    let long = length-map new.entries home_of in
    let before = length-map entries home_of in
    let as_long = ap length homes in
    let ok = c.self.inside.entries.ok.0 in
    let stay : (with_items c.self.inside.entries new.entries).items ≡ new.entries = with_items_is c.self.inside.entries new.entries (omega (arith, long, before, as_long, ok)) in
    let put : refill (length sets) sets (set c.deref_mut-2.result.now c.args.at new.set) ≡ set sets c.args.at new.set = ap (λ (l : List SetView). refill (length sets) sets (set l c.args.at new.set)) value ∙ refilled sets (set sets c.args.at new.set) (length-set sets c.args.at new.set) in
    rw (← c.self.view_is) (record {
      set = set_of k;
      members = members_of new.set.places new.set.members;
      there = slice_get-map set_of sets c.args.at ∙ ap (option_map set_of) (slice_get_read sets (length sets) c.args.at k refl within k_is);
      poll = subst (λ (z : List EntryView × List EntryView). PollInTurn (states_of z.0) (members_of k.places k.members) (members_of new.set.places new.set.members) (states_of z.1)) (λ i. (c.deref_mut.ensures.value i, sym stay i)) did.polls;
      sets = ap sets_of put ∙ (map-set set_of sets c.args.at new.set ∙ ap (λ (w : List ℕ). set (sets_of sets) c.args.at (record { name = w; members = members_of new.set.places new.set.members })) did.name);
      reply = ap (λ (b : Bool). if b then reply.Done else reply.NotYet) (sym c.if-poll_in_turn.true ∙ did.done);
    })

pub invariant_of-self-2 : goal.invariant_of-self-2
invariant_of-self-2 g c =
    let entries = c.self.inside.entries.items in
    let sets = c.self.inside.sets.items in
    let new = c.poll_in_turn.new in
    let did = c.poll_in_turn.ensures in
    let r = c.index-deref_mut-at.result in
    let k : SetView = get_or c.deref_mut-2.result.now c.args.at r in
    let small = rw (← c.self.view_is) at c.requires in
    let many = length-map sets set_of in
    let within : c.args.at < length sets = omega (arith, small, many) in
    let value = c.deref_mut-2.ensures.value in
    let k_is : k ≡ get_or sets c.args.at k = ap (λ (l : List SetView). get_or l c.args.at r) value ∙ get_or_default sets c.args.at r k within in
    let homes : homes_of new.entries ≡ homes_of entries = did.homes ∙ ap homes_of c.deref_mut.ensures.value in
    let long = length-map new.entries home_of in
    let before = length-map entries home_of in
    let as_long = ap length homes in
    let ok = c.self.inside.entries.ok.0 in
    let stay : (with_items c.self.inside.entries new.entries).items ≡ new.entries = with_items_is c.self.inside.entries new.entries (omega (arith, long, before, as_long, ok)) in
    let put : refill (length sets) sets (set c.deref_mut-2.result.now c.args.at new.set) ≡ set sets c.args.at new.set = ap (λ (l : List SetView). refill (length sets) sets (set l c.args.at new.set)) value ∙ refilled sets (set sets c.args.at new.set) (length-set sets c.args.at new.set) in
    let limits = c.self.inside.limits in
    record {
      in_range = c.self.invariant.in_range;
      cells = c.self.invariant.cells;
      same = subst (λ (l : List EntryView). All (λ (e : EntryView). e.limits ≡ limits) l) (sym stay) (limits_stay limits entries new.entries homes c.self.invariant.same);
      here = subst (λ (z : List EntryView × List SetView). AreAllHere z.0 z.1) (λ i. (sym stay i, sym put i))
          (All-set (λ (s : SetView). AreHere (homes_of new.entries) s.places s.members) sets c.args.at new.set (subst (λ (hs : List Home). AreHere hs new.set.places new.set.members) (sym did.homes) did.here) (all_stay entries new.entries sets homes c.self.invariant.here));
    }

pub returns-clause-polls : goal.returns-clause-polls
returns-clause-polls g c =
    let entries = c.self.inside.entries.items in
    let sets = c.self.inside.sets.items in
    let new = c.poll_in_turn.new in
    let did = c.poll_in_turn.ensures in
    let r = c.index-deref_mut-at.result in
    let k : SetView = get_or c.deref_mut-2.result.now c.args.at r in
    let small = rw (← c.self.view_is) at c.requires in
    let many = length-map sets set_of in
    let within : c.args.at < length sets = omega (arith, small, many) in
    let value = c.deref_mut-2.ensures.value in
    let k_is : k ≡ get_or sets c.args.at k = ap (λ (l : List SetView). get_or l c.args.at r) value ∙ get_or_default sets c.args.at r k within in
    let homes : homes_of new.entries ≡ homes_of entries = did.homes ∙ ap homes_of c.deref_mut.ensures.value in
    let long = length-map new.entries home_of in
    let before = length-map entries home_of in
    let as_long = ap length homes in
    let ok = c.self.inside.entries.ok.0 in
    let stay : (with_items c.self.inside.entries new.entries).items ≡ new.entries = with_items_is c.self.inside.entries new.entries (omega (arith, long, before, as_long, ok)) in
    let put : refill (length sets) sets (set c.deref_mut-2.result.now c.args.at new.set) ≡ set sets c.args.at new.set = ap (λ (l : List SetView). refill (length sets) sets (set l c.args.at new.set)) value ∙ refilled sets (set sets c.args.at new.set) (length-set sets c.args.at new.set) in
    rw (← c.self.view_is) (record {
      set = set_of k;
      members = members_of new.set.places new.set.members;
      there = slice_get-map set_of sets c.args.at ∙ ap (option_map set_of) (slice_get_read sets (length sets) c.args.at k refl within k_is);
      poll = subst (λ (z : List EntryView × List EntryView). PollInTurn (states_of z.0) (members_of k.places k.members) (members_of new.set.places new.set.members) (states_of z.1)) (λ i. (c.deref_mut.ensures.value i, sym stay i)) did.polls;
      sets = ap sets_of put ∙ (map-set set_of sets c.args.at new.set ∙ ap (λ (w : List ℕ). set (sets_of sets) c.args.at (record { name = w; members = members_of new.set.places new.set.members })) did.name);
      reply = ap (λ (b : Bool). if b then reply.Done else reply.NotYet) (sym c.if-poll_in_turn.false ∙ did.done);
    })
