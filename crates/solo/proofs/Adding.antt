-- What a call of a processor adds, which may make several events: others may have made theirs between any two of them.
use Rattle.std.proofs.Common.{◌≡◌, ◌≢◌, ℕ, ◌+◌, ◌≤◌, ◌⊎◌, max, inl, inr, List, [], ◌∷◌, ◌++◌, length, refl, sym, ap, ◌∙◌, subst, append_assoc, arith, length-append}
use Rattle.solo.proofs.Words.{Processor, Engine, Event, Note, IsBeginning, starts_in, ended_in, beginning_append, beginning_trans, IsSameCpu, Holder, Raise, greatest, raised_by, Deed, line_from, deeds_of, begins_on, CpuView, Act, Acts, GoesOn, Adds, AreOf, Count, queued_append, finished_append}
use Rattle.solo.proofs.Words.{lists_append, all_of}
use Rattle.sections.specs.Views as sections
use Rattle.funnel.specs.declared.view.Holder.TheVariants as holder
use Rattle.funnel.proofs.CallerLemmas as climbs
use Rattle.solo.proofs.NothingBetween.{made, made_by_append, made_append}

-- the seat at the domain's words made these events, in this order, and no others
pub record Made (p : ℕ) (act : List Event) (c c' : sections.CpuView) : Type 0 where
  pub same : IsSameCpu c c'
  pub since : IsBeginning c.seen c'.seen
  pub mine : c'.mine ≡ c.mine ++ act
  pub seen : made (Processor p) c.seen + length act ≤ made (Processor p) c'.seen
  pub later : c.changes ≤ c'.changes

-- these raises are the holder's, up to the number that was asked for: the last cookie that was given
pub record Asked (p : ℕ) (by : Holder) (a : Act) (raised : List Raise) : Type 0 where
  pub own : (q : ℕ) → by ≡ holder.Processor q → raised_by q raised ≡ raised
  pub others : (q : ℕ) → by ≢ holder.Processor q → raised_by q raised ≡ []
  pub greatest_is : (before : List Raise) → greatest (before ++ raised) ≡ max (greatest before) a.asked
  pub cookie : (a.asked ≡ 0) ⊎ (before : List Event) × (a.events ≡ before ++ Note a.asked (Processor p) ∷ [])

-- the events of one act and of another
pub are_both : (p : ℕ) (a b : List Event) → AreOf p a → AreOf p b → AreOf p (a ++ b)
are_both p a b first second = record {
  own = made_by_append (Processor p) a b ∙ (λ i. first.own i ++ second.own i);
  others = λ k other. made_by_append (Processor k) a b ∙ (λ i. first.others k other i ++ second.others k other i);
  engine = made_by_append Engine a b ∙ (λ i. first.engine i ++ second.engine i);
  quiet = λ history.
      let one = first.quiet history in
      let two = second.quiet (history ++ a) in
      (ap starts_in (sym (append_assoc history a b)) ∙ (two.0 ∙ one.0), ap ended_in (sym (append_assoc history a b)) ∙ (two.1 ∙ one.1));
}

module _ {J : Type 0} where
  pub record Did (p : ℕ) (a : Act) (c c' : CpuView J) : Type 0 where
    pub events : Made p a.events c.cpu c'.cpu
    pub are_of : AreOf p a.events
    pub raised : List Raise
    pub needs : GoesOn raised c.needs c'.needs
    pub ask_for : Asked p c.needs.holder a raised
    pub deeds : List (Deed J)
    pub adds : Adds deeds c.calls c'.calls
    pub count : Count p a deeds
    pub turn : c'.turn ≡ c.turn

  -- one act
  pub did_of : (p : ℕ) (a : Act) (c c' : CpuView J) → Acts p a c c' → Did p a c c'
  did_of p a c c' h = record {
    events = record {
      same = h.events.same;
      since = beginning_trans (beginning_append c.cpu.seen (h.events.others ++ a.events)) h.events.since;
      mine = h.events.mine;
      seen =
          (let m : ℕ = made (Processor p) c.cpu.seen in
          let all = ap (made (Processor p)) h.events.since.whole ∙ made_append (Processor p) (c.cpu.seen ++ (h.events.others ++ a.events)) h.events.since.rest in
          let inner = made_append (Processor p) c.cpu.seen (h.events.others ++ a.events) in
          let innermost = made_append (Processor p) h.events.others a.events in
          let own = ap length h.are_of.own in
          omega (arith, all, inner, innermost, own));
      later = h.events.later;
    };
    are_of = h.are_of;
    raised = h.raised;
    needs = h.needs;
    ask_for = record { own = h.ask_for.own; others = h.ask_for.others; greatest_is = h.ask_for.greatest_is; cookie = cookie_of h.ask_for.cookie };
    deeds = h.deeds;
    adds = h.adds;
    count = h.count;
    turn = h.turn;
  }
    where
      cookie_of : (a.asked ≡ 0) ⊎ (a.events ≡ Note a.asked (Processor p) ∷ []) → (a.asked ≡ 0) ⊎ (before : List Event) × (a.events ≡ before ++ Note a.asked (Processor p) ∷ [])
      cookie_of (inl none) = inl none
      cookie_of (inr is) = inr ([], is)

  -- One act and then another

  module _ (p : ℕ) (a b : List Event) (n : ℕ) {was mid now : CpuView J} (first : Did p (all_of a 0) was mid) (second : Did p (all_of b n) mid now) where
    raised_both : (q : ℕ) → raised_by q (first.raised ++ second.raised) ≡ raised_by q first.raised ++ raised_by q second.raised
    raised_both q = climbs.made_on q (record { rest = second.raised; whole = refl })

    same_holder : mid.needs.holder ≡ was.needs.holder
    same_holder = first.needs.same.holder

    both_asked : Asked p was.needs.holder (all_of (a ++ b) n) (first.raised ++ second.raised)
    both_asked = record {
      own = λ q is. raised_both q ∙ (λ i. first.ask_for.own q is i ++ second.ask_for.own q (same_holder ∙ is) i);
      others = λ q other. raised_both q ∙ (λ i. first.ask_for.others q other i ++ second.ask_for.others q (λ is. other (sym same_holder ∙ is)) i);
      greatest_is = λ before.
          let one = first.ask_for.greatest_is before in
          let two = second.ask_for.greatest_is (before ++ first.raised) in
          let whole = ap greatest (append_assoc before first.raised second.raised) in
          omega (arith, one, two, whole);
      cookie = cookie_behind second.ask_for.cookie;
    }
      where
        cookie_behind : (n ≡ 0) ⊎ (before : List Event) × (b ≡ before ++ Note n (Processor p) ∷ []) → (n ≡ 0) ⊎ (before : List Event) × (a ++ b ≡ before ++ Note n (Processor p) ∷ [])
        cookie_behind (inl none) = inl none
        cookie_behind (inr last) = inr (a ++ last.0, ap (λ l. a ++ l) last.1 ∙ sym (append_assoc a last.0 (Note n (Processor p) ∷ [])))

    both_add : Adds (first.deeds ++ second.deeds) was.calls now.calls
    both_add =
        let here = first.adds.same.2 in record {
          same = (second.adds.same.0 ∙ first.adds.same.0, second.adds.same.1 ∙ first.adds.same.1, second.adds.same.2 ∙ here, second.adds.same.3 ∙ first.adds.same.3);
          since = begins_on first.adds.since second.adds.since;
          own = subst (λ q. deeds_of q now.calls.seen ≡ deeds_of q mid.calls.seen ++ second.deeds) here second.adds.own ∙ (ap (λ l. l ++ second.deeds) first.adds.own ∙ append_assoc (deeds_of was.calls.processor was.calls.seen) first.deeds second.deeds);
        }

    pub did_both : Did p (all_of (a ++ b) n) was now
    did_both = record {
      events = record {
        same = (second.events.same.0 ∙ first.events.same.0, second.events.same.1 ∙ first.events.same.1, second.events.same.2 ∙ first.events.same.2, second.events.same.3 ∙ first.events.same.3);
        since = beginning_trans first.events.since second.events.since;
        mine = second.events.mine ∙ (ap (λ l. l ++ b) first.events.mine ∙ append_assoc was.cpu.mine a b);
        seen = (let one = first.events.seen in let two = second.events.seen in let long = length-append a b in omega (arith, one, two, long));
        later = (let one = first.events.later in let two = second.events.later in omega (arith, one, two));
      };
      are_of = are_both p a b first.are_of second.are_of;
      raised = first.raised ++ second.raised;
      needs = record {
        same = record { domain = second.needs.same.domain ∙ first.needs.same.domain; shape = second.needs.same.shape ∙ first.needs.same.shape; holder = second.needs.same.holder ∙ same_holder };
        since = climbs.begins_on first.needs.since second.needs.since;
        mine = second.needs.mine ∙ (ap (λ l. l ++ second.raised) first.needs.mine ∙ append_assoc was.needs.mine first.raised second.raised);
      };
      ask_for = both_asked;
      deeds = first.deeds ++ second.deeds;
      adds = both_add;
      count = record {
        queued = (let cut = queued_append p first.deeds second.deeds in let one = first.count.queued in let two = second.count.queued in omega (arith, cut, one, two));
        finished = (let cut = finished_append 0 first.deeds second.deeds in let one = first.count.finished in let two = second.count.finished in omega (arith, cut, one, two));
        others = λ q other. let cut = finished_append q first.deeds second.deeds in let one = first.count.others q other in let two = second.count.others q other in omega (arith, cut, one, two);
        lists = λ q away l. lists_append q l first.deeds second.deeds ∙ (ap (λ z. line_from q z second.deeds) (first.count.lists q away l) ∙ second.count.lists q away l);
      };
      turn = second.turn ∙ first.turn;
    }
