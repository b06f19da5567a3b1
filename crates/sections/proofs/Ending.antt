-- What the calls that end a section have in common: its right is at the processor's own seat, a version is found, and the section ends.
use Rattle.std.proofs.Common.{◌≡◌, ℕ, ◌+◌, ◌/◌, ◌%◌, ◌<◌, ◌≤◌, false, [], ◌∷◌, ◌++◌, None, length, refl, sym, ◌∙◌, arith}
use Rattle.std.specs.Arc.{arc_value}
use Rattle.sseq.specs.declared.index.Index.{Index}
use Rattle.onedom.specs.declared.event.Maker.TheVariants.{Processor}
use Rattle.onedom.specs.declared.event.Event.{Event}
use Rattle.onedom.specs.declared.event.Event.TheVariants.{Find, End}
use Rattle.onedom.specs.Histories.{begins_of, IsBeginning}
use Rattle.onedom.proofs.CallerLemmas.{beginning_trans}
use Rattle.sections.specs.Glossary.{View, is_held, open_readings, IsKnown, lacking, bearer, informed, Adds, DomainSeat, FindsIn, section_of, view_of_cpu, IsCpu, view_of_found, CpuView, FoundView, Unlocks, Finds, FindsThere}
use Rattle.sections.specs.declared.view.Role.TheVariants.{Cpu}
use Rattle.sections.specs.declared.view.Right.TheVariants.{Nothing, Section}
use Rattle.sections.specs.declared.cpu.Cpu.TheInside as cpu
use Rattle.sections.proofs.CpuViews.{seen_as, adds_alone, rests_after, one_less_unclosed, locks_unchanged, locks_told, unclosed_told}
use Rattle.sections.proofs.Pinning.{lent, found_in, finds}

-- what a seat has seen since is no event of its own
pub record Follows (v w : View) : Type 0 where
  pub processors : w.processors ≡ v.processors
  pub role : w.role ≡ v.role
  pub mine : w.mine ≡ v.mine
  pub since : IsBeginning v.seen w.seen
  pub later : v.changes ≤ w.changes

-- a reading's right was joined to a processor's seat, which then found what this word says, and has seen more since
pub record FoundWith {A : Type 0} (c : cpu.Inside A) (cell word p : ℕ) (k : Index) (lender last : DomainSeat) (at : View) : Type 0 where
  pub invariant : IsCpu c
  pub right : lender.me.0.right ≡ Section (section_of lender.me.0.right) p k [] None
  pub finds : FindsThere cell word (informed c.seat.me.0 (bearer lender.me.0)) at
  pub follows : Follows at last.me.0

module _ {A : Type 0} {c : cpu.Inside A} {cell word p : ℕ} {k : Index} {lender last : DomainSeat} {at : View} (f : FoundWith c cell word p k lender last at) where
  abbrev s : ℕ
  s = section_of lender.me.0.right

  abbrev q : ℕ
  q = c.processor

  abbrev event : Event
  event = Find s cell (word % 16) (word / 16) (Processor q)

  told : Adds (informed c.seat.me.0 (bearer lender.me.0)) event at × IsKnown cell (word / 16) at.texts × (word % 16 < 8)
  told = f.finds s p q k [] f.invariant.role f.right

  -- as if the right had been lent for the find alone
  abbrev alone : DomainSeat
  alone = record c.seat { me = (lacking at, []) }

  abbrev token : DomainSeat
  token = record c.seat { me = (bearer (lacking at), []) }

  lent_alone : FindsIn cell c.seat lender word alone token
  lent_alone = record {
    after = at;
    adds = f.finds;
    same_table = (refl, refl);
    stays = refl;
    given = refl;
  }

  abbrev pub found : FoundView
  found = view_of_found (found_in cell word token)

  abbrev pub found_then : CpuView
  found_then = view_of_cpu (record c { seat = alone })

  abbrev n : ℕ
  n = (arc_value c.table).shared.key.processors

  abbrev pub now : CpuView
  now = seen_as c.seat.table_id n c.limit q last.me.0

  pub finds_it : Finds cell (lent lender p k) (view_of_cpu c) found_then found
  finds_it = finds {lender = lender} f.invariant f.right lent_alone

  pub sized : last.me.0.processors ≡ n
  sized = f.follows.processors ∙ (told.0.processors ∙ f.invariant.placed.sized)

  pub role : last.me.0.role ≡ Cpu q
  role = f.follows.role ∙ (told.0.role ∙ f.invariant.role)

  pub reading_seen : IsBeginning lender.me.0.seen last.me.0.seen
  reading_seen = beginning_trans (beginning_trans finds_it.adds.covers (record { rest = event ∷ []; whole = finds_it.adds.seen })) f.follows.since

  module _ (final : DomainSeat) (table : final.table_id ≡ c.seat.table_id) (free : final.me.0.right ≡ Nothing) (adds : Adds last.me.0 (End s q (Processor q)) final.me.0) where
    pub ends_it : Unlocks (lent lender p k) now (view_of_cpu (record c { seat = final }))
    ends_it =
        let base = adds_alone (End s q (Processor q)) c.seat.table_id final.table_id n c.limit q last.me.0 final.me.0 final.me.0 table sized role (λ j. record final.me.0 { right = free j }) adds in
        let a = finds_it.adds.not_before in let b = f.follows.later in let d = adds.later in record {
          same = base.same;
          before = base.before;
          seen = base.seen;
          since = base.since;
          later = base.later;
          covers = beginning_trans reading_seen base.covers;
          not_before = omega (arith, a, b, d);
          mine = base.mine;
          steps = base.steps;
          texts = base.texts;
          history = base.history;
        }

    -- one section more is settled, which was a reading of this processor
    pub settles : final.me.1 ≡ [] → p ≡ q → is_held s ≡ false → (p ≡ q → begins_of s last.me.0.mine ≡ 1) → IsCpu (record c { seat = final; settled = c.settled + 1 })
    settles bare here kind begun =
        let mine : last.me.0.mine ≡ c.seat.me.0.mine ++ event ∷ [] = f.follows.mine ∙ told.0.mine in
        let less = one_less_unclosed s q last.me.0 final.me.0 (adds.role ∙ role) adds (begun here) kind in
        let same : length (open_readings last.me.0.mine) ≡ length (open_readings c.seat.me.0.mine) = unclosed_told event c.seat.me.0.mine last.me.0.mine refl (λ _. refl) mine in
        let was = f.invariant.settled in record {
          placed = record { seated = table ∙ f.invariant.placed.seated; wide = f.invariant.placed.wide; cells = f.invariant.placed.cells; bare = bare; sized = adds.processors ∙ sized };
          rests = rests_after last.me.0 final.me.0 (End s q (Processor q)) free adds;
          role = adds.role ∙ role;
          there = f.invariant.there;
          limit = f.invariant.limit;
          begun = λ j. f.invariant.begun j ∙ sym (locks_unchanged q j s q (Processor q) last.me.0.mine final.me.0.mine adds.mine ∙ locks_told q j event c.seat.me.0.mine last.me.0.mine refl mine);
          limited = f.invariant.limited;
          small = f.invariant.small;
          settled = omega (arith, less, same, was);
        }
