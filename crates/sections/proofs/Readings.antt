-- A section whose right is at the processor's own seat finds a version, all words of which are loaded, and ends.
use Rattle.std.proofs.Common.{◌≡◌, ℕ, ◌+◌, ◌-◌, ◌/◌, ◌%◌, ◌<◌, List, [], ◌∷◌, ◌++◌, None, All, length, length-append, append-nil, replicate, get_or, set, refl, sym, ap, ◌∙◌, subst, arith}
use Rattle.std.proofs.lemmas.List.{get_or_append_left}
use Rattle.std.proofs.lemmas.List.Elements.{All-nil}
use Rattle.std.proofs.Math.Seq.{get_or-append_seam}
use mathlib.Core.Logic.{dite}
use native.Mathlib.Decide.{ℕ_discrete}
use Rattle.sseq.specs.declared.index.Index.{Index}
use Rattle.onedom.specs.declared.event.Maker.TheVariants.{Processor}
use Rattle.onedom.specs.declared.event.Event.{Event}
use Rattle.onedom.specs.declared.event.Event.TheVariants.{End}
use Rattle.onedom.specs.Histories.{HasFound}
use Rattle.onedom.proofs.CallerLemmas.{beginning_refl}
use Rattle.sections.specs.Glossary.{Step, View, IsStart, IsKnown, word_of, GoesOn, moment_of, steps_of, bearer, informed, Adds, Sees, DomainSeat, SeesAll, section_of, view_of_cpu, IsCpu, word_loads, HasSection, FindsThere, ReadsHere, ReadsAndEnds}
use Rattle.sections.specs.declared.view.Role.TheVariants.{Cpu}
use Rattle.sections.specs.declared.view.Right.TheVariants.{Nothing, Section}
use Rattle.sections.specs.declared.view.Step.TheVariants.{LoadWord}
use Rattle.sections.specs.declared.cpu.Cpu.TheInside as cpu
use Rattle.sections.specs.Pins.{HasMet}
use Rattle.sections.proofs.CpuViews.{history_of}
use Rattle.sections.proofs.Deeds.{cpu_makes}
use Rattle.sections.proofs.Ending.{Follows, FoundWith, found, found_then, now, finds_it, sized, role, reading_seen, ends_it}
use Rattle.sections.proofs.Finding.{words_stay, found_later}
use Rattle.sections.proofs.Pinning.{lent}
use Rattle.sections.proofs.Shelving.{start_refl}
use Rattle.sections.proofs.Wholes.{sees_more, loads_behind, stored_behind}

-- nothing was loaded yet
pub sees_none : {v w : View} {e : Event} → Adds v e w → SeesAll [] w w
sees_none {w = w} a = record {
  processors = refl;
  role = refl;
  mine = refl;
  right = refl;
  told = a.told;
  steps = λ m is. sym (append-nil (steps_of m w.done));
  since = beginning_refl w.seen;
  later = omega arith;
  covers = subst (λ l. All (λ m. GoesOn m (moment_of w)) l) (sym a.told) (All-nil (λ m. GoesOn m (moment_of w)));
  texts = record { since = start_refl w.texts; covers = subst (λ l. All (λ m. IsStart m.texts w.texts) l) (sym a.told) (All-nil (λ m. IsStart m.texts w.texts)) };
  sound = a.sound;
}

-- the words so far of the version that was found stand before zeros
pub record SoFarHere (cell n place : ℕ) (at : View) (words : List ℕ) (w : View) : Type 0 where
  pub got : List ℕ
  pub count : length got ≡ place
  pub words_are : words ≡ got ++ replicate (16 - length got) 0
  pub sees : SeesAll (word_loads cell n 0 got) at w
  pub values : (k : ℕ) → k < length got → get_or got k 0 ≡ word_of cell n k at.texts

pub so_far_none : (cell n : ℕ) {v at : View} {e : Event} → Adds v e at → SoFarHere cell n 0 at (replicate 16 0) at
so_far_none cell n a = record { got = []; count = refl; words_are = refl; sees = sees_none a; values = λ k lt. absurd (omega (arith, lt)) }

pub so_far_next : (cell n place word : ℕ) (at : View) (words : List ℕ) (w z : View) → IsKnown cell n at.texts → place < 16 → SoFarHere cell n place at words w → Sees (LoadWord cell n place word) w z × (word ≡ word_of cell n place z.texts) → SoFarHere cell n (place + 1) at (set words place word) z
so_far_next cell n place word at words w z known lt h f =
    let m = h.count in
    let more : SeesAll (word_loads cell n 0 (h.got ++ word ∷ [])) at z = subst (λ l. SeesAll l at z) (sym (loads_behind cell n word h.got)) (sees_more h.sees (subst (λ k. Sees (LoadWord cell n k word) w z) (sym m) f.0)) in record {
      got = h.got ++ word ∷ [];
      count = length-append h.got (word ∷ []) ∙ ap (λ k. k + 1) m;
      words_are = ap (λ ws. set ws place word) h.words_are ∙ (ap (λ k. set (h.got ++ replicate (16 - length h.got) 0) k word) (sym m) ∙ stored_behind 16 word h.got (omega (arith, m, lt)));
      sees = more;
      values = λ k lk. dite (ℕ_discrete k (length h.got))
          (λ e. ap (λ j. get_or (h.got ++ word ∷ []) j 0) e ∙ (get_or-append_seam h.got word [] 0 ∙ (f.1 ∙ (ap (λ ws. get_or ws place 0) (words_stay cell n at.texts z.texts more.texts.since known) ∙ ap (λ j. word_of cell n j at.texts) (sym (e ∙ m))))))
          (λ ne. let a = length-append h.got (word ∷ []) in let lg : k < length h.got = omega (arith, a, lk, ne) in get_or_append_left h.got (word ∷ []) 0 k lg ∙ h.values k lg);
    }

pub so_far_whole : (cell n place : ℕ) (at : View) (words : List ℕ) (w : View) → place ≡ 16 → SoFarHere cell n place at words w → SeesAll (word_loads cell n 0 words) at w × ((k : ℕ) → k < length words → get_or words k 0 ≡ word_of cell n k at.texts)
so_far_whole cell n place at words w all h =
    let m = h.count in let none_left : 16 - length h.got ≡ 0 = omega (arith, m, all) in
    let whole : words ≡ h.got = h.words_are ∙ (ap (λ k. h.got ++ replicate k 0) none_left ∙ append-nil h.got) in
    subst (λ ws. SeesAll (word_loads cell n 0 ws) at w × ((k : ℕ) → k < length ws → get_or ws k 0 ≡ word_of cell n k at.texts)) (sym whole) (h.sees, h.values)

-- between two loads of the loop
pub record IsHere (cell word place : ℕ) (before : DomainSeat) (words : List ℕ) (seat : DomainSeat) : Type 0 where
  pub at : View
  pub finds : FindsThere cell word before.me.0 at
  pub so_far : SoFarHere cell (word / 16) place at words seat.me.0
  pub long : length words ≡ 16
  pub right : seat.me.0.right ≡ before.me.0.right
  pub same_table : seat.table_id ≡ before.table_id
  pub bare : seat.me.1 ≡ []

-- the seat has seen what its section found
pub seen_here : (cell found place p : ℕ) (before : DomainSeat) (words : List ℕ) (seat : DomainSeat) (sec : HasSection before) → before.me.0.role ≡ Cpu p → IsHere cell found place before words seat → HasFound seat.me.0.seen sec.section cell (found % 16) (found / 16)
seen_here cell found place p before words seat sec role h = let adds = (h.finds sec.section sec.begun_on p sec.index [] role sec.right).0 in
    found_later h.at.seen seat.me.0.seen sec.section cell (found % 16) (found / 16) h.so_far.sees.since record { before = adds.before; by = Processor p; after = []; whole = adds.seen }

pub met_here : (cell found place p : ℕ) (before : DomainSeat) (words : List ℕ) (seat : DomainSeat) (sec : HasSection before) → before.me.0.role ≡ Cpu p → IsHere cell found place before words seat → HasMet cell (found % 16) seat.me.0
met_here cell found place p before words seat sec role h = record {
  section = sec.section;
  processor = sec.begun_on;
  index = sec.index;
  version = found / 16;
  right = h.right ∙ sec.right;
  met = seen_here cell found place p before words seat sec role h;
}

-- What a caller sees of it

follows : {ls : List Step} {v w : View} → SeesAll ls v w → Follows v w
follows h = record { processors = h.processors; role = h.role; mine = h.mine; since = h.since; later = h.later }

module _ {A : Type 0} {c : cpu.Inside A} {cell p : ℕ} {k : Index} {words : List ℕ} (lender joined last : DomainSeat) (i : IsCpu c)
    (right : lender.me.0.right ≡ Section (section_of lender.me.0.right) p k [] None) (one : joined.me.0 ≡ informed c.seat.me.0 (bearer lender.me.0)) (h : ReadsHere cell joined words last) where
  pub found_read : FoundWith c cell h.word p k lender last h.at
  found_read = record { invariant = i; right = right; finds = subst (λ (z : View). FindsThere cell h.word z h.at) one h.finds; follows = follows h.loads }

  pub reads_and_ends : (final : DomainSeat) → final.table_id ≡ c.seat.table_id → final.me.0.right ≡ Nothing
      → Adds last.me.0 (End (section_of lender.me.0.right) c.processor (Processor c.processor)) final.me.0 → ReadsAndEnds cell (lent lender p k) words (view_of_cpu c) (view_of_cpu (record c { seat = final }))
  reads_and_ends final table free adds = let f = found_read in record {
    at = found_then f;
    found = found f;
    finds = finds_it f;
    read = now f;
    reads = record {
      words_are = record { long = h.long; each = λ j lt. h.values j (let l = h.long in omega (arith, lt, l)) };
      same = (refl, refl, refl, refl);
      mine = h.loads.mine;
      steps = h.loads.steps (Processor c.processor) (cpu_makes c.processor h.at.role (sym h.loads.role ∙ role f));
      since = h.loads.since;
      later = h.loads.later;
      texts_since = h.loads.texts.since;
      history = history_of _ c.processor last.me.0 (sized f) (role f) h.loads.sound;
      covers_reading = reading_seen f;
      covers = h.loads.since;
      not_before = h.loads.later;
      texts = h.loads.texts.since;
    };
    ends = ends_it f final table free adds;
  }
