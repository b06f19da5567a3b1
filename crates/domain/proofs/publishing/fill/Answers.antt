-- One more word is stored.
use Rattle.std.proofs.Common.{rules, ◌≡◌, ℕ, ◌+◌, ◌<◌, List, length, refl, sym, ap, ◌∙◌, subst, arith}
use Rattle.onedom.specs.Histories.{IsClear}
use Rattle.onedom.proofs.CallerLemmas.{beginning_refl, beginning_trans}
use Rattle.sections.specs.WriterViews.{SlotView}
use Rattle.domain.specs.Views.{with_cpu}
use Rattle.domain.proofs.Filling.{FilledTo, filled_more, filled_all}
use Rattle.domain.proofs.publishing.fill.Goals as goal

pub loop-place-init : goal.loop-place-init
loop-place-init g c = record {
  words = record { long = c.requires.long.0; so_far = λ i lt. absurd (omega (arith, lt)); others = λ x other. refl };
  same = record { domain = refl; cell = refl; slots = refl; version = refl; current = refl };
  standings = refl;
  since = beginning_refl _;
  clear = λ lt. absurd (omega (arith, lt));
  cpu = refl;
  slot = refl;
}

pub loop-place-preserved : goal.loop-place-preserved
loop-place-preserved g c =
    let v = c.loop-place.invariant in
    let s = c.set.ensures.sets in
    let of_slot : SlotView → ℕ = λ z. z.slot in
    let low : c.loop-place.slot.slot < 8 = subst (λ (n : ℕ). n < 8) (sym (ap of_slot v.slot)) c.requires.long.1 in record {
      words = subst (λ (z : ℕ × List ℕ). FilledTo (c.loop-place.place + 1) z.0 c.args.words.now c.args.writer.now.words z.1) (λ i. (of_slot (sym c.set.ensures.slot i), sym s.words i))
          (filled_more c.loop-place.place c.loop-place.slot.slot c.args.words.now c.args.writer.now.words c.loop-place.writer.words low c.loop-place-test.true v.words);
      same = record {
        domain = s.same.domain ∙ v.same.domain;
        cell = s.same.cell ∙ v.same.cell;
        slots = s.same.slots ∙ v.same.slots;
        version = s.same.version ∙ v.same.version;
        current = s.same.current ∙ v.same.current;
      };
      standings = s.standings ∙ v.standings;
      since = beginning_trans v.since s.since;
      clear = λ _. subst (λ (z : ℕ × ℕ). IsClear c.set.new.self.seen z.0 z.1) (λ i. (v.same.cell i, ap of_slot v.slot i)) s.clear;
      cpu = ap (λ z. with_cpu z c.loop-place.cpu) (c.set.ensures.cpu ∙ c.deref_mut.ensures.shows) ∙ v.cpu;
      slot = c.set.ensures.slot ∙ v.slot;
    }

pub returns-clause-fills : goal.returns-clause-fills
returns-clause-fills g c =
    let v = c.loop-place.invariant in
    let done = c.loop-place-test.false in
    let long : length c.args.words.now ≡ 16 = search rules in
    let all : c.loop-place.place ≡ 16 = omega (arith, done) in
    let of_slot : SlotView → ℕ = λ z. z.slot in
    let words = subst (λ (z : ℕ × ℕ). FilledTo z.0 z.1 c.args.words.now c.args.writer.now.words c.loop-place.writer.words) (λ i. (all i, of_slot (v.slot i))) v.words in record {
      same = v.same;
      standings = v.standings;
      text_is = filled_all c.args.slot.now.slot c.args.words.now c.args.writer.now.words c.loop-place.writer.words c.requires.long.1 long words;
      others = words.others;
      since = v.since;
      clear = v.clear (subst (λ (n : ℕ). 0 < n) (sym (all)) (omega (arith)));
    }
