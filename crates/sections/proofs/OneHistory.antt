-- What the rule says of the words, in terms of the history alone.
use Rattle.std.proofs.Common.{◌≡◌, ℕ, ◌*◌, ◌%◌, ◌≤◌, inl, inr, List, sym, ap, ◌∙◌, subst, arith}
use mathlib.Core.Logic.{dite}
use native.Mathlib.Decide.{ℕ_discrete}
use Rattle.onedom.specs.declared.event.Maker.{Maker}
use Rattle.onedom.specs.declared.event.Event.{Event}
use Rattle.onedom.specs.Histories.{ended_in, IsRunning, made_by}
use Rattle.onedom.proofs.CallerLemmas.{beginning_made_by}
use Rattle.sections.specs.Glossary.{Role, View, IsMaker, HasReached, Makes, Fits, Truth, number_word, Reaches, MayHave, OneHistory, ShownIsSeen, WordsAgree}
use Rattle.sections.specs.declared.view.Role.TheVariants.{Bearer}
use Rattle.sections.proofs.Knowing.{knows_at}

pub words_agree : WordsAgree
words_agree changes history r = let started = r.started in let ended = r.ended in record {
  resting = λ resting. idle_number changes history r (not_running_idle changes history r resting);
  running = λ running. dite (ℕ_discrete (changes % 4) 3) (λ three. inr (omega (arith, ended, three))) (λ other. inl (omega (arith, started, ended, running, other)));
  index_idle = λ idle. omega (arith, ended, idle);
  index_first_scan = λ first. dite (ℕ_discrete (changes % 4) 1) (λ one. inl (omega (arith, ended, one))) (λ other. inr (omega (arith, ended, first, other)));
  index_second_scan = λ second. omega (arith, ended, second);
}
  where
    not_running_idle : (changes : ℕ) (history : List Event) → Reaches changes history → (IsRunning history → ⊥) → changes % 4 ≡ 0
    not_running_idle changes history r resting = dite (ℕ_discrete (changes % 4) 0) (λ e. e) (λ n. let started = r.started in let ended = r.ended in absurd (resting (omega (arith, started, ended, n))))

    idle_number : (changes : ℕ) (history : List Event) → Reaches changes history → changes % 4 ≡ 0 → number_word changes ≡ 4 * ended_in history
    idle_number changes history r idle = let ended = r.ended in omega (arith, ended, idle)

pub shown_is_seen : ShownIsSeen
shown_is_seen bounds s r j k p n v c at shown there is =
    let reached : n ≤ r.reached p = subst (HasReached r.reached) shown (r.each_view j v at).shown in
    let seen = (knows_at (r.each_view k c there) is).0 in
    omega (arith, reached, seen)

pub one_history : OneHistory
one_history bounds s r = record {
  log = r.log;
  legal = r.within.legal;
  words = subst (λ (z : ℕ × ℕ). MayHave r.log z.0 z.1) (λ k. (sym r.words.number k, sym r.words.index k)) (words_agree r.changes r.log r.words.reaches);
  lock_counters = r.words.lock_counters;
  unlock_counters = r.words.unlock_counters;
  seen = λ j v at. (r.each_view j v at).seen;
  known = λ j k u v at there m is. let f = r.each_view j u at in
      let own : u.mine ≡ made_by m r.log = made f m is in
      let b = beginning_made_by m (r.each_view k v there).seen in record { rest = b.rest; whole = own ∙ b.whole };
  texts = r.shelf.texts;
  shelved = r.shelf.shelved;
  told = λ j v at. (r.shelf.each j v at).has;
  vaults = r.banks.one_vault;
}
  where
    made : {b : Truth} {j : ℕ} {v : View} → Fits b j v → (m : Maker) → IsMaker v.role m → v.mine ≡ made_by m b.log
    made {b} {j} {v} f m is = go v.role v.mine f.makes is
      where
        go : (role : Role) (mine : List Event) → Makes b j role mine → IsMaker role m → mine ≡ made_by m b.log
        go Bearer mine h is = absurd is
        go _ mine h is = h.1 ∙ ap (λ z. made_by z b.log) (sym is)
