-- The words agree with the history after each step.
use Rattle.std.proofs.Common.{◌≡◌, ℕ, ◌+◌, ◌%◌, ◌<◌, ◌≤◌, ◌≢◌, Bool, true, false, cond, ◌&&◌, eqb, List, [], ◌∷◌, ◌++◌, All, length, get_or, set, refl, sym, ap, ◌∙◌, arith, length-set, get_or-set_other, get_or-set_same}
use mathlib.Core.Logic.{dite}
use native.Mathlib.Decide.{ℕ_discrete}
use Rattle.sseq.specs.declared.index.Index.{Index}
use Rattle.sseq.specs.Indexes.{same_index}
use Rattle.onedom.specs.declared.event.Maker.{Maker}
use Rattle.onedom.specs.declared.event.Event.{Event}
use Rattle.onedom.specs.declared.event.Event.TheVariants.{Begin, End, Start, Finish, Note, Ask, Find, Put}
use Rattle.onedom.specs.Histories.{maker_of, same_maker, made_by, index_of, is_start, is_finish, starts_in, IsRunning}
use Rattle.onedom.specs.declared.event.Maker.TheVariants.{Engine}
use Rattle.onedom.proofs.CallerLemmas.{bit, count_cons, starts_in_push, ended_in_push}
use Rattle.std.proofs.lemmas.List.Elements.{All-head, All-tail}
use Rattle.sections.specs.Glossary.{HasItsMaker, index_place, number_place, lock_place, unlock_place, cells_from, word_count, locks_at, locks, unlocks_at, unlocks, index_word, number_word, IsIdle, IsBehindFlip, Reaches, Agree}
use Rattle.sections.proofs.Counters.{index_low, index_number_same, locks_push, unlocks_push, locks_here, elsewhere}

-- How far the engine has come

pub reaches_plain : (changes : ℕ) (log : List Event) (e : Event) → is_start e ≡ false → is_finish e ≡ false → Reaches changes log → Reaches changes (log ++ e ∷ [])
reaches_plain changes log e no_start no_finish r = let a = starts_in_push log e in let b = ended_in_push log e in let x : bit (is_start e) ≡ 0 = ap bit no_start in let y : bit (is_finish e) ≡ 0 = ap bit no_finish in
    let c = r.started in let d = r.ended in record { started = omega (arith, a, x, c); ended = omega (arith, b, y, d) }

pub reaches_started : (changes : ℕ) (log : List Event) (by : Maker) → IsIdle changes → Reaches changes log → Reaches (changes + 1) (log ++ Start by ∷ [])
reaches_started changes log by idle r = let a = starts_in_push log (Start by) in let b = ended_in_push log (Start by) in let c = r.started in let d = r.ended in
    record { started = omega (arith, a, c, idle); ended = omega (arith, b, d, idle) }

pub reaches_finished : (changes : ℕ) (log : List Event) (by : Maker) → IsBehindFlip changes → Reaches changes log → Reaches (changes + 1) (log ++ Finish by ∷ [])
reaches_finished changes log by behind r = let a = starts_in_push log (Finish by) in let b = ended_in_push log (Finish by) in let c = r.started in let d = r.ended in
    record { started = omega (arith, a, c, behind); ended = omega (arith, b, d, behind) }

-- a change that is no event
pub reaches_on : (changes : ℕ) (log : List Event) → 0 < changes % 4 → changes % 4 < 3 → Reaches changes log → Reaches (changes + 1) log
reaches_on changes log some few r = let c = r.started in let d = r.ended in record { started = omega (arith, c, some, few); ended = omega (arith, d, some, few) }

pub idle_not_running : (changes : ℕ) (log : List Event) → IsIdle changes → Reaches changes log → ¬ IsRunning log
idle_not_running changes log idle r running = let c = r.started in let d = r.ended in omega (arith, c, d, idle, running)

pub busy_running : (changes : ℕ) (log : List Event) → 0 < changes % 4 → Reaches changes log → IsRunning log
busy_running changes log some r = let c = r.started in let d = r.ended in omega (arith, c, d, some)

-- Where the words stand

-- two counters of the same kind stand at one place only if they are the same
pub lock_places : (p q : ℕ) (i j : Index) → lock_place p i ≡ lock_place q j → (p ≡ q) × (i ≡ j)
lock_places p q i j e = let a = index_low i in let b = index_low j in (omega (arith, a, b, e), index_number_same i j (omega (arith, a, b, e)))

pub unlock_places : (p q : ℕ) (i j : Index) → unlock_place p i ≡ unlock_place q j → (p ≡ q) × (i ≡ j)
unlock_places p q i j e = let a = index_low i in let b = index_low j in (omega (arith, a, b, e), index_number_same i j (omega (arith, a, b, e)))

apart : (p q : ℕ) (i j : Index) → lock_place p i ≢ unlock_place q j
apart p q i j e = let a = index_low i in let b = index_low j in omega (arith, a, b, e)

lock_inside : (n p : ℕ) (i : Index) → p < n → lock_place p i < cells_from n
lock_inside n p i lt = let a = index_low i in omega (arith, a, lt)

pub lock_there : (n cells p : ℕ) (i : Index) → p < n → lock_place p i < word_count n cells
lock_there n cells p i lt = let a = lock_inside n p i lt in omega (arith, a)

pub unlock_there : (n cells p : ℕ) (i : Index) → p < n → unlock_place p i < word_count n cells
unlock_there n cells p i lt = let a = index_low i in omega (arith, a, lt)

module _ (n : ℕ) (words : List ℕ) (log : List Event) (changes : ℕ) (r : Agree n words log changes) where
  pub agrees_begun : (s p : ℕ) (i : Index) (by : Maker) → p < n → Agree n (set words (lock_place p i) (get_or words (lock_place p i) 0 + 1)) (log ++ Begin s p i by ∷ []) changes
  agrees_begun s p i by lt =
      let e : Event = Begin s p i by in
      let k : ℕ = lock_place p i in
      let y : ℕ = get_or words k 0 + 1 in
      let wide = r.wide in
      let low = index_low i in
      let inside : k < length words = omega (arith, wide, low, lt) in record {
        wide = let l = length-set words k y in omega (arith, l, wide);
        reaches = reaches_plain changes log e refl refl r.reaches;
        index = get_or-set_other words k 0 y 0 (λ h. omega arith) ∙ r.index;
        number = get_or-set_other words k 16 y 0 (λ h. omega arith) ∙ r.number;
        lock_counters = λ q j lq. dite (ℕ_discrete (lock_place q j) k)
            (λ h. let same = lock_places q p j i h in let c = locks_push p i log e in let one : bit (locks_at p i e) ≡ 1 = ap bit (locks_here p i) in let was = r.lock_counters p i lt in
            ap (λ z. get_or (set words k y) z 0) h ∙ (get_or-set_same words k y 0 inside ∙ (omega (arith, was, c, one) ∙ (λ l. locks (sym same.0 l) (sym same.1 l) (log ++ e ∷ [])))))
            (λ h. get_or-set_other words k (lock_place q j) y 0 h ∙ (r.lock_counters q j lq ∙ (let c = locks_push q j log e in
            let zero : bit (locks_at q j e) ≡ 0 = ap bit (elsewhere p q i j (λ pq ij. h (λ l. lock_place (sym pq l) (sym ij l)))) in omega (arith, c, zero))));
        unlock_counters = λ q j lq. get_or-set_other words k (unlock_place q j) y 0 (λ h. apart p q i j (sym h)) ∙ (r.unlock_counters q j lq ∙ (let c = unlocks_push q j log e in omega (arith, c)));
      }

  pub agrees_ended : (s q : ℕ) (i : Index) (by : Maker) → q < n → index_of s log ≡ i → Agree n (set words (unlock_place q i) (get_or words (unlock_place q i) 0 + 1)) (log ++ End s q by ∷ []) changes
  agrees_ended s p i by lt is =
      let e : Event = End s p by in
      let k : ℕ = unlock_place p i in
      let y : ℕ = get_or words k 0 + 1 in
      let wide = r.wide in
      let low = index_low i in
      let inside : k < length words = omega (arith, wide, low, lt) in record {
        wide = let l = length-set words k y in omega (arith, l, wide);
        reaches = reaches_plain changes log e refl refl r.reaches;
        index = get_or-set_other words k 0 y 0 (λ h. omega arith) ∙ r.index;
        number = get_or-set_other words k 16 y 0 (λ h. omega arith) ∙ r.number;
        lock_counters = λ q j lq. get_or-set_other words k (lock_place q j) y 0 (λ h. apart q p j i h) ∙ (r.lock_counters q j lq ∙ (let c = locks_push q j log e in omega (arith, c)));
        unlock_counters = λ q j lq. dite (ℕ_discrete (unlock_place q j) k)
            (λ h. let same = unlock_places q p j i h in let c = unlocks_push p i log e in
            let one : bit (unlocks_at p i log e) ≡ 1 = ap (λ x. bit (eqb p p && same_index x i)) is ∙ ap bit (locks_here p i) in let was = r.unlock_counters p i lt in
            ap (λ z. get_or (set words k y) z 0) h ∙ (get_or-set_same words k y 0 inside ∙ (omega (arith, was, c, one) ∙ (λ l. unlocks (sym same.0 l) (sym same.1 l) (log ++ e ∷ [])))))
            (λ h. get_or-set_other words k (unlock_place q j) y 0 h ∙ (r.unlock_counters q j lq ∙ (let c = unlocks_push q j log e in
            let zero : bit (unlocks_at q j log e) ≡ 0 = ap bit (elsewhere p q (index_of s log) j (λ pq ij. let ji : j ≡ i = sym ij ∙ is in h (λ l. unlock_place (sym pq l) (ji l)))) in omega (arith, c, zero))));
      }

  -- no word was changed
  pub agrees_plain : (e : Event) → is_start e ≡ false → is_finish e ≡ false → ((p : ℕ) (i : Index) → locks_at p i e ≡ false) → ((q : ℕ) (i : Index) → unlocks_at q i log e ≡ false) → Agree n words (log ++ e ∷ []) changes
  agrees_plain e no_start no_finish no_lock no_unlock = record {
    wide = r.wide;
    reaches = reaches_plain changes log e no_start no_finish r.reaches;
    index = r.index;
    number = r.number;
    lock_counters = λ p i lt. let c = locks_push p i log e in let z : bit (locks_at p i e) ≡ 0 = ap bit (no_lock p i) in r.lock_counters p i lt ∙ omega (arith, c, z);
    unlock_counters = λ q i lt. let c = unlocks_push q i log e in let z : bit (unlocks_at q i log e) ≡ 0 = ap bit (no_unlock q i) in r.unlock_counters q i lt ∙ omega (arith, c, z);
  }

  -- the number was changed
  pub agrees_numbered : (y : ℕ) (log' : List Event) → Reaches (changes + 1) log' → index_word (changes + 1) ≡ index_word changes → y ≡ number_word (changes + 1)
      → ((p : ℕ) (i : Index) → locks p i log' ≡ locks p i log) → ((q : ℕ) (i : Index) → unlocks q i log' ≡ unlocks q i log) → Agree n (set words number_place y) log' (changes + 1)
  agrees_numbered y log' reaches same is no_lock no_unlock =
      let k : ℕ = number_place in
      let wide = r.wide in
      let inside : k < length words = omega (arith, wide) in record {
        wide = let l = length-set words k y in omega (arith, l, wide);
        reaches = reaches;
        index = get_or-set_other words k 0 y 0 (λ h. omega arith) ∙ (r.index ∙ sym same);
        number = get_or-set_same words k y 0 inside ∙ is;
        lock_counters = λ q j lq. get_or-set_other words k (lock_place q j) y 0 (λ h. omega arith) ∙ (r.lock_counters q j lq ∙ sym (no_lock q j));
        unlock_counters = λ q j lq. get_or-set_other words k (unlock_place q j) y 0 (λ h. omega arith) ∙ (r.unlock_counters q j lq ∙ sym (no_unlock q j));
      }

  -- the index word was changed
  pub agrees_flipped : (y : ℕ) → Reaches (changes + 1) log → y ≡ index_word (changes + 1) → number_word (changes + 1) ≡ number_word changes → Agree n (set words index_place y) log (changes + 1)
  agrees_flipped y reaches is same =
      let k : ℕ = index_place in
      let wide = r.wide in
      let inside : k < length words = omega (arith, wide) in record {
        wide = let l = length-set words k y in omega (arith, l, wide);
        reaches = reaches;
        index = get_or-set_same words k y 0 inside ∙ is;
        number = get_or-set_other words k 16 y 0 (λ h. omega arith) ∙ (r.number ∙ sym same);
        lock_counters = λ q j lq. get_or-set_other words k (lock_place q j) y 0 (λ h. omega arith) ∙ r.lock_counters q j lq;
        unlock_counters = λ q j lq. get_or-set_other words k (unlock_place q j) y 0 (λ h. omega arith) ∙ r.unlock_counters q j lq;
      }

pub locks_not_at : (p : ℕ) (i : Index) (log : List Event) (e : Event) → locks_at p i e ≡ false → locks p i (log ++ e ∷ []) ≡ locks p i log
locks_not_at p i log e none = let c = locks_push p i log e in let z : bit (locks_at p i e) ≡ 0 = ap bit none in omega (arith, c, z)

pub unlocks_not_at : (q : ℕ) (i : Index) (log : List Event) (e : Event) → unlocks_at q i log e ≡ false → unlocks q i (log ++ e ∷ []) ≡ unlocks q i log
unlocks_not_at q i log e none = let c = unlocks_push q i log e in let z : bit (unlocks_at q i log e) ≡ 0 = ap bit none in omega (arith, c, z)

-- The engine's own events have all starts

not_started : (n : ℕ) (e : Event) → HasItsMaker n e → same_maker (maker_of e) Engine ≡ false → is_start e ≡ false
not_started n (Begin s p i by) has other = refl
not_started n (End s q by) has other = refl
not_started n (Start by) has other = let w : true ≡ false = ap (λ m. same_maker m Engine) (sym has) ∙ other in cc
not_started n (Finish by) has other = refl
not_started n (Note c by) has other = refl
not_started n (Ask c b by) has other = refl
not_started n (Find u d x v by) has other = refl
not_started n (Put d x v by) has other = refl

starts_case : (e : Event) (es mine : List Event) (b : Bool) → (b ≡ false → is_start e ≡ false) → starts_in mine ≡ starts_in es → starts_in (cond b (e ∷ mine) mine) ≡ starts_in (e ∷ es)
starts_case e es mine true h r = count_cons is_start e mine ∙ (ap (λ k. bit (is_start e) + k) r ∙ sym (count_cons is_start e es))
starts_case e es mine false h r = let z : bit (is_start e) ≡ 0 = ap bit (h refl) in let c = count_cons is_start e es in omega (arith, c, r, z)

pub starts_mine : (n : ℕ) (log : List Event) → All (HasItsMaker n) log → starts_in (made_by Engine log) ≡ starts_in log
starts_mine n [] all = refl
starts_mine n (e ∷ es) all = starts_case e es (made_by Engine es) (same_maker (maker_of e) Engine) (not_started n e (All-head (HasItsMaker n) e es all)) (starts_mine n es (All-tail (HasItsMaker n) e es all))

pub agrees_new : (n : ℕ) (words : List ℕ) → cells_from n ≤ length words → ((k : ℕ) → get_or words k 0 ≡ 0) → Agree n words [] 0
agrees_new n words wide zeros = record {
  wide = wide;
  reaches = record { started = refl; ended = refl };
  index = zeros 0;
  number = zeros 16;
  lock_counters = λ p i _. zeros (lock_place p i);
  unlock_counters = λ q i _. zeros (unlock_place q i);
}
