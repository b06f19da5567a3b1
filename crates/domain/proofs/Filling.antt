-- A word of a slot is stored.
use Rattle.std.proofs.Common.{◌≡◌, ◌≢◌, ℕ, ◌+◌, ◌*◌, ◌<◌, List, length, drop, get_or, set, sym, ap, ◌∙◌, arith, get_or-take, get_or-drop, get_or-set_same, get_or-set_other, ext_get_or}
use Rattle.std.proofs.lemmas.List.{length-set, length-take, length-drop}
use mathlib.Core.Logic.{dite}
use native.Mathlib.Decide.{ℕ_discrete}
use Rattle.sections.specs.Shelves.{slot_words}

slot_word : (x i : ℕ) (own : List ℕ) → i < 16 → get_or (slot_words x own) i 0 ≡ get_or own (16 * x + i) 0
slot_word x i own li = get_or-take 16 (drop (16 * x) own) i 0 li ∙ get_or-drop (16 * x) own i 0

pub slot_long : (x : ℕ) (own : List ℕ) → length own ≡ 128 → x < 8 → length (slot_words x own) ≡ 16
slot_long x own long low = let t = length-take 16 (drop (16 * x) own) in let d = length-drop (16 * x) own in omega (arith, t, d, long, low)

module _ (slot place y : ℕ) (own : List ℕ) (long : length own ≡ 128) (low : slot < 8) (lp : place < 16) where
  abbrev pub after : List ℕ
  after = set own (16 * slot + place) y

  pub stored : get_or (slot_words slot after) place 0 ≡ y
  stored = slot_word slot place after lp ∙ get_or-set_same own (16 * slot + place) y 0 (omega (arith, long, low, lp))

  pub else_same : (x i : ℕ) → i < 16 → (16 * x + i ≢ 16 * slot + place) → get_or (slot_words x after) i 0 ≡ get_or (slot_words x own) i 0
  else_same x i li other = slot_word x i after li ∙ (get_or-set_other own (16 * slot + place) (16 * x + i) y 0 other ∙ sym (slot_word x i own li))

  pub others_same : (x : ℕ) → x ≢ slot → slot_words x after ≡ slot_words x own
  others_same x other =
      let same = length-set own (16 * slot + place) y in
      let t = length-take 16 (drop (16 * x) after) in let d = length-drop (16 * x) after in
      let u = length-take 16 (drop (16 * x) own) in let e = length-drop (16 * x) own in
      ext_get_or 0 (slot_words x after) (slot_words x own) (omega (arith, same, t, d, u, e))
      (λ i lt. let li : i < 16 = omega (arith, lt, t) in else_same x i li (λ e. other (omega (arith, e, li, lp))))

-- so far the slot has these words
pub record FilledTo (place slot : ℕ) (text own now : List ℕ) : Type 0 where
  pub long : length now ≡ 128
  pub so_far : (i : ℕ) → i < place → get_or (slot_words slot now) i 0 ≡ get_or text i 0
  pub others : (x : ℕ) → x ≢ slot → slot_words x now ≡ slot_words x own

module _ (place slot : ℕ) (text own now : List ℕ) (low : slot < 8) (lp : place < 16) (h : FilledTo place slot text own now) where
  pub filled_more : FilledTo (place + 1) slot text own (set now (16 * slot + place) (get_or text place 0))
  filled_more = record {
    long = length-set now (16 * slot + place) (get_or text place 0) ∙ h.long;
    so_far = λ i lt. dite (ℕ_discrete i place)
        (λ e. ap (λ j. get_or (slot_words slot (set now (16 * slot + place) (get_or text place 0))) j 0) e ∙ (stored slot place (get_or text place 0) now h.long low lp ∙ ap (λ j. get_or text j 0) (sym e)))
        (λ n. else_same slot place (get_or text place 0) now h.long low lp slot i (omega (arith, lt, lp)) (λ e. n (omega (arith, e))) ∙ h.so_far i (less i place lt n));
    others = λ x other. others_same slot place (get_or text place 0) now h.long low lp x other ∙ h.others x other;
  }
    where
      less : (i p : ℕ) → i < p + 1 → i ≢ p → i < p
      less i p lt n = omega (arith, lt, n)

pub filled_all : (slot : ℕ) (text own now : List ℕ) → slot < 8 → length text ≡ 16 → FilledTo 16 slot text own now → slot_words slot now ≡ text
filled_all slot text own now low long h = ext_get_or 0 (slot_words slot now) text (slot_long slot now h.long low ∙ sym long) (λ i lt. h.so_far i (let l = slot_long slot now h.long low in omega (arith, lt, l)))
