-- The words of a chain are read as that chain.
use Rattle.std.proofs.Common.{◌≡◌, ℕ, ◌+◌, ◌-◌, ◌*◌, ◌/◌, ◌%◌, ◌^◌, ◌<◌, ◌≤◌, ℤ, pos, negsuc, List, [], ◌∷◌, ◌++◌, All, length, map, take, drop, min, replicate, get_or, get_or-drop, FitsSigned, w32, refl, sym, ap, ◌∙◌, subst, arith, suc, cond}
use mathlib.Core.Logic.{dite}
use Rattle.std.proofs.Math.Seq.{drop-append_seam}
use Rattle.std.proofs.Math.IntN.{sub_ℕ}
use Rattle.std.proofs.Math.Decide.{dec_lt}
use Rattle.std.proofs.lemmas.Bool.{le-ltb, lt-ltb}
use Rattle.std.proofs.lemmas.List.{length-map, length-take, length-drop, length-replicate, take-append-drop, get_or-replicate, get_or_past}
use Rattle.std.proofs.lemmas.List.Elements.{All-head, All-tail, All-map, All-take, All-drop, All-from_get_or}
use Rattle.notify.specs.declared.block.Block.{Block}
use Rattle.notify.specs.Blocks.{raised, lowered, word_of, block_at, text_of, blocks_in, HaveBits, EndsAt, IsChain, IsTextOf}

-- a difference of two numbers, where it is no negative one, and where it is
sub_ge : (a b : ℕ) → b ≤ a → sub_ℕ a b ≡ pos (a - b)
sub_ge a b le = ap (λ t. cond t (negsuc (b - suc a)) (pos (a - b))) (le-ltb a b le)

sub_lt : (a b : ℕ) → a < b → sub_ℕ a b ≡ negsuc (b - suc a)
sub_lt a b lt = ap (λ t. cond t (negsuc (b - suc a)) (pos (a - b))) (lt-ltb a b lt)

pub lowered_raised : (p : ℤ) → FitsSigned w32 p → lowered (raised p) ≡ p
lowered_raised (pos n) h = sub_ge (n + 2 ^ 31) (2 ^ 31) (omega (arith)) ∙ ap pos (back n)
  where
    back : (m : ℕ) → m + 2 ^ 31 - 2 ^ 31 ≡ m
    back m = omega (arith)
lowered_raised (negsuc n) h = let s = h.sfits in sub_lt (2 ^ 31 - (n + 1)) (2 ^ 31) (omega (arith)) ∙ ap negsuc (back n s)
  where
    back : (m : ℕ) → m < 2 ^ 31 → 2 ^ 31 - suc (2 ^ 31 - (m + 1)) ≡ m
    back m lt = omega (arith, lt)

pub lowered_fits : (n : ℕ) → n < 2 ^ 32 → FitsSigned w32 (lowered n)
lowered_fits n h = dite (dec_lt n (2 ^ 31))
    (λ lt. subst (FitsSigned w32) (sym (sub_lt n (2 ^ 31) lt)) (record { sfits = omega (arith, lt) }))
    (λ ge. subst (FitsSigned w32) (sym (sub_ge n (2 ^ 31) (omega (arith, ge)))) (record { sfits = omega (arith, h, ge) }))

high_part : (a b : ℕ) → b < 2 ^ 32 → (a * 2 ^ 32 + b) / 2 ^ 32 ≡ a
high_part a b h = omega (arith, h)

low_part : (a b : ℕ) → b < 2 ^ 32 → (a * 2 ^ 32 + b) % 2 ^ 32 ≡ b
low_part a b h = omega (arith, h)

pub block_round : (b : Block) → b.id < 2 ^ 32 → FitsSigned w32 b.priority → block_at (word_of b) ≡ b
block_round b low fits = λ i. record {
  id = low_part (raised b.priority) b.id low i;
  priority = (ap lowered (high_part (raised b.priority) b.id low) ∙ lowered_raised b.priority fits) i;
}

pub blocks_round : (bs : List Block) → All (λ b. b.id < 2 ^ 32) bs → HaveBits bs → map block_at (map word_of bs) ≡ bs
blocks_round [] low fits = refl
blocks_round (b ∷ bs) low fits =
    let first = block_round b (All-head (λ x. x.id < 2 ^ 32) b bs low) (All-head (λ x. FitsSigned w32 x.priority) b bs fits) in
    let rest = blocks_round bs (All-tail (λ x. x.id < 2 ^ 32) b bs low) (All-tail (λ x. FitsSigned w32 x.priority) b bs fits) in
    λ i. first i ∷ rest i

taken : (xs ys : List ℕ) → take (length xs) (xs ++ ys) ≡ xs
taken [] ys = refl
taken (x ∷ xs) ys = ap (λ l. x ∷ l) (taken xs ys)

pub text_round : (bs : List Block) → length bs ≤ 15 → All (λ b. b.id < 2 ^ 32) bs → HaveBits bs → blocks_in (text_of bs) ≡ bs
text_round bs few low fits =
    ap (λ n. map block_at (take n (map word_of bs ++ replicate (16 - length (length bs ∷ map word_of bs)) 0))) (least (length bs) few ∙ sym (length-map bs word_of))
    ∙ (ap (map block_at) (taken (map word_of bs) _) ∙ blocks_round bs low fits)
  where
    least : (n : ℕ) → n ≤ 15 → min n 15 ≡ n
    least n h = omega (arith, h)

pub bits_in : (words : List ℕ) → ((i : ℕ) → get_or words i 0 < 2 ^ 64) → HaveBits (blocks_in words)
bits_in words h = All-map (λ b. FitsSigned w32 b.priority) block_at (take (min (get_or words 0 0) 15) (drop 1 words)) (All-take (λ w. FitsSigned w32 (block_at w).priority) (min (get_or words 0 0) 15) (drop 1 words) (All-drop (λ w. FitsSigned w32 (block_at w).priority) 1 words each))
  where
    upper : (w : ℕ) → w < 2 ^ 64 → w / 2 ^ 32 < 2 ^ 32
    upper w lt = omega (arith, lt)

    each : All (λ w. FitsSigned w32 (block_at w).priority) words
    each = All-from_get_or (λ w. FitsSigned w32 (block_at w).priority) words 0 (λ k lt. lowered_fits (get_or words k 0 / 2 ^ 32) (upper (get_or words k 0) (h k)))

-- where the blocks that are in the words aren't those of a chain with these words, no others are
pub read_none : (ids : ℕ) (words : List ℕ) → ids ≤ 2 ^ 32 → ¬ IsTextOf ids words (blocks_in words) → (bs : List Block) → ¬ IsTextOf ids words bs
read_none ids words small none bs t = none (subst (IsTextOf ids words) (sym (ap blocks_in t.words_are ∙ text_round bs t.chain.few (λ k d lt. let h = t.chain.known k d lt in omega (arith, h, small)) t.fit)) t)

-- Words are looked at where they lie

raised_lowered : (n : ℕ) → n < 2 ^ 32 → raised (lowered n) ≡ n
raised_lowered n h = dite (dec_lt n (2 ^ 31))
    (λ lt. ap raised (sub_lt n (2 ^ 31) lt) ∙ below n lt)
    (λ ge. ap raised (sub_ge n (2 ^ 31) (omega (arith, ge))) ∙ above n (omega (arith, ge)))
  where
    below : (m : ℕ) → m < 2 ^ 31 → 2 ^ 31 - (2 ^ 31 - suc m + 1) ≡ m
    below m lt = omega (arith, lt)

    above : (m : ℕ) → 2 ^ 31 ≤ m → m - 2 ^ 31 + 2 ^ 31 ≡ m
    above m ge = omega (arith, ge)

-- each word is that of one block
word_round : (w : ℕ) → w < 2 ^ 64 → word_of (block_at w) ≡ w
word_round w h = ap (λ n. n * 2 ^ 32 + w % 2 ^ 32) (raised_lowered (w / 2 ^ 32) (upper w h)) ∙ whole w
  where
    upper : (n : ℕ) → n < 2 ^ 64 → n / 2 ^ 32 < 2 ^ 32
    upper n lt = omega (arith, lt)

    whole : (n : ℕ) → n / 2 ^ 32 * 2 ^ 32 + n % 2 ^ 32 ≡ n
    whole n = omega arith

words_round : (ws : List ℕ) → All (λ w. w < 2 ^ 64) ws → map word_of (map block_at ws) ≡ ws
words_round [] small = refl
words_round (w ∷ ws) small = λ i. word_round w (All-head (λ x. x < 2 ^ 64) w ws small) i ∷ words_round ws (All-tail (λ x. x < 2 ^ 64) w ws small) i

zeros_are : (ws : List ℕ) → All (λ w. w ≡ 0) ws → ws ≡ replicate (length ws) 0
zeros_are [] zeros = refl
zeros_are (w ∷ ws) zeros = λ i. All-head (λ x. x ≡ 0) w ws zeros i ∷ zeros_are ws (All-tail (λ x. x ≡ 0) w ws zeros) i

zero_at : (n i : ℕ) → ◌≡◌ {A = ℕ} (get_or (replicate n 0) i 0) 0
zero_at n i = dite (dec_lt i n) (λ lt. get_or-replicate n i 0 0 lt) (λ ge. get_or_past {X = ℕ} (replicate n 0) i 0 (let l = length-replicate {A = ℕ} n 0 in omega (arith, l, ge)))

-- the number of blocks, their words, and what stands behind them
abbrev pub used_in : List ℕ → List ℕ
used_in words = take (get_or words 0 0) (drop 1 words)

abbrev pub rest_in : List ℕ → List ℕ
rest_in words = drop (get_or words 0 0 + 1) words

cut : (words : List ℕ) → 0 < length words → words ≡ (get_or words 0 0 ∷ used_in words) ++ rest_in words
cut [] some = absurd (omega (arith, some))
cut (w ∷ ws) some = ap (λ l. w ∷ l) (sym (take-append-drop w ws) ∙ ap (λ n. take w ws ++ drop n (w ∷ ws)) (let e : suc w ≡ w + 1 = omega arith in e))

module _ (words : List ℕ) (long : length words ≡ 16) (few : get_or words 0 0 ≤ 15) where
  pub used_blocks : blocks_in words ≡ map block_at (used_in words)
  used_blocks = ap (λ n. map block_at (take n (drop 1 words))) (least (get_or words 0 0) few)
    where
      least : (n : ℕ) → n ≤ 15 → min n 15 ≡ n
      least n h = omega (arith, h)

  -- as the body cuts them off
  pub used_cut : (n : ℕ) → n ≡ get_or words 0 0 + 1 - 1 → take n (drop 1 words) ≡ used_in words
  used_cut n is = ap (λ k. take k (drop 1 words)) (is ∙ (let e : get_or words 0 0 + 1 - 1 ≡ get_or words 0 0 = omega arith in e))

  used_long : length (used_in words) ≡ get_or words 0 0
  used_long = let t = length-take (get_or words 0 0) (drop 1 words) in let d = length-drop 1 words in omega (arith, t, d, long, few)

  -- they are a text where the blocks in them are those of a chain and zeros stand behind
  pub text_of_used : (ids : ℕ) → ((i : ℕ) → get_or words i 0 < 2 ^ 64) → IsChain ids (map block_at (used_in words)) → EndsAt (get_or words 0 0) words → IsTextOf ids words (blocks_in words)
  text_of_used ids small chain behind = record {
    chain = subst (IsChain ids) (sym used_blocks) chain;
    fit = bits_in words small;
    words_are = cut words (omega (arith, long)) ∙ same ∙ ap text_of (sym used_blocks);
  }
    where
      each : All (λ w. w < 2 ^ 64) (used_in words)
      each = All-take (λ w. w < 2 ^ 64) (get_or words 0 0) (drop 1 words) (All-drop (λ w. w < 2 ^ 64) 1 words (All-from_get_or (λ w. w < 2 ^ 64) words 0 (λ k lt. small k)))

      zeros : All {X = ℕ} (λ w. w ≡ 0) (rest_in words)
      zeros = All-from_get_or (λ w. w ≡ 0) (rest_in words) 0 (λ k lt. let d = length-drop (get_or words 0 0 + 1) words in get_or-drop (get_or words 0 0 + 1) words k 0 ∙ behind (get_or words 0 0 + 1 + k) (omega arith) (omega (arith, d, long, lt)))

      made : map word_of (map block_at (used_in words)) ≡ used_in words
      made = words_round (used_in words) each

      counted : length (map block_at (used_in words)) ≡ get_or words 0 0
      counted = length-map (used_in words) block_at ∙ used_long

      left : length (rest_in words) ≡ 15 - get_or words 0 0
      left = let d = length-drop (get_or words 0 0 + 1) words in omega (arith, d, long, few)

      back : 16 - length (length (map block_at (used_in words)) ∷ map word_of (map block_at (used_in words))) ≡ 15 - get_or words 0 0
      back = let m = length-map (map block_at (used_in words)) word_of in let n = counted in omega (arith, m, n)

      same : (get_or words 0 0 ∷ used_in words) ++ rest_in words ≡ text_of (map block_at (used_in words))
      same = λ i. (sym counted i ∷ sym made i) ++ ((zeros_are (rest_in words) zeros ∙ ap (λ n. replicate n 0) (left ∙ sym back)) i)

  -- and where they are a text, zeros stand behind
  pub zeros_behind : (ids : ℕ) → IsTextOf ids words (blocks_in words) → EndsAt (get_or words 0 0) words
  zeros_behind ids t i gt lt =
      ap (λ j. get_or words j 0) (let e : i ≡ get_or words 0 0 + 1 + (i - (get_or words 0 0 + 1)) = omega (arith, gt) in e)
      ∙ (sym (get_or-drop (get_or words 0 0 + 1) words (i - (get_or words 0 0 + 1)) 0)
      ∙ (ap (λ (l : List ℕ). get_or l (i - (get_or words 0 0 + 1)) 0) (rest_is (blocks_in words) (ap (λ n. n + 1) counted) t.words_are)
      ∙ zero_at (16 - length (length (blocks_in words) ∷ map word_of (blocks_in words))) (i - (get_or words 0 0 + 1))))
    where
      counted : get_or words 0 0 ≡ length (blocks_in words)
      counted = ap (λ l. get_or l 0 0) t.words_are

      long_text : (bs : List Block) → length bs + 1 ≡ length (length bs ∷ map word_of bs)
      long_text bs = let m = length-map bs word_of in omega (arith, m)

      rest_is : (bs : List Block) → get_or words 0 0 + 1 ≡ length bs + 1 → words ≡ text_of bs → rest_in words ≡ replicate (16 - length (length bs ∷ map word_of bs)) 0
      rest_is bs n is = (λ k. drop (n k) (is k)) ∙ (ap (λ k. drop k (text_of bs)) (long_text bs) ∙ drop-append_seam (length bs ∷ map word_of bs) (replicate (16 - length (length bs ∷ map word_of bs)) 0))
