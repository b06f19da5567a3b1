-- For the proofs of callers: what was put is read.
use Rattle.std.proofs.Common.{◌≡◌, ℕ, ◌-◌, ◌^◌, ◌≤◌, inl, inr, List, ◌∷◌, length, map, replicate, sym, ap, ◌∙◌, subst, arith, ext_get_or, length-append}
use Rattle.std.proofs.lemmas.List.{length-map, length-replicate}
use Rattle.sections.specs.Shelves.{words_of}
use Rattle.sections.specs.Views.{FoundView}
use Rattle.domain.specs.Views.{CpuView}
use Rattle.domain.specs.Waiting.{HasNoneOpen}
use Rattle.domain.proofs.CallerLemmas.{same_all_loaded, same_found, none_enclosed, none_looked}
use Rattle.notify.specs.declared.block.Block.{Block}
use Rattle.notify.specs.Blocks.{word_of, text_of, blocks_in, IsTextOf, AreRead}
use Rattle.sections.specs.Reads.{AreWords}
use Rattle.notify.specs.Chains.{ChainCell}
use Rattle.notify.specs.Reading.{ReadsOnce, IsRefused}
use Rattle.notify.proofs.Texts.{text_round}

-- the words that were put are those of sixteen places
pub text_long : (blocks : List Block) → length blocks ≤ 15 → length (text_of blocks) ≡ 16
text_long blocks few =
    let a = length-append (length blocks ∷ map word_of blocks) (replicate (16 - length (length blocks ∷ map word_of blocks)) 0) in
    let m = length-map blocks word_of in
    let r = length-replicate {A = ℕ} (16 - length (length blocks ∷ map word_of blocks)) 0 in omega (arith, a, m, r, few)

module _ (ids : ℕ) (small : ids ≤ 2 ^ 32) where
  -- the blocks are in the words
  only_blocks : (words : List ℕ) (blocks : List Block) → IsTextOf ids words blocks → blocks_in words ≡ blocks
  only_blocks words blocks t = ap blocks_in t.words_are ∙ text_round blocks t.chain.few (λ k d lt. let h = t.chain.known k d lt in omega (arith, h, small)) t.fit

  -- the text of a chain is read as that chain
  pub read_back : (words : List ℕ) (put read : List Block) → IsTextOf ids words put → AreRead ids words read → read ≡ put
  read_back words put read t (inl r) = sym (only_blocks words read r) ∙ only_blocks words put t
  read_back words put read t (inr none) = absurd (none.of_none put t)

  -- and so are the words that a section loads of the version that it found
  pub read_of_version : (f : FoundView) (words : List ℕ) (put read : List Block) → IsTextOf ids (words_of f.cell f.version f.texts) put → AreWords f words → AreRead ids words read → read ≡ put
  read_of_version f words put read t are h = read_back words put read (subst (λ l. IsTextOf ids l put) (sym same) t) h
    where
      same : words ≡ words_of f.cell f.version f.texts
      same = ext_get_or 0 words (words_of f.cell f.version f.texts) (are.long ∙ sym (ap length t.words_are ∙ text_long put t.chain.few))
          (λ i lt. are.each i (let n = are.long in omega (arith, lt, n)))

module _ {J : Type 0} where
  -- a chain is read and called in a section of its own, so none is open behind it where none was; nor behind a refusal
  pub none_called : {v : ChainCell} {blocks : List Block} (c c' : CpuView J) → ReadsOnce v c c' blocks → HasNoneOpen c → HasNoneOpen c'
  none_called c c' h none =
      let found = same_found _ h.reading h.reads.found h.begun.cpu h.reads.between.cpu h.reads.finds in
      none_enclosed c h.begun h.behind c' h.reading h.locks (same_all_loaded h.reads.between h.behind h.reads.loads ∙ found) h.ends none

  pub none_refused : (c c' : CpuView J) → IsRefused c c' → HasNoneOpen c → HasNoneOpen c'
  none_refused c c' h none = none_looked c c' h.looks none
