-- A run of a script: its lines in turn, what it writes, and how it ends.
use Rattle.std.specs.Prelude.{◌≡◌, ℕ, ◌+◌, ◌<◌, Bool, false, ◌||◌, List, [], ◌∷◌, ◌++◌, Option, length, take}
use Rattle.std.specs.Io.KnownBytes.{Appends, Keeps}
use Rattle.lines.specs.Lines.{lines_of, pieces, text_of, whole_lines_of}
use Rattle.lines.specs.declared.error.RunError.{RunError}
use Rattle.lines.specs.declared.error.RunError.TheVariants as error

-- What answers lines: from a state, a line of this number that is this text, or no text, gets this reply, is faulty or not, and
-- leaves this state. The reply has its line feed; a line that is skipped has an empty one.
abbrev pub Answering : Type 0 → Type 1
Answering S = S → ℕ → Option (List ℕ) → List ℕ → Bool → S → Type 0

module _ {S : Type 0} (gives : Answering S) where
  -- a run of lines, the first of which has this number: what it writes, and whether one of the lines is faulty
  abbrev pub IsRun : S → ℕ → List (List ℕ) → List ℕ → Bool → S → Type 0
  IsRun s number [] written faulty s' = (written ≡ []) × (faulty ≡ false) × (s' ≡ s)
  IsRun s number (line ∷ lines) written faulty s' = (reply : List ℕ) × (replies : List ℕ) × (bad : Bool) × (others_bad : Bool) × (between : S)
      × gives s number (text_of line) reply bad between × IsRun between (number + 1) lines replies others_bad s'
      × (written ≡ reply ++ replies) × (faulty ≡ (bad || others_bad))

  -- a run of some first lines, behind which there is a line more
  pub record BreaksOff (s : S) (lines : List (List ℕ)) : Type 0 where
    pub first : List (List ℕ)
    pub line : List ℕ
    pub others : List (List ℕ)
    pub in_order : lines ≡ first ++ line ∷ others
    pub replies : List ℕ
    pub faulty : Bool
    pub state : S
    pub run : IsRun s 1 first replies faulty state

  -- what a run that ended early has written of the replies to a text
  abbrev pub EndsEarly : S → List ℕ → List ℕ → RunError → S → Type 0
  -- the replies of all whole lines
  EndsEarly s text written error.Read s' = (faulty : Bool) × IsRun s 1 (whole_lines_of text) written faulty s'
  -- the replies of some first lines, and of the next one's a part
  EndsEarly s text written error.Write s' = (ended : BreaksOff s (lines_of text)) × (reply : List ℕ) × (faulty : Bool) × (count : ℕ)
      × gives ended.state (length ended.first + 1) (text_of ended.line) reply faulty s' × (count < length reply) × (written ≡ ended.replies ++ take count reply)
  -- the replies of some first lines
  EndsEarly s text written error.Memory s' = (ended : BreaksOff s (lines_of text)) × (written ≡ ended.replies)

  -- ---- within a run

  -- the whole lines of what was taken were run, and `line` is what was taken of the next one
  pub record IsSoFar (start : S) (taken given : List ℕ) (line : Option (List ℕ)) (number : ℕ) (faulty : Bool) (s : S) : Type 0 where
    pub ran : List (List ℕ)
    pub front : List ℕ
    pub in_order : pieces 10 taken ≡ ran ++ front ∷ []
    pub run : IsRun start 1 ran given faulty s
    pub numbered : number ≡ length ran + 1
    pub kept : line ≡ text_of front

  -- an error in the midst of a line: what is written of its reply, between the bytes that the writer held before and after
  abbrev pub AnswerFails : S → ℕ → Option (List ℕ) → Option (List ℕ) → Option (List ℕ) → RunError → S → Type 0
  AnswerFails s number line old new error.Read s' = ⊥
  AnswerFails s number line old new error.Write s' = (reply : List ℕ) × (faulty : Bool) × (count : ℕ)
      × gives s number line reply faulty s' × (count < length reply) × Appends old new (take count reply)
  AnswerFails s number line old new error.Memory s' = Keeps old new
