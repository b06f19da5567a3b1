-- What the words of a `notify` say of the sixteen handlers.
use Rattle.std.specs.Prelude.{ℕ, ◌+◌, ◌*◌, ◌==◌, Bool, List, [], ◌∷◌, map, find, Option, Some, None, is_some, unwrap_or, codes, bytes_eq, if◌then◌else◌}
use Rattle.std.specs.List.{before_first, after_first, range_with_len}
use Rattle.std.specs.Map.{lookup}
use Rattle.std.specs.Option.{option_zip}
use Rattle.requests.specs.declared.handler_answers.Answer.{Answer}
use Rattle.requests.specs.declared.handler_answers.Answer.TheVariants as answer
use Rattle.requests.specs.Numbers.{id_of}

abbrev pub answer_word : Answer → List ℕ
answer_word answer.Done = codes "done"
answer_word answer.Ok = codes "ok"
answer_word answer.Stop = codes "stop"
answer_word answer.Bad = codes "bad"

abbrev pub all_answers : List Answer
all_answers = answer.Done ∷ answer.Ok ∷ answer.Stop ∷ answer.Bad ∷ []

-- the answer that a word is
abbrev pub answer_named : List ℕ → Option Answer
answer_named w = find (λ a. bytes_eq (answer_word a) w) all_answers

-- One word

abbrev pub is_colon : ℕ → Bool
is_colon x = x == 58

-- a pair is the id of a handler, a colon, and the word of its answer
abbrev pub pair_of : List ℕ → Option (ℕ × Answer)
pair_of w = option_zip (id_of (before_first is_colon w)) (answer_named (after_first is_colon w))

-- All words

-- what the pair of this handler says that it answers
abbrev pub said_of : List (ℕ × Answer) → ℕ → Option Answer
said_of pairs id = lookup (λ other. other == id) pairs

abbrev pub in_front : Option (ℕ × Answer) → Option (List (ℕ × Answer)) → Option (List (ℕ × Answer))
in_front None pairs = None
in_front (Some p) None = None
in_front (Some p) (Some pairs) = if is_some (said_of pairs p.0) then None else Some (p ∷ pairs)

-- the pairs that the words are: none where one of them is no pair, or where two name the same handler
unfoldable pub pairs_of : List (List ℕ) → Option (List (ℕ × Answer))
pairs_of [] = Some []
pairs_of (w ∷ ws) = in_front (pair_of w) (pairs_of ws)

-- each of the sixteen handlers answers what its pair says, and `done` where it has none
unfoldable pub answers_of : List (ℕ × Answer) → List Answer
answers_of pairs = map (λ id. unwrap_or (said_of pairs id) answer.Done) (range_with_len 0 16)

-- The value that the handlers are called with

abbrev pub answer_code : Answer → ℕ
answer_code answer.Done = 0
answer_code answer.Ok = 1
answer_code answer.Stop = 2
answer_code answer.Bad = 3

-- two bits for each handler, those of handler 0 the lowest
abbrev pub value_of : List Answer → ℕ
value_of [] = 0
value_of (a ∷ rest) = answer_code a + 4 * value_of rest
