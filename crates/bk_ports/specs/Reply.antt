-- What is answered to lines.
-- Example (LineExamples): two replies, of which one is a refusal, have the text of both and are some of them refused.
use Rattle.std.specs.Prelude.{ℕ, Bool, List, [], ◌∷◌}
use Rattle.std.specs.List.{concat, flat_map, list_any}

-- the answer to one line: the pieces that are written, each by one call, and whether they are the text of a refusal
pub record Reply : Type 0 where
  pub pieces : List (List ℕ)
  pub refused : Bool

-- what is written for replies, one after another
abbrev pub text_of : List Reply → List ℕ
text_of replies = flat_map (λ (reply : Reply). concat reply.pieces) replies

-- at least one line is refused
abbrev pub some_refused : List Reply → Bool
some_refused replies = list_any (λ (reply : Reply). reply.refused) replies

-- each line has its reply, in the order of the lines, where `answers` says which replies a line may have
abbrev pub AreReplies : (List ℕ → List (List ℕ) → Bool → Type 0) → List (List ℕ) → List Reply → Type 0
AreReplies answers [] [] = Unit {0}
AreReplies answers [] (reply ∷ replies) = ⊥
AreReplies answers (line ∷ lines) [] = ⊥
AreReplies answers (line ∷ lines) (reply ∷ replies) =
    answers line reply.pieces reply.refused × AreReplies answers lines replies
