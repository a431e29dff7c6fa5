-- The texts about words: the answer of `word`, an entry of a catalogue, and the last line of a listing.
-- Example (ListingExamples): `9 33x32 [18,15][7,8][14,4][10,1][9] ; 2u.2aa.2ue.2eue.1e`.
use Rattle.std.specs.Prelude.{List, [], codes, decimal, ℕ, ◌++◌, ◌∷◌}
use Rattle.bk_tiling.specs.Tiling.{Tiling, order}
use Rattle.bk_code.specs.Code.{code_of}
use Rattle.bk_text.specs.CodeText.{code_text, size_text}
use Rattle.bk_word.specs.Word.{Word}
use Rattle.bk_word.specs.WordText.{word_text}
use Rattle.bk_word.specs.declared.Class.{Class}
use Rattle.bk_word.specs.declared.Class.TheVariants.{Imperfect, Perfect, Simple}
use Rattle.bk_report.specs.AnswerWords.{imperfect_word, order_word, semicolon, simple_word, wide_word}
use Rattle.bk_report.specs.Answers.{line, spaced}
use Rattle.bk_report.specs.declared.listing_lines.Last.{Last}
use Rattle.bk_report.specs.declared.listing_lines.Last.TheVariants.{End, Limit, Wide}

-- word: the text of the word
abbrev pub word_line : Word → List ℕ
word_line w = line (word_text w ∷ [])

-- an entry: the number of squares, the size, the code, and after a semicolon the word
abbrev pub entry_text : Tiling → Word → List ℕ
entry_text t w =
    spaced (decimal (order t) ∷ size_text t.width t.height ∷ code_text (code_of t) ∷ semicolon ∷ word_text w ∷ [])

-- how a listing ended, in one word
abbrev pub last_name : Last → List ℕ
last_name End = codes "end"
last_name Limit = codes "limit"
last_name Wide = wide_word

-- the class, where it isn't the one that is taken without a name
abbrev pub class_words : Class → List (List ℕ)
class_words Perfect = []
class_words Imperfect = codes "class" ∷ imperfect_word ∷ []
class_words Simple = codes "class" ∷ simple_word ∷ []

-- the word at which a listing ended, where that is a wide one
abbrev pub wide_words : Last → Word → List (List ℕ)
wide_words End w = []
wide_words Limit w = []
wide_words Wide w = codes "at" ∷ word_text w ∷ []

-- the last line of a listing: how it ended, the order, the class, the number of entries, and a wide word
abbrev pub last_line : Last → ℕ → Class → ℕ → Word → List ℕ
last_line last n class listed w = line ((semicolon ∷ last_name last ∷ order_word ∷ decimal n ∷ [])
    ++ (class_words class ++ (codes "listed" ∷ decimal listed ∷ wide_words last w)))
