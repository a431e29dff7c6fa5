-- A text of a word of order at most 16 is read as that word.
use Rattle.std.specs.Prelude.{Err, IfErr, IfNone, IfOk, IfSome, List, Ok, Option, Result, ℕ, ◌<◌, ◌≡◌, ◌≤◌}
use Rattle.std.specs.Result.{result_ok}
use Rattle.std.proofs.Common.{ap, arith}
use Rattle.bk_word.specs.ReadWord.{IsWordFaultOf}
use Rattle.bk_word.specs.Word.{Word, order_of}
use Rattle.bk_word.specs.WordText.{IsTextOf, capped_order}
use Rattle.bk_word.specs.declared.reading.WordFault.{WordFault}
use Rattle.bk_word.specs.declared.reading.WordFault.TheVariants.{Many, NoMemory, Text}
use Rattle.bk_word.proofs.WordsRead.{one_word}
use Rattle.bk_ask.specs.OptionValues.{IsCursor}

-- the text is that of a word of this order, as far as the limit
abbrev pub HasOrder : List ℕ → ℕ → Type 0
HasOrder text order = (w : Word) × IsTextOf text w × (order ≡ capped_order w)

few_squares : (text : List ℕ) (order : ℕ) → HasOrder text order → order ≤ 16 → (w : Word) → IsTextOf text w → order_of w ≤ 16
few_squares text order (v, is, at) few w text_of = omega (arith, ap order_of (one_word text w v text_of is), at)

no_fault : (text : List ℕ) (order : ℕ) → HasOrder text order → order ≤ 16 → (fault : WordFault) → IsWordFaultOf fault text → ⊥
no_fault text order (v, is, at) few (Text place) (outside, longest) = outside (v, is)
no_fault text order has few Many (w, is, many) = omega (arith, few_squares text order has few w is)
no_fault text order has few NoMemory (w, is, many, kept, long) = omega (arith, few_squares text order has few w is)

pub record IsRead (text : List ℕ) (o : Option Word) : Type 0 where
  pub some : IfSome o (IsCursor text)
  pub none : IfNone o ((w : Word) → IsCursor text w → ⊥)

-- a text of an order of at most 16 is read as a cursor exactly if it is the text of a word
pub cursor_read : (text : List ℕ) (order : ℕ) (r : Result Word WordFault) → HasOrder text order → order ≤ 16 → IfOk r (IsTextOf text)
    → IfErr r (λ fault. IsWordFaultOf fault text)
    → IsRead text (result_ok r)
cursor_read text order (Ok w) has few read fault = record { some = record { text = read; few = few_squares text order has few w read }; none = tt }
cursor_read text order (Err f) has few read fault = absurd (no_fault text order has few f fault)

-- the text of a word of more than 16 squares is no cursor
pub no_cursor_of_more_than_sixteen_squares : (text : List ℕ) (order : ℕ) → HasOrder text order → 16 < order → (w : Word) → IsCursor text w → ⊥
no_cursor_of_more_than_sixteen_squares text order (v, is, at) many w cursor = omega (arith, ap order_of (one_word text w v cursor.text is), at, cursor.few)
