-- Packed words compare as words. Statements alone; each is proved apart.
-- Example (PackedExamples): 2u.1.1, which hangs a square more, has the number of 2u.1 and follows it: so a place may
-- not hang more squares than the word.
use Rattle.std.specs.Ordering.{nat_cmp}
use Rattle.std.specs.Prelude.{◌≡◌, ◌≤◌, ◌↔◌}
use Rattle.bk_word.specs.Play.{IsLegal}
use Rattle.bk_word.specs.Word.{Follows, Word, order_of, word_cmp}
use Rattle.bk_packed.specs.Packed.{packed}
use Rattle.bk_word.specs.declared.TheConstants.{LARGEST_LISTED_ORDER}

-- two legal words of one order, at most 16, compare as their numbers do; so no two have one number
abbrev pub PackedWordsCompare : Type 0
PackedWordsCompare = (v w : Word) → IsLegal v → IsLegal w → order_of v ≡ order_of w → order_of w ≤ LARGEST_LISTED_ORDER
    → nat_cmp (packed v) (packed w) ≡ word_cmp v w

-- a legal word, complete or not, doesn't follow a legal word of at least as many squares, at most 16, exactly where its
-- number isn't greater
abbrev pub PackedPlacesCompare : Type 0
PackedPlacesCompare = (place w : Word) → IsLegal place → IsLegal w → order_of place ≤ order_of w
    → order_of w ≤ LARGEST_LISTED_ORDER → ((Follows place w → ⊥) ↔ (packed place ≤ packed w))
