-- A member's word is complete, so the moves that begin it are legal.
use Rattle.std.proofs.Common.{arith, subst, ℕ, ◌++◌, ◌<◌, ◌≡◌, ◌≤◌}
use Rattle.bk_word.specs.Play.{IsComplete}
use Rattle.bk_word.specs.Word.{Word, order_of}
use Rattle.bk_word.specs.declared.Class.{Class}
use Rattle.bk_lay.proofs.WordPlay.{tiling_word_is_complete}
use Rattle.bk_catalogue.specs.Catalogue.{Entry, IsEntry}

module _ (n : ℕ) (class : Class) (e : Entry) (entry : IsEntry n class e) where
  -- the whole is complete
  pub complete_word : (front rest : Word) → e.word ≡ front ++ rest → IsComplete (front ++ rest)
  complete_word front rest word = subst IsComplete word (tiling_word_is_complete e.tiling e.word (entry.member).tiling entry.word).0

  -- what a word has at least, the order has
  pub within_order : (front rest : Word) (bound : ℕ) → e.word ≡ front ++ rest → bound ≤ order_of (front ++ rest) → n < bound → ⊥
  within_order front rest bound word least few =
      omega (arith, few, least, orders, (entry.member).order, (tiling_word_is_complete e.tiling e.word (entry.member).tiling entry.word).1)
    where
      orders : order_of e.word ≡ order_of (front ++ rest)
      orders = λ i. order_of (word i)
