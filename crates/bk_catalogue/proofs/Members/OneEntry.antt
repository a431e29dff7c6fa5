-- Two entries of one word are one, and the word of an entry is complete.
use Rattle.std.proofs.Common.{subst, ℕ, ◌∙◌, ◌≡◌}
use Rattle.bk_word.specs.declared.Class.{Class}
use Rattle.bk_word.specs.Play.{IsComplete}
use Rattle.bk_word.specs.Word.{order_of}
use Rattle.bk_lay.specs.TilingWord.{IsWordOf}
use Rattle.bk_lay.proofs.WordPlay.{tiling_word_is_complete}
use Rattle.bk_word_net.proofs.PlacedSquares.PrimitiveTiling.{a_word_has_one_primitive_tiling}
use Rattle.bk_sym.proofs.CanonicalPrimitive.{canonical_primitive}
use Rattle.bk_catalogue.specs.Catalogue.{Entry, IsEntry}

same_tiling : (n : ℕ) (class : Class) (e f : Entry) → IsEntry n class e → IsEntry n class f → e.word ≡ f.word → e.tiling ≡ f.tiling
same_tiling n class e f is that same = a_word_has_one_primitive_tiling e.tiling f.tiling f.word (is.member).tiling (that.member).tiling
    (canonical_primitive e.tiling (is.member).tiling (is.member).canonical) (canonical_primitive f.tiling (that.member).tiling (that.member).canonical)
    (subst (IsWordOf e.tiling) same is.word) that.word

both_parts : (e f : Entry) → e.tiling ≡ f.tiling → e.word ≡ f.word → e ≡ f
both_parts e f t w = λ i. record { tiling = t i; word = w i }

-- entries of the catalogue with one word are one
pub one_entry : (n : ℕ) (class : Class) (e f : Entry) → IsEntry n class e → IsEntry n class f → e.word ≡ f.word → e ≡ f
one_entry n class e f is that same = both_parts e f (same_tiling n class e f is that same) same

-- the word of an entry is complete, and has as many squares as the order says
pub entry_complete : (n : ℕ) (class : Class) (e : Entry) → IsEntry n class e → IsComplete e.word × (order_of e.word ≡ n)
entry_complete n class e is = let c = tiling_word_is_complete e.tiling e.word (is.member).tiling is.word in (c.0, c.1 ∙ (is.member).order)
