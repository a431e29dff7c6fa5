-- A member is in lowest terms, so a word has at most one.
use Rattle.std.proofs.Common.{length, subst, sym, ℕ, ◌≡◌}
use Rattle.bk_tiling.specs.Scale.{IsPrimitiveTiling}
use Rattle.bk_tiling.specs.Tiling.{IsTiling, Tiling}
use Rattle.bk_word.specs.Word.{Word, order_of}
use Rattle.bk_word.specs.declared.Class.{Class}
use Rattle.bk_lay.proofs.WordPlay.{tiling_word_is_complete}
use Rattle.bk_lay.specs.TilingWord.{IsWordOf}
use Rattle.bk_word_net.proofs.PlacedSquares.PrimitiveTiling.{a_word_has_one_primitive_tiling}
use Rattle.bk_catalogue.specs.Catalogue.{Entry, IsEntry, IsMember}
use Rattle.bk_word_net.specs.Realised.{IsTilingOf}
use Rattle.bk_tree_walk.specs.WholeWords.{IsMembersWord}
use Rattle.bk_sym.proofs.CanonicalPrimitive.{canonical_primitive}

-- a member of its own order is one of the order of its word
pub member_from : (class : Class) (t : Tiling) (w : Word) → IsTiling t → IsWordOf t w → IsMember (length t.squares) class t → IsMember (order_of w) class t
member_from class t w tiling word = subst (λ (n : ℕ). IsMember n class t) (sym (tiling_word_is_complete t w tiling word).1)

-- an entry of an order and a class is one of those that are the same
pub same_entry : (n m : ℕ) (class other : Class) (v w : Word) (t : Tiling) → m ≡ n → other ≡ class → v ≡ w → IsEntry m other (record { tiling = t; word = v })
    → IsEntry n class (record { tiling = t; word = w })
same_entry n m class other v w t e f g is = subst (λ (u : Word). IsEntry n class (record { tiling = t; word = u })) g
    (subst (λ (k : Class). IsEntry n k (record { tiling = t; word = v })) f
    (subst (λ (k : ℕ). IsEntry k other (record { tiling = t; word = v })) e is))

-- where the one primitive tiling that has the word is no member of its own order, no member has it
pub none_other : (n : ℕ) (class : Class) (t : Tiling) (w : Word) → IsTiling t → IsPrimitiveTiling t → IsWordOf t w
    → (IsMember (length t.squares) class t → ⊥)
    → (e : Entry) → IsEntry n class e → e.word ≡ w → ⊥
none_other n class t w tiling primitive word not e is same =
    not (subst (λ (u : Tiling). IsMember (length u.squares) class u) one
    (subst (λ (k : ℕ). IsMember k class e.tiling) (sym (is.member).order) is.member))
  where
    one : e.tiling ≡ t
    one = a_word_has_one_primitive_tiling e.tiling t w (is.member).tiling tiling
        (canonical_primitive e.tiling (is.member).tiling (is.member).canonical) primitive (subst (IsWordOf e.tiling) same is.word) word

-- the one tiling that has a member's word is the member
pub member_realised : (n : ℕ) (class : Class) (w : Word) (t : Tiling) → IsMembersWord n class w → IsTilingOf w t
    → IsEntry n class (record { tiling = t; word = w })
member_realised n class w t m r = record { member = subst (IsMember n class) one (m.is).member; word = r.word }
  where
    one : (m.entry).tiling ≡ t
    one = a_word_has_one_primitive_tiling (m.entry).tiling t w ((m.is).member).tiling r.tiling
        (canonical_primitive (m.entry).tiling ((m.is).member).tiling ((m.is).member).canonical) r.primitive
        (subst (IsWordOf (m.entry).tiling) m.word_is (m.is).word) r.word
