-- What a table of members tells of the words from the place on where a walk stands.
use Rattle.std.specs.Cmp.{nat_cmp_is}
use Rattle.std.specs.declared.cmp.Ordering.TheVariants.{Equal}
use Rattle.std.proofs.Common.{[], ap, arith, subst, sym, ℕ, ◌++◌, ◌∙◌, ◌∷◌, ◌≡◌, ◌≤◌}
use Rattle.bk_word.specs.Outline.{start}
use Rattle.bk_word.specs.Play.{IsLegal}
use Rattle.bk_word.specs.Word.{Follows, Move, Word, order_of}
use Rattle.bk_word.specs.declared.Class.{Class}
use Rattle.bk_word.proofs.PlayLaws.{legal-snoc}
use Rattle.bk_word.proofs.StoredBytes.{order_one}
use Rattle.bk_catalogue.specs.Catalogue.{Entry, IsEntry}
use Rattle.bk_catalogue.proofs.Members.OneEntry.{entry_complete}
use Rattle.bk_packed.specs.Packed.{packed}
use Rattle.bk_packed.proofs.PackedOrder.{packed_places_compare, packed_words_compare}
use Rattle.bk_catalogue.proofs.TreeOfWords.Places.{word_same}
use Rattle.bk_tree_walk.proofs.Advancing.{entry_word}
use Rattle.bk_walk.specs.Leaping.{Tells, TellsOfPlace}
use Rattle.bk_tree_walk.specs.TreePlace.{IsKeptTreeWalk, IsReady, TreeWalkState, place_of}
use Rattle.bk_walk.specs.declared.table_answer.TableAnswer.{TableAnswer}
use Rattle.bk_walk.specs.declared.table_answer.TableAnswer.TheVariants.{Next, NoMore, Unknown}

-- the place is a word of the tree
module _ (n : ℕ) (class : Class) (place : Word) (legal : IsLegal place) (small : order_of place ≤ n) (most : n ≤ 16) where
  of_order : (e : Entry) → IsEntry n class e → (Follows place e.word → ⊥) → packed place ≤ packed e.word
  of_order e is from = (packed_places_compare place e.word legal (entry_word n class e is).legal
      (omega (arith, small, (entry_complete n class e is).1)) (omega (arith, most, (entry_complete n class e is).1))).0 from

  -- by numbers, and so by words
  pub tells_of_place : (told : TableAnswer) → Tells n class (packed place) told → TellsOfPlace n class place told
  tells_of_place (Next number) t = record {
    entry = t.entry;
    is = t.is;
    number_is = t.number_is;
    from = (packed_places_compare place (t.entry).word legal (entry_word n class t.entry t.is).legal
        (omega (arith, small, (entry_complete n class t.entry t.is).1)) (omega (arith, most, (entry_complete n class t.entry t.is).1))).1
        (omega (arith, t.from, t.number_is));
    least = λ other is from. (packed_places_compare (t.entry).word other.word (entry_word n class t.entry t.is).legal (entry_word n class other is).legal
        (omega (arith, (entry_complete n class t.entry t.is).1, (entry_complete n class other is).1))
        (omega (arith, most, (entry_complete n class other is).1))).1
        (omega (arith, t.number_is, t.least other is (of_order other is from)));
  }
  tells_of_place NoMore none = λ e is from. none e is (of_order e is from)
  tells_of_place Unknown t = tt

-- what is told by the number of a walk's place
pub tells_here : (s : TreeWalkState) (front : Word) (next : Move) (n : ℕ) (class : Class) (number : ℕ) (told : TableAnswer) → IsKeptTreeWalk s → IsReady s
    → front ≡ s.front → next ≡ s.next → n ≡ s.order → class ≡ s.class → number ≡ packed (front ++ next ∷ []) → Tells n class number told
    → TellsOfPlace s.order s.class (place_of s) told
tells_here s front next n class number told kept ready same same_next same_order same_class is t = tells_of_place s.order s.class (place_of s)
    (legal-snoc start s.front s.next kept.stand.legal ready.legal) (omega (arith, ready.few, order_one s.front s.next)) kept.most told
    (subst (λ (k : ℕ). Tells k s.class (packed (place_of s)) told) same_order (subst (λ (k : Class). Tells n k (packed (place_of s)) told) same_class
    (subst (λ (k : ℕ). Tells n class k told) (is ∙ ap (λ (w : Word). packed (w ++ next ∷ [])) same
    ∙ ap (λ (m : Move). packed (s.front ++ m ∷ [])) same_next) t)))

-- two legal words of one order with one number are one
pub same_word : (n : ℕ) (v w : Word) → IsLegal v → IsLegal w → order_of v ≡ n → order_of w ≡ n → n ≤ 16 → packed v ≡ packed w → v ≡ w
same_word n v w legal legal_w e f most same = word_same v w (sym (packed_words_compare v w legal legal_w (e ∙ sym f) (omega (arith, f, most)))
    ∙ sym (nat_cmp_is (packed v) (packed w) Equal same))
