-- Each part of the tree has a count: the words that can be legal are among a finite list, and those of the part are put in order.
use Rattle.std.specs.List.{AllByRecursion}
use Rattle.std.specs.Ordering.{ordering_reverse}
use Rattle.std.specs.declared.cmp.Ordering.{Ordering}
use Rattle.std.specs.declared.cmp.Ordering.TheVariants.{Equal, Greater, Less}
use Rattle.std.proofs.Common.{Contains, List, None, Option, Some, [], ap, arith, inl, inr, length, refl, subst, suc, sym, zero, ℕ, ◌+◌, ◌<◌, ◌∙◌, ◌∷◌}
use Rattle.std.proofs.Common.{◌≡◌, ◌≤◌, ◌⊎◌}
use Rattle.std.proofs.lemmas.Bool.{cases_eq}
use Rattle.bk_word.proofs.WordOrder.{follows_trans, word_total}
use Rattle.bk_word.specs.Outline.{IsLegalMove, Outline, has_left_wall, has_right_wall, open_side, start}
use Rattle.bk_word.specs.Play.{AreLegalFrom, after_move}
use Rattle.bk_word.specs.Word.{Follows, Move, Word, order_of, word_cmp}
use Rattle.bk_catalogue.proofs.TreeOfWords.Places.{word_same}
use Rattle.bk_laws.proofs.NoneRepeated.{IsIn}
use Rattle.bk_laws.proofs.NumberOrder.{le_or_not, positive_or_not}
use Rattle.bk_laws.proofs.Orderings.{ordering-less_or_not}
use Rattle.bk_laws.proofs.Truth.{decided-and, decided-not}
use Rattle.bk_catalogue.specs.Tree.{AreAscendingWords, IsInTree, IsNotAfter, IsTreeCount}
use Rattle.bk_catalogue.specs.TreeLaws.{EachPartOfTheTreeHasACount}
use Rattle.bk_catalogue.proofs.TreeOfWords.FiniteWords.{among_all, words_to}

abbrev MoveParts : Outline → Move → Type 0
MoveParts o m = (0 < m.count) × (length m.signs + 1 ≡ m.count + open_side (has_left_wall o) + open_side (has_right_wall o))

move_or_not : (o : Outline) (m : Move) → IsLegalMove o m ⊎ (IsLegalMove o m → ⊥)
move_or_not o m = by (decided-and (positive_or_not m.count)
    (cases_eq (length m.signs + 1) (m.count + open_side (has_left_wall o) + open_side (has_right_wall o))))
  where
    by : MoveParts o m ⊎ (MoveParts o m → ⊥) → IsLegalMove o m ⊎ (IsLegalMove o m → ⊥)
    by (inl p) = inl (record { some = p.0; signs = p.1 })
    by (inr never) = inr (λ h. never (h.some, h.signs))

legal_or_not : (o : Outline) (w : Word) → AreLegalFrom o w ⊎ (AreLegalFrom o w → ⊥)
legal_or_not o [] = inl tt
legal_or_not o (m ∷ w) = decided-and (move_or_not o m) (legal_or_not (after_move o m) w)

within_or_not : (bound : Option Word) (w : Word) → IsNotAfter bound w ⊎ (IsNotAfter bound w → ⊥)
within_or_not None w = inl tt
within_or_not (Some b) w = decided-not (ordering-less_or_not (word_cmp b w))

abbrev TreeParts : ℕ → Word → Option Word → Word → Type 0
TreeParts n cursor bound w = AreLegalFrom start w × ((0 < length w) × ((order_of w ≤ n) × (Follows w cursor × IsNotAfter bound w)))

in_tree_or_not : (n : ℕ) (cursor : Word) (bound : Option Word) (w : Word) → IsInTree n cursor bound w ⊎ (IsInTree n cursor bound w → ⊥)
in_tree_or_not n cursor bound w =
    by (decided-and (legal_or_not start w) (decided-and (positive_or_not (length w)) (decided-and (le_or_not (order_of w) n)
    (decided-and (ordering-less_or_not (word_cmp cursor w)) (within_or_not bound w)))))
  where
    by : TreeParts n cursor bound w ⊎ (TreeParts n cursor bound w → ⊥) → IsInTree n cursor bound w ⊎ (IsInTree n cursor bound w → ⊥)
    by (inl (a, (b, (c, (d, e))))) = inl (record { legal = a; some = b; small = c; after = d; within = e })
    by (inr never) = inr (λ h. never (h.legal, (h.some, (h.small, (h.after, h.within)))))

-- ascending words with one more, put in its place
record With (P : Word → Type 0) (w : Word) (words : List Word) : Type 0 where
  list : List Word
  each : AllByRecursion P list
  ascending : AreAscendingWords list
  new : IsIn w list
  old : (u : Word) → IsIn u words → IsIn u list
  later : (v : Word) → Follows w v → AllByRecursion (λ u. Follows u v) words → AllByRecursion (λ u. Follows u v) list

all_later : (v w : Word) (words : List Word) → Follows w v → AllByRecursion (λ u. Follows u w) words → AllByRecursion (λ u. Follows u v) words
all_later v w [] f all = tt
all_later v w (u ∷ words) f all = (follows_trans v w u f all.0, all_later v w words f all.1)

with_word : (P : Word → Type 0) (w : Word) → P w → (words : List Word) → AllByRecursion P words → AreAscendingWords words → With P w words
with_word P w p [] each up = record { list = w ∷ []; each = (p, tt); ascending = (tt, tt); new = inl refl; old = λ u h. absurd h; later = λ v f all. (f, tt) }
with_word P w p (v ∷ words) each up = by (word_cmp w v) refl (with_word P w p words each.1 up.1)
  where
    by : (r : Ordering) → word_cmp w v ≡ r → With P w words → With P w (v ∷ words)
    by Less e more = record {
      list = w ∷ v ∷ words;
      each = (p, each);
      ascending = ((e, all_later w v words e up.0), up);
      new = inl refl;
      old = λ u h. inr h;
      later = λ u f all. (f, all);
    }
    by Equal e more = record { list = v ∷ words; each = each; ascending = up; new = inl (word_same w v e); old = λ u h. h; later = λ u f all. all }
    by Greater e more = record {
      list = v ∷ more.list;
      each = (each.0, more.each);
      ascending = (more.later v (word_total.antisymm v w ∙ ap ordering_reverse e) up.0, more.ascending);
      new = inr more.new;
      old = old;
      later = λ u f all. (all.0, more.later u f all.1);
    }
      where
        old : (u : Word) → IsIn u (v ∷ words) → IsIn u (v ∷ more.list)
        old u (inl same) = inl same
        old u (inr h) = inr (more.old u h)

-- all words of a list of which this holds, ascending
record Collected (P : Word → Type 0) (candidates : List Word) : Type 0 where
  words : List Word
  each : AllByRecursion P words
  ascending : AreAscendingWords words
  all : (w : Word) → P w → IsIn w candidates → IsIn w words

collect : (P : Word → Type 0) → ((w : Word) → P w ⊎ (P w → ⊥)) → (candidates : List Word) → Collected P candidates
collect P decide [] = record { words = []; each = tt; ascending = tt; all = λ w p h. h }
collect P decide (c ∷ candidates) = by (decide c) (collect P decide candidates)
  where
    by : P c ⊎ (P c → ⊥) → Collected P candidates → Collected P (c ∷ candidates)
    by (inl p) r = onto (with_word P c p r.words r.each r.ascending)
      where
        onto : With P c r.words → Collected P (c ∷ candidates)
        onto x = record { words = x.list; each = x.each; ascending = x.ascending; all = all }
          where
            all : (w : Word) → P w → IsIn w (c ∷ candidates) → IsIn w x.list
            all w q (inl e) = subst (λ (u : Word). IsIn u x.list) (sym e) x.new
            all w q (inr h) = x.old w (r.all w q h)
    by (inr never) r = record { words = r.words; each = r.each; ascending = r.ascending; all = all }
      where
        all : (w : Word) → P w → IsIn w (c ∷ candidates) → IsIn w r.words
        all w q (inl e) = absurd (never (subst P e q))
        all w q (inr h) = r.all w q h

contains_from : (words : List Word) (w : Word) → IsIn w words → Contains words w
contains_from [] w h = absurd h
contains_from (v ∷ words) w (inl e) = (zero, omega arith, sym e)
contains_from (v ∷ words) w (inr h) = let c = contains_from words w h in (suc c.0, omega (arith, c.1), c.2)

-- each part of the tree has a tree count
pub each_part_of_the_tree_has_a_count : EachPartOfTheTreeHasACount
each_part_of_the_tree_has_a_count n cursor bound = by (collect (IsInTree n cursor bound) (in_tree_or_not n cursor bound) (words_to n n))
  where
    by : Collected (IsInTree n cursor bound) (words_to n n) → (number : ℕ) × IsTreeCount n cursor bound number
    by c = (
      length c.words,
      record {
        words = c.words;
        each = c.each;
        ascending = c.ascending;
        all = λ w t. contains_from c.words w (c.all w t (among_all n w t.legal t.small));
        count = refl;
      },
    )
