-- The tree count: no list of its words is longer, and the counts of two parts of the tree add up.
use Rattle.std.specs.List.{AllByRecursion}
use Rattle.std.specs.Ordering.{ordering_reverse}
use Rattle.std.specs.declared.cmp.Ordering.{Ordering}
use Rattle.std.specs.declared.cmp.Ordering.TheVariants.{Equal, Greater, Less}
use Rattle.std.proofs.Common.{Contains, List, None, Option, Some, [], ap, arith, inl, inr, length, refl, subst, suc, sym, zero, ℕ, ◌++◌, ◌+◌, ◌∙◌}
use Rattle.std.proofs.Common.{◌∷◌, ◌≡◌, ◌≤◌}
use Rattle.std.proofs.lemmas.List.Elements.{Contains-append_left, Contains-append_right}
use Rattle.std.proofs.lemmas.List.{length-append}
use Rattle.bk_laws.proofs.AllOfLists.{all_append}
use Rattle.bk_laws.proofs.NoneRepeated.{IsIn, NoneRepeated, no_longer}
use Rattle.bk_word.proofs.WordOrder.{word_total}
use Rattle.bk_word.specs.Word.{Follows, Word, word_cmp}
use Rattle.bk_catalogue.specs.Tree.{AreAscendingWords, HasAtLeast, IsInTree, IsNotAfter, IsTreeCount}
use Rattle.bk_catalogue.specs.TreeLaws.{ALegalWordIsOne, AtLeastAdds, TheTreeCountIsMost, TheTreeCountIsOne, TreeCountsAdd}
use Rattle.bk_word.proofs.FollowLaws.{not_itself}

in_all_words : (P : Word → Type 0) (words : List Word) → AllByRecursion P words → (w : Word) → IsIn w words → P w
in_all_words P [] all w h = absurd h
in_all_words P (v ∷ words) all w (inl same) = subst P (sym same) all.0
in_all_words P (v ∷ words) all w (inr h) = in_all_words P words all.1 w h

none_repeated : (words : List Word) → AreAscendingWords words → NoneRepeated words
none_repeated [] up = tt
none_repeated (w ∷ words) up =
    ((λ h. not_itself w (in_all_words (λ u. Follows u w) words up.0 w h)), none_repeated words up.1)

fewer : (words more : List Word) → AreAscendingWords words → ((w : Word) → IsIn w words → IsIn w more) → length words ≤ length more
fewer words more up f = no_longer words more (none_repeated words up) f

in_from : (words : List Word) (w : Word) → Contains words w → IsIn w words
in_from [] w c = absurd (omega (arith, c.1))
in_from (v ∷ words) w (zero, few, e) = inl (sym e)
in_from (v ∷ words) w (suc k, few, e) = inr (in_from words w (k, omega (arith, few), e))

-- the laws on the tree count: no list of its words is longer than the list of all
pub the_tree_count_is_most : TheTreeCountIsMost
the_tree_count_is_most n cursor bound count number t h =
    omega (
      arith,
      t.count,
      h.count,
      fewer h.words t.words h.ascending
          (λ w k. in_from t.words w (t.all w (in_all_words (IsInTree n cursor bound) h.words h.each w k))),
    )

-- where the tree has at least so many words, it has at least each smaller number
pub at_least_fewer : (n : ℕ) (cursor : Word) (bound : Option Word) (a b : ℕ) → b ≤ a → HasAtLeast n cursor bound a → HasAtLeast n cursor bound b
at_least_fewer n cursor bound a b less h =
    record { words = h.words; each = h.each; ascending = h.ascending; count = omega (arith, h.count, less) }

-- two tree counts of one part are one number
pub the_tree_count_is_one : TheTreeCountIsOne
the_tree_count_is_one n cursor bound count other a b = omega (
  arith,
  the_tree_count_is_most n cursor bound count other a (record { words = b.words; each = b.each; ascending = b.ascending; count = omega (arith, b.count) }),
  the_tree_count_is_most n cursor bound other count b (record { words = a.words; each = a.each; ascending = a.ascending; count = omega (arith, a.count) }),
)

-- u is not after v, and w is: then w is after u
pub after_not_after : (u v w : Word) → (Follows u v → ⊥) → Follows w v → Follows w u
after_not_after u v w not f = cases (word_cmp u v) refl
  where
    cases : (r : Ordering) → word_cmp u v ≡ r → word_cmp u w ≡ Less
    cases Less e = word_total.trans u v w e f
    cases Equal e = word_total.congr u v w e ∙ f
    cases Greater e = absurd (not (word_total.antisymm v u ∙ ap ordering_reverse e))

-- what is not after a word that is not after another is not after that
pub not_after_not_after : (u v w : Word) → (Follows u v → ⊥) → (Follows v w → ⊥) → Follows u w → ⊥
not_after_not_after u v w a b f = cases (word_cmp v w) refl
  where
    cases : (r : Ordering) → word_cmp v w ≡ r → ⊥
    cases Less e = a (word_total.trans v w u e f)
    cases Equal e = a (word_total.congr v w u e ∙ f)
    cases Greater e = b (word_total.antisymm w v ∙ ap ordering_reverse e)

not_after_bound : (bound : Option Word) (u v : Word) → (Follows u v → ⊥) → IsNotAfter bound v → IsNotAfter bound u
not_after_bound None u v a b = tt
not_after_bound (Some w) u v a b = not_after_not_after u v w a b

module _ (n : ℕ) (cursor between : Word) (bound : Option Word) (from : Follows cursor between → ⊥) (to : IsNotAfter bound between) where
  lower : (w : Word) → IsInTree n cursor (Some between) w → IsInTree n cursor bound w
  lower w t = record { legal = t.legal; some = t.some; small = t.small; after = t.after; within = not_after_bound bound w between t.within to }

  upper : (w : Word) → IsInTree n between bound w → IsInTree n cursor bound w
  upper w t = record { legal = t.legal; some = t.some; small = t.small; after = after_not_after cursor between w from t.after; within = t.within }

  all_with : (P Q : Word → Type 0) → ((w : Word) → P w → Q w) → (words : List Word) → AllByRecursion P words → AllByRecursion Q words
  all_with P Q f [] all = tt
  all_with P Q f (w ∷ words) all = (f w all.0, all_with P Q f words all.1)

  ascending : (front back : List Word) → AllByRecursion (IsInTree n cursor (Some between)) front
      → AllByRecursion (IsInTree n between bound) back → AreAscendingWords front → AreAscendingWords back → AreAscendingWords (front ++ back)
  ascending [] back a b up more = more
  ascending (w ∷ front) back a b up more = (
    all_append (λ v. Follows v w) front back up.0
        (all_with (IsInTree n between bound) (λ v. Follows v w) (λ v t. after_not_after w between v (a.0).within t.after) back b),
    ascending front back a.1 b up.1 more,
  )

  each : (front back : List Word) → AllByRecursion (IsInTree n cursor (Some between)) front → AllByRecursion (IsInTree n between bound) back
      → AllByRecursion (IsInTree n cursor bound) (front ++ back)
  each front back a b = all_append (IsInTree n cursor bound) front back
      (all_with (IsInTree n cursor (Some between)) (IsInTree n cursor bound) lower front a)
      (all_with (IsInTree n between bound) (IsInTree n cursor bound) upper back b)

  -- the words up to one between, and those from it on, are all
  pub counts_add : (a b : ℕ) → IsTreeCount n cursor (Some between) a → IsTreeCount n between bound b → IsTreeCount n cursor bound (a + b)
  counts_add a b s t = record {
    words = s.words ++ t.words;
    each = each s.words t.words s.each t.each;
    ascending = ascending s.words t.words s.each t.each s.ascending t.ascending;
    all = λ w h. in_part w h (word_cmp between w) refl;
    count = omega (arith, s.count, t.count, length-append s.words t.words);
  }
    where
      in_part : (w : Word) → IsInTree n cursor bound w → (r : Ordering) → word_cmp between w ≡ r → Contains (s.words ++ t.words) w
      in_part w h Less e = Contains-append_right s.words t.words w
          (t.all w (record { legal = h.legal; some = h.some; small = h.small; after = e; within = h.within }))
      in_part w h Equal e = Contains-append_left s.words t.words w
          (s.all w (record { legal = h.legal; some = h.some; small = h.small; after = h.after; within = λ f. impossible (sym e ∙ f) }))
        where
          impossible : Equal ≡ Less → ⊥
          impossible g = cc
      in_part w h Greater e = Contains-append_left s.words t.words w
          (s.all w (record { legal = h.legal; some = h.some; small = h.small; after = h.after; within = λ f. impossible (sym e ∙ f) }))
        where
          impossible : Greater ≡ Less → ⊥
          impossible g = cc

  -- lists of words in two parts of the tree that follow each other make one of both parts
  pub at_least_adds_to : (a b : ℕ) → HasAtLeast n cursor (Some between) a → HasAtLeast n between bound b → HasAtLeast n cursor bound (a + b)
  at_least_adds_to a b s t = record {
    words = s.words ++ t.words;
    each = each s.words t.words s.each t.each;
    ascending = ascending s.words t.words s.each t.each s.ascending t.ascending;
    count = omega (arith, s.count, t.count, length-append s.words t.words);
  }

-- the counts of two parts that follow each other add up to that of both
pub tree_counts_add : TreeCountsAdd
tree_counts_add n cursor between bound a b from to s t = counts_add n cursor between bound from to a b s t

-- numbers of words that two parts of the tree have at least add up
pub at_least_adds : AtLeastAdds
at_least_adds n cursor between bound a b from to s t = at_least_adds_to n cursor between bound from to a b s t

-- a legal word within the order, behind the cursor, is a part of one word at least
pub a_legal_word_is_one : ALegalWordIsOne
a_legal_word_is_one n cursor w legal some small after = record {
  words = w ∷ [];
  each = (record { legal = legal; some = some; small = small; after = after; within = not_itself w }, tt);
  ascending = (tt, tt);
  count = omega arith;
}
