-- A walk advances from place to place: what is passed stays passed, and each word that is met counts once.
use Rattle.std.specs.List.{AllByRecursion}
use Rattle.std.specs.declared.cmp.Ordering.{Ordering}
use Rattle.std.specs.declared.cmp.Ordering.TheVariants.{Equal, Greater, Less}
use Rattle.std.specs.Ordering.{ordering_reverse}
use Rattle.std.proofs.Common.{List, None, Some, [], ap, arith, inl, inr, length, refl, sym, ℕ, ◌++◌, ◌+◌, ◌<◌, ◌∙◌, ◌∷◌, ◌≡◌, ◌⊎◌}
use Rattle.std.proofs.lemmas.List.{length-append}
use Rattle.bk_laws.proofs.AllOfLists.{all_append}
use Rattle.bk_lay.proofs.WordPlay.{tiling_word_is_complete}
use Rattle.bk_word.proofs.WordOrder.{follows_trans, word_total}
use Rattle.bk_word.specs.Word.{Follows, Word, word_cmp}
use Rattle.bk_word.specs.declared.Class.{Class}
use Rattle.bk_word.proofs.FollowLaws.{not_itself}
use Rattle.bk_catalogue.specs.Catalogue.{Entry, IsEntry}
use Rattle.bk_tree_walk.specs.TreePlace.{HasPassed, IsEnd, IsMet, IsTreeWord}
use Rattle.bk_catalogue.specs.Tree.{AreAscendingWords, IsInTree}

-- the word of an entry is a word of the tree
pub entry_word : (n : ℕ) (class : Class) (e : Entry) → IsEntry n class e → IsTreeWord n e.word
entry_word n class e is = record {
  legal = ((tiling_word_is_complete e.tiling e.word (is.member).tiling is.word).0).legal;
  small = omega (arith, (tiling_word_is_complete e.tiling e.word (is.member).tiling is.word).1, (is.member).order);
}

-- the word is before the other, or not
pub before_or : (v w : Word) → Follows w v ⊎ (Follows w v → ⊥)
before_or v w = cases (word_cmp v w) refl
  where
    equal : Equal ≡ Less → ⊥
    equal e = cc

    more : Greater ≡ Less → ⊥
    more e = cc

    cases : (r : Ordering) → word_cmp v w ≡ r → Follows w v ⊎ (Follows w v → ⊥)
    cases Less e = inl e
    cases Equal e = inr (λ f. equal (sym e ∙ f))
    cases Greater e = inr (λ f. more (sym e ∙ f))

-- u is before v, and w is not before v: u is before w
pub before_not_before : (u v w : Word) → Follows v u → (Follows v w → ⊥) → Follows w u
before_not_before u v w f g = cases (word_cmp w v) refl
  where
    cases : (r : Ordering) → word_cmp w v ≡ r → Follows w u
    cases Less e = absurd (g e)
    cases Equal e = word_total.antisymm u w ∙ ap ordering_reverse (word_total.congr w v u e) ∙ sym (word_total.antisymm u v) ∙ f
    cases Greater e = follows_trans u v w f (word_total.antisymm v w ∙ ap ordering_reverse e)

-- of two words not each is before the other
pub words_follow_one_way_only : (v w : Word) → Follows v w → Follows w v → ⊥
words_follow_one_way_only v w f g = not_itself v (follows_trans v w v g f)

-- words before a place, and then a word that is not before it
ascending_to : (n : ℕ) (cursor place word : Word) → (Follows place word → ⊥) → (words : List Word)
    → AllByRecursion (λ w. IsInTree n cursor None w × Follows place w) words → AreAscendingWords words
    → AreAscendingWords (words ++ word ∷ [])
ascending_to n cursor place word from [] all up = (tt, tt)
ascending_to n cursor place word from (w ∷ words) all up = (
  all_append (λ v. Follows v w) words (word ∷ []) up.0 (before_not_before w place word (all.0).1 from, tt),
  ascending_to n cursor place word from words all.1 up.1,
)

-- the place moves on, over what no member's word is among
module _ (n : ℕ) (class : Class) (place next : Word) (up : Follows next place)
    (none : (e : Entry) → IsEntry n class e → (Follows place e.word → ⊥) → Follows next e.word → ⊥) (cursor : Word) (met : ℕ)
    (p : HasPassed n class cursor place met) where
  each_on : (words : List Word) → AllByRecursion (λ w. IsInTree n cursor None w × Follows place w) words
      → AllByRecursion (λ w. IsInTree n cursor None w × Follows next w) words
  each_on [] all = tt
  each_on (w ∷ words) all = (((all.0).0, follows_trans w place next (all.0).1 up), each_on words all.1)

  passed_on : (e : Entry) → IsEntry n class e → Follows e.word cursor → Follows next e.word → ⊥
  passed_on e is after before = cases (before_or e.word place)
    where
      cases : Follows place e.word ⊎ (Follows place e.word → ⊥) → ⊥
      cases (inl f) = p.passed e is after f
      cases (inr f) = none e is f before

  after_on : (w : Word) → IsTreeWord n w → (Follows next w → ⊥) → Follows w cursor
  after_on w tree from = p.after w tree (λ f. from (follows_trans w place next f up))

  -- a walk that moved on, over what no member's word is among, has passed what it had, and met as many words
  pub moved_on : HasPassed n class cursor next met
  moved_on = record { passed = passed_on; after = after_on; words = p.words; each = each_on p.words p.each; ascending = p.ascending; count = p.count }

  -- a walk goes on past a word of the tree, which is met
  module _ (word : Word) (tree : IsTreeWord n word) (some : 0 < length word) (from : Follows place word → ⊥) (to : Follows next word) where
    in_tree : IsInTree n cursor None word
    in_tree = record { legal = tree.legal; some = some; small = tree.small; after = p.after word tree from; within = tt }

    -- a walk that goes on past a word of the tree, which is met, has met one word more
    pub met_on : HasPassed n class cursor next (met + 1)
    met_on = record {
      passed = passed_on;
      after = after_on;
      words = p.words ++ word ∷ [];
      each = all_append (λ w. IsInTree n cursor None w × Follows next w) p.words (word ∷ []) (each_on p.words p.each) ((in_tree, to), tt);
      ascending = ascending_to n cursor place word from p.words p.each p.ascending;
      count = omega (arith, p.count, length-append p.words (word ∷ []));
    }

-- up to a word of the tree, which is met
module _ (n : ℕ) (class : Class) (place word : Word) (tree : IsTreeWord n word) (some : 0 < length word) (from : Follows place word → ⊥)
    (none : (e : Entry) → IsEntry n class e → (Follows place e.word → ⊥) → Follows word e.word → ⊥) (cursor : Word) (met : ℕ)
    (p : HasPassed n class cursor place met) where
  each_to : (words : List Word) → AllByRecursion (λ w. IsInTree n cursor None w × Follows place w) words → AllByRecursion (IsInTree n cursor (Some word)) words
  each_to [] all = tt
  each_to (w ∷ words) all = (
    record {
      legal = ((all.0).0).legal;
      some = ((all.0).0).some;
      small = ((all.0).0).small;
      after = ((all.0).0).after;
      within = words_follow_one_way_only word w (before_not_before w place word (all.0).1 from);
    },
    each_to words all.1,
  )

  -- a walk that goes on up to a word of the tree meets it, as one more
  pub met_at : IsMet n class cursor word (met + 1)
  met_at = record {
    after = p.after word tree from;
    passed = λ e is after before. cases e is after before (before_or e.word place);
    count = record {
      words = p.words ++ word ∷ [];
      each = all_append (IsInTree n cursor (Some word)) p.words (word ∷ []) (each_to p.words p.each)
          (record { legal = tree.legal; some = some; small = tree.small; after = p.after word tree from; within = not_itself word }, tt);
      ascending = ascending_to n cursor place word from p.words p.each p.ascending;
      count = omega (arith, p.count, length-append p.words (word ∷ []));
    };
  }
    where
      cases : (e : Entry) → IsEntry n class e → Follows e.word cursor → Follows word e.word → Follows place e.word ⊎ (Follows place e.word → ⊥) → ⊥
      cases e is after before (inl f) = p.passed e is after f
      cases e is after before (inr f) = none e is f before

-- the end: no word of a member is left from the place on
pub none_left_is_end : (n : ℕ) (class : Class) (place cursor : Word) (met : ℕ) → ((e : Entry) → IsEntry n class e → (Follows place e.word → ⊥) → ⊥)
    → HasPassed n class cursor place met → IsEnd n class cursor met
none_left_is_end n class place cursor met none p = record {
  passed = λ e is after. cases e is after (before_or e.word place);
  count = record { words = p.words; each = each_in p.words p.each; ascending = p.ascending; count = p.count };
}
  where
    each_in : (words : List Word) → AllByRecursion (λ w. IsInTree n cursor None w × Follows place w) words → AllByRecursion (IsInTree n cursor None) words
    each_in [] all = tt
    each_in (w ∷ words) all = ((all.0).0, each_in words all.1)

    cases : (e : Entry) → IsEntry n class e → Follows e.word cursor → Follows place e.word ⊎ (Follows place e.word → ⊥) → ⊥
    cases e is after (inl f) = p.passed e is after f
    cases e is after (inr f) = none e is f
