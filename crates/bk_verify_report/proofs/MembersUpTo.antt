-- Members of a kind in their order: those up to a word, and the next one behind it.
use Rattle.std.specs.List.{AllByRecursion}
use Rattle.std.specs.declared.cmp.Ordering.{Ordering}
use Rattle.std.specs.declared.cmp.Ordering.TheVariants.{Equal, Greater, Less}
use Rattle.std.proofs.Common.{Contains, List, [], inl, inr, refl, subst, sym, ℕ}
use Rattle.std.proofs.Common.{◌++◌, ◌∷◌, ◌≡◌, ◌⊎◌}
use Rattle.std.proofs.lemmas.List.Elements.{Contains-append_left, Contains-push}
use Rattle.bk_laws.proofs.AllOfLists.{all_append}
use Rattle.bk_tiling.specs.Tiling.{Tiling}
use Rattle.bk_word.proofs.WordOrder.{follows_trans}
use Rattle.bk_word.specs.Word.{Follows, Word, word_cmp}
use Rattle.bk_word.specs.declared.Class.TheVariants.{Perfect}
use Rattle.bk_lay.proofs.WordPlay.{tiling_word_is_complete}
use Rattle.bk_catalogue.proofs.TreeOfWords.Places.{word_same}
use Rattle.bk_word.proofs.FollowLaws.{after_none, not_itself, greater_follows}
use Rattle.bk_catalogue.specs.Catalogue.{AreAscending, Entry, IsEntry}
use Rattle.bk_catalogue.proofs.Members.OneEntry.{one_entry}
use Rattle.bk_verify_report.specs.KeptEntries.{AreUpTo, IsUpTo}

compared : (v w : Word) → Follows w v ⊎ ((v ≡ w) ⊎ Follows v w)
compared v w = cases (word_cmp v w) refl
  where
    cases : (r : Ordering) → word_cmp v w ≡ r → Follows w v ⊎ ((v ≡ w) ⊎ Follows v w)
    cases Less e = inl e
    cases Equal e = inr (inl (word_same v w e))
    cases Greater e = inr (inr (greater_follows v w e))

-- a word that is none of those after the cursor is before each word that is
pub up_to_is_before : (cursor v w : Word) → IsUpTo cursor v → Follows w cursor → Follows w v
up_to_is_before cursor v w up after = cases (compared v w)
  where
    cases : Follows w v ⊎ ((v ≡ w) ⊎ Follows v w) → Follows w v
    cases (inl f) = f
    cases (inr (inl e)) = absurd (up (subst (λ (x : Word). Follows x cursor) (sym e) after))
    cases (inr (inr f)) = absurd (up (follows_trans cursor w v after f))

-- a word is after the cursor, or up to it
pub after_or_up : (cursor v : Word) → Follows v cursor ⊎ IsUpTo cursor v
after_or_up cursor v = cases (compared v cursor)
  where
    cases : Follows cursor v ⊎ ((v ≡ cursor) ⊎ Follows v cursor) → Follows v cursor ⊎ IsUpTo cursor v
    cases (inl f) = inr (λ after. not_itself cursor (follows_trans cursor v cursor after f))
    cases (inr (inl e)) = inr (λ after. not_itself cursor (subst (λ (x : Word). Follows x cursor) e after))
    cases (inr (inr f)) = inl f

-- no member is up to the word of no moves
pub up_to_none : (n : ℕ) (Is : Tiling → Type 0) → AreUpTo n Is [] []
up_to_none n Is = record {
  each = tt;
  such = tt;
  up = tt;
  ascending = tt;
  all = λ e is such up. absurd (up (after_none e.word ((tiling_word_is_complete e.tiling e.word (is.member).tiling is.word).0).some));
}

-- the least member of a kind after the cursor
pub record IsNextSuch (n : ℕ) (Is : Tiling → Type 0) (cursor : Word) (e : Entry) : Type 0 where
  pub entry : IsEntry n Perfect e
  pub such : Is e.tiling
  pub after : Follows e.word cursor
  pub least : (f : Entry) → IsEntry n Perfect f → Is f.tiling → Follows f.word cursor → Follows e.word f.word → ⊥

module _ (n : ℕ) (Is : Tiling → Type 0) (cursor : Word) (e : Entry) (next : IsNextSuch n Is cursor e) where
  -- a member of the kind up to the next one is up to the cursor, or that one
  pub up_to_next : (f : Entry) → IsEntry n Perfect f → Is f.tiling → IsUpTo e.word f.word → IsUpTo cursor f.word ⊎ (e ≡ f)
  up_to_next f is such up = cases (after_or_up cursor f.word) (compared f.word e.word)
    where
      cases : Follows f.word cursor ⊎ IsUpTo cursor f.word → Follows e.word f.word ⊎ ((f.word ≡ e.word) ⊎ Follows f.word e.word)
          → IsUpTo cursor f.word ⊎ (e ≡ f)
      cases (inr low) place = inl low
      cases (inl after) (inl below) = absurd (next.least f is such after below)
      cases (inl after) (inr (inl same)) = inr (one_entry n Perfect e f next.entry is (sym same))
      cases (inl after) (inr (inr above)) = absurd (up above)

  ascending_more : (entries : List Entry) → AreAscending entries → AllByRecursion (λ f. IsUpTo cursor f.word) entries → AreAscending (entries ++ e ∷ [])
  ascending_more [] up all = (tt, tt)
  ascending_more (f ∷ entries) up all = (
    all_append (λ g. Follows g.word f.word) entries (e ∷ []) up.0
        (up_to_is_before cursor f.word e.word all.0 next.after, tt),
    ascending_more entries up.1 all.1,
  )

  still_up : (entries : List Entry) → AllByRecursion (λ f. IsUpTo cursor f.word) entries → AllByRecursion (λ f. IsUpTo e.word f.word) entries
  still_up [] all = tt
  still_up (f ∷ entries) all = ((λ above. all.0 (follows_trans cursor e.word f.word next.after above)), still_up entries all.1)

  -- the next one is taken
  pub up_to_more : (entries : List Entry) → AreUpTo n Is cursor entries → AreUpTo n Is e.word (entries ++ e ∷ [])
  up_to_more entries are = record {
    each = all_append (IsEntry n Perfect) entries (e ∷ []) are.each (next.entry, tt);
    such = all_append (λ f. Is f.tiling) entries (e ∷ []) are.such (next.such, tt);
    up = all_append (λ f. IsUpTo e.word f.word) entries (e ∷ []) (still_up entries are.up) (not_itself e.word, tt);
    ascending = ascending_more entries are.ascending are.up;
    all = λ f is such up. cases f is such (up_to_next f is such up);
  }
    where
      cases : (f : Entry) → IsEntry n Perfect f → Is f.tiling → IsUpTo cursor f.word ⊎ (e ≡ f) → Contains (entries ++ e ∷ []) f
      cases f is such (inl low) = Contains-append_left entries (e ∷ []) f (are.all f is such low)
      cases f is such (inr it) = subst (Contains (entries ++ e ∷ [])) it (Contains-push entries e)
