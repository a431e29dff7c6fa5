-- A simple tiling is listed once in the catalogue: as the entry of its canonical tiling.
use Rattle.std.specs.List.{AllByRecursion}
use Rattle.std.proofs.Common.{Contains, List, [], ap, arith, refl, subst, suc, sym, zero, ℕ, ◌++◌, ◌∙◌, ◌∷◌, ◌≡◌}
use Rattle.std.proofs.lemmas.List.Elements.{All-contains, All-from_recursion, Contains-append_left, Contains-append_right}
use Rattle.bk_tiling.specs.Tiling.{IsTiling, Tiling}
use Rattle.bk_sym.proofs.AlikeLaws.{a_canonical_tiling_is_its_own, alike_tilings_have_one_canonical, one_canonical_means_alike}
use Rattle.bk_sym.specs.Canonical.{IsCanonicalOf}
use Rattle.bk_word.specs.Word.{Follows, Word}
use Rattle.bk_word.specs.declared.Class.{Class}
use Rattle.bk_lay.proofs.Valleys.{a_tiling_has_one_word}
use Rattle.bk_lay.proofs.Words.{every_tiling_has_a_word}
use Rattle.bk_lay.specs.TilingWord.{IsWordOf}
use Rattle.bk_catalogue.proofs.Members.ClassesKept.{canonical_class, canonical_is, canonical_order, canonical_simple}
use Rattle.bk_sym.proofs.GreatestImage.{every_tiling_has_a_canonical}
use Rattle.bk_word.proofs.FollowLaws.{not_itself}
use Rattle.bk_catalogue.specs.Catalogue.{AreAscending, Entry, IsCatalogue, IsEntry}
use Rattle.bk_catalogue.specs.Once.{EachSimpleTilingIsListedOnce, HasNoImageOf, IsImageToScale, IsListedOnce}

-- the list before and after one of its entries
record IsParted (entries : List Entry) (e : Entry) : Type 0 where
  pub before : List Entry
  pub after : List Entry
  pub place : entries ≡ before ++ e ∷ after

parted : (entries : List Entry) (e : Entry) → Contains entries e → IsParted entries e
parted [] e c = absurd (omega (arith, c.1))
parted (f ∷ entries) e (zero, below, is) = record { before = []; after = entries; place = ap (λ (g : Entry). g ∷ entries) is }
parted (f ∷ entries) e (suc k, below, is) = let rest = parted entries e (k, omega (arith, below), is) in
    record { before = f ∷ rest.before; after = rest.after; place = ap (λ (more : List Entry). f ∷ more) rest.place }

contained : (P : Entry → Type 0) (entries : List Entry) (e : Entry) → AllByRecursion P entries → Contains entries e → P e
contained P entries e all c = All-contains P entries e (All-from_recursion P entries all) c

-- an ascending list has an entry neither before nor after itself
not_before : (before after : List Entry) (e : Entry) → AreAscending (before ++ e ∷ after) → Contains before e → ⊥
not_before [] after e up c = absurd (omega (arith, c.1))
not_before (f ∷ before) after e up (zero, below, is) = not_itself e.word (subst (λ (g : Entry). Follows e.word g.word) is
    (contained (λ g. Follows g.word f.word) (before ++ e ∷ after) e up.0 (Contains-append_right before (e ∷ after) e (0, omega arith, refl))))
not_before (f ∷ before) after e up (suc k, below, is) = not_before before after e up.1 (k, omega (arith, below), is)

not_after : (before after : List Entry) (e : Entry) → AreAscending (before ++ e ∷ after) → Contains after e → ⊥
not_after [] after e up c = not_itself e.word (contained (λ g. Follows g.word e.word) after e up.0 c)
not_after (f ∷ before) after e up c = not_after before after e up.1 c

module _ (n : ℕ) (class : Class) (t : Tiling) (entries : List Entry) (tiling : IsTiling t) (catalogue : IsCatalogue n class entries) where
  module _ (c : Tiling) (of : IsCanonicalOf t c) (word : Word) (is_word : IsWordOf c word) (is : IsEntry n class (record { tiling = c; word = word })) where
    abbrev entry : Entry
    entry = record { tiling = c; word = word }

    is_listed : Contains entries entry
    is_listed = catalogue.all entry is

    -- each entry of an image is this one
    only : (f : Entry) → Contains entries f → IsImageToScale t f.tiling → f ≡ entry
    only f k image = λ i. record { tiling = tilings i; word = words i }
      where
        entry_is : IsEntry n class f
        entry_is = contained (IsEntry n class) entries f catalogue.each k

        tilings : f.tiling ≡ c
        tilings = sym (alike_tilings_have_one_canonical t f.tiling c f.tiling image.turn tiling (entry_is.member).tiling image.alike of
            (entry_is.member).canonical)

        words : f.word ≡ word
        words = a_tiling_has_one_word c f.word word (subst (λ (u : Tiling). IsWordOf u f.word) tilings entry_is.word) is_word

    parts : IsParted entries entry
    parts = parted entries entry is_listed

    ascending : AreAscending (parts.before ++ entry ∷ parts.after)
    ascending = subst AreAscending parts.place catalogue.ascending

    in_list : (f : Entry) → Contains (parts.before ++ entry ∷ parts.after) f → Contains entries f
    in_list f k = subst (λ (list : List Entry). Contains list f) (sym parts.place) k

    none_before : HasNoImageOf t parts.before
    none_before f k image = not_before parts.before parts.after entry ascending
        (subst (Contains parts.before) (only f (in_list f (Contains-append_left parts.before (entry ∷ parts.after) f k)) image) k)

    none_after : HasNoImageOf t parts.after
    none_after f k image = not_after parts.before parts.after entry ascending
        (subst (Contains parts.after) (only f (in_list f
        (Contains-append_right parts.before (entry ∷ parts.after) f (suc k.0, omega (arith, k.1), k.2))) image) k)

    listed_as : IsListedOnce n class t entries
    listed_as = record {
      entry = entry;
      is = is;
      canonical = of;
      image = let found = one_canonical_means_alike t c c tiling ((is.member).tiling) of (a_canonical_tiling_is_its_own t c tiling of) in
          record { turn = found.0; alike = found.1 };
      listed = is_listed;
      only = only;
      before = parts.before;
      after = parts.after;
      place = parts.place;
      none_before = none_before;
      none_after = none_after;
    }

-- the law: words of entries ascend, so one entry stands at one place
pub each_simple_tiling_is_listed_once : EachSimpleTilingIsListedOnce
each_simple_tiling_is_listed_once n class t entries tiling order simple of_class catalogue = with_canonical (every_tiling_has_a_canonical t tiling)
  where
    with_canonical : (c : Tiling) × IsCanonicalOf t c → IsListedOnce n class t entries
    with_canonical (c, of) = with_word (every_tiling_has_a_word c (canonical_is t c tiling of))
      where
        with_word : (w : Word) × IsWordOf c w → IsListedOnce n class t entries
        with_word (w, is_word) = listed_as n class t entries tiling catalogue c of w is_word (record {
          member = record {
            tiling = canonical_is t c tiling of;
            order = canonical_order t c tiling of ∙ order;
            simple = canonical_simple t c tiling of simple;
            class = canonical_class t c tiling of class of_class;
            canonical = a_canonical_tiling_is_its_own t c tiling of;
          };
          word = is_word;
        })
