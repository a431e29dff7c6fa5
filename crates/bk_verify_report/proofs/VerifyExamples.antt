-- A list of order 9 that others made: on line 1 the rectangle 33x32 turned and twice as large, on line 2 the square of one square,
-- on line 3 the rectangle 33x32 as it is catalogued.
use Rattle.std.specs.Prelude.{List, [], refl, ◌∷◌, ◌≡◌}
use Rattle.std.proofs.Common.{ap, arith, lit≤}
use Rattle.bk_sym.proofs.CanonicalTests.{canonical_by_test}
use Rattle.bk_tiling.specs.Tiling.{IsTiling, Tiling, sides_of}
use Rattle.bk_tiling.proofs.ExampleTilings.{rectangle_33x32, rectangle_69x61, square_at, turned_33x32}
use Rattle.bk_tiling.proofs.TilingTest.{pairs_from_test, tiling_from_test}
use Rattle.bk_simple.proofs.SimpleTest.{simple_from_test}
use Rattle.bk_sym.proofs.CanonicalLaws.{a_canonical_tiling_is_one}
use Rattle.bk_sym.specs.Canonical.{IsCanonical, IsCanonicalOf}
use Rattle.bk_sym.specs.declared.Turn.TheVariants.{Same, Swap}
use Rattle.bk_word.specs.declared.Class.TheVariants.{Perfect}
use Rattle.bk_catalogue.specs.Catalogue.{IsMember}
use Rattle.bk_verify_report.specs.KeptEntries.{IsFed, EntriesState}
use Rattle.bk_verify_report.specs.StoredMember.{kept_member}
use Rattle.bk_verify_report.specs.Verify.{Accepted, IsFirstOf, IsForeign, IsMissing, IsNew, IsRepeat}
use Rattle.bk_verify_report.specs.declared.entries.Fed.TheVariants.{Foreign}
use Rattle.bk_verify_report.proofs.Standing.{none_of_other_order}

abbrev one_square : Tiling
one_square = record { width = 1; height = 1; squares = square_at 0 0 1 ∷ [] }

abbrev entries : List Accepted
entries = record { line = 1; tiling = turned_33x32 } ∷ record { line = 2; tiling = one_square } ∷ record { line = 3; tiling = rectangle_33x32 } ∷ []

-- the rectangle is its canonical tiling
canonical-turned : IsCanonicalOf turned_33x32 rectangle_33x32
canonical-turned = canonical_by_test turned_33x32 rectangle_33x32 Swap refl (lit≤ tt) refl

-- the first entry of the rectangle is that of line 1
first-entry : IsFirstOf entries rectangle_33x32 (record { line = 1; tiling = turned_33x32 })
first-entry = record {
  before = [];
  after = record { line = 2; tiling = one_square } ∷ record { line = 3; tiling = rectangle_33x32 } ∷ [];
  place = refl;
  same = canonical-turned;
  none_before = tt;
}

-- each of the rectangles 33x32 and 69x61 is its own canonical tiling
canonical-33x32 : IsCanonical rectangle_33x32
canonical-33x32 = canonical_by_test rectangle_33x32 rectangle_33x32 Same refl (lit≤ tt) refl

canonical-69x61 : IsCanonical rectangle_69x61
canonical-69x61 = canonical_by_test rectangle_69x61 rectangle_69x61 Same refl (lit≤ tt) refl

-- and they are members of the order 9
member-33x32 : IsMember 9 Perfect rectangle_33x32
member-33x32 = record {
  tiling = tiling_from_test rectangle_33x32 refl;
  order = refl;
  simple = simple_from_test rectangle_33x32 (tiling_from_test rectangle_33x32 refl) refl;
  class = pairs_from_test (λ q. q.s) rectangle_33x32.squares refl;
  canonical = canonical-33x32;
}

member-69x61 : IsMember 9 Perfect rectangle_69x61
member-69x61 = record {
  tiling = tiling_from_test rectangle_69x61 refl;
  order = refl;
  simple = simple_from_test rectangle_69x61 (tiling_from_test rectangle_69x61 refl) refl;
  class = pairs_from_test (λ q. q.s) rectangle_69x61.squares refl;
  canonical = canonical-69x61;
}

-- so the entry of line 1 is new
new-entry : IsNew 9 entries (record { line = 1; tiling = turned_33x32 })
new-entry = record { tiling = rectangle_33x32; member = member-33x32; first = first-entry }

-- that of line 3 repeats line 1
repeated-entry : IsRepeat 9 entries (record { line = 3; tiling = rectangle_33x32 }) 1
repeated-entry = record {
  tiling = rectangle_33x32;
  same = canonical-33x32;
  member = member-33x32;
  first = record { line = 1; tiling = turned_33x32 };
  is_first = first-entry;
  line = refl;
  other = λ e. absurd (omega (arith, e));
}

-- and the rectangle 69x61 is missing: no entry has it as its canonical tiling
other-33x32 : (t : Tiling) → IsTiling t → IsCanonicalOf t rectangle_33x32 → IsCanonicalOf t rectangle_69x61 → ⊥
other-33x32 t tiling one other =
    let width = ap (λ (u : Tiling). u.width) (a_canonical_tiling_is_one t rectangle_33x32 rectangle_69x61 tiling one other).1 in
    omega (arith, width)

missing-69x61 : IsMissing 9 entries rectangle_69x61
missing-69x61 = record {
  member = member-69x61;
  none = (
    other-33x32 turned_33x32 (tiling_from_test turned_33x32 refl) canonical-turned,
    (
      λ is. none_of_other_order 9 one_square (λ e. omega (arith, e)) rectangle_69x61 (record { canonical = is; member = member-69x61 }),
      (other-33x32 rectangle_33x32 (tiling_from_test rectangle_33x32 refl) canonical-33x32, tt),
    ),
  );
}

-- the entry of line 2 is foreign, for it has one square
foreign-entry : IsForeign 9 (record { line = 2; tiling = one_square })
foreign-entry u is member = none_of_other_order 9 one_square (λ e. omega (arith, e)) u (record { canonical = is; member = member })

-- where the rectangle is kept from line 1, that is told, and all that was kept is kept
abbrev kept : EntriesState
kept = record { order = 9; pairs = record { line = 1; tiling = rectangle_33x32 } ∷ [] }

told-foreign : IsFed kept 2 one_square Foreign kept
told-foreign = (none_of_other_order 9 one_square (λ e. omega (arith, e)), refl)

-- the rectangle is stored under 33, 18, 15, 7, 8, 14, 4, 10, 1, 9, with the line and the rest of it
stored : kept_member (
  record { width = 33; sides = record { items = sides_of rectangle_33x32 } },
  record { line = 1; height = 32; squares = record { items = rectangle_33x32.squares } },
)
    ≡ record { line = 1; tiling = rectangle_33x32 }
stored = refl

stored-sides : sides_of rectangle_33x32 ≡ 18 ∷ 15 ∷ 7 ∷ 8 ∷ 14 ∷ 4 ∷ 10 ∷ 1 ∷ 9 ∷ []
stored-sides = refl
