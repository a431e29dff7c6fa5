-- Each simple tiling has a normal image with a word of which no beginning is barren, and what is said of each image of a member.
use Rattle.std.specs.Prelude.{get_or, ◌==◌}
use Rattle.std.proofs.Common.{Bool, ap, arith, count_by, map, refl, subst, sym, ℕ, ◌*◌, ◌∙◌, ◌≡◌}
use Rattle.std.proofs.lemmas.Bool.{eq-eqb}
use Rattle.bk_laws.proofs.Counts.{count_two}
use Rattle.bk_tiling.proofs.Cells.{all_from, in_all}
use Rattle.bk_tiling.proofs.OrderLaws.{in_code_order-count}
use Rattle.bk_tiling.proofs.PuttingInOrder.{in_order}
use Rattle.bk_tiling.specs.Scale.{IsPrimitiveTiling}
use Rattle.bk_tiling.specs.Tiling.{IsOneOf, IsTiling, Tiling}
use Rattle.bk_tiling.specs.declared.Square.{Square}
use Rattle.bk_simple.proofs.Repeats.{imperfect}
use Rattle.bk_simple.specs.Simple.{IsCompound, IsPerfect, IsRepeated, IsSimple}
use Rattle.bk_sym.proofs.AlikeLaws.{alike_tilings_have_one_canonical}
use Rattle.bk_sym.proofs.CanonicalPrimitive.{canonical_primitive}
use Rattle.bk_sym.proofs.Composing.{images_are_undone}
use Rattle.bk_sym.proofs.GreatestImage.{every_tiling_has_a_canonical}
use Rattle.bk_sym.proofs.Images.{images_are_tilings, in_map}
use Rattle.bk_sym.proofs.KeptImages.{side-image_square}
use Rattle.bk_sym.specs.Canonical.{IsCanonical, IsCanonicalOf}
use Rattle.bk_sym.specs.Image.{image, image_square}
use Rattle.bk_sym.specs.Turns.{undoing}
use Rattle.bk_sym.specs.declared.Turn.{Turn}
use Rattle.bk_layout.proofs.NormalImages.ImageCorners.{longest_ordered}
use Rattle.bk_layout.proofs.NormalImages.ImageCounts.{image_order}
use Rattle.bk_layout.proofs.NormalImages.EachNormalImage.{each_tiling_has_a_normal_image}
use Rattle.bk_layout.specs.Normal.{Counts, HasNormalImage, is_in_bottom_corner, is_in_left_corner, is_in_right_corner, is_in_top_corner, longest}
use Rattle.bk_word.specs.Word.{Word}
use Rattle.bk_word.specs.declared.Class.{Class}
use Rattle.bk_word.specs.declared.Class.TheVariants.{Imperfect, Perfect, Simple}
use Rattle.bk_catalogue.proofs.Members.Carrying.{count_mapped}
use Rattle.bk_catalogue.proofs.Members.PartsKept.{image_compound}
use Rattle.bk_catalogue.specs.Catalogue.{IsMember, IsOfClass}
use Rattle.bk_layout.proofs.NormalCuts.NormalWords.{a_normal_tiling_has_a_normal_word}
use Rattle.bk_layout.specs.NormalCuts.{IsNormalWordOf}
use Rattle.bk_layout.specs.NormalImage.{ANormalWordHasSettledCorners, AreCornersSettled}
use Rattle.bk_layout.specs.NormalImage.{ANormalWordHasSettledCounts, ANormalWordIsSought, AreSettledCounts, EachImageIsAMembers, EachMemberIsMet}
use Rattle.bk_layout.specs.NormalImage.{EachSimpleTilingHasANormalWord, HasNormalWord}
use Rattle.bk_layout.specs.NormalImage.{ImagesAreSimple, IsMemberMet, IsMembersImage, IsNormalSought}

-- a tiling with a compound image is compound
pub images_are_simple : ImagesAreSimple
images_are_simple t turn tiling simple compound = simple (subst IsCompound (images_are_undone t turn tiling)
    (image_compound (image turn t) (images_are_tilings t turn tiling) compound (undoing turn)))

-- ---- a normal image, and its word

-- each simple tiling of at least 3 squares has an image with a normal word
pub each_simple_tiling_has_a_normal_word : EachSimpleTilingHasANormalWord
each_simple_tiling_has_a_normal_word t tiling simple many = at (each_tiling_has_a_normal_image t tiling)
  where
    at : HasNormalImage t → HasNormalWord t
    at h = with_word (a_normal_tiling_has_a_normal_word (image h.turn t) image_tiling image_simple (omega (arith, many, image_order t h.turn)) h.normal)
      where
        image_tiling : IsTiling (image h.turn t)
        image_tiling = images_are_tilings t h.turn tiling

        image_simple : IsSimple (image h.turn t)
        image_simple = images_are_simple t h.turn tiling simple

        with_word : (w : Word) × IsNormalWordOf (image h.turn t) w → HasNormalWord t
        with_word (w, is) = record {
          turn = h.turn;
          word = w;
          met = record {
            tiling = image_tiling;
            simple = image_simple;
            normal = h.normal;
            ties = h.ties;
            is_word = is;
          };
        }

-- a normal word of a tiling is one that the search looks for
pub a_normal_word_is_sought : ANormalWordIsSought
a_normal_word_is_sought t w is = record {
  complete = is.signed.complete;
  order = is.signed.order_is;
  fertile = is.no_barren;
}

-- a normal word that meets a tiling has settled counts
pub a_normal_word_has_settled_counts : ANormalWordHasSettledCounts
a_normal_word_has_settled_counts u w met = subst AreSettledCounts (sym (met.is_word).counts) (record { normal = met.normal; sides = (met.ties).sides })

-- the squares of a tiling met by a normal word have settled corners, in any order
pub a_normal_word_has_settled_corners : ANormalWordHasSettledCorners
a_normal_word_has_settled_corners u w squares met same = subst (λ (c : Counts). AreCornersSettled c u.width u.height squares) (sym
    (met.is_word).counts) (record {
      size = (met.ties).size;
      level = λ e. omega (
        arith,
        (met.ties).level e,
        placed (is_in_bottom_corner u.width u.height),
        placed (is_in_top_corner u.width),
      );
      across = λ e. omega (
        arith,
        (met.ties).across e,
        placed (is_in_right_corner u.width u.height),
        placed (is_in_left_corner u.height),
      );
    })
  where
    placed : (test : Square → Bool) → longest test u.squares ≡ longest test squares
    placed test = ap (longest test) (sym same) ∙ longest_ordered test squares

-- ---- the images of a member

-- each image has as many squares of each side
image_sides : (t : Tiling) (turn : Turn) (side : ℕ) → count_by (λ q. q.s == side) (image turn t).squares ≡ count_by (λ q. q.s == side) t.squares
image_sides t turn side = in_code_order-count (λ q. q.s == side) (map (image_square turn t.width t.height) t.squares)
    ∙ count_mapped (image_square turn t.width t.height) (λ q. q.s == side) (λ q. q.s == side) t.squares
    (λ q h. ap (λ (n : ℕ). n == side) (side-image_square turn t.width t.height q))

image_perfect : (t : Tiling) (turn : Turn) → IsPerfect t → IsPerfect (image turn t)
image_perfect t turn perfect i j d before below e = imperfect t side (omega (arith, twice, image_sides t turn side)) perfect
  where
    side : ℕ
    side = (get_or (image turn t).squares i d).s

    twice : IsRepeated (image turn t) side
    twice = count_two (λ q. q.s == side) (image turn t).squares i j d before below (eq-eqb side side refl)
        (eq-eqb (get_or (image turn t).squares j d).s side (sym e))

image_class : (class : Class) (t : Tiling) (turn : Turn) → IsTiling t → IsOfClass class t → IsOfClass class (image turn t)
image_class Perfect t turn tiling perfect = image_perfect t turn perfect
image_class Imperfect t turn tiling not =
    λ perfect. not (subst IsPerfect (images_are_undone t turn tiling) (image_perfect (image turn t) (undoing turn) perfect))
image_class Simple t turn tiling any = tt

-- a number that divides all sides of the image divides all sides of the tiling
image_primitive : (t : Tiling) (turn : Turn) → IsPrimitiveTiling t → IsPrimitiveTiling (image turn t)
image_primitive t turn primitive d all = primitive d (all_from (λ q. (m : ℕ) × (q.s ≡ d * m)) t.squares each)
  where
    each : (q : Square) → IsOneOf q t.squares → (m : ℕ) × (q.s ≡ d * m)
    each q h = let e = in_all (λ r. (m : ℕ) × (r.s ≡ d * m)) (image turn t).squares all (image_square turn t.width t.height q)
        (in_order (map (image_square turn t.width t.height) t.squares) (image_square turn t.width t.height q)
        (in_map (image_square turn t.width t.height) t.squares q h)) in
        (e.0, sym (side-image_square turn t.width t.height q) ∙ e.1)

-- a canonical tiling is that of each of its images
image_canonical : (t : Tiling) (turn : Turn) → IsTiling t → IsCanonical t → IsCanonicalOf (image turn t) t
image_canonical t turn tiling own = at (every_tiling_has_a_canonical (image turn t) (images_are_tilings t turn tiling))
  where
    at : (c : Tiling) × IsCanonicalOf (image turn t) c → IsCanonicalOf (image turn t) t
    at (c, of) = subst (IsCanonicalOf (image turn t)) (sym (alike_tilings_have_one_canonical t (image turn t) t c turn tiling
        (images_are_tilings t turn tiling) (1, 1, omega arith, omega arith, refl) own of)) of

module _ (n : ℕ) (class : Class) (t : Tiling) (member : IsMember n class t) where
  members_image : (turn : Turn) → IsMembersImage n class t (image turn t)
  members_image turn = record {
    tiling = images_are_tilings t turn member.tiling;
    order_is = image_order t turn ∙ member.order;
    simple = images_are_simple t turn member.tiling member.simple;
    of_class = image_class class t turn member.tiling member.class;
    primitive = image_primitive t turn (canonical_primitive t member.tiling member.canonical);
    canonical = image_canonical t turn member.tiling member.canonical;
  }

-- each image of a member is simple, primitive and of its class, with the member as its canonical tiling
pub each_image_is_a_members : EachImageIsAMembers
each_image_is_a_members n class t turn member = members_image n class t member turn

-- each member of at least 3 squares has an image with a normal word that the search looks for
pub each_member_is_met : EachMemberIsMet
each_member_is_met n class t many member =
    at (each_simple_tiling_has_a_normal_word t member.tiling member.simple (omega (arith, many, member.order)))
  where
    at : HasNormalWord t → IsMemberMet n class t
    at h = record {
      turn = h.turn;
      word = h.word;
      met = h.met;
      sought = subst (λ (k : ℕ). IsNormalSought k h.word) (image_order t h.turn ∙ member.order)
          (a_normal_word_is_sought (image h.turn t) h.word (h.met).is_word);
    }
