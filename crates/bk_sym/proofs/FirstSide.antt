-- The flat list of an image begins with the side of the square at its top left corner.
use Rattle.std.specs.Cmp.Lexicographic.{slice_cmp}
use Rattle.std.specs.Ordering.{is_le, nat_cmp, ordering_then}
use Rattle.std.specs.declared.cmp.Ordering.{Ordering}
use Rattle.std.specs.declared.cmp.Ordering.TheVariants.{Less}
use Rattle.std.proofs.Common.{List, [], ap, arith, inl, inr, length, map, refl, slice_index_or, subst, sym, true, ℕ, ◌<◌, ◌∙◌, ◌∷◌, ◌≡◌, ◌⊎◌}
use Rattle.std.proofs.lemmas.Bool.Decides.{nat_tests}
use Rattle.bk_tiling.proofs.Cells.{in_all}
use Rattle.bk_tiling.proofs.Members.{one_at}
use Rattle.bk_tiling.proofs.PuttingInOrder.{in_order}
use Rattle.bk_tiling.proofs.Scaling.{before_cases}
use Rattle.bk_tiling.specs.CodeOrder.{InCodeOrder, comes_before}
use Rattle.bk_tiling.specs.Tiling.{IsOneOf, IsTiling, Tiling}
use Rattle.bk_tiling.specs.declared.Square.{Square}
use Rattle.bk_code.proofs.FlatList.{flat_is_sides}
use Rattle.bk_code.specs.Code.{code_of, flat}
use Rattle.bk_sym.proofs.Images.{images_are_tilings, in_map}
use Rattle.bk_sym.proofs.KeptImages.{side-image_square}
use Rattle.bk_sym.specs.Canonical.{BeginsWith, IsAtCorner, IsAtMost}
use Rattle.bk_sym.specs.Image.{image, image_square}
use Rattle.bk_sym.specs.declared.Turn.{Turn}

-- the list of squares begins with this square
pub record HasHead (squares : List Square) (m : Square) : Type 0 where
  pub head : Square
  pub tail : List Square
  pub is : squares ≡ head ∷ tail
  pub same : head ≡ m

none_before : (s q : Square) → q.x ≡ 0 → q.y ≡ 0 → comes_before s q ≡ true → ⊥
none_before s q x y e = not s.y s.x (before_cases s q e)
  where
    not : (a d : ℕ) → (a < q.y) ⊎ ((a ≡ q.y) × (d < q.x)) → ⊥
    not a d (inl h) = omega (arith, y)
    not a d (inr h) = omega (arith, x, h.1)

-- the top left square comes first
pub top_left_first : (squares : List Square) (q : Square) → InCodeOrder squares → IsOneOf q squares → q.x ≡ 0 → q.y ≡ 0 → HasHead squares q
top_left_first [] q o h x y = absurd h
top_left_first (s ∷ squares) q o (inl same) x y = record { head = s; tail = squares; is = refl; same = sym same }
top_left_first (s ∷ squares) q o (inr h) x y = absurd (none_before s q x y (in_all (λ z. comes_before s z ≡ true) squares o.0 q h))

sides_begin : (t : Tiling) (q : Square) (h : HasHead t.squares q) → flat (code_of t) ≡ q.s ∷ map (λ s. s.s) h.tail
sides_begin t q h = flat_is_sides t ∙ ap (map (λ s. s.s)) h.is ∙ ap (λ (s : Square). s.s ∷ map (λ s. s.s) h.tail) h.same

-- the tiling whose top left square is the shorter has the smaller flat list
pub shorter_is_less : (t u : Tiling) (q r : Square) → HasHead t.squares q → HasHead u.squares r → q.s < r.s
    → slice_cmp nat_cmp (flat (code_of t)) (flat (code_of u)) ≡ Less
shorter_is_less t u q r a b h = (λ i. slice_cmp nat_cmp (sides_begin t q a i) (sides_begin u r b i))
    ∙ ap (λ (o : Ordering). ordering_then o (slice_cmp nat_cmp (map (λ s. s.s) a.tail) (map (λ s. s.s) b.tail))) (smaller q.s r.s h)
  where
    smaller : (m n : ℕ) → m < n → nat_cmp m n ≡ Less
    smaller m n k = grind (arith, nat_tests)

-- the square that comes to the top left corner in an image is the first one there
pub turned_first : (t : Tiling) (turn : Turn) (q : Square) → IsTiling t → IsOneOf q t.squares → (image_square turn t.width t.height q).x ≡ 0
    → (image_square turn t.width t.height q).y ≡ 0 → HasHead (image turn t).squares (image_square turn t.width t.height q)
turned_first t turn q tiling is x y = top_left_first (image turn t).squares (image_square turn t.width t.height q) (images_are_tilings t turn tiling).ordered
    (in_order (map (image_square turn t.width t.height) t.squares) (image_square turn t.width t.height q)
    (in_map (image_square turn t.width t.height) t.squares q is)) x y

head_of : (squares : List Square) (d : Square) → 0 < length squares → HasHead squares (slice_index_or squares 0 d)
head_of [] d some = absurd (omega (arith, some))
head_of (s ∷ squares) d some = record { head = s; tail = squares; is = refl; same = refl }

-- the square of this number is shorter than the first one of the other list, and comes to the top left corner in an image
pub record IsShorterFirst (turn : Turn) (squares others : List Square) (width height k : ℕ) (c d : Square) : Type 0 where
  pub within : k < length squares
  pub shorter : (slice_index_or squares k d).s < (slice_index_or others 0 c).s
  pub corner : IsAtCorner (image_square turn width height (slice_index_or squares k d))

at_most : (t u : Tiling) (turn : Turn) (k : ℕ) (c d : Square) → IsTiling t → IsTiling u → IsShorterFirst turn t.squares u.squares t.width t.height k c d
    → IsAtMost (image turn t) u
at_most t u turn k c d tiling other h = ap is_le (shorter_is_less (image turn t) u (image_square turn t.width t.height q) (slice_index_or u.squares 0 c)
    (turned_first t turn q tiling (one_at t.squares k d h.within) h.corner.0 h.corner.1) (head_of u.squares c (other.tiles).some)
    (omega (arith, h.shorter, side-image_square turn t.width t.height q)))
  where
    q : Square
    q = slice_index_or t.squares k d

-- an image that begins with a shorter square than another tiling has at most its flat list
pub begins_shorter_at_most : (t u : Tiling) (turn : Turn) (squares others : List Square) (width height k : ℕ) (c d : Square) → IsTiling t → IsTiling u
    → squares ≡ t.squares → others ≡ u.squares → width ≡ t.width → height ≡ t.height → IsShorterFirst turn squares others width height k c d
    → IsAtMost (image turn t) u
begins_shorter_at_most t u turn squares others width height k c d tiling other e o w h shorter = at_most t u turn k c d tiling other
    (subst (λ (n : ℕ). IsShorterFirst turn t.squares u.squares t.width n k c d) h
    (subst (λ (n : ℕ). IsShorterFirst turn t.squares u.squares n height k c d) w
    (subst (λ (l : List Square). IsShorterFirst turn t.squares l width height k c d) o
    (subst (λ (l : List Square). IsShorterFirst turn l others width height k c d) e shorter))))

-- a list begins with its head
head_is : (squares : List Square) (m : Square) → HasHead squares m → (d : Square) → (slice_index_or squares 0 d).s ≡ m.s
head_is squares m h d = ap (λ (l : List Square). (slice_index_or l 0 d).s) h.is ∙ ap (λ (s : Square). s.s) h.same

-- an image begins with the square that comes to the top left corner
begins_at : (t : Tiling) (turn : Turn) (k : ℕ) (c : Square) → IsTiling t → k < length t.squares
    → IsAtCorner (image_square turn t.width t.height (slice_index_or t.squares k c)) → BeginsWith (image turn t) (slice_index_or t.squares k c).s
begins_at t turn k c tiling few corner d =
    head_is (image turn t).squares (image_square turn t.width t.height q) (turned_first t turn q tiling (one_at t.squares k c few) corner.0 corner.1) d
    ∙ side-image_square turn t.width t.height q
  where
    q : Square
    q = slice_index_or t.squares k c

-- a square of this number comes to the top left corner in an image
pub record ComesFirst (turn : Turn) (squares : List Square) (width height k : ℕ) (c : Square) : Type 0 where
  pub within : k < length squares
  pub corner : IsAtCorner (image_square turn width height (slice_index_or squares k c))

-- a square of this number comes to the top left corner in an image, by the squares and the size as they were read
pub begins_with : (t : Tiling) (turn : Turn) (squares : List Square) (width height k : ℕ) (c : Square) → IsTiling t → squares ≡ t.squares
    → width ≡ t.width → height ≡ t.height → ComesFirst turn squares width height k c → BeginsWith (image turn t) (slice_index_or squares k c).s
begins_with t turn squares width height k c tiling e w h first =
    subst (λ (l : List Square). BeginsWith (image turn t) (slice_index_or l k c).s) (sym e)
    (begins_at t turn k c tiling here.within here.corner)
  where
    here : ComesFirst turn t.squares t.width t.height k c
    here = subst (λ (n : ℕ). ComesFirst turn t.squares t.width n k c) h
        (subst (λ (n : ℕ). ComesFirst turn t.squares n height k c) w (subst (λ (l : List Square). ComesFirst turn l width height k c) e first))
