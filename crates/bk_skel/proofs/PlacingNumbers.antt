-- Numbers of squares beside a valley: what they name when more is laid, and how they are cut there.
use Rattle.std.specs.List.{AllByRecursion}
use Rattle.std.proofs.Common.{List, Some, [], ap, arith, inl, inr, length, map, refl, slice_get, suc, sym}
use Rattle.std.proofs.Common.{zero, ℕ, ◌++◌, ◌+◌, ◌-◌, ◌<◌, ◌∙◌, ◌∷◌, ◌≡◌, ◌≤◌, ◌⊎◌}
use Rattle.std.proofs.lemmas.List.{append_assoc, length-append}
use Rattle.bk_laws.proofs.ListPlaces.{get_append, get_last, get_some}
use Rattle.bk_tiling.specs.declared.Square.{Square}
use Rattle.bk_word.specs.Play.{numbers_from}
use Rattle.bk_word.specs.declared.Sign.{Sign}
use Rattle.bk_word_net.proofs.Outlines.NumberedSquares.{numbered_square}
use Rattle.bk_word_net.proofs.Outlines.NumberedValley.{SeesLeft, SeesRight}
use Rattle.bk_word_net.specs.LaidOutline.{IsNumber, bottom_at, square_at}

-- numbers of laid squares stay so, with the same squares
known_more : (laid more : List Square) (n : ℕ) → IsNumber laid n → IsNumber (laid ++ more) n
known_more laid more n h = (h.0, omega (arith, h.1, length-append laid more))

square_more : (laid more : List Square) (n : ℕ) → IsNumber laid n → square_at (laid ++ more) n ≡ square_at laid n
square_more laid more n h = from (get_some laid (n - 1) (omega (arith, h.0, h.1)))
  where
    from : (q : Square) × (slice_get laid (n - 1) ≡ Some q) → square_at (laid ++ more) n ≡ square_at laid n
    from (q, e) = numbered_square (laid ++ more) n q (n - 1, omega (arith, h.0), get_append laid more (n - 1) q e)
        ∙ sym (numbered_square laid n q (n - 1, omega (arith, h.0), e))

-- known numbers name squares of the same bottoms when more is laid
pub bottoms_more : (laid more : List Square) (numbers : List ℕ) → AllByRecursion (IsNumber laid) numbers
    → map (bottom_at (laid ++ more)) numbers ≡ map (bottom_at laid) numbers
bottoms_more laid more [] known = refl
bottoms_more laid more (n ∷ numbers) known = λ i. ap (λ (q : Square). q.y + q.s) (square_more laid more n known.0) i ∷ bottoms_more laid more numbers known.1 i

-- the new numbers name the new squares
pub bottoms_new : (front squares : List Square) (n : ℕ) → n ≡ length front + 1
    → map (bottom_at (front ++ squares)) (numbers_from n (length squares)) ≡ map (λ q. q.y + q.s) squares
bottoms_new front [] n e = refl
bottoms_new front (q ∷ squares) n e = λ i. first i ∷ (rest ∙ bottoms_new (front ++ q ∷ []) squares (n + 1) (omega (arith, e, length-append front (q ∷ [])))) i
  where
    first : bottom_at (front ++ q ∷ squares) n ≡ q.y + q.s
    first = ap (λ (r : Square). r.y + r.s) (numbered_square (front ++ q ∷ squares) n q (length front, omega (arith, e), get_last front q squares))

    rest : map (bottom_at (front ++ q ∷ squares)) (numbers_from (n + 1) (length squares))
        ≡ map (bottom_at ((front ++ q ∷ []) ++ squares)) (numbers_from (n + 1) (length squares))
    rest = ap (λ (l : List Square). map (bottom_at l) (numbers_from (n + 1) (length squares))) (sym (append_assoc front (q ∷ []) squares))

-- known numbers stay known
pub all_known_more : (laid more : List Square) (numbers : List ℕ) → AllByRecursion (IsNumber laid) numbers → AllByRecursion (IsNumber (laid ++ more)) numbers
all_known_more laid more [] a = tt
all_known_more laid more (n ∷ numbers) a = (known_more laid more n a.0, all_known_more laid more numbers a.1)

-- numbers up to that of the last square are known
pub known_new : (squares : List Square) (n k : ℕ) → 0 < n → n + k ≤ length squares + 1 → AllByRecursion (IsNumber squares) (numbers_from n k)
known_new squares n zero h e = tt
known_new squares n (suc k) h e = ((h, omega arith), known_new squares (n + 1) k (omega arith) (omega arith))

-- how the numbers at one side of the valley are cut: those beside it and the others
pub record CutLeft (laid : List Square) (front depths : List ℕ) : Type 0 where
  pub others : List ℕ
  pub beside : List ℕ
  pub is : front ≡ others ++ beside
  pub place : length others ≡ length front - 1
  pub depths_are : depths ≡ map (bottom_at laid) beside

-- at the left stands nothing or one square beside the valley, with the depth that is seen there
pub cut_left : (laid : List Square) (front depths : List ℕ) → SeesLeft laid front depths → CutLeft laid front depths
cut_left laid front depths s = cases s.shape
  where
    cases : ((front ≡ []) × (depths ≡ [])) ⊎ ((ns : List ℕ) × ((n : ℕ) × ((front ≡ ns ++ n ∷ []) × (depths ≡ bottom_at laid n ∷ []))))
        → CutLeft laid front depths
    cases (inl (none, bare)) = record { others = []; beside = []; is = none; place = omega (arith, ap length none); depths_are = bare }
    cases (inr (ns, (n, (is, at)))) = record {
      others = ns;
      beside = n ∷ [];
      is = is;
      place =
          omega (arith, ap length is, length-append ns (n ∷ []));
      depths_are = at;
    }

-- how the numbers at its right are cut
pub record CutRight (laid : List Square) (back depths : List ℕ) : Type 0 where
  pub beside : List ℕ
  pub others : List ℕ
  pub is : back ≡ beside ++ others
  pub depths_are : depths ≡ map (bottom_at laid) beside

-- at the right stands nothing or one square beside it
pub cut_right : (laid : List Square) (back depths : List ℕ) → SeesRight laid back depths → CutRight laid back depths
cut_right laid back depths s = cases s.shape
  where
    cases : ((back ≡ []) × (depths ≡ [])) ⊎ ((n : ℕ) × ((ns : List ℕ) × ((back ≡ n ∷ ns) × (depths ≡ bottom_at laid n ∷ [])))) → CutRight laid back depths
    cases (inl (none, bare)) = record { beside = []; others = []; is = none; depths_are = bare }
    cases (inr (n, (ns, (is, at)))) = record { beside = n ∷ []; others = ns; is = is; depths_are = at }

-- what the window shows
pub record Window (laid : List Square) (window : List ℕ) (signs : List Sign) (depths : List ℕ) : Type 0 where
  pub known : AllByRecursion (IsNumber laid) window
  pub count : length signs + 1 ≡ length window
  pub bottoms : map (bottom_at laid) window ≡ depths
