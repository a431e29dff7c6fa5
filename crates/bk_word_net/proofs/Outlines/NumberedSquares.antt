-- Squares by their numbers, and the spans of numbers in which they stand: the last one of a span, and the last list beside a run.
use Rattle.std.specs.List.{AllZip}
use Rattle.std.proofs.Common.{List, Some, [], ap, arith, inl, inr, refl, slice_get, slice_index_or, suc, zero, ℕ, ◌++◌, ◌+◌, ◌-◌, ◌<◌, ◌∙◌, ◌∷◌, ◌≡◌}
use Rattle.bk_tiling.specs.Column.{IsLevel, depth}
use Rattle.bk_tiling.specs.declared.Segment.{Segment}
use Rattle.bk_tiling.specs.declared.Square.{Square}
use Rattle.bk_lay.specs.Depiction.{IsNumbered, IsSegment, Span}
use Rattle.bk_word_net.specs.LaidOutline.{bottom_at, square_at}

-- the square of a number
pub numbered_square : (laid : List Square) (n : ℕ) (q : Square) → IsNumbered laid n q → square_at laid n ≡ q
numbered_square laid n q (k, is, at) = (λ i. slice_index_or laid (place i) (record { x = 0; y = 0; s = 0 })) ∙ value laid k q at
  where
    place : n - 1 ≡ k
    place = omega (arith, is)

    value : (laid : List Square) (k : ℕ) (q : Square) → slice_get laid k ≡ Some q → slice_index_or laid k (record { x = 0; y = 0; s = 0 }) ≡ q
    value [] k q e = absurd (cc)
    value (r ∷ laid) zero q e = cc
    value (r ∷ laid) (suc k) q e = value laid k q e

-- the bottom of a numbered square
pub numbered_bottom : (laid : List Square) (n : ℕ) (q : Square) → IsNumbered laid n q → bottom_at laid n ≡ q.y + q.s
numbered_bottom laid n q h = ap (λ (r : Square). r.y + r.s) (numbered_square laid n q h)

-- the last square of a span that is not empty
pub record SpanLast (laid : List Square) (level : ℕ) (numbers : List ℕ) : Type 0 where
  pub front : List ℕ
  pub last : ℕ
  pub is : numbers ≡ front ++ last ∷ []
  pub bottom : bottom_at laid last ≡ level

span_last : (laid : List Square) (level x n : ℕ) (numbers : List ℕ) (end : ℕ) → Span laid level x (n ∷ numbers) end → SpanLast laid level (n ∷ numbers)
span_last laid level x n [] end s = record { front = []; last = n; is = refl; bottom = numbered_bottom laid n s.0 s.1 ∙ s.3 }
span_last laid level x n (p ∷ numbers) end s = let r = span_last laid level (x + (s.0).s) p numbers end s.4 in
    record { front = n ∷ r.front; last = r.last; is = ap (λ (ns : List ℕ). n ∷ ns) r.is; bottom = r.bottom }

-- a span of some width has a last square
pub span_some : (laid : List Square) (level x : ℕ) (numbers : List ℕ) (end : ℕ) → x < end → Span laid level x numbers end → SpanLast laid level numbers
span_some laid level x [] end h s = absurd (omega (arith, s))
span_some laid level x (n ∷ numbers) end h s = span_last laid level x n numbers end s

-- the last of the lists that stand beside the last of the runs
pub record ZipLast (R : Segment → List ℕ → Type 0) (x : Segment) (us : List (List ℕ)) : Type 0 where
  pub front : List (List ℕ)
  pub last : List ℕ
  pub is : us ≡ front ++ last ∷ []
  pub here : R x last

-- lists beside runs, of which the last is known, have a last one beside it
pub zip_last : (R : Segment → List ℕ → Type 0) (xs : List Segment) (x : Segment) (us : List (List ℕ)) → AllZip R (xs ++ x ∷ []) us → ZipLast R x us
zip_last R [] x [] z = absurd z
zip_last R [] x (u ∷ []) z = record { front = []; last = u; is = refl; here = z.0 }
zip_last R [] x (u ∷ w ∷ us) z = absurd z.1
zip_last R (y ∷ xs) x [] z = absurd z
zip_last R (y ∷ xs) x (u ∷ us) z = let r = zip_last R xs x us z.1 in
    record { front = u ∷ r.front; last = r.last; is = ap (λ (l : List (List ℕ)). u ∷ l) r.is; here = r.here }

-- a segment that lies below the top is a span
pub segment_span : (width : ℕ) (laid : List Square) → ((c : ℕ) → c < width → 0 < depth laid c) → (r : Segment) (numbers : List ℕ)
    → IsLevel width laid r → IsSegment laid r numbers → Span laid r.level r.x numbers (r.x + r.width)
segment_span width laid deep r numbers flat (inl span) = span
segment_span width laid deep r numbers flat (inr top) = let some = flat.some in let within = flat.within in
    absurd (omega (arith, deep r.x (omega arith), flat.level r.x (omega arith) (omega arith), top.0))
