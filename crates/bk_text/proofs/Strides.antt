-- Several bytes at once: what the reader makes of them is what it makes of each after the other.
use Rattle.std.specs.Prelude.{Bool, List, None, Option, Some, [], false, if◌then◌else◌, length, nat_lt, option_and_then}
use Rattle.std.specs.Prelude.{refl, take, drop, true, ℕ, ◌++◌, ◌+◌, ◌-◌, ◌<◌, ◌∷◌, ◌≡◌, ◌≤◌}
use Rattle.std.specs.List.{AllByRecursion}
use Rattle.std.proofs.Common.{ap, append_assoc, arith, length-append, ltb-false, ltb-true, subst, sym, ◌∙◌}
use Rattle.std.proofs.Math.Seq.{take-add}
use Rattle.std.proofs.lemmas.List.{append-nil, length-drop, take_all}
use Rattle.bk_tiling.specs.KeptTiling.{IsSide}
use Rattle.bk_text.specs.GatheredSides.{Gathered, IsGathered, gathered_after, kept_side_count, with_closed, with_ended, with_gathered_side, with_group}
use Rattle.bk_text.specs.Onward.{SpellOn, at_number, onward}
use Rattle.bk_text.specs.LineReader.{closes_group, ended_side, line_kind_of, next_line_place}
use Rattle.bk_text.specs.declared.reader.ByteKind.{ByteKind}
use Rattle.bk_text.specs.declared.reader.Place.{Place}
use Rattle.bk_text.proofs.Progress.{Progress, flat-of_closed_group, progress_with_one_byte_more, side_fits}

-- the bytes from a place on, as they are passed
abbrev pub from : ℕ → List ℕ → List ℕ
from i bs = take (length bs - i) (drop i bs)

-- the bytes from a place on
pub from_is_drop : (i : ℕ) (bs : List ℕ) → from i bs ≡ drop i bs
from_is_drop i bs = take_all (length bs - i) (drop i bs) (omega (arith, length-drop i bs))

-- first these bytes, then those
pub onward-append : (xs ys : List ℕ) (p q : Place) (g h : Gathered) → onward xs p g ≡ Some (q, h) → onward (xs ++ ys) p g ≡ onward ys q h
onward-append [] ys p q g h e =
    let same : (p, g) ≡ (q, h) = cc in
    ap (λ (z : Place × Gathered). onward ys z.0 z.1) same
onward-append (x ∷ xs) ys p q g h e =
    by_next (next_line_place p (line_kind_of x)) e (λ r. onward-append xs ys r q (gathered_after p (line_kind_of x) g) h)
  where
    by_next : (o : Option Place)
        → option_and_then (λ r. onward xs r (gathered_after p (line_kind_of x) g)) o ≡ Some (q, h)
        → ((r : Place) → onward xs r (gathered_after p (line_kind_of x) g) ≡ Some (q, h)
        → onward (xs ++ ys) r (gathered_after p (line_kind_of x) g) ≡ onward ys q h)
        → option_and_then (λ r. onward (xs ++ ys) r (gathered_after p (line_kind_of x) g)) o ≡ onward ys q h
    by_next None e' rest = absurd (cc)
    by_next (Some r) e' rest = rest r e'

-- a number is spelled on by these bytes and then by those
pub spelled_further : (greatest : ℕ) (xs ys : List ℕ) (n m k : ℕ) → SpellOn greatest xs n m → SpellOn greatest ys m k → SpellOn greatest (xs ++ ys) n k
spelled_further greatest xs ys n m k one two = record {
  small = two.small;
  leads = λ place field begins same g.
      onward-append xs ys (at_number place field n) (at_number place field m) g g (one.leads place field begins same g)
      ∙ two.leads place field begins same g;
}

-- what is gathered stays so with a further side
pub gathered_side : (n : ℕ) (g : Gathered) → IsSide n → IsGathered g → IsGathered (with_gathered_side n g)
gathered_side n g side is = cases (nat_lt (kept_side_count g) 200) (λ e. ltb-true (kept_side_count g) 200 e) (λ e. ltb-false (kept_side_count g) 200 e)
  where
    all : (xs : List ℕ) → AllByRecursion IsSide xs → AllByRecursion IsSide (xs ++ n ∷ [])
    all [] h = (side, tt)
    all (x ∷ xs) h = (h.0, all xs h.1)

    cases : (room : Bool) → (room ≡ true → kept_side_count g < 200) → (room ≡ false → 200 ≤ kept_side_count g)
        → IsGathered (if room then record { groups = g.groups; sides = g.sides ++ n ∷ []; many = g.many } else record {
          groups = g.groups;
          sides = g.sides;
          many = true;
        })
    cases true fits full = record {
      each = all g.sides is.each;
      few = omega (arith, fits refl, length-append g.sides (n ∷ []));
      full = λ e. absurd (omega (arith, is.full e, fits refl));
    }
    cases false fits full = record { each = is.each; few = is.few; full = λ e. omega (arith, is.few, full refl) }

gathered_group : (g : Gathered) → IsGathered g → IsGathered (with_group g)
gathered_group g is = cases g.many
  where
    cases : (many : Bool) → IsGathered (if many then g else record { groups = g.groups ++ g.sides ∷ []; sides = []; many = false })
    cases true = is
    cases false = record {
      each = tt;
      few = omega (arith, is.few, flat-of_closed_group (record { groups = g.groups; sides = g.sides }));
      full = λ e. absurd (cc);
    }

gathered_ended : (o : Option ℕ) (g : Gathered) → ((n : ℕ) → o ≡ Some n → IsSide n) → IsGathered g → IsGathered (with_ended o g)
gathered_ended None g side is = is
gathered_ended (Some n) g side is = gathered_side n g (side n refl) is

gathered_closed : (closes : Bool) (g : Gathered) → IsGathered g → IsGathered (with_closed closes g)
gathered_closed false g is = is
gathered_closed true g is = gathered_group g is

still_gathered : (front : List ℕ) (p : Place) (g : Gathered) (k : ByteKind) → Progress front p g → IsGathered g → IsGathered (gathered_after p k g)
still_gathered front p g k progress is =
    gathered_closed (closes_group p k) (with_ended (ended_side p k) g) (gathered_ended (ended_side p k) g (side_fits front p g k progress) is)

-- several bytes further
pub several_more : (bs front : List ℕ) (p q : Place) (g h : Gathered) → Progress front p g → IsGathered g → onward bs p g ≡ Some (q, h)
    → Progress (front ++ bs) q h
several_more [] front p q g h progress is e =
    let same : (p, g) ≡ (q, h) = cc in
    subst (λ (z : Place × Gathered). Progress (front ++ []) z.0 z.1) same
    (subst (λ (z : List ℕ). Progress z p g) (sym (append-nil front)) progress)
several_more (b ∷ bs) front p q g h progress is e =
    by_next (next_line_place p (line_kind_of b)) refl e
    (λ r next. several_more bs (front ++ b ∷ []) r q (gathered_after p (line_kind_of b) g) h (progress_with_one_byte_more front p r g b progress is next)
    (still_gathered front p g (line_kind_of b) progress is))
  where
    by_next : (o : Option Place) → next_line_place p (line_kind_of b) ≡ o
        → option_and_then (λ r. onward bs r (gathered_after p (line_kind_of b) g)) o ≡ Some (q, h)
        → ((r : Place) → next_line_place p (line_kind_of b) ≡ Some r → onward bs r (gathered_after p (line_kind_of b) g) ≡ Some (q, h)
        → Progress ((front ++ b ∷ []) ++ bs) q h)
        → Progress (front ++ b ∷ bs) q h
    by_next None next e' rest = absurd (cc)
    by_next (Some r) next e' rest = subst (λ (z : List ℕ). Progress z q h) (append_assoc front (b ∷ []) bs) (rest r next e')

-- several bytes further, behind a place of the bytes
pub several_further : (bs : List ℕ) (i n : ℕ) (p q : Place) (g h : Gathered) → Progress (take i bs) p g → IsGathered g
    → onward (take n (from i bs)) p g ≡ Some (q, h) → Progress (take (i + n) bs) q h
several_further bs i n p q g h progress is e =
    subst (λ (z : List ℕ). Progress z q h) (sym (take-add i n bs))
    (several_more (take n (drop i bs)) (take i bs) p q g h progress is (sym (ap (λ z. onward (take n z) p g) (from_is_drop i bs)) ∙ e))

-- where no byte is taken, all stays
pub none_further : (bs : List ℕ) (i n : ℕ) (p q : Place) (g h : Gathered) → n ≡ 0 → Progress (take i bs) p g → IsGathered g
    → onward (take n (from i bs)) p g ≡ Some (q, h) → Progress (take i bs) q h
none_further bs i n p q g h none progress is e =
    let same : i + n ≡ i = omega (arith, none) in
    subst (λ (z : ℕ). Progress (take z bs) q h) same (several_further bs i n p q g h progress is e)
