-- The squares that stand at the bottom of what is laid, from left to right, each as deep as its columns; and the
-- numbers of the open segments in a row.
use Rattle.std.specs.List.{concat}
use Rattle.std.proofs.Common.{List, [], ap, arith, cond, inl, inr, length, nat_eq, refl, slice_get, subst, sym}
use Rattle.std.proofs.Common.{ℕ, ◌++◌, ◌+◌, ◌<◌, ◌∙◌, ◌∷◌, ◌≡◌, ◌≤◌, ◌⊎◌}
use Rattle.std.proofs.lemmas.Bool.{cases_lt}
use Rattle.std.proofs.lemmas.Bool.Decides.{nat_tests}
use Rattle.std.proofs.lemmas.List.{append_assoc, length-append}
use Rattle.bk_laws.proofs.Occurrences.{times}
use Rattle.bk_laws.proofs.ListPlaces.{get_append, get_last}
use Rattle.bk_laws.proofs.Totals.{total}
use Rattle.bk_tiling.specs.Column.{depth}
use Rattle.bk_tiling.specs.Tiling.{IsOneOf}
use Rattle.bk_tiling.specs.declared.Square.{Square}
use Rattle.bk_tiling.specs.SquareGroups.{laid_group}
use Rattle.bk_word.specs.Play.{before_first_list, joined, numbers_from}
use Rattle.bk_word.specs.declared.Sign.{Sign}
use Rattle.bk_word.specs.declared.Sign.TheVariants.{Above, Even, Under}
use Rattle.bk_lay.specs.Depiction.{IsNumbered, Span}

concat-before : (numbers : List ℕ) (lists : List (List ℕ)) → concat (before_first_list numbers lists) ≡ numbers ++ concat lists
concat-before numbers [] = refl
concat-before numbers (next ∷ lists) = append_assoc numbers next (concat lists)

-- joining segments keeps the row of all numbers
pub concat-joined : (signs : List Sign) (lists : List (List ℕ)) → concat (joined signs lists) ≡ concat lists
concat-joined signs [] = refl
concat-joined [] (numbers ∷ lists) = refl
concat-joined (Even ∷ signs) (numbers ∷ lists) = concat-before numbers (joined signs lists) ∙ ap (λ (ns : List ℕ). numbers ++ ns) (concat-joined signs lists)
concat-joined (Above ∷ signs) (numbers ∷ lists) = ap (λ (ns : List ℕ). numbers ++ ns) (concat-joined signs lists)
concat-joined (Under ∷ signs) (numbers ∷ lists) = ap (λ (ns : List ℕ). numbers ++ ns) (concat-joined signs lists)

-- squares of these numbers stand side by side from one column up to another
abbrev pub BottomChain : List Square → ℕ → List ℕ → ℕ → Type 0
BottomChain laid x [] end = x ≡ end
BottomChain laid x (n ∷ numbers) end = (q : Square) × IsNumbered laid n q × (q.x ≡ x)
    × ((c : ℕ) → q.x ≤ c → c < q.x + q.s → depth laid c ≡ q.y + q.s) × BottomChain laid (x + q.s) numbers end

-- a chain doesn't end before it begins
pub chain_least : (laid : List Square) (x : ℕ) (numbers : List ℕ) (end : ℕ) → BottomChain laid x numbers end → x ≤ end
chain_least laid x [] end b = omega (arith, b)
chain_least laid x (n ∷ numbers) end b = omega (arith, chain_least laid (x + (b.0).s) numbers end b.4)

-- a chain, cut into two
pub chain_split : (laid : List Square) (x : ℕ) (front back : List ℕ) (end : ℕ) → BottomChain laid x (front ++ back) end → (mid : ℕ)
    × BottomChain laid x front mid × BottomChain laid mid back end
chain_split laid x [] back end b = (x, refl, b)
chain_split laid x (n ∷ front) back end b = let rest = chain_split laid (x + (b.0).s) front back end b.4 in (rest.0, (b.0, b.1, b.2, b.3, rest.1), rest.2)

-- two chains, one beside the other
pub chain_join : (laid : List Square) (x : ℕ) (front : List ℕ) (mid : ℕ) (back : List ℕ) (end : ℕ) → BottomChain laid x front mid
    → BottomChain laid mid back end → BottomChain laid x (front ++ back) end
chain_join laid x [] mid back end a b = subst (λ (y : ℕ). BottomChain laid y back end) (sym a) b
chain_join laid x (n ∷ front) mid back end a b = (a.0, a.1, a.2, a.3, chain_join laid (x + (a.0).s) front mid back end a.4 b)

-- more is laid elsewhere
pub chain_more : (laid more : List Square) (x : ℕ) (numbers : List ℕ) (end : ℕ) → BottomChain laid x numbers end
    → ((c : ℕ) → x ≤ c → c < end → depth (laid ++ more) c ≡ depth laid c) → BottomChain (laid ++ more) x numbers end
chain_more laid more x [] end b same = b
chain_more laid more x (n ∷ numbers) end b same = (
  b.0,
  ((b.1).0, (b.1).1, get_append laid more (b.1).0 b.0 (b.1).2),
  b.2,
  λ c lo hi. same c (omega (arith, b.2)) (omega (arith, b.2, chain_least laid (x + (b.0).s) numbers end b.4)) ∙ b.3 c lo hi,
  chain_more laid more (x + (b.0).s) numbers end b.4 (λ c lo hi. same c (omega arith) hi),
)

-- a new group
pub chain_group : (all front : List Square) (x level : ℕ) (sides : List ℕ) → all ≡ front ++ laid_group x level sides
    → ((q : Square) → IsOneOf q (laid_group x level sides) → (c : ℕ) → q.x ≤ c → c < q.x + q.s → depth all c ≡ q.y + q.s)
    → (n : ℕ) → n ≡ length front + 1 → BottomChain all x (numbers_from n (length sides)) (x + total sides)
chain_group all front x level [] is deep n e = omega arith
chain_group all front x level (s ∷ sides) is deep n e = (
  record { x = x; y = level; s = s },
  (
    length front,
    omega (arith, e),
    ap (λ (l : List Square). slice_get l (length front)) is
        ∙ get_last front (record { x = x; y = level; s = s }) (laid_group (x + s) level sides),
  ),
  refl,
  deep (record { x = x; y = level; s = s }) (inl refl),
  subst (λ (y : ℕ). BottomChain all (x + s) (numbers_from (n + 1) (length sides)) y) (omega arith)
      (chain_group all (front ++ record { x = x; y = level; s = s } ∷ []) (x + s) level sides
      (is ∙ sym (append_assoc front (record { x = x; y = level; s = s } ∷ []) (laid_group (x + s) level sides))) (λ q h. deep q (inr h)) (n + 1)
      (omega (arith, e, length-append front (record { x = x; y = level; s = s } ∷ [])))),
)

-- where all their bottoms lie at one level, they are a segment there, and the columns are level
pub chain_level : (laid : List Square) (level x : ℕ) (numbers : List ℕ) (end : ℕ) → BottomChain laid x numbers end
    → ((n : ℕ) (q : Square) → 0 < times n numbers → IsNumbered laid n q → q.y + q.s ≡ level)
    → Span laid level x numbers end × ((c : ℕ) → x ≤ c → c < end → depth laid c ≡ level)
chain_level laid level x [] end b each = (b, λ c lo hi. absurd (omega (arith, b)))
chain_level laid level x (n ∷ numbers) end b each = both (chain_level laid level (x + (b.0).s) numbers end b.4 (λ m q h at. each m q (omega (arith, h)) at))
  where
    one : ◌≡◌ {A = ℕ} (cond (nat_eq n n) 1 0) 1
    one = grind (arith, nat_tests)

    here : (b.0).y + (b.0).s ≡ level
    here = each n b.0 (omega (arith, one)) b.1

    both : Span laid level (x + (b.0).s) numbers end × ((c : ℕ) → x + (b.0).s ≤ c → c < end → depth laid c ≡ level)
        → Span laid level x (n ∷ numbers) end × ((c : ℕ) → x ≤ c → c < end → depth laid c ≡ level)
    both rest = ((b.0, b.1, b.2, here, rest.0), λ c lo hi. cases c lo hi (cases_lt c (x + (b.0).s)))
      where
        cases : (c : ℕ) → x ≤ c → c < end → (c < x + (b.0).s) ⊎ (x + (b.0).s ≤ c) → depth laid c ≡ level
        cases c lo hi (inl h) = b.3 c (omega (arith, b.2)) (omega (arith, b.2)) ∙ here
        cases c lo hi (inr h) = rest.1 c h hi
