-- Loops that write lines of each element of a list.
use Rattle.std.specs.List.{concat, flat_map}
use Rattle.std.specs.Prelude.{Err, Ok, Result, Some, drop, slice_get}
use Rattle.std.specs.Option.{option_map_or}
use Rattle.std.specs.Result.{IsErrAnd}
use Rattle.std.specs.Io.KnownBytes.{Appends}
use Rattle.std.proofs.Common.{List, [], Option, ap, arith, get_or, length, refl, subst, sym, ℕ, ◌++◌, ◌+◌, ◌<◌, ◌∙◌, ◌∷◌, ◌≡◌}
use Rattle.std.proofs.lemmas.List.{length-append}
use Rattle.std.proofs.lemmas.Option.{slice_get-get_or}
use Rattle.bk_laws.proofs.Bytes.{appends-one_piece, appends-then}
use Rattle.bk_laws.proofs.Outcomes.{some-unique}
use Rattle.bk_ports.specs.Causes.{AppendsPrefix}
use Rattle.bk_ports.proofs.KnownSteps.{prefix_after}
use Rattle.bk_tiling.specs.Tiling.{Tiling}
use Rattle.bk_alike.specs.declared.item.KeptItem.{KeptItem}
use Rattle.bk_report.specs.ListLines.{member_line}
use Rattle.bk_alike.specs.GroupsEnd.{member_at}
use Rattle.bk_alike.specs.WrittenLines.{WritesLines}
use Rattle.bk_alike.proofs.PairLines.{IsItemAt}
use Rattle.bk_alike.proofs.WrittenLines.{IsWrittenTo, item_at, lines_written_with_the_next_ones, one_broken, prefix_more, written_broken}

-- lines of which a beginning was written where a call failed
pub lines_broken_by_a_failed_call : {T E : Type 0} (Q : E → Type 0) (lines : List (List ℕ)) (a b : Option (List ℕ)) (r : Result T E) → IsErrAnd r Q
    → AppendsPrefix a b (concat lines) → WritesLines lines a b r
lines_broken_by_a_failed_call Q lines a b (Ok x) e h = absurd e
lines_broken_by_a_failed_call Q lines a b (Err f) e h = h

-- ---- the lines of each element

next_of : {A : Type 0} (f : A → List (List ℕ)) (xs : List A) (k : ℕ) (x : A) → k < length xs → slice_get xs k ≡ Some x
    → flat_map f (drop k xs) ≡ f x ++ flat_map f (drop (k + 1) xs)
next_of {A} f xs k x below e =
    let at = item_at xs k below in
    ap (λ (l : List A). flat_map f l) at.left ∙ ap (λ (y : A). f y ++ flat_map f (drop (k + 1) xs)) (some-unique (slice_get xs k) at.item x at.here e)

-- the lines of the element at a place are written, and those of the next ones are left
pub loop_more : {A : Type 0} (f : A → List (List ℕ)) (all : List (List ℕ)) (xs : List A) (k : ℕ) (x : A) (a b c : Option (List ℕ)) → k < length xs
    → slice_get xs k ≡ Some x
    → IsWrittenTo all (flat_map f (drop k xs)) a b → Appends b c (concat (f x)) → IsWrittenTo all (flat_map f (drop (k + 1) xs)) a c
loop_more f all xs k x a b c below e state here = lines_written_with_the_next_ones all (flat_map f (drop k xs)) (f x) (flat_map f (drop (k + 1) xs)) a b c state
    (next_of f xs k x below e) here

-- where a write of them fails, a beginning of all lines stands written
pub loop_broken : {A : Type 0} (f : A → List (List ℕ)) (all : List (List ℕ)) (xs : List A) (k : ℕ) (x : A) (a b c : Option (List ℕ)) → k < length xs
    → slice_get xs k ≡ Some x
    → IsWrittenTo all (flat_map f (drop k xs)) a b → AppendsPrefix b c (concat (f x)) → AppendsPrefix a c (concat all)
loop_broken f all xs k x a b c below e state here = written_broken all (flat_map f (drop k xs)) (f x) (flat_map f (drop (k + 1) xs)) a b c state
    (next_of f xs k x below e) here

-- how many there are
pub count_next : {A : Type 0} (f : A → List (List ℕ)) (xs : List A) (total k n m : ℕ) (x : A) → k < length xs → slice_get xs k ≡ Some x
    → n + length (flat_map f (drop k xs)) ≡ total → m ≡ length (f x) → (n + m) + length (flat_map f (drop (k + 1) xs)) ≡ total
count_next f xs total k n m x below e so_far is =
    let next = ap (λ (l : List (List ℕ)). length l) (next_of f xs k x below e) in
    omega (arith, so_far, next, is, length-append (f x) (flat_map f (drop (k + 1) xs)))

-- ---- the item at a place, and its line

-- the line of the member at a place is that of its item
pub member_is : (items : List KeptItem) (place : ℕ) (item : KeptItem) → slice_get items place ≡ Some item
    → member_at items place ≡ member_line item.line item.tiling ∷ []
member_is items place item e = ap (λ (o : Option KeptItem). option_map_or (λ x. member_line x.line x.tiling ∷ []) o []) e

module _ (items : List KeptItem) (places : List ℕ) (k d line : ℕ) (t : Tiling) (piece : List ℕ) (below : k < length places)
    (here : IsItemAt items (get_or places k d) line t) (is : piece ≡ member_line line t) where
  member_here : member_at items (get_or places k d) ≡ member_line line t ∷ []
  member_here = member_is items (get_or places k d) here.0 here.1 ∙ (λ i. member_line (sym here.2 i) (sym here.3 i) ∷ [])

  -- the line of the member at a place is written
  pub members_more : (all : List (List ℕ)) (a b c : Option (List ℕ)) → IsWrittenTo all (flat_map (member_at items) (drop k places)) a b → Appends b c piece
      → IsWrittenTo all (flat_map (member_at items) (drop (k + 1) places)) a c
  members_more all a b c state w =
      loop_more (member_at items) all places k (get_or places k d) a b c below (slice_get-get_or places k d below) state
      (subst (λ (l : List (List ℕ)). Appends b c (concat l)) (sym member_here) (appends-one_piece (member_line line t) piece b c is w))

  -- a write of the line of the member at a place failed
  pub members_broken : (all : List (List ℕ)) (a b c : Option (List ℕ)) → IsWrittenTo all (flat_map (member_at items) (drop k places)) a b
      → AppendsPrefix b c piece → AppendsPrefix a c (concat all)
  members_broken all a b c state w =
      loop_broken (member_at items) all places k (get_or places k d) a b c below (slice_get-get_or places k d below) state
      (subst (λ (l : List (List ℕ)). AppendsPrefix b c (concat l)) (sym member_here) (one_broken (member_line line t) piece b c is w))

-- a first line, and then more
pub first_broken : (line piece : List ℕ) (rest : List (List ℕ)) (a b : Option (List ℕ)) → piece ≡ line → AppendsPrefix a b piece
    → AppendsPrefix a b (concat (line ∷ rest))
first_broken line piece rest a b is h = prefix_more a b line (concat rest) (subst (λ (l : List ℕ). AppendsPrefix a b l) is h)

-- the first line is written, and the call for the others tells how it ended
pub first_line_written_then_the_others : {T E : Type 0} (line piece : List ℕ) (rest : List (List ℕ)) (a b c : Option (List ℕ)) (r : Result T E) → piece ≡ line
    → Appends a b piece → WritesLines rest b c r → WritesLines (line ∷ rest) a c r
first_line_written_then_the_others line piece rest a b c (Ok x) is here later =
    appends-then a b c line (concat rest) (concat (line ∷ rest)) (subst (λ (l : List ℕ). Appends a b l) is here) later refl
first_line_written_then_the_others line piece rest a b c (Err f) is here later =
    prefix_after a b c line (concat rest) (subst (λ (l : List ℕ). Appends a b l) is here) later
