-- Groups cut from one list of sides at the places where they begin.
use Rattle.std.specs.List.{AllByRecursion}
use Rattle.std.proofs.Common.{List, [], ap, arith, drop, get_or, length, refl, subst, suc, sym, zero, ℕ, ◌++◌, ◌+◌, ◌-◌, ◌<◌, ◌∙◌, ◌∷◌, ◌≡◌, ◌≤◌}
use Rattle.std.specs.Prelude.{slice_range}
use Rattle.std.proofs.lemmas.List.{append-nil, append_assoc, drop-append-le, drop-drop, drop_at, length-append, length-drop, take-append-drop}
use Rattle.std.proofs.lemmas.List.{take_all}
use Rattle.bk_laws.proofs.AllOfLists.{all_append}
use Rattle.bk_laws.proofs.ListItems.{get_or-cons_one_more}
use Rattle.bk_laws.proofs.ListParts.{slice_range-append_left}
use Rattle.bk_tiling.specs.KeptTiling.{IsSide}
use Rattle.bk_code.specs.Code.{Code, flat, with_side}
use Rattle.bk_code.specs.KeptCode.{IsKeptCode, IsSideGroup}
use Rattle.bk_code.specs.StoredCode.{AreStarts, IsStoredCode, Rise, groups_at, groups_from}

-- as many places as rise between two numbers lie between them
pub rise_below : (from : ℕ) (starts : List ℕ) (end : ℕ) → Rise from starts end → from + length starts < end
rise_below from [] end h = omega (arith, h)
rise_below from (start ∷ starts) end h = omega (arith, h.0, rise_below start starts end h.1)

-- there are at most as many groups as sides
pub starts_below : (starts : List ℕ) (end : ℕ) → AreStarts starts end → length starts ≤ end
starts_below [] end h = omega arith
starts_below (start ∷ starts) end h = omega (arith, rise_below start starts end h.1)

-- a further group
from_more : (from : ℕ) (starts xs ys : List ℕ) → Rise from starts (length xs)
    → groups_from from (starts ++ length xs ∷ []) (xs ++ ys) ≡ groups_from from starts xs ++ ys ∷ []
from_more from [] xs ys h =
    let first : slice_range (xs ++ ys) from (length xs) ≡ drop from xs = slice_range-append_left xs ys from (length xs) (omega arith) (omega arith)
    ∙ take_all (length xs - from) (drop from xs) (omega (arith, length-drop from xs)) in
    let last : drop (length xs) (xs ++ ys) ≡ ys = drop_at xs ys (length xs) refl in
    λ i. first i ∷ last i ∷ []
from_more from (start ∷ starts) xs ys h =
    let first : slice_range (xs ++ ys) from start ≡ slice_range xs from start =
    slice_range-append_left xs ys from start (omega (arith, h.0)) (omega (arith, rise_below start starts (length xs) h.1)) in
    let rest : groups_from start (starts ++ length xs ∷ []) (xs ++ ys) ≡ groups_from start starts xs ++ ys ∷ [] = from_more start starts xs ys h.1 in
    λ i. first i ∷ rest i

-- a start at the end of the sides and further sides behind it are a further group
pub groups_more : (starts xs ys : List ℕ) → AreStarts starts (length xs) → groups_at (starts ++ length xs ∷ []) (xs ++ ys) ≡ groups_at starts xs ++ ys ∷ []
groups_more [] xs ys h = ap (λ (l : List ℕ). l ∷ []) (drop_at xs ys (length xs) refl)
groups_more (start ∷ starts) xs ys h = from_more start starts xs ys h.1

-- a further side of the last group
from_side : (from : ℕ) (starts xs : List ℕ) (s : ℕ) → Rise from starts (length xs)
    → groups_from from starts (xs ++ s ∷ []) ≡ with_side (groups_from from starts xs) s
from_side from [] xs s h = ap (λ (l : List ℕ). l ∷ []) (drop-append-le from xs (s ∷ []) (omega (arith, h)))
from_side from (start ∷ starts) xs s h = shape starts h.1 (from_side start starts xs s h.1)
  where
    first : slice_range (xs ++ s ∷ []) from start ≡ slice_range xs from start
    first = slice_range-append_left xs (s ∷ []) from start (omega (arith, h.0)) (omega (arith, rise_below start starts (length xs) h.1))

    shape : (starts : List ℕ) → Rise start starts (length xs) → groups_from start starts (xs ++ s ∷ []) ≡ with_side (groups_from start starts xs) s
        → groups_from from (start ∷ starts) (xs ++ s ∷ []) ≡ with_side (groups_from from (start ∷ starts) xs) s
    shape [] r rest = λ i. first i ∷ rest i
    shape (next ∷ starts) r rest = λ i. first i ∷ rest i

-- a further side with no start goes into the last group
pub groups_side : (starts xs : List ℕ) (s : ℕ) → 0 < length starts → AreStarts starts (length xs)
    → groups_at starts (xs ++ s ∷ []) ≡ with_side (groups_at starts xs) s
groups_side [] xs s some h = absurd (omega arith)
groups_side (start ∷ starts) xs s some h = from_side start starts xs s h.1

-- the groups in a row are the sides
from_flat : (from : ℕ) (starts xs : List ℕ) → Rise from starts (length xs) → flat (groups_from from starts xs) ≡ drop from xs
from_flat from [] xs h = append-nil (drop from xs)
from_flat from (start ∷ starts) xs h =
    let skip : drop start xs ≡ drop (start - from) (drop from xs) = sym (drop-drop (start - from) from xs ∙ ap (λ n. drop n xs) (omega (arith, h.0))) in
    ap (λ (l : List ℕ). slice_range xs from start ++ l) (from_flat start starts xs h.1 ∙ skip) ∙ take-append-drop (start - from) (drop from xs)

-- the groups laid end to end are the sides they are cut from
pub groups_flat : (starts xs : List ℕ) → AreStarts starts (length xs) → flat (groups_at starts xs) ≡ xs
groups_flat [] [] h = refl
groups_flat [] (x ∷ xs) h = absurd (omega (arith, h))
groups_flat (start ∷ starts) xs h = from_flat start starts xs h.1 ∙ ap (λ n. drop n xs) h.0

from_length : (from : ℕ) (starts xs : List ℕ) → length (groups_from from starts xs) ≡ length starts + 1
from_length from [] xs = refl
from_length from (start ∷ starts) xs = omega (arith, from_length start starts xs)

-- there are as many groups as starts
pub groups_length : (starts xs : List ℕ) → length (groups_at starts xs) ≡ length starts
groups_length [] xs = refl
groups_length (start ∷ starts) xs = omega (arith, from_length start starts xs)

rise_more : (from : ℕ) (starts : List ℕ) (end more : ℕ) → Rise from starts end → end < more → Rise from (starts ++ end ∷ []) more
rise_more from [] end more h l = (h, l)
rise_more from (start ∷ starts) end more h l = (h.0, rise_more start starts end more h.1 l)

starts_more : (starts : List ℕ) (end more : ℕ) → AreStarts starts end → end < more → AreStarts (starts ++ end ∷ []) more
starts_more [] end more h l = (h, omega (arith, h, l))
starts_more (start ∷ starts) end more h l = (h.0, rise_more start starts end more h.1 l)

rise_on : (from : ℕ) (starts : List ℕ) (end more : ℕ) → Rise from starts end → end ≤ more → Rise from starts more
rise_on from [] end more h l = omega (arith, h)
rise_on from (start ∷ starts) end more h l = (h.0, rise_on start starts end more h.1 l)

starts_on : (starts : List ℕ) (end more : ℕ) → 0 < length starts → AreStarts starts end → end ≤ more → AreStarts starts more
starts_on [] end more some h l = absurd (omega arith)
starts_on (start ∷ starts) end more some h l = (h.0, rise_on start starts end more h.1 l)

-- flat lists and sides of longer codes
pub flat_more : (code : Code) (group : List ℕ) → flat (code ++ group ∷ []) ≡ flat code ++ group
flat_more [] group = append-nil group
flat_more (first ∷ code) group = ap (λ (l : List ℕ). first ++ l) (flat_more code group) ∙ sym (append_assoc first (flat code) group)

-- a side put into the last group comes last of all
pub flat_side : (code : Code) (s : ℕ) → 0 < length code → flat (with_side code s) ≡ flat code ++ s ∷ []
flat_side [] s some = absurd (omega arith)
flat_side (group ∷ []) s some = append-nil (group ++ s ∷ []) ∙ ap (λ (l : List ℕ). l ++ s ∷ []) (sym (append-nil group))
flat_side (group ∷ next ∷ code) s some = ap (λ (l : List ℕ). group ++ l) (flat_side (next ∷ code) s (omega arith))
    ∙ sym (append_assoc group (flat (next ∷ code)) (s ∷ []))

all_more : (P : List ℕ → Type 0) (code : Code) (group : List ℕ) → AllByRecursion P code → P group → AllByRecursion P (code ++ group ∷ [])
all_more P [] group all one = (one, tt)
all_more P (first ∷ code) group all one = (all.0, all_more P code group all.1 one)

sides_more : (group : List ℕ) (s : ℕ) → AllByRecursion IsSide group → IsSide s → AllByRecursion IsSide (group ++ s ∷ [])
sides_more [] s all one = (one, tt)
sides_more (first ∷ group) s all one = (all.0, sides_more group s all.1 one)

all_side : (code : Code) (s : ℕ) → AllByRecursion IsSideGroup code → IsSide s → AllByRecursion IsSideGroup (with_side code s)
all_side [] s all one = tt
all_side (group ∷ []) s all one = ((omega (arith, length-append group (s ∷ [])), sides_more group s all.0.1 one), tt)
all_side (group ∷ next ∷ code) s all one = (all.0, all_side (next ∷ code) s all.1 one)

-- what is stored after a further group
pub stored_code_with_one_group_more : (starts xs : List ℕ) (ys : List ℕ) → IsStoredCode starts xs → 0 < length ys → AllByRecursion IsSide ys
    → length xs + length ys ≤ 200
    → IsStoredCode (starts ++ length xs ∷ []) (xs ++ ys)
stored_code_with_one_group_more starts xs ys stored some sides room = record {
  starts_rise = starts_more starts (length xs) (length (xs ++ ys)) stored.starts_rise (omega (arith, length-append xs ys));
  code = subst IsKeptCode (sym cut) (record {
    groups = all_more IsSideGroup (groups_at starts xs) ys (stored.code).groups (some, sides);
    few = omega (
      arith,
      ap length (flat_more (groups_at starts xs) ys),
      length-append (flat (groups_at starts xs)) ys,
      ap length (groups_flat starts xs stored.starts_rise),
    );
  });
}
  where
    cut : groups_at (starts ++ length xs ∷ []) (xs ++ ys) ≡ groups_at starts xs ++ ys ∷ []
    cut = groups_more starts xs ys stored.starts_rise

-- what is stored after a further side of the last group
pub stored_side : (starts xs : List ℕ) (s : ℕ) → IsStoredCode starts xs → 0 < length starts → IsSide s → length xs < 200 → IsStoredCode starts (xs ++ s ∷ [])
stored_side starts xs s stored some side room = record {
  starts_rise = starts_on starts (length xs) (length (xs ++ s ∷ [])) some stored.starts_rise (omega (arith, length-append xs (s ∷ [])));
  code = subst IsKeptCode (sym cut) (record {
    groups = all_side (groups_at starts xs) s (stored.code).groups side;
    few = omega (
      arith,
      ap length (flat_side (groups_at starts xs) s (omega (arith, groups_length starts xs))),
      length-append (flat (groups_at starts xs)) (s ∷ []),
      ap length (groups_flat starts xs stored.starts_rise),
    );
  });
}
  where
    cut : groups_at starts (xs ++ s ∷ []) ≡ with_side (groups_at starts xs) s
    cut = groups_side starts xs s some stored.starts_rise

-- a group: the sides from its start to the next start, or to the end
from_at : (from : ℕ) (starts xs : List ℕ) (g : ℕ) → Rise from starts (length xs) → g < length starts
    → slice_range xs (get_or (from ∷ starts) g 0) (get_or starts g 0) ≡ get_or (groups_from from starts xs) g []
from_at from [] xs g h l = absurd (omega arith)
from_at from (start ∷ starts) xs zero h l = refl
from_at from (start ∷ starts) xs (suc g) h l = from_at start starts xs g h.1 (omega arith)

from_last : (from : ℕ) (starts xs : List ℕ) → Rise from starts (length xs)
    → slice_range xs (get_or (from ∷ starts) (length starts) 0) (length xs) ≡ get_or (groups_from from starts xs) (length starts) []
from_last from [] xs h = take_all (length xs - from) (drop from xs) (omega (arith, length-drop from xs))
from_last from (start ∷ starts) xs h = from_last start starts xs h.1

-- a group but the last runs from its start to the next one
pub group_at : (starts xs : List ℕ) (g : ℕ) → AreStarts starts (length xs) → g + 1 < length starts
    → slice_range xs (get_or starts g 0) (get_or starts (g + 1) 0) ≡ get_or (groups_at starts xs) g []
group_at [] xs g h l = absurd (omega arith)
group_at (start ∷ starts) xs g h l =
    ap (slice_range xs (get_or (start ∷ starts) g 0)) (get_or-cons_one_more start starts g) ∙ from_at start starts xs g h.1 (omega arith)

-- the last group runs from its start to the end
pub group_last : (starts xs : List ℕ) (g : ℕ) → AreStarts starts (length xs) → g + 1 ≡ length starts
    → slice_range xs (get_or starts g 0) (length xs) ≡ get_or (groups_at starts xs) g []
group_last [] xs g h e = absurd (omega arith)
group_last (start ∷ starts) xs g h e =
    let last : length starts ≡ g = omega arith in
    subst (λ (n : ℕ). slice_range xs (get_or (start ∷ starts) n 0) (length xs) ≡ get_or (groups_from start starts xs) n []) last (from_last start starts xs h.1)

-- the starts rise, up to the end
rise_at : (from : ℕ) (starts : List ℕ) (end g : ℕ) → Rise from starts end → g < length starts
    → (get_or (from ∷ starts) g 0 < get_or starts g 0) × (get_or starts g 0 < end)
rise_at from [] end g h l = absurd (omega arith)
rise_at from (start ∷ starts) end zero h l = (h.0, omega (arith, rise_below start starts end h.1))
rise_at from (start ∷ starts) end (suc g) h l = rise_at start starts end g h.1 (omega arith)

rise_to : (from : ℕ) (starts : List ℕ) (end g : ℕ) → Rise from starts end → g ≤ length starts → get_or (from ∷ starts) g 0 < end
rise_to from starts end zero h l = omega (arith, rise_below from starts end h)
rise_to from [] end (suc g) h l = absurd (omega arith)
rise_to from (start ∷ starts) end (suc g) h l = rise_to start starts end g h.1 (omega arith)

-- a start but the last comes before the next one, and that before the end
pub starts_at : (starts : List ℕ) (end g : ℕ) → AreStarts starts end → g + 1 < length starts
    → (get_or starts g 0 < get_or starts (g + 1) 0) × (get_or starts (g + 1) 0 < end)
starts_at [] end g h l = absurd (omega arith)
starts_at (start ∷ starts) end g h l =
    let both : (get_or (start ∷ starts) g 0 < get_or starts g 0) × (get_or starts g 0 < end) = rise_at start starts end g h.1 (omega arith) in
    let next : get_or (start ∷ starts) (g + 1) 0 ≡ get_or starts g 0 = get_or-cons_one_more start starts g in
    (omega (arith, both.0), omega (arith, both.1))

-- each start comes before the end
pub starts_to : (starts : List ℕ) (end g : ℕ) → AreStarts starts end → g < length starts → get_or starts g 0 < end
starts_to [] end g h l = absurd (omega arith)
starts_to (start ∷ starts) end g h l = rise_to start starts end g h.1 (omega arith)

-- how many sides and groups a stored code has
pub sides_count : (starts xs : List ℕ) (code : Code) → IsStoredCode starts xs → groups_at starts xs ≡ code → length xs ≡ length (flat code)
sides_count starts xs code stored view = ap length (sym (groups_flat starts xs stored.starts_rise)) ∙ ap (λ (c : Code). length (flat c)) view

-- a stored code has as many groups as starts
pub starts_count : (starts xs : List ℕ) (code : Code) → groups_at starts xs ≡ code → length starts ≡ length code
starts_count starts xs code view = sym (groups_length starts xs) ∙ ap (λ (c : Code). length c) view

-- where a code has fewer than 200 sides, so has what is stored of it
pub sides_room : (starts xs : List ℕ) (code : Code) → IsStoredCode starts xs → groups_at starts xs ≡ code → length (flat code) < 200 → length xs < 200
sides_room starts xs code stored view room = omega (arith, sides_count starts xs code stored view)

-- a code of fewer than 200 sides has fewer than 200 starts
pub starts_room : (starts xs : List ℕ) (code : Code) → IsStoredCode starts xs → groups_at starts xs ≡ code → length (flat code) < 200 → length starts < 200
starts_room starts xs code stored view room = omega (arith, sides_count starts xs code stored view, starts_below starts (length xs) stored.starts_rise)

-- where each group has sides that a square may have, so has the flat list
pub flat_good : (code : Code) → AllByRecursion IsSideGroup code → AllByRecursion IsSide (flat code)
flat_good [] good = tt
flat_good (group ∷ code) good = all_append IsSide group (flat code) good.0.1 (flat_good code good.1)
