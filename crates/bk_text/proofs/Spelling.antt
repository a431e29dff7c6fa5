-- The texts of groups and codes, piece by piece, and how long they are.
use Rattle.std.specs.Fmt.{decimal}
use Rattle.std.specs.List.{AllByRecursion, join_with_byte}
use Rattle.std.specs.Prelude.{List, [], drop, flat_map, length, map, suc, take, zero, ℕ, ◌*◌, ◌++◌, ◌+◌, ◌-◌, ◌<◌, ◌∷◌, ◌≡◌, ◌≤◌}
use Rattle.std.proofs.Common.{ap, append_assoc, arith, get_or, length-append, sym, ◌∙◌}
use Rattle.std.proofs.lemmas.Fmt.{length-decimal-le}
use Rattle.std.proofs.lemmas.List.{append-nil, take_all, length-drop}
use Rattle.std.proofs.lemmas.List.Folds.{length-flat_map-take}
use Rattle.bk_code.specs.Code.{Code, flat}
use Rattle.bk_code.specs.KeptCode.{IsKeptCode, IsSideGroup}
use Rattle.bk_tiling.specs.KeptTiling.{IsSide}
use Rattle.bk_text.specs.CodeText.{code_text, group_text}

-- a further side of a group
abbrev pub side_text : ℕ → List ℕ
side_text n = 44 ∷ decimal n

joined : (n : ℕ) (ns : List ℕ) → join_with_byte 44 (map decimal (n ∷ ns)) ≡ decimal n ++ flat_map side_text ns
joined n [] = sym (append-nil (decimal n))
joined n (m ∷ ns) = ap (λ x. decimal n ++ 44 ∷ x) (joined m ns)

-- a group, side by side
pub group_by_sides : (ns : List ℕ) → 0 < length ns → group_text ns ≡ 91 ∷ (decimal (get_or ns 0 0) ++ flat_map side_text (drop 1 ns)) ++ 93 ∷ []
group_by_sides [] some = absurd (omega (arith, some))
group_by_sides (n ∷ ns) some = ap (λ x. 91 ∷ x ++ 93 ∷ []) (joined n ns)

-- a side has at most 15 digits
pub short_side : (n : ℕ) → IsSide n → length (decimal n) ≤ 15
short_side n side = length-decimal-le 15 n (omega arith) (omega (arith, side.1)) (omega (arith, side.1))

short_sides : (ns : List ℕ) → AllByRecursion IsSide ns → length (flat_map side_text ns) ≤ 16 * length ns
short_sides [] sides = omega arith
short_sides (n ∷ ns) sides = omega (arith, short_side n sides.0, short_sides ns sides.1, length-append (decimal n) (flat_map side_text ns))

-- a group has at most 17 bytes a side
pub short_group : (ns : List ℕ) → IsSideGroup ns → length (group_text ns) ≤ 17 * length ns
short_group [] group = absurd (omega (arith, group.0))
short_group (n ∷ ns) group =
    let text = joined n ns in
    let all : length (join_with_byte 44 (map decimal (n ∷ ns)) ++ 93 ∷ []) ≡ length (join_with_byte 44 (map decimal (n ∷ ns))) + 1 =
    length-append (join_with_byte 44 (map decimal (n ∷ ns))) (93 ∷ []) in
    let parts : length (join_with_byte 44 (map decimal (n ∷ ns))) ≡ length (decimal n) + length (flat_map side_text ns) = ap length text
    ∙ length-append (decimal n) (flat_map side_text ns) in
    omega (arith, all, parts, short_side n group.1.0, short_sides ns group.1.1)

-- a code has at most 17 bytes a side
pub short_code : (code : Code) → AllByRecursion IsSideGroup code → length (code_text code) ≤ 17 * length (flat code)
short_code [] groups = omega arith
short_code (g ∷ code) groups =
    omega (arith, short_group g groups.0, short_code code groups.1, length-append (group_text g) (code_text code), length-append g (flat code))

-- the text of a group is written whole
pub whole_group : (ns old mid new : List ℕ) (i : ℕ) → 0 < length ns → length ns ≤ i + 1
    → mid ≡ old ++ 91 ∷ decimal (get_or ns 0 0) ++ flat_map side_text (take i (take (length ns - 1) (drop 1 ns))) → new ≡ mid ++ 93 ∷ []
    → new ≡ old ++ group_text ns
whole_group ns old mid new i some all text end =
    let tail : List ℕ = drop 1 ns in
    let first : List ℕ = 91 ∷ decimal (get_or ns 0 0) in
    let size : length tail ≡ length ns - 1 = length-drop 1 ns in
    let whole : take (length ns - 1) tail ≡ tail = take_all (length ns - 1) tail (omega arith) in
    let rest : take i (take (length ns - 1) tail) ≡ tail = ap (take i) whole ∙ take_all i tail (omega arith) in
    let front : mid ≡ old ++ (first ++ flat_map side_text tail) = text ∙ ap (λ x. old ++ first ++ flat_map side_text x) rest
    ∙ append_assoc old first (flat_map side_text tail) in
    end ∙ ap (λ x. x ++ 93 ∷ []) front ∙ append_assoc old (first ++ flat_map side_text tail) (93 ∷ [])
    ∙ ap (λ x. old ++ x) (sym (group_by_sides ns some))

groups_front : (code : Code) (g : ℕ) → AllByRecursion IsSideGroup code → AllByRecursion IsSideGroup (take g code)
groups_front code zero all = tt
groups_front [] (suc g) all = tt
groups_front (k ∷ code) (suc g) all = (all.0, groups_front code g all.1)

-- behind some groups of a code there is room for the next
pub room_for_group : (code : Code) (old mid : List ℕ) (g : ℕ) → IsKeptCode code → length old + 3400 ≤ 9000 → mid ≡ old ++ code_text (take g code)
    → g < length code
    → length mid + 17 * length (get_or code g []) ≤ 9000
room_for_group code old mid g kept room text within =
    let size : length mid ≡ length old + length (code_text (take g code)) = ap length text ∙ length-append old (code_text (take g code)) in
    omega (arith, size, short_code (take g code) (groups_front code g kept.groups), kept.few, length-flat_map-take (λ (x : List ℕ). x) code g [] within)

-- a kept code has at most 3,400 bytes
pub short_kept : (code : Code) → IsKeptCode code → length (code_text code) ≤ 3400
short_kept code kept = omega (arith, short_code code kept.groups, kept.few)
