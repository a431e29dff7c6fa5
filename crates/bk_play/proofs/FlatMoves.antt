-- The flat lists of an outline, where a move is played and where it is taken back.
use Rattle.std.specs.List.{concat}
use Rattle.std.proofs.Common.{List, [], ap, arith, length, map, max, refl, suc, sym, ℕ, ◌++◌, ◌+◌, ◌<◌, ◌∙◌, ◌∷◌, ◌≡◌, ◌≤◌}
use Rattle.std.proofs.lemmas.List.{append_assoc, length-append}
use Rattle.bk_word.specs.Play.{before_first_list, joined}
use Rattle.bk_word.specs.declared.Sign.{Sign}
use Rattle.bk_word.specs.declared.Sign.TheVariants.{Above, Even, Under}
use Rattle.bk_word_net.proofs.Outlines.Shape.{AllFilled}
use Rattle.bk_play.specs.Skeleton.{joined_sizes, next_size}

-- all segments have one square but the last, which has so many
abbrev pub AreSingles : ℕ → List (List ℕ) → Type 0
AreSingles last [] = Unit {0}
AreSingles last (s ∷ []) = length s ≡ last
AreSingles last (s ∷ t ∷ segments) = (length s ≡ 1) × AreSingles last (t ∷ segments)

before_twice : (s t : List ℕ) (l : List (List ℕ)) → before_first_list s (before_first_list t l) ≡ before_first_list (s ++ t) l
before_twice s t [] = refl
before_twice s t (u ∷ l) = ap (λ (v : List ℕ). v ∷ l) (sym (append_assoc s t u))

-- a segment that is joined to the next is one with the squares of both
joined_next : (signs : List Sign) (s t : List ℕ) (segments : List (List ℕ))
    → before_first_list s (joined signs (t ∷ segments)) ≡ joined signs ((s ++ t) ∷ segments)
joined_next [] s t segments = refl
joined_next (Above ∷ signs) s t segments = refl
joined_next (Even ∷ signs) s t segments = before_twice s t (joined signs segments)
joined_next (Under ∷ signs) s t segments = refl

next_single : (last : ℕ) (signs : List Sign) (t : List ℕ) (segments : List (List ℕ)) → length (t ∷ segments) ≡ suc (length signs)
    → AreSingles last (t ∷ segments) → length t ≡ next_size last signs
next_single last [] t [] many singles = singles
next_single last [] t (u ∷ segments) many singles = absurd (omega arith)
next_single last (g ∷ signs) t [] many singles = absurd (omega arith)
next_single last (g ∷ signs) t (u ∷ segments) many singles = singles.0

rest_single : (last : ℕ) (t : List ℕ) (segments : List (List ℕ)) → AreSingles last (t ∷ segments) → AreSingles last segments
rest_single last t [] singles = tt
rest_single last t (u ∷ segments) singles = singles.1

-- the sizes of joined segments
pub sizes_joined : (signs : List Sign) (s : List ℕ) (segments : List (List ℕ)) (size last : ℕ) → length s ≡ size
    → length segments ≡ length signs → AreSingles last segments
    → map length (joined signs (s ∷ segments)) ≡ joined_sizes size last signs
sizes_joined [] s [] size last e many singles = ap (λ n. n ∷ []) e
sizes_joined [] s (t ∷ segments) size last e many singles = absurd (omega arith)
sizes_joined (g ∷ signs) s [] size last e many singles = absurd (omega arith)
sizes_joined (Above ∷ signs) s (t ∷ segments) size last e many singles =
    (λ i. e i ∷ sizes_joined signs t segments (next_size last signs) last (next_single last signs t segments many singles) (omega arith)
    (rest_single last t segments singles) i)
sizes_joined (Under ∷ signs) s (t ∷ segments) size last e many singles =
    (λ i. e i ∷ sizes_joined signs t segments (next_size last signs) last (next_single last signs t segments many singles) (omega arith)
    (rest_single last t segments singles) i)
sizes_joined (Even ∷ signs) s (t ∷ segments) size last e many singles =
    ap (map length) (joined_next signs s t segments)
    ∙ sizes_joined signs (s ++ t) segments (size + next_size last signs) last
    (omega (arith, length-append s t, e, next_single last signs t segments many singles)) (omega arith) (rest_single last t segments singles)

-- the segments that a move touches, apart: those beside the valley and the new squares between them
singles_after : (numbers : List ℕ) (right : List (List ℕ)) → length right ≤ 1 → AllFilled right
    → AreSingles (max (length (concat right)) 1) (map (λ q. q ∷ []) numbers ++ right)
singles_after [] [] one filled = tt
singles_after [] (r ∷ []) one filled = omega (arith, length-append r [], filled.0)
singles_after [] (r ∷ u ∷ right) one filled = absurd (omega arith)
singles_after (n ∷ []) [] one filled = omega arith
singles_after (n ∷ []) (r ∷ right) one filled = (refl, singles_after [] (r ∷ right) one filled)
singles_after (n ∷ m ∷ numbers) right one filled = (refl, singles_after (m ∷ numbers) right one filled)

-- the sizes that come in the place of those touched
pub sizes_between : (left right : List (List ℕ)) (numbers : List ℕ) (signs : List Sign) → length left ≤ 1 → length right ≤ 1
    → AllFilled left → AllFilled right → 0 < length numbers
    → length (left ++ (map (λ q. q ∷ []) numbers ++ right)) ≡ length signs + 1
    → map length (joined signs (left ++ (map (λ q. q ∷ []) numbers ++ right)))
    ≡ joined_sizes (max (length (concat left)) 1) (max (length (concat right)) 1) signs
sizes_between left right [] signs one other filled full some many = absurd (omega arith)
sizes_between [] right (n ∷ numbers) signs one other filled full some many =
    sizes_joined signs (n ∷ []) (map (λ q. q ∷ []) numbers ++ right) (max 0 1) (max (length (concat right)) 1) (omega arith) (omega arith)
    (singles_after numbers right other full)
sizes_between (l ∷ []) right (n ∷ numbers) signs one other filled full some many =
    sizes_joined signs l ((n ∷ []) ∷ (map (λ q. q ∷ []) numbers ++ right)) (max (length (concat (l ∷ []))) 1)
    (max (length (concat right)) 1) (omega (arith, length-append l [], filled.0)) (omega arith) (singles_after (n ∷ numbers) right other full)
sizes_between (l ∷ u ∷ left) right (n ∷ numbers) signs one other filled full some many = absurd (omega arith)
