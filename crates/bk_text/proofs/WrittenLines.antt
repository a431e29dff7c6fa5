-- What is written is a line, and stands for what was written.
use Rattle.std.specs.List.{AllByRecursion, join_with_byte}
use Rattle.std.specs.Prelude.{List, [], codes, decimal, length, map, refl, ℕ, ◌++◌, ◌<◌, ◌∷◌, ◌≡◌}
use Rattle.std.proofs.Common.{ap, append_assoc, arith, inl, subst, sym, ◌∙◌}
use Rattle.std.proofs.lemmas.List.{append-nil}
use Rattle.bk_laws.proofs.ListParts.{append-blank_between}
use Rattle.bk_grammar.proofs.NumberLaws.{number_from_decimal}
use Rattle.bk_grammar.specs.Grammar.{Blanks}
use Rattle.bk_code.specs.KeptCode.{IsSideGroup}
use Rattle.bk_tiling.specs.KeptTiling.{IsSide}
use Rattle.bk_text.specs.CodeLine.{Group, Groups, HeaderNumber, Side, Sides}
use Rattle.bk_text.specs.ReadLine.{IsHeaderNumber}
use Rattle.bk_text.specs.TextLaws.{AWrittenCodeIsRead, AWrittenItemIsRead, AWrittenSizeAndCodeAreRead, AWrittenSizeIsASize}
use Rattle.bk_text.specs.CodeText.{code_text, group_text, size_text}

side_spelled : (n : ℕ) → IsSide n → Side n (decimal n)
side_spelled n h = number_from_decimal 15 n (omega arith) (omega arith) h.0 (omega (arith, h.1)) (omega (arith, h.1))

-- one side, with blanks behind it, and one before more
pub one_side : (n : ℕ) (bs after : List ℕ) → Side n bs → Blanks after → Sides (n ∷ []) (bs ++ after)
one_side n bs after h blanks = ([], bs ++ after, refl, tt, (bs, after, refl, h, blanks))

-- a side, a comma and further sides
pub more_sides : (n m : ℕ) (ns bs rest : List ℕ) → Side n bs → Sides (m ∷ ns) rest → Sides (n ∷ m ∷ ns) (bs ++ 44 ∷ rest)
more_sides n m ns bs rest h hs = ([], bs ++ 44 ∷ rest, refl, tt, (bs, 44 ∷ rest, refl, h, ([], 44 ∷ rest, refl, tt, (44 ∷ [], rest, refl, refl, hs))))

-- a group in square brackets
pub square_group : (ns bs : List ℕ) → Sides ns bs → Group ns (91 ∷ bs ++ 93 ∷ [])
square_group ns bs h = inl (91 ∷ [], bs ++ 93 ∷ [], refl, refl, (bs, 93 ∷ [], refl, h, refl))

-- two groups with nothing between them
pub next_group : (g h : List ℕ) (gs : List (List ℕ)) (bs rest : List ℕ) → Group g bs → Groups (h ∷ gs) rest → Groups (g ∷ h ∷ gs) (bs ++ rest)
next_group g h gs bs rest first others = (bs, rest, refl, first, ([], rest, refl, tt, ([], rest, refl, inl refl, others)))

sides_spelled : (n : ℕ) (ns : List ℕ) → AllByRecursion IsSide (n ∷ ns) → Sides (n ∷ ns) (join_with_byte 44 (map decimal (n ∷ ns)))
sides_spelled n [] h = subst (Sides (n ∷ [])) (append-nil (decimal n)) (one_side n (decimal n) [] (side_spelled n h.0) tt)
sides_spelled n (m ∷ ns) h = more_sides n m ns (decimal n) (join_with_byte 44 (map decimal (m ∷ ns))) (side_spelled n h.0) (sides_spelled m ns h.1)

group_spelled : (ns : List ℕ) → IsSideGroup ns → Group ns (group_text ns)
group_spelled [] h = absurd (omega (arith, h.0))
group_spelled (n ∷ ns) h = square_group (n ∷ ns) (join_with_byte 44 (map decimal (n ∷ ns))) (sides_spelled n ns h.1)

groups_spelled : (g : List ℕ) (gs : List (List ℕ)) → AllByRecursion IsSideGroup (g ∷ gs) → Groups (g ∷ gs) (code_text (g ∷ gs))
groups_spelled g [] h = subst (Group g) (sym (append-nil (group_text g))) (group_spelled g h.0)
groups_spelled g (k ∷ gs) h = next_group g k gs (group_text g) (code_text (k ∷ gs)) (group_spelled g h.0) (groups_spelled k gs h.1)

-- a written code
code_spelled : (code : List (List ℕ)) → AllByRecursion IsSideGroup code → 0 < length code → Groups code (code_text code)
code_spelled [] all some = absurd (omega (arith, some))
code_spelled (g ∷ gs) all some = groups_spelled g gs all

-- a written code and the end of a line are a line that stands for the code
pub written_code : AWrittenCodeIsRead
written_code code end kept some ends =
    ([], code_text code ++ end, refl, tt, ([], code_text code ++ end, refl, refl, (code_text code, end, refl, code_spelled code kept.groups some, ends)))

number_spelled : (n : ℕ) → IsHeaderNumber n → HeaderNumber n (decimal n)
number_spelled n h = number_from_decimal 18 n (omega arith) (omega arith) h.0 (omega (arith, h.1)) (omega (arith, h.1))

-- a written size
pub written_size : AWrittenSizeIsASize
written_size w h wide high = (
  decimal w,
  codes "x" ++ decimal h,
  append_assoc (decimal w) (codes "x") (decimal h),
  number_spelled w wide,
  (codes "x", decimal h, refl, refl, number_spelled h high),
)

-- a written size and code
pub written_sized : AWrittenSizeAndCodeAreRead
written_sized w h code end wide high kept some ends = (
  [],
  size_text w h ++ 32 ∷ (code_text code ++ end),
  refl,
  tt,
  (
    size_text w h ++ 32 ∷ [],
    code_text code ++ end,
    append-blank_between (size_text w h) (code_text code ++ end),
    (size_text w h, 32 ∷ [], refl, written_size w h wide high, (inl refl, tt)),
    (code_text code, end, refl, code_spelled code kept.groups some, ends),
  ),
)

-- a written order, size and code
pub written_item : AWrittenItemIsRead
written_item order w h code end ordered wide high kept some ends =
    let sized : List ℕ = size_text w h ++ 32 ∷ [] in
    let rest : List ℕ = code_text code ++ end in
    let front : List ℕ = decimal order ++ 32 ∷ sized in
    let whole : decimal order ++ 32 ∷ (size_text w h ++ 32 ∷ rest) ≡ front ++ rest =
    ap (λ z. decimal order ++ 32 ∷ z) (append-blank_between (size_text w h) rest) ∙ sym (append_assoc (decimal order) (32 ∷ sized) rest) in (
      [],
      decimal order ++ 32 ∷ (size_text w h ++ 32 ∷ rest),
      refl,
      tt,
      (
        front,
        rest,
        whole,
        (
          decimal order,
          32 ∷ sized,
          refl,
          number_spelled order ordered,
          (32 ∷ [], sized, refl, (omega arith, (inl refl, tt)), (size_text w h, 32 ∷ [], refl, written_size w h wide high, (inl refl, tt))),
        ),
        (code_text code, end, refl, code_spelled code kept.groups some, ends),
      ),
    )
