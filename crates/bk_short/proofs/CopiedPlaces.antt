-- Lists whose places are copied at one stroke: what stands in places to spare is copied too, and is to spare again.
use Rattle.std.proofs.Common.{List, ap, arith, drop, length, slice_range, sym, take, take_all, ℕ, ◌++◌, ◌+◌, ◌-◌, ◌∙◌, ◌≡◌, ◌≤◌}
use Rattle.std.proofs.Math.Seq.{take-append-add}
use Rattle.std.proofs.lemmas.List.{drop-take, length-drop, length-take-le, take-append-le, take-take}

-- the items of a list behind whose `len` items all places of another are written, of which the first so many are items
pub appended : {X : Type 0} (cells written other rest : List X) (len many : ℕ) → len ≤ length cells → many ≤ length other → written ≡ other
    → take (len + many) (take len cells ++ (written ++ rest)) ≡ take len cells ++ take many other
appended cells written other rest len many within few e =
    ap (λ n. take (n + many) (take len cells ++ (written ++ rest))) (sym (length-take-le len cells within))
    ∙ take-append-add (take len cells) (written ++ rest) many
    ∙ ap (λ l. take len cells ++ take many (l ++ rest)) e
    ∙ ap (λ l. take len cells ++ l) (take-append-le many other rest few)

-- the first of so many places behind a first one are the items up to another
pub parted : {X : Type 0} (cells chunk : List X) (start end len many : ℕ) → start ≤ end → end ≤ len → end - start ≤ many
    → chunk ≡ take many (take (length cells - start) (drop start cells)) → take (end - start) chunk ≡ slice_range (take len cells) start end
parted cells chunk start end len many order within few e =
    ap (take (end - start)) (e ∙ ap (take many) (take_all (length cells - start) (drop start cells) (omega (arith, length-drop start cells))))
    ∙ take-take (end - start) many (drop start cells) few
    ∙ sym (take-take (end - start) (len - start) (drop start cells) (omega arith))
    ∙ ap (take (end - start)) (sym (drop-take start (len - start) cells) ∙ ap (λ n. drop start (take n cells)) (omega arith))
