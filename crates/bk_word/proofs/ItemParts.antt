-- The parts of a line that holds an item.
use Rattle.std.specs.List.{AllByRecursion}
use Rattle.std.specs.Prelude.{List, [], drop, length, slice_range, take, ℕ, ◌++◌, ◌+◌, ◌-◌, ◌<◌, ◌∷◌, ◌≡◌, ◌≢◌, ◌≤◌}
use Rattle.std.proofs.Common.{ap, arith, get_or, length-append, length-drop, length-take, subst, sym, ◌∙◌}
use Rattle.std.proofs.lemmas.List.{drop-take, take-append-drop, take-take}
use Rattle.bk_laws.proofs.AllOfLists.{all_left, all_right}
use Rattle.bk_laws.proofs.ListItems.{get_or-append_back, get_or-append_front, get_or-snoc_last}
use Rattle.bk_laws.proofs.ListParts.{append-three_parts}
use Rattle.bk_grammar.specs.Grammar.{Blanks, Comment, IsBlank, Nothing, ◌or◌}
use Rattle.bk_word.specs.WordItem.{IsItemAt, IsItemOf}

-- the parts of a text that holds an item
pub record IsItemText (text before item after : List ℕ) : Type 0 where
  pub whole : text ≡ (before ++ item) ++ after
  pub some : 0 < length item
  pub first : IsBlank (get_or text (length before) 0) → ⊥
  pub last : IsBlank (get_or text (length before + length item - 1) 0) → ⊥
  pub blanks_before : Blanks before
  pub blanks_after : Blanks after
  pub bare : AllByRecursion (λ b. b ≢ 59) text

item_of : (text before item after comment : List ℕ) → IsItemText text before item after → (Nothing or Comment) comment
    → IsItemOf (text ++ comment) before item after comment
item_of text before item after comment h rest = record {
  some = h.some;
  whole = ap (λ (z : List ℕ). z ++ comment) h.whole;
  blanks_before = h.blanks_before;
  blanks_after = h.blanks_after;
  no_comment = all_right (λ b. b ≢ 59) before item (all_left (λ b. b ≢ 59) (before ++ item) after (subst (AllByRecursion (λ b. b ≢ 59)) h.whole h.bare));
  ends_bare = λ front b e blank. h.last (subst IsBlank (sym (last_is front b e)) blank);
  begins_bare = λ b back e blank. h.first (subst IsBlank (sym (first_is b back e)) blank);
  rest = rest;
}
  where
    last_is : (front : List ℕ) (b : ℕ) → item ≡ front ++ b ∷ [] → get_or text (length before + length item - 1) 0 ≡ b
    last_is front b e =
        let n : length item ≡ length front + 1 = ap (λ (z : List ℕ). length z) e ∙ length-append front (b ∷ []) in
        let at : length before + length item - 1 ≡ length before + length front = omega (arith, n) in
        ap (λ (z : List ℕ). get_or z (length before + length item - 1) 0) h.whole
        ∙ ap (λ (k : ℕ). get_or ((before ++ item) ++ after) k 0) at
        ∙ get_or-append_front (before ++ item) after (length before + length front) (omega (arith, n, length-append before item))
        ∙ get_or-append_back before item (length front)
        ∙ ap (λ (z : List ℕ). get_or z (length front) 0) e
        ∙ get_or-snoc_last front b

    first_is : (b : ℕ) (back : List ℕ) → item ≡ b ∷ back → get_or text (length before) 0 ≡ b
    first_is b back e =
        let at : length before ≡ length before + 0 = omega arith in
        ap (λ (z : List ℕ). get_or z (length before) 0) h.whole
        ∙ get_or-append_front (before ++ item) after (length before) (omega (arith, h.some, length-append before item))
        ∙ ap (λ (k : ℕ). get_or (before ++ item) k 0) at
        ∙ get_or-append_back before item 0
        ∙ ap (λ (z : List ℕ). get_or z 0 0) e

-- the item that was found in the text before the comment
pub item_found : (line text : List ℕ) (cut start end : ℕ) → text ≡ take cut line → cut ≤ length line → AllByRecursion (λ b. b ≢ 59) (take cut line)
    → (Nothing or Comment) (drop cut line) → start < end → end ≤ length text
    → Blanks (take start text) → (IsBlank (get_or text start 0) → ⊥) → Blanks (drop end text) → (IsBlank (get_or text (end - 1) 0) → ⊥)
    → IsItemAt line start end
item_found line text cut start end is within bare comment order ends before first after last =
    let n : length text ≡ cut = ap (λ (z : List ℕ). length z) is ∙ length_taken cut line within in
    let front : take start text ≡ take start line = ap (λ (z : List ℕ). take start z) is ∙ take-take start cut line (omega (arith, n)) in
    let slice : slice_range text start end ≡ slice_range line start end = ap (λ (z : List ℕ). slice_range z start end) is ∙ inner in
    let long : length (slice_range text start end) ≡ end - start = length_taken (end - start) (drop start text) (omega (arith, length-drop start text)) in
    let short : length (take start text) ≡ start = length_taken start text (omega arith) in
    let parts : IsItemText text (take start text) (slice_range text start end) (drop end text) = record {
      whole = append-three_parts text start end (omega arith);
      some = omega (arith, long);
      first = λ blank. first (subst (λ (k : ℕ). IsBlank (get_or text k 0)) short blank);
      last = λ blank. last (subst (λ (k : ℕ). IsBlank (get_or text k 0)) (let e : length (take start text) + length (slice_range text start end) - 1
          ≡ end - 1 = omega (arith, long, short) in e) blank);
      blanks_before = before;
      blanks_after = after;
      bare = subst (AllByRecursion (λ b. b ≢ 59)) (sym is) bare;
    } in
    let whole : text ++ drop cut line ≡ line = ap (λ (z : List ℕ). z ++ drop cut line) is ∙ take-append-drop cut line in
    record {
      order = omega arith;
      within = omega (arith, n);
      after = drop end text;
      comment = drop cut line;
      item =
          subst (λ (z : List ℕ). IsItemOf line (take start line) z (drop end text) (drop cut line)) slice
          (subst (λ (z : List ℕ). IsItemOf line z (slice_range text start end) (drop end text) (drop cut line)) front
          (subst (λ (z : List ℕ). IsItemOf z (take start text) (slice_range text start end) (drop end text) (drop cut line)) whole
          (item_of text (take start text) (slice_range text start end) (drop end text) (drop cut line) parts comment)));
    }
  where
    length_taken : (k : ℕ) (xs : List ℕ) → k ≤ length xs → length (take k xs) ≡ k
    length_taken k xs fits = omega (arith, length-take k xs)

    inner : take (end - start) (drop start (take cut line)) ≡ take (end - start) (drop start line)
    inner =
        let n : length text ≡ cut = ap (λ (z : List ℕ). length z) is ∙ length_taken cut line within in
        let split : start + (cut - start) ≡ cut = omega (arith, n) in
        ap (λ (k : ℕ). take (end - start) (drop start (take k line))) (sym split)
        ∙ ap (λ (z : List ℕ). take (end - start) z) (drop-take start (cut - start) line)
        ∙ take-take (end - start) (cut - start) (drop start line) (omega (arith, n))
