use Rattle.std.proofs.Common.{Some, [], ap, arith, drop, length, slice_get, slice_index_or, sym, ℕ, ◌++◌, ◌+◌, ◌-◌, ◌<◌, ◌∙◌, ◌∷◌, ◌≡◌, ◌≤◌}
use Rattle.std.proofs.lemmas.List.{drop_more}
use Rattle.std.proofs.lemmas.Option.{slice_get-get_or}
use Rattle.bk_laws.proofs.AllOfLists.{all-slice_get}
use Rattle.bk_word.specs.Outline.{start}
use Rattle.bk_word.specs.Play.{IsLegal, outline_of}
use Rattle.bk_word.specs.Word.{Move, Word, order_of}
use Rattle.bk_word.proofs.PlayLaws.{at_most_one_sign_more_than_squares}
use Rattle.bk_word.proofs.WordCuts.{legal_at}
use Rattle.bk_packed.specs.Packed.{begun_by, move_digits, packed, word_digits}
use Rattle.bk_packed.proofs.WordDigits.{digits_behind, few_digits, low_counts}
use Rattle.bk_packed.proofs.packed.number_with.Goals as goal

-- the move at a place
abbrev move_at : Word → ℕ → Move
move_at w i = slice_index_or w i (record { count = 0; signs = [] })

-- the move before place i
last : (w : Word) (i : ℕ) → 0 < i → i ≤ length w → slice_get w (i - 1) ≡ Some (move_at w (i - 1))
last w i some within = slice_get-get_or w (i - 1) (record { count = 0; signs = [] }) (omega (arith, some, within))

-- the count of the move before place i is that of a legal move of few squares
counted : (w : Word) (i count : ℕ) → IsLegal w → order_of w ≤ 16 → 0 < i → i ≤ length w
    → ((m : Move) → slice_get w (i - 1) ≡ Some m → count ≡ m.count) → (0 < count) × (count ≤ 16)
counted w i count legal few some within is =
    let here = last w i some within in
    let same = is (move_at w (i - 1)) here in (
      omega (arith, same, (legal_at start w (i - 1) (move_at w (i - 1)) legal here).some),
      omega (arith, same, all-slice_get (λ (m : Move). m.count ≤ 16) w (i - 1) (move_at w (i - 1)) (low_counts 16 w few) here),
    )

pub move_before-number-requires-clause-some : goal.move_before-number-requires-clause-some
move_before-number-requires-clause-some c = (counted c.args.skel.now c.moves.i c.count_at.result c.requires.legal (omega (arith, c.requires.few))
    c.moves-test.true c.moves.invariant.within c.count_at.ensures).0

pub move_before-number-requires-clause-few : goal.move_before-number-requires-clause-few
move_before-number-requires-clause-few c = (counted c.args.skel.now c.moves.i c.count_at.result c.requires.legal (omega (arith, c.requires.few))
    c.moves-test.true c.moves.invariant.within c.count_at.ensures).1

-- the digits of a move and of those behind it have room
room : (c : goal.After-move_before-number) → length c.signs_at.result.now
    + length (word_digits (drop c.moves.i c.args.skel.now ++ c.args.m.now ∷ [])) + 2 ≤ 64
room c =
    let w = c.args.skel.now in
    let here = last w c.moves.i c.moves-test.true c.moves.invariant.within in
    let same : c.moves.i - 1 + 1 ≡ c.moves.i = omega (arith, c.moves-test.true) in
    omega (
      arith,
      ap length (c.signs_at.ensures (move_at w (c.moves.i - 1)) here),
      digits_behind w c.args.m.now (c.moves.i - 1) (move_at w (c.moves.i - 1)) here,
      ap (λ k. length (word_digits (drop k w ++ c.args.m.now ∷ []))) same,
      few_digits start w c.requires.legal,
      at_most_one_sign_more_than_squares (outline_of w) c.args.m.now c.requires.next,
      c.requires.next.some,
      c.requires.few,
    )

pub moves-preserved : goal.moves-preserved
moves-preserved c =
    let w = c.args.skel.now in
    let m = move_at w (c.moves.i - 1) in
    let here = last w c.moves.i c.moves-test.true c.moves.invariant.within in
    let same : c.moves.i - 1 + 1 ≡ c.moves.i = omega (arith, c.moves-test.true) in
    record {
      within = omega (arith, c.moves.invariant.within);
      sum = c.move_before-number.ensures (word_digits (drop c.moves.i w ++ c.args.m.now ∷ [])) (room c) c.moves.invariant.sum
          ∙ (λ i. begun_by 64 (move_digits (record { count = c.count_at.ensures m here i; signs = c.signs_at.ensures m here i })
          ++ word_digits (drop c.moves.i w ++ c.args.m.now ∷ [])))
          ∙ ap (λ k. packed (m ∷ (drop k w ++ c.args.m.now ∷ []))) (sym same)
          ∙ ap (λ (v : Word). packed (v ++ c.args.m.now ∷ []))
          (sym (drop_more w (c.moves.i - 1) (record { count = 0; signs = [] }) (omega (arith, c.moves-test.true, c.moves.invariant.within))));
    }
