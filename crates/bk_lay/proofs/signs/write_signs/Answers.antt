use Rattle.std.proofs.Common.{List, None, Option, Some, [], ap, arith, get_or, length, lit<, refl, sym, take, ℕ, ◌++◌, ◌+◌, ◌<◌, ◌^◌, ◌∙◌, ◌∷◌, ◌≡◌, ◌≤◌}
use Rattle.std.specs.Prelude.{option_to_list}
use Rattle.std.proofs.lemmas.List.{append-nil, append_assoc, length-append, length-map, length-take-le, map-append, take_all, take_more}
use Rattle.bk_laws.proofs.Outcomes.{option_to_list-at_most_one}
use Rattle.bk_tiling.specs.declared.Square.{Square}
use Rattle.bk_word.specs.declared.Sign.{Sign}
use Rattle.bk_lay.proofs.SignLists.{fewer_signs_than_levels, last_after, last_of_levels, signs_after}
use Rattle.bk_lay.proofs.SquaresAt.{holds_at}
use Rattle.bk_lay.specs.LevelRuns.{bottoms_of}
use Rattle.bk_lay.specs.TilingWord.{signs_between}
use Rattle.bk_lay.proofs.signs.write_signs.Goals as goal

-- no more signs than squares, while levels are told from the left
few : (before : Option ℕ) (squares : List Square) (i : ℕ) → i ≤ length squares
    → length (signs_between (option_to_list before ++ bottoms_of (take i squares))) ≤ i
few before squares i h =
    omega (
      arith,
      fewer_signs_than_levels (option_to_list before ++ bottoms_of (take i squares)),
      length-append (option_to_list before) (bottoms_of (take i squares)),
      length-map (take i squares) (λ (q : Square). q.y + q.s),
      length-take-le i squares h,
      option_to_list-at_most_one before,
    )

-- before the first square there is no sign, and the level is the one at the left
at_first : (before : Option ℕ) → (signs_between (option_to_list before ++ []) ≡ []) × (before ≡ last_of_levels (option_to_list before ++ []))
at_first None = (refl, refl)
at_first (Some level) = (refl, refl)

one_more : (before : Option ℕ) (squares : List Square) (i : ℕ) (d : Square) → i + 1 ≤ length squares
    → option_to_list before ++ bottoms_of (take (i + 1) squares) ≡ (option_to_list before ++ bottoms_of (take i squares))
    ++ ((get_or squares i d).y + (get_or squares i d).s) ∷ []
one_more before squares i d h = ap (λ (l : List Square). option_to_list before ++ bottoms_of l) (take_more squares i d (omega arith))
    ∙ ap (λ (l : List ℕ). option_to_list before ++ l) (map-append (λ (q : Square). q.y + q.s) (take i squares) (get_or squares i d ∷ []))
    ∙ sym (append_assoc (option_to_list before) (bottoms_of (take i squares)) (((get_or squares i d).y + (get_or squares i d).s) ∷ []))

signs_step : (signs more : List Sign) (levels : List ℕ) (last : Option ℕ) (b : ℕ) → more ≡ signs ++ signs_between (option_to_list last ++ b ∷ [])
    → signs ≡ signs_between levels → last ≡ last_of_levels levels → more ≡ signs_between (levels ++ b ∷ [])
signs_step signs more levels last b e f g = e ∙ (λ i. f i ++ signs_between (option_to_list (g i) ++ b ∷ [])) ∙ signs_after levels b

pub push_sign-requires : goal.push_sign-requires
push_sign-requires c = omega (
  arith,
  ap length c.loop-q.invariant.signs,
  few c.args.before c.args.squares.now c.loop-q.q-index (omega arith),
  c.loop-q-test.true,
  c.requires.few,
)

pub loop-q-preserved : goal.loop-q-preserved
loop-q-preserved c =
    let more = one_more c.args.before c.args.squares.now c.loop-q.q-index (record { x = 0; y = 0; s = 0 }) (omega arith) in
    record {
      signs = signs_step c.loop-q.signs.items c.push_sign.new.signs.items
          (option_to_list c.args.before ++ bottoms_of (take c.loop-q.q-index c.args.squares.now)) c.loop-q.last _ c.push_sign.ensures
          c.loop-q.invariant.signs c.loop-q.invariant.last ∙ ap signs_between (sym more);
      last = sym (last_after (option_to_list c.args.before ++ bottoms_of (take c.loop-q.q-index c.args.squares.now)) _) ∙ ap last_of_levels (sym more);
    }

pub push_sign-requires-in-Some : goal.push_sign-requires-in-Some
push_sign-requires-in-Some c = let most = c.loop-q.auto.q-index-end in
    omega (arith, ap length c.loop-q.invariant.signs, few c.args.before c.args.squares.now c.loop-q.q-index most, c.requires.few)

pub returns-in-Some : goal.returns-in-Some
returns-in-Some c =
    let whole : take c.loop-q.q-index c.args.squares.now ≡ c.args.squares.now = take_all c.loop-q.q-index c.args.squares.now c.loop-q-test.false in
    signs_step c.loop-q.signs.items c.push_sign-in-Some.new.signs.items
    (option_to_list c.args.before ++ bottoms_of (take c.loop-q.q-index c.args.squares.now)) c.loop-q.last c.in-Some.level
    c.push_sign-in-Some.ensures c.loop-q.invariant.signs c.loop-q.invariant.last
    ∙ (λ i. signs_between (option_to_list c.args.before ++ bottoms_of (whole i) ++ option_to_list (sym c.in-Some.is i)))

pub clear-requires : goal.clear-requires
clear-requires c = lit< tt

pub loop-q-init : goal.loop-q-init
loop-q-init c = record { signs = c.clear.ensures ∙ sym (at_first c.args.before).0; last = (at_first c.args.before).1 }

pub offset_bounds-squares-q-index : goal.offset_bounds-squares-q-index
offset_bounds-squares-q-index c = omega (arith, c.loop-q-test.true, c.requires.few)

pub overflow_add-bottom : goal.overflow_add-bottom
overflow_add-bottom c = omega (
  arith,
  holds_at (λ q. q.y + q.s < 2 ^ 64) c.args.squares.now c.loop-q.q-index (record { x = 0; y = 0; s = 0 }) c.requires.fit c.loop-q-test.true,
)

pub returns-in_default : goal.returns-in_default
returns-in_default c =
    let whole : take c.loop-q.q-index c.args.squares.now ≡ c.args.squares.now = take_all c.loop-q.q-index c.args.squares.now c.loop-q-test.false in
    c.loop-q.invariant.signs
    ∙ (λ i. signs_between (option_to_list c.args.before ++ bottoms_of (whole i)))
    ∙ ap signs_between (sym (append-nil (option_to_list c.args.before ++ bottoms_of c.args.squares.now)))
    ∙ (λ i. signs_between (option_to_list c.args.before ++ bottoms_of c.args.squares.now ++ option_to_list (sym c.in_default.is i)))
