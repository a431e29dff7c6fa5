-- The places of the signs from a place on stand in front of the digits.
use Rattle.std.proofs.Common.{List, ap, arith, drop, get_or, length, map, refl, sym, ℕ, ◌*◌, ◌++◌, ◌+◌, ◌-◌, ◌/◌, ◌<◌, ◌^◌, ◌∙◌, ◌∷◌, ◌≡◌, ◌≤◌}
use Rattle.std.proofs.lemmas.List.{drop_more, length-append, length-drop, length-map}
use Rattle.bk_word.specs.Word.{sign_place}
use Rattle.bk_word.specs.declared.Sign.{Sign}
use Rattle.bk_packed.specs.Packed.{begun_by}
use Rattle.bk_packed.proofs.BaseFour.{digit_before}
use Rattle.bk_packed.proofs.digits.signs_before.Goals as goal

-- one place more is in front
one_more : (signs : List Sign) (i n b unit : ℕ) (d : Sign) (ds : List ℕ) → 0 < i → i ≤ length signs → length signs + length ds ≤ 64 → unit ≡ 4 ^ 63
    → b ≡ sign_place (get_or signs (i - 1) d) → n ≡ begun_by 64 (map sign_place (drop i signs) ++ ds)
    → b * unit + n / 4 ≡ begun_by 64 (map sign_place (drop (i - 1) signs) ++ ds)
one_more signs i n b unit d ds some within few u is so_far =
    let same : i - 1 + 1 ≡ i = omega (arith, some) in
    let rest = map sign_place (drop i signs) ++ ds in
    digit_before b n unit rest room u so_far
    ∙ ap (λ z. begun_by 64 (z ∷ rest)) is
    ∙ ap (λ k. begun_by 64 (sign_place (get_or signs (i - 1) d) ∷ (map sign_place (drop k signs) ++ ds))) (sym same)
    ∙ ap (λ v. begun_by 64 (map sign_place v ++ ds)) (sym (drop_more signs (i - 1) d (omega (arith, some, within))))
  where
    room : length (map sign_place (drop i signs) ++ ds) ≤ 63
    room = omega (
      arith,
      some,
      within,
      few,
      length-append (map sign_place (drop i signs)) ds,
      length-map (drop i signs) sign_place,
      length-drop i signs,
    )

pub signs-preserved : goal.signs-preserved
signs-preserved c = record {
  within = omega (arith, c.signs.invariant.within);
  sum = λ ds few behind. one_more c.args.signs.now c.signs.i c.signs.number c.from.result _ _ ds c.signs-test.true
      c.signs.invariant.within few refl (c.from.ensures ∙ c.sign_place.ensures) (c.signs.invariant.sum ds few behind);
}
