use Rattle.std.proofs.Common.{IsTrue, [], ap, arith, count_by, length, nat_eq, ℕ, ◌++◌, ◌∙◌, ◌∷◌, ◌≡◌}
use Rattle.std.proofs.lemmas.Bool.Decides.{nat_tests}
use Rattle.std.proofs.lemmas.List.{length-append}
use Rattle.bk_word.specs.Signs.{is_even}
use Rattle.bk_word.specs.Word.{Move}
use Rattle.bk_word.proofs.StoredBytes.{order_append}
use Rattle.bk_free_search.proofs.NextWords.Cutting.{one_segment}
use Rattle.bk_free_search.proofs.Asks.JoinedSegments.{all_even, one_left}
use Rattle.bk_free_search.proofs.joining.leaves_one_early.Goals as goal

same_told : (a b : ℕ) → IsTrue (nat_eq a b) → a ≡ b
same_told a b e = grind (arith, nat_tests)

pub returns : goal.returns
returns c even = one_segment c.args.order (c.args.skel.now ++ c.args.m.now ∷ [])
    (omega (arith, length-append c.args.skel.now (c.args.m.now ∷ [])))
    (omega (
      arith,
      order_append c.args.skel.now (c.args.m.now ∷ []),
      c.requires.one,
      c.order.ensures.value,
      c.from.ensures,
      c.if-order-from.false,
    ))
    (one_left c.args.skel.now c.args.m.now c.requires.word c.requires.legal c.requires.one
    (omega (arith, c.if-signs-len.false, ap length c.signs.ensures, c.len.ensures.value, ap (λ (m : Move). length m.signs) c.m.view_is))
    (all_even c.args.m.now.signs (omega (
      arith,
      same_told c.evens_in.result c.len-2.result even,
      c.evens_in.ensures,
      ap (count_by is_even) (c.as_slice.ensures.items ∙ ap (λ (m : Move). m.signs) c.m.view_is),
      c.len-2.ensures.value,
      ap (λ (m : Move). length m.signs) c.m.view_is,
    ))))
