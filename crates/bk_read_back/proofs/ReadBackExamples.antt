-- The item of the rectangle of three squares.
use Rattle.std.specs.Prelude.{Some, [], refl, ◌∷◌, ◌≡◌}
use Rattle.bk_tiling.proofs.ExampleTilings.{rectangle_3x2}
use Rattle.bk_tiling.proofs.TilingTest.{tiling_from_test}
use Rattle.bk_text.specs.CodeLine.{Item}
use Rattle.bk_answer.specs.Item.{IsStatedBy}
use Rattle.bk_read_back.specs.ReadBack.{item_of}

item-3x2 : item_of rectangle_3x2 ≡ Item (Some 3) (Some (3, 2)) ((2 ∷ 1 ∷ []) ∷ (1 ∷ []) ∷ [])
item-3x2 = refl

-- it speaks of that rectangle
stated-3x2 : IsStatedBy (item_of rectangle_3x2) rectangle_3x2
stated-3x2 = record { laid = record { tiling = tiling_from_test rectangle_3x2 refl; code_is = refl }; order_is = refl; size_is = (refl, refl) }
