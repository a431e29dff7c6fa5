-- Three items of two sizes.
use Rattle.std.specs.Prelude.{List, [], refl, ◌∷◌, ◌≡◌}
use Rattle.bk_tiling.proofs.ExampleTilings.{rectangle_3x2, square_2x2}
use Rattle.bk_alike.specs.Alike.{alike_groups, sizes}
use Rattle.bk_alike.specs.declared.item.KeptItem.{KeptItem}

abbrev items : List KeptItem
items = record { line = 1; tiling = rectangle_3x2 } ∷ record { line = 2; tiling = square_2x2 } ∷ record { line = 3; tiling = rectangle_3x2 } ∷ []

sizes-items : sizes items ≡ (3, 2) ∷ (2, 2) ∷ []
sizes-items = refl

groups-items : alike_groups items ≡ (0 ∷ 2 ∷ []) ∷ (1 ∷ []) ∷ []
groups-items = refl
