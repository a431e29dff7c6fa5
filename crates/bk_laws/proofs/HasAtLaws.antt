-- What follows of the item that a list has at a place.
use Rattle.std.proofs.Common.{List, length, slice_index_or, sym, ℕ, ◌<◌, ◌∙◌, ◌≡◌}
use Rattle.std.proofs.lemmas.Option.{get_or_from_slice_get, same_Some, slice_get-get_or, slice_get_within}
use Rattle.bk_laws.specs.HasAt.{HasAt}

-- the item that a list has at a place is read there, whatever stands for an item past the end
pub has_at-read : {A : Type 0} (xs : List A) (k : ℕ) (x d : A) → HasAt xs k x → slice_index_or xs k d ≡ x
has_at-read xs k x d has = get_or_from_slice_get xs k x d has

-- a place at which a list has an item is below the list's length
pub has_at-below : {A : Type 0} (xs : List A) (k : ℕ) (x : A) → HasAt xs k x → k < length xs
has_at-below xs k x has = slice_get_within xs k x has

-- at each place below a list's length the list has the item that is read there
pub has_at-within : {A : Type 0} (xs : List A) (k : ℕ) (d : A) → k < length xs → HasAt xs k (slice_index_or xs k d)
has_at-within xs k d within = slice_get-get_or xs k d within

-- two items that a list has at one place are the same
pub has_at-one : {A : Type 0} (xs : List A) (k : ℕ) (x y : A) → HasAt xs k x → HasAt xs k y → x ≡ y
has_at-one xs k x y first second = same_Some x y (sym first ∙ second)
