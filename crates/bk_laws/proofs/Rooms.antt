-- Room that is made in a list between two places, and filled.
use Rattle.std.specs.List.{copy_within, refill, splice}
use Rattle.std.proofs.Common.{List, [], ap, arith, drop, length, length-set, refl, set, sym, take, take_all, ℕ, ◌++◌, ◌+◌, ◌-◌, ◌∙◌, ◌∷◌, ◌≡◌, ◌≤◌}
use Rattle.std.proofs.lemmas.Grind.{take-set_at}
use Rattle.std.proofs.lemmas.List.{drop-drop, drop_at, length-append, length-drop, length-take-le, take-append-le, take-take}
use Rattle.std.proofs.lemmas.List.Edits.{take-paste}
use Rattle.bk_laws.proofs.ListParts.{take-drop_swap}
use Rattle.bk_laws.proofs.ListPlaces.{refill-whole}

-- a list with room made in it, by lengthening it, moving what stands behind and cutting off the rest
pub room-made : {X : Type 0} (old grown shown moved new : List X) (start end room len : ℕ) → start ≤ end → end ≤ length old → len ≡ length old
    → length old ≤ length grown → start + room + (len - end) ≤ length grown → shown ≡ grown → length moved ≡ length shown
    → moved ≡ copy_within shown end len (start + room) → new ≡ take (len - (end - start) + room) (refill (length grown) grown moved)
    → new ≡ take (start + room) grown ++ take (len - end) (drop end grown)
room-made {X = X} old grown shown moved new start end room len order within same long fits e whole copied cut =
    cut ∙ ap (take (len - (end - start) + room)) (refill-whole grown moved (whole ∙ ap length e)) ∙ ap (λ n. take n moved) (omega arith)
    ∙ ap (take (start + room + (len - end))) (copied ∙ ap (λ (l : List X). copy_within l end len (start + room)) e)
    ∙ take-paste grown (start + room) (drop end grown) (len - end) (omega arith) (omega (arith, length-drop end grown))

-- what stands behind a room that was made is what stood behind its place
pub room-behind : {X : Type 0} (old grown new : List X) (start end room len : ℕ) → start ≤ end → end ≤ length old → len ≡ length old
    → start + room + (len - end) ≤ length grown → take (length old) grown ≡ old
    → new ≡ take (start + room) grown ++ take (len - end) (drop end grown) → drop (start + room) new ≡ drop end old
room-behind old grown new start end room len order within same fits front is =
    ap (drop (start + room)) is
    ∙ drop_at (take (start + room) grown) (take (len - end) (drop end grown)) (start + room) (length-take-le (start + room) grown (omega arith))
    ∙ take-drop_swap grown end len (omega arith) ∙ ap (drop end) (ap (λ n. take n grown) same ∙ front)

-- what stands before a room that was made is what stood there
pub room-before : {X : Type 0} (old grown new : List X) (start end room len : ℕ) → start ≤ end → end ≤ length old → start + room + (len - end) ≤ length grown
    → take (length old) grown ≡ old → new ≡ take (start + room) grown ++ take (len - end) (drop end grown) → take start new ≡ take start old
room-before old grown new start end room len order within fits front is =
    ap (take start) is
    ∙ take-append-le start (take (start + room) grown) (take (len - end) (drop end grown)) (omega (arith, length-take-le (start + room) grown (omega arith)))
    ∙ take-take start (start + room) grown (omega arith) ∙ sym (take-take start (length old) grown (omega arith)) ∙ ap (take start) front

-- a list with a room in it is longer by the room
pub room-length : {X : Type 0} (old grown new : List X) (start end room len : ℕ) → start ≤ end → end ≤ length old → len ≡ length old
    → length old ≤ length grown → start + room + (len - end) ≤ length grown
    → new ≡ take (start + room) grown ++ take (len - end) (drop end grown) → length new ≡ length old - (end - start) + room
room-length old grown new start end room len order within same long fits is =
    let behind = length-take-le (len - end) (drop end grown) (omega (arith, length-drop end grown)) in
    ap length is ∙ length-append (take (start + room) grown) (take (len - end) (drop end grown))
    ∙ omega (arith, length-take-le (start + room) grown (omega arith), behind)

-- a room whose last place is written is what stood before and the item
pub room-last_put : {X : Type 0} (room : List X) (place : ℕ) (x : X) → length room ≡ place + 1 → set room place x ≡ take place room ++ x ∷ []
room-last_put room place x e = sym (take_all (place + 1) (set room place x) (omega (arith, length-set room place x, e)))
    ∙ take-set_at room place (place + 1) x refl (omega (arith, e))

-- a room between two places is as long as they are apart
pub room-long : {X : Type 0} (shown new : List X) (p end m : ℕ) → shown ≡ new → end ≤ length new → end ≡ p + m → length (take (end - p) (drop p shown)) ≡ m
room-long shown new p end m same within e =
    length-take-le (end - p) (drop p shown) (omega (arith, length-drop p shown, ap length same)) ∙ omega arith

-- a list with a room into which items were put is spliced
pub room-filled : {X : Type 0} (old made shown put : List X) (start end room m : ℕ) → start ≤ end → end ≤ length old
    → length made ≡ length old - (end - start) + room
    → take start made ≡ take start old → drop (start + room) made ≡ drop end old → shown ≡ made → m ≡ room → length put ≡ length (take m (drop start shown))
    → refill (length made) made (take start shown ++ (put ++ drop m (drop start shown))) ≡ splice old start end put
room-filled old made shown put start end room m order within long front back same e whole =
    let before = ap (take start) same ∙ front in
    let behind = drop-drop m start shown ∙ (λ i. drop (start + e i) (same i)) ∙ back in
    let many = whole ∙ length-take-le m (drop start shown) (omega (arith, length-drop start shown, ap length same, long, e)) ∙ e in
    ap (refill (length made) made) (λ i. before i ++ (put ++ behind i)) ∙ refill-whole made (splice old start end put)
    (length-append (take start old) (put ++ drop end old)
    ∙ omega (arith, long, many, length-append put (drop end old), length-take-le start old (omega arith), length-drop end old))
