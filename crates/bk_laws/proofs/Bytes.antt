-- Bytes that are appended to a sink or consumed from a source.
use Rattle.std.specs.Io.KnownBytes.{Appends, Consumes, Keeps}
use Rattle.std.specs.List.{concat}
use Rattle.std.proofs.Common.{List, None, Option, Some, [], ap, drop, refl, subst, sym, take, ℕ, ◌++◌, ◌+◌, ◌∙◌, ◌∷◌, ◌≡◌}
use Rattle.std.proofs.Math.Seq.{take-add}
use Rattle.std.proofs.lemmas.List.{append-nil, append_assoc}

-- what appends a piece appends the concatenation of that piece alone
pub appends-one_piece : (line piece : List ℕ) (a b : Option (List ℕ)) → piece ≡ line → Appends a b piece → Appends a b (concat (line ∷ []))
appends-one_piece line piece a b is w = subst (λ (l : List ℕ). Appends a b l) (is ∙ sym (append-nil line)) w

-- bytes that are not written to stay
pub keeps-itself : (bytes : Option (List ℕ)) → Keeps bytes bytes
keeps-itself None = tt
keeps-itself (Some xs) = refl

-- one write after another appends both parts
pub appends-then : (a b c : Option (List ℕ)) (xs ys zs : List ℕ) → Appends a b xs → Appends b c ys → zs ≡ xs ++ ys → Appends a c zs
appends-then None b c xs ys zs p q e = tt
appends-then (Some old) None c xs ys zs p q e = absurd p
appends-then (Some old) (Some bs) None xs ys zs p q e = absurd q
appends-then (Some old) (Some bs) (Some cs) xs ys zs p q e = q ∙ ap (λ (l : List ℕ). l ++ ys) p ∙ append_assoc old xs ys ∙ ap (λ (l : List ℕ). old ++ l) (sym e)

-- one read after another consumes both parts
pub consumes-then : (a b c : Option (List ℕ)) (xs ys zs : List ℕ) → Consumes a b xs → Consumes b c ys → zs ≡ xs ++ ys → Consumes a c zs
consumes-then None b c xs ys zs p q e = tt
consumes-then (Some old) None c xs ys zs p q e = absurd p
consumes-then (Some old) (Some bs) None xs ys zs p q e = absurd q
consumes-then (Some old) (Some bs) (Some cs) xs ys zs p q e = p ∙ ap (λ (l : List ℕ). xs ++ l) q ∙ sym (append_assoc xs ys cs)
    ∙ ap (λ (l : List ℕ). l ++ cs) (sym e)

-- a write of the first items and one of the next ones append the first of both counts
pub appends-next_part : (a b c : Option (List ℕ)) (xs : List ℕ) (done count : ℕ) → Appends a b (take done xs) → Appends b c (take count (drop done xs))
    → Appends a c (take (done + count) xs)
appends-next_part a b c xs done count p q = appends-then a b c (take done xs) (take count (drop done xs)) (take (done + count) xs) p q (take-add done count xs)

-- what is kept has nothing appended
pub appends-nothing_where_kept : (a b : Option (List ℕ)) → Keeps a b → Appends a b []
appends-nothing_where_kept None b k = tt
appends-nothing_where_kept (Some xs) None k = absurd k
appends-nothing_where_kept (Some xs) (Some ys) k = k ∙ sym (append-nil xs)

-- nothing is appended to bytes that stay
pub appends-nothing : (a : Option (List ℕ)) → Appends a a []
appends-nothing None = tt
appends-nothing (Some xs) = sym (append-nil xs)

-- a read of no byte consumes nothing
pub consumes-nothing : (m n : Option (List ℕ)) (bytes : List ℕ) (count : ℕ) → count ≡ 0 → Consumes m n (take count bytes) → Consumes m n []
consumes-nothing m n bytes count none read = subst (λ (k : ℕ). Consumes m n (take k bytes)) none read
