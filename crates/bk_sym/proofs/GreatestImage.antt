-- Each tiling has a canonical tiling: one of its images in lowest terms that lie is the greatest.
use Rattle.std.specs.Cmp.Lexicographic.{slice_cmp}
use Rattle.std.specs.Ordering.{is_le, nat_cmp}
use Rattle.std.proofs.Common.{arith, false, get_or, inl, inr, refl, subst, suc, true, zero, ℕ, ◌+◌, ◌<◌, ◌≡◌, ◌⊎◌}
use Rattle.std.proofs.lemmas.Bool.{both_ways, cases_Bool, cases_lt}
use Rattle.bk_code.specs.Code.{code_of, flat}
use Rattle.bk_tiling.specs.Tiling.{Tiling}
use Rattle.bk_sym.proofs.Greatest.{IsGreatestSoFar, at_most-refl, at_most-total, canonical_from, so_far-more, so_far-none, so_far-same}
use Rattle.bk_sym.specs.Canonical.{IsAtMost, IsCanonicalOf, Lies, scaled_down_tiling}
use Rattle.bk_sym.specs.Image.{image}
use Rattle.bk_sym.specs.ImageLaws.{EveryTilingHasACanonical}
use Rattle.bk_sym.specs.Turns.{turns}
use Rattle.bk_sym.specs.declared.Turn.{Turn}
use Rattle.bk_sym.specs.declared.Turn.TheVariants.{Same, Swap}

at_most_or : (t u : Tiling) → IsAtMost t u ⊎ (IsAtMost t u → ⊥)
at_most_or t u = cases (cases_Bool (is_le (slice_cmp nat_cmp (flat (code_of t)) (flat (code_of u)))))
  where
    cases : (is_le (slice_cmp nat_cmp (flat (code_of t)) (flat (code_of u))) ≡ true)
        ⊎ (is_le (slice_cmp nat_cmp (flat (code_of t)) (flat (code_of u))) ≡ false) → IsAtMost t u ⊎ (IsAtMost t u → ⊥)
    cases (inl e) = inl e
    cases (inr e) = inr (λ most. both_ways (is_le (slice_cmp nat_cmp (flat (code_of t)) (flat (code_of u)))) e most)

module _ (s : Tiling) (first : Turn) (lies : Lies (image first s)) where
  -- the greatest of the first image and of those by k turns
  one_more : (k : ℕ) → (c : Tiling) × IsGreatestSoFar s first turns k c → (c : Tiling) × IsGreatestSoFar s first turns (k + 1) c
  one_more k (c, far) =
      cases (cases_lt (image (get_or turns k Same) s).width (image (get_or turns k Same) s).height) (at_most_or (image (get_or turns k Same) s) c)
    where
      cases : ((image (get_or turns k Same) s).width < (image (get_or turns k Same) s).height) ⊎ Lies (image (get_or turns k Same) s)
          → IsAtMost (image (get_or turns k Same) s) c ⊎ (IsAtMost (image (get_or turns k Same) s) c → ⊥)
          → (c : Tiling) × IsGreatestSoFar s first turns (k + 1) c
      cases a (inl most) = (c, so_far-same s first turns k c c far (λ _. most) refl)
      cases (inl stands) (inr later) = (c, so_far-same s first turns k c c far (λ h. absurd (omega (arith, h, stands))) refl)
      cases (inr lying) (inr later) = (
        image (get_or turns k Same) s,
        so_far-more s first turns k c (image (get_or turns k Same) s) (image (get_or turns k Same) s) far refl lying (inr refl)
            (at_most-total (image (get_or turns k Same) s) c later) (at_most-refl (image (get_or turns k Same) s)),
      )

  greatest : (k : ℕ) → (c : Tiling) × IsGreatestSoFar s first turns k c
  greatest zero = (image first s, so_far-none s first turns (image first s) refl lies)
  greatest (suc k) = let more = one_more k (greatest k) in (more.0, subst (λ (n : ℕ). IsGreatestSoFar s first turns n more.0) (omega arith) more.1)

-- each tiling has a canonical tiling
pub every_tiling_has_a_canonical : EveryTilingHasACanonical
every_tiling_has_a_canonical t tiling = cases (cases_lt (scaled_down_tiling t).width (scaled_down_tiling t).height)
  where
    from : (first : Turn) → Lies (image first (scaled_down_tiling t)) → (c : Tiling) × IsCanonicalOf t c
    from first lies = let found = greatest (scaled_down_tiling t) first lies 8 in
        (found.0, canonical_from t (scaled_down_tiling t) found.0 first refl found.1)

    cases : ((scaled_down_tiling t).width < (scaled_down_tiling t).height) ⊎ Lies (scaled_down_tiling t) → (c : Tiling) × IsCanonicalOf t c
    cases (inr lies) = from Same lies
    cases (inl stands) = from Swap (omega (arith, stands))
