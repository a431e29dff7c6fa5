-- Counting the places at which something holds.
-- Example (TrialLineExamples): below 2 there is one place that is 1 or more.
use Rattle.std.specs.Prelude.{suc, zero, ℕ, ◌+◌, ◌≡◌, ◌⊎◌}

-- the count rises by one where this holds, and else stays
abbrev pub CountsOn : Type 0 → ℕ → ℕ → Type 0
CountsOn Holds before after = (Holds × (after ≡ before + 1)) ⊎ ((Holds → ⊥) × (after ≡ before))

-- at so many of the places below n this holds
abbrev pub HoldsAtSoMany : (ℕ → Type 0) → ℕ → ℕ → Type 0
HoldsAtSoMany Holds zero count = count ≡ 0
HoldsAtSoMany Holds (suc n) count = (before : ℕ) × HoldsAtSoMany Holds n before × CountsOn (Holds n) before count
