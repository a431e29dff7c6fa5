-- What is found under the tiling's key is a member with its tiling, and where nothing is found, the tiling isn't kept.
use Rattle.std.specs.Option.{option_copied}
use Rattle.std.specs.Prelude.{IsSomeAnd, MatchOption, None, Option, Some}
use Rattle.std.proofs.Common.{Bor, List, refl, rules, subst, sym, ℕ, ◌∙◌, ◌≡◌}
use Rattle.bk_verify_report.proofs.Storing.{found_is_kept, missed, same_flat, tells_apart}
use Rattle.bk_verify_report.specs.KeptEntries.{IsKeptFrom, IsNotKept, Kept}
use Rattle.bk_verify_report.specs.declared.kept.Seen.{Seen}
use Rattle.bk_verify_report.proofs.kept.KeptMembers.line_of.Goals as goal

-- the line of what is found, and none where nothing is
line_found : (No : Type 0) (Is : ℕ → Type 0) (Gives : Bor Seen → ℕ → Type 0) (found : Option (Bor Seen)) (line : Option ℕ)
    → ((seen : Bor Seen) (n : ℕ) → Gives seen n → n ≡ seen.now.line)
    → MatchOption found (line ≡ None) (λ seen. IsSomeAnd line (Gives seen))
    → (option_copied found ≡ None → No) → ((seen : Seen) → option_copied found ≡ Some seen → Is seen.line) → MatchOption line No Is
line_found No Is Gives None line of cases none some = subst (λ (l : Option ℕ). MatchOption l No Is) (sym cases) (none refl)
line_found No Is Gives (Some seen) None of cases none some = absurd cases
line_found No Is Gives (Some seen) (Some n) of cases none some = subst Is (sym (of seen n cases)) (some seen.now refl)

pub returns : goal.returns
returns c =
    let stored = c.self.inside.entries.entries in
    let t = c.args.tiling.now in
    line_found (IsNotKept c.args.self.now t) (IsKeptFrom c.args.self.now t) _ c.get.result c.map.result (λ seen n gives. search rules) c.map.ensures.cases
    (λ none. subst (λ (pairs : List Kept). IsNotKept pairs t) c.self.view_is
    (missed same_flat tells_apart c.flat_of.result t c.flat_of.ensures stored c.self.invariant (sym c.get.ensures.value ∙ none)))
    (λ seen is. subst (λ (pairs : List Kept). IsKeptFrom pairs t seen.line) c.self.view_is
    (found_is_kept same_flat tells_apart c.flat_of.result t c.flat_of.ensures stored seen c.self.invariant (sym c.get.ensures.value ∙ is)))
