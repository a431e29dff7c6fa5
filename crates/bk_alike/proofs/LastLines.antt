-- The lines of the groups or of the pairs, and the last line behind them.
use Rattle.std.specs.List.{concat, flat_map}
use Rattle.std.specs.Result.{IsErrAnd}
use Rattle.std.specs.Prelude.{OnErr, OnOk, Result}
use Rattle.std.specs.Io.KnownBytes.{Appends}
use Rattle.std.proofs.Common.{List, [], Option, ap, length, subst, ℕ, ◌∙◌, ◌∷◌, ◌≡◌}
use Rattle.bk_ports.specs.Causes.{AppendsPrefix}
use Rattle.bk_pair.specs.declared.Kind.{Kind}
use Rattle.bk_alike.specs.Alike.{alike_groups, sizes}
use Rattle.bk_alike.specs.declared.item.KeptItem.{KeptItem}
use Rattle.bk_report.specs.ListLines.{alike_line, pairs_line}
use Rattle.bk_alike.specs.GroupsEnd.{closing_lines, group_lines}
use Rattle.bk_alike.specs.Listed.{Listed}
use Rattle.bk_alike.specs.Pairs.{all_pairs}
use Rattle.bk_alike.specs.WrittenLines.{WritesLines}
use Rattle.bk_alike.specs.declared.Wanted.TheVariants.{Groups, Pairs}
use Rattle.bk_alike.proofs.WrittenLines.{broken_before, last_written}
use Rattle.bk_alike.proofs.ListLoops.{lines_broken_by_a_failed_call}
use Rattle.bk_alike.proofs.GroupMembers.{length-groups}

-- a write failed at the groups
pub groups_broken : {T E : Type 0} (Q : E → Type 0) (s : Listed) (items : List KeptItem) (a c : Option (List ℕ)) (r : Result T E) → IsErrAnd r Q
    → items ≡ s.items
    → AppendsPrefix a c (concat (flat_map (group_lines items) (sizes items))) → WritesLines (closing_lines Groups s) a c r
groups_broken Q s items a c r is e h =
    lines_broken_by_a_failed_call _ (closing_lines Groups s) a c r is
    (broken_before (flat_map (group_lines s.items) (sizes s.items)) (alike_line (length (sizes s.items)) (length s.items) s.refused ∷ []) a c
    (subst (λ (l : List KeptItem). AppendsPrefix a c (concat (flat_map (group_lines l) (sizes l)))) e h))

-- the groups are written, and the call for the last line tells how it ended
pub groups_closed : {T E : Type 0} (s : Listed) (items : List KeptItem) (groups many refused : ℕ) (piece : List ℕ) (a b c : Option (List ℕ))
    (r : Result T E) → items ≡ s.items
    → Appends a b (concat (flat_map (group_lines items) (sizes items))) → groups ≡ length (alike_groups items) → many ≡ length items
    → refused ≡ s.refused → piece ≡ alike_line groups many refused
    → OnOk r (Appends b c piece) → OnErr r (AppendsPrefix b c piece) → WritesLines (closing_lines Groups s) a c r
groups_closed s items groups many refused piece a b c r e first g m t p ok err =
    let g' = g ∙ length-groups items (sizes items) ∙ ap (λ (l : List KeptItem). length (sizes l)) e in
    let m' = m ∙ ap (λ (l : List KeptItem). length l) e in
    last_written (flat_map (group_lines s.items) (sizes s.items)) (alike_line (length (sizes s.items)) (length s.items) s.refused) piece a b c r
    (subst (λ (l : List KeptItem). Appends a b (concat (flat_map (group_lines l) (sizes l)))) e first)
    (p ∙ (λ i. alike_line (g' i) (m' i) (t i))) ok err

-- a write failed at the pairs
pub pairs_cut : {T E : Type 0} (Q : E → Type 0) (kind : Kind) (s : Listed) (items : List KeptItem) (a c : Option (List ℕ)) (r : Result T E) → IsErrAnd r Q
    → items ≡ s.items
    → AppendsPrefix a c (concat (all_pairs kind items)) → WritesLines (closing_lines (Pairs kind) s) a c r
pairs_cut Q kind s items a c r is e h =
    lines_broken_by_a_failed_call _ (closing_lines (Pairs kind) s) a c r is
    (broken_before (all_pairs kind s.items) (pairs_line (length (all_pairs kind s.items)) (length s.items) s.refused ∷ []) a c
    (subst (λ (l : List KeptItem). AppendsPrefix a c (concat (all_pairs kind l))) e h))

-- the pairs are written, and the call for the last line tells how it ended
pub pairs_closed : {T E : Type 0} (kind : Kind) (s : Listed) (items : List KeptItem) (pairs many refused : ℕ) (piece : List ℕ)
    (a b c : Option (List ℕ)) (r : Result T E) → items ≡ s.items
    → Appends a b (concat (all_pairs kind items)) → pairs ≡ length (all_pairs kind items) → many ≡ length items → refused ≡ s.refused
    → piece ≡ pairs_line pairs many refused
    → OnOk r (Appends b c piece) → OnErr r (AppendsPrefix b c piece) → WritesLines (closing_lines (Pairs kind) s) a c r
pairs_closed kind s items pairs many refused piece a b c r e first g m t p ok err =
    let g' = g ∙ ap (λ (l : List KeptItem). length (all_pairs kind l)) e in
    let m' = m ∙ ap (λ (l : List KeptItem). length l) e in
    last_written (all_pairs kind s.items) (pairs_line (length (all_pairs kind s.items)) (length s.items) s.refused) piece a b c r
    (subst (λ (l : List KeptItem). Appends a b (concat (all_pairs kind l))) e first)
    (p ∙ (λ i. pairs_line (g' i) (m' i) (t i))) ok err
