-- A list has one report: its lines have one list of entries, of each line one thing is told, and one list of members is missing.
use Rattle.std.proofs.Common.{List, [], ap, arith, inl, inr, length, refl, subst, sym, ℕ, ◌+◌, ◌++◌, ◌<◌, ◌∙◌, ◌∷◌, ◌≡◌, ◌⊎◌}
use Rattle.std.specs.Prelude.{count_by, flat_map}
use Rattle.bk_laws.proofs.Membership.{all-contains}
use Rattle.bk_tiling.specs.Tiling.{IsTiling, Tiling}
use Rattle.bk_sym.proofs.CanonicalLaws.{a_canonical_tiling_is_one}
use Rattle.bk_sym.specs.Canonical.{IsCanonicalOf}
use Rattle.bk_text.specs.CodeLine.{Skip}
use Rattle.bk_word.specs.declared.Class.TheVariants.{Perfect}
use Rattle.bk_catalogue.specs.Catalogue.{Entry, IsEntry}
use Rattle.bk_ports.specs.Lines.{kept_front}
use Rattle.bk_report.specs.ListLines.{faults, verified_line}
use Rattle.bk_report.specs.declared.listing_lines.Last.TheVariants.{End}
use Rattle.bk_report.specs.declared.list_reports.ReportCounts.{ReportCounts}
use Rattle.bk_report.specs.declared.refusal.Refused.{Refused}
use Rattle.bk_answer.proofs.OneAnswer.{a_line_has_one_tiling, cause_of, laid_by_an_item_is_a_tiling, not_refused, one_line_cause, skip_not_refused}
use Rattle.bk_answer.proofs.OneAnswer.{skip_not_stated}
use Rattle.bk_answer.specs.Item.{HasItem}
use Rattle.bk_answer.specs.Refusing.{IsLineRefused}
use Rattle.bk_verify_report.specs.Verify.{Accepted, AreNotOf, IsFirstOf, IsForeign, IsNew, IsOf, IsRepeat}
use Rattle.bk_verify_report.proofs.OneAscending.{order_has_one_number_of_members, same_ascending}
use Rattle.bk_verify_report.specs.Report.{HasFault, IsReport, missing_line_of}
use Rattle.bk_verify_report.specs.ReportLaw.{AListHasOneReport}
use Rattle.bk_verify_report.specs.Told.{AreEntries, AreTold, HasEntry, IsTold, IsToldOf, Told, accepted, foreign, is_foreign, is_line_refused, is_repeat}
use Rattle.bk_verify_report.specs.Told.{no_line}
use Rattle.bk_verify_report.specs.Told.{nothing, passed, refused, repeats, texts_from}

-- lines have one list of entries
same_entries : (k : ℕ) (lines : List (List ℕ)) (es fs : List Accepted) → AreEntries k lines es → AreEntries k lines fs → es ≡ fs
same_entries k ls es fs (no_line _) (no_line _) = refl
same_entries k ls es fs (accepted _ line lines t rest h a) (accepted _ _ _ u more g b) =
    let here : u ≡ t = a_line_has_one_tiling (kept_front line) t u h g in
    let later : rest ≡ more = same_entries (k + 1) lines rest more a b in
    ap (λ (x : Tiling). record { line = k; tiling = x } ∷ rest) (sym here) ∙ ap (λ (l : List Accepted). record { line = k; tiling = u } ∷ l) later
same_entries k ls es fs (accepted _ line lines t rest h a) (passed _ _ _ _ none b) = absurd (none t h)
same_entries k ls es fs (passed _ line lines _ none a) (accepted _ _ _ u more g b) = absurd (none u g)
same_entries k ls es fs (passed _ line lines _ none a) (passed _ _ _ _ not b) = same_entries (k + 1) lines es fs a b

-- a tiling has one first entry
module _ (u : Tiling) where
  same_split : (xs ys more others : List Accepted) (a b : Accepted) → xs ++ a ∷ more ≡ ys ++ b ∷ others → IsOf u a → IsOf u b
      → AreNotOf u xs → AreNotOf u ys → a ≡ b
  same_split [] [] more others a b e p q x y = cc
  same_split [] (c ∷ ys) more others a b e p q x y =
      let same : a ≡ c = cc in absurd (y.0 (subst (λ (z : Accepted). IsOf u z) same p))
  same_split (c ∷ xs) [] more others a b e p q x y =
      let same : b ≡ c = cc in absurd (x.0 (subst (λ (z : Accepted). IsOf u z) same q))
  same_split (c ∷ xs) (d ∷ ys) more others a b e p q x y =
      let rest : xs ++ a ∷ more ≡ ys ++ b ∷ others = cc in same_split xs ys more others a b rest p q x.1 y.1

  one_first : (entries : List Accepted) (a b : Accepted) → IsFirstOf entries u a → IsFirstOf entries u b → a ≡ b
  one_first entries a b p q =
      same_split p.before q.before p.after q.after a b (sym p.place ∙ q.place) p.same q.same p.none_before q.none_before

-- of a line only one thing is true
module _ (n : ℕ) (entries : List Accepted) (number : ℕ) (line : List ℕ) where
  new_not_foreign : HasEntry number line (IsNew n entries) → HasEntry number line (IsForeign n) → ⊥
  new_not_foreign e f =
      let same : f.tiling ≡ e.tiling = a_line_has_one_tiling line e.tiling f.tiling e.has f.has in
      f.is e.is.tiling (subst (λ (t : Tiling). IsCanonicalOf t e.is.tiling) (sym same) e.is.first.same) e.is.member

  new_not_repeat : (earlier : ℕ) → HasEntry number line (IsNew n entries) → HasEntry number line (λ e. IsRepeat n entries e earlier) → ⊥
  new_not_repeat earlier e f =
      let same : f.tiling ≡ e.tiling = a_line_has_one_tiling line e.tiling f.tiling e.has f.has in
      let tiling : IsTiling e.tiling = laid_by_an_item_is_a_tiling e.has.item e.tiling e.has.stated.laid in
      let one : f.is.tiling ≡ e.is.tiling =
      (a_canonical_tiling_is_one e.tiling f.is.tiling e.is.tiling tiling (subst (λ (t : Tiling). IsCanonicalOf t f.is.tiling) same f.is.same)
      e.is.first.same).1 in
      let first : f.is.first ≡ record { line = number; tiling = e.tiling } =
      one_first e.is.tiling entries f.is.first (record { line = number; tiling = e.tiling })
      (subst (λ (u : Tiling). IsFirstOf entries u f.is.first) one f.is.is_first) e.is.first in
      f.is.other (f.is.line ∙ ap (λ (x : Accepted). x.line) first)

  nothing_foreign : HasItem line Skip ⊎ HasEntry number line (IsNew n entries) → HasEntry number line (IsForeign n) → ⊥
  nothing_foreign (inl skip) f = skip_not_stated line f.has.item f.tiling skip f.has.is_item f.has.stated
  nothing_foreign (inr e) f = new_not_foreign e f

  nothing_repeats : (earlier : ℕ) → HasItem line Skip ⊎ HasEntry number line (IsNew n entries)
      → HasEntry number line (λ e. IsRepeat n entries e earlier) → ⊥
  nothing_repeats earlier (inl skip) f = skip_not_stated line f.has.item f.tiling skip f.has.is_item f.has.stated
  nothing_repeats earlier (inr e) f = new_not_repeat earlier e f

  nothing_refused : (cause : Refused) → HasItem line Skip ⊎ HasEntry number line (IsNew n entries) → IsLineRefused line cause → ⊥
  nothing_refused cause (inl skip) h = skip_not_refused line cause skip (cause_of line cause h)
  nothing_refused cause (inr e) h = not_refused line e.has.item e.tiling cause e.has.is_item e.has.stated (cause_of line cause h)

  foreign_not_repeat : (earlier : ℕ) → HasEntry number line (IsForeign n) → HasEntry number line (λ e. IsRepeat n entries e earlier) → ⊥
  foreign_not_repeat earlier f e =
      let same : e.tiling ≡ f.tiling = a_line_has_one_tiling line f.tiling e.tiling f.has e.has in
      f.is e.is.tiling (subst (λ (t : Tiling). IsCanonicalOf t e.is.tiling) same e.is.same) e.is.member

  one_earlier : (a b : ℕ) → HasEntry number line (λ e. IsRepeat n entries e a) → HasEntry number line (λ e. IsRepeat n entries e b) → a ≡ b
  one_earlier a b e f =
      let same : f.tiling ≡ e.tiling = a_line_has_one_tiling line e.tiling f.tiling e.has f.has in
      let tiling : IsTiling e.tiling = laid_by_an_item_is_a_tiling e.has.item e.tiling e.has.stated.laid in
      let one : f.is.tiling ≡ e.is.tiling =
      (a_canonical_tiling_is_one e.tiling f.is.tiling e.is.tiling tiling (subst (λ (t : Tiling). IsCanonicalOf t f.is.tiling) same f.is.same) e.is.same).1 in
      let first : f.is.first ≡ e.is.first =
      one_first e.is.tiling entries f.is.first e.is.first (subst (λ (u : Tiling). IsFirstOf entries u f.is.first) one f.is.is_first) e.is.is_first in
      e.is.line ∙ sym (f.is.line ∙ ap (λ (x : Accepted). x.line) first)

  entry_not_refused : (Is : Accepted → Type 0) (cause : Refused) → HasEntry number line Is → IsLineRefused line cause → ⊥
  entry_not_refused Is cause e h = not_refused line e.has.item e.tiling cause e.has.is_item e.has.stated (cause_of line cause h)

  one_told : (told other : Told) → IsTold n entries number line told → IsTold n entries number line other → told ≡ other
  one_told nothing nothing p q = refl
  one_told nothing foreign p q = absurd (nothing_foreign p q)
  one_told nothing (repeats e) p q = absurd (nothing_repeats e p q)
  one_told nothing (refused c) p q = absurd (nothing_refused c p q)
  one_told foreign nothing p q = absurd (nothing_foreign q p)
  one_told foreign foreign p q = refl
  one_told foreign (repeats e) p q = absurd (foreign_not_repeat e p q)
  one_told foreign (refused c) p q = absurd (entry_not_refused (IsForeign n) c p q)
  one_told (repeats d) nothing p q = absurd (nothing_repeats d q p)
  one_told (repeats d) foreign p q = absurd (foreign_not_repeat d q p)
  one_told (repeats d) (repeats e) p q = ap repeats (one_earlier d e p q)
  one_told (repeats d) (refused c) p q = absurd (entry_not_refused (λ e. IsRepeat n entries e d) c p q)
  one_told (refused b) nothing p q = absurd (nothing_refused b q p)
  one_told (refused b) foreign p q = absurd (entry_not_refused (IsForeign n) b q p)
  one_told (refused b) (repeats e) p q = absurd (entry_not_refused (λ f. IsRepeat n entries f e) b q p)
  one_told (refused b) (refused c) p q = ap refused (one_line_cause line b c (cause_of line b p) (cause_of line c q))

-- of all lines one thing is told
same_tolds : (n : ℕ) (entries : List Accepted) (k : ℕ) (lines : List (List ℕ)) (ts us : List Told) → AreTold n entries k lines ts
    → AreTold n entries k lines us → ts ≡ us
same_tolds n entries k [] [] [] p q = refl
same_tolds n entries k [] [] (u ∷ us) p q = absurd q
same_tolds n entries k [] (t ∷ ts) us p q = absurd p
same_tolds n entries k (line ∷ lines) [] us p q = absurd p
same_tolds n entries k (line ∷ lines) (t ∷ ts) [] p q = absurd q
same_tolds n entries k (line ∷ lines) (t ∷ ts) (u ∷ us) p q =
    let here : t ≡ u = one_told n entries k (kept_front line) t u p.0 q.0 in
    let later : ts ≡ us = same_tolds n entries (k + 1) lines ts us p.1 q.1 in
    λ i. here i ∷ later i

one_told_of : (n : ℕ) (lines : List (List ℕ)) (tolds others : List Told) → IsToldOf n lines tolds → IsToldOf n lines others → tolds ≡ others
one_told_of n lines tolds others p q =
    same_tolds n p.entries 1 lines tolds others p.told
    (subst (λ (es : List Accepted). AreTold n es 1 lines others) (same_entries 1 lines q.entries p.entries q.are_entries p.are_entries) q.told)

-- two reports on the same lines
module _ (n : ℕ) (lines : List (List ℕ)) (c d : ReportCounts) (a b : List ℕ) (r : IsReport n lines c a) (s : IsReport n lines d b) where
  same_list : s.begins.told.entries ≡ r.begins.told.entries
  same_list = same_entries 1 lines s.begins.told.entries r.begins.told.entries s.begins.told.are_entries r.begins.told.are_entries

  tolds : r.begins.tolds ≡ s.begins.tolds
  tolds = one_told_of n lines r.begins.tolds s.begins.tolds r.begins.told s.begins.told

  missing : r.begins.missing ≡ s.begins.missing
  missing =
      same_ascending r.begins.missing s.begins.missing r.begins.first_missing.ascending s.begins.first_missing.ascending
      (λ e in_r. s.all_missing e (all-contains (IsEntry n Perfect) r.begins.missing e r.begins.first_missing.each in_r)
      (subst (λ (es : List Accepted). AreNotOf e.tiling es) (sym same_list)
      (all-contains (λ f. AreNotOf f.tiling r.begins.told.entries) r.begins.missing e r.begins.first_missing.none in_r)))
      (λ e in_s. r.all_missing e (all-contains (IsEntry n Perfect) s.begins.missing e s.begins.first_missing.each in_s)
      (subst (λ (es : List Accepted). AreNotOf e.tiling es) same_list
      (all-contains (λ f. AreNotOf f.tiling s.begins.told.entries) s.begins.missing e s.begins.first_missing.none in_s)))

  counts : c ≡ d
  counts = λ i. record {
    members = order_has_one_number_of_members n c.members d.members r.members s.members i;
    missing = (r.missing_is ∙ ap (λ (l : List Entry). length l) missing ∙ sym s.missing_is) i;
    foreign = (r.foreign_is ∙ ap (λ (l : List Told). count_by is_foreign l) tolds ∙ sym s.foreign_is) i;
    repeated = (r.repeated_is ∙ ap (λ (l : List Told). count_by is_repeat l) tolds ∙ sym s.repeated_is) i;
    refused = (r.refused_is ∙ ap (λ (l : List Told). count_by is_line_refused l) tolds ∙ sym s.refused_is) i;
  }

  fronts : r.front ≡ s.front
  fronts = r.begins.text ∙ (λ i. texts_from 1 (tolds i) ++ flat_map missing_line_of (missing i)) ∙ sym s.begins.text

  same_text : r.front ++ verified_line End n c [] ≡ s.front ++ verified_line End n d []
  same_text = λ i. fronts i ++ verified_line End n (counts i) []

  one_report : (c ≡ d) × (a ≡ b)
  one_report = (counts, r.text ∙ same_text ∙ sym s.text)

-- a list has one thing told of each line and one report
pub a_list_has_one_report : AListHasOneReport
a_list_has_one_report = record { told = one_told_of; report = one_report }

-- where some report on the lines counts a fault, each of them does
pub a_fault_is_there : (n : ℕ) (lines : List (List ℕ)) (counts : ReportCounts) (bytes : List ℕ) → IsReport n lines counts bytes → HasFault n lines
    → 0 < faults counts
a_fault_is_there n lines counts bytes report h =
    omega (arith, h.some, ap faults (one_report n lines counts h.counts bytes h.bytes report h.report).0)
