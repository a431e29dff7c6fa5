-- What a verifier tells of an entry is true, and what it keeps are the first entries.
use Rattle.std.specs.List.{AllByRecursion}
use Rattle.std.proofs.Common.{Contains, List, [], ap, append_assoc, arith, inl, inr, refl, subst, suc, sym, zero, ℕ, ◌++◌, ◌∙◌, ◌∷◌, ◌≡◌, ◌≢◌, ◌⊎◌}
use Rattle.std.proofs.lemmas.List.Elements.{Contains-push_cases}
use Rattle.bk_laws.proofs.AllOfLists.{all_append, all_left, all_right}
use Rattle.bk_laws.proofs.Membership.{all-contains}
use Rattle.bk_tiling.specs.Tiling.{IsTiling, Tiling}
use Rattle.bk_sym.proofs.CanonicalLaws.{a_canonical_tiling_is_one}
use Rattle.bk_word.specs.declared.Class.TheVariants.{Perfect}
use Rattle.bk_catalogue.specs.Catalogue.{IsMember}
use Rattle.bk_verify_report.specs.KeptEntries.{IsFed, IsKeptFrom, IsNotKept, Kept, EntriesState}
use Rattle.bk_verify_report.specs.Verify.{Accepted, AreNotOf, IsFirstOf, IsOf}
use Rattle.bk_verify_report.specs.VerifyLaws.{AVerifierTellsTheTruth, IsFirstLine, IsTrueOf, KeepsFirsts, MissingOnesAreNotKept, TruthsStay}
use Rattle.bk_verify_report.specs.declared.entries.Fed.{Fed}
use Rattle.bk_verify_report.specs.declared.entries.Fed.TheVariants.{Foreign, New, Repeats}

-- the first entry stays the first where more follow
first_stays : (entries more : List Accepted) (u : Tiling) (first : Accepted) → IsFirstOf entries u first → IsFirstOf (entries ++ more) u first
first_stays entries more u first is = record {
  before = is.before;
  after = is.after ++ more;
  place = ap (λ (l : List Accepted). l ++ more) is.place ∙ append_assoc is.before (first ∷ is.after) more;
  same = is.same;
  none_before = is.none_before;
}

line_stays : (entries more : List Accepted) (u : Tiling) (line : ℕ) → IsFirstLine entries u line → IsFirstLine (entries ++ more) u line
line_stays entries more u line is = record { first = is.first; is_first = first_stays entries more u is.first is.is_first; line_is = is.line_is }

-- what is true of an entry stays true when entries follow
pub truths_stay : TruthsStay
truths_stay n entries more e New is = record { tiling = is.tiling; member = is.member; first = first_stays entries more is.tiling e is.first }
truths_stay n entries more e (Repeats earlier) is = record {
  tiling = is.tiling;
  same = is.same;
  member = is.member;
  first = is.first;
  is_first = first_stays entries more is.tiling is.first is.is_first;
  line = is.line;
  other = is.other;
}
truths_stay n entries more e Foreign is = is

-- what is kept holds the first entries; then an entry is fed
module _ (n : ℕ) (pairs : List Kept) (entries : List Accepted) (keeps : KeepsFirsts n entries pairs) where
  -- an entry of a member that isn't kept is the first
  first_sight : (e : Accepted) (u : Tiling) → IsMember n Perfect u → IsOf u e → IsNotKept pairs u → IsFirstOf (entries ++ e ∷ []) u e
  first_sight e u member same new = record { before = entries; after = []; place = refl; same = same; none_before = keeps.all u member new }

  -- the line of a kept member is not that of an entry behind
  other_line : (e : Accepted) (u : Tiling) (line : ℕ) → AllByRecursion (λ f. f.line ≢ e.line) entries → IsFirstLine entries u line → line ≢ e.line
  other_line e u line apart is same =
      let there = is.is_first in
      let later : AllByRecursion (λ (f : Accepted). f.line ≢ e.line) (is.first ∷ there.after) =
      all_right (λ (f : Accepted). f.line ≢ e.line) there.before (is.first ∷ there.after)
      (subst (AllByRecursion (λ (f : Accepted). f.line ≢ e.line)) there.place apart)
      in later.0 (sym is.line_is ∙ same)

-- what is kept where a member is fed that isn't kept
module _ (n : ℕ) (pairs : List Kept) (entries : List Accepted) (keeps : KeepsFirsts n entries pairs) (e : Accepted) (tiling : IsTiling e.tiling)
    (u : Tiling) (member : IsMember n Perfect u) (same : IsOf u e) where
  one : (v : Tiling) → IsOf v e → v ≡ u
  one v is = (a_canonical_tiling_is_one e.tiling v u tiling is same).1

  keeps_new : IsNotKept pairs u → KeepsFirsts n (entries ++ e ∷ []) (pairs ++ record { line = e.line; tiling = u } ∷ [])
  keeps_new new = record {
    firsts = λ v line from. cases v line (Contains-push_cases pairs (record { line = e.line; tiling = u }) (record { line = line; tiling = v }) from);
    all = λ v is not. all_append (λ f. IsOf v f → ⊥) entries (e ∷ [])
        (keeps.all v is (all_left (λ (p : Kept). p.tiling ≢ v) pairs (record { line = e.line; tiling = u } ∷ []) not))
        ((λ of. (all_right (λ (p : Kept). p.tiling ≢ v) pairs (record { line = e.line; tiling = u } ∷ []) not).0 (sym (one v of))), tt);
  }
    where
      cases : (v : Tiling) (line : ℕ) → Contains pairs (record { line = line; tiling = v })
          ⊎ (◌≡◌ {A = Kept} (record { line = e.line; tiling = u }) (record { line = line; tiling = v })) → IsFirstLine (entries ++ e ∷ []) v line
      cases v line (inl from) = line_stays entries (e ∷ []) v line (keeps.firsts v line from)
      cases v line (inr it) = record {
        first = e;
        is_first = subst (λ (w : Tiling). IsFirstOf (entries ++ e ∷ []) w e) (ap (λ (p : Kept). p.tiling) it)
            (first_sight n pairs entries keeps e u member same new);
        line_is = ap (λ (p : Kept). p.line) (sym it);
      }

  keeps_again : (line : ℕ) → IsKeptFrom pairs u line → KeepsFirsts n (entries ++ e ∷ []) pairs
  keeps_again line kept = record {
    firsts = λ v other from. line_stays entries (e ∷ []) v other (keeps.firsts v other from);
    all = λ v is not. all_append (λ f. IsOf v f → ⊥) entries (e ∷ []) (keeps.all v is not)
        ((λ of. all-contains (λ (p : Kept). p.tiling ≢ v) pairs (record { line = line; tiling = u }) not kept (sym (one v of))), tt);
  }

keeps_foreign : (n : ℕ) (pairs : List Kept) (entries : List Accepted) (e : Accepted) → KeepsFirsts n entries pairs
    → ((u : Tiling) → IsOf u e → IsMember n Perfect u → ⊥) → KeepsFirsts n (entries ++ e ∷ []) pairs
keeps_foreign n pairs entries e keeps not = record {
  firsts = λ v line from. line_stays entries (e ∷ []) v line (keeps.firsts v line from);
  all = λ v is new. all_append (λ f. IsOf v f → ⊥) entries (e ∷ []) (keeps.all v is new) ((λ of. not v of is), tt);
}

told : (old : EntriesState) (entries : List Accepted) (e : Accepted) (fed : Fed) (new : EntriesState) → IsTiling e.tiling
    → AllByRecursion (λ f. f.line ≢ e.line) entries
    → KeepsFirsts old.order entries old.pairs → IsFed old e.line e.tiling fed new → IsTrueOf old.order (entries ++ e ∷ []) e fed
told old entries e New new tiling apart keeps is =
    let sight = is.sight in
    let u = sight.tiling in
    record {
      tiling = u;
      member = (sight.stands).member;
      first = first_sight old.order old.pairs entries keeps e u (sight.stands).member
          (sight.stands).canonical sight.new;
    }
told old entries e (Repeats line) new tiling apart keeps is =
    let again = is.0 in
    let first = keeps.firsts again.tiling line again.kept in
    record {
      tiling = again.tiling;
      same = (again.stands).canonical;
      member = (again.stands).member;
      first = first.first;
      is_first = first_stays entries (e ∷ []) again.tiling first.first first.is_first;
      line = first.line_is;
      other = other_line old.order old.pairs entries keeps e again.tiling line apart first;
    }
told old entries e Foreign new tiling apart keeps is = λ u of member. is.0 u (record { canonical = of; member = member })

kept : (old : EntriesState) (entries : List Accepted) (e : Accepted) (fed : Fed) (new : EntriesState) → IsTiling e.tiling
    → KeepsFirsts old.order entries old.pairs
    → IsFed old e.line e.tiling fed new → KeepsFirsts new.order (entries ++ e ∷ []) new.pairs
kept old entries e New new tiling keeps is =
    let sight = is.sight in
    subst (λ (s : EntriesState). KeepsFirsts s.order (entries ++ e ∷ []) s.pairs) (sym is.taken)
    (keeps_new old.order old.pairs entries keeps e tiling sight.tiling (sight.stands).member (sight.stands).canonical sight.new)
kept old entries e (Repeats line) new tiling keeps is =
    let again = is.0 in
    subst (λ (s : EntriesState). KeepsFirsts s.order (entries ++ e ∷ []) s.pairs) (sym is.1)
    (keeps_again old.order old.pairs entries keeps e tiling again.tiling (again.stands).member (again.stands).canonical line again.kept)
kept old entries e Foreign new tiling keeps is =
    subst (λ (s : EntriesState). KeepsFirsts s.order (entries ++ e ∷ []) s.pairs) (sym is.1)
    (keeps_foreign old.order old.pairs entries e keeps (λ u of member. is.0 u (record { canonical = of; member = member })))

-- what a verifier tells of an entry is true, and what it keeps are the first entries
pub a_verifier_tells_the_truth : AVerifierTellsTheTruth
a_verifier_tells_the_truth = record { at_first = nothing; told = told; kept = kept }
  where
    nothing : (n : ℕ) → KeepsFirsts n [] []
    nothing n = record { firsts = λ u line from. absurd (omega (arith, from.1)); all = λ u is new. tt }

-- a tiling that no entry has isn't among those that are kept
none_kept : (u : Tiling) (entries : List Accepted) (pairs : List Kept) → ((line : ℕ) → IsKeptFrom pairs u line → ⊥) → IsNotKept pairs u
none_kept u entries [] not = tt
none_kept u entries (p ∷ pairs) not = (
  λ e. not p.line (zero, omega arith, λ i. record { line = p.line; tiling = e i }),
  none_kept u entries pairs (λ line from. not line (suc from.0, omega (arith, from.1), from.2)),
)

-- a perfect member is not kept exactly where no entry has it as its canonical tiling
pub missing_ones_are_not_kept : MissingOnesAreNotKept
missing_ones_are_not_kept n entries pairs u keeps member = (keeps.all u member, λ none. none_kept u entries pairs (λ line from. unseen line from none))
  where
    unseen : (line : ℕ) → IsKeptFrom pairs u line → AreNotOf u entries → ⊥
    unseen line from none =
        let is = (keeps.firsts u line from).is_first in
        (all_right (λ (f : Accepted). IsOf u f → ⊥) is.before ((keeps.firsts u line from).first ∷ is.after) (subst (AreNotOf u) is.place none)).0 is.same
