-- Lines have one listing, so whether some of them is refused rests on the lines alone.
use Rattle.std.specs.Prelude.{false, refl}
use Rattle.std.proofs.Common.{Bool, List, [], ap, arith, subst, sym, ℕ, ◌+◌, ◌∙◌, ◌∷◌, ◌≡◌}
use Rattle.std.proofs.lemmas.Bool.{true≢false}
use Rattle.bk_tiling.specs.Tiling.{Tiling}
use Rattle.bk_text.proofs.LinesRead.{line_stands_for_one_thing}
use Rattle.bk_text.specs.CodeLine.{Line}
use Rattle.bk_sym.proofs.CanonicalLaws.{a_canonical_tiling_is_one}
use Rattle.bk_sym.specs.Canonical.{IsCanonicalOf}
use Rattle.bk_report.specs.ListLines.{refused_line}
use Rattle.bk_report.specs.declared.refusal.Refused.{Refused}
use Rattle.bk_answer.proofs.ItemSteps.{stated_is_a_tiling}
use Rattle.bk_answer.proofs.OneAnswer.{cause_of, not_refused, one_line_cause, one_tiling, skip_not_refused, skip_not_stated}
use Rattle.bk_answer.specs.Item.{HasTiling, IsLaidBy}
use Rattle.bk_ports.specs.Entering.{AreEntered, entering_from}
use Rattle.bk_ports.specs.Lines.{kept_front}
use Rattle.bk_ports.specs.Reply.{Reply, some_refused}
use Rattle.bk_alike.specs.Listed.{HasRefusedLine, Listed, ListsLine, keeps, listing_start, no_more, refuses, skipped}
use Rattle.bk_alike.specs.Listed.{with_item}
use Rattle.bk_alike.specs.OneListing.{LinesHaveOneListing}

-- a line has one tiling
line_tiling : (line : List ℕ) (t u : Tiling) → HasTiling line t → HasTiling line u → t ≡ u
line_tiling line t u one other =
    one_tiling one.item t u one.stated.laid
    (subst (λ (i : Line). IsLaidBy i u) (line_stands_for_one_thing line other.item one.item other.is_item.meaning one.is_item.meaning) other.stated.laid)

-- the reply to a line and the state behind it
abbrev IsOneEntry : List (List ℕ) → List (List ℕ) → Bool → Bool → Listed → Listed → Type 0
IsOneEntry ps qs p q l m = (ps ≡ qs) × (p ≡ q) × (l ≡ m)

module _ (s : Listed) (n : ℕ) where
  -- an accepted line is kept once
  kept_once : (line : List ℕ) (a b c d : Tiling) → HasTiling line a → HasTiling line b → IsCanonicalOf a c → IsCanonicalOf b d
      → with_item s n c ≡ with_item s n d
  kept_once line a b c d has had h k =
      ap (with_item s n)
      (a_canonical_tiling_is_one a c d (stated_is_a_tiling has.item a has.stated) h
      (subst (λ (t : Tiling). IsCanonicalOf t d) (line_tiling line b a had has) k)).1

  -- any line
  line_once : (line : List ℕ) (ps qs : List (List ℕ)) (p q : Bool) (l m : Listed) → ListsLine s n line (record { pieces = ps; refused = p }) l
      → ListsLine s n line (record { pieces = qs; refused = q }) m
      → IsOneEntry ps qs p q l m
  line_once line ps qs p q l m (skipped a) (skipped b) = (refl, refl, refl)
  line_once line ps qs p q l m (skipped a) (refuses r h) = absurd (skip_not_refused line r a (cause_of line r h))
  line_once line ps qs p q l m (skipped a) (keeps b _ has _ _) = absurd (skip_not_stated line has.item b a has.is_item has.stated)
  line_once line ps qs p q l m (skipped a) (no_more b has _) = absurd (skip_not_stated line has.item b a has.is_item has.stated)
  line_once line ps qs p q l m (refuses r h) (skipped b) = absurd (skip_not_refused line r b (cause_of line r h))
  line_once line ps qs p q l m (refuses r h) (refuses c k) =
      (ap (λ (f : Refused). refused_line n f ∷ []) (one_line_cause line r c (cause_of line r h) (cause_of line c k)), refl, refl)
  line_once line ps qs p q l m (refuses r h) (keeps b _ has _ _) = absurd (not_refused line has.item b r has.is_item has.stated (cause_of line r h))
  line_once line ps qs p q l m (refuses r h) (no_more b has _) = absurd (not_refused line has.item b r has.is_item has.stated (cause_of line r h))
  line_once line ps qs p q l m (keeps a _ has _ _) (skipped b) = absurd (skip_not_stated line has.item a b has.is_item has.stated)
  line_once line ps qs p q l m (keeps a _ has _ _) (refuses r k) = absurd (not_refused line has.item a r has.is_item has.stated (cause_of line r k))
  line_once line ps qs p q l m (keeps a c has few h) (keeps b d had less k) = (refl, refl, kept_once line a b c d has had h k)
  line_once line ps qs p q l m (keeps a _ has few _) (no_more b had many) = absurd (omega (arith, few, many))
  line_once line ps qs p q l m (no_more a has _) (skipped b) = absurd (skip_not_stated line has.item a b has.is_item has.stated)
  line_once line ps qs p q l m (no_more a has _) (refuses r k) = absurd (not_refused line has.item a r has.is_item has.stated (cause_of line r k))
  line_once line ps qs p q l m (no_more a has many) (keeps b _ had few _) = absurd (omega (arith, few, many))
  line_once line ps qs p q l m (no_more a has many) (no_more b had more) = (refl, refl, refl)

lines_once : (s l m : Listed) (n : ℕ) (lines : List (List ℕ)) (rs ss : List Reply)
    → AreEntered (entering_from listing_start.rules s n) lines rs l → AreEntered (entering_from listing_start.rules s n) lines ss m
    → (rs ≡ ss) × (l ≡ m)
lines_once s l m n [] [] [] p q = (refl, p ∙ sym q)
lines_once s l m n [] [] (y ∷ ss) p q = absurd q
lines_once s l m n [] (x ∷ rs) ss p q = absurd p
lines_once s l m n (line ∷ lines) [] ss p q = absurd p
lines_once s l m n (line ∷ lines) (x ∷ rs) [] p q = absurd q
lines_once s l m n (line ∷ lines) (x ∷ rs) (y ∷ ss) p q =
    let here = line_once s n (kept_front line) x.pieces y.pieces x.refused y.refused p.0 q.0 p.1 q.1 in
    let rest = lines_once p.0 l m (n + 1) lines rs ss p.2
    (subst (λ (t : Listed). AreEntered (entering_from listing_start.rules t (n + 1)) lines ss m) (sym here.2) q.2) in
    ((λ i. record { pieces = here.0 i; refused = here.1 i } ∷ rest.0 i), rest.1)

-- lines have at most one listing
pub lines_have_one_listing : LinesHaveOneListing
lines_have_one_listing lines rs ss l m one other = lines_once listing_start.state l m 1 lines rs ss one other

-- where no reply is a refusal, no line is refused
pub none_refused : (lines : List (List ℕ)) (rs : List Reply) (last : Listed) → AreEntered listing_start lines rs last
    → some_refused rs ≡ false → HasRefusedLine lines → ⊥
none_refused lines rs last each none h =
    let same = lines_once listing_start.state h.last last 1 lines h.replies rs h.each each in
    true≢false (sym h.some ∙ ap some_refused same.0 ∙ none)
