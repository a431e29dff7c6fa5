-- A line has one answer.
use Rattle.std.proofs.Common.{Bool, List, [], ap, arith, length, refl, subst, sym, ℕ, ◌<◌, ◌∙◌, ◌∷◌, ◌≡◌, ◌≤◌}
use Rattle.std.proofs.lemmas.List.{length-map}
use Rattle.bk_tiling.specs.Tiling.{IsTiling, Tiling}
use Rattle.bk_tiling.specs.declared.Square.{Square}
use Rattle.bk_code.specs.Code.{Code, code_of, flat}
use Rattle.bk_code.proofs.FlatList.{a_flat_list_fixes_a_tiling, flat_is_sides}
use Rattle.bk_profile.proofs.OneRefusal.{a_code_is_refused_in_one_way, a_flat_list_is_refused_in_one_way}
use Rattle.bk_profile.proofs.Division.{flat_refused_has_none}
use Rattle.bk_profile.specs.Refused.{first_sum}
use Rattle.bk_profile.specs.declared.laying.Refusal.{Refusal}
use Rattle.bk_text.specs.CodeLine.{Flat, IsLine, IsNoLine, Item, Line, Skip}
use Rattle.bk_text.proofs.LinesRead.{line_stands_for_one_thing}
use Rattle.bk_sym.proofs.CanonicalLaws.{a_canonical_tiling_is_one}
use Rattle.bk_report.specs.Answers.{tiling_line}
use Rattle.bk_report.specs.Refusals.{refusal_line}
use Rattle.bk_report.proofs.Verdicts.{one_check_line}
use Rattle.bk_report.specs.declared.refusal.Refused.{Refused}
use Rattle.bk_report.specs.declared.refusal.Refused.TheVariants.{Large, Long, Many, Order, Size, Text}
use Rattle.bk_answer.specs.AnswerLaws.{ALineHasOneAnswer}
use Rattle.bk_answer.specs.Item.{AllowsOrder, AllowsSize, HasItem, HasTiling, IsLaidBy, IsStatedBy, side_count}
use Rattle.bk_answer.specs.Refusing.{IsItemRefused, IsLineRefused, IsNotLaid, no_line, not_laid, other_order, other_size, refused_for, refused_item}
use Rattle.bk_answer.specs.Refusing.{too_long, too_many}
use Rattle.bk_answer.specs.declared.command.Command.{Command}
use Rattle.bk_answer.specs.declared.plain.PlainCommand.TheVariants.{Canon, Check}
use Rattle.bk_answer.specs.declared.command.Command.TheVariants.{Memory, Plain}
use Rattle.bk_answer.specs.declared.command.MemoryCommand.TheVariants.{Flow, Solve, Word}
use Rattle.bk_word.specs.Word.{Word as Moves}
use Rattle.bk_lay.proofs.Valleys.{a_tiling_has_one_word as one_word}
use Rattle.bk_report.specs.Listings.{word_line}
use Rattle.bk_answer.proofs.OneNetAnswer.{one_net_answer}
use Rattle.bk_answer.proofs.OneWordAnswer.{one_word_answer}
use Rattle.bk_answer.proofs.TilingsLaid.{code_not_refused, width_is_first_sum}
use Rattle.bk_answer.specs.CodeAnswer.{AnswersCodeLine, IsRefusedBy, answers, any_command, no_item, refuses, too_large}
use Rattle.bk_answer.specs.Telling.{Allows, IsAnswerTo}

-- an item has one tiling, and one cause why it has none
pub one_tiling : (item : Line) (t u : Tiling) → IsLaidBy item t → IsLaidBy item u → t ≡ u
one_tiling Skip t u p q = absurd p
one_tiling (Item order size code) t u p q =
    let same : code_of t ≡ code_of u = p.code_is ∙ sym q.code_is in
    a_flat_list_fixes_a_tiling t u p.tiling q.tiling
    (sym (width_is_first_sum t p.tiling) ∙ ap first_sum same ∙ width_is_first_sum u q.tiling) (ap flat same)
one_tiling (Flat order width height sides) t u p q =
    a_flat_list_fixes_a_tiling t u p.tiling q.tiling (p.width_is ∙ sym q.width_is) (p.flat_is ∙ sym q.flat_is)

one_cause : (item : Line) (r s : Refusal) → IsNotLaid item r → IsNotLaid item s → r ≡ s
one_cause Skip r s p q = absurd p
one_cause (Item order size code) r s p q = a_code_is_refused_in_one_way (first_sum code) code r s p q
one_cause (Flat order width height sides) r s p q = a_flat_list_is_refused_in_one_way width sides r s p q

laid_or_not : (item : Line) (t : Tiling) (r : Refusal) → IsLaidBy item t → IsNotLaid item r → ⊥
laid_or_not Skip t r p q = p
laid_or_not (Item order size code) t r p q = code_not_refused code t r p q
laid_or_not (Flat order width height sides) t r p q = flat_refused_has_none width sides r q t p

-- a tiling has as many squares as its item has sides
squares_count : (t : Tiling) → length (flat (code_of t)) ≡ length t.squares
squares_count t = ap length (flat_is_sides t) ∙ length-map t.squares (λ (q : Square). q.s)

-- a tiling that an item lays has as many squares as the item has sides
pub order_is_sides : (item : Line) (t : Tiling) → IsLaidBy item t → length t.squares ≡ side_count item
order_is_sides Skip t p = absurd p
order_is_sides (Item order size code) t p =
    sym (squares_count t) ∙ ap (λ (c : Code). length (flat c)) p.code_is
order_is_sides (Flat order width height sides) t p = sym (squares_count t) ∙ ap length p.flat_is

-- the causes at an item, where the two kinds of laying that fails are one
pub data ItemCause (item : Line) (r : Refused) : Type 0 where
  by_order : (AllowsOrder item (side_count item) → ⊥) → r ≡ Order (side_count item) → ItemCause item r
  by_laying : (cause : Refusal) → AllowsOrder item (side_count item) → IsNotLaid item cause → r ≡ refused_for cause → ItemCause item r
  by_size : (t : Tiling) → AllowsOrder item (side_count item) → IsLaidBy item t → (AllowsSize item t.width t.height → ⊥)
      → r ≡ Size t.width t.height → ItemCause item r

item_cause : (item : Line) (r : Refused) → IsItemRefused item r → ItemCause item r
item_cause item r (other_order n) = by_order n refl
item_cause item r (not_laid refusal o n) = by_laying refusal o n refl
item_cause item r (other_size t o l n) = by_size t o l n refl

pub data Cause (bytes : List ℕ) (r : Refused) : Type 0 where
  at_long : 8192 < length bytes → r ≡ Long → Cause bytes r
  at_text : (at : ℕ) → length bytes ≤ 8192 → IsNoLine bytes at → r ≡ Text at → Cause bytes r
  at_many : (item : Line) → length bytes ≤ 8192 → IsLine item bytes → 200 < side_count item → r ≡ Many → Cause bytes r
  at_item : (item : Line) → HasItem bytes item → ItemCause item r → Cause bytes r

-- a line that is refused has a cause
pub cause_of : (bytes : List ℕ) (r : Refused) → IsLineRefused bytes r → Cause bytes r
cause_of bytes r (too_long h) = at_long h refl
cause_of bytes r (no_line at h n) = at_text at h n refl
cause_of bytes r (too_many item h l m) = at_many item h l m refl
cause_of bytes r (refused_item item _ has c) = at_item item has (item_cause item r c)

one_item_cause : (item : Line) (r s : Refused) → ItemCause item r → ItemCause item s → r ≡ s
one_item_cause item r s (by_order n e) (by_order m d) = e ∙ sym d
one_item_cause item r s (by_order n e) (by_laying c o h d) = absurd (n o)
one_item_cause item r s (by_order n e) (by_size t o l m d) = absurd (n o)
one_item_cause item r s (by_laying b p g e) (by_order m d) = absurd (m p)
one_item_cause item r s (by_laying b p g e) (by_laying c o h d) = e ∙ ap refused_for (one_cause item b c g h) ∙ sym d
one_item_cause item r s (by_laying b p g e) (by_size t o l m d) = absurd (laid_or_not item t b l g)
one_item_cause item r s (by_size t p l n e) (by_order m d) = absurd (m p)
one_item_cause item r s (by_size t p l n e) (by_laying c o h d) = absurd (laid_or_not item t c l h)
one_item_cause item r s (by_size t p l n e) (by_size u o k m d) = e ∙ ap (λ (z : Tiling). Size z.width z.height) (one_tiling item t u l k) ∙ sym d

one_place : (bytes : List ℕ) (a b : ℕ) → IsNoLine bytes a → IsNoLine bytes b → a ≡ b
one_place bytes a b p q = omega (arith, p.1.longest b q.1.inside q.1.begins, q.1.longest a p.1.inside p.1.begins)

-- a line has one cause of refusal at most
pub one_line_cause : (bytes : List ℕ) (r s : Refused) → Cause bytes r → Cause bytes s → r ≡ s
one_line_cause bytes r s (at_long h e) (at_long k d) = e ∙ sym d
one_line_cause bytes r s (at_long h e) (at_text at k n d) = absurd (omega arith)
one_line_cause bytes r s (at_long h e) (at_many item k l m d) = absurd (omega arith)
one_line_cause bytes r s (at_long h e) (at_item item has c) = absurd (omega (arith, has.short))
one_line_cause bytes r s (at_text at h n e) (at_long k d) = absurd (omega arith)
one_line_cause bytes r s (at_text at h n e) (at_text at' k m d) = e ∙ ap Text (one_place bytes at at' n m) ∙ sym d
one_line_cause bytes r s (at_text at h n e) (at_many item k l m d) = absurd (n.0 (item, l))
one_line_cause bytes r s (at_text at h n e) (at_item item has c) = absurd (n.0 (item, has.meaning))
one_line_cause bytes r s (at_many item h l m e) (at_long k d) = absurd (omega arith)
one_line_cause bytes r s (at_many item h l m e) (at_text at k n d) = absurd (n.0 (item, l))
one_line_cause bytes r s (at_many item h l m e) (at_many other k j n d) = e ∙ sym d
one_line_cause bytes r s (at_many item h l m e) (at_item other has c) =
    absurd (omega (arith, ap side_count (line_stands_for_one_thing bytes item other l has.meaning), has.few))
one_line_cause bytes r s (at_item item has c) (at_long k d) = absurd (omega (arith, has.short))
one_line_cause bytes r s (at_item item has c) (at_text at k n d) = absurd (n.0 (item, has.meaning))
one_line_cause bytes r s (at_item item has c) (at_many other k l m d) =
    absurd (omega (arith, ap side_count (line_stands_for_one_thing bytes other item l has.meaning), has.few))
one_line_cause bytes r s (at_item item has c) (at_item other has' d) =
    one_item_cause item r s c (subst (λ (i : Line). ItemCause i s) (line_stands_for_one_thing bytes other item has'.meaning has.meaning) d)

-- an item that speaks of a tiling is not refused
not_refused_item : (item : Line) (t : Tiling) (r : Refused) → IsStatedBy item t → ItemCause item r → ⊥
not_refused_item item t r st (by_order n e) = n (subst (AllowsOrder item) (order_is_sides item t st.laid) st.order_is)
not_refused_item item t r st (by_laying c o h e) = laid_or_not item t c st.laid h
not_refused_item item t r st (by_size u o l n e) =
    n (subst (λ (z : Tiling). AllowsSize item z.width z.height) (one_tiling item t u st.laid l) st.size_is)

-- a line with an item that states a tiling has no cause of refusal
pub not_refused : (bytes : List ℕ) (item : Line) (t : Tiling) (r : Refused) → HasItem bytes item → IsStatedBy item t → Cause bytes r → ⊥
not_refused bytes item t r has st (at_long h e) = omega (arith, has.short)
not_refused bytes item t r has st (at_text at h n e) = n.0 (item, has.meaning)
not_refused bytes item t r has st (at_many other h l m e) = omega (arith, ap side_count (line_stands_for_one_thing bytes other item l has.meaning), has.few)
not_refused bytes item t r has st (at_item other has' c) =
    not_refused_item item t r st (subst (λ (i : Line). ItemCause i r) (line_stands_for_one_thing bytes other item has'.meaning has.meaning) c)

skip_cause : (r : Refused) → ItemCause Skip r → ⊥
skip_cause r (by_order n e) = n tt
skip_cause r (by_laying c o h e) = h
skip_cause r (by_size t o l n e) = l

-- a line that stands for nothing has no cause of refusal
pub skip_not_refused : (bytes : List ℕ) (r : Refused) → HasItem bytes Skip → Cause bytes r → ⊥
skip_not_refused bytes r has (at_long h e) = omega (arith, has.short)
skip_not_refused bytes r has (at_text at h n e) = n.0 (Skip, has.meaning)
skip_not_refused bytes r has (at_many other h l m e) = omega (arith, ap side_count (line_stands_for_one_thing bytes other Skip l has.meaning), has.few)
skip_not_refused bytes r has (at_item other has' c) =
    skip_cause r (subst (λ (i : Line). ItemCause i r) (line_stands_for_one_thing bytes other Skip has'.meaning has.meaning) c)

-- a line that stands for nothing has no item that states a tiling
pub skip_not_stated : (bytes : List ℕ) (item : Line) (t : Tiling) → HasItem bytes Skip → HasItem bytes item → IsStatedBy item t → ⊥
skip_not_stated bytes item t skip has st = subst (λ (i : Line). IsLaidBy i t) (line_stands_for_one_thing bytes item Skip has.meaning skip.meaning) st.laid

-- a tiling has one answer
same_answer : (command : Command) (t : Tiling) (pieces others : List (List ℕ)) → IsTiling t → IsAnswerTo command t pieces
    → IsAnswerTo command t others → pieces ≡ others
same_answer (Plain Check) t pieces others tiling (line, c, e) (other, d, f) =
    e ∙ ap (λ (l : List ℕ). l ∷ []) (one_check_line t line other tiling c d) ∙ sym f
same_answer (Plain Canon) t pieces others tiling (u, c, e) (v, d, f) = e
    ∙ ap (λ (z : Tiling). tiling_line z ∷ []) (a_canonical_tiling_is_one t u v tiling c d).1 ∙ sym f
same_answer (Memory Word) t pieces others tiling (w, p, e) (v, q, f) = e ∙ ap (λ (z : Moves). word_line z ∷ []) (one_word t w v p q) ∙ sym f
same_answer (Memory Flow) t pieces others tiling e f = absurd e
same_answer (Memory Solve) t pieces others tiling e f = absurd e
same_answer (Plain _) t pieces others tiling e f = e ∙ sym f

-- what an item lays is a tiling
pub laid_by_an_item_is_a_tiling : (item : Line) (t : Tiling) → IsLaidBy item t → IsTiling t
laid_by_an_item_is_a_tiling Skip t p = absurd p
laid_by_an_item_is_a_tiling (Item order size code) t p = p.tiling
laid_by_an_item_is_a_tiling (Flat order width height sides) t p = p.tiling

-- a line has one tiling at most
pub a_line_has_one_tiling : (bytes : List ℕ) (t u : Tiling) → HasTiling bytes t → HasTiling bytes u → u ≡ t
a_line_has_one_tiling bytes t u has has' =
    one_tiling has.item u t
    (subst (λ (i : Line). IsLaidBy i u) (line_stands_for_one_thing bytes has'.item has.item has'.is_item.meaning has.is_item.meaning) has'.stated.laid)
    has.stated.laid

-- why a command refuses a line: a cause that counts for any command, or the tiling is too large
pub data CommandCause (command : Command) (bytes : List ℕ) (r : Refused) : Type 0 where
  by_line : IsLineRefused bytes r → CommandCause command bytes r
  by_tiling : (t : Tiling) → HasTiling bytes t → (Allows command t → ⊥) → r ≡ Large → CommandCause command bytes r

-- a line that a command refuses has a cause for that command
pub command_cause : (command : Command) (bytes : List ℕ) (r : Refused) → IsRefusedBy command bytes r → CommandCause command bytes r
command_cause command bytes r (any_command _ h) = by_line h
command_cause command bytes r (too_large t has n) = by_tiling t has n refl

one_refusal : (command : Command) (bytes : List ℕ) (r s : Refused) → CommandCause command bytes r → CommandCause command bytes s → r ≡ s
one_refusal command bytes r s (by_line h) (by_line k) = one_line_cause bytes r s (cause_of bytes r h) (cause_of bytes s k)
one_refusal command bytes r s (by_line h) (by_tiling t has n e) = absurd (not_refused bytes has.item t r has.is_item has.stated (cause_of bytes r h))
one_refusal command bytes r s (by_tiling t has n e) (by_line k) = absurd (not_refused bytes has.item t s has.is_item has.stated (cause_of bytes s k))
one_refusal command bytes r s (by_tiling t has n e) (by_tiling u has' m d) = e ∙ sym d

skip_kept : (command : Command) (bytes : List ℕ) (r : Refused) → HasItem bytes Skip → CommandCause command bytes r → ⊥
skip_kept command bytes r skip (by_line h) = skip_not_refused bytes r skip (cause_of bytes r h)
skip_kept command bytes r skip (by_tiling t has n e) = skip_not_stated bytes has.item t skip has.is_item has.stated

tiling_kept : (command : Command) (bytes : List ℕ) (t : Tiling) (r : Refused) → HasTiling bytes t → Allows command t → CommandCause command bytes r → ⊥
tiling_kept command bytes t r has allowed (by_line h) = not_refused bytes has.item t r has.is_item has.stated (cause_of bytes r h)
tiling_kept command bytes t r has allowed (by_tiling u has' n e) = n (subst (Allows command) (a_line_has_one_tiling bytes u t has' has) allowed)

one_code_answer : (command : Command) (bytes : List ℕ) (pieces others : List (List ℕ)) (refused other : Bool) → AnswersCodeLine command bytes pieces refused
    → AnswersCodeLine command bytes others other → (pieces ≡ others) × (refused ≡ other)
one_code_answer command bytes pieces others refused other (no_item a) (no_item b) = (refl, refl)
one_code_answer command bytes pieces others refused other (no_item a) (refuses r h) = absurd (skip_kept command bytes r a (command_cause command bytes r h))
one_code_answer command bytes pieces others refused other (no_item a) (answers t _ has _ an) =
    absurd (skip_not_stated bytes has.item t a has.is_item has.stated)
one_code_answer command bytes pieces others refused other (refuses r h) (no_item b) = absurd (skip_kept command bytes r b (command_cause command bytes r h))
one_code_answer command bytes pieces others refused other (refuses r h) (refuses s k) =
    (ap (λ (z : Refused). refusal_line z ∷ []) (one_refusal command bytes r s (command_cause command bytes r h) (command_cause command bytes s k)), refl)
one_code_answer command bytes pieces others refused other (refuses r h) (answers t _ has allowed an) =
    absurd (tiling_kept command bytes t r has allowed (command_cause command bytes r h))
one_code_answer command bytes pieces others refused other (answers t _ has _ an) (no_item b) =
    absurd (skip_not_stated bytes has.item t b has.is_item has.stated)
one_code_answer command bytes pieces others refused other (answers t _ has allowed an) (refuses s k) =
    absurd (tiling_kept command bytes t s has allowed (command_cause command bytes s k))
one_code_answer command bytes pieces others refused other (answers t _ has _ an) (answers u _ has' _ an') = (
  same_answer command t pieces others (laid_by_an_item_is_a_tiling has.item t has.stated.laid) an
      (subst (λ (z : Tiling). IsAnswerTo command z others) (a_line_has_one_tiling bytes t u has has') an'),
  refl,
)

-- a line has one answer at most
pub one_answer : ALineHasOneAnswer
one_answer (Plain command) = one_code_answer (Plain command)
one_answer (Memory Word) = one_code_answer (Memory Word)
one_answer (Memory Flow) = one_net_answer
one_answer (Memory Solve) = one_word_answer
