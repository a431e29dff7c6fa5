-- A line is listed by its item.
use Rattle.std.specs.Prelude.{Bool, Err, IfOk, Ok, OnErr, Option, Result, ◌↔◌}
use Rattle.std.proofs.Common.{List, [], false, inl, inr, length, subst, sym, true, ℕ, ◌<◌, ◌∷◌, ◌≡◌, ◌≤◌, ◌⊎◌}
use Rattle.std.specs.Io.KnownBytes.{Appends}
use Rattle.std.proofs.KnownBytes.{Keeps-refl}
use Rattle.std.proofs.lemmas.Bool.{cases_lt}
use Rattle.bk_ports.specs.Causes.{AppendsPrefix}
use Rattle.bk_ports.specs.declared.Failed.{Failed}
use Rattle.bk_ports.specs.WrittenAnswer.{HasOutcome, IsAnswerBegun, IsWanting, IsWritten}
use Rattle.bk_ports.specs.declared.Outcome.{Outcome}
use Rattle.bk_ports.specs.declared.Outcome.TheVariants as outcomes
use Rattle.bk_ports.proofs.Pieces.{begins_one, writes_none, writes_one}
use Rattle.bk_tiling.specs.Tiling.{Tiling}
use Rattle.bk_report.specs.ListLines.{refused_line}
use Rattle.bk_report.specs.declared.refusal.Refused.{Refused}
use Rattle.bk_alike.specs.declared.AddFault.{AddFault}
use Rattle.bk_alike.specs.declared.AddFault.TheVariants.{Full, NoMemory}
use Rattle.bk_text.specs.CodeLine.{Skip}
use Rattle.bk_answer.specs.Item.{HasItem, HasTiling}
use Rattle.bk_answer.specs.Refusing.{IsLineRefused}
use Rattle.bk_sym.specs.Canonical.{IsCanonicalOf}
use Rattle.bk_report.specs.declared.refusal.Refused.TheVariants.{More}
use Rattle.bk_alike.specs.Listed.{Listed, ListsLine, MayWantItem, keeps, no_more, refuses, skipped, with_item, with_refused}

-- the line of a refusal was written
pub refused_outcome : (answers : List (List ℕ) → Bool → Type 0) (wants : Type 0) (line : List ℕ) (a b : Option (List ℕ)) (r : Result Outcome Failed)
    → answers (line ∷ []) true
    → IfOk r (λ o. (o ≡ outcomes.Refused) × Appends a b line) → IfOk r (HasOutcome answers wants a b)
refused_outcome answers wants line a b (Ok o) h ok = subst (HasOutcome answers wants a b) (sym ok.0) (writes_one answers true line a b h ok.1)
refused_outcome answers wants line a b (Err f) h ok = tt

-- a write of the line of a refusal failed
pub refused_begun : (answers : List (List ℕ) → Bool → Type 0) (line : List ℕ) (a b : Option (List ℕ)) (r : Result Outcome Failed) → answers (line ∷ []) true
    → OnErr r (AppendsPrefix a b line) → OnErr r (IsAnswerBegun answers a b)
refused_begun answers line a b (Ok o) h err = tt
refused_begun answers line a b (Err f) h err = begins_one answers true line a b h err

-- a line without an item
pub skipped_line : (s next : Listed) (number : ℕ) (bytes : List ℕ) (a : Option (List ℕ)) → HasItem bytes Skip → next ≡ s
    → IsWritten (λ pieces refused. ListsLine s number bytes (record { pieces = pieces; refused = refused }) next) a a false
skipped_line s next number bytes a none is =
    subst (λ (n : Listed). IsWritten (λ pieces refused. ListsLine s number bytes (record { pieces = pieces; refused = refused }) n) a a false) (sym is)
    (writes_none (λ pieces refused. ListsLine s number bytes (record { pieces = pieces; refused = refused }) s) false a (skipped none))

-- the tiling of a line is kept
pub kept_line : (s next : Listed) (number : ℕ) (bytes : List ℕ) (t c : Tiling) (a : Option (List ℕ)) → HasTiling bytes t
    → length s.items < 16384 → IsCanonicalOf t c → next ≡ with_item s number c
    → IsWritten (λ pieces refused. ListsLine s number bytes (record { pieces = pieces; refused = refused }) next) a a false
kept_line s next number bytes t c a has few canon is =
    subst (λ (n : Listed). IsWritten (λ pieces refused. ListsLine s number bytes (record { pieces = pieces; refused = refused }) n) a a false) (sym is)
    (writes_none (λ pieces refused. ListsLine s number bytes (record { pieces = pieces; refused = refused }) (with_item s number c)) false a
    (keeps t c has few canon))

-- a line whose tiling comes where 16,384 items are kept is refused
pub full_line : (s next : Listed) (number : ℕ) (bytes : List ℕ) (t : Tiling) → HasTiling bytes t → 16384 ≤ length s.items → next ≡ with_refused s
    → ListsLine s number bytes (record { pieces = refused_line number More ∷ []; refused = true }) next
full_line s next number bytes t has full is =
    subst (λ (n : Listed). ListsLine s number bytes (record { pieces = refused_line number More ∷ []; refused = true }) n) (sym is)
    (no_more t has full)

-- where a call that keeps an item doesn't say that 16,384 are kept, fewer are
pub fewer_items_kept_unless_full : (n : ℕ) (r : Result (Unit {0}) AddFault) → (r ≡ Err Full → ⊥) → (r ≡ Err Full) ↔ (16384 ≤ n) → n < 16384
fewer_items_kept_unless_full n r other full = by (cases_lt n 16384)
  where
    by : (n < 16384) ⊎ (16384 ≤ n) → n < 16384
    by (inl few) = few
    by (inr many) = absurd (other (full.1 many))

-- a call that kept an item doesn't say that 16,384 are kept
pub kept_apart : (r : Result (Unit {0}) AddFault) (done : Unit {0}) → r ≡ Ok done → r ≡ Err Full → ⊥
kept_apart r done is e = absurd (cc)

-- a call for which memory is wanting doesn't say that 16,384 items are kept
pub wanting_apart : (r : Result (Unit {0}) AddFault) → r ≡ Err NoMemory → r ≡ Err Full → ⊥
wanting_apart r is e = absurd (cc)

-- memory was wanting at an accepted line
pub memory_wanting_at_an_accepted_line : (s : Listed) (number : ℕ) (bytes : List ℕ) (t : Tiling) (a : Option (List ℕ)) → HasTiling bytes t
    → length s.items < 16384
    → IsWanting (MayWantItem s number bytes) a a
memory_wanting_at_an_accepted_line s number bytes t a has few = record { cause = (t, has, few); kept = Keeps-refl a }

-- a refused line
pub refused_entry : (s next : Listed) (number : ℕ) (bytes : List ℕ) (refused : Refused) → IsLineRefused bytes refused → next ≡ with_refused s
    → ListsLine s number bytes (record { pieces = refused_line number refused ∷ []; refused = true }) next
refused_entry s next number bytes refused h is =
    subst (λ (n : Listed). ListsLine s number bytes (record { pieces = refused_line number refused ∷ []; refused = true }) n)
    (sym is)
    (refuses refused h)
