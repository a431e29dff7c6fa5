-- Each network line is read as what it stands for.
use Rattle.std.specs.Char.{digit_value}
use Rattle.std.specs.Prelude.{List, None, Some, [], codes, nat_lt, option_map, ℕ, ◌*◌, ◌++◌, ◌+◌, ◌<◌, ◌∷◌, ◌≡◌}
use Rattle.std.proofs.Common.{ap, append_assoc, arith, inl, inr, refl, sym, ◌∙◌}
use Rattle.std.proofs.lemmas.Bool.{and_from, cond-true, lt-ltb}
use Rattle.std.proofs.lemmas.List.{append-nil}
use Rattle.bk_grammar.proofs.Reading.{Reads, reads_parts}
use Rattle.bk_grammar.specs.Grammar.{Blanks, Comment, Is, LineEnd, Nothing, SomeBlanks, ◌or◌, ◌then◌}
use Rattle.bk_net.specs.GatheredWires.{and_wire}
use Rattle.bk_net.specs.NetLine.{IsNetLine, Item, NetLine, NodeNumber, Skip, Wire, Wires}
use Rattle.bk_net.specs.NetReading.{ended_wire, last_wire, net_ending_at, next_net_place, with_digit}
use Rattle.bk_net.specs.declared.reader.NetEnding.{NetEnding}
use Rattle.bk_net.specs.declared.reader.NetEnding.TheVariants.{Empty, Nodes}
use Rattle.bk_net.specs.declared.reader.ByteKind.TheVariants.{Blank, Dash, Digit, Semicolon}
use Rattle.bk_net.specs.declared.reader.Place.{Place}
use Rattle.bk_net.specs.declared.reader.Place.TheVariants.{BehindDash, Between, Comment as InComment, Count, First, Second, Start}
use Rattle.bk_net.proofs.NodeDigits.{Goes_on, number_from}
use Rattle.bk_net.proofs.ReadingAll.{kind_blank, net_kind_of_a_digit, net_line_by_its_ending, net_line_where_one_may_end, net_read_from}
use Rattle.bk_net.proofs.ReadingAll.{net_read_of_a_further_byte}

-- ---- numbers

longer_goes : (v d : ℕ) → 0 < v → v < 100 → with_digit v d ≡ Some (v * 10 + d)
longer_goes v d some few = cond-true _ _ _ (and_from (nat_lt 0 v) (nat_lt v 100) (lt-ltb 0 v some) (lt-ltb v 100 few))

-- places within a number, by its value
pub record HasNumber (at : ℕ → Place) : Type 0 where
  pub goes : (v d : ℕ) → next_net_place (at v) (Digit d) ≡ option_map at (with_digit v d)
  pub keeps : (v d : ℕ) → ended_wire (at v) (Digit d) ≡ None

in_count : HasNumber Count
in_count = record { goes = λ v d. refl; keeps = λ v d. refl }

in_first : (n : ℕ) → HasNumber (First n)
in_first n = record { goes = λ v d. refl; keeps = λ v d. refl }

in_second : (n a : ℕ) → HasNumber (Second n a)
in_second n a = record { goes = λ v d. refl; keeps = λ v d. refl }

digits_read : (at : ℕ → Place) → HasNumber at → (ws : List (ℕ × ℕ)) (v n : ℕ) (ds x : List ℕ) → Goes_on v n ds
    → net_read_from (ds ++ x) (at v) ws ≡ net_read_from x (at n) ws
digits_read at has ws v n [] x h = ap (λ (k : ℕ). net_read_from x (at k) ws) (sym h)
digits_read at has ws v n (c ∷ ds) x h =
    net_read_of_a_further_byte (at v) (at (v * 10 + digit_value c)) (Digit (digit_value c)) ws ws c (ds ++ x) (net_kind_of_a_digit c h.0)
    (has.goes v (digit_value c) ∙ ap (option_map at) (longer_goes v (digit_value c) h.1 h.2)) (ap (λ o. and_wire o ws) (has.keeps v (digit_value c)))
    ∙ digits_read at has ws (v * 10 + digit_value c) n ds x h.3

-- a place at which a number begins
pub record BeginsNumber (p : Place) (at : ℕ → Place) : Type 0 where
  pub begins : (d : ℕ) → next_net_place p (Digit d) ≡ Some (at d)
  pub none : (d : ℕ) → ended_wire p (Digit d) ≡ None
  pub within : HasNumber at

number_read : (p : Place) (at : ℕ → Place) → BeginsNumber p at → (ws : List (ℕ × ℕ)) (n : ℕ) (text x : List ℕ) → Reads (NodeNumber n) text x
    → net_read_from text p ws ≡ net_read_from x (at n) ws
number_read p at b ws n text x (a, h, e) =
    let k = number_from n a h in
    ap (λ (z : List ℕ). net_read_from z p ws) (e ∙ ap (λ (z : List ℕ). z ++ x) k.is)
    ∙ net_read_of_a_further_byte p (at (digit_value k.first)) (Digit (digit_value k.first)) ws ws k.first (k.others ++ x) (net_kind_of_a_digit k.first k.digit)
    (b.begins (digit_value k.first)) (ap (λ o. and_wire o ws) (b.none (digit_value k.first)))
    ∙ digits_read at b.within ws (digit_value k.first) n k.others x k.goes_on

-- ---- blanks

skipped : (p : Place) (ws : List (ℕ × ℕ)) (a x : List ℕ) → next_net_place p Blank ≡ Some p → ended_wire p Blank ≡ None → Blanks a
    → net_read_from (a ++ x) p ws ≡ net_read_from x p ws
skipped p ws [] x next none blanks = refl
skipped p ws (b ∷ a) x next none blanks =
    net_read_of_a_further_byte p p Blank ws ws b (a ++ x) (kind_blank b blanks.0) next (ap (λ o. and_wire o ws) none) ∙ skipped p ws a x next none blanks.1

blanks_read : (p : Place) (ws : List (ℕ × ℕ)) (text x : List ℕ) → next_net_place p Blank ≡ Some p → ended_wire p Blank ≡ None → Reads Blanks text x
    → net_read_from text p ws ≡ net_read_from x p ws
blanks_read p ws text x next none (a, h, e) = ap (λ (z : List ℕ). net_read_from z p ws) e ∙ skipped p ws a x next none h

-- ---- the end of a line

comment_read : (text : List ℕ) (ending : NetEnding) (ws : List (ℕ × ℕ)) → net_read_from text (InComment ending) ws ≡ Some (net_line_by_its_ending ending ws)
comment_read [] ending ws = refl
comment_read (b ∷ bs) ending ws = comment_read bs ending ws

-- a place behind a number of nodes or behind a wire, which ends with any further byte
pub record Closes (p : Place) (n : ℕ) (ws vs : List (ℕ × ℕ)) : Type 0 where
  pub blank : next_net_place p Blank ≡ Some (Between n)
  pub blank_wires : and_wire (ended_wire p Blank) ws ≡ vs
  pub semicolon : next_net_place p Semicolon ≡ Some (InComment (Nodes n))
  pub semicolon_wires : and_wire (ended_wire p Semicolon) ws ≡ vs
  pub end : net_line_where_one_may_end (net_ending_at p) (and_wire (last_wire p) ws) ≡ Some (Item n vs)

count_closes : (n : ℕ) (ws : List (ℕ × ℕ)) → Closes (Count n) n ws ws
count_closes n ws = record { blank = refl; blank_wires = refl; semicolon = refl; semicolon_wires = refl; end = refl }

between_closes : (n : ℕ) (ws : List (ℕ × ℕ)) → Closes (Between n) n ws ws
between_closes n ws = record { blank = refl; blank_wires = refl; semicolon = refl; semicolon_wires = refl; end = refl }

second_closes : (n a b : ℕ) (ws : List (ℕ × ℕ)) → Closes (Second n a b) n ws (ws ++ (a, b) ∷ [])
second_closes n a b ws = record { blank = refl; blank_wires = refl; semicolon = refl; semicolon_wires = refl; end = refl }

bare_end : (p : Place) (n : ℕ) (ws vs : List (ℕ × ℕ)) (x : List ℕ) → Closes p n ws vs → (Nothing or Comment) x → net_read_from x p ws ≡ Some (Item n vs)
bare_end p n ws vs x c (inl e) = ap (λ (z : List ℕ). net_read_from z p ws) e ∙ c.end
bare_end p n ws vs x c (inr (text, e)) =
    ap (λ (z : List ℕ). net_read_from z p ws) e
    ∙ net_read_of_a_further_byte p (InComment (Nodes n)) Semicolon ws vs 59 text refl c.semicolon c.semicolon_wires
    ∙ comment_read text (Nodes n) vs

end_read : (p : Place) (n : ℕ) (ws vs : List (ℕ × ℕ)) (bs : List ℕ) → Closes p n ws vs → LineEnd bs → net_read_from bs p ws ≡ Some (Item n vs)
end_read p n ws vs bs c ([], x, e, blanks, h) = ap (λ (z : List ℕ). net_read_from z p ws) e ∙ bare_end p n ws vs x c h
end_read p n ws vs bs c (b ∷ a, x, e, blanks, h) =
    ap (λ (z : List ℕ). net_read_from z p ws) e
    ∙ net_read_of_a_further_byte p (Between n) Blank ws vs b (a ++ x) (kind_blank b blanks.0) c.blank c.blank_wires
    ∙ skipped (Between n) vs a x refl refl blanks.1
    ∙ bare_end (Between n) n vs vs x (between_closes n vs) h

gap_read : (p : Place) (n : ℕ) (ws vs : List (ℕ × ℕ)) (text x : List ℕ) → Closes p n ws vs → Reads SomeBlanks text x
    → net_read_from text p ws ≡ net_read_from x (Between n) vs
gap_read p n ws vs text x c ([], h, e) = absurd (omega (arith, h.0))
gap_read p n ws vs text x c (b ∷ a, h, e) =
    ap (λ (z : List ℕ). net_read_from z p ws) e
    ∙ net_read_of_a_further_byte p (Between n) Blank ws vs b (a ++ x) (kind_blank b h.1.0) c.blank c.blank_wires
    ∙ skipped (Between n) vs a x refl refl h.1.1

-- ---- wires

wire_read : (n a b : ℕ) (ws : List (ℕ × ℕ)) (text x : List ℕ) → Reads (Wire (a, b)) text x
    → net_read_from text (Between n) ws ≡ net_read_from x (Second n a b) ws
wire_read n a b ws text x r =
    let first = reads_parts (NodeNumber a) (Is (codes "-") then NodeNumber b) text x r in
    let dash = reads_parts (Is (codes "-")) (NodeNumber b) first.0 x first.2 in
    number_read (Between n) (First n) (record { begins = λ d. refl; none = λ d. refl; within = in_first n }) ws a text first.0 first.1
    ∙ dash_read first.0 dash.0 dash.1
    ∙ number_read (BehindDash n a) (Second n a) (record { begins = λ d. refl; none = λ d. refl; within = in_second n a }) ws b dash.0 x dash.2
  where
    dash_read : (text x : List ℕ) → Reads (Is (codes "-")) text x → net_read_from text (First n a) ws ≡ net_read_from x (BehindDash n a) ws
    dash_read text x (c, h, e) = ap (λ (z : List ℕ). net_read_from z (First n a) ws) (e ∙ ap (λ (z : List ℕ). z ++ x) h)
        ∙ net_read_of_a_further_byte (First n a) (BehindDash n a) Dash ws ws 45 x refl refl refl

wires_read : (more : List (ℕ × ℕ)) (p : Place) (n : ℕ) (ws vs : List (ℕ × ℕ)) (bs rest : List ℕ) → Closes p n ws vs → Reads (Wires more) bs rest
    → LineEnd rest → net_read_from bs p ws ≡ Some (Item n (vs ++ more))
wires_read [] p n ws vs bs rest c (a, h, e) end =
    ap (λ (z : List ℕ). net_read_from z p ws) (e ∙ ap (λ (z : List ℕ). z ++ rest) h) ∙ end_read p n ws vs rest c end
    ∙ ap (λ (l : List (ℕ × ℕ)). Some (Item n l)) (sym (append-nil vs))
wires_read ((a, b) ∷ more) p n ws vs bs rest c r end =
    let gap = reads_parts SomeBlanks (Wire (a, b) then Wires more) bs rest r in
    let wire = reads_parts (Wire (a, b)) (Wires more) gap.0 rest gap.2 in
    gap_read p n ws vs bs gap.0 c gap.1
    ∙ wire_read n a b vs gap.0 wire.0 wire.1
    ∙ wires_read more (Second n a b) n vs (vs ++ (a, b) ∷ []) wire.0 rest (second_closes n a b vs) wire.2 end
    ∙ ap (λ (l : List (ℕ × ℕ)). Some (Item n l)) (append_assoc vs ((a, b) ∷ []) more)

-- ---- lines

skip_read : (bs : List ℕ) → LineEnd bs → net_read_from bs Start [] ≡ Some Skip
skip_read bs (a, x, e, blanks, h) = ap (λ (z : List ℕ). net_read_from z Start []) e ∙ skipped Start [] a x refl refl blanks ∙ rest h
  where
    rest : (Nothing or Comment) x → net_read_from x Start [] ≡ Some Skip
    rest (inl f) = ap (λ (z : List ℕ). net_read_from z Start []) f
    rest (inr (text, f)) = ap (λ (z : List ℕ). net_read_from z Start []) f
        ∙ net_read_of_a_further_byte Start (InComment Empty) Semicolon [] [] 59 text refl refl refl
        ∙ comment_read text Empty []

-- each network line is read as what it stands for
pub net_line_is_read : (l : NetLine) (bs : List ℕ) → IsNetLine l bs → net_read_from bs Start [] ≡ Some l
net_line_is_read Skip bs h = skip_read bs h
net_line_is_read (Item n ws) bs (a, x, e, blanks, (text, y, f, number, (wires, z, g, h, end))) =
    blanks_read Start [] bs x refl refl (a, blanks, e)
    ∙ number_read Start Count (record { begins = λ d. refl; none = λ d. refl; within = in_count }) [] n x y (text, number, f)
    ∙ wires_read ws (Count n) n [] [] y z (count_closes n []) (wires, h, g) end
