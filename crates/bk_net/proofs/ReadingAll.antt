-- The reader of a network line with all its wires, however many there are; the reader in the code keeps 200 of them. And
-- what is known of a byte of each kind.
use Rattle.std.specs.Char.{digit_value}
use Rattle.std.specs.Prelude.{List, None, Option, Some, [], if◌then◌else◌, nat_le, option_and_then, ℕ, ◌&&◌, ◌-◌, ◌<◌, ◌==◌, ◌||◌, ◌∷◌, ◌≡◌}
use Rattle.std.proofs.Common.{Bool, ap, arith, false, inl, inr, refl, true, ℕ, ◌∙◌}
use Rattle.std.proofs.lemmas.Bool.{and_from, cond-true, eqb-true, le-leb}
use Rattle.std.proofs.lemmas.Str.{digit_value_digit}
use Rattle.std.proofs.lemmas.Str.Parse.{digit_from_value}
use Rattle.bk_laws.proofs.Digits.{digit_value-of_test}
use Rattle.bk_grammar.proofs.BlankBytes.{blank_means}
use Rattle.bk_grammar.specs.Grammar.{IsBlank}
use Rattle.bk_net.specs.GatheredWires.{and_wire}
use Rattle.bk_net.specs.NetLine.{Item, NetLine, Skip}
use Rattle.bk_net.specs.NetReading.{ended_wire, last_wire, net_ending_at, net_kind_of, next_net_place}
use Rattle.bk_net.specs.declared.reader.NetEnding.{NetEnding}
use Rattle.bk_net.specs.declared.reader.NetEnding.TheVariants.{Empty, Nodes}
use Rattle.bk_net.specs.declared.reader.ByteKind.{ByteKind}
use Rattle.bk_net.specs.declared.reader.ByteKind.TheVariants.{Blank, Dash, Digit, Other, Semicolon}
use Rattle.bk_net.specs.declared.reader.Place.{Place}

-- what a line stands for
abbrev pub net_line_by_its_ending : NetEnding → List (ℕ × ℕ) → NetLine
net_line_by_its_ending Empty wires = Skip
net_line_by_its_ending (Nodes n) wires = Item n wires

-- what a line stands for, or nothing where a line may not end
abbrev pub net_line_where_one_may_end : Option NetEnding → List (ℕ × ℕ) → Option NetLine
net_line_where_one_may_end None wires = None
net_line_where_one_may_end (Some e) wires = Some (net_line_by_its_ending e wires)

-- what is read from a place on
abbrev pub net_read_from : List ℕ → Place → List (ℕ × ℕ) → Option NetLine
net_read_from [] p wires = net_line_where_one_may_end (net_ending_at p) (and_wire (last_wire p) wires)
net_read_from (b ∷ bs) p wires = option_and_then (λ q. net_read_from bs q (and_wire (ended_wire p (net_kind_of b)) wires)) (next_net_place p (net_kind_of b))

-- a further byte of a known kind
pub net_read_of_a_further_byte : (p q : Place) (k : ByteKind) (ws vs : List (ℕ × ℕ)) (b : ℕ) (bs : List ℕ) → net_kind_of b ≡ k → next_net_place p k ≡ Some q
    → and_wire (ended_wire p k) ws ≡ vs → net_read_from (b ∷ bs) p ws ≡ net_read_from bs q vs
net_read_of_a_further_byte p q k ws vs b bs kind next wires =
    ap (λ k. option_and_then (λ q. net_read_from bs q (and_wire (ended_wire p k) ws)) (next_net_place p k)) kind
    ∙ ap (option_and_then (λ q. net_read_from bs q (and_wire (ended_wire p k) ws))) next
    ∙ ap (net_read_from bs q) wires

-- what is known of a byte of each kind
abbrev pub HasNetKind : ByteKind → ℕ → Type 0
HasNetKind Blank b = IsBlank b
HasNetKind (Digit d) b = (digit_value b ≡ d) × (digit_value b < 10)
HasNetKind Dash b = b ≡ 45
HasNetKind Semicolon b = b ≡ 59
HasNetKind Other b = Unit {0}

either : (test : Bool) (one two : ByteKind) (b : ℕ) → (test ≡ true → HasNetKind one b) → HasNetKind two b → HasNetKind (if test then one else two) b
either true one two b yes' no' = yes' refl
either false one two b yes' no' = no'

-- a byte is what its kind says
pub kind_means : (b : ℕ) → HasNetKind (net_kind_of b) b
kind_means b =
    either (nat_le 48 b && nat_le b 57) (Digit (b - 48)) _ b (λ h. digit_value-of_test b h) (
    either ((b == 32) || ((b == 9) || (b == 13))) Blank _ b (λ h. blank_means b h) (
    either (b == 45) Dash _ b (λ h. eqb-true b 45 h) (
    either (b == 59) Semicolon Other b (λ h. eqb-true b 59 h) tt)))

-- a blank byte has the kind of blanks
pub kind_blank : (b : ℕ) → IsBlank b → net_kind_of b ≡ Blank
kind_blank b (inl e) = ap net_kind_of e
kind_blank b (inr (inl e)) = ap net_kind_of e
kind_blank b (inr (inr e)) = ap net_kind_of e

-- a digit has the kind of digits, with its value
pub net_kind_of_a_digit : (b : ℕ) → digit_value b < 10 → net_kind_of b ≡ Digit (digit_value b)
net_kind_of_a_digit b small =
    let range = digit_from_value b small in
    let value = digit_value_digit b range in
    let is_digit : (nat_le 48 b && nat_le b 57) ≡ true = and_from _ _ (le-leb 48 b (omega (arith, range))) (le-leb b 57 (omega (arith, range))) in
    let own : b - 48 ≡ digit_value b = omega (arith, value) in
    cond-true _ _ _ is_digit ∙ ap Digit own
