-- What is known of a byte of each kind.
use Rattle.std.specs.Prelude.{Bool, false, if◌then◌else◌, nat_le, true, ℕ, ◌&&◌, ◌+◌, ◌-◌, ◌<◌, ◌==◌, ◌||◌, ◌≡◌}
use Rattle.std.proofs.Common.{refl}
use Rattle.std.proofs.lemmas.Bool.{eqb-true}
use Rattle.bk_laws.proofs.NumberTests.{digit_byte-positive}
use Rattle.bk_grammar.proofs.BlankBytes.{blank_means}
use Rattle.bk_grammar.specs.Grammar.{IsBlank}
use Rattle.bk_text.specs.LineReader.{line_kind_of}
use Rattle.bk_text.specs.declared.reader.Bracket.{Bracket}
use Rattle.bk_text.specs.declared.reader.Bracket.TheVariants.{Round, Square}
use Rattle.bk_text.specs.declared.reader.ByteKind.{ByteKind}
use Rattle.bk_text.specs.declared.reader.ByteKind.TheVariants.{Blank, Close, Comma, Cross, Digit, Open, Other, Semicolon, Zero}

-- the bracket that opens a group
abbrev pub open_byte : Bracket → ℕ
open_byte Square = 91
open_byte Round = 40

-- the bracket that closes a group
abbrev pub close_byte : Bracket → ℕ
close_byte Square = 93
close_byte Round = 41

-- what a byte of each kind is
abbrev pub HasLineKind : ByteKind → ℕ → Type 0
HasLineKind Blank b = IsBlank b
HasLineKind Zero b = b ≡ 48
HasLineKind (Digit d) b = (0 < d) × (d < 10) × (b ≡ 48 + d)
HasLineKind Comma b = b ≡ 44
HasLineKind Cross b = b ≡ 120
HasLineKind (Open bracket) b = b ≡ open_byte bracket
HasLineKind (Close bracket) b = b ≡ close_byte bracket
HasLineKind Semicolon b = b ≡ 59
HasLineKind Other b = Unit {0}

either : (test : Bool) (one two : ByteKind) (b : ℕ) → (test ≡ true → HasLineKind one b) → HasLineKind two b → HasLineKind (if test then one else two) b
either true one two b yes' no' = yes' refl
either false one two b yes' no' = no'

-- each byte is what its kind says
pub line_kind_of-means : (b : ℕ) → HasLineKind (line_kind_of b) b
line_kind_of-means b =
    either (b == 48) Zero _ b (λ h. eqb-true b 48 h) (
    either (nat_le 49 b && nat_le b 57) (Digit (b - 48)) _ b (λ h. digit_byte-positive b h) (
    either ((b == 32) || ((b == 9) || (b == 13))) Blank _ b (λ h. blank_means b h) (
    either (b == 44) Comma _ b (λ h. eqb-true b 44 h) (
    either (b == 120) Cross _ b (λ h. eqb-true b 120 h) (
    either (b == 91) (Open Square) _ b (λ h. eqb-true b 91 h) (
    either (b == 40) (Open Round) _ b (λ h. eqb-true b 40 h) (
    either (b == 93) (Close Square) _ b (λ h. eqb-true b 93 h) (
    either (b == 41) (Close Round) _ b (λ h. eqb-true b 41 h) (
    either (b == 59) Semicolon Other b (λ h. eqb-true b 59 h) tt)))))))))
