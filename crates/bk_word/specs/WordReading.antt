-- A reader of the text of a word, byte by byte: where it stands, and what it makes of each byte.
-- Example (WordExamples): behind the count 2 the letter e leads among signs, of which two more may follow, and no word
-- ends at the count 2.
use Rattle.std.specs.Prelude.{Bool, None, Option, Some, false, if◌then◌else◌, nat_le, nat_lt, ℕ, ◌&&◌, ◌*◌, ◌+◌, ◌-◌}
use Rattle.std.specs.Prelude.{◌==◌}
use Rattle.bk_word.specs.declared.Sign.TheVariants.{Above, Even, Under}
use Rattle.bk_word.specs.declared.reader.ByteKind.{ByteKind}
use Rattle.bk_word.specs.declared.reader.ByteKind.TheVariants.{Digit, Dot, Letter, Other}
use Rattle.bk_word.specs.declared.reader.Place.{Place}
use Rattle.bk_word.specs.declared.reader.Place.TheVariants.{BeforeCount, InCount, InSigns}

-- what a byte is to the grammar
abbrev pub word_kind_of : ℕ → ByteKind
word_kind_of b =
    if nat_le 48 b && nat_le b 57 then Digit (b - 48)
    else if b == 97 then Letter Above
    else if b == 101 then Letter Even
    else if b == 117 then Letter Under
    else if b == 46 then Dot
    else Other

-- where the reader stands behind a further byte, or nothing where no word goes on with it
abbrev pub next_word_place : Place → ByteKind → Option Place
next_word_place BeforeCount (Digit digit) = if nat_lt 0 digit then Some (InCount digit) else None
next_word_place (InCount count) (Digit digit) = if nat_lt count 100 then Some (InCount (count * 10 + digit)) else None
next_word_place (InCount count) (Letter sign) = Some (InSigns (count - 2) count)
next_word_place (InCount count) Dot = if nat_le count 1 then Some BeforeCount else None
next_word_place (InSigns least most) (Letter sign) = if nat_lt 0 most then Some (InSigns (least - 1) (most - 1))
    else None
next_word_place (InSigns least most) Dot = if least == 0 then Some BeforeCount else None
next_word_place place kind = None

-- whether a word may end here
abbrev pub may_end : Place → Bool
may_end BeforeCount = false
may_end (InCount count) = nat_le count 1
may_end (InSigns least most) = least == 0
