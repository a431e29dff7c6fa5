-- A reader of a line, byte by byte: where it stands, and what it makes of each byte.
-- Example (LineExamples): behind the side 18 of a group a comma leads to the next side, and 18 is the side that ends.
use Rattle.std.specs.Prelude.{Bool, true, false, None, Option, Some, nat_le, if◌then◌else◌, ℕ, ◌&&◌, ◌*◌, ◌+◌, ◌-◌, ◌/◌}
use Rattle.std.specs.Prelude.{◌==◌, ◌||◌}
use Rattle.bk_text.specs.declared.reader.Bracket.{Bracket}
use Rattle.bk_text.specs.declared.reader.Bracket.TheVariants.{Round, Square}
use Rattle.bk_text.specs.declared.reader.Ending.{Ending}
use Rattle.bk_text.specs.declared.reader.Ending.TheVariants.{Coded, Empty, Row}
use Rattle.bk_text.specs.declared.reader.Field.{Field}
use Rattle.bk_text.specs.declared.reader.Field.TheVariants.{First, Height, RowSide, Second, Side, Third}
use Rattle.bk_text.specs.declared.reader.Header.{Header}
use Rattle.bk_text.specs.declared.reader.ByteKind.{ByteKind}
use Rattle.bk_text.specs.declared.reader.ByteKind.TheVariants.{Blank, Close, Comma, Cross, Digit, Open, Other}
use Rattle.bk_text.specs.declared.reader.ByteKind.TheVariants.{Semicolon, Zero}
use Rattle.bk_text.specs.declared.reader.Place.{Place}
use Rattle.bk_text.specs.declared.reader.Place.TheVariants.{BeforeGroup, BeforeHeight, BeforeSide, BehindRowSide}
use Rattle.bk_text.specs.declared.reader.Place.TheVariants.{BehindFirst, BehindGroup}
use Rattle.bk_text.specs.declared.reader.Place.TheVariants.{BehindSecond, BehindSide, BehindThird, Comment, Number}
use Rattle.bk_text.specs.declared.reader.Place.TheVariants.{Start}
use Rattle.bk_code.specs.declared.TheConstants.{LARGEST_HEADER_NUMBER}
use Rattle.bk_tiling.specs.declared.TheConstants.{LONGEST_SIDE}

-- what a byte is to the grammar
abbrev pub line_kind_of : ℕ → ByteKind
line_kind_of b =
    if b == 48 then Zero
    else if nat_le 49 b && nat_le b 57 then Digit (b - 48)
    else if (b == 32) || ((b == 9) || (b == 13)) then Blank
    else if b == 44 then Comma
    else if b == 120 then Cross
    else if b == 91 then Open Square
    else if b == 40 then Open Round
    else if b == 93 then Close Square
    else if b == 41 then Close Round
    else if b == 59 then Semicolon
    else Other

-- the greatest number that may stand in a field
abbrev pub most : Field → ℕ
most (RowSide table) = LONGEST_SIDE
most (Side header bracket) = LONGEST_SIDE
most field = LARGEST_HEADER_NUMBER

-- behind a further digit of a number
abbrev pub field_with_digit : Field → ℕ → ℕ → Option Place
field_with_digit field value digit = if nat_le value (most field / 10) then Some (Number field (value * 10 + digit))
    else None

-- the header of a line without one
abbrev pub no_header : Header
no_header = record { order = None; size = None }

-- the header of a line that states an order alone
abbrev pub order_alone : ℕ → Header
order_alone order = record { order = Some order; size = None }

-- behind a bracket that closes a group, which must be of the kind that opened it
abbrev pub close_group : Header → Bracket → Bracket → Option Place
close_group header Square Square = Some (BehindGroup header)
close_group header Round Round = Some (BehindGroup header)
close_group header left right = None

-- behind a number and a byte that is no digit
abbrev pub behind_number : Field → ℕ → ByteKind → Option Place
behind_number First n Blank = Some (BehindFirst n)
behind_number First n Cross = Some (BeforeHeight None n)
behind_number First n (Open bracket) = Some (BeforeSide (order_alone n) bracket)
behind_number (Second order) n Blank = Some (BehindSecond order n)
behind_number (Second order) n Cross = Some (BeforeHeight (Some order) n)
behind_number (Height order width) n Blank = Some (BeforeGroup (record { order = order; size = Some (width, n) }))
behind_number (Height order width) n (Open bracket) =
    Some (BeforeSide (record { order = order; size = Some (width, n) }) bracket)
behind_number (Third order width) n Blank = Some (BehindThird (record { order = order; width = width; height = n }))
behind_number (RowSide table) n Blank = Some (BehindRowSide table)
behind_number (RowSide table) n Semicolon = Some (Comment (Row table))
behind_number (Side header bracket) n Blank = Some (BehindSide header bracket)
behind_number (Side header bracket) n Comma = Some (BeforeSide header bracket)
behind_number (Side header bracket) n (Close other) = close_group header bracket other
behind_number field n kind = None

-- where the reader stands behind a further byte, or nothing where no line goes on with it
abbrev pub next_line_place : Place → ByteKind → Option Place
next_line_place Start Blank = Some Start
next_line_place Start (Digit digit) = Some (Number First digit)
next_line_place Start (Open bracket) = Some (BeforeSide no_header bracket)
next_line_place Start Semicolon = Some (Comment Empty)
next_line_place (Number field value) Zero = field_with_digit field value 0
next_line_place (Number field value) (Digit digit) = field_with_digit field value digit
next_line_place (Number field value) kind = behind_number field value kind
next_line_place (BehindFirst order) Blank = Some (BehindFirst order)
next_line_place (BehindFirst order) (Digit digit) = Some (Number (Second order) digit)
next_line_place (BehindFirst order) (Open bracket) = Some (BeforeSide (order_alone order) bracket)
next_line_place (BehindSecond order width) Blank = Some (BehindSecond order width)
next_line_place (BehindSecond order width) (Digit digit) = Some (Number (Third order width) digit)
next_line_place (BeforeHeight order width) (Digit digit) = Some (Number (Height order width) digit)
next_line_place (BehindThird table) Blank = Some (BehindThird table)
next_line_place (BehindThird table) (Digit digit) = Some (Number (RowSide table) digit)
next_line_place (BehindRowSide table) Blank = Some (BehindRowSide table)
next_line_place (BehindRowSide table) (Digit digit) = Some (Number (RowSide table) digit)
next_line_place (BehindRowSide table) Semicolon = Some (Comment (Row table))
next_line_place (BeforeGroup header) Blank = Some (BeforeGroup header)
next_line_place (BeforeGroup header) (Open bracket) = Some (BeforeSide header bracket)
next_line_place (BeforeSide header bracket) Blank = Some (BeforeSide header bracket)
next_line_place (BeforeSide header bracket) (Digit digit) = Some (Number (Side header bracket) digit)
next_line_place (BehindSide header bracket) Blank = Some (BehindSide header bracket)
next_line_place (BehindSide header bracket) Comma = Some (BeforeSide header bracket)
next_line_place (BehindSide header bracket) (Close other) = close_group header bracket other
next_line_place (BehindGroup header) Blank = Some (BehindGroup header)
next_line_place (BehindGroup header) Comma = Some (BeforeGroup header)
next_line_place (BehindGroup header) (Open bracket) = Some (BeforeSide header bracket)
next_line_place (BehindGroup header) Semicolon = Some (Comment (Coded header))
next_line_place (Comment ending) kind = Some (Comment ending)
next_line_place place kind = None

-- the side that ends before a further byte
abbrev pub ended_side : Place → ByteKind → Option ℕ
ended_side (Number field value) Zero = None
ended_side (Number field value) (Digit digit) = None
ended_side (Number (RowSide table) value) kind = Some value
ended_side (Number (Side header bracket) value) kind = Some value
ended_side place kind = None

-- whether a further byte closes a group
abbrev pub closes_group : Place → ByteKind → Bool
closes_group (Number (Side header bracket) value) (Close other) = true
closes_group (BehindSide header bracket) (Close other) = true
closes_group place kind = false

-- the side that ends with the line
abbrev pub last_side : Place → Option ℕ
last_side (Number (RowSide table) value) = Some value
last_side place = None

-- what a line is that ends here, or nothing where none ends here
abbrev pub line_ending_at : Place → Option Ending
line_ending_at Start = Some Empty
line_ending_at (Number (RowSide table) value) = Some (Row table)
line_ending_at (BehindRowSide table) = Some (Row table)
line_ending_at (BehindGroup header) = Some (Coded header)
line_ending_at (Comment ending) = Some ending
line_ending_at place = None
