-- A reader of a network line, byte by byte: where it stands, and what it makes of each byte.
-- Example (NetLineExamples): behind the node 1 of a line of two nodes a dash begins the second end of a wire, and no
-- digit follows the number 0.
use Rattle.std.specs.Prelude.{None, Option, Some, if◌then◌else◌, nat_le, nat_lt, option_map, ℕ, ◌&&◌, ◌*◌, ◌+◌, ◌-◌}
use Rattle.std.specs.Prelude.{◌==◌, ◌||◌}
use Rattle.bk_net.specs.declared.reader.NetEnding.{NetEnding}
use Rattle.bk_net.specs.declared.reader.NetEnding.TheVariants.{Empty, Nodes}
use Rattle.bk_net.specs.declared.reader.ByteKind.{ByteKind}
use Rattle.bk_net.specs.declared.reader.ByteKind.TheVariants.{Blank, Dash, Digit, Other, Semicolon}
use Rattle.bk_net.specs.declared.reader.Place.{Place}
use Rattle.bk_net.specs.declared.reader.Place.TheVariants.{BehindDash, Between, Comment, Count, First, Second, Start}

-- what a byte is to the grammar
abbrev pub net_kind_of : ℕ → ByteKind
net_kind_of b =
    if nat_le 48 b && nat_le b 57 then Digit (b - 48)
    else if (b == 32) || ((b == 9) || (b == 13)) then Blank
    else if b == 45 then Dash
    else if b == 59 then Semicolon
    else Other

-- a number and a further digit: none goes on behind a 0, nor behind three digits
abbrev pub with_digit : ℕ → ℕ → Option ℕ
with_digit value digit = if nat_lt 0 value && nat_lt value 100 then Some (value * 10 + digit) else None

-- where the reader stands behind a further byte, or nothing where no line goes on with it
abbrev pub next_net_place : Place → ByteKind → Option Place
next_net_place Start Blank = Some Start
next_net_place Start (Digit digit) = Some (Count digit)
next_net_place Start Semicolon = Some (Comment Empty)
next_net_place (Count nodes) Blank = Some (Between nodes)
next_net_place (Count nodes) (Digit digit) = option_map Count (with_digit nodes digit)
next_net_place (Count nodes) Semicolon = Some (Comment (Nodes nodes))
next_net_place (Between nodes) Blank = Some (Between nodes)
next_net_place (Between nodes) (Digit digit) = Some (First nodes digit)
next_net_place (Between nodes) Semicolon = Some (Comment (Nodes nodes))
next_net_place (First nodes from) (Digit digit) = option_map (First nodes) (with_digit from digit)
next_net_place (First nodes from) Dash = Some (BehindDash nodes from)
next_net_place (BehindDash nodes from) (Digit digit) = Some (Second nodes from digit)
next_net_place (Second nodes from to) Blank = Some (Between nodes)
next_net_place (Second nodes from to) (Digit digit) = option_map (Second nodes from) (with_digit to digit)
next_net_place (Second nodes from to) Semicolon = Some (Comment (Nodes nodes))
next_net_place (Comment ending) kind = Some (Comment ending)
next_net_place place kind = None

-- the wire that ends before a further byte
abbrev pub ended_wire : Place → ByteKind → Option (ℕ × ℕ)
ended_wire (Second nodes from to) Blank = Some (from, to)
ended_wire (Second nodes from to) Semicolon = Some (from, to)
ended_wire place kind = None

-- the wire that ends with the line
abbrev pub last_wire : Place → Option (ℕ × ℕ)
last_wire (Second nodes from to) = Some (from, to)
last_wire place = None

-- what a line is that ends here, or nothing where none does
abbrev pub net_ending_at : Place → Option NetEnding
net_ending_at Start = Some Empty
net_ending_at (Count nodes) = Some (Nodes nodes)
net_ending_at (Between nodes) = Some (Nodes nodes)
net_ending_at (First nodes from) = None
net_ending_at (BehindDash nodes from) = None
net_ending_at (Second nodes from to) = Some (Nodes nodes)
net_ending_at (Comment ending) = Some ending
