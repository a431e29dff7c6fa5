-- What is read is a network line, and stands for what was read: what completes a line from each place of the reader.
use Rattle.std.specs.Char.{digit_value}
use Rattle.std.specs.Prelude.{List, None, Option, Some, [], if◌then◌else◌, nat_lt, option_and_then, option_map, ℕ, ◌&&◌, ◌*◌, ◌++◌, ◌+◌, ◌<◌, ◌∷◌, ◌≡◌}
use Rattle.std.proofs.Common.{Bool, ap, append_assoc, arith, false, inl, inr, ltb-true, refl, subst, sym, true, ◌∙◌}
use Rattle.std.proofs.lemmas.Bool.{and_parts}
use Rattle.std.proofs.lemmas.List.{append-nil}
use Rattle.bk_grammar.proofs.FirstByte.{blank_first}
use Rattle.bk_grammar.specs.Grammar.{Blanks, IsBlank, LineEnd, ◌then◌}
use Rattle.bk_net.specs.GatheredWires.{and_wire}
use Rattle.bk_net.specs.NetLine.{IsNetLine, Item, NetLine, NodeNumber, Skip, Wire, Wires}
use Rattle.bk_net.specs.NetReading.{ended_wire, last_wire, net_ending_at, net_kind_of, next_net_place, with_digit}
use Rattle.bk_net.specs.declared.reader.NetEnding.TheVariants.{Empty, Nodes}
use Rattle.bk_net.specs.declared.reader.ByteKind.{ByteKind}
use Rattle.bk_net.specs.declared.reader.ByteKind.TheVariants.{Blank, Dash, Digit, Other, Semicolon}
use Rattle.bk_net.specs.declared.reader.Place.{Place}
use Rattle.bk_net.specs.declared.reader.Place.TheVariants.{BehindDash, Between, Comment as InComment, Count, First, Second, Start}
use Rattle.bk_net.proofs.NodeDigits.{Goes_on, number_of}
use Rattle.bk_net.proofs.ReadingAll.{HasNetKind, kind_means, net_line_where_one_may_end, net_read_from}

-- further wires and the end of the line, behind n nodes and some wires
abbrev pub WiresRest : ℕ → List (ℕ × ℕ) → NetLine → List ℕ → Type 0
WiresRest n ws l bs = (more : List (ℕ × ℕ)) × (Wires more then LineEnd) bs × (l ≡ Item n (ws ++ more))

-- further wires and the end of the line, behind a blank
abbrev pub AfterBlank : List (ℕ × ℕ) → List ℕ → Type 0
AfterBlank [] = LineEnd
AfterBlank (w ∷ more) = Blanks then Wire w then Wires more then LineEnd

-- what completes a line from between its numbers: further wires, the first behind blanks, and the end of the line
abbrev pub BetweenRest : ℕ → List (ℕ × ℕ) → NetLine → List ℕ → Type 0
BetweenRest n ws l bs = (more : List (ℕ × ℕ)) × AfterBlank more bs × (l ≡ Item n (ws ++ more))

-- the second number of a wire, and what comes behind it
abbrev pub DashRest : ℕ → ℕ → List (ℕ × ℕ) → NetLine → List ℕ → Type 0
DashRest n a ws l bs = (b : ℕ) × (text rest : List ℕ) × (bs ≡ text ++ rest) × NodeNumber b text × WiresRest n (ws ++ (a, b) ∷ []) l rest

-- digits that end a number, and what comes behind it
abbrev pub WireNumberRest : ℕ → (ℕ → List ℕ → Type 0) → List ℕ → Type 0
WireNumberRest v Rest bs = (n : ℕ) × (ds rest : List ℕ) × (bs ≡ ds ++ rest) × Goes_on v n ds × Rest n rest

-- what completes a line from a place
abbrev pub RestOf : Place → List (ℕ × ℕ) → NetLine → List ℕ → Type 0
RestOf Start ws l bs = ws ≡ [] → IsNetLine l bs
RestOf (Count v) ws l bs = WireNumberRest v (λ n rest. WiresRest n ws l rest) bs
RestOf (Between n) ws l bs = BetweenRest n ws l bs
RestOf (First n v) ws l bs = WireNumberRest v (λ a rest. (others : List ℕ) × (rest ≡ 45 ∷ others) × DashRest n a ws l others) bs
RestOf (BehindDash n a) ws l bs = DashRest n a ws l bs
RestOf (Second n a v) ws l bs = WireNumberRest v (λ b rest. WiresRest n (ws ++ (a, b) ∷ []) l rest) bs
RestOf (InComment Empty) ws l bs = l ≡ Skip
RestOf (InComment (Nodes n)) ws l bs = l ≡ Item n ws

abbrev NextRest : Option Place → List (ℕ × ℕ) → NetLine → List ℕ → Type 0
NextRest None ws l bs = ⊥
NextRest (Some q) ws l bs = RestOf q ws l bs

-- ---- one byte

-- a blank ends a number, and with it the number of nodes or a wire
blank_ends : (n : ℕ) (ws : List (ℕ × ℕ)) (l : NetLine) (b : ℕ) (bs : List ℕ) → IsBlank b → BetweenRest n ws l bs → WiresRest n ws l (b ∷ bs)
blank_ends n ws l b bs blank ([], end, is) = ([], ([], b ∷ bs, refl, refl, blank_first _ b bs blank end), is)
blank_ends n ws l b bs blank (w ∷ more, (a, x, e, blanks, (t, y, f, wire, (s, z, g, wires, end))), is) = (
  w ∷ more,
  (
    (b ∷ a) ++ (t ++ s),
    z,
    ap (λ (k : List ℕ). b ∷ k) (e ∙ ap (λ (k : List ℕ). a ++ k) (f ∙ ap (λ (k : List ℕ). t ++ k) g ∙ sym (append_assoc t s z))
        ∙ sym (append_assoc a (t ++ s) z)),
    (b ∷ a, t ++ s, refl, (omega arith, (blank, blanks)), (t, s, refl, wire, wires)),
    end,
  ),
  is,
)

-- a comment ends a line
comment_ends : (n : ℕ) (ws : List (ℕ × ℕ)) (l : NetLine) (b : ℕ) (bs : List ℕ) → b ≡ 59 → l ≡ Item n ws → WiresRest n ws l (b ∷ bs)
comment_ends n ws l b bs e is =
    ([], ([], b ∷ bs, refl, refl, ([], b ∷ bs, refl, tt, inr (bs, ap (λ (c : ℕ). c ∷ bs) e))), is ∙ ap (Item n) (sym (append-nil ws)))

-- the end of the bytes ends a line
line_ends : (n : ℕ) (ws : List (ℕ × ℕ)) (l : NetLine) → l ≡ Item n ws → WiresRest n ws l []
line_ends n ws l is = ([], ([], [], refl, refl, ([], [], refl, tt, inl refl)), is ∙ ap (Item n) (sym (append-nil ws)))

-- a digit of a number
digit_before : (v d : ℕ) (Rest : ℕ → List ℕ → Type 0) (b : ℕ) (bs : List ℕ) → digit_value b ≡ d → digit_value b < 10 → 0 < v → v < 100
    → WireNumberRest (v * 10 + d) Rest bs → WireNumberRest v Rest (b ∷ bs)
digit_before v d Rest b bs e small some few (n, ds, rest, is, goes, h) =
    (n, b ∷ ds, rest, ap (λ (z : List ℕ). b ∷ z) is, (small, some, few, subst (λ (k : ℕ). Goes_on (v * 10 + k) n ds) (sym e) goes), h)

first_digit : (d : ℕ) (b n : ℕ) (ds : List ℕ) → digit_value b ≡ d → digit_value b < 10 → Goes_on d n ds → NodeNumber n (b ∷ ds)
first_digit d b n ds e small goes = number_of b n ds small (subst (λ (k : ℕ). Goes_on k n ds) (sym e) goes)

number_here : (v : ℕ) (Rest : ℕ → List ℕ → Type 0) (bs : List ℕ) → Rest v bs → WireNumberRest v Rest bs
number_here v Rest bs h = (v, [], bs, refl, refl, h)

-- where a number goes on, it is not 0 and has fewer than three digits
longer_from : (v d : ℕ) (at : ℕ → Place) (ws : List (ℕ × ℕ)) (l : NetLine) (bs : List ℕ) → NextRest (option_map at (with_digit v d)) ws l bs
    → (0 < v) × (v < 100) × RestOf (at (v * 10 + d)) ws l bs
longer_from v d at ws l bs h = cases (nat_lt 0 v && nat_lt v 100) refl h
  where
    cases : (b : Bool) → nat_lt 0 v && nat_lt v 100 ≡ b → NextRest (option_map at (if b then Some (v * 10 + d) else None)) ws l bs
        → (0 < v) × (v < 100) × RestOf (at (v * 10 + d)) ws l bs
    cases true e h = let parts = and_parts (nat_lt 0 v) (nat_lt v 100) e in (ltb-true 0 v parts.0, ltb-true v 100 parts.1, h)
    cases false e h = absurd h

start_digit : (d : ℕ) (ws : List (ℕ × ℕ)) (l : NetLine) (b : ℕ) (bs : List ℕ) → digit_value b ≡ d → digit_value b < 10 → RestOf (Count d) ws l bs
    → RestOf Start ws l (b ∷ bs)
start_digit d ws l b bs e small (n, ds, rest, is, goes, (more, wires, meant)) none =
    subst (λ (k : NetLine). IsNetLine k (b ∷ bs)) (sym (meant ∙ ap (λ (k : List (ℕ × ℕ)). Item n (k ++ more)) none))
    ([], b ∷ bs, refl, tt, (b ∷ ds, rest, ap (λ (z : List ℕ). b ∷ z) is, first_digit d b n ds e small goes, wires))

start_blank : (ws : List (ℕ × ℕ)) (l : NetLine) (b : ℕ) (bs : List ℕ) → IsBlank b → RestOf Start ws l bs → RestOf Start ws l (b ∷ bs)
start_blank ws Skip b bs blank h none = blank_first _ b bs blank (h none)
start_blank ws (Item n more) b bs blank h none = blank_first _ b bs blank (h none)

between_digit : (n d : ℕ) (ws : List (ℕ × ℕ)) (l : NetLine) (b : ℕ) (bs : List ℕ) → digit_value b ≡ d → digit_value b < 10
    → RestOf (First n d) ws l bs → BetweenRest n ws l (b ∷ bs)
between_digit n d ws l b bs e small (a, ds, rest, is, goes, (others, dash, (c, text, more_bytes, f, number, (more, (s, z, g, wires, end), meant)))) = (
  (a, c) ∷ more,
  (
    [],
    b ∷ bs,
    refl,
    tt,
    (
      (b ∷ ds) ++ (45 ∷ text),
      more_bytes,
      ap (λ (k : List ℕ). b ∷ k) (is ∙ ap (λ (k : List ℕ). ds ++ k) (dash ∙ ap (λ (k : List ℕ). 45 ∷ k) f) ∙ sym (append_assoc ds (45 ∷ text) more_bytes)),
      (b ∷ ds, 45 ∷ text, refl, first_digit d b a ds e small goes, (45 ∷ [], text, refl, refl, number)),
      (s, z, g, wires, end),
    ),
  ),
  meant ∙ ap (Item n) (append_assoc ws ((a, c) ∷ []) more),
)

between_blank : (n : ℕ) (ws : List (ℕ × ℕ)) (l : NetLine) (b : ℕ) (bs : List ℕ) → IsBlank b → BetweenRest n ws l bs → BetweenRest n ws l (b ∷ bs)
between_blank n ws l b bs blank ([], end, is) = ([], blank_first _ b bs blank end, is)
between_blank n ws l b bs blank (w ∷ more, rest, is) = (w ∷ more, blank_first _ b bs blank rest, is)

between_comment : (n : ℕ) (ws : List (ℕ × ℕ)) (l : NetLine) (b : ℕ) (bs : List ℕ) → b ≡ 59 → l ≡ Item n ws → BetweenRest n ws l (b ∷ bs)
between_comment n ws l b bs e is = ([], ([], b ∷ bs, refl, tt, inr (bs, ap (λ (c : ℕ). c ∷ bs) e)), is ∙ ap (Item n) (sym (append-nil ws)))

start_comment : (ws : List (ℕ × ℕ)) (l : NetLine) (b : ℕ) (bs : List ℕ) → b ≡ 59 → l ≡ Skip → RestOf Start ws l (b ∷ bs)
start_comment ws l b bs e is none = subst (λ (k : NetLine). IsNetLine k (b ∷ bs)) (sym is) ([], b ∷ bs, refl, tt, inr (bs, ap (λ (c : ℕ). c ∷ bs) e))

-- what completes a line from the next place completes it from this one, with the byte between them
step : (p : Place) (k : ByteKind) (ws : List (ℕ × ℕ)) (l : NetLine) (b : ℕ) (bs : List ℕ) → HasNetKind k b
    → NextRest (next_net_place p k) (and_wire (ended_wire p k) ws) l bs → RestOf p ws l (b ∷ bs)
step Start Blank ws l b bs m h = start_blank ws l b bs m h
step Start (Digit d) ws l b bs m h = start_digit d ws l b bs m.0 m.1 h
step Start Semicolon ws l b bs m h = start_comment ws l b bs m h
step Start Dash ws l b bs m h = absurd h
step Start Other ws l b bs m h = absurd h
step (Count v) Blank ws l b bs m h = number_here v (λ n rest. WiresRest n ws l rest) (b ∷ bs) (blank_ends v ws l b bs m h)
step (Count v) (Digit d) ws l b bs m h = let k = longer_from v d Count ws l bs h in digit_before v d (λ n rest. WiresRest n ws l rest) b bs m.0 m.1 k.0 k.1 k.2
step (Count v) Semicolon ws l b bs m h = number_here v (λ n rest. WiresRest n ws l rest) (b ∷ bs) (comment_ends v ws l b bs m h)
step (Count v) Dash ws l b bs m h = absurd h
step (Count v) Other ws l b bs m h = absurd h
step (Between n) Blank ws l b bs m h = between_blank n ws l b bs m h
step (Between n) (Digit d) ws l b bs m h = between_digit n d ws l b bs m.0 m.1 h
step (Between n) Semicolon ws l b bs m h = between_comment n ws l b bs m h
step (Between n) Dash ws l b bs m h = absurd h
step (Between n) Other ws l b bs m h = absurd h
step (First n v) (Digit d) ws l b bs m h =
    let k = longer_from v d (First n) ws l bs h in
    digit_before v d (λ a rest. (others : List ℕ) × (rest ≡ 45 ∷ others) × DashRest n a ws l others) b bs m.0 m.1 k.0 k.1 k.2
step (First n v) Dash ws l b bs m h = (v, [], b ∷ bs, refl, refl, (bs, ap (λ (c : ℕ). c ∷ bs) m, h))
step (First n v) Blank ws l b bs m h = absurd h
step (First n v) Semicolon ws l b bs m h = absurd h
step (First n v) Other ws l b bs m h = absurd h
step (BehindDash n a) (Digit d) ws l b bs m h = (h.0, b ∷ h.1, h.2, ap (λ (z : List ℕ). b ∷ z) h.3, first_digit d b h.0 h.1 m.0 m.1 h.4, h.5)
step (BehindDash n a) Blank ws l b bs m h = absurd h
step (BehindDash n a) Dash ws l b bs m h = absurd h
step (BehindDash n a) Semicolon ws l b bs m h = absurd h
step (BehindDash n a) Other ws l b bs m h = absurd h
step (Second n a v) Blank ws l b bs m h =
    number_here v (λ c rest. WiresRest n (ws ++ (a, c) ∷ []) l rest) (b ∷ bs) (blank_ends n (ws ++ (a, v) ∷ []) l b bs m h)
step (Second n a v) (Digit d) ws l b bs m h =
    let k = longer_from v d (Second n a) ws l bs h in digit_before v d (λ c rest. WiresRest n (ws ++ (a, c) ∷ []) l rest) b bs m.0 m.1 k.0 k.1 k.2
step (Second n a v) Semicolon ws l b bs m h =
    number_here v (λ c rest. WiresRest n (ws ++ (a, c) ∷ []) l rest) (b ∷ bs) (comment_ends n (ws ++ (a, v) ∷ []) l b bs m h)
step (Second n a v) Dash ws l b bs m h = absurd h
step (Second n a v) Other ws l b bs m h = absurd h
step (InComment Empty) k ws l b bs m h = h
step (InComment (Nodes n)) k ws l b bs m h = h

-- ---- the end of the bytes

ends : (p : Place) (ws : List (ℕ × ℕ)) (l : NetLine) → net_line_where_one_may_end (net_ending_at p) (and_wire (last_wire p) ws) ≡ Some l → RestOf p ws l []
ends Start ws l e = let same : Skip ≡ l = cc in λ none. subst (λ (k : NetLine). IsNetLine k []) same ([], [], refl, tt, inl refl)
ends (Count v) ws l e = let same : Item v ws ≡ l = cc in number_here v (λ n rest. WiresRest n ws l rest) [] (line_ends v ws l (sym same))
ends (Between n) ws l e = let same : Item n ws ≡ l = cc in ([], ([], [], refl, tt, inl refl), sym same ∙ ap (Item n) (sym (append-nil ws)))
ends (First n v) ws l e = absurd (cc)
ends (BehindDash n a) ws l e = absurd (cc)
ends (Second n a v) ws l e = let same : Item n (ws ++ (a, v) ∷ []) ≡ l = cc in
    number_here v (λ c rest. WiresRest n (ws ++ (a, c) ∷ []) l rest) [] (line_ends n (ws ++ (a, v) ∷ []) l (sym same))
ends (InComment Empty) ws l e = let same : Skip ≡ l = cc in sym same
ends (InComment (Nodes n)) ws l e = let same : Item n ws ≡ l = cc in sym same

-- what is read from a place of the reader on completes a line there
pub read_is_rest : (bs : List ℕ) (p : Place) (ws : List (ℕ × ℕ)) (l : NetLine) → net_read_from bs p ws ≡ Some l → RestOf p ws l bs
read_is_rest [] p ws l e = ends p ws l e
read_is_rest (b ∷ bs) p ws l e =
    step p (net_kind_of b) ws l b bs (kind_means b)
    (next (next_net_place p (net_kind_of b)) e (λ q. read_is_rest bs q (and_wire (ended_wire p (net_kind_of b)) ws) l))
  where
    next : (o : Option Place) → option_and_then (λ q. net_read_from bs q (and_wire (ended_wire p (net_kind_of b)) ws)) o ≡ Some l
        → ((q : Place) → net_read_from bs q (and_wire (ended_wire p (net_kind_of b)) ws) ≡ Some l → RestOf q (and_wire (ended_wire p (net_kind_of b)) ws) l bs)
        → NextRest o (and_wire (ended_wire p (net_kind_of b)) ws) l bs
    next None f rest = absurd (cc)
    next (Some q) f rest = rest q f

-- what is read from the start is a network line
pub what_is_read_is_a_net_line : (bs : List ℕ) (l : NetLine) → net_read_from bs Start [] ≡ Some l → IsNetLine l bs
what_is_read_is_a_net_line bs l e = read_is_rest bs Start [] l e refl
