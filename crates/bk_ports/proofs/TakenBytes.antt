-- What is taken from a source that tells its bytes, and how many bytes were taken as a run ended.
use Rattle.std.proofs.Common.{List, None, Option, Some, [], ap, arith, inl, inr, length, refl, subst, sym, ℕ, ◌++◌, ◌<◌, ◌^◌, ◌∙◌, ◌≡◌, ◌≤◌}
use Rattle.std.specs.Prelude.{◌↔◌, ◌⊎◌}
use Rattle.std.specs.Io.KnownBytes.{Consumes, IsAtEnd}
use Rattle.std.proofs.lemmas.List.{append_assoc, append-nil, length-append}
use Rattle.bk_ports.specs.Deciding.{TookTooMany}
use Rattle.bk_ports.specs.Ending.{AreRead, EndsWith, Output, Streams}
use Rattle.bk_ports.specs.Lines.{closed_lines, line_at_end, lines_of, open_line}
use Rattle.bk_ports.specs.declared.Ended.{Ended}
use Rattle.bk_ports.specs.declared.Ended.TheVariants.{NoMemory, NoneRefused, ReadFailed, SomeRefused, TooMany, WriteFailed}
use Rattle.bk_ports.proofs.Cuts.{closed-append}

-- what is taken from a source that tells its bytes
module _ (input : List ℕ) (left left_after : Option (List ℕ)) (tells : left ≡ Some input) where
  -- is a front of them
  pub taken_front : (taken : List ℕ) → Consumes left left_after taken
      → (rest : List ℕ) × (left_after ≡ Some rest) × (input ≡ taken ++ rest)
  taken_front taken h = by left_after (subst (λ (l : Option (List ℕ)). Consumes l left_after taken) tells h)
    where
      by : (after : Option (List ℕ)) → Consumes (Some input) after taken → (rest : List ℕ) × (after ≡ Some rest) × (input ≡ taken ++ rest)
      by None h = absurd h
      by (Some rest) h = (rest, refl, h)

  -- at the end it is all of them
  pub taken_all : (taken : List ℕ) → Consumes left left_after taken → IsAtEnd left_after → input ≡ taken
  taken_all taken h at_end =
      let front = taken_front taken h in
      let none : front.0 ≡ [] = subst (λ (l : Option (List ℕ)). IsAtEnd l) front.1 at_end in
      front.2 ∙ ap (λ (l : List ℕ). taken ++ l) none ∙ append-nil taken

  -- bytes that are taken from a source have one length
  one_length : (a b : List ℕ) → Consumes left left_after a → Consumes left left_after b → length a ≡ length b
  one_length a b p q =
      let m = taken_front a p in
      let n = taken_front b q in
      let same : ◌≡◌ {A = Option (List ℕ)} (Some m.0) (Some n.0) = sym m.1 ∙ n.1 in
      let rest : m.0 ≡ n.0 = cc in
      omega (
        arith,
        ap (λ (l : List ℕ). length l) (sym m.2 ∙ n.2),
        length-append a m.0,
        length-append b n.0,
        ap (λ (l : List ℕ). length l) rest,
      )

  -- the lines that are read are the first of all lines
  pub read_front : (taken : List ℕ) (lines : List (List ℕ)) → Consumes left left_after taken → AreRead left_after taken lines
      → (more : List (List ℕ)) × (lines_of input ≡ lines ++ more)
  read_front taken lines h (inr (at_end, e)) = (
    [],
    ap (λ (l : List ℕ). lines_of l) (taken_all taken h at_end) ∙ sym e ∙ sym (append-nil lines),
  )
  read_front taken lines h (inl e) =
      let front = taken_front taken h in
      let last = line_at_end (open_line [] input) in
      let later = closed_lines (open_line [] taken) front.0 in (
        later ++ last,
        ap (λ (l : List ℕ). closed_lines [] l ++ last) front.2
            ∙ ap (λ (l : List (List ℕ)). l ++ last) (closed-append [] taken front.0)
            ∙ append_assoc (closed_lines [] taken) later last ∙ ap (λ (l : List (List ℕ)). l ++ (later ++ last)) (sym e),
      )

-- ---- the endings

-- at most 2^30 bytes were taken
pub record HasTaken (streams : Streams) : Type 0 where
  pub input : List ℕ
  pub taken : Consumes streams.left streams.left_after input
  pub within : length input ≤ 2 ^ 30

-- all bytes were taken, at most 2^30
pub record HasTakenAll (streams : Streams) : Type 0 where
  pub input : List ℕ
  pub taken : Consumes streams.left streams.left_after input
  pub at_end : IsAtEnd streams.left_after
  pub within : length input ≤ 2 ^ 30

-- how many bytes were taken where a run has this ending
abbrev pub TookBy : Streams → Ended → Type 0
TookBy streams NoneRefused = HasTakenAll streams
TookBy streams SomeRefused = HasTakenAll streams
TookBy streams ReadFailed = HasTaken streams
TookBy streams WriteFailed = HasTaken streams
TookBy streams NoMemory = HasTaken streams
TookBy streams TooMany = TookTooMany streams.left streams.left_after

-- 2^30 bytes and one more are too many
took_one_more : (left left_after : Option (List ℕ)) (first more : List ℕ) → Consumes left left_after (first ++ more) → length first ≡ 2 ^ 30
    → length more ≡ 1 → TookTooMany left left_after
took_one_more left left_after first more h full one = (first ++ more, h, omega (arith, full, one, length-append first more))

-- each run took so many
pub ends_took : (output : Output) (streams : Streams) (ended : Ended) → EndsWith output streams ended → TookBy streams ended
ends_took output streams NoneRefused h = record { input = h.input; taken = h.taken; at_end = h.at_end; within = h.within }
ends_took output streams SomeRefused h = record { input = h.input; taken = h.taken; at_end = h.at_end; within = h.within }
ends_took output streams ReadFailed h = record { input = h.input; taken = h.taken; within = h.within }
ends_took output streams WriteFailed (inl h) = record { input = h.input; taken = h.taken; within = h.within }
ends_took output streams WriteFailed (inr h) = record { input = h.input; taken = h.taken; within = h.within }
ends_took output streams NoMemory h = record { input = h.input; taken = h.taken; within = h.within }
ends_took output streams TooMany h = took_one_more streams.left streams.left_after h.first h.more h.taken h.full h.one

-- a run takes too many bytes exactly where it ends so, if the source tells its bytes
module _ (streams : Streams) (input : List ℕ) (tells : streams.left ≡ Some input) where
  few_or_many : (taken : List ℕ) → Consumes streams.left streams.left_after taken → length taken ≤ 2 ^ 30
      → TookTooMany streams.left streams.left_after → ⊥
  few_or_many taken h few many =
      omega (arith, few, many.2, one_length input streams.left streams.left_after tells taken many.0 h many.1)

  too_many_ends : (ended : Ended) → TookBy streams ended → TookTooMany streams.left streams.left_after → ended ≡ TooMany
  too_many_ends NoneRefused h many = absurd (few_or_many h.input h.taken h.within many)
  too_many_ends SomeRefused h many = absurd (few_or_many h.input h.taken h.within many)
  too_many_ends ReadFailed h many = absurd (few_or_many h.input h.taken h.within many)
  too_many_ends WriteFailed h many = absurd (few_or_many h.input h.taken h.within many)
  too_many_ends NoMemory h many = absurd (few_or_many h.input h.taken h.within many)
  too_many_ends TooMany h many = refl

  -- more than 2^30 bytes were taken exactly where the run ends for it
  pub too_many_exactly : (ended : Ended) → TookBy streams ended → ended ≡ TooMany ↔ TookTooMany streams.left streams.left_after
  too_many_exactly ended h = (
    λ (e : ended ≡ TooMany). subst (λ (x : Ended). TookBy streams x) e h,
    λ (many : TookTooMany streams.left streams.left_after). too_many_ends ended h many,
  )

  not_at_end : HasTakenAll streams → 2 ^ 30 < length input → ⊥
  not_at_end h many =
      omega (
        arith,
        h.within,
        many,
        ap (λ (l : List ℕ). length l) (taken_all input streams.left streams.left_after tells h.input h.taken h.at_end),
      )

  -- where more bytes come, and no call fails, too many are taken, or memory is wanting before
  pub more_come : 2 ^ 30 < length input → (ended : Ended) → TookBy streams ended → (ended ≡ ReadFailed → ⊥) → (ended ≡ WriteFailed → ⊥)
      → (ended ≡ TooMany) ⊎ (ended ≡ NoMemory)
  more_come many NoneRefused h reads writes = absurd (not_at_end h many)
  more_come many SomeRefused h reads writes = absurd (not_at_end h many)
  more_come many ReadFailed h reads writes = absurd (reads refl)
  more_come many WriteFailed h reads writes = absurd (writes refl)
  more_come many NoMemory h reads writes = inr refl
  more_come many TooMany h reads writes = inl refl
