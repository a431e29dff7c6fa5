-- An input of which some bytes are taken, and their lines entered.
use Rattle.std.proofs.Common.{◌≡◌, ℕ, ◌+◌, ◌^◌, ◌≤◌, Bool, true, false, ◌||◌, List, [], ◌++◌, length, map, Option, inl, inr}
use Rattle.std.proofs.Common.{refl, sym, ap, ◌∙◌, subst, arith}
use Rattle.std.specs.Io.KnownBytes.{Consumes, IsAtEnd}
use Rattle.std.proofs.lemmas.List.{append-nil, length-append}
use Rattle.bk_laws.proofs.Bytes.{consumes-then}
use Rattle.bk_ports.specs.Lines.{closed_lines, kept_front, line_at_end, lines_of, open_line}
use Rattle.bk_ports.specs.Entering.{AreAllEntered, Entering, IsEntryStopped, entering_from, entries_of}
use Rattle.bk_ports.specs.Ending.{AreRead, EndsWith, IsReadWhole, IsTooMany, Streams, ended_of, streams_told, verdict_of}
use Rattle.bk_ports.specs.declared.Ended.{Ended}
use Rattle.bk_ports.specs.declared.line.Stop.{Stop}
use Rattle.bk_ports.specs.declared.line.Stop.TheVariants.{WriteFailed, NoMemory}
use Rattle.bk_ports.proofs.Cuts.{closed-append, open-append}
use Rattle.bk_ports.proofs.Fronts.{closed-fronts, open-fronts, front-front, last-fronts}
use Rattle.bk_ports.proofs.Joining.{entered_more, entered_fronts, fronts_many}
use Rattle.bk_ports.proofs.StoppedLines.{stopped_after, stopped_fronts}

-- some bytes are taken, of which the lines with a line feed are entered, and the front of the open line is kept, with its number
pub record IsTaken {State : Type 0} (rules : Entering State) (start : State) (left now_left before now : Option (List ℕ)) (count : ℕ) (kept : List ℕ)
    (number : ℕ) (refused : Bool) (state : State) : Type 0 where
  pub input : List ℕ
  pub taken : Consumes left now_left input
  pub size : length input ≡ count
  pub front : kept ≡ kept_front (open_line [] input)
  pub numbered : number ≡ 1 + length (closed_lines [] input)
  pub entered : AreAllEntered (entering_from rules start 1) state (closed_lines [] input) refused before now

-- what is kept of the open line has the same front
same_front : (kept whole : List ℕ) → kept ≡ kept_front whole → kept_front kept ≡ kept_front whole
same_front kept whole e = ap (λ (l : List ℕ). kept_front l) e ∙ front-front whole

module _ {State : Type 0} (rules : Entering State) (start : State) where
  -- a block more is taken, and its lines are entered
  pub taken_more : (s t : State) (l m n a b c : Option (List ℕ)) (count more : ℕ) (kept now_kept bytes : List ℕ) (number now_number : ℕ) (p q : Bool)
      → IsTaken rules start l m a b count kept number p s → Consumes m n bytes → length bytes ≡ more → now_kept ≡ kept_front (open_line kept bytes)
      → now_number ≡ number + length (closed_lines kept bytes) → AreAllEntered (entering_from rules s number) t (closed_lines kept bytes) q b c
      → IsTaken rules start l n a c (count + more) now_kept now_number (p || q) t
  taken_more s t l m n a b c count more kept now_kept bytes number now_number p q state read size front next here =
      let same = same_front kept (open_line [] state.input) state.front in
      let known = closed_lines [] state.input in
      let added = closed_lines (open_line [] state.input) bytes in
      let fronts = closed-fronts kept (open_line [] state.input) bytes same in
      let joined : closed_lines [] (state.input ++ bytes) ≡ known ++ added = closed-append [] state.input bytes in
      record {
        input = state.input ++ bytes;
        taken = consumes-then l m n state.input bytes (state.input ++ bytes) state.taken read refl;
        size = omega (arith, length-append state.input bytes, state.size, size);
        front =
            front ∙ open-fronts kept (open_line [] state.input) bytes same
            ∙ ap (λ (o : List ℕ). kept_front o) (sym (open-append [] state.input bytes));
        numbered =
            omega (
              arith,
              next,
              state.numbered,
              fronts_many (closed_lines kept bytes) added fronts,
              length-append known added,
              ap (λ (x : List (List ℕ)). length x) joined,
            );
        entered =
            subst (λ (lines : List (List ℕ)). AreAllEntered (entering_from rules start 1) t lines (p || q) a c) (sym joined)
            (entered_more rules start s t 1 known added a b c p q state.entered
            (subst (λ (i : ℕ). AreAllEntered (entering_from rules s i) t added q b c) state.numbered
            (entered_fronts rules s t number (closed_lines kept bytes) added b c q fronts here)));
      }

module _ {State : Type 0} (rules : Entering State) (start s : State) (l m n a b c : Option (List ℕ)) (count : ℕ) (kept : List ℕ) (number : ℕ) (p : Bool)
    (state : IsTaken rules start l m a b count kept number p s) where
  -- the lines of the end of the input
  last_same : map kept_front (line_at_end kept) ≡ map kept_front (line_at_end (open_line [] state.input))
  last_same =
      ap (λ (o : List ℕ). map kept_front (line_at_end o)) state.front ∙ last-fronts (open_line [] state.input)

  -- a byte more than may be taken is there
  pub ends_more : (more : List ℕ) → Consumes m n more → length more ≡ 1 → count ≡ 2 ^ 30
      → IsTooMany (entries_of (entering_from rules start 1) s) (streams_told l n a b)
  ends_more more read one full = record {
    first = state.input;
    more = more;
    taken = consumes-then l m n state.input more (state.input ++ more) state.taken read refl;
    full = state.size ∙ full;
    one = one;
    refused = p;
    written = state.entered;
  }

  -- the input ends, and with its last line all are entered
  pub ends_all : (q : Bool) (t : State) → Consumes m n [] → IsAtEnd n → count ≤ 2 ^ 30 → AreAllEntered (entering_from rules s number) t (line_at_end kept) q b c
      → IsReadWhole (λ lines. AreAllEntered (entering_from rules start 1) t lines (p || q))
      (streams_told l n a c)
  ends_all q t read at_end within here = record {
    input = state.input;
    taken = consumes-then l m n state.input [] state.input state.taken read (sym (append-nil state.input));
    at_end = at_end;
    within = omega (arith, state.size);
    written =
        entered_more rules start s t 1 (closed_lines [] state.input) (line_at_end (open_line [] state.input)) a b c p q state.entered
        (subst (λ (i : ℕ). AreAllEntered (entering_from rules s i) t (line_at_end (open_line [] state.input)) q b c) state.numbered
        (entered_fronts rules s t number (line_at_end kept) (line_at_end (open_line [] state.input)) b c q last_same here));
  }

-- where a line that was read was not entered
module _ {State : Type 0} (rules : Entering State) (start last : State) (streams : Streams) (input : List ℕ) (lines : List (List ℕ)) where
  stop_ends : (stop : Stop) → Consumes streams.left streams.left_after input → length input ≤ 2 ^ 30
      → AreRead streams.left_after input lines → IsEntryStopped (entering_from rules start 1) stop lines streams.written streams.written_after
      → EndsWith (entries_of (entering_from rules start 1) last) streams (ended_of stop)
  stop_ends WriteFailed taken within read h =
      inl (record { input = input; taken = taken; within = within; lines = lines; read = read; written = h })
  stop_ends NoMemory taken within read h =
      record { input = input; taken = taken; within = within; lines = lines; read = read; written = h }

  stops : (stop : Stop) (ended : Ended) → ended ≡ ended_of stop → Consumes streams.left streams.left_after input
      → length input ≤ 2 ^ 30 → AreRead streams.left_after input lines
      → IsEntryStopped (entering_from rules start 1) stop lines streams.written streams.written_after
      → EndsWith (entries_of (entering_from rules start 1) last) streams ended
  stops stop ended is taken within read here =
      subst (λ (e : Ended). EndsWith (entries_of (entering_from rules start 1) last) streams e) (sym is) (stop_ends stop taken within read here)

module _ {State : Type 0} (rules : Entering State) (start s last : State) (l m n a b c : Option (List ℕ)) (count : ℕ)
    (kept : List ℕ) (number : ℕ) (p : Bool) (state : IsTaken rules start l m a b count kept number p s) (stop : Stop) where
  -- a line of a block stops the run
  pub ends_block : (ended : Ended) (more : ℕ) (bytes : List ℕ) → ended ≡ ended_of stop → Consumes m n bytes
      → length bytes ≡ more → count + more ≤ 2 ^ 30 → IsEntryStopped (entering_from rules s number) stop (closed_lines kept bytes) b c
      → EndsWith (entries_of (entering_from rules start 1) last) (streams_told l n a c) ended
  ends_block ended more bytes is read size within here =
      let known = closed_lines [] state.input in
      let next = closed_lines (open_line [] state.input) bytes in
      let fronts = closed-fronts kept (open_line [] state.input) bytes (same_front kept (open_line [] state.input) state.front) in
      let all : IsEntryStopped (entering_from rules start 1) stop (known ++ next) a c =
      stopped_after rules stop start s 1 known next a b c p state.entered
      (subst (λ (i : ℕ). IsEntryStopped (entering_from rules s i) stop next b c) state.numbered
      (stopped_fronts rules stop s number (closed_lines kept bytes) next b c fronts here)) in
      stops rules start last (streams_told l n a c) (state.input ++ bytes)
      (closed_lines [] (state.input ++ bytes)) stop ended is
      (consumes-then l m n state.input bytes (state.input ++ bytes) state.taken read refl)
      (omega (arith, length-append state.input bytes, state.size, size, within)) (inl refl)
      (subst (λ (lines : List (List ℕ)). IsEntryStopped (entering_from rules start 1) stop lines a c) (sym (closed-append [] state.input bytes)) all)

  -- the last line stops it
  pub ends_last : (ended : Ended) → ended ≡ ended_of stop → Consumes m n [] → IsAtEnd n → count ≤ 2 ^ 30
      → IsEntryStopped (entering_from rules s number) stop (line_at_end kept) b c
      → EndsWith (entries_of (entering_from rules start 1) last) (streams_told l n a c) ended
  ends_last ended is read at_end within here =
      let known = closed_lines [] state.input in
      let final = line_at_end (open_line [] state.input) in
      let fronts : map kept_front (line_at_end kept) ≡ map kept_front final =
      ap (λ (o : List ℕ). map kept_front (line_at_end o)) state.front ∙ last-fronts (open_line [] state.input) in
      stops rules start last (streams_told l n a c) state.input
      (lines_of state.input) stop ended is
      (consumes-then l m n state.input [] state.input state.taken read (sym (append-nil state.input)))
      (omega (arith, state.size, within)) (inr (at_end, refl))
      (stopped_after rules stop start s 1 known final a b c p state.entered
      (subst (λ (i : ℕ). IsEntryStopped (entering_from rules s i) stop final b c) state.numbered
      (stopped_fronts rules stop s number (line_at_end kept) final b c fronts here)))

verdict_ends : {State : Type 0} (rules : Entering State) (start last : State) (streams : Streams) (refused : Bool)
    → IsReadWhole (λ lines. AreAllEntered (entering_from rules start 1) last lines refused) streams
    → EndsWith (entries_of (entering_from rules start 1) last) streams (verdict_of refused)
verdict_ends rules start last streams true h = h
verdict_ends rules start last streams false h = h

-- the run ends as its lines were refused or not
pub ends_verdict : {State : Type 0} (rules : Entering State) (start last : State) (streams : Streams) (refused : Bool) (ended : Ended)
    → ended ≡ verdict_of refused → IsReadWhole (λ lines. AreAllEntered (entering_from rules start 1) last lines refused) streams
    → EndsWith (entries_of (entering_from rules start 1) last) streams ended
ends_verdict rules start last streams refused ended is h =
    subst (λ (e : Ended). EndsWith (entries_of (entering_from rules start 1) last) streams e) (sym is) (verdict_ends rules start last streams refused h)
