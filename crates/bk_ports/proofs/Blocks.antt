-- A block of bytes, of which some lines are entered.
use Rattle.std.proofs.Common.{◌≡◌, ℕ, ◌+◌, Bool, ◌||◌, List, [], ◌∷◌, ◌++◌, length, take, drop, Option, Some, None, sym, ap, ◌∙◌}
use Rattle.std.proofs.Common.{subst, arith}
use Rattle.std.proofs.lemmas.Bool.{false_from_ne_true}
use Rattle.std.proofs.lemmas.List.{append_assoc, append-nil, length-append}
use Rattle.memchr.specs.Find.{IsFirstByte, is_byte}
use Rattle.bk_ports.specs.Lines.{closed_lines, open_line}
use Rattle.bk_ports.specs.Entering.{AreAllEntered, Entering, IsEntryStopped, entering_from}
use Rattle.bk_ports.specs.declared.line.Stop.{Stop}
use Rattle.bk_ports.proofs.Cuts.{IsFirstFeed, HasNoFeed, closed-none, open-none, closed-first, open-first}
use Rattle.bk_ports.proofs.Joining.{entered_more}
use Rattle.bk_ports.proofs.StoppedLines.{stopped_after, stopped_front}

-- what a search for a line feed says
pub first_feed : (bytes : List ℕ) (k : ℕ) → IsFirstByte (is_byte 10) bytes (Some k) → IsFirstFeed bytes k
first_feed bytes k found = record {
  within = found.0.high;
  feed = found.1;
  before = λ j below. false_from_ne_true _ (found.0.before j (omega arith) below);
}

-- where no byte is the line feed there is none
pub no_feed_where_no_first_is_found : (bytes : List ℕ) → IsFirstByte (is_byte 10) bytes None → HasNoFeed bytes
no_feed_where_no_first_is_found bytes found = λ k below. false_from_ne_true _ (found k (omega arith) below)

-- of the lines of a block some are entered: `kept` is the front of the open line, `number` its number, and `rest` is still to
-- be read
pub record IsReadTo {State : Type 0} (rules : Entering State) (start : State) (from : ℕ) (begun block kept rest : List ℕ) (number : ℕ)
    (before now : Option (List ℕ)) (refused : Bool) (state : State) : Type 0 where
  pub done : List (List ℕ)
  pub lines : closed_lines begun block ≡ done ++ closed_lines kept rest
  pub open_is : open_line begun block ≡ open_line kept rest
  pub count : number ≡ from + length done
  pub entered : AreAllEntered (entering_from rules start from) state done refused before now

module _ {State : Type 0} (rules : Entering State) (start : State) (from : ℕ) (begun block : List ℕ) where
  -- the lines at the next line feed
  next_lines : (kept rest : List ℕ) (k : ℕ) (done : List (List ℕ)) → closed_lines begun block ≡ done ++ closed_lines kept rest → IsFirstFeed rest k
      → closed_lines begun block ≡ (done ++ (kept ++ take k rest) ∷ []) ++ closed_lines [] (drop (k + 1) rest)
  next_lines kept rest k done e first =
      e ∙ ap (λ (l : List (List ℕ)). done ++ l) (closed-first kept rest k first)
      ∙ sym (append_assoc done ((kept ++ take k rest) ∷ []) (closed_lines [] (drop (k + 1) rest)))

  -- the line up to the next line feed is entered
  pub block_read_to_the_next_feed : (s l : State) (kept rest now_kept now_rest : List ℕ) (k m n : ℕ) (a b c : Option (List ℕ)) (p q : Bool)
      → IsReadTo rules start from begun block kept rest m a b p s → IsFirstFeed rest k → now_kept ≡ [] → now_rest ≡ drop (k + 1) rest → n ≡ m + 1
      → AreAllEntered (entering_from rules s m) l ((kept ++ take k rest) ∷ []) q b c → IsReadTo rules start from begun block now_kept now_rest n a c (p || q) l
  block_read_to_the_next_feed s l kept rest now_kept now_rest k m n a b c p q state first none later next here =
      subst (λ (x : List ℕ). IsReadTo rules start from begun block x now_rest n a c (p || q) l) (sym none)
      (subst (λ (x : List ℕ). IsReadTo rules start from begun block [] x n a c (p || q) l) (sym later)
      (record {
        done = state.done ++ (kept ++ take k rest) ∷ [];
        lines = next_lines kept rest k state.done state.lines first;
        open_is = state.open_is ∙ open-first kept rest k first;
        count = omega (arith, next, state.count, length-append state.done ((kept ++ take k rest) ∷ []));
        entered =
            entered_more rules start s l from state.done ((kept ++ take k rest) ∷ []) a b c p q state.entered
            (subst (λ (i : ℕ). AreAllEntered (entering_from rules s i) l ((kept ++ take k rest) ∷ []) q b c) state.count here);
      }))

  -- all lines are done where no line feed is left
  all_done : (kept rest : List ℕ) (done : List (List ℕ)) → closed_lines begun block ≡ done ++ closed_lines kept rest → HasNoFeed rest
      → closed_lines begun block ≡ done
  all_done kept rest done e none =
      e ∙ ap (λ (l : List (List ℕ)). done ++ l) (closed-none kept rest none) ∙ append-nil done

  -- where no line feed is left, all lines of the block are entered
  pub read_all : (s : State) (kept rest : List ℕ) (n : ℕ) (a b : Option (List ℕ)) (p : Bool) → IsReadTo rules start from begun block kept rest n a b p s
      → HasNoFeed rest → AreAllEntered (entering_from rules start from) s (closed_lines begun block) p a b
  read_all s kept rest n a b p state none =
      subst (λ (l : List (List ℕ)). AreAllEntered (entering_from rules start from) s l p a b)
      (sym (all_done kept rest state.done state.lines none)) state.entered

  -- where no line feed is left in a block, all its lines are counted
  pub all_lines_counted_with_no_feed_left : (s : State) (kept rest : List ℕ) (n : ℕ) (a b : Option (List ℕ)) (p : Bool)
      → IsReadTo rules start from begun block kept rest n a b p s
      → HasNoFeed rest → n ≡ from + length (closed_lines begun block)
  all_lines_counted_with_no_feed_left s kept rest n a b p state none =
      state.count ∙ ap (λ (l : List (List ℕ)). from + length l) (sym (all_done kept rest state.done state.lines none))

  -- what is left of a block with no line feed is the open line
  pub open_all : (s : State) (kept rest : List ℕ) (n : ℕ) (a b : Option (List ℕ)) (p : Bool) → IsReadTo rules start from begun block kept rest n a b p s
      → HasNoFeed rest → open_line begun block ≡ kept ++ rest
  open_all s kept rest n a b p state none = state.open_is ∙ open-none kept rest none

  -- where the line up to the next line feed stops the run, so does the block
  pub read_stopped : (s : State) (kept rest : List ℕ) (k n : ℕ) (a b c : Option (List ℕ)) (p : Bool) (stop : Stop)
      → IsReadTo rules start from begun block kept rest n a b p s → IsFirstFeed rest k
      → IsEntryStopped (entering_from rules s n) stop ((kept ++ take k rest) ∷ []) b c
      → IsEntryStopped (entering_from rules start from) stop (closed_lines begun block) a c
  read_stopped s kept rest k n a b c p stop state first here =
      subst (λ (l : List (List ℕ)). IsEntryStopped (entering_from rules start from) stop l a c) (sym (next_lines kept rest k state.done state.lines first))
      (stopped_front rules stop start from (state.done ++ (kept ++ take k rest) ∷ []) (closed_lines [] (drop (k + 1) rest)) a c
      (stopped_after rules stop start s from state.done ((kept ++ take k rest) ∷ []) a b c p state.entered
      (subst (λ (i : ℕ). IsEntryStopped (entering_from rules s i) stop ((kept ++ take k rest) ∷ []) b c) state.count here)))
