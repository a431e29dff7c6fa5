-- Lines at which a run stops, for a write that failed or for memory that is wanting: behind lines that were entered, among more lines, and among lines
-- of which the same fronts are kept.
use Rattle.std.proofs.Common.{◌≡◌, ℕ, ◌+◌, Bool, List, [], ◌∷◌, ◌++◌, length, map, Option, sym, ap, ◌∙◌, subst, arith}
use Rattle.std.specs.Io.KnownBytes.{Appends}
use Rattle.std.specs.List.{concat}
use Rattle.std.proofs.lemmas.List.{append_assoc, length-append}
use Rattle.std.proofs.lemmas.Grind.{flat_map-append}
use Rattle.bk_laws.proofs.Bytes.{appends-then}
use Rattle.bk_ports.specs.Answered.{AreBegun, AreCutShort}
use Rattle.bk_ports.specs.Causes.{AppendsPrefix}
use Rattle.bk_ports.proofs.KnownSteps.{prefix_after}
use Rattle.bk_ports.specs.Lines.{kept_front}
use Rattle.bk_ports.specs.Reply.{Reply, text_of}
use Rattle.bk_ports.specs.Entering.{AreAllEntered, AreEntered, CanBeEntered, Entering, IsEntryStopped, MayWantBehind, entering_from}
use Rattle.bk_ports.specs.declared.line.Stop.{Stop}
use Rattle.bk_ports.specs.declared.line.Stop.TheVariants.{WriteFailed, NoMemory}
use Rattle.bk_ports.proofs.Fronts.{split_as}
use Rattle.bk_ports.proofs.Joining.{entered-append, entered-fronts, fronts_many}

module _ {State : Type 0} (rules : Entering State) where
  -- ---- a write failed

  begun_after : (s m : State) (n : ℕ) (xs ys : List (List ℕ)) (a b c : Option (List ℕ)) (p : Bool) → AreAllEntered (entering_from rules s n) m xs p a b
      → AreBegun (CanBeEntered (entering_from rules m (n + length xs))) ys b c → AreBegun (CanBeEntered (entering_from rules s n)) (xs ++ ys) a c
  begun_after s m n xs ys a b c p first next = record {
    begun = xs ++ next.begun;
    unseen = next.unseen;
    split = ap (λ (l : List (List ℕ)). xs ++ l) next.split ∙ sym (append_assoc xs next.begun next.unseen);
    replies = first.replies ++ next.replies;
    each = (next.each.0, entered-append rules s m next.each.0 n xs next.begun first.replies next.replies first.each next.each.1);
    written =
        subst (λ (l : List ℕ). AppendsPrefix a c l) (sym (flat_map-append (λ (reply : Reply). concat reply.pieces) first.replies next.replies))
        (prefix_after a b c (text_of first.replies) (text_of next.replies) first.written next.written);
  }

  begun_front : (s : State) (n : ℕ) (xs ys : List (List ℕ)) (a b : Option (List ℕ)) → AreBegun (CanBeEntered (entering_from rules s n)) xs a b
      → AreBegun (CanBeEntered (entering_from rules s n)) (xs ++ ys) a b
  begun_front s n xs ys a b h = record {
    begun = h.begun;
    unseen = h.unseen ++ ys;
    split = ap (λ (l : List (List ℕ)). l ++ ys) h.split ∙ append_assoc h.begun h.unseen ys;
    replies = h.replies;
    each = h.each;
    written = h.written;
  }

  begun_fronts : (s : State) (n : ℕ) (xs ys : List (List ℕ)) (a b : Option (List ℕ)) → map kept_front xs ≡ map kept_front ys
      → AreBegun (CanBeEntered (entering_from rules s n)) xs a b
      → AreBegun (CanBeEntered (entering_from rules s n)) ys a b
  begun_fronts s n xs ys a b e h =
      let t = split_as ys h.begun h.unseen (sym (ap (λ (l : List (List ℕ)). map kept_front l) h.split) ∙ e) in
      record {
        begun = t.first;
        unseen = t.later;
        split = t.split;
        replies = h.replies;
        each = (h.each.0, entered-fronts rules s h.each.0 n h.begun t.first h.replies t.same_first h.each.1);
        written = h.written;
      }

  -- ---- memory is wanting

  wanting_after : (s m : State) (n : ℕ) (xs ys : List (List ℕ)) (a b c : Option (List ℕ)) (p : Bool) → AreAllEntered (entering_from rules s n) m xs p a b
      → AreCutShort (MayWantBehind (entering_from rules m (n + length xs))) ys b c → AreCutShort (MayWantBehind (entering_from rules s n)) (xs ++ ys) a c
  wanting_after s m n xs ys a b c p first next =
      let same : (n + length xs) + length next.done ≡ n + length (xs ++ next.done) = omega (arith, length-append xs next.done) in
      record {
        done = xs ++ next.done;
        line = next.line;
        unseen = next.unseen;
        split = ap (λ (l : List (List ℕ)). xs ++ l) next.split ∙ sym (append_assoc xs next.done (next.line ∷ next.unseen));
        replies = first.replies ++ next.replies;
        cause = (
          next.cause.0,
          entered-append rules s m next.cause.0 n xs next.done first.replies next.replies first.each next.cause.1,
          subst (λ (k : ℕ). rules.may_want next.cause.0 k (kept_front next.line)) same next.cause.2,
        );
        written =
            appends-then a b c (text_of first.replies) (text_of next.replies) (text_of (first.replies ++ next.replies))
            first.written next.written (flat_map-append (λ (reply : Reply). concat reply.pieces) first.replies next.replies);
      }

  wanting_front : (s : State) (n : ℕ) (xs ys : List (List ℕ)) (a b : Option (List ℕ)) → AreCutShort (MayWantBehind (entering_from rules s n)) xs a b
      → AreCutShort (MayWantBehind (entering_from rules s n)) (xs ++ ys) a b
  wanting_front s n xs ys a b h = record {
    done = h.done;
    line = h.line;
    unseen = h.unseen ++ ys;
    split = ap (λ (l : List (List ℕ)). l ++ ys) h.split ∙ append_assoc h.done (h.line ∷ h.unseen) ys;
    replies = h.replies;
    cause = h.cause;
    written = h.written;
  }

  -- a split line in a list of lines of which the same fronts are kept
  wanting_split : (s l : State) (n : ℕ) (ys done first later : List (List ℕ)) (line : List ℕ) (unseen : List (List ℕ)) (rs : List Reply) (a b : Option (List ℕ))
      → ys ≡ first ++ later → map kept_front done ≡ map kept_front first → map kept_front (line ∷ unseen) ≡ map kept_front later
      → rules.may_want l (n + length done) (kept_front line) → AreEntered (entering_from rules s n) done rs l → Appends a b (text_of rs)
      → AreCutShort (MayWantBehind (entering_from rules s n)) ys a b
  wanting_split s l n ys done first [] line unseen rs a b split e f cause each written = absurd (cc)
  wanting_split s l n ys done first (o ∷ os) line unseen rs a b split e f cause each written =
      let here : kept_front line ≡ kept_front o = cc in
      record {
        done = first;
        line = o;
        unseen = os;
        split = split;
        replies = rs;
        cause = (
          l,
          entered-fronts rules s l n done first rs e each,
          subst (λ (k : ℕ). rules.may_want l (n + k) (kept_front o)) (fronts_many done first e)
              (subst (λ (k : List ℕ). rules.may_want l (n + length done) k) here cause),
        );
        written = written;
      }

  wanting_fronts : (s : State) (n : ℕ) (xs ys : List (List ℕ)) (a b : Option (List ℕ)) → map kept_front xs ≡ map kept_front ys
      → AreCutShort (MayWantBehind (entering_from rules s n)) xs a b
      → AreCutShort (MayWantBehind (entering_from rules s n)) ys a b
  wanting_fronts s n xs ys a b e h =
      let t = split_as ys h.done (h.line ∷ h.unseen) (sym (ap (λ (l : List (List ℕ)). map kept_front l) h.split) ∙ e) in
      wanting_split s h.cause.0 n ys h.done t.first t.later h.line h.unseen h.replies a b t.split t.same_first t.same_later h.cause.2 h.cause.1 h.written

  -- ---- whatever stopped the lines

  -- behind lines that were entered
  pub stopped_after : (stop : Stop) (s m : State) (n : ℕ) (xs ys : List (List ℕ)) (a b c : Option (List ℕ)) (p : Bool)
      → AreAllEntered (entering_from rules s n) m xs p a b
      → IsEntryStopped (entering_from rules m (n + length xs)) stop ys b c → IsEntryStopped (entering_from rules s n) stop (xs ++ ys) a c
  stopped_after WriteFailed s m n xs ys a b c p first next = begun_after s m n xs ys a b c p first next
  stopped_after NoMemory s m n xs ys a b c p first next = wanting_after s m n xs ys a b c p first next

  -- with more lines behind, which were not seen
  pub stopped_front : (stop : Stop) (s : State) (n : ℕ) (xs ys : List (List ℕ)) (a b : Option (List ℕ)) → IsEntryStopped (entering_from rules s n) stop xs a b
      → IsEntryStopped (entering_from rules s n) stop (xs ++ ys) a b
  stopped_front WriteFailed s n xs ys a b h = begun_front s n xs ys a b h
  stopped_front NoMemory s n xs ys a b h = wanting_front s n xs ys a b h

  -- among lines of which the same fronts are kept
  pub stopped_fronts : (stop : Stop) (s : State) (n : ℕ) (xs ys : List (List ℕ)) (a b : Option (List ℕ)) → map kept_front xs ≡ map kept_front ys
      → IsEntryStopped (entering_from rules s n) stop xs a b → IsEntryStopped (entering_from rules s n) stop ys a b
  stopped_fronts WriteFailed s n xs ys a b e h = begun_fronts s n xs ys a b e h
  stopped_fronts NoMemory s n xs ys a b e h = wanting_fronts s n xs ys a b e h
