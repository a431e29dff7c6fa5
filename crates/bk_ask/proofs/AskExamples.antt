-- Options and their values, command lines that ask something, some that ask nothing, and the line of usage.
use Rattle.std.specs.Fmt.{digits}
use Rattle.std.specs.Prelude.{None, Some, codes}
use Rattle.std.proofs.Common.{List, [], ap, arith, false, inr, length, lit<, lit≤, nat_eq, refl, slice_index, ℕ, ◌∷◌, ◌≡◌}
use Rattle.std.proofs.lemmas.Bool.{eqb-false}
use Rattle.bk_laws.proofs.Membership.{contains-none}
use Rattle.bk_word.proofs.WordExamples.{staircase}
use Rattle.bk_word.specs.declared.Class.TheVariants.{Imperfect, Perfect}
use Rattle.bk_ask.specs.Asked.{Asks, AsksNothing}
use Rattle.bk_ask.specs.Help.{usage}
use Rattle.bk_ask.specs.OptionValues.{IsClassName, IsCursor, IsNumberWithin}
use Rattle.bk_ask.specs.Options.{AreOptions, options_in}
use Rattle.bk_ask.specs.declared.Ask.TheVariants as asks
use Rattle.bk_pair.specs.declared.Kind.TheVariants as kinds
use Rattle.bk_ask.proofs.OptionLaws.{option_of}
use Rattle.bk_ask.proofs.Unasked.{nothing_listed, nothing_with_options}

-- texts that differ at a place differ
differ : (xs ys : List ℕ) (i : ℕ) → nat_eq (slice_index xs i) (slice_index ys i) ≡ false → xs ≡ ys → ⊥
differ xs ys i t e = eqb-false (slice_index xs i) (slice_index ys i) t (ap (λ bytes. slice_index bytes i) e)

-- ---- options, and their values

-- the last name has no value, and is in no option
two_of_three : options_in (codes "--order" ∷ codes "9" ∷ codes "--class" ∷ []) ≡ record { name = codes "--order"; value = codes "9" } ∷ []
two_of_three = refl

-- so these words are no options
name_without_value : AreOptions (codes "--order" ∷ []) (codes "--order" ∷ []) → ⊥
name_without_value are = let none : codes "--order" ∷ [] ≡ [] = are.whole in cc

-- nor are those in which a name stands twice
name_twice : AreOptions (codes "--order" ∷ []) (codes "--order" ∷ codes "9" ∷ codes "--order" ∷ codes "9" ∷ []) → ⊥
name_twice are = are.once.0.0 refl

order_16 : IsNumberWithin 2 16 (codes "16") 16
unfolding digits
order_16 = record { at_least = lit≤ tt; at_most = lit≤ tt; text = refl }

order_17 : IsNumberWithin 2 16 (codes "17") 17 → ⊥
order_17 is = omega (arith, is.at_most)

-- a number has no 0 before it
zero_before_9 : IsNumberWithin 2 16 (codes "09") 9 → ⊥
unfolding digits
zero_before_9 is = differ (codes "09") (codes "9") 0 refl is.text

-- the text of a word of five squares
cursor_of_five : IsCursor (codes "2u.2eu.1e") staircase
unfolding digits
cursor_of_five = record {
  text = record {
    some = lit< tt;
    moves = (
      record { stands = record { some = lit< tt; least = lit≤ tt; most = lit≤ tt }; digits = lit≤ tt },
      (
        record { stands = record { some = lit< tt; least = lit≤ tt; most = lit≤ tt }; digits = lit≤ tt },
        (record { stands = record { some = lit< tt; least = lit≤ tt; most = lit≤ tt }; digits = lit≤ tt }, tt),
      ),
    );
    text = refl;
  };
  few = lit≤ tt;
}

class_named : IsClassName (codes "imperfect") Imperfect
class_named = refl

class_cut : IsClassName (codes "perfect") Imperfect → ⊥
class_cut is = differ (codes "perfect") (codes "imperfect") 0 refl is

-- ---- command lines

usage_length : length usage ≡ 42
usage_length = refl

pub check_alone : Asks (codes "check" ∷ []) asks.Check
check_alone = record { options = []; line = refl; say = refl }

-- in any order, and the class perfect where it is left out
pub list_nine : Asks (codes "list" ∷ codes "--limit" ∷ codes "1" ∷ codes "--order" ∷ codes "9" ∷ []) (asks.List 9 Perfect None (Some 1))
unfolding digits
list_nine = record {
  options = codes "--limit" ∷ codes "1" ∷ codes "--order" ∷ codes "9" ∷ [];
  line = refl;
  say = record {
    options = record {
      whole = refl;
      known = ((3, omega arith, refl), ((0, omega arith, refl), tt));
      once = ((differ (codes "--order") (codes "--limit") 2 refl, tt), (tt, tt));
    };
    has_order = record { value = codes "9"; stands = (1, omega arith, refl); means = record { at_least = omega arith; at_most = omega arith; text = refl } };
    has_class = inr ((differ (codes "--limit") (codes "--class") 2 refl, (differ (codes "--order") (codes "--class") 2 refl, tt)), refl);
    has_from = (differ (codes "--limit") (codes "--from") 2 refl, (differ (codes "--order") (codes "--from") 2 refl, tt));
    has_limit = record { value = codes "1"; stands = (0, omega arith, refl); means = record { at_least = omega arith; at_most = omega arith; text = refl } };
  };
}

-- an order is wanted
pub list_alone : AsksNothing (codes "list" ∷ [])
list_alone = nothing_listed [] (λ order class from limit l. contains-none (option_of (codes "--order") l.has_order.value) l.has_order.stands)

-- `check` stands alone
pub check_with_order : AsksNothing (codes "check" ∷ codes "--order" ∷ codes "9" ∷ [])
check_with_order =
    nothing_with_options (codes "check") (codes "--order") (codes "9" ∷ [])
    (record {
      no_list = differ (codes "check") (codes "list") 0 refl;
      no_trial = differ (codes "check") (codes "trial") 0 refl;
      no_verify = differ (codes "check") (codes "verify") 0 refl;
      no_pair = differ (codes "check") (codes "pair") 0 refl;
    })

-- the kind perfect where it is left out
pub pair_alone : Asks (codes "pair" ∷ []) (asks.Pair kinds.Perfect)
pair_alone = record {
  options = [];
  line = refl;
  say = record {
    options = record { whole = refl; known = tt; once = tt };
    has_kind = inr (tt, refl);
  };
}
