-- Values that may be missing, and results that may be errors.
use Rattle.std.specs.Prelude.{Bool, IfNone, IfOk, IfSome, IsOk, IsSomeAnd, MatchOption, OnErr, OnOk, cond, option_to_list}
use Rattle.std.specs.Result.{IsErrAnd, is_err}
use Rattle.std.proofs.Common.{Err, None, Ok, Option, Result, Some, ap, arith, false, is_some, length, nat_lt, refl, subst, sym, true, true≢false, ℕ, ◌<◌, ◌∙◌}
use Rattle.std.proofs.Common.{◌≡◌, ◌≤◌}
use Rattle.std.proofs.lemmas.Bool.Decides.{nat_tests}
use Rattle.std.proofs.lemmas.Option.{same_Some}

-- if none is found below a bound, the place is at least the bound
pub le-from_none_found : (n m : ℕ) → ◌≡◌ {A = Option ℕ} None (cond (nat_lt n m) (Some n) None) → m ≤ n
le-from_none_found n m e = by (nat_lt n m) refl e
  where
    by : (b : Bool) → nat_lt n m ≡ b → ◌≡◌ {A = Option ℕ} None (cond b (Some n) None) → m ≤ n
    by true t e = absurd (cc)
    by false t e = grind (arith, nat_tests)

-- what is found below a bound is the place, and below the bound
pub found-below_bound : (n m g : ℕ) → Some g ≡ cond (nat_lt n m) (Some n) None → (g ≡ n) × (n < m)
found-below_bound n m g e = by (nat_lt n m) refl e
  where
    by : (b : Bool) → nat_lt n m ≡ b → Some g ≡ cond (nat_lt n m) (Some n) None → (g ≡ n) × (n < m)
    by true t e = (same_Some g n (e ∙ ap (λ (v : Bool). cond v (Some n) None) t), (grind (arith, nat_tests)))
    by false t e = absurd (cc)

-- an option has one value
pub some-unique : {A : Type 0} (o : Option A) (x y : A) → o ≡ Some x → o ≡ Some y → x ≡ y
some-unique o x y e f = cc

-- an error is no success
pub err-not_ok : {T E : Type 0} (r : Result T E) (x : E) → r ≡ Err x → IsOk r → ⊥
err-not_ok (Ok y) x e ok = cc
err-not_ok (Err y) x e ok = let no : false ≡ true = ok in cc

-- what follows from a fact where there is no value
pub if_none-weaken : {A : Type 0} (o : Option A) (P Q : Type 0) → (P → Q) → IfNone o P → IfNone o Q
if_none-weaken None P Q f p = f p
if_none-weaken (Some a) P Q f p = p

-- what holds anyway holds where there is no value
pub if_none-intro : {A : Type 0} (o : Option A) (P : Type 0) → P → IfNone o P
if_none-intro None P p = p
if_none-intro (Some a) P p = tt

-- anything holds of no value
pub if_some-of_none : {A : Type 0} (o : Option A) (P : A → Type 0) → o ≡ None → IfSome o P
if_some-of_none o P e = subst (λ v. IfSome v P) (sym e) tt

-- a value of which something holds is there, with that
pub is_some_and-intro : {A : Type 0} (P : A → Type 0) (o : Option A) (x : A) → o ≡ Some x → P x → IsSomeAnd o P
is_some_and-intro {A} P o x e p = subst (λ (r : Option A). IsSomeAnd r P) (sym e) p

-- an optional number is a list of at most one
pub option_to_list-at_most_one : (o : Option ℕ) → length (option_to_list o) ≤ 1
option_to_list-at_most_one None = omega arith
option_to_list-at_most_one (Some a) = omega arith

-- where there is an error, anything holds of a success
pub if_ok-of_error : {T E : Type 0} (Q : E → Type 0) (r : Result T E) (P : T → Type 0) → IsErrAnd r Q → IfOk r P
if_ok-of_error Q (Ok x) P h = absurd h
if_ok-of_error Q (Err y) P h = tt

-- what holds of a success holds where the result is no error
pub on_ok-apply : {T E : Type 0} (r : Result T E) (P : Type 0) → is_err r ≡ false → OnOk r P → P
on_ok-apply (Ok x) P e h = h
on_ok-apply (Err x) P e h = absurd (true≢false e)

-- no value isn't a value
pub none-is_not_some : (k : ℕ) → ◌≡◌ {A = Option ℕ} None (Some k) → ⊥
none-is_not_some k e = cc

-- what a look-up that found nothing says
pub match_option-none : {A : Type 0} (P : Type 0) (Q : A → Type 0) (r : Option A) → is_some r ≡ false → MatchOption r P Q → P
match_option-none P Q None e m = m
match_option-none P Q (Some a) e m = absurd (true≢false e)

-- what a look-up that found something says
pub match_option-some : {A : Type 0} (P : Type 0) (Q : A → Type 0) (r : Option A) → is_some r ≡ true → MatchOption r P Q → (a : A) × Q a
match_option-some P Q None e m = absurd (true≢false (sym e))
match_option-some P Q (Some a) e m = (a, m)

-- what holds anyway holds of a success
pub on_ok-intro : {A E : Type 0} (P : Type 0) (r : Result A E) → P → OnOk r P
on_ok-intro P (Ok a) p = p
on_ok-intro P (Err e) p = tt

-- anything holds of the success of an error
pub on_ok-of_error : {A E : Type 0} (P : Type 0) (r : Result A E) (e : E) → r ≡ Err e → OnOk r P
on_ok-of_error {A} {E} P r e is = subst (λ (r : Result A E). OnOk r P) (sym is) tt

-- an option that the test finds to have no value has none
pub none-from_is_some : (limit : Option ℕ) → is_some limit ≡ false → limit ≡ None
none-from_is_some None e = refl
none-from_is_some (Some n) e = absurd (cc)

-- a success is not found to be an error
pub ok-is_not_err : {T E : Type 0} (r : Result T E) → IsOk r → is_err r ≡ true → false ≡ true
ok-is_not_err (Ok v) h e = e
ok-is_not_err (Err f) h e = h

-- what holds anyway holds of an error
pub on_err-intro : {A E : Type 0} {P : Type 0} (r : Result A E) → P → OnErr r P
on_err-intro (Ok a) p = tt
on_err-intro (Err e) p = p
