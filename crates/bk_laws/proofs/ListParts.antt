-- Parts of lists: the first items, those behind them, and lists end to end.
use Rattle.std.specs.List.{splice}
use Rattle.std.specs.Prelude.{map, pos, replicate, ℤ, ◌≢◌}
use Rattle.std.specs.Str.{bytes_eq}
use Rattle.std.proofs.Common.{Bool, List, [], add-one, ap, append_assoc, arith, drop, eqb-true, false, get_or, length, length-append, length-take, refl, set}
use Rattle.std.proofs.Common.{slice_index_or, slice_range, suc, sym, take, take_all, true, zero, ℕ, ◌++◌, ◌+◌, ◌-◌, ◌<◌, ◌==◌, ◌∙◌, ◌∷◌, ◌≡◌, ◌≤◌}
use Rattle.std.proofs.Math.Seq.{take-suc-set}
use Rattle.std.proofs.lemmas.Bool.{true≢false}
use Rattle.std.proofs.lemmas.List.{drop-append-le, drop-drop, drop-take, drop_at, length-drop, map_push, take-append-drop, take-append-le, take_at}
use Rattle.std.proofs.lemmas.List.{take_more}
use Rattle.std.proofs.lemmas.Slice.Eq.{bytes_eq-Decides}

-- to drop nothing leaves a list as it is
pub drop-none : {A : Type 0} (xs : List A) → drop 0 xs ≡ xs
drop-none [] = refl
drop-none (x ∷ xs) = refl

-- the first items up to a place within a list are as many as the place says
pub length-take_before_end : (bytes : List ℕ) (start stop : ℕ) → start ≤ stop → stop ≤ length bytes → length (take start bytes) ≡ start
length-take_before_end bytes start stop order within = omega (arith, length-take start bytes)

-- texts that the test of bytes tells apart differ
pub other_name-from_bytes_eq : (text name : List ℕ) → false ≡ bytes_eq text name → text ≢ name
other_name-from_bytes_eq text name test same =
    let true' : bytes_eq text name ≡ true = (bytes_eq-Decides text name).1 same in
    cc

-- what stands behind the first two items is shorter than the list
pub length-take_behind_two : {A : Type 0} (l : List A) → 2 ≤ length l → length (take (length l - 2) (drop 2 l)) < length l
length-take_behind_two l two = omega (arith, two, length-take (length l - 2) (drop 2 l), length-drop 2 l)

-- to drop one more from a list with one more before it is to drop from the list
pub drop-cons_one_more : {A : Type 0} (x : A) (xs : List A) (k : ℕ) → drop (suc k + 1) (x ∷ xs) ≡ drop (k + 1) xs
drop-cons_one_more x xs k = λ i. drop (next i) (x ∷ xs)
  where
    next : suc k + 1 ≡ suc (k + 1)
    next = omega arith

-- a part that ends within the first of two lists is a part of that list
pub slice_range-append_left : (xs ys : List ℕ) (a b : ℕ) → a ≤ b → b ≤ length xs → slice_range (xs ++ ys) a b ≡ slice_range xs a b
slice_range-append_left xs ys a b l m =
    ap (take (b - a)) (drop-append-le a xs ys (omega arith)) ∙ take-append-le (b - a) (drop a xs) ys (omega (arith, length-drop a xs))

-- a row of zeros is as long as they are repeated
pub length-replicate_zero : (r : ℕ) → length (replicate r (pos 0)) ≡ r
length-replicate_zero zero = refl
length-replicate_zero (suc r) = ap suc (length-replicate_zero r)

-- a mapped list that is written up to a place, with one item more
pub take-set_map_step : {A X : Type 0} (f : A → X) (ws zs : List X) (j : ℕ) (z : A) (pending : List A) (v : X) → j < length ws → v ≡ f z
    → take j ws ++ map f (z ∷ pending) ≡ zs → take (j + 1) (set ws j v) ++ map f pending ≡ zs
take-set_map_step {A} {X} f ws zs j z pending v h is e = ap (λ (n : ℕ). take n (set ws j v) ++ map f pending) (add-one j)
    ∙ ap (λ (front : List X). front ++ map f pending) (take-suc-set ws j v h) ∙ append_assoc (take j ws) (v ∷ []) (map f pending)
    ∙ (λ i. take j ws ++ (is i ∷ map f pending)) ∙ e

-- a list to which the images of the first k items of another were pushed, and then the next image, has those of the first k + 1 behind what it began with
pub pushed_more : {A B : Type 0} (xs : List A) (k : ℕ) (d : A) (f : A → B) (first old new : List B) → k < length xs → new ≡ old ++ f (get_or xs k d) ∷ []
    → old ≡ first ++ map f (take k xs) → new ≡ first ++ map f (take (k + 1) xs)
pushed_more {A} {B} xs k d f first old new below is so_far =
    is ∙ ap (λ (l : List B). l ++ f (get_or xs k d) ∷ []) so_far ∙ append_assoc first (map f (take k xs)) (f (get_or xs k d) ∷ [])
    ∙ ap (λ (l : List B). first ++ l) (sym (ap (map f) (take_more xs k d below) ∙ map_push f (take k xs) (get_or xs k d)))

-- a list to which the images of the first k items of another were pushed, which has no more than k, has all of them behind what it began with
pub pushed_all : {A B : Type 0} (xs ys : List A) (k : ℕ) (f : A → B) (first all : List B) → length xs ≤ k → xs ≡ ys → all ≡ first ++ map f (take k xs)
    → all ≡ first ++ map f ys
pushed_all xs ys k f first all none same so_far = so_far ∙ ap (λ l. first ++ map f l) (take_all k xs none ∙ same)

-- a list written up to a place and one item more, before the rest
pub take-set_append : (ws : List ℤ) (i : ℕ) (z : ℤ) (zs : List ℤ) → i < length ws → take (i + 1) (set ws i z) ++ zs ≡ take i ws ++ (z ∷ zs)
take-set_append ws i z zs h = ap (λ (n : ℕ). take n (set ws i z) ++ zs) (add-one i) ∙ ap (λ (front : List ℤ). front ++ zs) (take-suc-set ws i z h)
    ∙ append_assoc (take i ws) (z ∷ []) zs

-- equal lists of one item have the same item
pub singletons-same_item : (s t : List ℕ) → s ∷ [] ≡ t ∷ [] → s ≡ t
singletons-same_item s t e = ap (λ (l : List (List ℕ)). slice_index_or l 0 []) e

-- a list with one more item at its end is longer by one
pub length-snoc : (xs : List ℕ) (q : ℕ) → length (xs ++ (q ∷ [])) ≡ suc (length xs)
length-snoc [] q = refl
length-snoc (x ∷ xs) q = ap suc (length-snoc xs q)

-- nothing stands behind a whole list
pub drop-whole : (xs : List ℕ) (k : ℕ) → k ≡ length xs → drop k xs ≡ []
drop-whole [] zero e = refl
drop-whole [] (suc k) e = absurd (omega arith)
drop-whole (x ∷ xs) zero e = absurd (omega arith)
drop-whole (x ∷ xs) (suc k) e = drop-whole xs k (omega arith)

-- a list that is cut at a place, lengthened, and lengthened by what stood behind another place is spliced
pub splice-from_cut : {X : Type 0} (xs cut more longer behind last : List X) (start end many : ℕ) → many ≡ length xs → behind ≡ slice_range xs end many
    → cut ≡ take start xs → longer ≡ cut ++ more → last ≡ longer ++ behind → last ≡ splice xs start end more
splice-from_cut {X} xs cut more longer behind last start end many all is front grown whole =
    whole ∙ (λ i. (grown ∙ ap (λ (l : List X). l ++ more) front) i ++ back i) ∙ append_assoc (take start xs) more (drop end xs)
  where
    back : behind ≡ drop end xs
    back = is ∙ take_all (many - end) (drop end xs) (omega (arith, length-drop end xs, all))

-- if a middle part gives way to another, the parts around it stay
pub splice-middle : {X : Type 0} (front middle back new : List X) (start end : ℕ) → length front ≡ start → start + length middle ≡ end
    → splice (front ++ (middle ++ back)) start end new ≡ front ++ (new ++ back)
splice-middle {X = X} front middle back new start end at till = (λ i. take_at front (middle ++ back) start at i ++ (new ++ rest i))
  where
    rest : drop end (front ++ (middle ++ back)) ≡ back
    rest = ap (drop end) (sym (append_assoc front middle back)) ∙ drop_at (front ++ middle) back end (omega (arith, length-append front middle))

-- five lists end to end, grouped otherwise
pub append-regroup_five : (a b c d e : List ℕ) → a ++ ((b ++ (c ++ d)) ++ e) ≡ (a ++ b) ++ (c ++ (d ++ e))
append-regroup_five a b c d e = simp append_assoc

-- the first of what stands behind a place are what stands behind it in the first
pub take-drop_swap : {X : Type 0} (xs : List X) (i n : ℕ) → i ≤ n → take (n - i) (drop i xs) ≡ drop i (take n xs)
take-drop_swap xs i n h = sym (ap (λ k. drop i (take k xs)) (omega arith) ∙ drop-take i (n - i) xs)

-- what stands from a place on, as it is read
pub drop-as_read : (xs read : List ℕ) (kept n : ℕ) → read ≡ xs → kept ≡ n → take (length read - kept) (drop kept read) ≡ drop n xs
drop-as_read xs read kept n e f = take_all (length read - kept) (drop kept read) (omega (arith, length-drop kept read)) ∙ (λ i. drop (f i) (e i))

-- to drop from a list is to drop one more from the list with one more before it
pub drop-one_more_cons : (b : ℕ) (bs : List ℕ) (k : ℕ) → drop (k + 1) bs ≡ drop (suc k + 1) (b ∷ bs)
drop-one_more_cons b bs k =
    let e : suc (k + 1) ≡ suc k + 1 = omega arith in
    ap (λ (n : ℕ). drop n (b ∷ bs)) e

-- the first items are the same, whether the first list was cut to as many or not
pub take-append_take : (n : ℕ) (xs ys : List ℕ) → take n (take n xs ++ ys) ≡ take n (xs ++ ys)
take-append_take zero xs ys = refl
take-append_take (suc n) [] ys = refl
take-append_take (suc n) (x ∷ xs) ys = ap (λ (l : List ℕ). x ∷ l) (take-append_take n xs ys)

-- a list whose length the test finds not to be 0 has an item
pub length-positive_of_test : (line : List ℕ) → (length line == 0) ≡ false → 0 < length line
length-positive_of_test [] e = absurd (true≢false e)
length-positive_of_test (b ∷ bs) e = omega arith

-- two cuts of one list with equal fronts have equal rests
pub append-same_rest : (sides group other rest rest2 : List ℕ) → group ≡ other → sides ≡ group ++ rest → sides ≡ other ++ rest2 → rest ≡ rest2
append-same_rest sides group other rest rest2 same split split2 =
    sym (ap (drop (length group)) split ∙ drop_at group rest (length group) refl)
    ∙ ap (λ n. drop n sides) (ap length same)
    ∙ (ap (drop (length other)) split2 ∙ drop_at other rest2 (length other) refl)

-- a list whose length the test finds to be 0 is empty
pub empty-of_length_test : (sides : List ℕ) (b : Bool) → b ≡ (length sides == 0) → b ≡ true → sides ≡ []
empty-of_length_test [] b e f = refl
empty-of_length_test (s ∷ sides) b e f = absurd (omega (arith, eqb-true (length (s ∷ sides)) 0 (sym e ∙ f)))

-- the part of a list in the middle
pub take-drop_middle : (xs ys zs : List ℕ) (a k : ℕ) → a ≡ length xs → k ≡ length ys → take k (drop a (xs ++ (ys ++ zs))) ≡ ys
take-drop_middle xs ys zs a k e f = ap (take k) (drop_at xs (ys ++ zs) a (sym e)) ∙ take_at ys zs k (sym f)

-- a list with an item at its end isn't empty
pub length-snoc_positive : (xs : List ℕ) (n : ℕ) → 0 < length (xs ++ n ∷ [])
length-snoc_positive xs n = omega (arith, length-append xs (n ∷ []))

-- a blank between two texts, put to the first one
pub append-blank_between : (bytes rest : List ℕ) → bytes ++ 32 ∷ rest ≡ (bytes ++ 32 ∷ []) ++ rest
append-blank_between bytes rest = sym (append_assoc bytes (32 ∷ []) rest)

-- equal lists with equally long backs have equal fronts
pub append-same_front : (a b x y : List ℕ) → length x ≡ length y → a ++ x ≡ b ++ y → a ≡ b
append-same_front [] [] x y n e = refl
append-same_front [] (c ∷ b) x y n e = absurd (omega (arith, length-append b y, ap (λ (l : List ℕ). length l) e))
append-same_front (c ∷ a) [] x y n e = absurd (omega (arith, length-append a x, ap (λ (l : List ℕ). length l) e))
append-same_front (c ∷ a) (d ∷ b) x y n e =
    let first : c ≡ d = cc in
    let others : a ++ x ≡ b ++ y = cc in
    λ i. first i ∷ append-same_front a b x y n others i

-- a list in three parts: before, between and behind two places
pub append-three_parts : (text : List ℕ) (start end : ℕ) → start ≤ end → text ≡ (take start text ++ slice_range text start end) ++ drop end text
append-three_parts text start end order =
    let rest : drop (end - start) (drop start text) ≡ drop end text = drop-drop (end - start) start text
    ∙ ap (λ (n : ℕ). drop n text) (let e : start + (end - start) ≡ end = omega arith in e) in
    sym (take-append-drop start text)
    ∙ ap (λ (z : List ℕ). take start text ++ z) (sym (take-append-drop (end - start) (drop start text))
    ∙ ap (λ (z : List ℕ). slice_range text start end ++ z) rest)
    ∙ sym (append_assoc (take start text) (slice_range text start end) (drop end text))

-- equal lists with equally long fronts have equal parts
pub append-equal_parts : (a b c d : List ℕ) → length a ≡ length c → a ++ b ≡ c ++ d → (a ≡ c) × (b ≡ d)
append-equal_parts [] b [] d l e = (refl, e)
append-equal_parts [] b (n ∷ c) d l e = absurd (omega arith)
append-equal_parts (m ∷ a) b [] d l e = absurd (omega arith)
append-equal_parts (m ∷ a) b (n ∷ c) d l e = let rest = append-equal_parts a b c d (omega arith) tails in ((λ i. heads i ∷ rest.0 i), rest.1)
  where
    heads : m ≡ n
    heads = cc

    tails : a ++ b ≡ c ++ d
    tails = cc

-- a list with a first number is not empty
pub cons-not_empty : (n : ℕ) (ns : List ℕ) → n ∷ ns ≡ [] → ⊥
cons-not_empty n ns e = cc
