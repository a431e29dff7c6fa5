-- Numbers that are kept: one put behind them, and the upper half of those that ascend dropped.
use Rattle.std.proofs.Common.{Contains, IsSome, IsSomeAnd, List, None, Option, Some, [], arith, drop, inl, inr, length, refl, slice_index, subst}
use Rattle.std.proofs.Common.{suc, sym, take, zero, ℕ, ◌++◌, ◌/◌, ◌<◌, ◌∙◌, ◌∷◌, ◌≡◌, ◌≤◌, ◌⊎◌}
use Rattle.std.proofs.lemmas.Bool.{cases_lt}
use Rattle.std.proofs.lemmas.List.{take-append-drop}
use Rattle.std.proofs.lemmas.List.Elements.{All-contains, All-from_recursion, Contains-append_cases, Contains-append_left}
use Rattle.std.proofs.lemmas.List.Elements.{Contains-push, Contains-push_cases}
use Rattle.bk_packed.specs.KeptNumbers.{AreAscendingNumbers, HasMoreDifferent, Holds, HoldsOneMore, IsKeptTable, Numbers}
use Rattle.bk_packed.proofs.AscendingNumbers.{All, AreSame, IsNewPlace, all_join, all_map, all_of_each_contained, all_pass_with_one_put_in, all_same}
use Rattle.bk_packed.proofs.AscendingNumbers.{from_place, least_below, long_one, low_half, one_ascends, place_in, with_one}

-- ---- a table with one more

-- a kept table that holds one more
pub record IsPut (room : ℕ) (t u : Numbers) (x : ℕ) : Type 0 where
  pub kept_table : IsKeptTable u
  pub holds : HoldsOneMore room t u x

-- where the numbers stay, in whatever order, no limit is above the number, and it is put behind them
pub put_behind : (room : ℕ) (t u : Numbers) (x : ℕ) (numbers : List ℕ) → IsKeptTable t → AreSame numbers t.kept
    → (IsSomeAnd t.limit (λ least. least ≤ x) → ⊥) → u.kept ≡ numbers ++ x ∷ [] → u.limit ≡ t.limit → IsPut room t u x
put_behind room t u x numbers table same below kept limit = record {
  kept_table = record {
    below = λ least e. subst (All (λ y. y < least)) (sym kept) (all_join (λ y. y < least) numbers (x ∷ []) (all_same (λ y. y < least)
        t.kept numbers (λ y. ((same y).1, (same y).0)) (table.below least (sym limit ∙ e))) (under least (sym limit ∙ e), tt));
  };
  holds = record {
    put = inl (subst (λ l. Contains l x) (sym kept) (Contains-push numbers x));
    kept = others;
    only = λ y h. which y (Contains-push_cases numbers x y (subst (λ l. Contains l y) kept h));
    cut = λ some. inl (subst (λ l. IsSome l) limit some);
  };
}
  where
    under : (least : ℕ) → t.limit ≡ Some least → x < least
    under least e = cases (cases_lt x least)
      where
        cases : (x < least) ⊎ (least ≤ x) → x < least
        cases (inl h) = h
        cases (inr h) = absurd (below (subst (λ l. IsSomeAnd l (λ b. b ≤ x)) (sym e) h))

    which : (y : ℕ) → Contains numbers y ⊎ (x ≡ y) → Contains t.kept y ⊎ (y ≡ x)
    which y (inl h) = inl ((same y).0 h)
    which y (inr e) = inr (sym e)

    others : (y : ℕ) → Holds t y → Holds u y
    others y (inl h) = inl (subst (λ l. Contains l y) (sym kept) (Contains-append_left numbers (x ∷ []) y ((same y).1 h)))
    others y (inr h) = inr (record {
      limit = h.limit;
      cut = limit ∙ h.cut;
      from = h.from;
      beyond = subst (All (λ z. z < y)) (sym kept) (all_join (λ z. z < y) numbers (x ∷ []) (all_same (λ z. z < y) t.kept numbers (λ z. ((same z).1, (same z).0))
          h.beyond) (omega (arith, under h.limit h.cut, h.from), tt));
    })

-- where the number is from the limit on
pub put_beyond : (room : ℕ) (t : Numbers) (x : ℕ) → IsKeptTable t → IsSomeAnd t.limit (λ least. least ≤ x) → IsPut room t t x
put_beyond room t x table from = cases t.limit refl
  where
    held : (least : ℕ) → t.limit ≡ Some least → Holds t x
    held least e = inr (record {
      limit = least;
      cut = e;
      from = subst (λ l. IsSomeAnd l (λ b. b ≤ x)) e from;
      beyond = all_map (λ y. y < least) (λ y. y < x) t.kept (λ y h. omega (arith, h, below)) (table.below least e);
    })
      where
        below : least ≤ x
        below = subst (λ l. IsSomeAnd l (λ b. b ≤ x)) e from

    cases : (l : Option ℕ) → t.limit ≡ l → IsPut room t t x
    cases None e = absurd (subst (λ l. IsSomeAnd l (λ b. b ≤ x)) e from)
    cases (Some least) e = record {
      kept_table = table;
      holds = record { put = held least e; kept = λ y h. h; only = λ y h. inl h; cut = λ some. inl some };
    }

-- a number that is there already is kept
pub put_again : (room : ℕ) (t u : Numbers) (x : ℕ) → IsKeptTable t → AreSame u.kept t.kept → Contains u.kept x → u.limit ≡ t.limit → IsPut room t u x
put_again room t u x table same has limit = record {
  kept_table = record { below = λ least e. all_same (λ y. y < least) t.kept u.kept (λ y. ((same y).1, (same y).0)) (table.below least (sym limit ∙ e)) };
  holds = record {
    put = inl has;
    kept = others;
    only = λ y h. inl ((same y).0 h);
    cut = λ some. inl (subst (λ l. IsSome l) limit some);
  };
}
  where
    others : (y : ℕ) → Holds t y → Holds u y
    others y (inl h) = inl ((same y).1 h)
    others y (inr h) = inr (record {
      limit = h.limit;
      cut = limit ∙ h.cut;
      from = h.from;
      beyond = all_same (λ z. z < y) t.kept u.kept (λ z. ((same z).1, (same z).0)) h.beyond;
    })

-- where as many different numbers are there as there is room for, and the upper half of them is dropped
module _ (room : ℕ) (t : Numbers) (x : ℕ) (numbers : List ℕ) (table : IsKeptTable t) (ascend : AreAscendingNumbers numbers) (same : AreSame numbers t.kept)
    (full : room ≤ length numbers) (new : Contains numbers x → ⊥) where
  -- half of how many numbers there are, rounded down
  abbrev pub half : ℕ
  half = length numbers / 2

  -- the least number of the upper half
  abbrev pub least : ℕ
  least = slice_index numbers half

  -- so there are more different ones
  more : HasMoreDifferent room (x ∷ t.kept)
  more = cases (place_in numbers x ascend new)
    where
      cases : IsNewPlace numbers x → HasMoreDifferent room (x ∷ t.kept)
      cases p = record {
        different = with_one p.place x numbers;
        ascending = one_ascends x p.place numbers ascend p.before p.from;
        each = all_pass_with_one_put_in (λ y. Contains (x ∷ t.kept) y) x p.place numbers (zero, omega arith, refl)
            (all_of_each_contained (λ y. Contains (x ∷ t.kept) y) numbers (λ y h. behind y ((same y).0 h)));
        more = omega (arith, long_one x p.place numbers, full);
      }
        where
          behind : (y : ℕ) → Contains t.kept y → Contains (x ∷ t.kept) y
          behind y (k, low, is) = (suc k, omega (arith, low), is)

  -- what a table is then that has the lower half
  record IsHalved (u : Numbers) : Type 0 where
    pub has : (y : ℕ) → Contains (take half numbers) y → Contains u.kept y
    pub below : All (λ y. y < least) u.kept
    pub limit : u.limit ≡ Some least

  beyond : (u : Numbers) → IsHalved u → (y : ℕ) → least ≤ y → Holds u y
  beyond u h y from = inr (record {
    limit = least;
    cut = h.limit;
    from = from;
    beyond = all_map (λ z. z < least) (λ z. z < y) u.kept
        (λ z k. omega arith) h.below;
  })

  upper : (y : ℕ) → Contains (drop half numbers) y → least ≤ y
  upper y h = All-contains (λ z. least ≤ z) (drop half numbers) y (All-from_recursion (λ z. least ≤ z) (drop half numbers) (from_place numbers half ascend)) h

  others : (u : Numbers) → IsHalved u → (y : ℕ) → Holds t y → Holds u y
  others u h y (inl c) = cases (Contains-append_cases (take half numbers) (drop half numbers) y
      (subst (λ l. Contains l y) (sym (take-append-drop half numbers)) ((same y).1 c)))
    where
      cases : Contains (take half numbers) y ⊎ Contains (drop half numbers) y → Holds u y
      cases (inl k) = inl (h.has y k)
      cases (inr k) = beyond u h y (upper y k)
  others u h y (inr c) = beyond u h y (omega (
    arith,
    least_below numbers c.limit (all_same (λ z. z < c.limit) t.kept numbers (λ z. ((same z).1, (same z).0)) (table.below c.limit c.cut)),
    c.from,
  ))

  low_only : (y : ℕ) → Contains (take half numbers) y → Contains t.kept y
  low_only y h = (same y).0 (subst (λ l. Contains l y) (take-append-drop half numbers) (Contains-append_left (take half numbers) (drop half numbers) y h))

  halved_table : (u : Numbers) → IsHalved u → IsKeptTable u
  halved_table u h = record { below = λ b e. subst (λ l. All (λ y. y < l) u.kept) (some_same (sym h.limit ∙ e)) h.below }
    where
      some_same : {b : ℕ} → Some least ≡ Some b → least ≡ b
      some_same e = cc

  -- a number less than the least that is dropped is kept
  pub put_low : (u : Numbers) → x < least → u.kept ≡ take half numbers ++ x ∷ [] → u.limit ≡ Some least → IsPut room t u x
  put_low u low kept limit = record {
    kept_table = halved_table u halved;
    holds = record {
      put = inl (subst (λ l. Contains l x) (sym kept) (Contains-push (take half numbers) x));
      kept = others u halved;
      only = λ y h. which y (Contains-push_cases (take half numbers) x y (subst (λ l. Contains l y) kept h));
      cut = λ some. inr more;
    };
  }
    where
      halved : IsHalved u
      halved = record {
        has = λ y h. subst (λ l. Contains l y) (sym kept) (Contains-append_left (take half numbers) (x ∷ []) y h);
        below = subst (All (λ y. y < least)) (sym kept) (all_join (λ y. y < least) (take half numbers) (x ∷ []) (low_half numbers ascend) (low, tt));
        limit = limit;
      }

      which : (y : ℕ) → Contains (take half numbers) y ⊎ (x ≡ y) → Contains t.kept y ⊎ (y ≡ x)
      which y (inl h) = inl (low_only y h)
      which y (inr e) = inr (sym e)

  -- a number that isn't less than the least dropped one is dropped
  pub put_high : (u : Numbers) → least ≤ x → u.kept ≡ take half numbers → u.limit ≡ Some least → IsPut room t u x
  put_high u high kept limit = record {
    kept_table = halved_table u halved;
    holds = record {
      put = beyond u halved x high;
      kept = others u halved;
      only = λ y h. inl (low_only y (subst (λ l. Contains l y) kept h));
      cut = λ some. inr more;
    };
  }
    where
      halved : IsHalved u
      halved = record {
        has = λ y h. subst (λ l. Contains l y) (sym kept) h;
        below = subst (All (λ y. y < least)) (sym kept) (low_half numbers ascend);
        limit = limit;
      }

-- a table of kept numbers stays one when its numbers are put in another order
pub thinned : (kept numbers : List ℕ) (limit : Option ℕ) → IsKeptTable (record { kept = kept; limit = limit }) → AreSame numbers kept
    → IsKeptTable (record { kept = numbers; limit = limit })
thinned kept numbers limit table same = record {
  below = λ least e. all_same (λ y. y < least) kept numbers (λ y. ((same y).1, (same y).0)) (table.below least e);
}
