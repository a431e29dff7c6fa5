-- A layout with a square reversed: what is known around q, p and r, how its functions and lists change, by places and by
-- counts. Here and in the files on it u is the node above q, v the one below it.
use Rattle.bk_laws.proofs.ListParts.{length-snoc}
use Rattle.bk_laws.proofs.ListPlaces.{slice_get-snoc_before, slice_get-snoc_last}
use Rattle.bk_laws.proofs.Occurrences.{times, times-snoc}
use Rattle.bk_layout.proofs.Lists.NodeLists.{Sorted, ending_sorted, same_as_one, hanging_sorted, lists_of_sorted, sorted_moved}
use Rattle.bk_layout.proofs.Lists.Pieces.{init_below, init_got, init_length, put_at, put_other, tail_got}
use Rattle.bk_layout.proofs.Lists.Pieces.{tail_length, times_init, times_tail}
use Rattle.bk_layout.specs.Layout.{AreLists, AreNeighbours, Fits, IsLast, Layout}
use Rattle.bk_layout.specs.Reversal.{CanReverse, put, reversed, without_first, without_last}
use Rattle.std.proofs.Common.{List, Some, [], ap, arith, length, refl, slice_get, subst, suc, sym, ℕ, ◌++◌, ◌<◌, ◌∙◌, ◌∷◌}
use Rattle.std.proofs.Common.{◌≡◌, ◌⊎◌}
use Rattle.std.proofs.lemmas.Option.{slice_get_within}

module _ (l : Layout) (fits : Fits l) (q p r : ℕ) (can : CanReverse l q p r) where
  abbrev m : Layout
  m = reversed l q p r

  abbrev u : ℕ
  u = l.above q

  abbrev v : ℕ
  v = l.below q

  -- what is known around a square that may be reversed, and of the functions of the reversed layout
  pub record Around : Type 0 where
    pub u_low : u < l.bottom
    pub v_some : 0 < v
    pub v_low : v < l.bottom
    pub u_rank : can.rank u < can.rank v
    pub u_not_v : u ≡ v → ⊥
    pub v_not_u : v ≡ u → ⊥
    pub q_last : IsLast (l.ending v) q
    pub p_meets : AreNeighbours (l.ending (l.below p)) p q
    pub p_below : l.below p ≡ v
    pub p_beside : AreNeighbours (l.ending v) p q
    pub p_not_q : p ≡ q → ⊥
    pub r_not_q : r ≡ q → ⊥
    pub r_left : l.left q ≡ l.left r
    pub above_q : m.above q ≡ v
    pub below_q : m.below q ≡ u
    pub left_q : m.left q ≡ l.right q
    pub right_q : m.right q ≡ l.left q
    pub above_x : (x : ℕ) → (x ≡ q → ⊥) → m.above x ≡ l.above x
    pub below_x : (x : ℕ) → (x ≡ q → ⊥) → m.below x ≡ l.below x
    pub left_x : (x : ℕ) → (x ≡ q → ⊥) → m.left x ≡ l.left x
    pub right_x : (x : ℕ) → (x ≡ q → ⊥) → m.right x ≡ l.right x
    pub hanging_u : m.hanging u ≡ without_first (l.hanging u)
    pub hanging_v : m.hanging v ≡ l.hanging v ++ (q ∷ [])
    pub hanging_w : (w : ℕ) → (w ≡ u → ⊥) → (w ≡ v → ⊥) → m.hanging w ≡ l.hanging w
    pub ending_u : m.ending u ≡ q ∷ l.ending u
    pub ending_v : m.ending v ≡ without_last (l.ending v)
    pub ending_w : (w : ℕ) → (w ≡ u → ⊥) → (w ≡ v → ⊥) → m.ending w ≡ l.ending w
    pub which : (w : ℕ) → (w ≡ u) ⊎ ((w ≡ v) ⊎ ((w ≡ u → ⊥) × (w ≡ v → ⊥)))

  u_rank : can.rank u < can.rank v
  u_rank = can.rises q can.known

  u_not_v : u ≡ v → ⊥
  u_not_v e = omega (arith, u_rank, ap can.rank e)

  v_not_u : v ≡ u → ⊥
  v_not_u e = u_not_v (sym e)

  p_meets : AreNeighbours (l.ending (l.below p)) p q
  p_meets = fits.go_on.meet p q can.before can.known can.beside can.even_before can.even_at_left

  p_below : l.below p ≡ v
  p_below = sym (fits.lists.ending_is (l.below p) (suc p_meets.0) q p_meets.2).1

  p_beside : AreNeighbours (l.ending v) p q
  p_beside = subst (λ (w : ℕ). AreNeighbours (l.ending w) p q) p_below p_meets

  r_is : (r < l.squares) × (l.below r ≡ u)
  r_is = fits.lists.ending_is u 0 r can.over

  -- all that is said to be known around the square holds
  pub around : Around
  around = record {
    u_low = fits.nodes.hangs_above q can.known;
    v_some = (fits.nodes.ends_below q can.known).0;
    v_low = (fits.go_on.on_right q can.known can.above_at_right).1;
    u_rank = u_rank;
    u_not_v = u_not_v;
    v_not_u = v_not_u;
    q_last = (fits.go_on.on_right q can.known can.above_at_right).0;
    p_meets = p_meets;
    p_below = p_below;
    p_beside = p_beside;
    p_not_q = λ e. omega (arith, fits.lists.ending_once v p_beside.0 (suc p_beside.0) q (p_beside.1 ∙ ap (λ (x : ℕ). Some x) e) p_beside.2);
    r_not_q = λ e. u_not_v (sym r_is.1 ∙ ap l.below e);
    r_left = fits.lines.same_left u r q can.over can.first;
    above_q = put_at q v l.above q refl;
    below_q = put_at q u l.below q refl;
    left_q = put_at q (l.right q) l.left q refl;
    right_q = put_at q (l.left q) l.right q refl;
    above_x = λ x n. put_other q v l.above x n;
    below_x = λ x n. put_other q u l.below x n;
    left_x = λ x n. put_other q (l.right q) l.left x n;
    right_x = λ x n. put_other q (l.left q) l.right x n;
    hanging_u = put_at u (without_first (l.hanging u)) (put v (l.hanging v ++ (q ∷ [])) l.hanging) u refl;
    hanging_v = put_other u (without_first (l.hanging u)) (put v (l.hanging v ++ (q ∷ [])) l.hanging) v v_not_u
        ∙ put_at v (l.hanging v ++ (q ∷ [])) l.hanging v refl;
    hanging_w = λ w a b. put_other u (without_first (l.hanging u)) (put v (l.hanging v ++ (q ∷ [])) l.hanging) w a
        ∙ put_other v (l.hanging v ++ (q ∷ [])) l.hanging w b;
    ending_u = put_at u (q ∷ l.ending u) (put v (without_last (l.ending v)) l.ending) u refl;
    ending_v = put_other u (q ∷ l.ending u) (put v (without_last (l.ending v)) l.ending) v v_not_u ∙ put_at v (without_last (l.ending v)) l.ending v refl;
    ending_w = λ w a b. put_other u (q ∷ l.ending u) (put v (without_last (l.ending v)) l.ending) w a ∙ put_other v (without_last (l.ending v)) l.ending w b;
    which = same_as_one u v;
  }

  abbrev about : Around
  about = around

  -- the lists of u and v before and after, by places; and where q does not stand
  pub record Places : Type 0 where
    pub get_hu : (k : ℕ) → slice_get (m.hanging u) k ≡ slice_get (l.hanging u) (suc k)
    pub length_hu : suc (length (m.hanging u)) ≡ length (l.hanging u)
    pub get_hv : (k : ℕ) → k < length (l.hanging v) → slice_get (m.hanging v) k ≡ slice_get (l.hanging v) k
    pub get_hv_new : (k : ℕ) → k ≡ length (l.hanging v) → slice_get (m.hanging v) k ≡ Some q
    pub length_hv : length (m.hanging v) ≡ suc (length (l.hanging v))
    pub hv_some : 0 < length (l.hanging v)
    pub get_eu : (k : ℕ) → slice_get (m.ending u) (suc k) ≡ slice_get (l.ending u) k
    pub get_eu_new : slice_get (m.ending u) 0 ≡ Some q
    pub length_eu : length (m.ending u) ≡ suc (length (l.ending u))
    pub eu_some : 0 < length (l.ending u)
    pub get_ev : (k : ℕ) → suc k < length (l.ending v) → slice_get (m.ending v) k ≡ slice_get (l.ending v) k
    pub below_ev : (k x : ℕ) → slice_get (m.ending v) k ≡ Some x → suc k < length (l.ending v)
    pub length_ev : suc (length (m.ending v)) ≡ length (l.ending v)
    pub ev_two : 1 < length (l.ending v)
    pub q_place : suc (about.p_beside).0 ≡ (about.q_last).0
    pub not_hu : (k x : ℕ) → slice_get (l.hanging u) (suc k) ≡ Some x → x ≡ q → ⊥
    pub not_h : (w k x : ℕ) → (w ≡ u → ⊥) → slice_get (l.hanging w) k ≡ Some x → x ≡ q → ⊥
    pub not_e : (w k x : ℕ) → (w ≡ v → ⊥) → slice_get (l.ending w) k ≡ Some x → x ≡ q → ⊥
    pub not_ev : (k x : ℕ) → slice_get (l.ending v) k ≡ Some x → suc k < length (l.ending v) → x ≡ q → ⊥

  -- the lists of u and v before and after the reversal, by places, hold
  pub places : Places
  places = record {
    get_hu = λ k. ap (λ (xs : List ℕ). slice_get xs k) about.hanging_u ∙ tail_got (l.hanging u) k;
    length_hu = ap (λ (xs : List ℕ). suc (length xs)) about.hanging_u ∙ tail_length (l.hanging u) (omega (arith, can.two));
    get_hv = λ k h. ap (λ (xs : List ℕ). slice_get xs k) about.hanging_v ∙ slice_get-snoc_before (l.hanging v) q k h;
    get_hv_new = λ k h. ap (λ (xs : List ℕ). slice_get xs k) about.hanging_v ∙ slice_get-snoc_last (l.hanging v) q k h;
    length_hv = ap (λ (xs : List ℕ). length xs) about.hanging_v ∙ length-snoc (l.hanging v) q;
    hv_some = fits.nodes.hanging_some v about.v_low;
    get_eu = λ k. ap (λ (xs : List ℕ). slice_get xs (suc k)) about.ending_u;
    get_eu_new = ap (λ (xs : List ℕ). slice_get xs 0) about.ending_u;
    length_eu = ap (λ (xs : List ℕ). length xs) about.ending_u;
    eu_some = fits.nodes.ending_some u can.later (omega (arith, about.u_low));
    get_ev = λ k h. ap (λ (xs : List ℕ). slice_get xs k) about.ending_v ∙ init_got (l.ending v) k h;
    below_ev = λ k x e. init_below (l.ending v) k x (ap (λ (xs : List ℕ). slice_get xs k) (sym about.ending_v) ∙ e);
    length_ev = ap (λ (xs : List ℕ). suc (length xs)) about.ending_v ∙ init_length (l.ending v) (omega (arith, (about.q_last).1));
    ev_two = omega (arith, slice_get_within (l.ending v) (suc (about.p_beside).0) q (about.p_beside).2);
    q_place = fits.lists.ending_once v (suc (about.p_beside).0) (about.q_last).0 q (about.p_beside).2 (about.q_last).2;
    not_hu = λ k x g e. omega (arith, fits.lists.hanging_once u (suc k) 0 q (g ∙ ap (λ (y : ℕ). Some y) e) can.first);
    not_h = λ w k x n g e. n (sym (fits.lists.hanging_is w k x g).1 ∙ ap l.above e);
    not_e = λ w k x n g e. n (sym (fits.lists.ending_is w k x g).1 ∙ ap l.below e);
    not_ev = λ k x g h e. omega (arith, h, (about.q_last).1, fits.lists.ending_once v k (about.q_last).0 q (g ∙ ap (λ (y : ℕ). Some y) e) (about.q_last).2);
  }

  -- the layout with the square reversed, the nodes above and below the square, and what is known around it
  pub record Scene : Type 0 where
    pub m : Layout
    pub u : ℕ
    pub v : ℕ
    pub about : Around
    pub by_place : Places

  -- the scene of the reversal: the layout with the square reversed, the nodes above and below the square, and what is known around it
  abbrev pub scene : Scene
  scene = record { m = m; u = u; v = v; about = around; by_place = places }

  -- q is moved from the list of what hangs from u to that of v
  hangings : Sorted l.squares m.above m.hanging
  hangings = sorted_moved l.squares l.above m.above l.hanging m.hanging q v can.known (hanging_sorted l fits.lists) (record {
    is = about.above_q;
    apart = about.u_not_v;
    others = about.above_x;
    fewer = λ x. omega (arith, ap (times x) about.hanging_u, times_tail (l.hanging u) q x can.first);
    more = λ x. omega (arith, ap (times x) about.hanging_v, times-snoc (l.hanging v) q x);
    kept = about.hanging_w;
  })

  -- and from the list of what ends on v to that of u
  endings : Sorted l.squares m.below m.ending
  endings = sorted_moved l.squares l.below m.below l.ending m.ending q u can.known (ending_sorted l fits.lists) (record {
    is = about.below_q;
    apart = about.v_not_u;
    others = about.below_x;
    fewer = λ x. omega (arith, ap (times x) about.ending_v, times_init (l.ending v) q (about.q_last).0 x (about.q_last).1 (about.q_last).2);
    more = λ x. omega (arith, ap (times x) about.ending_u);
    kept = λ w a b. about.ending_w w b a;
  })

  -- each square stands once in its two lists of the reversed layout, and in no other
  pub lists_then : AreLists m
  lists_then = lists_of_sorted m hangings endings
