-- Open segments as lists of squares: runs that end on one node, with a line between each two neighbours.
use Rattle.std.specs.Prelude.{⊤}
use Rattle.std.proofs.Common.{Bool, List, Some, [], ap, arith, cond, filter, length, map, refl, slice_get, subst, suc, sym, true, false, zero, ℕ}
use Rattle.std.proofs.Common.{◌++◌, ◌<◌, ◌∙◌, ◌∷◌, ◌≡◌}
use Rattle.bk_word.specs.Play.{before_first_list, joined, parts}
use Rattle.bk_word.specs.declared.Sign.{Sign}
use Rattle.bk_word.specs.declared.Sign.TheVariants.{Above, Even, Under}
use Rattle.bk_layout.specs.Layout.{AreNeighbours, DoLinesGoOn, Layout}

-- the sign between two open squares side by side
abbrev pub sign : Layout → ℕ → ℕ → Sign
sign l q r = cond (l.goes_right q) Above (cond (l.goes_left r) Under Even)

-- the signs between each two neighbours of a row of squares
abbrev pub signs_of : Layout → List ℕ → List Sign
signs_of l [] = []
signs_of l (q ∷ []) = []
signs_of l (q ∷ r ∷ qs) = sign l q r ∷ signs_of l (r ∷ qs)

-- the sign at a place
pub sign_at : (l : Layout) (xs : List ℕ) (k q r : ℕ) → slice_get xs k ≡ Some q → slice_get xs (suc k) ≡ Some r → slice_get (signs_of l xs) k ≡ Some (sign l q r)
sign_at l [] k q r e f = absurd (cc)
sign_at l (x ∷ []) k q r e f = absurd (none k f)
  where
    none : (k : ℕ) → slice_get (x ∷ []) (suc k) ≡ Some r → ⊥
    none zero f = cc
    none (suc k) f = cc
sign_at l (x ∷ y ∷ xs) zero q r e f = let a : x ≡ q = cc in let b : y ≡ r = cc in λ i. Some (sign l (a i) (b i))
sign_at l (x ∷ y ∷ xs) (suc k) q r e f = sign_at l (y ∷ xs) k q r e f

-- each two neighbours share a line
abbrev pub Linked : Layout → List ℕ → Type 0
Linked l [] = ⊤
Linked l (q ∷ []) = ⊤
Linked l (q ∷ r ∷ qs) = (l.right q ≡ l.left r) × Linked l (r ∷ qs)

-- the last of some squares
abbrev pub last_from : ℕ → List ℕ → ℕ
last_from q [] = q
last_from q (r ∷ qs) = last_from r qs

-- neighbours on one node
abbrev pub Run : Layout → ℕ → List ℕ → Type 0
Run l q [] = ⊤
Run l q (r ∷ qs) = AreNeighbours (l.ending (l.below q)) q r × Run l r qs

-- all squares are those of the layout
abbrev pub Known : Layout → ℕ → List ℕ → Type 0
Known l q [] = q < l.squares
Known l q (r ∷ qs) = (q < l.squares) × Known l r qs

-- two segments with a line and this sign between them
abbrev pub Meet : Layout → Sign → ℕ → ℕ → Type 0
Meet l g q r = (l.right q ≡ l.left r) × (g ≡ sign l q r)

-- segments up to the right wall, with these signs between them
abbrev pub Chain : Layout → List Sign → List (List ℕ) → Type 0
Chain l signs [] = ⊥
Chain l signs ([] ∷ segments) = ⊥
Chain l [] ((q ∷ qs) ∷ []) = Known l q qs × Run l q qs × (l.right (last_from q qs) ≡ 1)
Chain l [] ((q ∷ qs) ∷ s ∷ segments) = ⊥
Chain l (g ∷ signs) ((q ∷ qs) ∷ []) = ⊥
Chain l (g ∷ signs) ((q ∷ qs) ∷ [] ∷ segments) = ⊥
Chain l (g ∷ signs) ((q ∷ qs) ∷ (r ∷ rs) ∷ segments) = Known l q qs × Run l q qs × Meet l g (last_from q qs) r × Chain l signs ((r ∷ rs) ∷ segments)

-- the last square of two runs in a row is the second's
pub last_append : (q : ℕ) (qs : List ℕ) (r : ℕ) (rs : List ℕ) → last_from q (qs ++ r ∷ rs) ≡ last_from r rs
last_append q [] r rs = refl
last_append q (p ∷ qs) r rs = last_append p qs r rs

-- of a run of known squares the last is known
pub known_last : (l : Layout) (q : ℕ) (qs : List ℕ) → Known l q qs → last_from q qs < l.squares
known_last l q [] k = k
known_last l q (r ∷ qs) k = known_last l r qs k.1

-- of a run of known squares the first is known
pub known_first : (l : Layout) (q : ℕ) (qs : List ℕ) → Known l q qs → q < l.squares
known_first l q [] k = k
known_first l q (r ∷ qs) k = k.0

known_append : (l : Layout) (q : ℕ) (qs : List ℕ) (r : ℕ) (rs : List ℕ) → Known l q qs → Known l r rs → Known l q (qs ++ r ∷ rs)
known_append l q [] r rs a b = (a, b)
known_append l q (p ∷ qs) r rs a b = (a.0, known_append l p qs r rs a.1 b)

run_append : (l : Layout) (q : ℕ) (qs : List ℕ) (r : ℕ) (rs : List ℕ) → Run l q qs
    → AreNeighbours (l.ending (l.below (last_from q qs))) (last_from q qs) r → Run l r rs → Run l q (qs ++ r ∷ rs)
run_append l q [] r rs a n b = (n, b)
run_append l q (p ∷ qs) r rs a n b = (a.0, run_append l p qs r rs a.1 n b)

-- a first segment with more squares before it
reheaded : (l : Layout) (signs : List Sign) (q : ℕ) (qs : List ℕ) (r : ℕ) (rs : List ℕ) (more : List (List ℕ)) → Known l q qs → Run l q qs
    → AreNeighbours (l.ending (l.below (last_from q qs))) (last_from q qs) r
    → Chain l signs ((r ∷ rs) ∷ more) → Chain l signs ((q ∷ (qs ++ r ∷ rs)) ∷ more)
reheaded l [] q qs r rs [] known run n c = (known_append l q qs r rs known c.0, run_append l q qs r rs run n c.1, ap l.right (last_append q qs r rs) ∙ c.2)
reheaded l [] q qs r rs (s ∷ more) known run n c = absurd c
reheaded l (g ∷ signs) q qs r rs [] known run n c = absurd c
reheaded l (g ∷ signs) q qs r rs ([] ∷ more) known run n c = absurd c
reheaded l (g ∷ signs) q qs r rs ((p ∷ ps) ∷ more) known run n c =
    (known_append l q qs r rs known c.0, run_append l q qs r rs run n c.1, subst (λ (x : ℕ). Meet l g x p) (sym (last_append q qs r rs)) c.2, c.3)

-- even: the line between ends
pub even_test : (a b : Bool) → Even ≡ cond a Above (cond b Under Even) → (a ≡ false) × (b ≡ false)
even_test true b e = absurd (cc)
even_test false true e = absurd (cc)
even_test false false e = (refl, refl)

-- two squares at one line of which neither's line goes on below it are neighbours on one node
pub even_neighbours : (l : Layout) → DoLinesGoOn l → (q r : ℕ) → q < l.squares → r < l.squares → Meet l Even q r → AreNeighbours (l.ending (l.below q)) q r
even_neighbours l g q r a b m = let t = even_test (l.goes_right q) (l.goes_left r) m.1 in g.meet q r a b m.0 t.0 t.1

-- the segments joined where the sign is even
pub record JoinedChain (l : Layout) (signs : List Sign) (q : ℕ) (qs : List ℕ) (segments : List (List ℕ)) : Type 0 where
  pub rest : List ℕ
  pub more : List (List ℕ)
  pub is : joined signs ((q ∷ qs) ∷ segments) ≡ (q ∷ rest) ∷ more
  pub chain : Chain l (filter parts signs) ((q ∷ rest) ∷ more)

-- the squares of a chain's first segment are known
pub chain_known : (l : Layout) (signs : List Sign) (q : ℕ) (qs : List ℕ) (more : List (List ℕ)) → Chain l signs ((q ∷ qs) ∷ more) → Known l q qs
chain_known l [] q qs [] c = c.0
chain_known l [] q qs (s ∷ more) c = absurd c
chain_known l (g ∷ signs) q qs [] c = absurd c
chain_known l (g ∷ signs) q qs ([] ∷ more) c = absurd c
chain_known l (g ∷ signs) q qs ((p ∷ ps) ∷ more) c = c.0

-- a chain stays a chain where the signs even join segments
pub join_chain : (l : Layout) → DoLinesGoOn l → (signs : List Sign) (q : ℕ) (qs : List ℕ) (segments : List (List ℕ))
    → Chain l signs ((q ∷ qs) ∷ segments) → JoinedChain l signs q qs segments
join_chain l go [] q qs [] c = record { rest = qs; more = []; is = refl; chain = c }
join_chain l go [] q qs (s ∷ segments) c = absurd c
join_chain l go (g ∷ signs) q qs [] c = absurd c
join_chain l go (g ∷ signs) q qs ([] ∷ segments) c = absurd c
join_chain l go (Above ∷ signs) q qs ((r ∷ rs) ∷ segments) c = let j = join_chain l go signs r rs segments c.3 in
    record { rest = qs; more = (r ∷ j.rest) ∷ j.more; is = ap (λ (x : List (List ℕ)). (q ∷ qs) ∷ x) j.is; chain = (c.0, c.1, c.2, j.chain) }
join_chain l go (Under ∷ signs) q qs ((r ∷ rs) ∷ segments) c = let j = join_chain l go signs r rs segments c.3 in
    record { rest = qs; more = (r ∷ j.rest) ∷ j.more; is = ap (λ (x : List (List ℕ)). (q ∷ qs) ∷ x) j.is; chain = (c.0, c.1, c.2, j.chain) }
join_chain l go (Even ∷ signs) q qs ((r ∷ rs) ∷ segments) c = let j = join_chain l go signs r rs segments c.3 in
    record {
      rest = qs ++ r ∷ j.rest;
      more = j.more;
      is = ap (before_first_list (q ∷ qs)) j.is;
      chain = reheaded l (filter parts signs) q qs r j.rest j.more c.0 c.1
          (even_neighbours l go (last_from q qs) r (known_last l q qs c.0) (known_first l r rs (chain_known l signs r rs segments c.3)) c.2) j.chain;
    }

-- ---- what stands before and behind a valley

-- what stands behind some segments of a chain is a chain
pub chain_behind : (l : Layout) (front : List (List ℕ)) (front_signs signs : List Sign) (s : List ℕ) (segments : List (List ℕ))
    → length front ≡ length front_signs → Chain l (front_signs ++ signs) (front ++ s ∷ segments) → Chain l signs (s ∷ segments)
chain_behind l [] [] signs s segments e c = c
chain_behind l [] (g ∷ front_signs) signs s segments e c = absurd (omega arith)
chain_behind l (f ∷ front) [] signs s segments e c = absurd (omega arith)
chain_behind l ([] ∷ front) (g ∷ front_signs) signs s segments e c = absurd c
chain_behind l ((q ∷ qs) ∷ []) (g ∷ front_signs) signs [] segments e c = absurd c
chain_behind l ((q ∷ qs) ∷ []) (g ∷ []) signs (r ∷ rs) segments e c = c.3
chain_behind l ((q ∷ qs) ∷ []) (g ∷ h ∷ front_signs) signs (r ∷ rs) segments e c = absurd (omega arith)
chain_behind l ((q ∷ qs) ∷ [] ∷ front) (g ∷ front_signs) signs s segments e c = absurd c
chain_behind l ((q ∷ qs) ∷ (p ∷ ps) ∷ front) (g ∷ front_signs) signs s segments e c =
    chain_behind l ((p ∷ ps) ∷ front) front_signs signs s segments (omega arith) c.3

-- a chain stays one with other segments behind the same segment
pub chain_other : (l : Layout) (front : List (List ℕ)) (front_signs signs others : List Sign) (q : ℕ) (qs : List ℕ)
    (segments more : List (List ℕ)) → length front ≡ length front_signs
    → Chain l (front_signs ++ signs) (front ++ (q ∷ qs) ∷ segments) → Chain l others ((q ∷ qs) ∷ more)
    → Chain l (front_signs ++ others) (front ++ (q ∷ qs) ∷ more)
chain_other l [] [] signs others q qs segments more e c d = d
chain_other l [] (g ∷ front_signs) signs others q qs segments more e c d = absurd (omega arith)
chain_other l (f ∷ front) [] signs others q qs segments more e c d = absurd (omega arith)
chain_other l ([] ∷ front) (g ∷ front_signs) signs others q qs segments more e c d = absurd c
chain_other l ((p ∷ ps) ∷ []) (g ∷ []) signs others q qs segments more e c d = (c.0, c.1, c.2, d)
chain_other l ((p ∷ ps) ∷ []) (g ∷ h ∷ front_signs) signs others q qs segments more e c d = absurd (omega arith)
chain_other l ((p ∷ ps) ∷ [] ∷ front) (g ∷ front_signs) signs others q qs segments more e c d = absurd c
chain_other l ((p ∷ ps) ∷ (r ∷ rs) ∷ front) (g ∷ front_signs) signs others q qs segments more e c d =
    (c.0, c.1, c.2, chain_other l ((r ∷ rs) ∷ front) front_signs signs others q qs segments more (omega arith) c.3 d)

-- ---- single squares side by side

-- each square as a segment of its own
abbrev pub singles : List ℕ → List (List ℕ)
singles qs = map (λ q. q ∷ []) qs

-- up to the right wall
pub singles_wall : (l : Layout) (q : ℕ) (qs : List ℕ) → Known l q qs → Linked l (q ∷ qs) → l.right (last_from q qs) ≡ 1
    → Chain l (signs_of l (q ∷ qs)) (singles (q ∷ qs))
singles_wall l q [] known linked wall = (known, tt, wall)
singles_wall l q (r ∷ qs) known linked wall = (known.0, tt, (linked.0, refl), singles_wall l r qs known.1 linked.1 wall)

-- up to a segment
pub singles_before : (l : Layout) (q : ℕ) (qs : List ℕ) (p : ℕ) (ps : List ℕ) (signs : List Sign) (segments : List (List ℕ)) → Known l q qs
    → Linked l (q ∷ qs) → l.right (last_from q qs) ≡ l.left p → Chain l signs ((p ∷ ps) ∷ segments)
    → Chain l (signs_of l (q ∷ (qs ++ p ∷ [])) ++ signs) (singles (q ∷ qs) ++ (p ∷ ps) ∷ segments)
singles_before l q [] p ps signs segments known linked line c = (known, tt, (line, refl), c)
singles_before l q (r ∷ qs) p ps signs segments known linked line c =
    (known.0, tt, (linked.0, refl), singles_before l r qs p ps signs segments known.1 linked.1 line c)
