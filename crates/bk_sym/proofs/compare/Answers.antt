use Rattle.std.specs.Cmp.Lexicographic.{slice_cmp}
use Rattle.std.specs.Ordering.{nat_cmp}
use Rattle.std.proofs.Common.{map, refl, rules, ◌∙◌, ◌≡◌}
use Rattle.std.proofs.lemmas.Iterator.{YieldsList-from_map, YieldsList-from_slice}
use Rattle.std.proofs.lemmas.Iterator.Search.{cmp_from_yields_List}
use Rattle.bk_tiling.specs.declared.Square.{Square}
use Rattle.bk_sym.proofs.Comparing.{code_cmp-sides}
use Rattle.bk_sym.proofs.compare.Goals as goal

pub returns : goal.returns
returns c =
    let e : c.cmp.result ≡ slice_cmp nat_cmp (map (λ (q : Square). q.s) c.args.a.now.squares) (map (λ (q : Square). q.s) c.args.b.now.squares) =
    cmp_from_yields_List (λ x y. y ≡ x) _ nat_cmp _ c.cmp.ensures.ran
    (YieldsList-from_map _ (λ (q : Square). q.s) (YieldsList-from_slice c.args.a.now.squares cc) c.map.ensures.closure (λ x r q k. search rules))
    (λ it same. rw same (YieldsList-from_map _ (λ (q : Square). q.s) (YieldsList-from_slice c.args.b.now.squares cc) c.map-2.ensures.closure
    (λ x r q k. search rules)))
    (λ x y. refl)
    in e ∙ code_cmp-sides c.args.a.now c.args.b.now
