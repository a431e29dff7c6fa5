-- What a contract sees of a short list.
-- Example (ShortExamples): where 7, 8, 9 stand in the first of five places, the `part` from place 1 up to 3 has the
-- items 8 and 9. All cells of such a part are copied, also those to spare, and no clause says what stands in these.
use Rattle.std.specs.Coded.{Coded, code_by, coded_list, coded×}
use Rattle.std.specs.Prelude.{List, refl}

-- the items in order, and what stands in the places to spare, of which no clause says anything
pub record Short (T : Type 0) : Type 0 where
  pub items : List T
  pub spare : List T

-- a short list is stored as the pair of its items and of what stands in the places to spare
abbrev pub short_code : {T : Type 0} → Coded T → Coded (Short T)
short_code {T} code = code_by (List T × List T) (coded× (coded_list code) (coded_list code)) (λ s. (s.items, s.spare))
    (λ p. record { items = p.0; spare = p.1 }) (λ _. refl)
