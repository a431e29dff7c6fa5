-- The cut by forms: moves that are ruled out in a class are barren in it. A statement alone; it is proved apart.
-- Example (SideFormExamples): 2e is ruled out in the class perfect, so it is barren there; in the class imperfect it is
-- not ruled out.
use Rattle.std.specs.Prelude.{ℕ}
use Rattle.bk_word.specs.Word.{Word}
use Rattle.bk_word.specs.declared.Class.{Class}
use Rattle.bk_catalogue.specs.Cuts.{IsBarren}
use Rattle.bk_walk_cuts.specs.Trace.{IsRuledOut}

-- no member's word begins with moves that are ruled out in its class
abbrev pub RuledOutIsBarren : Type 0
RuledOutIsBarren = (n : ℕ) (class : Class) (front : Word) → IsRuledOut class front → IsBarren n class front
