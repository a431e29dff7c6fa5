use Rattle.std.proofs.lemmas.Bool.{false_from_ne_true}
use Rattle.bk_forms.specs.Form.{form_value}
use Rattle.bk_walk_cuts.proofs.Asked.{one_sign}
use Rattle.bk_walk_cuts.proofs.asking.is_known_otherwise.Goals as goal

pub returns-clause-sound : goal.returns-clause-sound
returns-clause-sound c = λ sides meets compares. false_from_ne_true c.is_other.result (λ e.
    let o = c.is_other.ensures.known e in
    o.2 (one_sign o.0 c.args.sign (form_value c.args.left.now sides) (form_value c.args.right.now sides) (c.compare.ensures.known o.0 o.1 sides meets)
    compares))
