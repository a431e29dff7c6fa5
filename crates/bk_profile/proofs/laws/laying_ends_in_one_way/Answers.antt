use Rattle.bk_profile.proofs.OneRefusal.{a_code_is_refused_in_one_way, a_flat_list_is_refused_in_one_way}
use Rattle.bk_profile.proofs.laws.laying_ends_in_one_way.Goals as goal

pub returns-clause-code : goal.returns-clause-code
returns-clause-code c width code r s a b = a_code_is_refused_in_one_way width code r s a b

pub returns-clause-flat : goal.returns-clause-flat
returns-clause-flat c width sides r s a b = a_flat_list_is_refused_in_one_way width sides r s a b
