use Rattle.term_words.proofs.Framing.Rooms.{at-role, role-at, roles-single}
use Rattle.term_words.proofs.one_role.maps_of_roles_are_single.Goals as goal

pub returns-clause-allows : goal.returns-clause-allows
returns-clause-allows c = at-role

pub returns-clause-tells : goal.returns-clause-tells
returns-clause-tells c = role-at

pub returns-clause-single : goal.returns-clause-single
returns-clause-single c = roles-single
