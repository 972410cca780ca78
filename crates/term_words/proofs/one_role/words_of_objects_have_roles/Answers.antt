use Rattle.term_words.proofs.Placing.Roles.{object-role, record-role}
use Rattle.term_words.proofs.one_role.words_of_objects_have_roles.Goals as goal

pub returns-clause-object : goal.returns-clause-object
returns-clause-object c = object-role

pub returns-clause-of_record : goal.returns-clause-of_record
returns-clause-of_record c = record-role
