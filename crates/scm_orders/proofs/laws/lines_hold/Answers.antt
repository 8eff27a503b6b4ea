use Rattle.scm_orders.proofs.RefutingLaws.{all_hold, outside_hold, none_left}
use Rattle.scm_orders.proofs.laws.lines_hold.Goals as goal

pub returns-clause-hold : goal.returns-clause-hold
returns-clause-hold c = λ t lines hints schedule follow is. all_hold t lines hints schedule follow is

pub returns-clause-outside : goal.returns-clause-outside
returns-clause-outside c = λ t lines hints schedule follow is. outside_hold t lines hints schedule follow is

pub returns-clause-none : goal.returns-clause-none
returns-clause-none c = none_left
