use Rattle.ur_keeper.proofs.Texts.{own-text, named-text, other-text}
use Rattle.ur_keeper.proofs.laws.texts_are_taken.Goals as goal

pub returns-clause-own : goal.returns-clause-own
returns-clause-own c = own-text

pub returns-clause-named : goal.returns-clause-named
returns-clause-named c = named-text

pub returns-clause-other : goal.returns-clause-other
returns-clause-other c = other-text
