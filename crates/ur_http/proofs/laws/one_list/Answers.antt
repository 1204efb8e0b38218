use Rattle.ur_http.proofs.Once.{items_once, stays_decided}
use Rattle.ur_http.proofs.laws.one_list.Goals as goal

pub returns-clause-one : goal.returns-clause-one
returns-clause-one c = items_once c.args._bytes.now

pub returns-clause-stays : goal.returns-clause-stays
returns-clause-stays c = stays_decided c.args._bytes.now
