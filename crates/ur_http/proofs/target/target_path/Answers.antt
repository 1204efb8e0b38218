use Rattle.ur_http.specs.Fields.{target_path}
use Rattle.ur_http.proofs.target.target_path.Goals as goal

pub returns : goal.returns
unfolding target_path
returns c = rw c.before_query.ensures at c.path_in.ensures
