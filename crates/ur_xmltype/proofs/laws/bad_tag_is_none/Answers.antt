use Rattle.ur_xmltype.proofs.Refused.{bad_tag-none}
use Rattle.ur_xmltype.proofs.laws.bad_tag_is_none.Goals as goal

pub returns : goal.returns
returns c = bad_tag-none
