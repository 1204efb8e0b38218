use Rattle.ur_xmltype.proofs.Refused.{bad_frame-none}
use Rattle.ur_xmltype.proofs.laws.bad_frame_is_none.Goals as goal

pub returns : goal.returns
returns c = bad_frame-none
