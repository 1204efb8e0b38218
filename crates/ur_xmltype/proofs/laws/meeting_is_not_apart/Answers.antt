use Rattle.ur_xmltype.proofs.Meeting.{meeting-not_apart}
use Rattle.ur_xmltype.proofs.laws.meeting_is_not_apart.Goals as goal

pub returns : goal.returns
returns c = meeting-not_apart
