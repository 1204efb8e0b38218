-- A value's segment decodes to its text, and the text is read back.
use Rattle.ur_tags.proofs.ReadBack.{segment_back}
use Rattle.ur_tags.proofs.segments.segments_back.Goals as goal

pub returns : goal.returns
returns c = segment_back
