use Rattle.std.proofs.Common.{refl}
use Rattle.ur_tags.proofs.Runs.{leads_on_none, leads_on_some}
use Rattle.ur_tags.proofs.marks.push_run.Goals as goal

pub returns-in-None : goal.returns-in-None
returns-in-None c = leads_on_none c.args.out.now c.args.text.now c.args.from c.args.at c.args.piece c.requires.within c.in-None.is

pub returns-in_ok-extend_from_slice-in-Some-2 : goal.returns-in_ok-extend_from_slice-in-Some-2
returns-in_ok-extend_from_slice-in-Some-2 c =
    leads_on_some c.args.out.now c.extend_from_slice.new.self c.extend_from_slice-in-Some.new.self c.args.text.now _ c.args.from
    c.args.at c.args.piece c.in-Some.piece c.requires.within c.in-Some.is refl
    c.in_ok-extend_from_slice-in-Some.ensures.ok c.in_ok-extend_from_slice-in-Some-2.ensures.ok
