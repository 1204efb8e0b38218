use Rattle.ur_unfold_table.proofs.Fragments.{text-opens, shown-opens, splice-opens, element-opens, link-opens, submit-opens, same-opens}
use Rattle.ur_unfold_table.proofs.markups.part_form.Goals as goal

pub returns-in-Text : goal.returns-in-Text
returns-in-Text c = text-opens c.args.table.now c.args.scope c.args.part.now c.shown_text_form.result c.in-Text.text c.in-Text.is c.shown_text_form.ensures

pub returns-in-Shown : goal.returns-in-Shown
returns-in-Shown c = shown-opens c.args.table.now c.args.scope c.args.part.now c.one.result c.in-Shown.e c.in-Shown.is c.one.ensures

pub returns-in-Splice : goal.returns-in-Splice
returns-in-Splice c = splice-opens c.args.table.now c.args.scope c.args.part.now c.one-in-Splice.result c.in-Splice.e c.in-Splice.is c.one-in-Splice.ensures

pub returns-in-Element : goal.returns-in-Element
returns-in-Element c = element-opens c.args.table.now c.args.scope c.args.part.now c.kids.result c.in-Element.tag c.in-Element.parts c.in-Element.is c.kids.ensures

pub returns-in-Link : goal.returns-in-Link
returns-in-Link c = link-opens c.args.table.now c.args.scope c.args.part.now c.link_form.result c.in-Link.k c.in-Link.args c.in-Link.parts c.in-Link.is c.link_form.ensures

pub returns-in-Input : goal.returns-in-Input
returns-in-Input c = same-opens c.args.table.now c.args.scope c.args.part.now c.input_form.result _ c.in-Input.is c.input_form.ensures

pub returns-in-Submit : goal.returns-in-Submit
returns-in-Submit c = submit-opens c.args.table.now c.args.scope c.args.part.now c.submit_form.result c.in-Submit.k c.in-Submit.args c.in-Submit.e c.in-Submit.is c.submit_form.ensures
