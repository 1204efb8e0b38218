-- Parts that are of one type.
use Rattle.ur_values.specs.declared.types.ValueType.TheVariants as ty
use Rattle.ur_terms.specs.Types.{xml_page, xml_body, xml_table, xml_row}
use Rattle.ur_verify_operations.proofs.Flows.{plain_from, plain_to}
use Rattle.ur_verify_operations.proofs.Replies.{answers_by}
use Rattle.ur_verify_operations.proofs.Told.{plain_told}
use Rattle.ur_verify_operations.proofs.markup.makes_up.Goals as goal

pub returns-in-Page-clause-fits : goal.returns-in-Page-clause-fits
returns-in-Page-clause-fits c =
    answers_by c.alike.result (λ u q. plain_from c.args.ts.now c.args.of.now ty.Page c.in-Page.is xml_page q) (λ u q. plain_to c.args.ts.now c.args.of.now ty.Page c.in-Page.is xml_page q) c.alike.ensures.fits

pub returns-in-Xbody-clause-fits : goal.returns-in-Xbody-clause-fits
returns-in-Xbody-clause-fits c =
    answers_by c.alike-in-Xbody.result (λ u q. plain_from c.args.ts.now c.args.of.now ty.Xbody c.in-Xbody.is xml_body q) (λ u q. plain_to c.args.ts.now c.args.of.now ty.Xbody c.in-Xbody.is xml_body q) c.alike-in-Xbody.ensures.fits

pub returns-in-Xtable-clause-fits : goal.returns-in-Xtable-clause-fits
returns-in-Xtable-clause-fits c =
    answers_by c.alike-in-Xtable.result (λ u q. plain_from c.args.ts.now c.args.of.now ty.Xtable c.in-Xtable.is xml_table q) (λ u q. plain_to c.args.ts.now c.args.of.now ty.Xtable c.in-Xtable.is xml_table q) c.alike-in-Xtable.ensures.fits

pub returns-in-Xtr-clause-fits : goal.returns-in-Xtr-clause-fits
returns-in-Xtr-clause-fits c =
    answers_by c.alike-in-Xtr.result (λ u q. plain_from c.args.ts.now c.args.of.now ty.Xtr c.in-Xtr.is xml_row q) (λ u q. plain_to c.args.ts.now c.args.of.now ty.Xtr c.in-Xtr.is xml_row q) c.alike-in-Xtr.ensures.fits

pub returns-in-Page-clause-told : goal.returns-in-Page-clause-told
returns-in-Page-clause-told c = plain_told c.args.code.now.names c.args.of.now ty.Page c.args.ts.now c.alike.result c.in-Page.is xml_page c.alike.ensures.told

pub returns-in-Xbody-clause-told : goal.returns-in-Xbody-clause-told
returns-in-Xbody-clause-told c = plain_told c.args.code.now.names c.args.of.now ty.Xbody c.args.ts.now c.alike-in-Xbody.result c.in-Xbody.is xml_body c.alike-in-Xbody.ensures.told

pub returns-in-Xtable-clause-told : goal.returns-in-Xtable-clause-told
returns-in-Xtable-clause-told c = plain_told c.args.code.now.names c.args.of.now ty.Xtable c.args.ts.now c.alike-in-Xtable.result c.in-Xtable.is xml_table c.alike-in-Xtable.ensures.told

pub returns-in-Xtr-clause-told : goal.returns-in-Xtr-clause-told
returns-in-Xtr-clause-told c = plain_told c.args.code.now.names c.args.of.now ty.Xtr c.args.ts.now c.alike-in-Xtr.result c.in-Xtr.is xml_row c.alike-in-Xtr.ensures.told
