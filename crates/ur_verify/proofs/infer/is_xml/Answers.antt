-- The types of XML.
use Rattle.std.proofs.Common.{refl, sym, subst}
use Rattle.ur_values.specs.declared.types.ValueType.TheVariants as ty
use Rattle.ur_terms.specs.Types.{IsXml, plain_xml, form_xml, xml_page, xml_body, xml_table, xml_row}
use Rattle.ur_verify_operations.proofs.FieldTypes.{pairs, form_is}
use Rattle.ur_verify.proofs.infer.is_xml.Goals as goal

pub returns-in-Page : goal.returns-in-Page
returns-in-Page c = ((λ e. subst IsXml (sym c.in-Page.is) (plain_xml ty.Page xml_page)), (λ h. refl))

pub returns-in-Xbody : goal.returns-in-Xbody
returns-in-Xbody c = ((λ e. subst IsXml (sym c.in-Xbody.is) (plain_xml ty.Xbody xml_body)), (λ h. refl))

pub returns-in-Xtable : goal.returns-in-Xtable
returns-in-Xtable c = ((λ e. subst IsXml (sym c.in-Xtable.is) (plain_xml ty.Xtable xml_table)), (λ h. refl))

pub returns-in-Xtr : goal.returns-in-Xtr
returns-in-Xtr c = ((λ e. subst IsXml (sym c.in-Xtr.is) (plain_xml ty.Xtr xml_row)), (λ h. refl))

pub returns-in-Form : goal.returns-in-Form
returns-in-Form c = ((λ e. subst IsXml (sym c.in-Form.is) (subst IsXml (sym (form_is c.in-Form.field-0)) (form_xml (pairs c.in-Form.field-0)))), (λ h. refl))
