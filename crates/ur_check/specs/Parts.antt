-- The names of fields in the parts of lists.
use Rattle.std.specs.Prelude.{◌++◌, option_to_list}
use Rattle.ur_syntax.specs.declared.con.RecordField.{RecordField}
use Rattle.ur_syntax.specs.declared.sql.FromItem.{FromItem}
use Rattle.ur_syntax.specs.declared.sql.Selected.{Selected}
use Rattle.ur_syntax.specs.declared.xml.XmlPart.{XmlPart}
use Rattle.ur_syntax.specs.declared.exp.Branch.{Branch}
use Rattle.ur_syntax.specs.declared.exp.Exp.{Exp}
use Rattle.ur_syntax.specs.declared.exp.Field.{Field}
use Rattle.ur_syntax.specs.declared.exp.LetVal.{LetVal}
use Rattle.ur_syntax.specs.declared.decl.Decl.{Decl}
use Rattle.ur_syntax.specs.declared.decl.Module.{Module}
use Rattle.std.specs.Prelude.{[], ◌∷◌}
use Rattle.std.specs.List.{flat_map}
use Rattle.ur_tree.specs.FieldNames.{Names, of_name, of_con, of_exp, of_xml_form, of_decl, as_name, alias_of}

abbrev pub of_record_field : RecordField → Names
of_record_field f = of_name f.name ++ of_con f.con

abbrev pub of_selected : Selected → Names
of_selected i = option_to_list (as_name i)

abbrev pub of_item : FromItem → Names
of_item i = alias_of i.alias i.table ∷ []

abbrev pub of_xml_part : XmlPart → Names
of_xml_part p = of_xml_form p.form

abbrev pub of_written : Exp → Names
of_written a = of_exp a.form

abbrev pub of_value : Field → Names
of_value f = of_name f.name ++ of_written f.value

abbrev pub of_branch : Branch → Names
of_branch b = of_written b.body

abbrev pub of_val : LetVal → Names
of_val v = of_con v.con ++ of_written v.value

abbrev pub of_declaration : Decl → Names
of_declaration d = of_decl d.form

abbrev pub of_module : Module → Names
of_module m = flat_map of_declaration m.decls
