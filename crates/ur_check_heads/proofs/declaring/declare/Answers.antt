use Rattle.std.proofs.Common.{subst}
use Rattle.ur_syntax.specs.declared.kind.Kind.TheVariants as kind
use Rattle.ur_syntax.specs.declared.decl.DeclForm.TheVariants as decl
use Rattle.ur_check_scopes.proofs.Exits.{ok-along, refused-along}
use Rattle.ur_typed.specs.Declaring.{with_datatype, variants_out, table_out, headings_out}
use Rattle.ur_typed.specs.DeclFaults.{BreaksDefined, BreaksVariants, BreaksTable, BreaksCookie, BreaksVal, BreaksHeadings, in_con, in_type, in_datatype, in_table, in_cookie, in_val, in_functions}
use Rattle.ur_check_heads.specs.Views.{Comes}
use Rattle.ur_check_heads.proofs.HeadForms.{form-comes, form-breaks}
use Rattle.ur_check_heads.proofs.declaring.declare.Goals as goal

pub returns-in-Con-clause-ok : goal.returns-in-Con-clause-ok
returns-in-Con-clause-ok c = ok-along c.con_in.result (λ u h home z s. form-comes c.con_in.new.project home z c.args.decl.now.form (decl.Con c.in-Con.name c.in-Con._kind c.in-Con.con) c.in-Con.is (h home z c.in-Con._kind s)) c.con_in.ensures.ok

pub returns-in-Con-clause-refused : goal.returns-in-Con-clause-refused
returns-in-Con-clause-refused c =
    refused-along c.con_in.result (λ r h home z s. form-breaks home z c.args.decl.now.form (decl.Con c.in-Con.name c.in-Con._kind c.in-Con.con) (BreaksDefined 65536 z c.in-Con.con) r c.in-Con.is (λ f b. in_con b) (h home z s)) c.con_in.ensures.refused

pub returns-in-Type-clause-ok : goal.returns-in-Type-clause-ok
returns-in-Type-clause-ok c = ok-along c.con_in-in-Type.result (λ u h home z s. form-comes c.con_in-in-Type.new.project home z c.args.decl.now.form (decl.Type c.in-Type.name c.in-Type.con) c.in-Type.is (h home z kind.Star s)) c.con_in-in-Type.ensures.ok

pub returns-in-Type-clause-refused : goal.returns-in-Type-clause-refused
returns-in-Type-clause-refused c =
    refused-along c.con_in-in-Type.result (λ r h home z s. form-breaks home z c.args.decl.now.form (decl.Type c.in-Type.name c.in-Type.con) (BreaksDefined 65536 z c.in-Type.con) r c.in-Type.is (λ f b. in_type b) (h home z s)) c.con_in-in-Type.ensures.refused

pub returns-in-Datatype-clause-ok : goal.returns-in-Datatype-clause-ok
returns-in-Datatype-clause-ok c = ok-along c.datatype_in.result (λ u h home z s. form-comes c.datatype_in.new.project home z c.args.decl.now.form (decl.Datatype c.in-Datatype.name c.in-Datatype.variants) c.in-Datatype.is (subst (λ xs. Comes c.datatype_in.new.project home (variants_out 65536 z.place.datatypes xs (with_datatype home c.in-Datatype.name z))) c.as_slice.ensures (h home z s))) c.datatype_in.ensures.ok

pub returns-in-Datatype-clause-refused : goal.returns-in-Datatype-clause-refused
returns-in-Datatype-clause-refused c =
    refused-along c.datatype_in.result (λ r h home z s. form-breaks home z c.args.decl.now.form (decl.Datatype c.in-Datatype.name c.in-Datatype.variants) (BreaksVariants 65536 z.place.datatypes c.as_slice.result.now (with_datatype home c.in-Datatype.name z)) r c.in-Datatype.is (λ f b. in_datatype (subst (λ xs. BreaksVariants 65536 z.place.datatypes xs (with_datatype home c.in-Datatype.name z) f) c.as_slice.ensures b)) (h home z s)) c.datatype_in.ensures.refused

pub returns-in-Table-clause-ok : goal.returns-in-Table-clause-ok
returns-in-Table-clause-ok c = ok-along c.table_in.result (λ u h home z s. form-comes c.table_in.new.project home z c.args.decl.now.form (decl.Table c.in-Table.name c.in-Table.con c.in-Table.primary c.in-Table.constraints) c.in-Table.is (subst (λ xs. Comes c.table_in.new.project home (table_out 65536 c.in-Table.name c.in-Table.con c.in-Table.primary xs z)) c.as_slice-list.ensures (h home z s))) c.table_in.ensures.ok

pub returns-in-Table-clause-refused : goal.returns-in-Table-clause-refused
returns-in-Table-clause-refused c =
    refused-along c.table_in.result (λ r h home z s. form-breaks home z c.args.decl.now.form (decl.Table c.in-Table.name c.in-Table.con c.in-Table.primary c.in-Table.constraints) (BreaksTable 65536 z c.in-Table.con c.in-Table.primary c.as_slice-list.result.now) r c.in-Table.is (λ f b. in_table (subst (λ xs. BreaksTable 65536 z c.in-Table.con c.in-Table.primary xs f) c.as_slice-list.ensures b)) (h home z s)) c.table_in.ensures.refused

pub returns-in-Cookie-clause-ok : goal.returns-in-Cookie-clause-ok
returns-in-Cookie-clause-ok c = ok-along c.cookie_in.result (λ u h home z s. form-comes c.cookie_in.new.project home z c.args.decl.now.form (decl.Cookie c.in-Cookie.name c.in-Cookie.con) c.in-Cookie.is (h home z s)) c.cookie_in.ensures.ok

pub returns-in-Cookie-clause-refused : goal.returns-in-Cookie-clause-refused
returns-in-Cookie-clause-refused c =
    refused-along c.cookie_in.result (λ r h home z s. form-breaks home z c.args.decl.now.form (decl.Cookie c.in-Cookie.name c.in-Cookie.con) (BreaksCookie 65536 z c.in-Cookie.con) r c.in-Cookie.is (λ f b. in_cookie b) (h home z s)) c.cookie_in.ensures.refused

pub returns-in-Val-clause-ok : goal.returns-in-Val-clause-ok
returns-in-Val-clause-ok c = ok-along c.declare_val.result (λ u h home z s. form-comes c.declare_val.new.project home z c.args.decl.now.form (decl.Val c.in-Val.name c.in-Val.con c.in-Val._value) c.in-Val.is (h home z s)) c.declare_val.ensures.ok

pub returns-in-Val-clause-refused : goal.returns-in-Val-clause-refused
returns-in-Val-clause-refused c =
    refused-along c.declare_val.result (λ r h home z s. form-breaks home z c.args.decl.now.form (decl.Val c.in-Val.name c.in-Val.con c.in-Val._value) (BreaksVal 65536 z c.in-Val.con) r c.in-Val.is (λ f b. in_val b) (h home z s)) c.declare_val.ensures.refused

pub returns-in-Fun-clause-ok : goal.returns-in-Fun-clause-ok
returns-in-Fun-clause-ok c = ok-along c.functions_in.result (λ u h home z s. form-comes c.functions_in.new.project home z c.args.decl.now.form (decl.Fun c.in-Fun.functions) c.in-Fun.is (subst (λ xs. Comes c.functions_in.new.project home (headings_out 65536 home xs z)) c.as_slice-in-Fun.ensures (h home z s))) c.functions_in.ensures.ok

pub returns-in-Fun-clause-refused : goal.returns-in-Fun-clause-refused
returns-in-Fun-clause-refused c =
    refused-along c.functions_in.result (λ r h home z s. form-breaks home z c.args.decl.now.form (decl.Fun c.in-Fun.functions) (BreaksHeadings 65536 home c.as_slice-in-Fun.result.now z) r c.in-Fun.is (λ f b. in_functions (subst (λ xs. BreaksHeadings 65536 home xs z f) c.as_slice-in-Fun.ensures b)) (h home z s)) c.functions_in.ensures.refused

pub returns-in_ok-sequence_in-in-Sequence-clause-ok : goal.returns-in_ok-sequence_in-in-Sequence-clause-ok
returns-in_ok-sequence_in-in-Sequence-clause-ok c = λ home z s. form-comes c.sequence_in.new.project home z c.args.decl.now.form (decl.Sequence c.in-Sequence.name) c.in-Sequence.is (c.in_ok-sequence_in-in-Sequence.ensures home z s)
