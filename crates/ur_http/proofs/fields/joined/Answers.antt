use Rattle.std.proofs.Common.{◌≡◌, true, false, refl, subst, arith}
use Rattle.ur_http.specs.Fields.{is_named}
use Rattle.ur_http.specs.Reading.{field_pair, IsOnly}
use Rattle.ur_http.proofs.Values.{joins_other, joins_first, joins_second, joins_more}
use Rattle.ur_http.proofs.fields.joined.Goals as goal

pub returns-then-not-same_name : goal.returns-then-not-same_name
returns-then-not-same_name c =
    let other : is_named c.args.name.now (field_pair c.args.field.now) ≡ false = grind arith in
    joins_other c.args.found c.args.name.now (field_pair c.args.field.now) other

pub returns-in-Missing : goal.returns-in-Missing
returns-in-Missing c =
    let named : is_named c.args.name.now (field_pair c.args.field.now) ≡ true = grind arith in
    λ values is. joins_first c.args.field.now.value c.args.name.now (field_pair c.args.field.now) named refl values (subst (λ f. IsOnly f values) c.in-Missing.is is)

pub returns-in-One : goal.returns-in-One
returns-in-One c =
    let named : is_named c.args.name.now (field_pair c.args.field.now) ≡ true = grind arith in
    λ values is. joins_second c.in-One.field-0 c.args.name.now (field_pair c.args.field.now) named values (subst (λ f. IsOnly f values) c.in-One.is is)

pub returns-in-Several : goal.returns-in-Several
returns-in-Several c =
    let named : is_named c.args.name.now (field_pair c.args.field.now) ≡ true = grind arith in
    λ values is. joins_more c.args.name.now (field_pair c.args.field.now) named values (subst (λ f. IsOnly f values) c.in-Several.is is)
