-- Bytes are read as a number, and are its text where writing it gives them back.
use Rattle.std.proofs.Common.{◌≡◌, ap, sym, ◌∙◌, rules}
use Rattle.std.specs.Fmt.{signed_decimal}
use Rattle.std.specs.Str.Parse.{signed_digits_value}
use Rattle.std.specs.Int.RustNames.{FitsSigned}
use Rattle.std.proofs.lemmas.Int.{to_z-of_z}
use Rattle.std.proofs.lemmas.Bool.{false≢true}
use Rattle.std.proofs.lemmas.Slice.Eq.{bytes_eq-Decides}
use mir.Syntax.{w64}
use mir.Val.{to_z, of_z}
use Rattle.ur_tags.specs.Segments.{int_of}
use Rattle.ur_tags.proofs.Ints.{int_of_value, int_none_not_text, int_none_unparsed, int_none_other}
use Rattle.ur_tags.proofs.segments.int_of.Goals as goal

pub returns-in_default : goal.returns-in_default
returns-in_default c = sym (int_none_not_text c.args.text.now c.in_default.ensures.cases.0)

pub returns-in_default-parse : goal.returns-in_default-parse
returns-in_default-parse c =
    sym (ap int_of (sym c.in-Ok.ensures.cases.0) ∙ int_none_unparsed c.in-Ok.digits.now c.in_default-parse.field-0 c.in_default-parse.ensures.value.0)

pub returns-then-eq : goal.returns-then-eq
returns-then-eq c =
    let v = c.in-Ok-parse.value in
    let fits : FitsSigned w64 v = search rules in
    let same : to_z w64 (of_z w64 v) ≡ v = to_z-of_z w64 v fits in
    let reads : v ≡ signed_digits_value 10 c.args.text.now = c.in-Ok-parse.ensures.value.0.1 ∙ ap (signed_digits_value 10) c.in-Ok.ensures.cases.0 in
    let written = c.as_bytes.ensures.value ∙ c.in_ok-written.ensures.ok ∙ ap signed_decimal same in
    rw same (sym (int_of_value c.args.text.now v reads fits (sym written ∙ (bytes_eq-Decides _ _).0 (sym c.if-eq.ensures))))

pub returns : goal.returns
returns c =
    let v = c.in-Ok-parse.value in
    let fits : FitsSigned w64 v = search rules in
    let same : to_z w64 (of_z w64 v) ≡ v = to_z-of_z w64 v fits in
    let reads : v ≡ signed_digits_value 10 c.args.text.now = c.in-Ok-parse.ensures.value.0.1 ∙ ap (signed_digits_value 10) c.in-Ok.ensures.cases.0 in
    let written = c.as_bytes.ensures.value ∙ c.in_ok-written.ensures.ok ∙ ap signed_decimal same in
    sym (int_none_other c.args.text.now v reads (λ e. false≢true (c.if-eq.ensures ∙ (bytes_eq-Decides _ _).1 (written ∙ e))))
