use Rattle.std.proofs.Common.{◌≡◌, ap, refl, rules}
use Rattle.std.specs.Int.RustNames.{FitsSigned}
use Rattle.std.proofs.lemmas.Int.{to_z-of_z}
use mir.Syntax.{w64}
use mir.Val.{to_z, of_z}
use Rattle.ur_values.specs.declared.value.Value.TheVariants as v
use Rattle.ur_terms.specs.declared.term.Term.TheVariants as term
use Rattle.ur_emit.proofs.Calls.{constant_pushed, reads-Bool, reads-Int, reads-Str, unit_pushed}
use Rattle.ur_emit.proofs.links.push_one.Goals as goal

pub returns-in-Int : goal.returns-in-Int
returns-in-Int c =
    let n = c.in-Int.number in
    let fits : FitsSigned w64 n = search rules in
    let same : to_z w64 (of_z w64 n) ≡ n = to_z-of_z w64 n fits in
    constant_pushed c.push_value.result c.args.slots.now c.args.arg.now (term.Int n) _ (v.Int n) c.args.out.now c.push_value.new.out c.in-Int.is (reads-Int n)
    (ap v.Int same) c.push_value.ensures

pub returns-in-Bool : goal.returns-in-Bool
returns-in-Bool c =
    let b = c.in-Bool.truth in
    constant_pushed c.push_value-in-Bool.result c.args.slots.now c.args.arg.now (term.Bool b) _ (v.Bool b) c.args.out.now c.push_value-in-Bool.new.out
    c.in-Bool.is (reads-Bool b) refl c.push_value-in-Bool.ensures

pub returns-in-Str : goal.returns-in-Str
returns-in-Str c =
    let text = c.in-Str.text in
    constant_pushed c.push_copy.result c.args.slots.now c.args.arg.now (term.Str text) _ (v.Str text) c.args.out.now c.push_copy.new.out c.in-Str.is
    (reads-Str text) (ap v.Str c.as_slice.ensures) c.push_copy.ensures

pub returns-then-is_unit : goal.returns-then-is_unit
returns-then-is_unit c = unit_pushed c.args.slots.now c.args.arg.now c.in-Make.made c.in-Make.parts c.args.out.now c.in-Make.is
    (c.is_unit.ensures c.if-is_unit.true)
