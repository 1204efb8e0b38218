use Rattle.std.proofs.Common.{◌≡◌, [], ◌∷◌, refl, subst, rules}
use Rattle.std.specs.Int.RustNames.{FitsSigned}
use Rattle.std.proofs.lemmas.Int.{to_z-of_z}
use mir.Syntax.{w64}
use mir.Val.{to_z, of_z}
use Rattle.ur_terms.specs.declared.term.Pattern.TheVariants as p
use Rattle.ur_terms.specs.Run.{matched, if_matches}
use Rattle.ur_emit.proofs.Matching.{along, by_match, by_test}
use Rattle.ur_emit.proofs.binding.bind.Goals as goal

pub returns-in-Any : goal.returns-in-Any
returns-in-Any c = by_match c.args.pattern.now p.Any c.args.value.now (c.args.value.now ∷ [])
    c.args.slots.now c.bind_value.new.slots c.bind_value.result c.in-Any.is refl c.bind_value.ensures

pub returns-in-Int : goal.returns-in-Int
returns-in-Int c =
    let fits : FitsSigned w64 c.in-Int.number = search rules in
    let same : to_z w64 (of_z w64 c.in-Int.number) ≡ c.in-Int.number = to_z-of_z w64 c.in-Int.number fits in
    by_test c.args.pattern.now (p.Int c.in-Int.number) c.args.value.now c.is_int.result c.args.slots.now c.no_binding.new.slots c.no_binding.result c.in-Int.is
    (subst (λ z. matched (p.Int z) c.args.value.now ≡ if_matches c.is_int.result []) same c.is_int.ensures) c.no_binding.ensures

pub returns-in-Str : goal.returns-in-Str
returns-in-Str c =
    by_test c.args.pattern.now (p.Str c.in-Str.text)
    c.args.value.now c.is_text.result c.args.slots.now c.no_binding-in-Str.new.slots c.no_binding-in-Str.result c.in-Str.is c.is_text.ensures
    c.no_binding-in-Str.ensures

pub returns-in-Bool : goal.returns-in-Bool
returns-in-Bool c =
    by_test c.args.pattern.now (p.Bool c.in-Bool.truth)
    c.args.value.now c.is_bool.result c.args.slots.now c.no_binding-in-Bool.new.slots c.no_binding-in-Bool.result c.in-Bool.is c.is_bool.ensures
    c.no_binding-in-Bool.ensures

pub returns-in-Absent : goal.returns-in-Absent
returns-in-Absent c =
    by_test c.args.pattern.now p.Absent c.args.value.now c.is_absent.result c.args.slots.now c.no_binding-in-Absent.new.slots c.no_binding-in-Absent.result
    c.in-Absent.is c.is_absent.ensures c.no_binding-in-Absent.ensures

pub returns-in-Present : goal.returns-in-Present
returns-in-Present c = along c.args.pattern.now p.Present c.args.value.now c.args.slots.now c.bind_present.new.slots c.bind_present.result c.in-Present.is
    c.bind_present.ensures

pub returns-in-Empty : goal.returns-in-Empty
returns-in-Empty c =
    by_test c.args.pattern.now p.Empty c.args.value.now c.is_empty.result c.args.slots.now c.no_binding-in-Empty.new.slots c.no_binding-in-Empty.result
    c.in-Empty.is c.is_empty.ensures c.no_binding-in-Empty.ensures

pub returns-in-Cons : goal.returns-in-Cons
returns-in-Cons c = along c.args.pattern.now p.Cons c.args.value.now c.args.slots.now c.bind_cons.new.slots c.bind_cons.result c.in-Cons.is c.bind_cons.ensures

pub returns-in-Tagged : goal.returns-in-Tagged
returns-in-Tagged c = along c.args.pattern.now (p.Tagged c.in-Tagged.constructor)
    c.args.value.now c.args.slots.now c.bind_tagged.new.slots c.bind_tagged.result c.in-Tagged.is c.bind_tagged.ensures
