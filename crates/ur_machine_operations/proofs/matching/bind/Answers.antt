use Rattle.std.proofs.Common.{◌≡◌, [], refl, subst, rules}
use Rattle.std.specs.Int.RustNames.{FitsSigned}
use Rattle.std.proofs.lemmas.Int.{to_z-of_z}
use mir.Syntax.{w64}
use mir.Val.{to_z, of_z}
use Rattle.ur_terms.specs.declared.term.Pattern.TheVariants as p
use Rattle.ur_terms.specs.Run.{matched, if_matches}
use Rattle.ur_machine_operations.proofs.Opened.{matched_at, found_one}
use Rattle.ur_machine_operations.proofs.matching.bind.Goals as goal

pub returns-in-Any : goal.returns-in-Any
returns-in-Any c = matched_at c.args.pattern.now p.Any c.args.value c.found.result c.in-Any.is (found_one p.Any c.args.value c.args.value c.one.result c.found.result refl c.one.ensures c.found.ensures)

pub returns-in-Int : goal.returns-in-Int
returns-in-Int c =
    let fits : FitsSigned w64 c.in-Int.number = search rules in
    let same : to_z w64 (of_z w64 c.in-Int.number) ≡ c.in-Int.number = to_z-of_z w64 c.in-Int.number fits in
    matched_at c.args.pattern.now (p.Int c.in-Int.number) c.args.value c.no_binding.result c.in-Int.is
    (c.no_binding.ensures (p.Int c.in-Int.number) (subst (λ z. matched (p.Int z) c.args.value ≡ if_matches c.is_int.result []) same c.is_int.ensures))

pub returns-in-Str : goal.returns-in-Str
returns-in-Str c = matched_at c.args.pattern.now (p.Str c.in-Str.text) c.args.value c.no_binding-in-Str.result c.in-Str.is (c.no_binding-in-Str.ensures (p.Str c.in-Str.text) c.is_text.ensures)

pub returns-in-Bool : goal.returns-in-Bool
returns-in-Bool c = matched_at c.args.pattern.now (p.Bool c.in-Bool.truth) c.args.value c.no_binding-in-Bool.result c.in-Bool.is (c.no_binding-in-Bool.ensures (p.Bool c.in-Bool.truth) c.is_bool.ensures)

pub returns-in-Absent : goal.returns-in-Absent
returns-in-Absent c = matched_at c.args.pattern.now p.Absent c.args.value c.no_binding-in-Absent.result c.in-Absent.is (c.no_binding-in-Absent.ensures p.Absent c.is_absent.ensures)

pub returns-in-Present : goal.returns-in-Present
returns-in-Present c = matched_at c.args.pattern.now p.Present c.args.value c.bind_present.result c.in-Present.is c.bind_present.ensures

pub returns-in-Empty : goal.returns-in-Empty
returns-in-Empty c = matched_at c.args.pattern.now p.Empty c.args.value c.no_binding-in-Empty.result c.in-Empty.is (c.no_binding-in-Empty.ensures p.Empty c.is_empty.ensures)

pub returns-in-Cons : goal.returns-in-Cons
returns-in-Cons c = matched_at c.args.pattern.now p.Cons c.args.value c.bind_cons.result c.in-Cons.is c.bind_cons.ensures

pub returns-in-Tagged : goal.returns-in-Tagged
returns-in-Tagged c = matched_at c.args.pattern.now (p.Tagged c.in-Tagged.constructor) c.args.value c.bind_tagged.result c.in-Tagged.is c.bind_tagged.ensures
