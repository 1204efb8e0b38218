use Rattle.std.proofs.Common.{sym, ap, ◌∙◌}
use Rattle.std.specs.Prelude.{slice_get, option_and_then}
use Rattle.ur_terms.specs.declared.term.Term.{out-Term}
use Rattle.ur_machine_frames.specs.Rest.{args_of}
use Rattle.ur_machine_frames.proofs.Descending.{next_argument_leads, all_arguments, all_arguments_safe}
use Rattle.ur_machine_frames.proofs.frame.Frames.next_argument.Goals as goal

pub apply-requires-clause-safe : goal.apply-requires-clause-safe
apply-requires-clause-safe g c =
    let e = ap (λ n. option_and_then (λ xs. slice_get xs n) (args_of (out-Term c.args.place.now))) (sym c.len.ensures) ∙ sym c.in-None.ensures in
    all_arguments_safe c.args.functions.now c.args.self.now c.args.place.now c.args.done e c.requires.safe

pub returns-in-Some-clause-leads : goal.returns-in-Some-clause-leads
returns-in-Some-clause-leads g c =
    let e = ap (λ n. option_and_then (λ xs. slice_get xs n) (args_of (out-Term c.args.place.now))) (sym c.len.ensures) ∙ sym c.in-Some.ensures in
    next_argument_leads c.args.functions.now c.args.self.now c.descend.new.self c.args.place.now c.args.done c.in-Some.next.now c.descend.result c.requires.stands e c.descend.ensures.descends

pub returns-in-None-clause-leads : goal.returns-in-None-clause-leads
returns-in-None-clause-leads g c =
    let e = ap (λ n. option_and_then (λ xs. slice_get xs n) (args_of (out-Term c.args.place.now))) (sym c.len.ensures) ∙ sym c.in-None.ensures in
    all_arguments c.args.functions.now c.args.self.now c.apply.new.self c.args.place.now c.args.done c.apply.result e c.requires.safe c.apply.ensures.leads
