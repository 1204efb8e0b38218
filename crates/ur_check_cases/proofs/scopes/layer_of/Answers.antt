use Rattle.ur_syntax.specs.declared.kind.Kind.TheVariants as kind
use Rattle.ur_rows_normal.specs.Preparing.{with_entry, variable_entry}
use Rattle.ur_check_cases.proofs.scopes.layer_of.Goals as goal

pub returns : goal.returns
returns c = λ names reads.
    let place = c.args.around.now in
    let one = with_entry (variable_entry c.args.step.now.nm.now kind.Name) names.cons in
    let two = with_entry (variable_entry c.args.step.now.t.now kind.Star) one in
    c.in_ok-bind-3.ensures.ok place two (c.in_ok-bind-2.ensures.ok place one (c.in_ok-bind.ensures.ok place names.cons (c.new-names.ensures names.cons reads)))
