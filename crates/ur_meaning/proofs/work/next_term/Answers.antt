use Rattle.std.proofs.Common.{rules, ◌≡◌, suc, List, [], ◌∷◌, ◌++◌, length, sym, subst}
use Rattle.ur_terms.specs.declared.term.Term.{Term}
use Rattle.ur_meaning.specs.Working.{Working, Steps}
use Rattle.ur_meaning.proofs.Going.{exit}
use Rattle.ur_meaning.proofs.Steps.{no_body, next_halts, next_made}
use Rattle.ur_meaning.proofs.work.next_term.Goals as goal

pub returns-in_err-body-clause-made : goal.returns-in_err-body-clause-made
returns-in_err-body-clause-made g c =
    let table = c.args.table.now in
    λ roots s w count below.
    exit (λ r. Steps (g.T.Table.language table) g.T.Table.large g.T.Table.named roots (g.T.Table.instances c.body.new.self) c.args.made.now c.args.made.now c.args.room.now r)
    c.from_residual.result c.in_err-body.field-0.0 c.from_residual.ensures.1
    (no_body g.T.Table.language g.T.Table.instances g.T.Table.stands g.T.Table.sound g.T.Table.large g.T.Table.named table c.body.new.self c.args.number c.args.room.now c.args.made.now c.in_err-body.field-0.0
    c.in_err-body.ensures.body roots s w below)

pub returns-in_err-term-clause-made : goal.returns-in_err-term-clause-made
returns-in_err-term-clause-made g c =
    let table = c.args.table.now in
    λ roots s w count below.
    exit (λ r. Steps (g.T.Table.language table) g.T.Table.large g.T.Table.named roots (g.T.Table.instances c.term_of.new.table) c.args.made.now c.args.made.now c.term_of.new.room r)
    c.from_residual-in_err-term.result c.in_err-term.field-0.0 c.from_residual-in_err-term.ensures.1
    (next_halts g.T.Table.language g.T.Table.instances g.T.Table.stands g.T.Table.sound table c.body.new.self c.term_of.new.table c.args.room.now c.term_of.new.room c.args.number c.args.made.now
    c.in_ok-body.body c.in_ok-body.ensures.numbered c.in_ok-body.ensures.lasts c.in_err-term.ensures.lasts c.in_ok-body.ensures.body g.T.Table.large g.T.Table.named c.in_err-term.field-0.0
    c.in_err-term.ensures.made roots s w count below)

pub returns-clause-made : goal.returns-clause-made
returns-clause-made g c =
    let table = c.args.table.now in
    let more : c.push.new.self ≡ c.args.made.now ++ c.in_ok-term.term ∷ [] = search rules in
    λ roots s w count below.
    subst (λ (l : List Term). Working (g.T.Table.language table) roots (g.T.Table.instances c.term_of.new.table) l c.term_of.new.room × (length l ≡ suc (length c.args.made.now)))
    (sym more)
    (next_made g.T.Table.language g.T.Table.instances g.T.Table.stands g.T.Table.sound table c.body.new.self c.term_of.new.table c.args.room.now c.term_of.new.room c.args.number c.args.made.now
    c.in_ok-body.body c.in_ok-body.ensures.numbered c.in_ok-body.ensures.lasts c.in_ok-term.ensures.lasts c.in_ok-body.ensures.body c.in_ok-term.term
    c.in_ok-term.ensures.made roots s w count below)
