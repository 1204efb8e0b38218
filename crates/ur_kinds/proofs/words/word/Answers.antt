use Rattle.std.proofs.Common.{sym, ◌∙◌, subst}
use Rattle.ur_syntax.specs.declared.con.ConForm.TheVariants as con
use Rattle.ur_syntax.specs.HasKind.{HasKind, word}
use Rattle.ur_kinds.specs.Walk.{scope_of}
use Rattle.ur_kinds.specs.Faults.{unknown, no_name}
use Rattle.ur_kinds.proofs.Walking.{type-word, maker-word, no-word, own-unknown, fault-here}
use Rattle.ur_kinds.proofs.words.word.Goals as goal

pub returns-then-is_type_word-clause-kind : goal.returns-then-is_type_word-clause-kind
returns-then-is_type_word-clause-kind c = word c.requires.hidden (type-word c.args.x.now (sym c.is_type_word.ensures ∙ c.if-is_type_word.true))

pub returns-then-is_maker_word-clause-kind : goal.returns-then-is_maker_word-clause-kind
returns-then-is_maker_word-clause-kind c = subst (λ k. HasKind (scope_of c.args.names.now) (con.Var c.args.x.now) k) (sym c.in_ok-arrow.ensures)
    (word c.requires.hidden (maker-word c.args.x.now (sym c.is_type_word.ensures ∙ c.if-is_type_word.false) (sym c.is_maker_word.ensures ∙ c.if-is_maker_word.true)))

pub returns-clause-refused : goal.returns-clause-refused
returns-clause-refused c = fault-here {f = unknown c.args.x.now}
    (no_name (own-unknown (scope_of c.args.names.now) c.args.x.now c.requires.hidden (no-word c.args.x.now (sym c.is_type_word.ensures ∙ c.if-is_type_word.false) (sym c.is_maker_word.ensures ∙ c.if-is_maker_word.false))))
    c.in_ok-unknown.ensures
