use Rattle.std.proofs.Common.{refl, arith, sym, ◌∙◌, ◌+◌, ◌-◌, ◌≡◌, ◌≤◌, true, false, [], ◌∷◌, ◌++◌, drop}
use Rattle.ur_syntax.specs.declared.con.Con.{Con}
use Rattle.ur_parse_rules.specs.Rules.{nested, Read, Refused}
use Rattle.ur_parse_rules.specs.Places.{Moves, span_of}
use Rattle.ur_parse_rules.proofs.Steps.{passed, made_deep, at_limit}
use Rattle.ur_parse_rules.specs.ConParts.{con, arrow, concat, app, atom}
use Rattle.ur_parse_rules.specs.Constructors.{keys_of, within}
use Rattle.ur_parse_rules.specs.Parts.{of_con}
use Rattle.ur_parse_rules.specs.Language.{language}
use Rattle.ur_parse_con.specs.Names.{NoneOpens}
use Rattle.ur_parse_con.proofs.Joining.{chain_start, chain_more, chain_done, chain_unfit, arrow_first, arrow_link, arrow_one, arrow_broken, concat_first, concat_link, concat_one, concat_broken}
use Rattle.ur_parse_con.proofs.Arguments.{args_first, args_more, args_refused, args_done, app_bare, head_refused, app_first, arg_first, arg_broken}
use Rattle.ur_parse_con.proofs.Listed.{row_first, row_first_refused, row_next_refused, row_empty, row_more, row_done, row_open, fields_first, fields_first_refused, fields_next_refused, fields_empty, fields_more, fields_done, fields_open, name_refused, value_refused, given_read, given_refused, bare_read, bare_refused, key_refused, colon_refused, type_refused, field_read}
use Rattle.ur_parse_con.proofs.Atoms.{fn_name, fn_colons, fn_kind, fn_arrow, fn_body, fn_read, plain_refused, plain_unfit, plain_read, row_refused, fields_refused, dollar_refused, dollar_unfit, inner_refused, inner_open, row_read, fields_read, dollar_read, inner_read}
use Rattle.ur_parse_con.proofs.con.+con.Goals as goal

-- ---- con

pub con-returns-then-depth-eq0-clause-refused : goal.con-returns-then-depth-eq0-clause-refused
con-returns-then-depth-eq0-clause-refused t c = made_deep _ c.too_deep.ensures (λ r s. nested s (at_limit (omega arith) refl))

pub con-returns-in_err-name-clause-refused : goal.con-returns-in_err-name-clause-refused
con-returns-in_err-name-clause-refused t c = passed _ _ c.from_residual.ensures.1 c.in_err-name.ensures.refused (λ r h. fn_name (c.args.depth - 1) (omega arith) (c.sees.ensures.yes c.if-sees.true) h)

pub con-returns-in_err-begin-clause-refused : goal.con-returns-in_err-begin-clause-refused
con-returns-in_err-begin-clause-refused t c = passed _ _ c.from_residual-in_err-begin.ensures.1 c.in_err-begin.ensures.refused (λ r h. fn_colons (c.args.depth - 1) (omega arith) (c.sees.ensures.yes c.if-sees.true) c.in_ok-name.ensures.found h)

pub con-returns-in_err-of-clause-refused : goal.con-returns-in_err-of-clause-refused
con-returns-in_err-of-clause-refused t c = passed _ _ c.from_residual-in_err-of.ensures.1 c.in_err-of.ensures.refused (λ r h. fn_kind (c.args.depth - 1) (omega arith) (c.sees.ensures.yes c.if-sees.true) c.in_ok-name.ensures.found c.in_ok-begin.ensures.found (h _))

pub con-returns-in_err-begin-2-clause-refused : goal.con-returns-in_err-begin-2-clause-refused
con-returns-in_err-begin-2-clause-refused t c = passed _ _ c.from_residual-in_err-begin-2.ensures.1 c.in_err-begin-2.ensures.refused (λ r h. fn_arrow (c.args.depth - 1) (omega arith) (c.sees.ensures.yes c.if-sees.true) c.in_ok-name.ensures.found c.in_ok-begin.ensures.found c.in_ok-of.of.end (c.in_ok-of.ensures.found _) h)

pub con-returns-in_err-body-clause-refused : goal.con-returns-in_err-body-clause-refused
con-returns-in_err-body-clause-refused t c = passed _ _ c.from_residual-in_err-body.ensures.1 c.in_err-body.ensures.refused (λ r h. let w = c.within.ensures in fn_body (c.args.depth - 1) (omega arith) (c.sees.ensures.yes c.if-sees.true) c.in_ok-name.ensures.found c.in_ok-begin.ensures.found c.in_ok-of.of.end (c.in_ok-of.ensures.found _) c.in_ok-begin-2.ensures.found (rw w at h))

pub con-returns-in_ok-made-clause-found : goal.con-returns-in_ok-made-clause-found
con-returns-in_ok-made-clause-found t c = let e = c.in_ok-made.ensures.found in let e0 = e.0 in let e1 = e.1 in let w = c.within.ensures in let s = c.span-covered.ensures in let b = c.in_ok-body.ensures in
    let body : Read language (c.args.depth - 1) (of_con (con (within c.args.place))) (drop c.in_ok-begin-2.begin c.args.tokens.now) (drop c.in_ok-body.body.end c.args.tokens.now) c.in_ok-body.body.tree = rw w at b.found in
    let moves : Moves c.args.tokens.now c.args.at c.in_ok-body.body.end = (let m = b.moves.on in let x = c.in_ok-begin-2.ensures.found.next in let y = c.in_ok-of.ensures.moves.on in let z = c.in_ok-begin.ensures.found.next in let v = c.in_ok-name.ensures.found.next in
    record { on = omega (arith, m, x, y, z, v); within = b.moves.within }) in
    rw (e0, e1, s) (fn_read (c.args.depth - 1) (omega arith) (c.sees.ensures.yes c.if-sees.true) c.in_ok-name.ensures.found c.in_ok-begin.ensures.found c.in_ok-of.of.end (c.in_ok-of.ensures.found _) c.in_ok-begin-2.ensures.found moves body)

pub con-returns-in_err-tree-clause-refused : goal.con-returns-in_err-tree-clause-refused
con-returns-in_err-tree-clause-refused t c = passed _ _ c.from_residual-in_err-tree.ensures.1 c.in_err-tree.ensures.refused (λ r h. let k = c.keys_of.ensures in plain_refused (c.args.depth - 1) (omega arith) (c.sees.ensures.no c.if-sees.false) (rw k at h))

pub con-returns-in_err-fitting-clause-refused : goal.con-returns-in_err-fitting-clause-refused
con-returns-in_err-fitting-clause-refused t c = passed _ _ c.from_residual-in_err-fitting.ensures.1 c.in_err-fitting.ensures.refused (λ r h. let k = c.keys_of.ensures in let b = c.is_beside.ensures in plain_unfit (c.args.depth - 1) (omega arith) (c.sees.ensures.no c.if-sees.false) c.in_ok-tree.tree.end (rw k at c.in_ok-tree.ensures.found) h.0 (rw b at h.1))

pub con-returns-in_ok-fitting-clause-found : goal.con-returns-in_ok-fitting-clause-found
con-returns-in_ok-fitting-clause-found t c = let k = c.keys_of.ensures in let b = c.is_beside.ensures in plain_read (c.args.depth - 1) (omega arith) c.args.tokens.now c.args.at c.in_ok-tree.tree.end (rw k at c.in_ok-tree.ensures.found) (rw b at c.in_ok-fitting.ensures.found)

-- ---- arrow

pub arrow-returns-in_err-last-clause-refused : goal.arrow-returns-in_err-last-clause-refused
arrow-returns-in_err-last-clause-refused t c = passed _ _ c.from_residual.ensures.1 c.in_err-last.ensures.refused (λ r h. arrow_first c.args.depth c.args.keys c.args.tokens.now c.args.at h)

pub arrow-links-init : goal.arrow-links-init
arrow-links-init t c = let e = c.new-left.ensures in record { start = omega arith; last = c.in_ok-last.ensures.moves; read = c.in_ok-last.ensures.found; chain = rw e chain_start }

pub arrow-returns-in_err-fitting-clause-refused : goal.arrow-returns-in_err-fitting-clause-refused
arrow-returns-in_err-fitting-clause-refused t c = passed _ _ c.from_residual-in_err-fitting.ensures.1 c.in_err-fitting.ensures.refused (λ r h. c.links.invariant.chain.refused r (arrow_broken c.args.depth c.args.keys c.args.tokens.now c.links.begin h.0 h.1 c.links.invariant.read (c.sees.ensures.yes c.links-test.true)))

pub arrow-returns-in_err-next-clause-refused : goal.arrow-returns-in_err-next-clause-refused
arrow-returns-in_err-next-clause-refused t c = passed _ _ c.from_residual-in_err-next.ensures.1 c.in_err-next.ensures.refused (λ r h. c.links.invariant.chain.refused r ((arrow_link c.args.depth c.args.keys c.args.tokens.now c.links.invariant.last c.in_ok-fitting.ensures.found c.links.invariant.read (c.sees.ensures.yes c.links-test.true)).refused r (arrow_first c.args.depth c.args.keys c.args.tokens.now (c.links.last.end + 1) h)))

pub arrow-links-preserved : goal.arrow-links-preserved
arrow-links-preserved t c = let s = c.links.invariant.start in let m = c.links.invariant.last.on in let p = c.in_ok-pushed.ensures.found in let k = c.span-covered.ensures in record {
  start = omega (arith, s, m);
  last = c.in_ok-next.ensures.moves;
  read = c.in_ok-next.ensures.found;
  chain = rw (p, k) (chain_more c.links.invariant.last (omega (arith, m)) c.links.invariant.chain (arrow_link c.args.depth c.args.keys c.args.tokens.now c.links.invariant.last c.in_ok-fitting.ensures.found c.links.invariant.read (c.sees.ensures.yes c.links-test.true)));
}

pub arrow-returns-in_err-fitting-2-clause-refused : goal.arrow-returns-in_err-fitting-2-clause-refused
arrow-returns-in_err-fitting-2-clause-refused t c = passed _ _ c.from_residual-in_err-fitting-2.ensures.1 c.in_err-fitting-2.ensures.refused (λ r h. chain_unfit _ c.is_empty.ensures h.0 h.1 c.links.invariant.chain (arrow_one c.args.depth c.args.keys c.args.tokens.now c.links.invariant.last c.links.invariant.read (c.sees.ensures.no c.links-test.false)))

pub arrow-returns-clause-found : goal.arrow-returns-clause-found
arrow-returns-clause-found t c = let e = c.in_ok-made.ensures.found in let e0 = e.0 in let e1 = e.1 in let s = c.span-covered-2.ensures in
    rw (e0, e1, s) (chain_done _ c.is_empty.ensures c.in_ok-fitting-2.ensures.found c.links.invariant.last c.links.invariant.chain (arrow_one c.args.depth c.args.keys c.args.tokens.now c.links.invariant.last c.links.invariant.read (c.sees.ensures.no c.links-test.false)))

-- ---- concat

pub concat-returns-in_err-last-clause-refused : goal.concat-returns-in_err-last-clause-refused
concat-returns-in_err-last-clause-refused t c = passed _ _ c.from_residual.ensures.1 c.in_err-last.ensures.refused (λ r h. concat_first c.args.depth c.args.keys c.args.tokens.now c.args.at h)

pub concat-links-init : goal.concat-links-init
concat-links-init t c = let e = c.new-left.ensures in record { start = omega arith; last = c.in_ok-last.ensures.moves; read = c.in_ok-last.ensures.found; chain = rw e chain_start }

pub concat-returns-in_err-fitting-clause-refused : goal.concat-returns-in_err-fitting-clause-refused
concat-returns-in_err-fitting-clause-refused t c = passed _ _ c.from_residual-in_err-fitting.ensures.1 c.in_err-fitting.ensures.refused (λ r h. c.links.invariant.chain.refused r (concat_broken c.args.depth c.args.keys c.args.tokens.now c.links.begin h.0 h.1 c.links.invariant.read (c.sees.ensures.yes c.links-test.true)))

pub concat-returns-in_err-next-clause-refused : goal.concat-returns-in_err-next-clause-refused
concat-returns-in_err-next-clause-refused t c = passed _ _ c.from_residual-in_err-next.ensures.1 c.in_err-next.ensures.refused (λ r h. c.links.invariant.chain.refused r ((concat_link c.args.depth c.args.keys c.args.tokens.now c.links.invariant.last c.in_ok-fitting.ensures.found c.links.invariant.read (c.sees.ensures.yes c.links-test.true)).refused r (concat_first c.args.depth c.args.keys c.args.tokens.now (c.links.last.end + 1) h)))

pub concat-links-preserved : goal.concat-links-preserved
concat-links-preserved t c = let s = c.links.invariant.start in let m = c.links.invariant.last.on in let p = c.in_ok-pushed.ensures.found in let k = c.span-covered.ensures in record {
  start = omega (arith, s, m);
  last = c.in_ok-next.ensures.moves;
  read = c.in_ok-next.ensures.found;
  chain = rw (p, k) (chain_more c.links.invariant.last (omega (arith, m)) c.links.invariant.chain (concat_link c.args.depth c.args.keys c.args.tokens.now c.links.invariant.last c.in_ok-fitting.ensures.found c.links.invariant.read (c.sees.ensures.yes c.links-test.true)));
}

pub concat-returns-in_err-fitting-2-clause-refused : goal.concat-returns-in_err-fitting-2-clause-refused
concat-returns-in_err-fitting-2-clause-refused t c = passed _ _ c.from_residual-in_err-fitting-2.ensures.1 c.in_err-fitting-2.ensures.refused (λ r h. chain_unfit _ c.is_empty.ensures h.0 h.1 c.links.invariant.chain (concat_one c.args.depth c.args.keys c.args.tokens.now c.links.invariant.last c.links.invariant.read (c.sees.ensures.no c.links-test.false)))

pub concat-returns-clause-found : goal.concat-returns-clause-found
concat-returns-clause-found t c = let e = c.in_ok-made.ensures.found in let e0 = e.0 in let e1 = e.1 in let s = c.span-covered-2.ensures in
    rw (e0, e1, s) (chain_done _ c.is_empty.ensures c.in_ok-fitting-2.ensures.found c.links.invariant.last c.links.invariant.chain (concat_one c.args.depth c.args.keys c.args.tokens.now c.links.invariant.last c.links.invariant.read (c.sees.ensures.no c.links-test.false)))

-- ---- app

pub app-returns-in_err-head-clause-refused : goal.app-returns-in_err-head-clause-refused
app-returns-in_err-head-clause-refused t c = passed _ _ c.from_residual.ensures.1 c.in_err-head.ensures.refused (λ r h. app_first c.args.tokens.now c.args.at h)

pub app-returns-then-not-sees_argument-clause-found : goal.app-returns-then-not-sees_argument-clause-found
app-returns-then-not-sees_argument-clause-found t c = app_bare c.in_ok-head.ensures.moves (sym c.sees_argument.ensures ∙ c.if-not-sees_argument.true) c.in_ok-head.ensures.found

pub app-returns-in_err-fitting-clause-refused : goal.app-returns-in_err-fitting-clause-refused
app-returns-in_err-fitting-clause-refused t c = passed _ _ c.from_residual-in_err-fitting.ensures.1 c.in_err-fitting.ensures.refused (λ r h. head_refused c.args.tokens.now c.args.at c.in_ok-head.head.end h.0 h.1 (sym c.sees_argument.ensures ∙ c.if-not-sees_argument.false) c.in_ok-head.ensures.found)

pub app-arguments-init : goal.app-arguments-init
app-arguments-init t c = record { moves = c.in_ok-head.ensures.moves; args = args_first }

pub app-returns-in_err-argument-clause-refused : goal.app-returns-in_err-argument-clause-refused
app-returns-in_err-argument-clause-refused t c = passed _ _ c.from_residual-in_err-argument.ensures.1 c.in_err-argument.ensures.refused (λ r h. args_refused c.arguments.invariant.args (sym c.sees_argument-in-arguments.ensures ∙ c.arguments-test.true) c.in_ok-head.ensures.found (arg_first c.args.tokens.now c.arguments.function.end h))

pub app-returns-in_err-fitting-2-clause-refused : goal.app-returns-in_err-fitting-2-clause-refused
app-returns-in_err-fitting-2-clause-refused t c = passed _ _ c.from_residual-in_err-fitting-2.ensures.1 c.in_err-fitting-2.ensures.refused (λ r h. args_refused c.arguments.invariant.args (sym c.sees_argument-in-arguments.ensures ∙ c.arguments-test.true) c.in_ok-head.ensures.found (arg_broken c.args.tokens.now c.arguments.function.end c.in_ok-argument.argument.end h.0 h.1 c.in_ok-argument.ensures.found))

pub app-arguments-preserved : goal.app-arguments-preserved
app-arguments-preserved t c = let e = c.in_ok-function.ensures.found in let e0 = e.0 in let e1 = e.1 in let s = c.span-covered.ensures in let m = c.arguments.invariant.moves.on in let o = c.in_ok-argument.ensures.moves.on in rw (e0, e1, s) (record {
  moves = record { on = omega (arith, m, o); within = c.in_ok-argument.ensures.moves.within };
  args = args_more c.in_ok-head.ensures.moves (omega (arith, m, o)) c.arguments.invariant.args (sym c.sees_argument-in-arguments.ensures ∙ c.arguments-test.true) c.in_ok-argument.ensures.moves c.in_ok-fitting-2.ensures.found c.in_ok-argument.ensures.found;
})

pub app-returns-clause-found : goal.app-returns-clause-found
app-returns-clause-found t c = args_done c.in_ok-head.ensures.moves c.arguments.invariant.moves c.arguments.invariant.args (sym c.sees_argument-in-arguments.ensures ∙ c.arguments-test.false) c.in_ok-fitting.ensures.found c.in_ok-head.ensures.found

-- ---- atom

pub atom-returns-in_err-fields-clause-refused : goal.atom-returns-in_err-fields-clause-refused
atom-returns-in_err-fields-clause-refused t c = passed _ _ c.from_residual.ensures.1 c.in_err-fields.ensures.refused (λ r h. row_refused (c.sees.ensures.yes c.if-sees.true) h)

pub atom-returns-in_ok-made-clause-found : goal.atom-returns-in_ok-made-clause-found
atom-returns-in_ok-made-clause-found t c = let e = c.in_ok-made.ensures.found in let e0 = e.0 in let e1 = e.1 in let s = c.span-covered.ensures in let m = c.in_ok-fields.ensures.moves.on in rw (e0, e1, s) (row_read (record { on = omega (arith, m); within = c.in_ok-fields.ensures.moves.within }) (c.sees.ensures.yes c.if-sees.true) c.in_ok-fields.ensures.found)

pub atom-returns-in_err-fields-2-clause-refused : goal.atom-returns-in_err-fields-2-clause-refused
atom-returns-in_err-fields-2-clause-refused t c = passed _ _ c.from_residual-in_err-fields-2.ensures.1 c.in_err-fields-2.ensures.refused (λ r h. fields_refused (c.sees-else-sees.ensures.yes c.if-sees-2.true) h)

pub atom-returns-in_ok-made-2-clause-found : goal.atom-returns-in_ok-made-2-clause-found
atom-returns-in_ok-made-2-clause-found t c = let e = c.in_ok-made-2.ensures.found in let e0 = e.0 in let e1 = e.1 in let s = c.span-covered-then-sees-2.ensures in let m = c.in_ok-fields-2.ensures.moves.on in rw (e0, e1, s) (fields_read (record { on = omega (arith, m); within = c.in_ok-fields-2.ensures.moves.within }) (c.sees-else-sees.ensures.yes c.if-sees-2.true) c.in_ok-fields-2.ensures.found)

pub atom-returns-in_err-row-clause-refused : goal.atom-returns-in_err-row-clause-refused
atom-returns-in_err-row-clause-refused t c = passed _ _ c.from_residual-in_err-row.ensures.1 c.in_err-row.ensures.refused (λ r h. dollar_refused (c.sees-else-sees-2.ensures.yes c.if-sees-3.true) h)

pub atom-returns-in_err-fitting-clause-refused : goal.atom-returns-in_err-fitting-clause-refused
atom-returns-in_err-fitting-clause-refused t c = passed _ _ c.from_residual-in_err-fitting.ensures.1 c.in_err-fitting.ensures.refused (λ r h. dollar_unfit c.in_ok-row.row.end (c.sees-else-sees-2.ensures.yes c.if-sees-3.true) c.in_ok-row.ensures.found h.0 h.1)

pub atom-returns-in_ok-made-3-clause-found : goal.atom-returns-in_ok-made-3-clause-found
atom-returns-in_ok-made-3-clause-found t c = let e = c.in_ok-made-3.ensures.found in let e0 = e.0 in let e1 = e.1 in let s = c.span-covered-then-sees-3.ensures in let m = c.in_ok-row.ensures.moves.on in rw (e0, e1, s) (dollar_read (record { on = omega (arith, m); within = c.in_ok-row.ensures.moves.within }) (c.sees-else-sees-2.ensures.yes c.if-sees-3.true) c.in_ok-row.ensures.found c.in_ok-fitting.ensures.found)

pub atom-returns-in_err-inner-clause-refused : goal.atom-returns-in_err-inner-clause-refused
atom-returns-in_err-inner-clause-refused t c = passed _ _ c.from_residual-in_err-inner.ensures.1 c.in_err-inner.ensures.refused (λ r h. inner_refused (c.sees-else-sees-3.ensures.yes c.if-sees-4.true) h)

pub atom-returns-in_err-end-clause-refused : goal.atom-returns-in_err-end-clause-refused
atom-returns-in_err-end-clause-refused t c = passed _ _ c.from_residual-in_err-end.ensures.1 c.in_err-end.ensures.refused (λ r h. inner_open (c.sees-else-sees-3.ensures.yes c.if-sees-4.true) c.in_ok-inner.ensures.found h)

pub atom-returns-in_ok-end-clause-found : goal.atom-returns-in_ok-end-clause-found
atom-returns-in_ok-end-clause-found t c = let e = c.ending.ensures.tree in let f = c.ending.ensures.end in rw (e, f) (inner_read (c.sees-else-sees-3.ensures.yes c.if-sees-4.true) c.in_ok-inner.ensures.found c.in_ok-end.ensures.found)

pub atom-returns-in_err-made-4-clause-refused : goal.atom-returns-in_err-made-4-clause-refused
atom-returns-in_err-made-4-clause-refused t c = let o : NoneOpens c.args.tokens.now c.args.at = record { bracket = c.sees.ensures.no c.if-sees.false; brace = c.sees-else-sees.ensures.no c.if-sees-2.false; dollar = c.sees-else-sees-2.ensures.no c.if-sees-3.false; parenthesis = c.sees-else-sees-3.ensures.no c.if-sees-4.false } in
    passed _ _ c.from_residual-in_err-made-4.ensures.1 (c.in_err-made-4.ensures.refused o) (λ r h. h _)

-- ---- row

pub row-returns-then-sees-clause-found : goal.row-returns-then-sees-clause-found
row-returns-then-sees-clause-found t c = let e = c.new-list.ensures in rw e (row_empty (c.sees.ensures.yes c.if-sees.true))

pub row-returns-in_err-first-clause-refused : goal.row-returns-in_err-first-clause-refused
row-returns-in_err-first-clause-refused t c = passed _ _ c.from_residual.ensures.1 c.in_err-first.ensures.refused (λ r h. row_first_refused (c.sees.ensures.no c.if-sees.false) h)

pub row-commas-init : goal.row-commas-init
row-commas-init t c = let e = c.new-list.ensures in let p = c.in_ok-pushed.ensures.found in rw (p, e) (record { moves = c.in_ok-first.ensures.moves; leads = row_first c.in_ok-first.first.end (c.sees.ensures.no c.if-sees.false) c.in_ok-first.ensures.found })

pub row-returns-in_err-next-clause-refused : goal.row-returns-in_err-next-clause-refused
row-returns-in_err-next-clause-refused t c = passed _ _ c.from_residual-in_err-next.ensures.1 c.in_err-next.ensures.refused (λ r h. row_next_refused c.args.at c.commas.list c.commas.invariant.leads (c.sees-in-commas.ensures.yes c.commas-test.true) h)

pub row-commas-preserved : goal.row-commas-preserved
row-commas-preserved t c = let p = c.in_ok-pushed-2.ensures.found in let m = c.commas.invariant.moves.on in let o = c.in_ok-next.ensures.moves.on in rw p (record {
  moves = record { on = omega (arith, m, o); within = c.in_ok-next.ensures.moves.within };
  leads = row_more c.args.at c.in_ok-next.next.end c.commas.list c.commas.invariant.leads (c.sees-in-commas.ensures.yes c.commas-test.true) c.in_ok-next.ensures.found;
})

pub row-returns-in_err-close-clause-refused : goal.row-returns-in_err-close-clause-refused
row-returns-in_err-close-clause-refused t c = passed _ _ c.from_residual-in_err-close.ensures.1 c.in_err-close.ensures.refused (λ r h. row_open c.args.at c.commas.list c.commas.invariant.leads (c.sees-in-commas.ensures.no c.commas-test.false) h)

pub row-returns-clause-found : goal.row-returns-clause-found
row-returns-clause-found t c = row_done c.args.at c.commas.list c.commas.invariant.leads c.in_ok-close.ensures.found

-- ---- fields

pub fields-returns-then-sees-clause-found : goal.fields-returns-then-sees-clause-found
fields-returns-then-sees-clause-found t c = let e = c.new-list.ensures in rw e (fields_empty (c.sees.ensures.yes c.if-sees.true))

pub fields-returns-in_err-first-clause-refused : goal.fields-returns-in_err-first-clause-refused
fields-returns-in_err-first-clause-refused t c = passed _ _ c.from_residual.ensures.1 c.in_err-first.ensures.refused (λ r h. fields_first_refused (c.sees.ensures.no c.if-sees.false) h)

pub fields-commas-init : goal.fields-commas-init
fields-commas-init t c = let e = c.new-list.ensures in let p = c.in_ok-pushed.ensures.found in rw (p, e) (record { moves = c.in_ok-first.ensures.moves; leads = fields_first c.in_ok-first.first.end (c.sees.ensures.no c.if-sees.false) c.in_ok-first.ensures.found })

pub fields-returns-in_err-next-clause-refused : goal.fields-returns-in_err-next-clause-refused
fields-returns-in_err-next-clause-refused t c = passed _ _ c.from_residual-in_err-next.ensures.1 c.in_err-next.ensures.refused (λ r h. fields_next_refused c.args.at c.commas.list c.commas.invariant.leads (c.sees-in-commas.ensures.yes c.commas-test.true) h)

pub fields-commas-preserved : goal.fields-commas-preserved
fields-commas-preserved t c = let p = c.in_ok-pushed-2.ensures.found in let m = c.commas.invariant.moves.on in let o = c.in_ok-next.ensures.moves.on in rw p (record {
  moves = record { on = omega (arith, m, o); within = c.in_ok-next.ensures.moves.within };
  leads = fields_more c.args.at c.in_ok-next.next.end c.commas.list c.commas.invariant.leads (c.sees-in-commas.ensures.yes c.commas-test.true) c.in_ok-next.ensures.found;
})

pub fields-returns-in_err-close-clause-refused : goal.fields-returns-in_err-close-clause-refused
fields-returns-in_err-close-clause-refused t c = passed _ _ c.from_residual-in_err-close.ensures.1 c.in_err-close.ensures.refused (λ r h. fields_open c.args.at c.commas.list c.commas.invariant.leads (c.sees-in-commas.ensures.no c.commas-test.false) h)

pub fields-returns-clause-found : goal.fields-returns-clause-found
fields-returns-clause-found t c = fields_done c.args.at c.commas.list c.commas.invariant.leads c.in_ok-close.ensures.found

-- ---- row_field

pub row_field-returns-in_err-name-clause-refused : goal.row_field-returns-in_err-name-clause-refused
row_field-returns-in_err-name-clause-refused t c = passed _ _ c.from_residual.ensures.1 c.in_err-name.ensures.refused (λ r h. name_refused c.args.tokens.now c.args.at (h _))

pub row_field-returns-in_err-value-clause-refused : goal.row_field-returns-in_err-value-clause-refused
row_field-returns-in_err-value-clause-refused t c = passed _ _ c.from_residual-in_err-value.ensures.1 c.in_err-value.ensures.refused (λ r h. value_refused c.args.tokens.now c.args.at (c.in_ok-name.ensures.found _) (c.sees.ensures.yes c.if-sees.true) h)

pub row_field-returns-in_err-made-clause-refused : goal.row_field-returns-in_err-made-clause-refused
row_field-returns-in_err-made-clause-refused t c = passed _ _ c.from_residual-in_err-made.ensures.1 c.in_err-made.ensures.refused (λ r h. given_refused c.args.tokens.now c.args.at (c.in_ok-name.ensures.found _) (c.sees.ensures.yes c.if-sees.true) c.in_ok-value.ensures.found h.0 h.1)

pub row_field-returns-in_ok-made-clause-found : goal.row_field-returns-in_ok-made-clause-found
row_field-returns-in_ok-made-clause-found t c = let e = c.in_ok-made.ensures.found in let e0 = e.0 in let e1 = e.1 in rw (e0, e1) (given_read c.args.tokens.now c.args.at (c.in_ok-name.ensures.found _) (c.sees.ensures.yes c.if-sees.true) c.in_ok-value.ensures.found e.2)

pub row_field-returns-in_err-made-2-clause-refused : goal.row_field-returns-in_err-made-2-clause-refused
row_field-returns-in_err-made-2-clause-refused t c = passed _ _ c.from_residual-in_err-made-2.ensures.1 c.in_err-made-2.ensures.refused (λ r h. bare_refused c.args.tokens.now c.args.at (c.in_ok-name.ensures.found _) (c.sees.ensures.no c.if-sees.false) h.0 h.1)

pub row_field-returns-in_ok-made-2-clause-found : goal.row_field-returns-in_ok-made-2-clause-found
row_field-returns-in_ok-made-2-clause-found t c = let e = c.in_ok-made-2.ensures.found in let e0 = e.0 in let e1 = e.1 in rw (e0, e1) (bare_read c.args.tokens.now c.args.at (c.in_ok-name.ensures.found _) (c.sees.ensures.no c.if-sees.false) e.2)

-- ---- record_field

pub record_field-returns-in_err-name-clause-refused : goal.record_field-returns-in_err-name-clause-refused
record_field-returns-in_err-name-clause-refused t c = passed _ _ c.from_residual.ensures.1 c.in_err-name.ensures.refused (λ r h. key_refused c.args.tokens.now c.args.at (h _))

pub record_field-returns-in_err-begin-clause-refused : goal.record_field-returns-in_err-begin-clause-refused
record_field-returns-in_err-begin-clause-refused t c = passed _ _ c.from_residual-in_err-begin.ensures.1 c.in_err-begin.ensures.refused (λ r h. colon_refused c.args.tokens.now c.args.at (c.in_ok-name.ensures.found _) h)

pub record_field-returns-in_err-value-clause-refused : goal.record_field-returns-in_err-value-clause-refused
record_field-returns-in_err-value-clause-refused t c = passed _ _ c.from_residual-in_err-value.ensures.1 c.in_err-value.ensures.refused (λ r h. type_refused c.args.tokens.now c.args.at (c.in_ok-name.ensures.found _) c.in_ok-begin.ensures.found h)

pub record_field-returns-clause-found : goal.record_field-returns-clause-found
record_field-returns-clause-found t c = let e = c.in_record.ensures.tree in let f = c.in_record.ensures.end in rw (e, f) (field_read c.args.tokens.now c.args.at c.in_ok-value.value.end (c.in_ok-name.ensures.found _) c.in_ok-begin.ensures.found c.in_ok-value.ensures.found)
