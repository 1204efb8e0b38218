use Rattle.std.specs.List.{AllByRecursion}
use Rattle.std.proofs.Common.{refl, arith, sym, ◌∙◌, ◌+◌, ◌-◌, ◌*◌, ◌≡◌, ◌≤◌, true, false, drop, length, subst}
use Rattle.std.proofs.lemmas.List.{nil_from_length}
use Rattle.ur_parse_rules.specs.Rules.{nested}
use Rattle.ur_parse_rules.specs.Places.{Moves}
use Rattle.ur_parse_rules.proofs.Steps.{passed, made, made_deep, at_limit}
use Rattle.ur_parse_rules.proofs.Places.{mark_moves, name_moves, moves_on, contradicted}
use Rattle.ur_parse_con.proofs.Binders.{stays_on}
use Rattle.ur_parse_exp_parts.specs.Begins.{NoneOpens}
use Rattle.ur_parse_exp_parts.specs.Lines.{ended}
use Rattle.ur_parse_exp_parts.proofs.Levels.{group_first, group_more, group_refused, group_done, level_ends, sign_begins, right_refused, right_read}
use Rattle.ur_parse_exp_parts.proofs.Levels as levels
use Rattle.ur_parse_exp_parts.proofs.Shaping.{shape_stands}
use Rattle.ur_parse_exp.specs.Codes.{holds, nests, CodesRead, IsKnown, NoneRead}
use Rattle.ur_parse_exp.specs.Lists.{first}
use Rattle.ur_parse_exp.proofs.Ranks.{lower}
use Rattle.ur_parse_exp.proofs.Operands as operands
use Rattle.ur_parse_exp.proofs.Comparisons.{comparison_first, comparison_plain, comparison_right, comparison_chain, comparison_read}
use Rattle.ur_parse_exp.proofs.Consing as consing
use Rattle.ur_parse_exp.proofs.Applying as applying
use Rattle.ur_parse_exp.proofs.Sequences as sequences
use Rattle.ur_parse_exp.proofs.Lines as lines
use Rattle.ur_parse_exp.proofs.ChoiceRules as choices
use Rattle.ur_parse_exp.proofs.SignRules as signs
use Rattle.ur_parse_exp.proofs.Branches as branched
use Rattle.ur_parse_exp.proofs.Records as fields
use Rattle.ur_parse_exp.proofs.Posts as posts
use Rattle.ur_parse_exp.proofs.Bases as bases
use Rattle.ur_parse_exp.proofs.Heads as heads
use Rattle.ur_parse_exp.proofs.Cookies as cookies
use Rattle.ur_parse_exp.proofs.Coding as coding
use Rattle.ur_parse_exp.proofs.Markups as markups
use Rattle.ur_parse_exp.proofs.Querying as tables
use Rattle.ur_parse_exp.proofs.Skeletons as skeletons
use Rattle.ur_parse_exp.proofs.Forming as forms
use Rattle.ur_parse_exp.proofs.+exp.Goals as goal

-- ---- exp

pub line::exp-returns-then-depth-eq0-clause-refused : goal.line::exp-returns-then-depth-eq0-clause-refused
line::exp-returns-then-depth-eq0-clause-refused t c = made_deep _ c.too_deep.ensures (λ r s. nested s (at_limit (omega arith) refl))

pub line::exp-returns-in_err-binder-clause-refused : goal.line::exp-returns-in_err-binder-clause-refused
line::exp-returns-in_err-binder-clause-refused t c = passed _ _ c.from_residual.ensures.1 c.in_err-binder.ensures.refused (λ r h. h (c.args.depth - 1) c.args.depth (omega arith))

pub line::exp-returns-in_err-first-clause-refused : goal.line::exp-returns-in_err-first-clause-refused
line::exp-returns-in_err-first-clause-refused t c = passed _ _ c.from_residual-in_err-first.ensures.1 c.in_err-first.ensures.refused (λ r h. sequences.first_refused (c.args.depth - 1) (omega arith) c.args.tokens.now c.args.at c.in_ok-binder.begin c.in_ok-binder.binder c.in_ok-binder.ensures.found h)

pub line::exp-returns-in_err-begin-clause-refused : goal.line::exp-returns-in_err-begin-clause-refused
line::exp-returns-in_err-begin-clause-refused t c = passed _ _ c.from_residual-in_err-begin.ensures.1 c.in_err-begin.ensures.refused (λ r h. sequences.semicolon_missing (c.args.depth - 1) (omega arith) c.args.tokens.now c.args.at c.in_ok-binder.begin c.in_ok-first.ensures.found c.in_ok-binder.binder c.in_ok-binder.ensures.found h)

pub line::exp-returns-in_err-second-clause-refused : goal.line::exp-returns-in_err-second-clause-refused
line::exp-returns-in_err-second-clause-refused t c = passed _ _ c.from_residual-in_err-second.ensures.1 c.in_err-second.ensures.refused (λ r h. sequences.second_refused (c.args.depth - 1) (omega arith) c.args.tokens.now c.args.at c.in_ok-binder.begin c.in_ok-first.ensures.found c.in_ok-begin.ensures.found c.in_ok-binder.binder c.in_ok-binder.ensures.found h)

pub line::exp-returns-in_ok-made-clause-found : goal.line::exp-returns-in_ok-made-clause-found
line::exp-returns-in_ok-made-clause-found t c = let e0 = c.in_ok-made.ensures.found.0 in let e1 = c.in_ok-made.ensures.found.1 in let s = c.span-covered.ensures in
    let m : Moves c.args.tokens.now c.args.at c.in_ok-second.second.end = moves_on c.in_ok-binder.ensures.moves (moves_on c.in_ok-first.ensures.moves (moves_on (mark_moves c.in_ok-begin.ensures.found) c.in_ok-second.ensures.moves)) in
    rw (e0, e1, s) (sequences.bind_read (c.args.depth - 1) (omega arith) c.args.tokens.now c.args.at c.in_ok-binder.begin c.in_ok-first.ensures.found c.in_ok-begin.ensures.found c.in_ok-binder.binder c.in_ok-second.second.end c.in_ok-binder.ensures.found m c.in_ok-second.ensures.found)

pub line::exp-returns-in_err-first-2-clause-refused : goal.line::exp-returns-in_err-first-2-clause-refused
line::exp-returns-in_err-first-2-clause-refused t c = passed _ _ c.from_residual-in_err-first-2.ensures.1 c.in_err-first-2.ensures.refused (λ r h. sequences.line_refused (c.args.depth - 1) (omega arith) (c.sees_binding.ensures.no c.if-sees_binding.false) h)

pub line::exp-returns-in_err-second-2-clause-refused : goal.line::exp-returns-in_err-second-2-clause-refused
line::exp-returns-in_err-second-2-clause-refused t c = passed _ _ c.from_residual-in_err-second-2.ensures.1 c.in_err-second-2.ensures.refused (λ r h. sequences.next_refused (c.args.depth - 1) (omega arith) (c.sees_binding.ensures.no c.if-sees_binding.false) c.in_ok-first-2.ensures.found (c.sees.ensures.yes c.if-sees.true) h)

pub line::exp-returns-in_ok-made-2-clause-found : goal.line::exp-returns-in_ok-made-2-clause-found
line::exp-returns-in_ok-made-2-clause-found t c = let e0 = c.in_ok-made-2.ensures.found.0 in let e1 = c.in_ok-made-2.ensures.found.1 in let s = c.span-covered-then-sees.ensures in
    let m : Moves c.args.tokens.now c.args.at c.in_ok-second-2.second.end = moves_on c.in_ok-first-2.ensures.moves (moves_on (mark_moves (c.sees.ensures.yes c.if-sees.true)) c.in_ok-second-2.ensures.moves) in
    rw (e0, e1, s) (sequences.sequence_read (c.args.depth - 1) (omega arith) c.in_ok-first-2.ensures.found c.in_ok-second-2.second.end m (c.sees.ensures.yes c.if-sees.true) c.in_ok-second-2.ensures.found)

pub line::exp-returns-then-sees-2-clause-refused : goal.line::exp-returns-then-sees-2-clause-refused
line::exp-returns-then-sees-2-clause-refused t c = made _ c.unexpected.ensures (λ r s. sequences.arrow_behind (c.args.depth - 1) (omega arith) (c.sees_binding.ensures.no c.if-sees_binding.false) c.in_ok-first-2.ensures.found s (c.sees.ensures.no c.if-sees.false) (c.sees-else-sees.ensures.yes c.if-sees-2.true))

pub line::exp-returns-else-sees-2-clause-found : goal.line::exp-returns-else-sees-2-clause-found
line::exp-returns-else-sees-2-clause-found t c = sequences.alone_read (c.args.depth - 1) (omega arith) c.in_ok-first-2.ensures.found c.in_ok-first-2.ensures.moves (c.sees.ensures.no c.if-sees.false) (c.sees-else-sees.ensures.no c.if-sees-2.false)

-- ---- line

pub line::line-unconditional-requires : goal.line::line-unconditional-requires
line::line-unconditional-requires t c = (omega (arith, c.decreases), c.sees.ensures.no c.if-sees.false)

-- ---- conditional

pub line::conditional-choices-init : goal.line::conditional-choices-init
line::conditional-choices-init t c = let e = c.new-before.ensures in record { start = omega arith; chain = rw e choices.choice_start }

pub line::conditional-tested-requires : goal.line::conditional-tested-requires
line::conditional-tested-requires t c = let s = c.choices.invariant.start in (omega (arith, c.decreases, s), c.sees.ensures.yes c.choices-test.true)

pub line::conditional-returns-in_err-one-clause-refused : goal.line::conditional-returns-in_err-one-clause-refused
line::conditional-returns-in_err-one-clause-refused t c = passed _ _ c.from_residual.ensures.1 c.in_err-one.ensures.refused
    (λ r h. c.choices.invariant.chain.refused r h)

pub line::conditional-choices-preserved : goal.line::conditional-choices-preserved
line::conditional-choices-preserved t c = let s = c.choices.invariant.start in let p = c.in_ok-pushed.ensures.found in let m = choices.choice_moves
    c.args.tokens.now c.choices.begin c.in_ok-one.next c.in_ok-one.one c.in_ok-one.ensures.found in record {
      start = omega (arith, s, m);
      chain = rw p (choices.choice_more c.args.tokens.now c.args.at c.choices.begin c.in_ok-one.next c.choices.before c.in_ok-one.one c.choices.invariant.chain
          c.in_ok-one.ensures.found);
    }

pub line::conditional-choices-smaller : goal.line::conditional-choices-smaller
line::conditional-choices-smaller t c = let m = choices.choice_moves c.args.tokens.now c.choices.begin c.in_ok-one.next c.in_ok-one.one
    c.in_ok-one.ensures.found in let b = (c.sees.ensures.yes c.choices-test.true).at.below in
    omega (arith, m, b)

pub line::conditional-unconditional-requires : goal.line::conditional-unconditional-requires
line::conditional-unconditional-requires t c = let s = c.choices.invariant.start in (omega (arith, c.decreases, s), c.sees.ensures.no c.choices-test.false)

pub line::conditional-returns-in_err-last-clause-refused : goal.line::conditional-returns-in_err-last-clause-refused
line::conditional-returns-in_err-last-clause-refused t c = passed _ _ c.from_residual-in_err-last.ensures.1 c.in_err-last.ensures.refused
    (λ r h. c.choices.invariant.chain.refused r h)

pub line::conditional-returns-clause-moves : goal.line::conditional-returns-clause-moves
line::conditional-returns-clause-moves t c = let s = c.choices.invariant.start in let m = c.in_ok-last.ensures.moves in let o = m.on in let e =
    c.in_ok-made.ensures.found.1 in rw e (record { on = omega (arith, s, o); within = m.within })

pub line::conditional-returns-clause-found : goal.line::conditional-returns-clause-found
line::conditional-returns-clause-found t c = let e0 = c.in_ok-made.ensures.found.0 in let e1 = c.in_ok-made.ensures.found.1 in let s = c.span-covered.ensures in
    rw (e0, e1, s) (choices.choice_done c.args.tokens.now c.args.at c.choices.begin c.in_ok-last.last.end c.choices.before (ended c.in_ok-last.last.tree)
    c.in_ok-last.ensures.moves c.choices.invariant.chain c.in_ok-last.ensures.found)

-- ---- tested

pub line::tested-returns-in_err-test-clause-refused : goal.line::tested-returns-in_err-test-clause-refused
line::tested-returns-in_err-test-clause-refused t c = passed _ _ c.from_residual.ensures.1 c.in_err-test.ensures.refused
    (λ r h. lines.test_refused c.requires h)

pub line::tested-returns-in_err-begin-clause-refused : goal.line::tested-returns-in_err-begin-clause-refused
line::tested-returns-in_err-begin-clause-refused t c = passed _ _ c.from_residual-in_err-begin.ensures.1 c.in_err-begin.ensures.refused
    (λ r h. lines.then_missing c.requires c.in_ok-test.ensures.found h)

pub line::tested-returns-in_err-first-clause-refused : goal.line::tested-returns-in_err-first-clause-refused
line::tested-returns-in_err-first-clause-refused t c = passed _ _ c.from_residual-in_err-first.ensures.1 c.in_err-first.ensures.refused
    (λ r h. lines.first_refused c.requires c.in_ok-test.ensures.found c.in_ok-begin.ensures.found h)

pub line::tested-returns-in_err-next-clause-refused : goal.line::tested-returns-in_err-next-clause-refused
line::tested-returns-in_err-next-clause-refused t c = passed _ _ c.from_residual-in_err-next.ensures.1 c.in_err-next.ensures.refused
    (λ r h. lines.else_missing c.requires c.in_ok-test.ensures.found c.in_ok-begin.ensures.found c.in_ok-first.ensures.found h)

pub line::tested-returns-clause-found : goal.line::tested-returns-clause-found
line::tested-returns-clause-found t c = record {
  middle = c.in_ok-test.test.end;
  begin = c.in_ok-begin.begin;
  end = c.in_ok-first.first.end;
  mark = c.requires;
  test = c.in_ok-test.ensures.found;
  then_at = c.in_ok-begin.ensures.found;
  first = c.in_ok-first.ensures.found;
  else_at = c.in_ok-next.ensures.found;
  moves = moves_on (mark_moves c.requires) (moves_on c.in_ok-test.ensures.moves (moves_on (mark_moves c.in_ok-begin.ensures.found)
      c.in_ok-first.ensures.moves));
  span = c.span-covered.ensures;
}

-- ---- unconditional

pub line::unconditional-returns-in_err-made-clause-refused : goal.line::unconditional-returns-in_err-made-clause-refused
line::unconditional-returns-in_err-made-clause-refused t c = passed _ _ c.from_residual.ensures.1 c.in_err-made.ensures.refused
    (λ r h. lines.lambda_refused c.args.tokens.now c.args.at (c.sees.ensures.yes c.if-sees.true) h)

pub line::unconditional-returns-in_ok-made-clause-found : goal.line::unconditional-returns-in_ok-made-clause-found
line::unconditional-returns-in_ok-made-clause-found t c = lines.lambda_read c.args.tokens.now c.args.at c.in_ok-made.made.end c.in_ok-made.ensures.found

pub line::unconditional-returns-in_err-scrutinee-clause-refused : goal.line::unconditional-returns-in_err-scrutinee-clause-refused
line::unconditional-returns-in_err-scrutinee-clause-refused t c = passed _ _ c.from_residual-in_err-scrutinee.ensures.1 c.in_err-scrutinee.ensures.refused
    (λ r h. lines.scrutinee_refused (c.sees-else-sees.ensures.yes c.if-sees-2.true) h)

pub line::unconditional-returns-in_err-begin-clause-refused : goal.line::unconditional-returns-in_err-begin-clause-refused
line::unconditional-returns-in_err-begin-clause-refused t c = passed _ _ c.from_residual-in_err-begin.ensures.1 c.in_err-begin.ensures.refused
    (λ r h. lines.of_missing (c.sees-else-sees.ensures.yes c.if-sees-2.true) c.in_ok-scrutinee.scrutinee.end c.in_ok-scrutinee.ensures.found h)

pub line::unconditional-returns-in_err-first-clause-refused : goal.line::unconditional-returns-in_err-first-clause-refused
line::unconditional-returns-in_err-first-clause-refused t c = passed _ _ c.from_residual-in_err-first.ensures.1 c.in_err-first.ensures.refused
    (λ r h. lines.bar_refused (c.sees-else-sees.ensures.yes c.if-sees-2.true) c.in_ok-scrutinee.scrutinee.end c.in_ok-scrutinee.ensures.found
    c.in_ok-begin.ensures.found (h _))

pub line::unconditional-returns-in_err-list-clause-refused : goal.line::unconditional-returns-in_err-list-clause-refused
line::unconditional-returns-in_err-list-clause-refused t c = passed _ _ c.from_residual-in_err-list.ensures.1 c.in_err-list.ensures.refused
    (λ r h. lines.branches_refused (c.sees-else-sees.ensures.yes c.if-sees-2.true) c.in_ok-scrutinee.scrutinee.end c.in_ok-scrutinee.ensures.found
    c.in_ok-begin.ensures.found c.in_ok-first.first (c.in_ok-first.ensures.found _) h)

pub line::unconditional-returns-in_ok-made-2-clause-found : goal.line::unconditional-returns-in_ok-made-2-clause-found
line::unconditional-returns-in_ok-made-2-clause-found t c = let e0 = c.in_ok-made-2.ensures.exp in let e1 = c.in_ok-made-2.ensures.takes.0 in let e2 =
    c.in_ok-made-2.ensures.takes.1 in let e3 = c.in_ok-made-2.ensures.end in let s = c.span-covered.ensures in
    let m : Moves c.args.tokens.now c.args.at c.in_ok-list.list.end = moves_on (stays_on (moves_on (mark_moves (c.sees-else-sees.ensures.yes
    c.if-sees-2.true)) (moves_on c.in_ok-scrutinee.ensures.moves (mark_moves c.in_ok-begin.ensures.found))) c.in_ok-first.ensures.stays)
    c.in_ok-list.ensures.moves in
    rw (e0, e1, e2, e3, s) (lines.case_read (c.sees-else-sees.ensures.yes c.if-sees-2.true) c.in_ok-scrutinee.scrutinee.end c.in_ok-scrutinee.ensures.found
    c.in_ok-begin.ensures.found c.in_ok-first.first (c.in_ok-first.ensures.found _) c.in_ok-list.list.end m c.in_ok-list.ensures.found)

pub line::unconditional-returns-in_err-tree-clause-refused : goal.line::unconditional-returns-in_err-tree-clause-refused
line::unconditional-returns-in_err-tree-clause-refused t c = passed _ _ c.from_residual-in_err-tree.ensures.1 c.in_err-tree.ensures.refused
    (λ r h. lines.left_refused c.args.tokens.now c.args.at c.requires (c.sees.ensures.no c.if-sees.false) (c.sees-else-sees.ensures.no c.if-sees-2.false) h)

pub line::unconditional-returns-in_ok-tree-clause-found : goal.line::unconditional-returns-in_ok-tree-clause-found
line::unconditional-returns-in_ok-tree-clause-found t c = let e = c.closed.ensures.tree in let f = c.closed.ensures.end in rw (e, f)
    (lines.left_read c.args.tokens.now c.args.at c.in_ok-tree.tree.end c.in_ok-tree.ensures.found)

-- ---- lambda

pub line::lambda-returns-in_err-body-clause-refused : goal.line::lambda-returns-in_err-body-clause-refused
line::lambda-returns-in_err-body-clause-refused t c = passed _ _ c.from_residual-in_err-body.ensures.1 c.in_err-body.ensures.refused (λ r h. lines.body_refused c.in_ok-params.ensures.found h)

pub line::lambda-returns-clause-found : goal.line::lambda-returns-clause-found
line::lambda-returns-clause-found t c = let e0 = c.in_ok-made.ensures.found.0 in let e1 = c.in_ok-made.ensures.found.1 in let s = c.span-covered.ensures in
    rw (e0, e1, s) (lines.fn_read c.in_ok-params.ensures.found c.in_ok-body.body.end (moves_on c.in_ok-params.ensures.moves c.in_ok-body.ensures.moves) c.in_ok-body.ensures.found)

-- ---- branches

pub line::branches-bars-init : goal.line::branches-bars-init
line::branches-bars-init t c = let e = c.new.ensures in record { moves = c.in_ok-list.ensures.moves; branched = branched.branched_first (rw e at c.in_ok-list.ensures.found) }

pub line::branches-returns-in_err-list-2-clause-refused : goal.line::branches-returns-in_err-list-2-clause-refused
line::branches-returns-in_err-list-2-clause-refused t c = passed _ _ c.from_residual-in_err-list-2.ensures.1 c.in_err-list-2.ensures.refused (λ r h. branched.branched_refused c.bars.invariant.branched (c.sees.ensures.yes c.bars-test.true) h)

pub line::branches-bars-preserved : goal.line::branches-bars-preserved
line::branches-bars-preserved t c = record {
  moves = moves_on c.bars.invariant.moves (moves_on (mark_moves (c.sees.ensures.yes c.bars-test.true)) c.in_ok-list-2.ensures.moves);
  branched = branched.branched_more c.bars.invariant.branched (c.sees.ensures.yes c.bars-test.true) c.in_ok-list-2.ensures.found;
}

pub line::branches-returns-clause-found : goal.line::branches-returns-clause-found
line::branches-returns-clause-found t c = branched.branched_done c.bars.invariant.branched (c.sees.ensures.no c.bars-test.false)

pub line::branch-returns-in_err-pat-clause-refused : goal.line::branch-returns-in_err-pat-clause-refused
line::branch-returns-in_err-pat-clause-refused t c = passed _ _ c.from_residual.ensures.1 c.in_err-pat.ensures.refused (λ r h. branched.pattern_refused c.args.tokens.now c.args.at (h _))

pub line::branch-returns-in_err-begin-clause-refused : goal.line::branch-returns-in_err-begin-clause-refused
line::branch-returns-in_err-begin-clause-refused t c = passed _ _ c.from_residual-in_err-begin.ensures.1 c.in_err-begin.ensures.refused (λ r h. branched.arrow_missing c.args.tokens.now c.args.at c.in_ok-pat.pat.end (c.in_ok-pat.ensures.found _) h)

pub line::branch-returns-in_err-body-clause-refused : goal.line::branch-returns-in_err-body-clause-refused
line::branch-returns-in_err-body-clause-refused t c = passed _ _ c.from_residual-in_err-body.ensures.1 c.in_err-body.ensures.refused (λ r h. branched.body_refused c.args.tokens.now c.args.at c.in_ok-pat.pat.end (c.in_ok-pat.ensures.found _) c.in_ok-begin.ensures.found h)

pub line::branch-returns-clause-found : goal.line::branch-returns-clause-found
line::branch-returns-clause-found t c = let e0 = c.in_ok-made.ensures.found.0 in let e1 = c.in_ok-made.ensures.found.1 in rw e1 (record {
  of = c.in_ok-pat.pat.tree;
  body = ended c.in_ok-body.body.tree;
  middle = c.in_ok-pat.pat.end;
  begin = c.in_ok-begin.begin;
  pattern = c.in_ok-pat.ensures.found _;
  arrow = c.in_ok-begin.ensures.found;
  read = c.in_ok-body.ensures.found;
  is = e0;
})

-- ---- left and step

pub level::left-returns-in_err-whole-clause-refused : goal.level::left-returns-in_err-whole-clause-refused
level::left-returns-in_err-whole-clause-refused t c = passed _ _ c.from_residual.ensures.1 c.in_err-whole.ensures.refused (λ r h. levels.operand_refused c.args.tokens.now c.args.at h)

pub level::left-steps-init : goal.level::left-steps-init
level::left-steps-init t c = record { moves = c.in_ok-whole.ensures.moves; group = group_first; stops = c.in_ok-whole.ensures.found.stops }

pub level::left-returns-in_err-whole-2-clause-refused : goal.level::left-returns-in_err-whole-2-clause-refused
level::left-returns-in_err-whole-2-clause-refused t c = passed _ _ c.from_residual-in_err-whole-2.ensures.1 c.in_err-whole-2.ensures.refused (λ r h. group_refused c.steps.invariant.group (sign_begins c.args.tokens.now c.steps.whole.end c.args.level c.in-Some.ensures) c.in_ok-whole.ensures.found h)

pub level::left-steps-preserved : goal.level::left-steps-preserved
level::left-steps-preserved t c = let o = moves_on c.steps.invariant.moves c.in_ok-whole-2.ensures.moves in record {
  moves = o;
  group = group_more c.in_ok-whole.ensures.moves o.on c.in_ok-whole-2.ensures.moves c.steps.invariant.group (sign_begins c.args.tokens.now c.steps.whole.end c.args.level c.in-Some.ensures) c.in_ok-whole-2.ensures.found;
  stops = c.in_ok-whole-2.ensures.found.read.stops;
}

pub level::left-returns-clause-found : goal.level::left-returns-clause-found
level::left-returns-clause-found t c = group_done c.in_ok-whole.ensures.moves c.steps.invariant.moves c.steps.invariant.group (level_ends c.args.tokens.now c.steps.whole.end c.args.level c.in_default.ensures c.steps.invariant.stops) c.in_ok-whole.ensures.found

-- ---- comparison

pub level::comparison-returns-in_err-first-clause-refused : goal.level::comparison-returns-in_err-first-clause-refused
level::comparison-returns-in_err-first-clause-refused t c = passed _ _ c.from_residual.ensures.1 c.in_err-first.ensures.refused (λ r h. comparison_first c.args.depth c.args.tokens.now c.args.at h)

pub level::comparison-returns-in-None-clause-found : goal.level::comparison-returns-in-None-clause-found
level::comparison-returns-in-None-clause-found t c = comparison_plain c.args.depth c.args.tokens.now c.args.at c.in_ok-first.first.end c.in_ok-first.ensures.moves c.in_ok-first.ensures.found c.in-None.ensures

pub level::comparison-returns-in_err-second-in-Some-clause-refused : goal.level::comparison-returns-in_err-second-in-Some-clause-refused
level::comparison-returns-in_err-second-in-Some-clause-refused t c = passed _ _ c.from_residual-in_err-second-in-Some.ensures.1 c.in_err-second-in-Some.ensures.refused (λ r h. comparison_right c.args.depth c.args.tokens.now c.args.at c.in_ok-first.first.end c.in_ok-first.first.end c.in_ok-first.ensures.found c.in-Some.ensures h)

pub level::comparison-returns-in-Some-comparison_at-clause-refused : goal.level::comparison-returns-in-Some-comparison_at-clause-refused
level::comparison-returns-in-Some-comparison_at-clause-refused t c = made _ c.unexpected.ensures (λ r s. comparison_chain c.args.depth c.args.tokens.now c.args.at c.in_ok-first.first.end c.in_ok-second-in-Some.second.end c.in_ok-first.ensures.found c.in-Some.ensures c.in_ok-second-in-Some.ensures.found s c.in-Some-comparison_at.ensures)

pub level::comparison-returns-in_ok-made-in-None-comparison_at-clause-found : goal.level::comparison-returns-in_ok-made-in-None-comparison_at-clause-found
level::comparison-returns-in_ok-made-in-None-comparison_at-clause-found t c = let e0 = c.in_ok-made-in-None-comparison_at.ensures.found.0 in let e1 = c.in_ok-made-in-None-comparison_at.ensures.found.1 in let s = c.span-covered.ensures in
    let m : Moves c.args.tokens.now c.args.at c.in_ok-second-in-Some.second.end = moves_on c.in_ok-first.ensures.moves (moves_on (mark_moves c.in-Some.ensures.1) c.in_ok-second-in-Some.ensures.moves) in
    rw (e0, e1, s) (comparison_read c.args.depth c.args.tokens.now c.args.at c.in_ok-first.first.end c.in_ok-second-in-Some.second.end c.in_ok-first.ensures.found c.in-Some.ensures c.in_ok-second-in-Some.ensures.found m c.in-None-comparison_at.ensures)

-- ---- cons

pub level::cons-returns-in_err-last-clause-refused : goal.level::cons-returns-in_err-last-clause-refused
level::cons-returns-in_err-last-clause-refused t c = passed _ _ c.from_residual.ensures.1 c.in_err-last.ensures.refused (λ r h. consing.cons_first c.args.tokens.now c.args.at h)

pub level::cons-links-init : goal.level::cons-links-init
level::cons-links-init t c = let e = c.new-before.ensures in record { start = omega arith; last = c.in_ok-last.ensures.moves; read = c.in_ok-last.ensures.found; chain = rw e consing.cons_start }

pub level::cons-returns-in_err-next-clause-refused : goal.level::cons-returns-in_err-next-clause-refused
level::cons-returns-in_err-next-clause-refused t c = passed _ _ c.from_residual-in_err-next.ensures.1 c.in_err-next.ensures.refused (λ r h. c.links.invariant.chain.refused r (consing.link_refused c.args.tokens.now c.links.begin c.links.invariant.read (c.sees.ensures.yes c.links-test.true) (consing.cons_first c.args.tokens.now (c.links.last.end + 1) h)))

pub level::cons-links-preserved : goal.level::cons-links-preserved
level::cons-links-preserved t c = let s = c.links.invariant.start in let m = c.links.invariant.last.on in let p = c.in_ok-pushed.ensures.found in let k = c.span-covered.ensures in record {
  start = omega (arith, s, m);
  last = c.in_ok-next.ensures.moves;
  read = c.in_ok-next.ensures.found;
  chain = rw (p, k) (consing.cons_more c.args.tokens.now c.links.invariant.last (omega (arith, m)) c.links.invariant.chain c.links.invariant.read (c.sees.ensures.yes c.links-test.true));
}

pub level::cons-returns-clause-found : goal.level::cons-returns-clause-found
level::cons-returns-clause-found t c = let e0 = c.in_ok-made.ensures.found.0 in let e1 = c.in_ok-made.ensures.found.1 in let s = c.span-covered-2.ensures in
    rw (e0, e1, s) (consing.cons_done c.args.tokens.now c.links.invariant.last c.links.invariant.chain c.links.invariant.read (c.sees.ensures.no c.links-test.false))

-- ---- negative

pub level::negative-app-requires : goal.level::negative-app-requires
level::negative-app-requires t c = let s : c.args.at ≤ c.past_signs-first.result = signs.signs_on c.past_signs-first.ensures.signs in
    omega (arith, c.decreases, s)

pub level::negative-returns-in_err-inner-clause-refused : goal.level::negative-returns-in_err-inner-clause-refused
level::negative-returns-in_err-inner-clause-refused t c = let p = c.past_signs-first.ensures in
    passed _ _ c.from_residual.ensures.1 c.in_err-inner.ensures.refused (λ r h. signs.signs_refused c.args.depth p.signs (consing.plain_refused
    c.args.tokens.now c.past_signs-first.result p.end h))

pub level::negative-returns-clause-moves : goal.level::negative-returns-clause-moves
level::negative-returns-clause-moves t c = let e = c.in_ok-made.ensures.end in rw e
    (signs.behind_signs c.past_signs-first.ensures.signs c.in_ok-inner.ensures.moves)

pub level::negative-returns-clause-found : goal.level::negative-returns-clause-found
level::negative-returns-clause-found t c = let e = c.in_ok-made.ensures.end in
    rw e (c.in_ok-made.ensures.found c.args.depth (consing.plain_read c.args.tokens.now c.past_signs-first.result c.in_ok-inner.inner.end
    c.in_ok-inner.ensures.found))

-- ---- app

pub level::app-returns-in_err-function-clause-refused : goal.level::app-returns-in_err-function-clause-refused
level::app-returns-in_err-function-clause-refused t c = passed _ _ c.from_residual.ensures.1 c.in_err-function.ensures.refused (λ r h. applying.head_refused c.args.tokens.now c.args.at h)

pub level::app-arguments-init : goal.level::app-arguments-init
level::app-arguments-init t c = record { moves = c.in_ok-function.ensures.moves; args = applying.apply_first c.in_ok-function.ensures.found.stops }

pub level::app-returns-in_err-given-clause-refused : goal.level::app-returns-in_err-given-clause-refused
level::app-returns-in_err-given-clause-refused t c = passed _ _ c.from_residual-in_err-given.ensures.1 c.in_err-given.ensures.refused (λ r h. applying.apply_refused c.arguments.invariant.args (sym c.sees_argument.ensures ∙ c.arguments-test.true) c.in_ok-function.ensures.found h)

pub level::app-arguments-preserved : goal.level::app-arguments-preserved
level::app-arguments-preserved t c = let e0 = c.in_ok-function-2.ensures.found.0 in let e1 = c.in_ok-function-2.ensures.found.1 in let s = c.span-covered.ensures in let o = moves_on c.arguments.invariant.moves c.in_ok-given.ensures.moves in rw (e0, e1, s) (record {
  moves = o;
  args = applying.apply_more c.in_ok-function.ensures.moves o.on c.in_ok-given.ensures.moves c.arguments.invariant.args (sym c.sees_argument.ensures ∙ c.arguments-test.true) c.in_ok-given.ensures.found;
})

pub level::app-returns-clause-found : goal.level::app-returns-clause-found
level::app-returns-clause-found t c = applying.apply_done c.in_ok-function.ensures.moves c.arguments.invariant.moves c.arguments.invariant.args (sym c.sees_argument.ensures ∙ c.arguments-test.false) c.in_ok-function.ensures.found

-- ---- post

pub atom::post-returns-in_err-end-clause-refused : goal.atom::post-returns-in_err-end-clause-refused
atom::post-returns-in_err-end-clause-refused t c = passed _ _ c.from_residual.ensures.1 c.in_err-end.ensures.refused (λ r h. posts.nil_open c.args.depth c.args.first (c.sees.ensures.yes c.if-sees.true) h)

pub atom::post-returns-in_err-made-clause-refused : goal.atom::post-returns-in_err-made-clause-refused
atom::post-returns-in_err-made-clause-refused t c = passed _ _ c.from_residual-in_err-made.ensures.1 c.in_err-made.ensures.refused (λ r h. posts.nil_dots c.args.depth c.args.first (c.sees.ensures.yes c.if-sees.true) c.in_ok-end.ensures.found (h _))

pub atom::post-returns-in_ok-made-clause-found : goal.atom::post-returns-in_ok-made-clause-found
atom::post-returns-in_ok-made-clause-found t c = posts.nil_post c.args.depth c.args.first (c.sees.ensures.yes c.if-sees.true) c.in_ok-end.ensures.found c.in_ok-made.ensures.moves c.in_ok-made.ensures.found

pub atom::post-returns-in_err-inner-clause-refused : goal.atom::post-returns-in_err-inner-clause-refused
atom::post-returns-in_err-inner-clause-refused t c = passed _ _ c.from_residual-in_err-inner.ensures.1 c.in_err-inner.ensures.refused (λ r h. posts.base_refused c.args.depth c.args.first c.args.tokens.now c.args.at (sym c.sees_base.ensures ∙ c.if-sees_base.true) h)

pub atom::post-returns-in_err-made-3-clause-refused : goal.atom::post-returns-in_err-made-3-clause-refused
atom::post-returns-in_err-made-3-clause-refused t c = passed _ _ c.from_residual-in_err-made-3.ensures.1 c.in_err-made-3.ensures.refused (λ r h. posts.base_dots c.args.depth c.args.first c.args.tokens.now c.args.at (sym c.sees_base.ensures ∙ c.if-sees_base.true) c.in_ok-inner.inner.end c.in_ok-inner.ensures.found (h _))

pub atom::post-returns-in_ok-made-3-clause-found : goal.atom::post-returns-in_ok-made-3-clause-found
atom::post-returns-in_ok-made-3-clause-found t c = posts.base_post c.args.depth c.args.first c.in_ok-inner.inner.end c.in_ok-made-3.ensures.moves c.in_ok-inner.ensures.found c.in_ok-made-3.ensures.found

pub atom::post-returns-else-sees_base-clause-refused : goal.atom::post-returns-else-sees_base-clause-refused
atom::post-returns-else-sees_base-clause-refused t c = made _ c.unexpected.ensures (λ r s. posts.no_post c.args.depth c.args.first (c.sees.ensures.no c.if-sees.false) (c.sees_word_of.ensures.no c.if-sees_word_of.false) (sym c.sees_base.ensures ∙ c.if-sees_base.false) s)

pub atom::post-returns-in_err-name-clause-refused : goal.atom::post-returns-in_err-name-clause-refused
atom::post-returns-in_err-name-clause-refused t c = passed _ _ c.from_residual-in_err-name.ensures.1 c.in_err-name.ensures.refused (λ r h. contradicted (c.sees_word_of.ensures.yes c.if-sees_word_of.true) h.other)

pub atom::post-returns-in_err-made-2-clause-refused : goal.atom::post-returns-in_err-made-2-clause-refused
atom::post-returns-in_err-made-2-clause-refused t c = passed _ _ c.from_residual-in_err-made-2.ensures.1 c.in_err-made-2.ensures.refused (λ r h. let q = c.in_ok-name.ensures.found in let n = q.next in posts.capital_refused c.args.depth c.args.first (rw n at q) (h _))

pub atom::post-returns-in_ok-made-2-clause-found : goal.atom::post-returns-in_ok-made-2-clause-found
atom::post-returns-in_ok-made-2-clause-found t c = let q = c.in_ok-name.ensures.found in let n = q.next in posts.capital_post c.args.depth c.args.first (rw n at q) c.in_ok-made-2.ensures.moves c.in_ok-made-2.ensures.found

-- ---- head and its forms

pub atom::head-returns-in_err-made-in-None-clause-refused : goal.atom::head-returns-in_err-made-in-None-clause-refused
atom::head-returns-in_err-made-in-None-clause-refused t c = passed _ _ c.from_residual.ensures.1 c.in_err-made-in-None.ensures.refused (λ r h. heads.atom_refused c.args.depth c.args.tokens.now c.args.at (sym c.sees_post.ensures ∙ c.if-sees_post.true) h)

pub atom::head-returns-in_ok-made-in-None-clause-found : goal.atom::head-returns-in_ok-made-in-None-clause-found
atom::head-returns-in_ok-made-in-None-clause-found t c = heads.atom_read c.args.depth c.args.tokens.now c.args.at c.in_ok-made-in-None.made.end c.in_ok-made-in-None.ensures.found

pub atom::head-returns-else-sees_post-clause-refused : goal.atom::head-returns-else-sees_post-clause-refused
atom::head-returns-else-sees_post-clause-refused t c = made _ c.unexpected.ensures (λ r s. heads.no_head c.args.depth c.args.tokens.now c.args.at c.in-None.ensures (sym c.sees_post.ensures ∙ c.if-sees_post.false) s)

pub atom::worded-returns-in_err-inner-clause-refused : goal.atom::worded-returns-in_err-inner-clause-refused
atom::worded-returns-in_err-inner-clause-refused t c = passed _ _ c.from_residual.ensures.1 c.in_err-inner.ensures.refused (λ r h. heads.word_refused c.args.depth c.args.tokens.now c.args.at c.args.of c.requires.of h)

pub atom::worded-returns-clause-found : goal.atom::worded-returns-clause-found
atom::worded-returns-clause-found t c = let e0 = c.in_ok-made.ensures.found.0 in let e1 = c.in_ok-made.ensures.found.1 in let s = c.span-covered.ensures in let o = c.in_ok-inner.ensures.moves in let a = o.on in
    rw (e0, e1, s) (heads.word_form c.args.depth c.args.tokens.now c.args.at c.args.of c.in_ok-inner.inner.end c.requires.of (record { on = omega (arith, a); within = o.within }) c.in_ok-inner.ensures.found)

pub atom::fold-returns-in_err-opened-clause-refused : goal.atom::fold-returns-in_err-opened-clause-refused
atom::fold-returns-in_err-opened-clause-refused t c = passed _ _ c.from_residual.ensures.1 c.in_err-opened.ensures.refused (λ r h. heads.fold_open c.args.depth c.requires h)

pub atom::fold-returns-in_err-step-clause-refused : goal.atom::fold-returns-in_err-step-clause-refused
atom::fold-returns-in_err-step-clause-refused t c = passed _ _ c.from_residual-in_err-step.ensures.1 c.in_err-step.ensures.refused (λ r h. heads.fold_step c.args.depth c.requires c.in_ok-opened.ensures.found h)

pub atom::fold-returns-in_err-closed-clause-refused : goal.atom::fold-returns-in_err-closed-clause-refused
atom::fold-returns-in_err-closed-clause-refused t c = passed _ _ c.from_residual-in_err-closed.ensures.1 c.in_err-closed.ensures.refused (λ r h. heads.fold_closed c.args.depth c.requires c.in_ok-opened.ensures.found c.in_ok-step.step.end c.in_ok-step.ensures.found h)

pub atom::fold-returns-in_err-first-clause-refused : goal.atom::fold-returns-in_err-first-clause-refused
atom::fold-returns-in_err-first-clause-refused t c = passed _ _ c.from_residual-in_err-first.ensures.1 c.in_err-first.ensures.refused (λ r h. heads.fold_first c.args.depth c.requires c.in_ok-opened.ensures.found c.in_ok-step.step.end c.in_ok-step.ensures.found c.in_ok-closed.ensures.found h)

pub atom::fold-returns-in_err-second-clause-refused : goal.atom::fold-returns-in_err-second-clause-refused
atom::fold-returns-in_err-second-clause-refused t c = passed _ _ c.from_residual-in_err-second.ensures.1 c.in_err-second.ensures.refused (λ r h. heads.fold_second c.args.depth c.requires c.in_ok-opened.ensures.found c.in_ok-step.step.end c.in_ok-step.ensures.found c.in_ok-closed.ensures.found c.in_ok-first.first.end c.in_ok-first.ensures.found h)

pub atom::fold-returns-in_err-begin-clause-refused : goal.atom::fold-returns-in_err-begin-clause-refused
atom::fold-returns-in_err-begin-clause-refused t c = passed _ _ c.from_residual-in_err-begin.ensures.1 c.in_err-begin.ensures.refused (λ r h. heads.fold_row_open c.args.depth c.requires c.in_ok-opened.ensures.found c.in_ok-step.step.end c.in_ok-step.ensures.found c.in_ok-closed.ensures.found c.in_ok-first.first.end c.in_ok-first.ensures.found c.in_ok-second.second.end c.in_ok-second.ensures.found h)

pub atom::fold-returns-in_err-row-clause-refused : goal.atom::fold-returns-in_err-row-clause-refused
atom::fold-returns-in_err-row-clause-refused t c = passed _ _ c.from_residual-in_err-row.ensures.1 c.in_err-row.ensures.refused (λ r h. heads.fold_row c.args.depth c.requires c.in_ok-opened.ensures.found c.in_ok-step.step.end c.in_ok-step.ensures.found c.in_ok-closed.ensures.found c.in_ok-first.first.end c.in_ok-first.ensures.found c.in_ok-second.second.end c.in_ok-second.ensures.found c.in_ok-begin.ensures.found h)

pub atom::fold-returns-in_err-end-clause-refused : goal.atom::fold-returns-in_err-end-clause-refused
atom::fold-returns-in_err-end-clause-refused t c = passed _ _ c.from_residual-in_err-end.ensures.1 c.in_err-end.ensures.refused (λ r h. heads.fold_row_closed c.args.depth c.requires c.in_ok-opened.ensures.found c.in_ok-step.step.end c.in_ok-step.ensures.found c.in_ok-closed.ensures.found c.in_ok-first.first.end c.in_ok-first.ensures.found c.in_ok-second.second.end c.in_ok-second.ensures.found c.in_ok-begin.ensures.found c.in_ok-row.row.end c.in_ok-row.ensures.found h)

pub atom::fold-returns-in_err-absent-clause-refused : goal.atom::fold-returns-in_err-absent-clause-refused
atom::fold-returns-in_err-absent-clause-refused t c = passed _ _ c.from_residual-in_err-absent.ensures.1 c.in_err-absent.ensures.refused (λ r h. heads.fold_dotted c.args.depth c.requires c.in_ok-opened.ensures.found c.in_ok-step.step.end c.in_ok-step.ensures.found c.in_ok-closed.ensures.found c.in_ok-first.first.end c.in_ok-first.ensures.found c.in_ok-second.second.end c.in_ok-second.ensures.found c.in_ok-begin.ensures.found c.in_ok-row.row.end c.in_ok-row.ensures.found c.in_ok-end.ensures.found h.says h.is)

pub atom::fold-returns-clause-found : goal.atom::fold-returns-clause-found
atom::fold-returns-clause-found t c = let e0 = c.in_ok-made.ensures.found.0 in let e1 = c.in_ok-made.ensures.found.1 in let s = c.span-covered.ensures in
    let m : Moves c.args.tokens.now c.args.at c.in_ok-end.end = moves_on (mark_moves c.requires) (moves_on (mark_moves c.in_ok-opened.ensures.found) (moves_on c.in_ok-step.ensures.moves (moves_on (mark_moves c.in_ok-closed.ensures.found) (moves_on c.in_ok-first.ensures.moves (moves_on c.in_ok-second.ensures.moves (moves_on (mark_moves c.in_ok-begin.ensures.found) (moves_on c.in_ok-row.ensures.moves (mark_moves c.in_ok-end.ensures.found)))))))) in
    rw (e0, e1, s) (heads.fold_read c.args.depth c.requires c.in_ok-opened.ensures.found c.in_ok-step.step.end c.in_ok-step.ensures.found c.in_ok-closed.ensures.found c.in_ok-first.first.end c.in_ok-first.ensures.found c.in_ok-second.second.end c.in_ok-second.ensures.found c.in_ok-begin.ensures.found c.in_ok-row.row.end c.in_ok-row.ensures.found c.in_ok-end.ensures.found m c.in_ok-absent.ensures.found)

-- ---- argument

pub atom::argument-returns-in_err-inner-clause-refused : goal.atom::argument-returns-in_err-inner-clause-refused
atom::argument-returns-in_err-inner-clause-refused t c = passed _ _ c.from_residual-in_err-inner.ensures.1 c.in_err-inner.ensures.refused (λ r h. posts.arg_base_refused c.args.depth c.requires (c.sees.ensures.no c.if-sees.false) (c.sees-else-sees.ensures.no c.if-sees-2.false) h)

pub atom::argument-returns-in_err-made-2-clause-refused : goal.atom::argument-returns-in_err-made-2-clause-refused
atom::argument-returns-in_err-made-2-clause-refused t c = passed _ _ c.from_residual-in_err-made-2.ensures.1 c.in_err-made-2.ensures.refused (λ r h. posts.arg_dots_refused c.args.depth c.requires (c.sees.ensures.no c.if-sees.false) (c.sees-else-sees.ensures.no c.if-sees-2.false) c.in_ok-inner.inner.end c.in_ok-inner.ensures.found (h _))

pub atom::argument-returns-in_ok-made-2-clause-found : goal.atom::argument-returns-in_ok-made-2-clause-found
atom::argument-returns-in_ok-made-2-clause-found t c = let e = c.as_value-else-sees-2.ensures.tree in let f = c.as_value-else-sees-2.ensures.end in rw (e, f) (posts.arg_base_read c.args.depth c.in_ok-inner.inner.end c.in_ok-made-2.ensures.moves c.in_ok-inner.ensures.found c.in_ok-made-2.ensures.found)

pub atom::argument-returns-in_err-name-clause-refused : goal.atom::argument-returns-in_err-name-clause-refused
atom::argument-returns-in_err-name-clause-refused t c = passed _ _ c.from_residual-in_err-name.ensures.1 c.in_err-name.ensures.refused (λ r h. posts.arg_word_missing c.args.depth (c.sees-else-sees.ensures.yes c.if-sees-2.true) h)

pub atom::argument-returns-in_err-made-clause-refused : goal.atom::argument-returns-in_err-made-clause-refused
atom::argument-returns-in_err-made-clause-refused t c = passed _ _ c.from_residual-in_err-made.ensures.1 c.in_err-made.ensures.refused (λ r h. let q = c.in_ok-name.ensures.found in let n = q.next in posts.arg_word_refused c.args.depth (rw n at q) (h _))

pub atom::argument-returns-in_ok-made-clause-found : goal.atom::argument-returns-in_ok-made-clause-found
atom::argument-returns-in_ok-made-clause-found t c = let e = c.as_value.ensures.tree in let f = c.as_value.ensures.end in let q = c.in_ok-name.ensures.found in let n = q.next in rw (e, f) (posts.arg_word_read c.args.depth (rw n at q) c.in_ok-made.ensures.moves c.in_ok-made.ensures.found)

-- ---- base

pub atom::base-returns-in_err-made-clause-refused : goal.atom::base-returns-in_err-made-clause-refused
atom::base-returns-in_err-made-clause-refused t c = passed _ _ c.from_residual.ensures.1 c.in_err-made.ensures.refused (λ r h. h c.args.first)

pub atom::base-returns-in_ok-made-clause-found : goal.atom::base-returns-in_ok-made-clause-found
atom::base-returns-in_ok-made-clause-found t c = c.in_ok-made.ensures.found c.args.first

pub atom::base-returns-in_err-list-clause-refused : goal.atom::base-returns-in_err-list-clause-refused
atom::base-returns-in_err-list-clause-refused t c = passed _ _ c.from_residual-in_err-list.ensures.1 c.in_err-list.ensures.refused (λ r h. bases.record_refused c.args.depth c.args.first (c.sees-else-sees.ensures.yes c.if-sees-2.true) h)

pub atom::base-returns-in_ok-made-2-clause-found : goal.atom::base-returns-in_ok-made-2-clause-found
atom::base-returns-in_ok-made-2-clause-found t c = let e0 = c.in_ok-made-2.ensures.found.0 in let e1 = c.in_ok-made-2.ensures.found.1 in let s = c.span-covered.ensures in
    rw (e0, e1, s) (bases.record_read c.args.depth c.args.first (c.sees-else-sees.ensures.yes c.if-sees-2.true) c.in_ok-list.list.end (moves_on (mark_moves (c.sees-else-sees.ensures.yes c.if-sees-2.true)) c.in_ok-list.ensures.moves) c.in_ok-list.ensures.found)

pub atom::base-returns-in_err-made-3-clause-refused : goal.atom::base-returns-in_err-made-3-clause-refused
atom::base-returns-in_err-made-3-clause-refused t c = passed _ _ c.from_residual-in_err-made-3.ensures.1 c.in_err-made-3.ensures.refused (λ r h. h c.args.first)

pub atom::base-returns-in_ok-made-3-clause-found : goal.atom::base-returns-in_ok-made-3-clause-found
atom::base-returns-in_ok-made-3-clause-found t c = c.in_ok-made-3.ensures.found c.args.first

pub atom::base-returns-in_err-made-4-clause-refused : goal.atom::base-returns-in_err-made-4-clause-refused
atom::base-returns-in_err-made-4-clause-refused t c = passed _ _ c.from_residual-in_err-made-4.ensures.1 c.in_err-made-4.ensures.refused (λ r h. markups.open_refused c.args.depth c.args.first (c.sees-else-sees-3.ensures.yes c.if-sees-4.true) h)

pub atom::base-returns-in_ok-made-4-clause-found : goal.atom::base-returns-in_ok-made-4-clause-found
atom::base-returns-in_ok-made-4-clause-found t c = markups.markup_read c.args.depth c.args.first c.in_ok-made-4.ensures.moves c.in_ok-made-4.ensures.found

pub atom::base-returns-in_err-made-5-clause-refused : goal.atom::base-returns-in_err-made-5-clause-refused
atom::base-returns-in_err-made-5-clause-refused t c = passed _ _ c.from_residual-in_err-made-5.ensures.1 c.in_err-made-5.ensures.refused (λ r h. markups.empty_refused c.args.depth c.args.first (c.sees-else-sees-4.ensures.yes c.if-sees-5.true) h)

pub atom::base-returns-in_ok-made-5-clause-found : goal.atom::base-returns-in_ok-made-5-clause-found
atom::base-returns-in_ok-made-5-clause-found t c = markups.markup_read c.args.depth c.args.first c.in_ok-made-5.ensures.moves c.in_ok-made-5.ensures.found

pub atom::base-returns-in_err-made-6-clause-refused : goal.atom::base-returns-in_err-made-6-clause-refused
atom::base-returns-in_err-made-6-clause-refused t c = let o : NoneOpens c.args.tokens.now c.args.at = record { paren = c.sees.ensures.no c.if-sees.false; brace = c.sees-else-sees.ensures.no c.if-sees-2.false; value = c.sees-else-sees-2.ensures.no c.if-sees-3.false; xml = c.sees-else-sees-3.ensures.no c.if-sees-4.false; empty = c.sees-else-sees-4.ensures.no c.if-sees-5.false } in
    passed _ _ c.from_residual-in_err-made-6.ensures.1 (c.in_err-made-6.ensures.refused o) (λ r h. h _)

-- ---- parenthesized

pub atom::parenthesized-returns-then-sees-clause-found : goal.atom::parenthesized-returns-then-sees-clause-found
atom::parenthesized-returns-then-sees-clause-found t c = λ front. let e0 = c.in_ok-made.ensures.found.0 in let e1 = c.in_ok-made.ensures.found.1 in let s = c.span-covered.ensures in
    rw (e0, e1, s) (bases.unit_read c.args.depth front c.requires (moves_on (mark_moves c.requires) (mark_moves (c.sees.ensures.yes c.if-sees.true))) (c.sees.ensures.yes c.if-sees.true))

pub atom::parenthesized-returns-in_err-line-clause-refused : goal.atom::parenthesized-returns-in_err-line-clause-refused
atom::parenthesized-returns-in_err-line-clause-refused t c = passed _ _ c.from_residual-in_err-line.ensures.1 c.in_err-line.ensures.refused (λ r h front. bases.inner_refused c.args.depth front c.requires (c.sees.ensures.no c.if-sees.false) h)

pub atom::parenthesized-returns-in_err-end-clause-refused : goal.atom::parenthesized-returns-in_err-end-clause-refused
atom::parenthesized-returns-in_err-end-clause-refused t c = passed _ _ c.from_residual-in_err-end.ensures.1 c.in_err-end.ensures.refused (λ r h front. bases.inner_open c.args.depth front c.requires (c.sees.ensures.no c.if-sees.false) c.in_ok-line.line.end c.in_ok-line.ensures.found h)

pub atom::parenthesized-returns-clause-found : goal.atom::parenthesized-returns-clause-found
atom::parenthesized-returns-clause-found t c = λ front. let e = c.inner.ensures.tree in let f = c.inner.ensures.end in
    rw (e, f) (bases.inner_read c.args.depth front c.requires c.in_ok-line.line.end (moves_on (mark_moves c.requires) (moves_on c.in_ok-line.ensures.moves (mark_moves c.in_ok-end.ensures.found))) c.in_ok-line.ensures.found c.in_ok-end.ensures.found)

-- ---- fields

pub fields::fields-returns-then-sees-clause-found : goal.fields::fields-returns-then-sees-clause-found
fields::fields-returns-then-sees-clause-found t c = let e = c.ending.ensures.tree in let f = c.ending.ensures.end in let k = c.new.ensures in rw (e, f, k) (fields.fields_empty c.args.tokens.now c.args.at (c.sees.ensures.yes c.if-sees.true))

pub fields::fields-returns-in_err-list-clause-refused : goal.fields::fields-returns-in_err-list-clause-refused
fields::fields-returns-in_err-list-clause-refused t c = passed _ _ c.from_residual.ensures.1 c.in_err-list.ensures.refused (λ r h. fields.first_refused c.args.tokens.now c.args.at (c.sees.ensures.no c.if-sees.false) h)

pub fields::fields-commas-init : goal.fields::fields-commas-init
fields::fields-commas-init t c = let k = c.new.ensures in record { moves = c.in_ok-list.ensures.moves; leads = fields.fields_first c.args.tokens.now c.args.at (c.sees.ensures.no c.if-sees.false) (rw k at c.in_ok-list.ensures.found) }

pub fields::fields-returns-in_err-list-2-clause-refused : goal.fields::fields-returns-in_err-list-2-clause-refused
fields::fields-returns-in_err-list-2-clause-refused t c = passed _ _ c.from_residual-in_err-list-2.ensures.1 c.in_err-list-2.ensures.refused (λ r h. fields.fields_next_refused c.args.tokens.now c.args.at c.commas.list.tree c.commas.invariant.leads (c.sees-in-commas.ensures.yes c.commas-test.true) h)

pub fields::fields-commas-preserved : goal.fields::fields-commas-preserved
fields::fields-commas-preserved t c = record {
  moves = moves_on c.commas.invariant.moves (moves_on (mark_moves (c.sees-in-commas.ensures.yes c.commas-test.true)) c.in_ok-list-2.ensures.moves);
  leads = fields.fields_more c.args.tokens.now c.args.at c.commas.list.tree c.commas.invariant.leads (c.sees-in-commas.ensures.yes c.commas-test.true) c.in_ok-list-2.ensures.found;
}

pub fields::fields-returns-in_err-close-clause-refused : goal.fields::fields-returns-in_err-close-clause-refused
fields::fields-returns-in_err-close-clause-refused t c = passed _ _ c.from_residual-in_err-close.ensures.1 c.in_err-close.ensures.refused (λ r h. fields.fields_open c.args.tokens.now c.args.at c.commas.list.tree c.commas.invariant.leads (c.sees-in-commas.ensures.no c.commas-test.false) h)

pub fields::fields-returns-clause-found : goal.fields::fields-returns-clause-found
fields::fields-returns-clause-found t c = let e = c.ending-2.ensures.tree in let f = c.ending-2.ensures.end in rw (e, f) (fields.fields_done c.args.tokens.now c.args.at c.commas.list.tree c.commas.invariant.leads c.in_ok-close.ensures.found)

-- ---- field

pub fields::field-returns-in_err-name-clause-refused : goal.fields::field-returns-in_err-name-clause-refused
fields::field-returns-in_err-name-clause-refused t c = passed _ _ c.from_residual.ensures.1 c.in_err-name.ensures.refused (λ r h. fields.name_refused c.args.tokens.now c.args.at (h _))

pub fields::field-returns-in_err-begin-clause-refused : goal.fields::field-returns-in_err-begin-clause-refused
fields::field-returns-in_err-begin-clause-refused t c = passed _ _ c.from_residual-in_err-begin.ensures.1 c.in_err-begin.ensures.refused (λ r h. fields.equals_missing c.args.tokens.now c.args.at (c.in_ok-name.ensures.found _) h)

pub fields::field-returns-in_err-value-clause-refused : goal.fields::field-returns-in_err-value-clause-refused
fields::field-returns-in_err-value-clause-refused t c = passed _ _ c.from_residual-in_err-value.ensures.1 c.in_err-value.ensures.refused (λ r h. fields.value_refused c.args.tokens.now c.args.at (c.in_ok-name.ensures.found _) c.in_ok-begin.ensures.found h)

pub fields::field-returns-in_err-absent-clause-refused : goal.fields::field-returns-in_err-absent-clause-refused
fields::field-returns-in_err-absent-clause-refused t c = passed _ _ c.from_residual-in_err-absent.ensures.1 c.in_err-absent.ensures.refused (λ r h. fields.field_barred c.args.tokens.now c.args.at (c.in_ok-name.ensures.found _) c.in_ok-begin.ensures.found c.in_ok-value.value.end c.in_ok-value.ensures.found h.says h.is)

pub fields::field-returns-clause-found : goal.fields::field-returns-clause-found
fields::field-returns-clause-found t c = let e0 = c.in_ok-made.ensures.found.0 in let e1 = c.in_ok-made.ensures.found.1 in rw e1 (fields.field_read c.args.tokens.now c.args.at (c.in_ok-name.ensures.found _) c.in_ok-begin.ensures.found c.in_ok-value.value.end c.in_ok-value.ensures.found c.in_ok-absent.ensures.found e0)

-- ---- let_vals

pub fields::let_vals-returns-in_err-list-clause-refused : goal.fields::let_vals-returns-in_err-list-clause-refused
fields::let_vals-returns-in_err-list-clause-refused t c = passed _ _ c.from_residual.ensures.1 c.in_err-list.ensures.refused (λ r h. first h)

pub fields::let_vals-vals-init : goal.fields::let_vals-vals-init
fields::let_vals-vals-init t c = let k = c.new.ensures in record { moves = c.in_ok-list.ensures.moves; vals = fields.vals_first (rw k at c.in_ok-list.ensures.found) }

pub fields::let_vals-returns-in_err-list-2-clause-refused : goal.fields::let_vals-returns-in_err-list-2-clause-refused
fields::let_vals-returns-in_err-list-2-clause-refused t c = passed _ _ c.from_residual-in_err-list-2.ensures.1 c.in_err-list-2.ensures.refused (λ r h. fields.vals_refused c.vals.invariant.vals (c.sees.ensures.yes c.vals-test.true) h)

pub fields::let_vals-vals-preserved : goal.fields::let_vals-vals-preserved
fields::let_vals-vals-preserved t c = record {
  moves = moves_on c.vals.invariant.moves c.in_ok-list-2.ensures.moves;
  vals = fields.vals_more c.vals.invariant.vals (c.sees.ensures.yes c.vals-test.true) c.in_ok-list-2.ensures.found;
}

pub fields::let_vals-returns-clause-found : goal.fields::let_vals-returns-clause-found
fields::let_vals-returns-clause-found t c = fields.vals_done c.vals.invariant.vals (c.sees.ensures.no c.vals-test.false)

-- ---- let_val

pub fields::let_val-returns-in_err-keyword-clause-refused : goal.fields::let_val-returns-in_err-keyword-clause-refused
fields::let_val-returns-in_err-keyword-clause-refused t c = passed _ _ c.from_residual.ensures.1 c.in_err-keyword.ensures.refused (λ r h. fields.val_missing h)

pub fields::let_val-returns-in_err-name-clause-refused : goal.fields::let_val-returns-in_err-name-clause-refused
fields::let_val-returns-in_err-name-clause-refused t c = passed _ _ c.from_residual-in_err-name.ensures.1 c.in_err-name.ensures.refused (λ r h. fields.val_name c.in_ok-keyword.ensures.found h)

pub fields::let_val-returns-in_err-from-clause-refused : goal.fields::let_val-returns-in_err-from-clause-refused
fields::let_val-returns-in_err-from-clause-refused t c = passed _ _ c.from_residual-in_err-from.ensures.1 c.in_err-from.ensures.refused (λ r h. fields.val_colon c.in_ok-keyword.ensures.found c.in_ok-name.ensures.found h)

pub fields::let_val-returns-in_err-con-clause-refused : goal.fields::let_val-returns-in_err-con-clause-refused
fields::let_val-returns-in_err-con-clause-refused t c = passed _ _ c.from_residual-in_err-con.ensures.1 c.in_err-con.ensures.refused (λ r h. fields.val_con c.in_ok-keyword.ensures.found c.in_ok-name.ensures.found c.in_ok-from.ensures.found h)

pub fields::let_val-returns-in_err-begin-clause-refused : goal.fields::let_val-returns-in_err-begin-clause-refused
fields::let_val-returns-in_err-begin-clause-refused t c = passed _ _ c.from_residual-in_err-begin.ensures.1 c.in_err-begin.ensures.refused (λ r h. fields.val_equals c.in_ok-keyword.ensures.found c.in_ok-name.ensures.found c.in_ok-from.ensures.found c.in_ok-con.ensures.found h)

pub fields::let_val-returns-in_err-value-clause-refused : goal.fields::let_val-returns-in_err-value-clause-refused
fields::let_val-returns-in_err-value-clause-refused t c = passed _ _ c.from_residual-in_err-value.ensures.1 c.in_err-value.ensures.refused (λ r h. fields.val_value c.in_ok-keyword.ensures.found c.in_ok-name.ensures.found c.in_ok-from.ensures.found c.in_ok-con.ensures.found c.in_ok-begin.ensures.found h)

pub fields::let_val-returns-in_err-absent-clause-refused : goal.fields::let_val-returns-in_err-absent-clause-refused
fields::let_val-returns-in_err-absent-clause-refused t c = passed _ _ c.from_residual-in_err-absent.ensures.1 c.in_err-absent.ensures.refused (λ r h. fields.val_barred c.in_ok-keyword.ensures.found c.in_ok-name.ensures.found c.in_ok-from.ensures.found c.in_ok-con.ensures.found c.in_ok-begin.ensures.found c.in_ok-value.value.end c.in_ok-value.ensures.found h.says h.is)

pub fields::let_val-returns-clause-found : goal.fields::let_val-returns-clause-found
fields::let_val-returns-clause-found t c = let e0 = c.in_ok-made.ensures.found.0 in let e1 = c.in_ok-made.ensures.found.1 in let s = c.span-covered.ensures in
    let m : Moves c.args.tokens.now c.args.at c.in_ok-value.value.end = moves_on (mark_moves c.in_ok-keyword.ensures.found) (moves_on (name_moves c.in_ok-name.ensures.found) (moves_on (mark_moves c.in_ok-from.ensures.found) (moves_on c.in_ok-con.ensures.moves (moves_on (mark_moves c.in_ok-begin.ensures.found) c.in_ok-value.ensures.moves)))) in
    rw e1 (fields.val_read c.in_ok-keyword.ensures.found c.in_ok-name.ensures.found c.in_ok-from.ensures.found c.in_ok-con.ensures.found c.in_ok-begin.ensures.found c.in_ok-value.value.end c.in_ok-value.ensures.found m c.in_ok-absent.ensures.found (rw s at e0))

-- ---- let_in

pub fields::let_in-returns-in_err-vals-clause-refused : goal.fields::let_in-returns-in_err-vals-clause-refused
fields::let_in-returns-in_err-vals-clause-refused t c = passed _ _ c.from_residual.ensures.1 c.in_err-vals.ensures.refused (λ r h front. fields.let_vals_refused c.requires front h)

pub fields::let_in-returns-in_err-begin-clause-refused : goal.fields::let_in-returns-in_err-begin-clause-refused
fields::let_in-returns-in_err-begin-clause-refused t c = passed _ _ c.from_residual-in_err-begin.ensures.1 c.in_err-begin.ensures.refused (λ r h front. fields.in_missing c.requires front c.in_ok-vals.vals.end c.in_ok-vals.ensures.found h)

pub fields::let_in-returns-in_err-body-clause-refused : goal.fields::let_in-returns-in_err-body-clause-refused
fields::let_in-returns-in_err-body-clause-refused t c = passed _ _ c.from_residual-in_err-body.ensures.1 c.in_err-body.ensures.refused (λ r h front. fields.let_body c.requires front c.in_ok-vals.vals.end c.in_ok-vals.ensures.found c.in_ok-begin.ensures.found h)

pub fields::let_in-returns-in_err-end-clause-refused : goal.fields::let_in-returns-in_err-end-clause-refused
fields::let_in-returns-in_err-end-clause-refused t c = passed _ _ c.from_residual-in_err-end.ensures.1 c.in_err-end.ensures.refused (λ r h front. fields.end_missing c.requires front c.in_ok-vals.vals.end c.in_ok-vals.ensures.found c.in_ok-begin.ensures.found c.in_ok-body.body.end c.in_ok-body.ensures.found h)

pub fields::let_in-returns-clause-found : goal.fields::let_in-returns-clause-found
fields::let_in-returns-clause-found t c = λ front. let e0 = c.in_ok-made.ensures.found.0 in let e1 = c.in_ok-made.ensures.found.1 in let s = c.span-covered.ensures in
    let m : Moves c.args.tokens.now c.args.at c.in_ok-end.end = moves_on (mark_moves c.requires) (moves_on c.in_ok-vals.ensures.moves (moves_on (mark_moves c.in_ok-begin.ensures.found) (moves_on c.in_ok-body.ensures.moves (mark_moves c.in_ok-end.ensures.found)))) in
    rw (e0, e1, s) (fields.let_read c.requires front c.in_ok-vals.vals.end c.in_ok-vals.ensures.found c.in_ok-begin.ensures.found c.in_ok-body.body.end c.in_ok-body.ensures.found m c.in_ok-end.ensures.found)

-- ---- step

pub level::step-returns-in_err-right-in-Infix-clause-refused : goal.level::step-returns-in_err-right-in-Infix-clause-refused
level::step-returns-in_err-right-in-Infix-clause-refused t c = passed _ _ c.from_residual.ensures.1 c.in_err-right-in-Infix.ensures.refused (λ r h. let w = c.in-Infix.is in right_refused c.args.depth c.args.tokens.now c.args.level c.args.whole.end (rw w at c.requires.signed) h)

pub level::step-returns-in_ok-made-in-Infix-clause-found : goal.level::step-returns-in_ok-made-in-Infix-clause-found
level::step-returns-in_ok-made-in-Infix-clause-found t c = let e0 = c.in_ok-made-in-Infix.ensures.found.0 in let e1 = c.in_ok-made-in-Infix.ensures.found.1 in let s = c.span-covered.ensures in let w = c.in-Infix.is in let q = rw w at c.requires.signed in
    let m : Moves c.args.tokens.now c.args.whole.end c.in_ok-right-in-Infix.right.end = moves_on (mark_moves q.1) c.in_ok-right-in-Infix.ensures.moves in
    rw (e0, e1, s) (right_read c.args.depth c.args.tokens.now c.args.level c.args.whole.end q c.args.from c.in_ok-right-in-Infix.right.end m c.in_ok-right-in-Infix.ensures.found)

pub level::step-returns-in_err-made-in-Remove-clause-refused : goal.level::step-returns-in_err-made-in-Remove-clause-refused
level::step-returns-in_err-made-in-Remove-clause-refused t c = passed _ _ c.from_residual-in_err-made-in-Remove.ensures.1 c.in_err-made-in-Remove.ensures.refused (λ r h. let w = c.in-Remove.is in operands.gone_refused c.args.tokens.now c.args.whole.end c.args.level (rw w at c.requires.signed) c.args.depth (h _))

pub level::step-returns-in_ok-made-in-Remove-clause-found : goal.level::step-returns-in_ok-made-in-Remove-clause-found
level::step-returns-in_ok-made-in-Remove-clause-found t c = let w = c.in-Remove.is in operands.gone_step c.args.tokens.now c.args.whole.end c.args.level (rw w at c.requires.signed) c.args.depth c.args.from c.in_ok-made-in-Remove.made.end c.in_ok-made-in-Remove.ensures.found

-- ---- operand

pub level::operand-returns-in_err-made-in-Disjunction-clause-refused : goal.level::operand-returns-in_err-made-in-Disjunction-clause-refused
level::operand-returns-in_err-made-in-Disjunction-clause-refused t c = passed _ _ c.from_residual.ensures.1 c.in_err-made-in-Disjunction.ensures.refused (λ r h. let w = c.in-Disjunction.is in rw w (operands.disjunction_refused c.args.tokens.now c.args.at h))

pub level::operand-returns-in_ok-made-in-Disjunction-clause-found : goal.level::operand-returns-in_ok-made-in-Disjunction-clause-found
level::operand-returns-in_ok-made-in-Disjunction-clause-found t c = let w = c.in-Disjunction.is in rw w (operands.disjunction_read c.args.tokens.now c.args.at c.in_ok-made-in-Disjunction.made.end c.in_ok-made-in-Disjunction.ensures.found)

pub level::operand-returns-in_err-made-in-Conjunction-clause-refused : goal.level::operand-returns-in_err-made-in-Conjunction-clause-refused
level::operand-returns-in_err-made-in-Conjunction-clause-refused t c = passed _ _ c.from_residual-in_err-made-in-Conjunction.ensures.1 c.in_err-made-in-Conjunction.ensures.refused (λ r h. let w = c.in-Conjunction.is in rw w (operands.conjunction_refused c.args.tokens.now c.args.at h))

pub level::operand-returns-in_ok-made-in-Conjunction-clause-found : goal.level::operand-returns-in_ok-made-in-Conjunction-clause-found
level::operand-returns-in_ok-made-in-Conjunction-clause-found t c = let w = c.in-Conjunction.is in rw w (operands.conjunction_read c.args.tokens.now c.args.at c.in_ok-made-in-Conjunction.made.end c.in_ok-made-in-Conjunction.ensures.found)

pub level::operand-returns-in_err-made-in-Append-clause-refused : goal.level::operand-returns-in_err-made-in-Append-clause-refused
level::operand-returns-in_err-made-in-Append-clause-refused t c = passed _ _ c.from_residual-in_err-made-in-Append.ensures.1 c.in_err-made-in-Append.ensures.refused (λ r h. let w = c.in-Append.is in rw w (operands.append_refused c.args.tokens.now c.args.at h))

pub level::operand-returns-in_ok-made-in-Append-clause-found : goal.level::operand-returns-in_ok-made-in-Append-clause-found
level::operand-returns-in_ok-made-in-Append-clause-found t c = let w = c.in-Append.is in rw w (operands.append_read c.args.tokens.now c.args.at c.in_ok-made-in-Append.made.end c.in_ok-made-in-Append.ensures.found)

pub level::operand-returns-in_err-made-in-Sum-clause-refused : goal.level::operand-returns-in_err-made-in-Sum-clause-refused
level::operand-returns-in_err-made-in-Sum-clause-refused t c = passed _ _ c.from_residual-in_err-made-in-Sum.ensures.1 c.in_err-made-in-Sum.ensures.refused (λ r h. let w = c.in-Sum.is in rw w (operands.sum_refused c.args.tokens.now c.args.at h))

pub level::operand-returns-in_ok-made-in-Sum-clause-found : goal.level::operand-returns-in_ok-made-in-Sum-clause-found
level::operand-returns-in_ok-made-in-Sum-clause-found t c = let w = c.in-Sum.is in rw w (operands.sum_read c.args.tokens.now c.args.at c.in_ok-made-in-Sum.made.end c.in_ok-made-in-Sum.ensures.found)

pub level::operand-returns-in_err-made-in-Product-clause-refused : goal.level::operand-returns-in_err-made-in-Product-clause-refused
level::operand-returns-in_err-made-in-Product-clause-refused t c = passed _ _ c.from_residual-in_err-made-in-Product.ensures.1 c.in_err-made-in-Product.ensures.refused (λ r h. let w = c.in-Product.is in rw w (operands.product_refused c.args.tokens.now c.args.at h))

pub level::operand-returns-in_ok-made-in-Product-clause-found : goal.level::operand-returns-in_ok-made-in-Product-clause-found
level::operand-returns-in_ok-made-in-Product-clause-found t c = let w = c.in-Product.is in rw w (operands.product_read c.args.tokens.now c.args.at c.in_ok-made-in-Product.made.end c.in_ok-made-in-Product.ensures.found)

-- ---- quote

pub code::quote-returns-in_err-line-clause-refused : goal.code::quote-returns-in_err-line-clause-refused
code::quote-returns-in_err-line-clause-refused t c = λ w. passed _ _ c.from_residual.ensures.1 c.in_err-line.ensures.refused (λ r h. coding.quote_refused w h)

pub code::quote-returns-then-same_place-clause-found : goal.code::quote-returns-then-same_place-clause-found
code::quote-returns-then-same_place-clause-found t c = λ w. let e = c.inner.ensures.tree in let k = c.same_place.ensures.0 c.if-same_place.true in rw e (coding.quote_read w (rw k at c.in_ok-line.ensures.found))

pub code::quote-returns-else-same_place-clause-refused : goal.code::quote-returns-else-same_place-clause-refused
code::quote-returns-else-same_place-clause-refused t c = λ w. made _ c.unexpected.ensures (λ r s. coding.quote_goes_on w c.in_ok-line.line.end c.in_ok-line.ensures.moves (λ e. let z : true ≡ false = sym (c.same_place.ensures.1 e) ∙ c.if-same_place.false in absurd (cc)) s c.in_ok-line.ensures.found)

-- ---- code

pub code::code-returns-in_ok-made-in-Ok-clause-found : goal.code::code-returns-in_ok-made-in-Ok-clause-found
code::code-returns-in_ok-made-in-Ok-clause-found t c = let w = c.in_ok-sits.ensures.found in let l = c.lessened-depth.ensures in
    holds _ (rw l at (coding.spelled_there w.raw (c.in-Ok.ensures.found w.raw))) c.in_ok-made-in-Ok.ensures.found.0 c.in_ok-made-in-Ok.ensures.found.1

pub code::code-returns-in_err-made-in-Err-clause-refused : goal.code::code-returns-in_err-made-in-Err-clause-refused
code::code-returns-in_err-made-in-Err-clause-refused t c = let w = c.in_ok-sits.ensures.found in
    passed _ _ c.from_residual-in_err-made-in-Err.ensures.1 c.in_err-made-in-Err.ensures.refused (λ r h. coding.told_none w _ c.in-Err.refused r (c.in-Err.ensures.refused w.raw) h)

pub code::code-returns-in_ok-made-in-Err-clause-found : goal.code::code-returns-in_ok-made-in-Err-clause-found
code::code-returns-in_ok-made-in-Err-clause-found t c = let w = c.in_ok-sits.ensures.found in
    nests (coding.told_deep w _ c.in-Err.refused c.lessened-depth.ensures (c.in-Err.ensures.refused w.raw) c.in_ok-made-in-Err.ensures.found.1) c.in_ok-made-in-Err.ensures.found.0

-- ---- codes

pub code::read_codes-codes-init : goal.code::read_codes-codes-init
code::read_codes-codes-init t c = coding.reading_first _ refl c.new.ensures

pub code::read_codes-returns-in_err-made-clause-refused : goal.code::read_codes-returns-in_err-made-clause-refused
code::read_codes-returns-in_err-made-clause-refused t c = passed _ _ c.from_residual.ensures.1 c.in_err-made.ensures.refused (λ r h. coding.reading_none c.codes.invariant c.in-Some.ensures.cases.0 r h)

pub code::read_codes-codes-preserved : goal.code::read_codes-codes-preserved
code::read_codes-codes-preserved t c = coding.reading_more c.codes.invariant c.in-Some.ensures.cases.0 c.in_ok-made.ensures.found

pub code::read_codes-returns-clause-found : goal.code::read_codes-returns-clause-found
code::read_codes-returns-clause-found t c = coding.reading_done c.codes.invariant (nil_from_length _ c.in_default.ensures.cases)

-- ---- markup

pub markup::markup-returns-in_err-exps-in-Ok-clause-refused : goal.markup::markup-returns-in_err-exps-in-Ok-clause-refused
markup::markup-returns-in_err-exps-in-Ok-clause-refused t c = let f = c.in-Ok.ensures.found in let q = c.new-quotes.ensures in
    passed _ _ c.from_residual.ensures.1 c.in_err-exps-in-Ok.ensures.refused (λ r h. markups.exps_none (markups.literal_of q.exps q.attributes f.read f.made) (subst (λ z. NoneRead c.args.tokens.now z r) c.as_slice.ensures h))

pub markup::markup-returns-in_err-attributes-in-Ok-clause-refused : goal.markup::markup-returns-in_err-attributes-in-Ok-clause-refused
markup::markup-returns-in_err-attributes-in-Ok-clause-refused t c = let f = c.in-Ok.ensures.found in let q = c.new-quotes.ensures in
    passed _ _ c.from_residual-in_err-attributes-in-Ok.ensures.1 c.in_err-attributes-in-Ok.ensures.refused (λ r h. markups.attributes_none (markups.literal_of q.exps q.attributes f.read f.made) (subst (λ z. NoneRead c.args.tokens.now z r) c.as_slice-in-Ok.ensures h))

pub markup::markup-returns-then-either-clause-refused : goal.markup::markup-returns-then-either-clause-refused
markup::markup-returns-then-either-clause-refused t c = let f = c.in-Ok.ensures.found in let q = c.new-quotes.ensures in
    made_deep _ c.too_deep.ensures (λ r s. markups.deep_refused (markups.literal_of q.exps q.attributes f.read f.made) c.in_ok-exps-in-Ok.exps c.in_ok-attributes-in-Ok.attributes (subst (λ z. CodesRead c.args.tokens.now 0 z c.in_ok-exps-in-Ok.exps) c.as_slice.ensures c.in_ok-exps-in-Ok.ensures.found) (subst (λ z. CodesRead c.args.tokens.now 0 z c.in_ok-attributes-in-Ok.attributes) c.as_slice-in-Ok.ensures c.in_ok-attributes-in-Ok.ensures.found) s (sym c.either.ensures ∙ c.if-either.true))

pub markup::markup-returns-in-Ok-clause-found : goal.markup::markup-returns-in-Ok-clause-found
markup::markup-returns-in-Ok-clause-found t c = let f = c.in-Ok.ensures.found in let q = c.new-quotes.ensures in let e0 = c.in_ok-made-in-Ok.ensures.found.0 in let e1 = c.in_ok-made-in-Ok.ensures.found.1 in let s = c.span-covered.ensures in
    rw e1 (markups.markup_made (markups.literal_of q.exps q.attributes f.read f.made) c.in_ok-exps-in-Ok.exps c.in_ok-attributes-in-Ok.attributes (subst (λ z. CodesRead c.args.tokens.now 0 z c.in_ok-exps-in-Ok.exps) c.as_slice.ensures c.in_ok-exps-in-Ok.ensures.found) (subst (λ z. CodesRead c.args.tokens.now 0 z c.in_ok-attributes-in-Ok.attributes) c.as_slice-in-Ok.ensures c.in_ok-attributes-in-Ok.ensures.found) _ (sym c.either.ensures ∙ c.if-either.false) (rw s at e0))

pub markup::markup-returns-in_err-made-in-Err-clause-refused : goal.markup::markup-returns-in_err-made-in-Err-clause-refused
markup::markup-returns-in_err-made-in-Err-clause-refused t c = passed _ _ c.from_residual-in_err-made-in-Err.ensures.1 (c.in_err-made-in-Err.ensures.refused c.in-Err.ensures.refused) (λ r h. h)

-- ---- again

pub markup::again-returns-in_err-deeper-clause-refused : goal.markup::again-returns-in_err-deeper-clause-refused
markup::again-returns-in_err-deeper-clause-refused t c = λ h. passed _ _ c.from_residual.ensures.1 c.in_err-deeper.ensures.refused (λ q k. markups.first_none c.args.depth (drop c.args.at c.args.tokens.now) c.args.depth c.args.first h k)

pub markup::again-returns-in_err-exps-in-Ok-clause-refused : goal.markup::again-returns-in_err-exps-in-Ok-clause-refused
markup::again-returns-in_err-exps-in-Ok-clause-refused t c = λ h. let f = c.in-Ok.ensures.found in let q = c.new-quotes.ensures in
    passed _ _ c.from_residual-in_err-exps-in-Ok.ensures.1 c.in_err-exps-in-Ok.ensures.refused (λ r k. markups.exps_none (markups.literal_of q.exps q.attributes f.read f.made) (subst (λ z. NoneRead c.args.tokens.now z r) c.as_slice.ensures k))

pub markup::again-returns-in_err-attributes-in-Ok-clause-refused : goal.markup::again-returns-in_err-attributes-in-Ok-clause-refused
markup::again-returns-in_err-attributes-in-Ok-clause-refused t c = λ h. let f = c.in-Ok.ensures.found in let q = c.new-quotes.ensures in
    passed _ _ c.from_residual-in_err-attributes-in-Ok.ensures.1 c.in_err-attributes-in-Ok.ensures.refused (λ r k. markups.attributes_none (markups.literal_of q.exps q.attributes f.read f.made) (subst (λ z. NoneRead c.args.tokens.now z r) c.as_slice-in-Ok.ensures k))

pub markup::again-returns-in-Ok-clause-refused : goal.markup::again-returns-in-Ok-clause-refused
markup::again-returns-in-Ok-clause-refused t c = λ h. let f = c.in-Ok.ensures.found in let q = c.new-quotes.ensures in let l = c.if-depth-gt-MAX_ELEMENTS.false in
    made_deep _ c.too_deep.ensures (λ r s. markups.open_beyond (markups.literal_of q.exps q.attributes f.read f.made) (1024 - c.args.depth) (omega arith) (omega (arith, l)) s (subst (λ z. AllByRecursion (IsKnown c.args.tokens.now (1024 - c.args.depth)) z) c.as_slice.ensures c.in_ok-exps-in-Ok.ensures.found.known) (subst (λ z. AllByRecursion (IsKnown c.args.tokens.now (1024 - c.args.depth)) z) c.as_slice-in-Ok.ensures c.in_ok-attributes-in-Ok.ensures.found.known)
    (markups.first_deep c.args.depth (drop c.args.at c.args.tokens.now) c.args.first h c.in_ok-deeper.ensures.found))

pub markup::again-returns-clause-refused : goal.markup::again-returns-clause-refused
markup::again-returns-clause-refused t c = λ h. skeletons.refusal_map _ c.plain.ensures (λ q k. markups.first_none c.args.depth (drop c.args.at c.args.tokens.now) 1024 c.in-Err.refused c.in-Err.ensures.refused k)

-- ---- formed

pub forms::formed-worded-requires : goal.forms::formed-worded-requires
forms::formed-worded-requires t c = let w = shape_stands c.args.tokens.now c.args.at c.args.word _ (sym c.shape_of.ensures ∙ c.in-One.is) c.requires in (lower 1 6 (30 * (length c.args.tokens.now - c.args.at)) t (omega arith) c.decreases, (c.requires, w))

pub forms::formed-one_query-requires : goal.forms::formed-one_query-requires
forms::formed-one_query-requires t c = (lower 5 6 (30 * (length c.args.tokens.now - c.args.at)) t (omega arith) c.decreases, shape_stands c.args.tokens.now c.args.at c.args.word _ (sym c.shape_of.ensures ∙ c.in-Query.is) c.requires)

pub forms::formed-fold-requires : goal.forms::formed-fold-requires
forms::formed-fold-requires t c = (lower 1 6 (30 * (length c.args.tokens.now - c.args.at)) t (omega arith) c.decreases, shape_stands c.args.tokens.now c.args.at c.args.word _ (sym c.shape_of.ensures ∙ c.in-Fold.is) c.requires)

pub forms::formed-read_nextval-requires : goal.forms::formed-read_nextval-requires
forms::formed-read_nextval-requires t c = shape_stands c.args.tokens.now c.args.at c.args.word _ (sym c.shape_of.ensures ∙ c.in-Nextval.is) c.requires

pub forms::formed-read_get_cookie-requires : goal.forms::formed-read_get_cookie-requires
forms::formed-read_get_cookie-requires t c = shape_stands c.args.tokens.now c.args.at c.args.word _ (sym c.shape_of.ensures ∙ c.in-GetCookie.is) c.requires

pub forms::formed-cookie-requires : goal.forms::formed-cookie-requires
forms::formed-cookie-requires t c = (lower 1 6 (30 * (length c.args.tokens.now - c.args.at)) t (omega arith) c.decreases, shape_stands c.args.tokens.now c.args.at c.args.word _ (sym c.shape_of.ensures ∙ c.in-SetCookie.is) c.requires)

pub forms::formed-dml-requires : goal.forms::formed-dml-requires
forms::formed-dml-requires t c = (lower 5 6 (30 * (length c.args.tokens.now - c.args.at)) t (omega arith) c.decreases, shape_stands c.args.tokens.now c.args.at c.args.word _ (sym c.shape_of.ensures ∙ c.in-Dml.is) c.requires)

pub forms::formed-query_x-requires : goal.forms::formed-query_x-requires
forms::formed-query_x-requires t c = (lower 5 6 (30 * (length c.args.tokens.now - c.args.at)) t (omega arith) c.decreases, shape_stands c.args.tokens.now c.args.at c.args.word _ (sym c.shape_of.ensures ∙ c.in-QueryX.is) c.requires)

pub forms::formed-returns-in_err-made-in-Nextval-clause-refused : goal.forms::formed-returns-in_err-made-in-Nextval-clause-refused
forms::formed-returns-in_err-made-in-Nextval-clause-refused t c = passed _ _ c.from_residual-in_err-made-in-Nextval.ensures.1 c.in_err-made-in-Nextval.ensures.refused (λ r h. h _)

pub forms::formed-returns-in_ok-made-in-Nextval-clause-found : goal.forms::formed-returns-in_ok-made-in-Nextval-clause-found
forms::formed-returns-in_ok-made-in-Nextval-clause-found t c = c.in_ok-made-in-Nextval.ensures.found _

pub forms::formed-returns-in_err-made-in-GetCookie-clause-refused : goal.forms::formed-returns-in_err-made-in-GetCookie-clause-refused
forms::formed-returns-in_err-made-in-GetCookie-clause-refused t c = passed _ _ c.from_residual-in_err-made-in-GetCookie.ensures.1 c.in_err-made-in-GetCookie.ensures.refused (λ r h. h _)

pub forms::formed-returns-in_ok-made-in-GetCookie-clause-found : goal.forms::formed-returns-in_ok-made-in-GetCookie-clause-found
forms::formed-returns-in_ok-made-in-GetCookie-clause-found t c = c.in_ok-made-in-GetCookie.ensures.found _

-- ---- cookie

pub forms::cookie-returns-in_err-name-clause-refused : goal.forms::cookie-returns-in_err-name-clause-refused
forms::cookie-returns-in_err-name-clause-refused t c = passed _ _ c.from_residual.ensures.1 c.in_err-name.ensures.refused (λ r h. cookies.set_name c.args.depth c.requires (h _))

pub forms::cookie-returns-in_err-value-clause-refused : goal.forms::cookie-returns-in_err-value-clause-refused
forms::cookie-returns-in_err-value-clause-refused t c = passed _ _ c.from_residual-in_err-value.ensures.1 c.in_err-value.ensures.refused (λ r h. cookies.set_value c.args.depth c.requires c.in_ok-name.end (c.in_ok-name.ensures.found _) h)

pub forms::cookie-returns-clause-found : goal.forms::cookie-returns-clause-found
forms::cookie-returns-clause-found t c = let e0 = c.in_ok-made.ensures.found.0 in let e1 = c.in_ok-made.ensures.found.1 in let s = c.span-covered.ensures in let o = moves_on c.in_ok-name.ensures.moves c.in_ok-value.ensures.moves in let a = o.on in
    rw (e0, e1, s) (cookies.set_read c.args.depth c.requires c.in_ok-name.end (c.in_ok-name.ensures.found _) c.in_ok-value.value.end (record { on = omega (arith, a); within = o.within }) c.in_ok-value.ensures.found)

-- ---- dml

pub forms::dml-returns-in_err-begin-clause-refused : goal.forms::dml-returns-in_err-begin-clause-refused
forms::dml-returns-in_err-begin-clause-refused t c = passed _ _ c.from_residual.ensures.1 c.in_err-begin.ensures.refused (λ r h. forms.dml_open c.args.depth c.requires h)

pub forms::dml-returns-in_err-tree-clause-refused : goal.forms::dml-returns-in_err-tree-clause-refused
forms::dml-returns-in_err-tree-clause-refused t c = passed _ _ c.from_residual-in_err-tree.ensures.1 c.in_err-tree.ensures.refused (λ r h. forms.dml_change c.args.depth c.requires c.in_ok-begin.ensures.found h)

pub forms::dml-returns-in_err-end-clause-refused : goal.forms::dml-returns-in_err-end-clause-refused
forms::dml-returns-in_err-end-clause-refused t c = passed _ _ c.from_residual-in_err-end.ensures.1 c.in_err-end.ensures.refused (λ r h. forms.dml_closed c.args.depth c.requires c.in_ok-begin.ensures.found c.in_ok-tree.code.end c.in_ok-tree.ensures.found.read h)

pub forms::dml-returns-in_err-absent-clause-refused : goal.forms::dml-returns-in_err-absent-clause-refused
forms::dml-returns-in_err-absent-clause-refused t c = passed _ _ c.from_residual-in_err-absent.ensures.1 c.in_err-absent.ensures.refused (λ r h. forms.dml_dotted c.args.depth c.requires c.in_ok-begin.ensures.found c.in_ok-tree.code.end c.in_ok-tree.ensures.found.read c.in_ok-end.ensures.found h.says h.is)

pub forms::dml-returns-clause-found : goal.forms::dml-returns-clause-found
forms::dml-returns-clause-found t c = let e0 = c.in_ok-made.ensures.found.0 in let e1 = c.in_ok-made.ensures.found.1 in let s = c.span-covered.ensures in let i = c.in_ok-tree.ensures.found.is in let k = c.in_ok-tree.ensures.found.code in
    let m : Moves c.args.tokens.now c.args.at c.in_ok-end.end = moves_on (mark_moves c.requires) (moves_on (mark_moves c.in_ok-begin.ensures.found) (moves_on c.in_ok-tree.ensures.moves (mark_moves c.in_ok-end.ensures.found))) in
    rw (e0, e1, s, i, k) (forms.dml_read c.args.depth c.requires c.in_ok-begin.ensures.found c.in_ok-tree.code.end c.in_ok-tree.ensures.found.read c.in_ok-end.ensures.found m c.in_ok-absent.ensures.found)

-- ---- one_query

pub forms::one_query-returns-in_err-begin-clause-refused : goal.forms::one_query-returns-in_err-begin-clause-refused
forms::one_query-returns-in_err-begin-clause-refused t c = passed _ _ c.from_residual.ensures.1 c.in_err-begin.ensures.refused (λ r h. forms.query_open c.args.depth c.args.of c.requires h)

pub forms::one_query-returns-in_err-tree-clause-refused : goal.forms::one_query-returns-in_err-tree-clause-refused
forms::one_query-returns-in_err-tree-clause-refused t c = passed _ _ c.from_residual-in_err-tree.ensures.1 c.in_err-tree.ensures.refused (λ r h. forms.query_inner c.args.depth c.in_ok-begin.ensures.found c.args.of c.requires h)

pub forms::one_query-returns-in_err-end-clause-refused : goal.forms::one_query-returns-in_err-end-clause-refused
forms::one_query-returns-in_err-end-clause-refused t c = passed _ _ c.from_residual-in_err-end.ensures.1 c.in_err-end.ensures.refused (λ r h. forms.query_closed c.args.depth c.in_ok-begin.ensures.found c.in_ok-tree.code.end c.in_ok-tree.ensures.found.read c.args.of c.requires h)

pub forms::one_query-returns-in_err-absent-clause-refused : goal.forms::one_query-returns-in_err-absent-clause-refused
forms::one_query-returns-in_err-absent-clause-refused t c = passed _ _ c.from_residual-in_err-absent.ensures.1 c.in_err-absent.ensures.refused (λ r h. forms.query_dotted c.args.depth c.in_ok-begin.ensures.found c.in_ok-tree.code.end c.in_ok-tree.ensures.found.read c.in_ok-end.ensures.found c.args.of c.requires h.says h.is)

pub forms::one_query-returns-clause-found : goal.forms::one_query-returns-clause-found
forms::one_query-returns-clause-found t c = let e0 = c.in_ok-made.ensures.found.0 in let e1 = c.in_ok-made.ensures.found.1 in let s = c.span-covered.ensures in let i = c.in_ok-tree.ensures.found.is in let k = c.in_ok-tree.ensures.found.code in
    let m : Moves c.args.tokens.now c.args.at c.in_ok-end.end = moves_on (mark_moves c.requires) (moves_on (mark_moves c.in_ok-begin.ensures.found) (moves_on c.in_ok-tree.ensures.moves (mark_moves c.in_ok-end.ensures.found))) in
    rw (e0, e1, s, i, k) (forms.query_read c.args.depth c.in_ok-begin.ensures.found c.in_ok-tree.code.end c.in_ok-tree.ensures.found.read c.in_ok-end.ensures.found c.args.of c.requires m c.in_ok-absent.ensures.found)

-- ---- query_x

pub forms::query_x-returns-in_err-begin-clause-refused : goal.forms::query_x-returns-in_err-begin-clause-refused
forms::query_x-returns-in_err-begin-clause-refused t c = passed _ _ c.from_residual.ensures.1 c.in_err-begin.ensures.refused (λ r h. forms.x_open c.args.depth c.requires h)

pub forms::query_x-returns-in_err-tree-clause-refused : goal.forms::query_x-returns-in_err-tree-clause-refused
forms::query_x-returns-in_err-tree-clause-refused t c = passed _ _ c.from_residual-in_err-tree.ensures.1 c.in_err-tree.ensures.refused (λ r h. forms.x_query c.args.depth c.requires c.in_ok-begin.ensures.found h)

pub forms::query_x-returns-in_err-closed-clause-refused : goal.forms::query_x-returns-in_err-closed-clause-refused
forms::query_x-returns-in_err-closed-clause-refused t c = passed _ _ c.from_residual-in_err-closed.ensures.1 c.in_err-closed.ensures.refused (λ r h. forms.x_closed c.args.depth c.requires c.in_ok-begin.ensures.found c.in_ok-tree.code.end c.in_ok-tree.ensures.found.read h)

pub forms::query_x-returns-in_err-opened-clause-refused : goal.forms::query_x-returns-in_err-opened-clause-refused
forms::query_x-returns-in_err-opened-clause-refused t c = passed _ _ c.from_residual-in_err-opened.ensures.1 c.in_err-opened.ensures.refused (λ r h. forms.x_row_open c.args.depth c.requires c.in_ok-begin.ensures.found c.in_ok-tree.code.end c.in_ok-tree.ensures.found.read c.in_ok-closed.ensures.found h)

pub forms::query_x-returns-in_err-row-clause-refused : goal.forms::query_x-returns-in_err-row-clause-refused
forms::query_x-returns-in_err-row-clause-refused t c = passed _ _ c.from_residual-in_err-row.ensures.1 c.in_err-row.ensures.refused (λ r h. forms.x_row c.args.depth c.requires c.in_ok-begin.ensures.found c.in_ok-tree.code.end c.in_ok-tree.ensures.found.read c.in_ok-closed.ensures.found c.in_ok-opened.ensures.found h)

pub forms::query_x-returns-in_err-end-clause-refused : goal.forms::query_x-returns-in_err-end-clause-refused
forms::query_x-returns-in_err-end-clause-refused t c = passed _ _ c.from_residual-in_err-end.ensures.1 c.in_err-end.ensures.refused (λ r h. forms.x_row_closed c.args.depth c.requires c.in_ok-begin.ensures.found c.in_ok-tree.code.end c.in_ok-tree.ensures.found.read c.in_ok-closed.ensures.found c.in_ok-opened.ensures.found c.in_ok-row.row.end c.in_ok-row.ensures.found h)

pub forms::query_x-returns-in_err-absent-clause-refused : goal.forms::query_x-returns-in_err-absent-clause-refused
forms::query_x-returns-in_err-absent-clause-refused t c = passed _ _ c.from_residual-in_err-absent.ensures.1 c.in_err-absent.ensures.refused (λ r h. forms.x_dotted c.args.depth c.requires c.in_ok-begin.ensures.found c.in_ok-tree.code.end c.in_ok-tree.ensures.found.read c.in_ok-closed.ensures.found c.in_ok-opened.ensures.found c.in_ok-row.row.end c.in_ok-row.ensures.found c.in_ok-end.ensures.found h.says h.is)

pub forms::query_x-returns-clause-found : goal.forms::query_x-returns-clause-found
forms::query_x-returns-clause-found t c = let e0 = c.in_ok-made.ensures.found.0 in let e1 = c.in_ok-made.ensures.found.1 in let s = c.span-covered.ensures in let i = c.in_ok-tree.ensures.found.is in let k = c.in_ok-tree.ensures.found.code in
    let m : Moves c.args.tokens.now c.args.at c.in_ok-end.end = moves_on (mark_moves c.requires) (moves_on (mark_moves c.in_ok-begin.ensures.found) (moves_on c.in_ok-tree.ensures.moves (moves_on (mark_moves c.in_ok-closed.ensures.found) (moves_on (mark_moves c.in_ok-opened.ensures.found) (moves_on c.in_ok-row.ensures.moves (mark_moves c.in_ok-end.ensures.found)))))) in
    rw (e0, e1, s, i, k) (forms.x_read c.args.depth c.requires c.in_ok-begin.ensures.found c.in_ok-tree.code.end c.in_ok-tree.ensures.found.read c.in_ok-closed.ensures.found c.in_ok-opened.ensures.found c.in_ok-row.row.end c.in_ok-row.ensures.found c.in_ok-end.ensures.found m c.in_ok-absent.ensures.found)

-- ---- all_codes

pub tables::all_codes-returns-in_err-exps-clause-refused : goal.tables::all_codes-returns-in_err-exps-clause-refused
tables::all_codes-returns-in_err-exps-clause-refused t c = passed _ _ c.from_residual.ensures.1 c.in_err-exps.ensures.refused (λ r h. skeletons.none_of_exps c.args.quotes.now (subst (λ z. NoneRead c.args.tokens.now z r) c.as_slice.ensures h))

pub tables::all_codes-returns-in_err-attributes-clause-refused : goal.tables::all_codes-returns-in_err-attributes-clause-refused
tables::all_codes-returns-in_err-attributes-clause-refused t c = passed _ _ c.from_residual-in_err-attributes.ensures.1 c.in_err-attributes.ensures.refused (λ r h. skeletons.none_of_attributes c.args.quotes.now (subst (λ z. NoneRead c.args.tokens.now z r) c.as_slice-2.ensures h))

pub tables::all_codes-returns-clause-found : goal.tables::all_codes-returns-clause-found
tables::all_codes-returns-clause-found t c = record {
  exps_read = subst (λ z. CodesRead c.args.tokens.now c.args.less z c.in_ok-exps.exps) c.as_slice.ensures c.in_ok-exps.ensures.found;
  attributes_read = subst (λ z. CodesRead c.args.tokens.now c.args.less z c.in_ok-attributes.attributes) c.as_slice-2.ensures c.in_ok-attributes.ensures.found;
}

-- ---- query

pub tables::query-returns-in_err-exps-in-Ok-clause-refused : goal.tables::query-returns-in_err-exps-in-Ok-clause-refused
tables::query-returns-in_err-exps-in-Ok-clause-refused t c = let f = c.in-Ok.ensures.found in let q = c.new-quotes.ensures in
    passed _ _ c.from_residual-in_err-exps-in-Ok.ensures.1 c.in_err-exps-in-Ok.ensures.refused (λ r h. skeletons.none_refused tables.queries (skeletons.skeleton_of tables.queries c.args.tokens.now c.args.depth c.args.at c.in-Ok.end q.exps q.attributes f.read f.made) h)

pub tables::query-returns-then-either-clause-refused : goal.tables::query-returns-then-either-clause-refused
tables::query-returns-then-either-clause-refused t c = let f = c.in-Ok.ensures.found in let q = c.new-quotes.ensures in
    made_deep _ c.too_deep.ensures (λ r h. skeletons.deep_refused tables.queries (skeletons.skeleton_of tables.queries c.args.tokens.now c.args.depth c.args.at c.in-Ok.end q.exps q.attributes f.read f.made) c.in_ok-exps-in-Ok.ensures.found h (sym c.either.ensures ∙ c.if-either.true))

pub tables::query-returns-in-Ok-clause-found : goal.tables::query-returns-in-Ok-clause-found
tables::query-returns-in-Ok-clause-found t c = let f = c.in-Ok.ensures.found in let q = c.new-quotes.ensures in let e = c.exps_of.ensures.end in let k = c.in_ok-kept-in-Ok.ensures.found in
    rw (e, k) (skeletons.coded tables.queries (skeletons.skeleton_of tables.queries c.args.tokens.now c.args.depth c.args.at c.in-Ok.end q.exps q.attributes f.read f.made) c.in_ok-exps-in-Ok.ensures.found (sym c.either.ensures ∙ c.if-either.false) c.exps_of.ensures.exps)

pub tables::query-returns-in_err-made-in-Err-clause-refused : goal.tables::query-returns-in_err-made-in-Err-clause-refused
tables::query-returns-in_err-made-in-Err-clause-refused t c = passed _ _ c.from_residual-in_err-made-in-Err.ensures.1 (c.in_err-made-in-Err.ensures.refused c.in-Err.ensures.refused) (λ r h. h)

-- ---- query_again

pub tables::query_again-returns-in_err-deeper-clause-refused : goal.tables::query_again-returns-in_err-deeper-clause-refused
tables::query_again-returns-in_err-deeper-clause-refused t c = λ h. passed _ _ c.from_residual.ensures.1 c.in_err-deeper.ensures.refused (λ q k. skeletons.first_none tables.queries c.args.depth c.args.depth (drop c.args.at c.args.tokens.now) c.args.first q h k)

pub tables::query_again-returns-in_err-_exps-in-Ok-clause-refused : goal.tables::query_again-returns-in_err-_exps-in-Ok-clause-refused
tables::query_again-returns-in_err-_exps-in-Ok-clause-refused t c = λ h. let f = c.in-Ok.ensures.found in let q = c.new-quotes.ensures in
    passed _ _ c.from_residual-in_err-_exps-in-Ok.ensures.1 c.in_err-_exps-in-Ok.ensures.refused (λ r k. skeletons.none_refused tables.queries (skeletons.skeleton_of tables.queries c.args.tokens.now 512 c.args.at c.in-Ok._end q.exps q.attributes f.read f.made) k)

pub tables::query_again-returns-in-Ok-clause-refused : goal.tables::query_again-returns-in-Ok-clause-refused
tables::query_again-returns-in-Ok-clause-refused t c = λ h. let f = c.in-Ok.ensures.found in let q = c.new-quotes.ensures in let a = c.in_ok-_exps-in-Ok.ensures.found in let l = c.if-depth-gt-MAX_SQL_NESTING.false in
    made_deep _ c.too_deep.ensures (λ r k. skeletons.open_beyond tables.queries (skeletons.skeleton_of tables.queries c.args.tokens.now 512 c.args.at c.in-Ok._end q.exps q.attributes f.read f.made) (512 - c.args.depth) c.args.depth (omega arith) (omega (arith, l)) k
    a.exps_read.known a.attributes_read.known (skeletons.first_deep tables.queries c.args.depth (drop c.args.at c.args.tokens.now) c.args.first h c.in_ok-deeper.ensures.found))

pub tables::query_again-returns-clause-refused : goal.tables::query_again-returns-clause-refused
tables::query_again-returns-clause-refused t c = λ h. skeletons.refusal_map _ c.plain.ensures (λ q k. skeletons.first_none tables.queries 512 c.args.depth (drop c.args.at c.args.tokens.now) c.in-Err.refused q c.in-Err.ensures.refused k)

-- ---- change

pub tables::change-returns-in_err-exps-in-Ok-clause-refused : goal.tables::change-returns-in_err-exps-in-Ok-clause-refused
tables::change-returns-in_err-exps-in-Ok-clause-refused t c = let f = c.in-Ok.ensures.found in let q = c.new-quotes.ensures in
    passed _ _ c.from_residual-in_err-exps-in-Ok.ensures.1 c.in_err-exps-in-Ok.ensures.refused (λ r h. skeletons.none_refused tables.changes (skeletons.skeleton_of tables.changes c.args.tokens.now c.args.depth c.args.at c.in-Ok.end q.exps q.attributes f.read f.made) h)

pub tables::change-returns-then-either-clause-refused : goal.tables::change-returns-then-either-clause-refused
tables::change-returns-then-either-clause-refused t c = let f = c.in-Ok.ensures.found in let q = c.new-quotes.ensures in
    made_deep _ c.too_deep.ensures (λ r h. skeletons.deep_refused tables.changes (skeletons.skeleton_of tables.changes c.args.tokens.now c.args.depth c.args.at c.in-Ok.end q.exps q.attributes f.read f.made) c.in_ok-exps-in-Ok.ensures.found h (sym c.either.ensures ∙ c.if-either.true))

pub tables::change-returns-in-Ok-clause-found : goal.tables::change-returns-in-Ok-clause-found
tables::change-returns-in-Ok-clause-found t c = let f = c.in-Ok.ensures.found in let q = c.new-quotes.ensures in let e = c.exps_of.ensures.end in let k = c.in_ok-kept-in-Ok.ensures.found in
    rw (e, k) (skeletons.coded tables.changes (skeletons.skeleton_of tables.changes c.args.tokens.now c.args.depth c.args.at c.in-Ok.end q.exps q.attributes f.read f.made) c.in_ok-exps-in-Ok.ensures.found (sym c.either.ensures ∙ c.if-either.false) c.exps_of.ensures.exps)

pub tables::change-returns-in_err-made-in-Err-clause-refused : goal.tables::change-returns-in_err-made-in-Err-clause-refused
tables::change-returns-in_err-made-in-Err-clause-refused t c = passed _ _ c.from_residual-in_err-made-in-Err.ensures.1 (c.in_err-made-in-Err.ensures.refused c.in-Err.ensures.refused) (λ r h. h)

-- ---- change_again

pub tables::change_again-returns-in_err-deeper-clause-refused : goal.tables::change_again-returns-in_err-deeper-clause-refused
tables::change_again-returns-in_err-deeper-clause-refused t c = λ h. passed _ _ c.from_residual.ensures.1 c.in_err-deeper.ensures.refused (λ q k. skeletons.first_none tables.changes c.args.depth c.args.depth (drop c.args.at c.args.tokens.now) c.args.first q h k)

pub tables::change_again-returns-in_err-_exps-in-Ok-clause-refused : goal.tables::change_again-returns-in_err-_exps-in-Ok-clause-refused
tables::change_again-returns-in_err-_exps-in-Ok-clause-refused t c = λ h. let f = c.in-Ok.ensures.found in let q = c.new-quotes.ensures in
    passed _ _ c.from_residual-in_err-_exps-in-Ok.ensures.1 c.in_err-_exps-in-Ok.ensures.refused (λ r k. skeletons.none_refused tables.changes (skeletons.skeleton_of tables.changes c.args.tokens.now 512 c.args.at c.in-Ok._end q.exps q.attributes f.read f.made) k)

pub tables::change_again-returns-in-Ok-clause-refused : goal.tables::change_again-returns-in-Ok-clause-refused
tables::change_again-returns-in-Ok-clause-refused t c = λ h. let f = c.in-Ok.ensures.found in let q = c.new-quotes.ensures in let a = c.in_ok-_exps-in-Ok.ensures.found in let l = c.if-depth-gt-MAX_SQL_NESTING.false in
    made_deep _ c.too_deep.ensures (λ r k. skeletons.open_beyond tables.changes (skeletons.skeleton_of tables.changes c.args.tokens.now 512 c.args.at c.in-Ok._end q.exps q.attributes f.read f.made) (512 - c.args.depth) c.args.depth (omega arith) (omega (arith, l)) k
    a.exps_read.known a.attributes_read.known (skeletons.first_deep tables.changes c.args.depth (drop c.args.at c.args.tokens.now) c.args.first h c.in_ok-deeper.ensures.found))

pub tables::change_again-returns-clause-refused : goal.tables::change_again-returns-clause-refused
tables::change_again-returns-clause-refused t c = λ h. skeletons.refusal_map _ c.plain.ensures (λ q k. skeletons.first_none tables.changes 512 c.args.depth (drop c.args.at c.args.tokens.now) c.in-Err.refused q c.in-Err.ensures.refused k)
