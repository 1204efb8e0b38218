-- The rules of SQL with raw code and with expressions, one beside the other.
use Rattle.std.specs.Prelude.{◌≡◌, ℕ, true, false, Bool, List, [], ◌∷◌, Option, Some, None, codes, refl}
use Rattle.std.specs.List.{AllZip, AllByRecursion}
use Rattle.std.proofs.Common.{ap, subst, ◌∙◌}
use Rattle.ur_base.specs.declared.refusal.Span.{Span}
use Rattle.ur_lex.specs.declared.token.Symbol.{Symbol}
use Rattle.ur_lex.specs.declared.token.Symbol.TheVariants as symbol
use Rattle.ur_lex.specs.declared.token.TokenKind.TheVariants as token
use Rattle.ur_lex.specs.Spelling.{Text}
use Rattle.ur_syntax.specs.declared.exp.Exp.{Exp}
use Rattle.ur_syntax.specs.declared.sql.SqlExp.{SqlExp}
use Rattle.ur_syntax.specs.declared.sql.SqlForm.TheVariants as form
use Rattle.ur_syntax.specs.declared.sql.SqlBinary.{SqlBinary}
use Rattle.ur_syntax.specs.declared.sql.SqlBinary.TheVariants as op
use Rattle.ur_syntax.specs.declared.sql.DeclName.{DeclName}
use Rattle.ur_syntax.specs.declared.sql.Selection.{Selection}
use Rattle.ur_syntax.specs.declared.sql.Selection.TheVariants as selections
use Rattle.ur_syntax.specs.declared.sql.Assignment.{Assignment}
use Rattle.ur_syntax.specs.declared.sql.OrderKey.{OrderKey}
use Rattle.ur_syntax.specs.declared.sql.Limit.{Limit}
use Rattle.ur_syntax.specs.declared.sql.Selected.TheVariants as select
use Rattle.ur_syntax.specs.declared.sql.Aggregate.{Aggregate}
use Rattle.ur_syntax.specs.declared.sql.Aggregate.TheVariants as aggregates
use Rattle.ur_syntax.specs.declared.sql.FromItem.{FromItem}
use Rattle.ur_syntax.specs.declared.sql.Limit.TheVariants as limits
use Rattle.ur_parse_rules.specs.Rules.{Slot, mark, word, name as named, number, one}
use Rattle.ur_parse_rules.specs.Places.{any}
use Rattle.ur_parse_rules.specs.Words.{is_field}
use Rattle.ur_parse_rules.specs.Forms.{up_to}
use Rattle.ur_parse_rules.specs.Quoted.{expressions, raw, Raw, Quoted, mapped, both, apply, cons, some}
use Rattle.ur_parse_rules.specs.SqlParts as s
use Rattle.ur_parse_rules.specs.Parts.{SqlRight, compared, null, SqlStep}
use Rattle.ur_parse_rules.specs.SqlExpressions.{sided, grouped, null_test, compare, column_of, negated, minus, some_of, anti_of, symbol_step, word_step, compares, steps, operands}
use Rattle.ur_parse_rules.specs.Statements.{sql_rules, decl_name, aggregate_rule, renamed, aggregated, on_condition, key_of, clauses, query_with, query_of, assigned, inserted, updated, deleted}
use Rattle.ur_parse_embed_code.specs.Filled.{Fills, AllKnown}
use Rattle.ur_parse_embed_code.proofs.Filling.{plain_fills, plain_same, antiquote_fills, mapped_fills, both_fills, deeper_fills, deeper_known, first_known, second_known}
use Rattle.ur_parse_embed_code.proofs.Twins.{Twin, sql, code, StepTwin, RightTwin, RightKnown, RuleTwin, twin, AllTwin}

abbrev pub sub : s.SqlPart → Slot Twin
sub p = one (sql p)

abbrev pub sign : Symbol → Slot Twin
sign k = mark (token.Symbol k)

abbrev pub capitals : Text → Slot Twin
capitals w = word token.Upper w

stepped : (n : ℕ) (begin : Span) (a : Quoted Raw SqlExp) (b : Quoted Exp SqlExp) (t : SqlStep Raw) (u : SqlStep Exp) → Fills n a b → StepTwin n t u →
    Fills n (both (sided (up_to begin t.span) t.op) a t.right) (both (sided (up_to begin u.span) u.op) b u.right)
stepped n begin a b t u h (e, f, k) =
    subst (λ z. Fills n (both (sided (up_to begin t.span) t.op) a t.right) (both (sided (up_to begin z) u.op) b u.right)) e
    (subst (λ z. Fills n (both (sided (up_to begin t.span) t.op) a t.right) (both (sided (up_to begin t.span) z) b u.right)) f (both_fills n (sided (up_to begin t.span) t.op) h k))

grouped_fills : (n : ℕ) (begin : Span) (a : Quoted Raw SqlExp) (b : Quoted Exp SqlExp) (ts : List (SqlStep Raw)) (us : List (SqlStep Exp)) → Fills n a b → AllZip (StepTwin n) ts us →
    Fills n (grouped begin a ts) (grouped begin b us)
grouped_fills n begin a b [] [] h k = h
grouped_fills n begin a b [] (u ∷ us) h k = elim k [ ]
grouped_fills n begin a b (t ∷ ts) [] h k = elim k [ ]
grouped_fills n begin a b (t ∷ ts) (u ∷ us) h k =
    grouped_fills n begin (both (sided (up_to begin t.span) t.op) a t.right) (both (sided (up_to begin u.span) u.op) b u.right) ts us (stepped n begin a b t u h k.0) k.1

grouped_known : (may : Bool) (n : ℕ) (begin : Span) (a : Quoted Raw SqlExp) (ts : List (SqlStep Raw)) → AllKnown may n (grouped begin a ts) → AllKnown may n a × AllByRecursion (λ (t : SqlStep Raw). AllKnown may n t.right) ts
grouped_known may n begin a [] k = (k, tt)
grouped_known may n begin a (t ∷ ts) k =
    let f = sided (up_to begin t.span) t.op in let r = grouped_known may n begin (both f a t.right) ts k in
    (first_known n may f a t.right r.0, (second_known n may f a t.right r.0, r.1))

compare_fills : (n : ℕ) (span : Span) (a : Quoted Raw SqlExp) (b : Quoted Exp SqlExp) (t : Option (SqlRight Raw)) (u : Option (SqlRight Exp)) → Fills n a b → RightTwin n t u → Fills n (compare span a t) (compare span b u)
compare_fills n span a b None None h k = h
compare_fills n span a b None (Some (compared o c)) h k = elim k [ ]
compare_fills n span a b None (Some (null c)) h k = elim k [ ]
compare_fills n span a b (Some (compared o c)) None h k = elim k [ ]
compare_fills n span a b (Some (null c)) None h k = elim k [ ]
compare_fills n span a b (Some (compared o c)) (Some (compared u d)) h k = subst (λ z. Fills n (both (sided span o) a c) (both (sided span z) b d)) k.0 (both_fills n (sided span o) h k.1)
compare_fills n span a b (Some (compared o c)) (Some (null d)) h k = elim k [ ]
compare_fills n span a b (Some (null c)) (Some (compared u d)) h k = elim k [ ]
compare_fills n span a b (Some (null c)) (Some (null d)) h k = subst (λ z. Fills n (mapped (null_test span c) a) (mapped (null_test span z) b)) k (mapped_fills n (null_test span c) h)

compare_known : (may : Bool) (n : ℕ) (span : Span) (a : Quoted Raw SqlExp) (t : Option (SqlRight Raw)) → AllKnown may n (compare span a t) → AllKnown may n a × RightKnown may n t
compare_known may n span a None k = (k, tt)
compare_known may n span a (Some (compared o b)) k = (first_known n may (sided span o) a b k, second_known n may (sided span o) a b k)
compare_known may n span a (Some (null b)) k = (k, tt)

symbol_twin : (bare : Bool) (l : s.SqlLevel) (k : Symbol) (o : SqlBinary) → RuleTwin (sql (s.left_step bare l)) (symbol_step raw bare l k o) (symbol_step expressions bare l k o)
symbol_twin bare l k o = twin (sign k ∷ sub (s.operand bare l) ∷ []) refl refl (λ n v w h. refl) (λ n span v w h. (refl, refl, h.0)) (λ may n span v k. (k, tt))

word_twin : (bare : Bool) (l : s.SqlLevel) (t : Text) (o : SqlBinary) → RuleTwin (sql (s.left_step bare l)) (word_step raw bare l t o) (word_step expressions bare l t o)
word_twin bare l t o = twin (capitals t ∷ sub (s.operand bare l) ∷ []) refl refl (λ n v w h. refl) (λ n span v w h. (refl, refl, h.0)) (λ may n span v k. (k, tt))

compares_twin : (bare : Bool) (k : Symbol) (o : SqlBinary) → RuleTwin (sql (s.comparison_tail bare)) (compares raw bare k o) (compares expressions bare k o)
compares_twin bare k o = twin (sign k ∷ sub (s.left bare s.sum) ∷ []) refl refl (λ n v w h. refl) (λ n span v w h. (refl, h.0)) (λ may n span v k. (k, tt))

aggregate_twin : (t : Text) (f : SqlExp → Aggregate) → RuleTwin (sql s.aggregate) (aggregate_rule raw t f) (aggregate_rule expressions t f)
aggregate_twin t f = twin (capitals t ∷ sign symbol.LParen ∷ sub (s.sexp false) ∷ sign symbol.RParen ∷ []) refl refl (λ n v w h. refl) (λ n span v w h. mapped_fills n f h.0) (λ may n span v k. (k, tt))

steps_twins : (bare : Bool) (l : s.SqlLevel) → AllTwin (sql (s.left_step bare l)) (steps raw bare l) (steps expressions bare l)
steps_twins bare s.disjunction = (word_twin bare s.disjunction (codes "OR") op.Or, tt)
steps_twins bare s.conjunction = (word_twin bare s.conjunction (codes "AND") op.And, tt)
steps_twins bare s.sum = (symbol_twin bare s.sum symbol.Plus op.Add, (symbol_twin bare s.sum symbol.Minus op.Sub, tt))
steps_twins bare s.product = (symbol_twin bare s.product symbol.Star op.Mul, tt)

operand_twins : (bare : Bool) (l : s.SqlLevel) → AllTwin (sql (s.operand bare l)) (operands raw bare l) (operands expressions bare l)
operand_twins bare s.disjunction = (twin (sub (s.left bare s.conjunction) ∷ []) refl refl (λ n v w h. refl) (λ n span v w h. h.0) (λ may n span v k. (k, tt)), tt)
operand_twins bare s.conjunction = (twin (sub (s.negation bare) ∷ []) refl refl (λ n v w h. refl) (λ n span v w h. h.0) (λ may n span v k. (k, tt)), tt)
operand_twins bare s.sum = (twin (sub (s.left bare s.product) ∷ []) refl refl (λ n v w h. refl) (λ n span v w h. h.0) (λ may n span v k. (k, tt)), tt)
operand_twins bare s.product = (twin (sub (s.negative bare) ∷ []) refl refl (λ n v w h. refl) (λ n span v w h. h.0) (λ may n span v k. (k, tt)), tt)

-- ---- expressions

pub exp_twins : (bare : Bool) → AllTwin (sql (s.sexp bare)) (sql_rules raw (s.sexp bare)) (sql_rules expressions (s.sexp bare))
exp_twins bare = (twin (sub (s.left bare s.disjunction) ∷ []) refl refl (λ n v w h. refl) (λ n span v w h. deeper_fills n h.0) (λ may n span v k. (deeper_known n may v.0 k, tt)), tt)

pub left_twins : (bare : Bool) (l : s.SqlLevel) → AllTwin (sql (s.left bare l)) (sql_rules raw (s.left bare l)) (sql_rules expressions (s.left bare l))
left_twins bare l = (
  twin (sub (s.operand bare l) ∷ sub (s.left_tail bare l) ∷ []) refl refl (λ n v w h. refl) (λ n span v w h. grouped_fills n span v.0 w.0 v.1.0 w.1.0 h.0 h.1.0)
      (λ may n span v k. let r = grouped_known may n span v.0 v.1.0 k in (r.0, (r.1, tt))),
  tt,
)

pub left_tail_twins : (bare : Bool) (l : s.SqlLevel) → AllTwin (sql (s.left_tail bare l)) (sql_rules raw (s.left_tail bare l)) (sql_rules expressions (s.left_tail bare l))
left_tail_twins bare l = (
  twin [] refl refl (λ n v w h. refl) (λ n span v w h. tt) (λ may n span v k. tt),
  (
    twin (sub (s.left_step bare l) ∷ sub (s.left_tail bare l) ∷ []) refl refl (λ n v w h. refl) (λ n span v w h. (h.0, h.1.0)) (λ may n span v k. (k.0, (k.1, tt))),
    tt,
  ),
)

pub negation_twins : (bare : Bool) → AllTwin (sql (s.negation bare)) (sql_rules raw (s.negation bare)) (sql_rules expressions (s.negation bare))
negation_twins bare = (
  twin (capitals (codes "NOT") ∷ sub (s.negation bare) ∷ []) refl refl (λ n v w h. refl) (λ n span v w h. mapped_fills n (negated span) h.0) (λ may n span v k. (k, tt)),
  (
    twin (sub (s.comparison bare) ∷ []) refl refl (λ n v w h. refl) (λ n span v w h. h.0) (λ may n span v k. (k, tt)),
    tt,
  ),
)

pub comparison_twins : (bare : Bool) → AllTwin (sql (s.comparison bare)) (sql_rules raw (s.comparison bare)) (sql_rules expressions (s.comparison bare))
comparison_twins bare = (
  twin (sub (s.left bare s.sum) ∷ sub (s.comparison_tail bare) ∷ []) refl refl (λ n v w h. refl) (λ n span v w h. compare_fills n span v.0 w.0 v.1.0 w.1.0 h.0 h.1.0)
      (λ may n span v k. let r = compare_known may n span v.0 v.1.0 k in (r.0, (r.1, tt))),
  tt,
)

pub tail_twins : (bare : Bool) → AllTwin (sql (s.comparison_tail bare)) (sql_rules raw (s.comparison_tail bare)) (sql_rules expressions (s.comparison_tail bare))
tail_twins bare = (
  twin [] refl refl (λ n v w h. refl) (λ n span v w h. tt) (λ may n span v k. tt),
  (
    compares_twin bare symbol.Eq op.Eq,
    (
      compares_twin bare symbol.Ne op.Ne,
      (
        compares_twin bare symbol.Lt op.Lt,
        (
          compares_twin bare symbol.Le op.Le,
          (
            compares_twin bare symbol.Gt op.Gt,
            (
              compares_twin bare symbol.Ge op.Ge,
              (
                twin (capitals (codes "IS") ∷ sub s.is_rest ∷ []) refl refl (λ n v w h. refl) (λ n span v w h. h.0) (λ may n span v k. (tt, tt)),
                tt,
              ),
            ),
          ),
        ),
      ),
    ),
  ),
)

pub is_twins : AllTwin (sql s.is_rest) (sql_rules raw s.is_rest) (sql_rules expressions s.is_rest)
is_twins = (
  twin (capitals (codes "NULL") ∷ []) refl refl (λ n v w h. refl) (λ n span v w h. refl) (λ may n span v k. tt),
  (
    twin (capitals (codes "NOT") ∷ capitals (codes "NULL") ∷ []) refl refl (λ n v w h. refl) (λ n span v w h. refl) (λ may n span v k. tt),
    tt,
  ),
)

pub negative_twins : (bare : Bool) → AllTwin (sql (s.negative bare)) (sql_rules raw (s.negative bare)) (sql_rules expressions (s.negative bare))
negative_twins bare = (
  twin (sign symbol.Minus ∷ sub (s.negative bare) ∷ []) refl refl (λ n v w h. refl) (λ n span v w h. mapped_fills n (minus span) h.0) (λ may n span v k. (k, tt)),
  (
    twin (sub (s.atom bare) ∷ []) refl refl (λ n v w h. refl) (λ n span v w h. h.0) (λ may n span v k. (k, tt)),
    tt,
  ),
)

pub atom_twins : (bare : Bool) → AllTwin (sql (s.atom bare)) (sql_rules raw (s.atom bare)) (sql_rules expressions (s.atom bare))
atom_twins bare = (
  twin (number ∷ []) refl refl (λ n v w h. refl) (λ n span v w h. plain_same n (ap (λ z. record { span = span; form = form.Int z }) h.0)) (λ may n span v k. tt),
  (
    twin (named token.SqlText any ∷ []) refl refl (λ n v w h. refl) (λ n span v w h. plain_same n (ap (λ z. record { span = span; form = form.Str z }) h.0)) (λ may n span v k. tt),
    (
      twin (capitals (codes "TRUE") ∷ []) refl refl (λ n v w h. refl) (λ n span v w h. plain_fills n _) (λ may n span v k. tt),
      (
        twin (capitals (codes "FALSE") ∷ []) refl refl (λ n v w h. refl) (λ n span v w h. plain_fills n _) (λ may n span v k. tt),
        (
          twin (capitals (codes "NULL") ∷ []) refl refl (λ n v w h. refl) (λ n span v w h. plain_fills n _) (λ may n span v k. tt),
          (
            twin (capitals (codes "SOME") ∷ sign symbol.LParen ∷ sub (s.sexp bare) ∷ sign symbol.RParen ∷ []) refl refl (λ n v w h. refl) (λ n span v w h. mapped_fills n (some_of span) h.0) (λ may n span v k. (k, tt)),
            (
              twin (sub (s.column bare) ∷ []) refl refl (λ n v w h. refl) (λ n span v w h. plain_same n h.0) (λ may n span v k. (tt, tt)),
              (
                twin (sub s.anti ∷ []) refl refl (λ n v w h. refl) (λ n span v w h. mapped_fills n (anti_of span) (antiquote_fills n h.0)) (λ may n span v k. (k.0.0, tt)),
                (
                  twin (sign symbol.LParen ∷ sub (s.sexp bare) ∷ sign symbol.RParen ∷ []) refl refl (λ n v w h. refl) (λ n span v w h. h.0) (λ may n span v k. (k, tt)),
                  tt,
                ),
              ),
            ),
          ),
        ),
      ),
    ),
  ),
)

pub column_twins : (bare : Bool) → AllTwin (sql (s.column bare)) (sql_rules raw (s.column bare)) (sql_rules expressions (s.column bare))
column_twins true = (
  twin (named token.Lower any ∷ sign symbol.Dot ∷ named token.Upper is_field ∷ []) refl refl (λ n v w h. refl)
      (λ n span v w h. ap (λ z. column_of span z (Some v.1.0)) h.0 ∙ ap (λ z. column_of span w.0 (Some z)) h.1.0) (λ may n span v k. tt),
  (
    twin (named token.Upper is_field ∷ sub s.qualifier ∷ []) refl refl (λ n v w h. refl)
        (λ n span v w h. ap (λ z. column_of span z v.1.0) h.0 ∙ ap (λ z. column_of span w.0 z) h.1.0) (λ may n span v k. (tt, tt)),
    tt,
  ),
)
column_twins false = (
  twin (named token.Lower any ∷ sign symbol.Dot ∷ named token.Upper is_field ∷ []) refl refl (λ n v w h. refl)
      (λ n span v w h. ap (λ z. column_of span z (Some v.1.0)) h.0 ∙ ap (λ z. column_of span w.0 (Some z)) h.1.0) (λ may n span v k. tt),
  (
    twin (named token.Upper is_field ∷ sign symbol.Dot ∷ named token.Upper is_field ∷ []) refl refl (λ n v w h. refl)
        (λ n span v w h. ap (λ z. column_of span z (Some v.1.0)) h.0 ∙ ap (λ z. column_of span w.0 (Some z)) h.1.0) (λ may n span v k. tt),
    tt,
  ),
)

pub qualifier_twins : AllTwin (sql s.qualifier) (sql_rules raw s.qualifier) (sql_rules expressions s.qualifier)
qualifier_twins = (
  twin [] refl refl (λ n v w h. refl) (λ n span v w h. refl) (λ may n span v k. tt),
  (
    twin (sign symbol.Dot ∷ named token.Upper is_field ∷ []) refl refl (λ n v w h. refl) (λ n span v w h. ap (λ z. Some z) h.0) (λ may n span v k. tt),
    tt,
  ),
)

pub anti_twins : AllTwin (sql s.anti) (sql_rules raw s.anti) (sql_rules expressions s.anti)
anti_twins = (
  twin (sign symbol.LBrace ∷ sign symbol.LBracket ∷ one code ∷ sign symbol.RBracket ∷ sign symbol.RBrace ∷ []) refl refl (λ n v w h. refl) (λ n span v w h. h.0) (λ may n span v k. (k, tt)),
  tt,
)

-- ---- queries

pub name_twins : AllTwin (sql s.name) (sql_rules raw s.name) (sql_rules expressions s.name)
name_twins = (
  twin (named token.Lower any ∷ []) refl refl (λ n v w h. refl) (λ n span v w h. ap (λ z. decl_name span None z) h.0) (λ may n span v k. tt),
  (
    twin (named token.Upper any ∷ sign symbol.Dot ∷ named token.Lower any ∷ []) refl refl (λ n v w h. refl)
        (λ n span v w h. ap (λ z. decl_name span (Some z) v.1.0) h.0 ∙ ap (λ z. decl_name span (Some w.0) z) h.1.0) (λ may n span v k. tt),
    tt,
  ),
)

query_fills : (n : ℕ) (span : Span) (a : Quoted Raw Selection) (b : Quoted Exp Selection) (i j : FromItem) (is : Quoted Raw (List FromItem)) (js : Quoted Exp (List FromItem))
    (f : Quoted Raw (Option SqlExp)) (g : Quoted Exp (Option SqlExp)) (cs ds : List SqlExp) (ks : Quoted Raw (List OrderKey)) (ms : Quoted Exp (List OrderKey))
    (l : Quoted Raw (Option Limit)) (m : Quoted Exp (Option Limit)) (o : Quoted Raw (Option Limit)) (u : Quoted Exp (Option Limit)) →
    Fills n a b → i ≡ j → Fills n is js → Fills n f g → cs ≡ ds → Fills n ks ms → Fills n l m → Fills n o u →
    Fills n (query_of span a i is f cs ks l o) (query_of span b j js g ds ms m u)
query_fills n span a b i j is js f g cs ds ks ms l m o u p e q r c s t v =
    subst (λ z. Fills n (query_of span a i is f cs ks l o) (query_of span b z js g ds ms m u)) e
    (subst (λ z. Fills n (query_of span a i is f cs ks l o) (query_of span b i js g z ms m u)) c
    (both_fills n apply (both_fills n (query_with span i cs) p q) (both_fills n apply (both_fills n apply (both_fills n clauses r s) t) v)))

query_known : (may : Bool) (n : ℕ) (span : Span) (a : Quoted Raw Selection) (i : FromItem) (is : Quoted Raw (List FromItem)) (f : Quoted Raw (Option SqlExp)) (cs : List SqlExp) (ks : Quoted Raw (List OrderKey))
    (l o : Quoted Raw (Option Limit)) → AllKnown may n (query_of span a i is f cs ks l o) → AllKnown may n a × AllKnown may n is × AllKnown may n f × AllKnown may n ks × AllKnown may n l × AllKnown may n o
query_known may n span a i is f cs ks l o k =
    let what = both (query_with span i cs) a is in let order = both clauses f ks in let limited = both apply order l in let tail = both apply limited o in
    let x = first_known n may apply what tail k in let y = second_known n may apply what tail k in
    let z = first_known n may apply limited o y in let w = first_known n may apply order l z in
    (first_known n may (query_with span i cs) a is x, second_known n may (query_with span i cs) a is x, first_known n may clauses f ks w, second_known n may clauses f ks w, second_known n may apply order l z, second_known n may apply limited o y)

pub query_twins : AllTwin (sql s.query) (sql_rules raw s.query) (sql_rules expressions s.query)
query_twins = (
  twin (capitals (codes "SELECT") ∷ sub s.selection ∷ capitals (codes "FROM") ∷ sub s.item ∷ sub s.more_items ∷ sub (s.filter false) ∷ sub s.group ∷ sub s.order ∷ sub s.limit ∷ sub s.offset ∷ []) refl refl (λ n v w h. refl)
      (λ n span (a, (i, (is, (f, (cs, (ks, (l, (o, _)))))))) (b, (j, (js, (g, (ds, (ms, (m, (u, _)))))))) (p, (e, (q, (r, (c, (s, (t, (v, _)))))))).
      query_fills n span a b i j is js f g cs ds ks ms l m o u p e q r c s t v)
      (λ may n span (a, (i, (is, (f, (cs, (ks, (l, (o, _)))))))) k. let r = query_known may n span a i is f cs ks l o k in (r.0, (tt, (r.1, (r.2, (tt, (r.3, (r.4, (r.5, tt))))))))),
  tt,
)

pub selection_twins : AllTwin (sql s.selection) (sql_rules raw s.selection) (sql_rules expressions s.selection)
selection_twins = (
  twin (sign symbol.Star ∷ []) refl refl (λ n v w h. refl) (λ n span v w h. plain_fills n _) (λ may n span v k. tt),
  (
    twin (sub s.selected ∷ sub s.more_selected ∷ []) refl refl (λ n v w h. refl) (λ n span v w h. mapped_fills n (λ l. selections.Items l) (both_fills n cons h.0 h.1.0))
        (λ may n span v k. (first_known n may cons v.0 v.1.0 k, (second_known n may cons v.0 v.1.0 k, tt))),
    tt,
  ),
)

pub selected_twins : AllTwin (sql s.selected) (sql_rules raw s.selected) (sql_rules expressions s.selected)
selected_twins = (
  twin (sub (s.column false) ∷ []) refl refl (λ n v w h. refl) (λ n span v w h. plain_same n (ap (λ z. select.Column z) h.0)) (λ may n span v k. (tt, tt)),
  (
    twin (sub (s.sexp false) ∷ capitals (codes "AS") ∷ named token.Upper is_field ∷ []) refl refl (λ n v w h. refl)
        (λ n span v w h. subst (λ z. Fills n (mapped (renamed v.1.0) v.0) (mapped (renamed z) w.0)) h.1.0 (mapped_fills n (renamed v.1.0) h.0)) (λ may n span v k. (k, tt)),
    (
      twin (sub s.aggregate ∷ capitals (codes "AS") ∷ named token.Upper is_field ∷ []) refl refl (λ n v w h. refl)
          (λ n span v w h. subst (λ z. Fills n (mapped (aggregated span v.1.0) v.0) (mapped (aggregated span z) w.0)) h.1.0 (mapped_fills n (aggregated span v.1.0) h.0)) (λ may n span v k. (k, tt)),
      tt,
    ),
  ),
)

pub more_selected_twins : AllTwin (sql s.more_selected) (sql_rules raw s.more_selected) (sql_rules expressions s.more_selected)
more_selected_twins = (
  twin [] refl refl (λ n v w h. refl) (λ n span v w h. plain_fills n _) (λ may n span v k. tt),
  (
    twin (sign symbol.Comma ∷ sub s.selected ∷ sub s.more_selected ∷ []) refl refl (λ n v w h. refl) (λ n span v w h. both_fills n cons h.0 h.1.0)
        (λ may n span v k. (first_known n may cons v.0 v.1.0 k, (second_known n may cons v.0 v.1.0 k, tt))),
    tt,
  ),
)

pub aggregate_twins : AllTwin (sql s.aggregate) (sql_rules raw s.aggregate) (sql_rules expressions s.aggregate)
aggregate_twins = (
  twin (capitals (codes "COUNT") ∷ sign symbol.LParen ∷ sign symbol.Star ∷ sign symbol.RParen ∷ []) refl refl (λ n v w h. refl) (λ n span v w h. plain_fills n _) (λ may n span v k. tt),
  (
    aggregate_twin (codes "SUM") (λ a. aggregates.Sum a),
    (
      aggregate_twin (codes "MIN") (λ a. aggregates.Min a),
      (
        aggregate_twin (codes "MAX") (λ a. aggregates.Max a),
        tt,
      ),
    ),
  ),
)

pub item_twins : AllTwin (sql s.item) (sql_rules raw s.item) (sql_rules expressions s.item)
item_twins = (
  twin (sub s.name ∷ sub s.alias ∷ []) refl refl (λ n v w h. refl)
      (λ n span v w h. ap (λ z. record { span = span; table = z; alias = v.1.0; on = None }) h.0 ∙ ap (λ z. record { span = span; table = w.0; alias = z; on = None }) h.1.0) (λ may n span v k. (tt, (tt, tt))),
  tt,
)

pub alias_twins : AllTwin (sql s.alias) (sql_rules raw s.alias) (sql_rules expressions s.alias)
alias_twins = (
  twin [] refl refl (λ n v w h. refl) (λ n span v w h. refl) (λ may n span v k. tt),
  (
    twin (capitals (codes "AS") ∷ named token.Upper is_field ∷ []) refl refl (λ n v w h. refl) (λ n span v w h. ap (λ z. Some z) h.0) (λ may n span v k. tt),
    tt,
  ),
)

pub more_items_twins : AllTwin (sql s.more_items) (sql_rules raw s.more_items) (sql_rules expressions s.more_items)
more_items_twins = (
  twin [] refl refl (λ n v w h. refl) (λ n span v w h. plain_fills n _) (λ may n span v k. tt),
  (
    twin (sign symbol.Comma ∷ sub s.item ∷ sub s.more_items ∷ []) refl refl (λ n v w h. refl)
        (λ n span v w h. subst (λ z. Fills n (mapped (cons v.0) v.1.0) (mapped (cons z) w.1.0)) h.0 (mapped_fills n (cons v.0) h.1.0)) (λ may n span v k. (tt, (k, tt))),
    (
      twin (capitals (codes "JOIN") ∷ sub s.item ∷ capitals (codes "ON") ∷ sub (s.sexp false) ∷ sub s.more_items ∷ []) refl refl (λ n v w h. refl)
          (λ n span v w h. subst (λ z. Fills n (both cons (mapped (on_condition v.0) v.1.0) v.1.1.0) (both cons (mapped (on_condition z) w.1.0) w.1.1.0)) h.0
          (both_fills n cons (mapped_fills n (on_condition v.0) h.1.0) h.1.1.0))
          (λ may n span v k. let a = mapped (on_condition v.0) v.1.0 in (tt, (first_known n may cons a v.1.1.0 k, (second_known n may cons a v.1.1.0 k, tt)))),
      tt,
    ),
  ),
)

pub filter_twins : (bare : Bool) → AllTwin (sql (s.filter bare)) (sql_rules raw (s.filter bare)) (sql_rules expressions (s.filter bare))
filter_twins bare = (
  twin [] refl refl (λ n v w h. refl) (λ n span v w h. plain_fills n _) (λ may n span v k. tt),
  (
    twin (capitals (codes "WHERE") ∷ sub (s.sexp bare) ∷ []) refl refl (λ n v w h. refl) (λ n span v w h. mapped_fills n some h.0) (λ may n span v k. (k, tt)),
    tt,
  ),
)

pub group_twins : AllTwin (sql s.group) (sql_rules raw s.group) (sql_rules expressions s.group)
group_twins = (
  twin [] refl refl (λ n v w h. refl) (λ n span v w h. refl) (λ may n span v k. tt),
  (
    twin (capitals (codes "GROUP") ∷ capitals (codes "BY") ∷ sub (s.column false) ∷ sub s.more_columns ∷ []) refl refl (λ n v w h. refl)
        (λ n span v w h. ap (λ z. z ∷ v.1.0) h.0 ∙ ap (λ z. w.0 ∷ z) h.1.0) (λ may n span v k. (tt, (tt, tt))),
    tt,
  ),
)

pub more_columns_twins : AllTwin (sql s.more_columns) (sql_rules raw s.more_columns) (sql_rules expressions s.more_columns)
more_columns_twins = (
  twin [] refl refl (λ n v w h. refl) (λ n span v w h. refl) (λ may n span v k. tt),
  (
    twin (sign symbol.Comma ∷ sub (s.column false) ∷ sub s.more_columns ∷ []) refl refl (λ n v w h. refl)
        (λ n span v w h. ap (λ z. z ∷ v.1.0) h.0 ∙ ap (λ z. w.0 ∷ z) h.1.0) (λ may n span v k. (tt, (tt, tt))),
    tt,
  ),
)

pub order_twins : AllTwin (sql s.order) (sql_rules raw s.order) (sql_rules expressions s.order)
order_twins = (
  twin [] refl refl (λ n v w h. refl) (λ n span v w h. plain_fills n _) (λ may n span v k. tt),
  (
    twin (capitals (codes "ORDER") ∷ capitals (codes "BY") ∷ sub s.order_key ∷ sub s.more_keys ∷ []) refl refl (λ n v w h. refl) (λ n span v w h. both_fills n cons h.0 h.1.0)
        (λ may n span v k. (first_known n may cons v.0 v.1.0 k, (second_known n may cons v.0 v.1.0 k, tt))),
    tt,
  ),
)

pub order_key_twins : AllTwin (sql s.order_key) (sql_rules raw s.order_key) (sql_rules expressions s.order_key)
order_key_twins = (
  twin (sub (s.sexp false) ∷ sub s.direction ∷ []) refl refl (λ n v w h. refl)
      (λ n span v w h. subst (λ z. Fills n (mapped (key_of v.1.0) v.0) (mapped (key_of z) w.0)) h.1.0 (mapped_fills n (key_of v.1.0) h.0)) (λ may n span v k. (k, (tt, tt))),
  tt,
)

pub direction_twins : AllTwin (sql s.direction) (sql_rules raw s.direction) (sql_rules expressions s.direction)
direction_twins = (
  twin [] refl refl (λ n v w h. refl) (λ n span v w h. refl) (λ may n span v k. tt),
  (
    twin (capitals (codes "ASC") ∷ []) refl refl (λ n v w h. refl) (λ n span v w h. refl) (λ may n span v k. tt),
    (
      twin (capitals (codes "DESC") ∷ []) refl refl (λ n v w h. refl) (λ n span v w h. refl) (λ may n span v k. tt),
      tt,
    ),
  ),
)

pub more_keys_twins : AllTwin (sql s.more_keys) (sql_rules raw s.more_keys) (sql_rules expressions s.more_keys)
more_keys_twins = (
  twin [] refl refl (λ n v w h. refl) (λ n span v w h. plain_fills n _) (λ may n span v k. tt),
  (
    twin (sign symbol.Comma ∷ sub s.order_key ∷ sub s.more_keys ∷ []) refl refl (λ n v w h. refl) (λ n span v w h. both_fills n cons h.0 h.1.0)
        (λ may n span v k. (first_known n may cons v.0 v.1.0 k, (second_known n may cons v.0 v.1.0 k, tt))),
    tt,
  ),
)

pub limit_twins : AllTwin (sql s.limit) (sql_rules raw s.limit) (sql_rules expressions s.limit)
limit_twins = (
  twin [] refl refl (λ n v w h. refl) (λ n span v w h. plain_fills n _) (λ may n span v k. tt),
  (
    twin (capitals (codes "LIMIT") ∷ sub s.amount ∷ []) refl refl (λ n v w h. refl) (λ n span v w h. mapped_fills n some h.0) (λ may n span v k. (k, tt)),
    tt,
  ),
)

pub offset_twins : AllTwin (sql s.offset) (sql_rules raw s.offset) (sql_rules expressions s.offset)
offset_twins = (
  twin [] refl refl (λ n v w h. refl) (λ n span v w h. plain_fills n _) (λ may n span v k. tt),
  (
    twin (capitals (codes "OFFSET") ∷ sub s.amount ∷ []) refl refl (λ n v w h. refl) (λ n span v w h. mapped_fills n some h.0) (λ may n span v k. (k, tt)),
    tt,
  ),
)

pub amount_twins : AllTwin (sql s.amount) (sql_rules raw s.amount) (sql_rules expressions s.amount)
amount_twins = (
  twin (number ∷ []) refl refl (λ n v w h. refl) (λ n span v w h. plain_same n (ap (λ z. limits.Int z) h.0)) (λ may n span v k. tt),
  (
    twin (sub s.anti ∷ []) refl refl (λ n v w h. refl) (λ n span v w h. mapped_fills n (λ z. limits.Anti z) (antiquote_fills n h.0)) (λ may n span v k. (k.0.0, tt)),
    tt,
  ),
)

-- ---- changes

insert_fills : (n : ℕ) (span : Span) (t u : DeclName) (x y : Text) (xs ys : List Text) (a : Quoted Raw SqlExp) (b : Quoted Exp SqlExp) (as_ : Quoted Raw (List SqlExp)) (bs : Quoted Exp (List SqlExp)) →
    t ≡ u → x ≡ y → xs ≡ ys → Fills n a b → Fills n as_ bs → Fills n (mapped (inserted span t (x ∷ xs)) (both cons a as_)) (mapped (inserted span u (y ∷ ys)) (both cons b bs))
insert_fills n span t u x y xs ys a b as_ bs e f g h k =
    subst (λ z. Fills n (mapped (inserted span t (x ∷ xs)) (both cons a as_)) (mapped (inserted span z (y ∷ ys)) (both cons b bs))) e
    (subst (λ z. Fills n (mapped (inserted span t (x ∷ xs)) (both cons a as_)) (mapped (inserted span t (z ∷ ys)) (both cons b bs))) f
    (subst (λ z. Fills n (mapped (inserted span t (x ∷ xs)) (both cons a as_)) (mapped (inserted span t (x ∷ z)) (both cons b bs))) g
    (mapped_fills n (inserted span t (x ∷ xs)) (both_fills n cons h k))))

update_fills : (n : ℕ) (span : Span) (t u : DeclName) (a : Quoted Raw Assignment) (b : Quoted Exp Assignment) (as_ : Quoted Raw (List Assignment)) (bs : Quoted Exp (List Assignment))
    (f : Quoted Raw (Option SqlExp)) (g : Quoted Exp (Option SqlExp)) → t ≡ u → Fills n a b → Fills n as_ bs → Fills n f g →
    Fills n (both (updated span t) (both cons a as_) f) (both (updated span u) (both cons b bs) g)
update_fills n span t u a b as_ bs f g e h k l = subst (λ z. Fills n (both (updated span t) (both cons a as_) f) (both (updated span z) (both cons b bs) g)) e (both_fills n (updated span t) (both_fills n cons h k) l)

pub change_twins : AllTwin (sql s.change) (sql_rules raw s.change) (sql_rules expressions s.change)
change_twins = (
  twin (capitals (codes "INSERT") ∷ capitals (codes "INTO") ∷ sub s.name ∷ sign symbol.LParen ∷ named token.Upper is_field ∷ sub s.columns_end ∷ capitals (codes "VALUES") ∷ sign symbol.LParen ∷ sub (s.sexp false) ∷ sub s.values_end ∷ [])
      refl refl (λ n v w h. refl)
      (λ n span (t, (x, (xs, (a, (as_, _))))) (u, (y, (ys, (b, (bs, _))))) (e, (f, (g, (h, (k, _))))). insert_fills n span t u x y xs ys a b as_ bs e f g h k)
      (λ may n span (t, (x, (xs, (a, (as_, _))))) k. (tt, (tt, (first_known n may cons a as_ k, (second_known n may cons a as_ k, tt))))),
  (
    twin (capitals (codes "UPDATE") ∷ sub s.name ∷ capitals (codes "SET") ∷ sub s.assignment ∷ sub s.more_assignments ∷ sub (s.filter true) ∷ []) refl refl (λ n v w h. refl)
        (λ n span (t, (a, (as_, (f, _)))) (u, (b, (bs, (g, _)))) (e, (h, (k, (l, _)))). update_fills n span t u a b as_ bs f g e h k l)
        (λ may n span (t, (a, (as_, (f, _)))) k. let x = first_known n may (updated span t) (both cons a as_) f k in
        (tt, (first_known n may cons a as_ x, (second_known n may cons a as_ x, (second_known n may (updated span t) (both cons a as_) f k, tt))))),
    (
      twin (capitals (codes "DELETE") ∷ capitals (codes "FROM") ∷ sub s.name ∷ sub (s.filter true) ∷ []) refl refl (λ n v w h. refl)
          (λ n span v w h. subst (λ z. Fills n (mapped (deleted span v.0) v.1.0) (mapped (deleted span z) w.1.0)) h.0 (mapped_fills n (deleted span v.0) h.1.0)) (λ may n span v k. (tt, (k, tt))),
      tt,
    ),
  ),
)

pub columns_end_twins : AllTwin (sql s.columns_end) (sql_rules raw s.columns_end) (sql_rules expressions s.columns_end)
columns_end_twins = (
  twin (sign symbol.RParen ∷ []) refl refl (λ n v w h. refl) (λ n span v w h. refl) (λ may n span v k. tt),
  (
    twin (sign symbol.Comma ∷ named token.Upper is_field ∷ sub s.columns_end ∷ []) refl refl (λ n v w h. refl)
        (λ n span v w h. ap (λ z. z ∷ v.1.0) h.0 ∙ ap (λ z. w.0 ∷ z) h.1.0) (λ may n span v k. (tt, tt)),
    tt,
  ),
)

pub values_end_twins : AllTwin (sql s.values_end) (sql_rules raw s.values_end) (sql_rules expressions s.values_end)
values_end_twins = (
  twin (sign symbol.RParen ∷ []) refl refl (λ n v w h. refl) (λ n span v w h. plain_fills n _) (λ may n span v k. tt),
  (
    twin (sign symbol.Comma ∷ sub (s.sexp false) ∷ sub s.values_end ∷ []) refl refl (λ n v w h. refl) (λ n span v w h. both_fills n cons h.0 h.1.0)
        (λ may n span v k. (first_known n may cons v.0 v.1.0 k, (second_known n may cons v.0 v.1.0 k, tt))),
    tt,
  ),
)

pub assignment_twins : AllTwin (sql s.assignment) (sql_rules raw s.assignment) (sql_rules expressions s.assignment)
assignment_twins = (
  twin (named token.Upper is_field ∷ sign symbol.Eq ∷ sub (s.sexp true) ∷ []) refl refl (λ n v w h. refl)
      (λ n span v w h. subst (λ z. Fills n (mapped (assigned v.0) v.1.0) (mapped (assigned z) w.1.0)) h.0 (mapped_fills n (assigned v.0) h.1.0)) (λ may n span v k. (k, tt)),
  tt,
)

pub more_assignments_twins : AllTwin (sql s.more_assignments) (sql_rules raw s.more_assignments) (sql_rules expressions s.more_assignments)
more_assignments_twins = (
  twin [] refl refl (λ n v w h. refl) (λ n span v w h. plain_fills n _) (λ may n span v k. tt),
  (
    twin (sign symbol.Comma ∷ sub s.assignment ∷ sub s.more_assignments ∷ []) refl refl (λ n v w h. refl) (λ n span v w h. both_fills n cons h.0 h.1.0)
        (λ may n span v k. (first_known n may cons v.0 v.1.0 k, (second_known n may cons v.0 v.1.0 k, tt))),
    tt,
  ),
)

-- ---- all

pub sql_twins : (p : s.SqlPart) → AllTwin (sql p) (sql_rules raw p) (sql_rules expressions p)
sql_twins (s.sexp bare) = exp_twins bare
sql_twins (s.left bare l) = left_twins bare l
sql_twins (s.operand bare l) = operand_twins bare l
sql_twins (s.left_tail bare l) = left_tail_twins bare l
sql_twins (s.left_step bare l) = steps_twins bare l
sql_twins (s.negation bare) = negation_twins bare
sql_twins (s.comparison bare) = comparison_twins bare
sql_twins (s.comparison_tail bare) = tail_twins bare
sql_twins s.is_rest = is_twins
sql_twins (s.negative bare) = negative_twins bare
sql_twins (s.atom bare) = atom_twins bare
sql_twins (s.column bare) = column_twins bare
sql_twins s.qualifier = qualifier_twins
sql_twins s.anti = anti_twins
sql_twins s.name = name_twins
sql_twins s.query = query_twins
sql_twins s.selection = selection_twins
sql_twins s.selected = selected_twins
sql_twins s.more_selected = more_selected_twins
sql_twins s.aggregate = aggregate_twins
sql_twins s.item = item_twins
sql_twins s.alias = alias_twins
sql_twins s.more_items = more_items_twins
sql_twins (s.filter bare) = filter_twins bare
sql_twins s.group = group_twins
sql_twins s.more_columns = more_columns_twins
sql_twins s.order = order_twins
sql_twins s.order_key = order_key_twins
sql_twins s.direction = direction_twins
sql_twins s.more_keys = more_keys_twins
sql_twins s.limit = limit_twins
sql_twins s.offset = offset_twins
sql_twins s.amount = amount_twins
sql_twins s.change = change_twins
sql_twins s.columns_end = columns_end_twins
sql_twins s.values_end = values_end_twins
sql_twins s.assignment = assignment_twins
sql_twins s.more_assignments = more_assignments_twins
