-- The types of a fold at rows.
use Rattle.std.proofs.Common.{◌≡◌, ap, ap₂, sym, ◌∙◌, subst, ℕ, ◌<◌, nat_le, Bool, true, false, ◌&&◌, List, [], Some, Err}
use Rattle.std.specs.Prelude.{codes}
use Rattle.ur_base.specs.Stopping.{IfRefused}
use Rattle.ur_base.specs.declared.refusal.Refusal.{Refusal}
use Rattle.ur_base.specs.declared.refusal.Stop.{Stop}
use Rattle.ur_base.specs.declared.refusal.Stop.TheVariants as stop
use Rattle.ur_syntax.specs.declared.con.Con.{Con}
use Rattle.ur_syntax.specs.declared.kind.Kind.{Kind}
use Rattle.ur_rows.specs.declared.normal.Normal.{Normal}
use Rattle.ur_rows.specs.declared.normal.Normal.TheVariants as normal
use Rattle.ur_rows.specs.declared.normal.NormalType.{NormalType}
use Rattle.ur_rows.specs.declared.normal.Part.{Part}
use Rattle.ur_rows.proofs.Shapes.{fn-made}
use Rattle.ur_rows.specs.Nodes.{nodes, type_nodes, most_nodes}
use Rattle.ur_rows.specs.Normal.{nf, as_function}
use Rattle.ur_rows.specs.Put.{as_type, as_row, argument, put_type}
use Rattle.ur_rows.specs.Types.{at_row}
use Rattle.ur_rows_reduce.specs.declared.count.Halt.{Halt}
use Rattle.ur_rows_reduce.specs.declared.count.Halt.TheVariants as halt
use Rattle.ur_tree.specs.Env.{row_is_plain}
use Rattle.ur_tree.specs.Text.{row_text}
use Rattle.ur_typed_rules.specs.Scopes.{World, Scope}
use Rattle.ur_typed_rules.specs.Tests.{is_row}
use Rattle.ur_typed_rules.specs.Arguments.{BreaksRow}
use Rattle.ur_typed_rules.specs.Faults.{Fault, not_so, too_large}
use Rattle.ur_typed_rules.specs.Rules.{if_so, written_row}
use Rattle.ur_typed_rules.proofs.Options.{some_of}
use Rattle.ur_typed.specs.Faults.{BreaksFoldRow, no_row, row_not_plain}
use Rattle.ur_typed.specs.Folds.{fold_types}
use Rattle.ur_check_scopes.specs.declared.around.Around.{Around}
use Rattle.ur_check_scopes.specs.Views.{Stands, Refuses, StopIs, IsLarge}
use Rattle.ur_check_cases.specs.Steps.{TellsLarge}

-- the function that the code takes apart
function-made : (k : Kind) (c : Normal) → as_function (normal.Fn k c) ≡ as_type c
function-made k c = ap as_function (fn-made k c)

-- ---- a function at a row

pub large-told : (h : Halt) (s' : Stop) → h ≡ halt.TooLarge → ((names : List (List ℕ)) → StopIs names too_large s') → TellsLarge h s'
large-told h (stop.Refused r) e t = (e, t [])
large-told h stop.Memory e t = tt

pub halted-told : (h : Halt) (s' : Stop) (n : ℕ) → TellsLarge h s' → (h ≡ halt.TooLarge → most_nodes < n) → IfRefused {A = Unit {0}} (Err s') (λ x. IsLarge x × (most_nodes < n))
halted-told h (stop.Refused x) n t over = (t.1, over t.0)
halted-told h stop.Memory n t over = tt

-- in the body of the function
pub body-is : (f : Normal) (k : Kind) (c b : Normal) → f ≡ normal.Fn k c → b ≡ c → as_type b ≡ as_function f
body-is f k c b e h = ap as_type h ∙ sym (ap as_function e ∙ function-made k c)

pub body-made : (f : Normal) (k : Kind) (c b a : Normal) (r : List Part) (t : NormalType) → f ≡ normal.Fn k c → b ≡ c → a ≡ normal.Row r → t ≡ put_type (argument a) 0 (as_type b) → t ≡ at_row (as_function f) r
body-made f k c b a r t e h i g = g ∙ ap₂ (λ z u. put_type (argument z) 0 u) i (body-is f k c b e h)

pub body-large : (f : Normal) (k : Kind) (c b a : Normal) (r : List Part) (x : Refusal) → f ≡ normal.Fn k c → b ≡ c → a ≡ normal.Row r → IsLarge x × (most_nodes < type_nodes (put_type (argument a) 0 (as_type b))) → IsLarge x × (most_nodes < type_nodes (at_row (as_function f) r))
body-large f k c b a r x e h i g = (g.0, subst (λ z. most_nodes < type_nodes z) (ap₂ (λ z u. put_type (argument z) 0 u) i (body-is f k c b e h)) g.1)

-- ---- the row

pub no-row-there : (names : List (List ℕ)) (w : World) (s : Scope) (c : Con) (f : Fault) → BreaksRow w s c f → BreaksFoldRow names w s c f
no-row-there names w s c f h = no_row h

row-is : (w : World) (s : Scope) (c : Con) (r : List Part) → written_row w s c ≡ Some r → r ≡ as_row (nf s.names.cons c)
row-is w s c r h = of-so (nat_le (nodes (nf s.names.cons c)) w.most && is_row s.env (as_row (nf s.names.cons c))) (as_row (nf s.names.cons c)) r h
  where
    of-so : (b : Bool) (x y : List Part) → if_so b (Some x) ≡ Some y → y ≡ x
    of-so true x y e = sym (some_of e)
    of-so false x y e = cc

pub not-plain-told : (a : Around) (c : Con) (row : List Part) (s' : Stop) → ((w : World) (s : Scope) → Stands a w s → written_row w s c ≡ Some row) → row_is_plain row ≡ false →
    StopIs a.world.now.datatype_names (not_so (row_text a.world.now.datatype_names row) (codes "a row without arrows and transactions")) s' →
    IfRefused {A = Unit {0}} (Err s') (λ r. (w : World) (s : Scope) → Stands a w s → Refuses a.world.now.datatype_names (BreaksFoldRow a.world.now.datatype_names w s c) r)
not-plain-told a c row (stop.Refused r) h p t = λ w s stands.
    let names : List (List ℕ) = a.world.now.datatype_names in
    let e : row ≡ as_row (nf s.names.cons c) = row-is w s c row (h w s stands) in (
      not_so (row_text names row) (codes "a row without arrows and transactions"),
      subst (λ z. BreaksFoldRow names w s c (not_so (row_text names z) (codes "a row without arrows and transactions"))) (sym e) (row_not_plain (ap row_is_plain (sym e) ∙ p)),
      t,
    )
not-plain-told a c row stop.Memory h p t = tt

-- the function and the row of a fold
pub fold-types : (w : World) (s : Scope) (f r : Con) (row : List Part) → nat_le (nodes (nf s.names.cons f)) w.most ≡ true → written_row w s r ≡ Some row → row_is_plain row ≡ true → fold_types w s f r ≡ Some (as_function (nf s.names.cons f), row)
fold-types w s f r row small h plain =
    let n : List Part = as_row (nf s.names.cons r) in
    let e : row ≡ n = row-is w s r row h in
    all-four (nat_le (nodes (nf s.names.cons f)) w.most) (nat_le (nodes (nf s.names.cons r)) w.most) (is_row s.env n) (row_is_plain n) (as_function (nf s.names.cons f)) n row small h (ap row_is_plain (sym e) ∙ plain)
  where
    all-four : (a b c d : Bool) (t : NormalType) (x y : List Part) → a ≡ true → if_so (b && c) (Some x) ≡ Some y → d ≡ true → if_so {A = NormalType × List Part} (a && (b && (c && d))) (Some (t, x)) ≡ Some (t, y)
    all-four true true true true t x y i j k = ap (λ (z : List Part). if_so {A = NormalType × List Part} true (Some (t, z))) (some_of j)
    all-four true true true false t x y i j k = cc
    all-four true true false d t x y i j k = cc
    all-four true false c d t x y i j k = cc
    all-four false b c d t x y i j k = cc
