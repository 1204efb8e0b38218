-- Where code does not fit, and what is said of it.
use Rattle.std.specs.Prelude.{◌≡◌, ◌≢◌, ◌⊎◌, ℕ, true, List, [], ◌∷◌, ◌++◌, codes, length, Some, None, slice_get}
use Rattle.std.specs.List.{Contains}
use Rattle.std.specs.Str.{IsUtf8}
use Rattle.ur_values.specs.declared.schema.TableShape.{TableShape}
use Rattle.ur_values.specs.declared.types.ValueType.{ValueType}
use Rattle.ur_values.specs.declared.types.ValueType.TheVariants as ty
use Rattle.ur_sql.specs.declared.query.Query.{Query}
use Rattle.ur_sql.specs.declared.change.Change.{Change}
use Rattle.ur_sql.specs.Typing.{QueryFits, ChangeFits}
use Rattle.ur_tags.specs.declared.routes.Route.{Route}
use Rattle.ur_terms.specs.declared.term.Op.{Op}
use Rattle.ur_terms.specs.declared.term.Branch.{Branch}
use Rattle.ur_terms.specs.declared.term.Term.{Term}
use Rattle.ur_terms.specs.declared.term.Term.TheVariants as t
use Rattle.ur_terms.specs.declared.term.Function.{Function}
use Rattle.ur_terms.specs.Types.{Signature, OpType, Binds, Cover, IsXml, HasType}
use Rattle.ur_code.specs.declared.code.Code.{Code}
use Rattle.ur_code.specs.declared.code.Cookie.{Cookie}
use Rattle.ur_code.specs.Fits.{IsBasicCookie, signature}
use Rattle.ur_code.specs.RouteTypes.{route_params}
use Rattle.ur_verify_operations.specs.Misfits.{OperationMisfit, PatternMisfit, UnlikeDeclared, NoText}
use Rattle.ur_verify_operations.specs.Saying.{TwoTexts, two_types, one_type, nothing, OtherTypes}
use Rattle.ur_verify_operations.specs.Wanting.{patterns_in}
use Rattle.ur_verify.specs.Terms.{HaveAll, BranchFits}

-- The part, under variables of the inner types, stands in a term under variables of these types.
pub data StandsIn (sig : Signature) (inner : List ValueType) (part : Term) : List ValueType → Term → Type 0 where
  itself : StandsIn sig inner part inner part
  in_operand : (env : List ValueType) (o : Op) (args : List Term) (x : Term) → Contains args x → StandsIn sig inner part env x → StandsIn sig inner part env (t.Make o args)
  in_argument : (env : List ValueType) (f : ℕ) (args : List Term) (x : Term) → Contains args x → StandsIn sig inner part env x → StandsIn sig inner part env (t.Call f args)
  in_bound : (env : List ValueType) (args : List Term) (body x : Term) → Contains args x → StandsIn sig inner part env x → StandsIn sig inner part env (t.Let args body)
  in_let : (env : List ValueType) (args : List Term) (body : Term) (ts : List ValueType) → HaveAll sig env args ts → StandsIn sig inner part (ts ++ env) body
      → StandsIn sig inner part env (t.Let args body)
  in_test : (env : List ValueType) (x a b : Term) → StandsIn sig inner part env x → StandsIn sig inner part env (t.If x a b)
  in_yes : (env : List ValueType) (x a b : Term) → StandsIn sig inner part env a → StandsIn sig inner part env (t.If x a b)
  in_no : (env : List ValueType) (x a b : Term) → StandsIn sig inner part env b → StandsIn sig inner part env (t.If x a b)
  in_matched : (env : List ValueType) (x : Term) (bs : List Branch) → StandsIn sig inner part env x → StandsIn sig inner part env (t.Case x bs)
  in_branch : (env : List ValueType) (x : Term) (bs : List Branch) (a : ValueType) (b : Branch) (bound : List ValueType) → HasType sig env x a → Contains bs b → Binds sig b.pattern a bound
      → StandsIn sig inner part (bound ++ env) b.body → StandsIn sig inner part env (t.Case x bs)
  in_rows : (env : List ValueType) (rows body : Term) → StandsIn sig inner part env rows → StandsIn sig inner part env (t.Each rows body)
  in_body : (env : List ValueType) (rows body : Term) (a : ValueType) → HasType sig env rows (ty.Many a) → StandsIn sig inner part (a ∷ env) body → StandsIn sig inner part env (t.Each rows body)

-- ---- what is compared

-- there is no variable of this number
abbrev pub NoVariable : List ValueType → ℕ → TwoTexts → Type 0
NoVariable env i said = (slice_get env i ≡ None) × (said ≡ nothing (codes "a variable"))

-- there is no function of this number, or it takes other types
abbrev pub UnlikeCall : Signature → ℕ → List ValueType → TwoTexts → Type 0
UnlikeCall sig f ts said = UnlikeDeclared sig.names (codes "a function") (λ (g : List ValueType × ValueType). g.0) (slice_get sig.functions f) ts said

-- the term has another type than the one that is wanted
abbrev pub OtherType : Signature → List ValueType → Term → ValueType → TwoTexts → Type 0
OtherType sig env x wanted said = (found : ValueType) × HasType sig env x found × (found ≢ wanted) × (said ≡ two_types sig.names found wanted)

-- a value of the type may have no branch
abbrev pub UnlikePatterns : Signature → List Branch → ValueType → TwoTexts → Type 0
UnlikePatterns sig bs a said = (Cover sig (patterns_in bs) a → ⊥) × (said ≡ one_type sig.names a (codes "a branch for each value"))

-- the pattern matches no value of the type
abbrev pub UnlikePattern : Signature → Branch → ValueType → TwoTexts → Type 0
UnlikePattern sig b a said = ((bound : List ValueType) → Binds sig b.pattern a bound → ⊥) × PatternMisfit sig b.pattern a said

-- the branch has another type than the one that is wanted
abbrev pub OtherBranch : Signature → List ValueType → ValueType → Branch → ValueType → TwoTexts → Type 0
OtherBranch sig env a b wanted said = (found : ValueType) × BranchFits sig env a b found × (found ≢ wanted) × (said ≡ two_types sig.names found wanted)

-- the type is not one of lists
abbrev pub NoList : Signature → ValueType → TwoTexts → Type 0
NoList sig a said = ((b : ValueType) → a ≡ ty.Many b → ⊥) × (said ≡ one_type sig.names a (codes "a list"))

-- the term's type is not one of XML
abbrev pub NoXml : Signature → List ValueType → Term → TwoTexts → Type 0
NoXml sig env x said = (r : ValueType) × HasType sig env x r × (IsXml r → ⊥) × (said ≡ one_type sig.names r (codes "xml"))

-- A term under variables of these types breaks its own rule, and its parts have the types that are compared.
pub data MisfitAt (sig : Signature) (env : List ValueType) : Term → TwoTexts → Type 0 where
  at_variable : (i : ℕ) (said : TwoTexts) → NoVariable env i said → MisfitAt sig env (t.Variable i) said
  at_string : (s : List ℕ) (said : TwoTexts) → NoText s said → MisfitAt sig env (t.Str s) said
  at_operation : (o : Op) (args : List Term) (ts : List ValueType) (said : TwoTexts) → HaveAll sig env args ts → ((r : ValueType) → OpType sig o ts r → ⊥) → OperationMisfit sig o ts said
      → MisfitAt sig env (t.Make o args) said
  at_call : (f : ℕ) (args : List Term) (ts : List ValueType) (said : TwoTexts) → HaveAll sig env args ts → UnlikeCall sig f ts said → MisfitAt sig env (t.Call f args) said
  at_test : (x a b : Term) (said : TwoTexts) → OtherType sig env x ty.Bool said → MisfitAt sig env (t.If x a b) said
  at_no : (x a b : Term) (made : ValueType) (said : TwoTexts) → HasType sig env a made → OtherType sig env b made said → MisfitAt sig env (t.If x a b) said
  at_patterns : (x : Term) (bs : List Branch) (a : ValueType) (said : TwoTexts) → HasType sig env x a → UnlikePatterns sig bs a said → MisfitAt sig env (t.Case x bs) said
  at_pattern : (x : Term) (bs : List Branch) (a : ValueType) (b : Branch) (said : TwoTexts) → HasType sig env x a → Contains bs b → UnlikePattern sig b a said → MisfitAt sig env (t.Case x bs) said
  at_branch : (x : Term) (bs : List Branch) (a : ValueType) (first b : Branch) (made : ValueType) (said : TwoTexts) → HasType sig env x a → slice_get bs 0 ≡ Some first
      → BranchFits sig env a first made → Contains bs b → OtherBranch sig env a b made said → MisfitAt sig env (t.Case x bs) said
  at_rows : (rows body : Term) (a : ValueType) (said : TwoTexts) → HasType sig env rows a → NoList sig a said → MisfitAt sig env (t.Each rows body) said
  at_body : (rows body : Term) (a : ValueType) (said : TwoTexts) → HasType sig env rows (ty.Many a) → NoXml sig (a ∷ env) body said → MisfitAt sig env (t.Each rows body) said

-- somewhere in a term a part breaks its own rule
abbrev pub TermMisfit : Signature → List ValueType → Term → TwoTexts → Type 0
TermMisfit sig env x said = (inner : List ValueType) × (part : Term) × StandsIn sig inner part env x × MisfitAt sig inner part said

-- ---- terms, branches and code

-- somewhere in one of these terms
abbrev pub TermsMisfit : Signature → List ValueType → List Term → TwoTexts → Type 0
TermsMisfit sig env terms said = (x : Term) × Contains terms x × TermMisfit sig env x said

-- somewhere in a term, or it has another type than the one that is wanted
abbrev pub UnlikeTerm : Signature → List ValueType → Term → ValueType → TwoTexts → Type 0
UnlikeTerm sig env x wanted said = TermMisfit sig env x said ⊎ OtherType sig env x wanted said

-- somewhere in a term, or its type is not one of XML
abbrev pub UnlikeXml : Signature → List ValueType → Term → TwoTexts → Type 0
UnlikeXml sig env x said = TermMisfit sig env x said ⊎ NoXml sig env x said

-- a branch's pattern matches no value of the type, or somewhere in its body
abbrev pub BranchMisfit : Signature → List ValueType → ValueType → Branch → TwoTexts → Type 0
BranchMisfit sig env a b said =
    UnlikePattern sig b a said ⊎ ((bound : List ValueType) × Binds sig b.pattern a bound × TermMisfit sig (bound ++ env) b.body said)

-- somewhere in a branch, or it has another type than the one that is wanted
abbrev pub UnlikeBranch : Signature → List ValueType → ValueType → Branch → ValueType → TwoTexts → Type 0
UnlikeBranch sig env a b wanted said = BranchMisfit sig env a b said ⊎ OtherBranch sig env a b wanted said

-- there is no branch, somewhere in a branch, or one has another type than the first
pub data BranchesMisfit (sig : Signature) (env : List ValueType) (a : ValueType) (bs : List Branch) (said : TwoTexts) : Type 0 where
  no_branch : UnlikePatterns sig bs a said → BranchesMisfit sig env a bs said
  in_one : (b : Branch) → Contains bs b → BranchMisfit sig env a b said → BranchesMisfit sig env a bs said
  unlike_first : (first b : Branch) (made : ValueType) → slice_get bs 0 ≡ Some first → BranchFits sig env a first made → Contains bs b → OtherBranch sig env a b made said
      → BranchesMisfit sig env a bs said

-- somewhere in a function's body, or it has another type than the result
abbrev pub FunctionMisfit : Signature → Function → TwoTexts → Type 0
FunctionMisfit sig f said = UnlikeTerm sig f.params f.body f.result said

-- a route has no function, or one that does not fit it
pub data RouteMisfit (code : Code) (r : Route) (target : ℕ) (said : TwoTexts) : Type 0 where
  at_target : slice_get code.functions target ≡ None → said ≡ nothing (codes "a function") → RouteMisfit code r target said
  at_params : (f : Function) → slice_get code.functions target ≡ Some f → OtherTypes code.names f.params (route_params r) said → RouteMisfit code r target said
  at_page : (f : Function) → slice_get code.functions target ≡ Some f → f.result ≢ ty.Page → said ≡ two_types code.names f.result ty.Page → RouteMisfit code r target said
  at_form : r.get ≡ true → r.form ≢ [] → said ≡ nothing (codes "a route that answers GET and has no form") → RouteMisfit code r target said

-- somewhere in a function
abbrev pub FunctionsMisfit : Code → TwoTexts → Type 0
FunctionsMisfit code said = (f : Function) × Contains code.functions f × FunctionMisfit (signature code) f said

-- a query does not fit the tables
abbrev pub QueriesMisfit : Code → TwoTexts → Type 0
QueriesMisfit code said = (q : Query) × Contains code.queries q × (QueryFits code.schema q → ⊥) × (said ≡ nothing (codes "a query of the tables"))

-- a change does not fit the tables
abbrev pub ChangesMisfit : Code → TwoTexts → Type 0
ChangesMisfit code said = (c : Change) × Contains code.changes c × (ChangeFits code.schema c → ⊥) × (said ≡ nothing (codes "a change of a table"))

-- a route has no number of a function, or does not fit its function
pub data RoutesMisfit (code : Code) (said : TwoTexts) : Type 0 where
  at_targets : length code.handlers.routes ≢ length code.targets → said ≡ nothing (codes "a function for each route") → RoutesMisfit code said
  at_route : (i : ℕ) (r : Route) (target : ℕ) → slice_get code.handlers.routes i ≡ Some r → slice_get code.targets i ≡ Some target → RouteMisfit code r target said → RoutesMisfit code said

-- a table's name is no text
abbrev pub TablesMisfit : Code → TwoTexts → Type 0
TablesMisfit code said = (shape : TableShape) × Contains code.schema.tables shape × (IsUtf8 shape.name → ⊥) × (said ≡ nothing (codes "the name of a table"))

-- a cookie holds an option
abbrev pub CookiesMisfit : Code → TwoTexts → Type 0
CookiesMisfit code said = (c : Cookie) × Contains code.cookies c × (IsBasicCookie c → ⊥) × (said ≡ nothing (codes "a cookie of int, string or bool"))

-- a function, query, change, route, table or cookie of the code does not fit
pub data CodeMisfit (code : Code) (said : TwoTexts) : Type 0 where
  in_functions : FunctionsMisfit code said → CodeMisfit code said
  in_queries : QueriesMisfit code said → CodeMisfit code said
  in_changes : ChangesMisfit code said → CodeMisfit code said
  in_routes : RoutesMisfit code said → CodeMisfit code said
  in_tables : TablesMisfit code said → CodeMisfit code said
  in_cookies : CookiesMisfit code said → CodeMisfit code said
