-- Written types and rows in a scope: what is right, and what breaks the rule.
use Rattle.std.proofs.Common.{◌≡◌, ap, sym, ◌∙◌, ℕ, Bool, true, false, true≢false, ◌&&◌, List, Option, Some, None, Err}
use Rattle.std.specs.Prelude.{option_map}
use Rattle.ur_base.specs.Stopping.{IfRefused}
use Rattle.ur_base.specs.declared.refusal.Stop.{Stop}
use Rattle.ur_base.specs.declared.refusal.Stop.TheVariants as stop
use Rattle.ur_syntax.specs.declared.con.Con.{Con}
use Rattle.ur_rows.specs.declared.normal.NormalType.{NormalType}
use Rattle.ur_rows.specs.declared.normal.Part.{Part}
use Rattle.ur_rows.specs.Apart.{Assumptions}
use Rattle.ur_rows.specs.Kinded.{type_is_in, row_is_in}
use Rattle.ur_tree.specs.Env.{Env, variables}
use Rattle.ur_typed_rules.specs.Tests.{are_apart, rows_are_apart, row_rows_are_apart, is_type, is_row}
use Rattle.ur_typed_rules.specs.Faults.{Fault, twice, not_apart}
use Rattle.ur_typed_rules.specs.Repeats.{first_repeated}
use Rattle.ur_typed_rules.specs.Arguments.{BreaksApart, type_repeats, type_meets, BreaksRowApart, row_repeats, row_meets, BreaksFields, fields_met}
use Rattle.ur_typed_rules.proofs.Meeting.{in_false, row_meets_false}
use Rattle.ur_typed_rules.proofs.Repeats.{repeats-name}
use Rattle.ur_check_scopes.specs.declared.apart.Meeting.{Meeting}
use Rattle.ur_check_scopes.specs.Meeting.{Met, IsMet, two_parts, written_twice, not_so_apart, met_in_row, met_in_type, met_of_row}
use Rattle.ur_check_scopes.specs.Views.{StopIs, StopTells, Refuses}
use Rattle.ur_check_scopes.proofs.Exits.{told, told-along}
use Rattle.ur_check_scopes.proofs.Meeting.{none-in-type, none-in-row, none-of-row, some-in-type, some-in-row, some-of-row}

both : (a b : Bool) → a ≡ true → b ≡ true → (a && b) ≡ true
both true b e h = h
both false b e h = absurd (true≢false (sym e))

pub type-right : (env : Env) (t : NormalType) → type_is_in (variables env) t ≡ true → rows_are_apart env.known t ≡ true → is_type env t ≡ true
type-right env t h k = both (type_is_in (variables env) t) (rows_are_apart env.known t) h k

pub row-right : (env : Env) (r : List Part) → row_is_in (variables env) r ≡ true → (are_apart env.known r && row_rows_are_apart env.known r) ≡ true → is_row env r ≡ true
row-right env r h k = both (row_is_in (variables env) r) (are_apart env.known r && row_rows_are_apart env.known r) h k

-- two parts in a type that are not apart
pub type-met : (known : Assumptions) (c : Con) (t : NormalType) (m : Met) (f : Fault) → met_in_type known t ≡ Some m → IsMet c m f → BreaksApart known c t f
type-met known c t m _ e (written_twice r) = type_repeats r (in_false known t m.0 m.1 (some-in-type known t m e))
type-met known c t m _ e not_so_apart = type_meets (some-in-type known t m e)

pub row-met : (known : Assumptions) (c : Con) (r : List Part) (m : Met) (f : Fault) → met_of_row known r ≡ Some m → IsMet c m f → BreaksRowApart known c r f
row-met known c r m _ e (written_twice h) = row_repeats h (row_meets_false known r m.0 m.1 (some-of-row known r m e))
row-met known c r m _ e not_so_apart = row_meets (some-of-row known r m e)

pub fields-met : (known : Assumptions) (r : List Part) (m : Met) → met_in_row known r ≡ Some m → BreaksFields known r (not_apart m.0 m.1)
fields-met known r m e = fields_met (some-in-row known r m e)

-- ---- how parts that meet are told

pub met-twice : (names : List (List ℕ)) (c : Con) (m : Met) (s : Stop) (name : List ℕ) → first_repeated c.form ≡ Some name → StopIs names (twice name) s → StopTells names (IsMet c m) s
met-twice names c m (stop.Refused r) name e h = (twice name, written_twice (repeats-name c name e), h)
met-twice names c m stop.Memory name e h = tt

pub met-two : (names : List (List ℕ)) (c : Con) (m : Met) (s : Stop) → StopIs names (not_apart m.0 m.1) s → StopTells names (IsMet c m) s
met-two names c m (stop.Refused r) h = (not_apart m.0 m.1, not_so_apart, h)
met-two names c m stop.Memory h = tt

-- what was found, as what is looked for
found-is : {A : Type 0} (o : Option A) (f : A → Met) (a : A) (x : Option Met) → option_map f o ≡ x → o ≡ Some a → x ≡ Some (f a)
found-is o f a x e h = sym e ∙ ap (option_map f) h

pub none-is : {A : Type 0} (o : Option A) (f : A → Met) (x : Option Met) → option_map f o ≡ x → o ≡ None → x ≡ None
none-is o f x e h = sym e ∙ ap (option_map f) h

pub type-none : (known : Assumptions) (t : NormalType) (o : Option Meeting) → option_map two_parts o ≡ met_in_type known t → o ≡ None → rows_are_apart known t ≡ true
type-none known t o e h = none-in-type known t (none-is o two_parts (met_in_type known t) e h)

pub type-some : (names : List (List ℕ)) (known : Assumptions) (c : Con) (t : NormalType) (o : Option Meeting) (m : Meeting) (s : Stop) → option_map two_parts o ≡ met_in_type known t → o ≡ Some m → StopTells names (IsMet c (two_parts m)) s →
    IfRefused {A = Unit {0}} (Err s) (Refuses names (BreaksApart known c t))
type-some names known c t o m s e h k = told-along names (IsMet c (two_parts m)) (BreaksApart known c t) s (λ f b. type-met known c t (two_parts m) f (found-is o two_parts m (met_in_type known t) e h) b) k

pub row-none : (known : Assumptions) (r : List Part) (o : Option Meeting) → option_map two_parts o ≡ met_of_row known r → o ≡ None → (are_apart known r && row_rows_are_apart known r) ≡ true
row-none known r o e h = none-of-row known r (none-is o two_parts (met_of_row known r) e h)

pub row-some : (names : List (List ℕ)) (known : Assumptions) (c : Con) (r : List Part) (o : Option Meeting) (m : Meeting) (s : Stop) → option_map two_parts o ≡ met_of_row known r → o ≡ Some m → StopTells names (IsMet c (two_parts m)) s →
    IfRefused {A = Unit {0}} (Err s) (Refuses names (BreaksRowApart known c r))
row-some names known c r o m s e h k = told-along names (IsMet c (two_parts m)) (BreaksRowApart known c r) s (λ f b. row-met known c r (two_parts m) f (found-is o two_parts m (met_of_row known r) e h) b) k

pub fields-none : (known : Assumptions) (r : List Part) (o : Option Meeting) → option_map two_parts o ≡ met_in_row known r → o ≡ None → are_apart known r ≡ true
fields-none known r o e h = none-in-row known r (none-is o two_parts (met_in_row known r) e h)

pub fields-some : (names : List (List ℕ)) (known : Assumptions) (r : List Part) (o : Option Meeting) (m : Meeting) (s : Stop) → option_map two_parts o ≡ met_in_row known r → o ≡ Some m → StopIs names (not_apart (two_parts m).0 (two_parts m).1) s →
    IfRefused {A = Unit {0}} (Err s) (Refuses names (BreaksFields known r))
fields-some names known r o m s e h k = told names (BreaksFields known r) s (not_apart (two_parts m).0 (two_parts m).1) (fields-met known r (two_parts m) (found-is o two_parts m (met_in_row known r) e h)) k

pub ruleset judging = (met-twice, met-two, type-none, type-some, row-none, row-some, fields-none, fields-some)
