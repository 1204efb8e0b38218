-- Records and their fields.
use Rattle.std.proofs.Common.{◌≡◌, refl, ap, ap₂, sym, ◌∙◌, subst, ℕ, true, false, List, [], ◌∷◌, Option, Some, None, Err}
use Rattle.std.specs.Prelude.{codes, option_map, option_and_then}
use Rattle.ur_base.specs.Stopping.{IfRefused}
use Rattle.ur_base.specs.Shape.{Shape, count}
use Rattle.ur_base.specs.declared.refusal.Refusal.{Refusal}
use Rattle.ur_base.specs.declared.refusal.Span.{Span}
use Rattle.ur_base.specs.declared.refusal.Stop.{Stop}
use Rattle.ur_base.specs.declared.refusal.Stop.TheVariants as stop
use Rattle.ur_syntax.specs.declared.con.FieldName.{FieldName}
use Rattle.ur_syntax.specs.declared.exp.Removed.{Removed}
use Rattle.ur_syntax.specs.declared.exp.ExpForm.{ExpForm, Row_of-Field, end_of-Exp as alone, more_of-Exp as its}
use Rattle.ur_syntax.specs.declared.exp.ExpForm.TheVariants as e
use Rattle.ur_rows.specs.declared.normal.Label.{Label}
use Rattle.ur_rows.specs.declared.normal.NormalType.{NormalType}
use Rattle.ur_rows.specs.declared.normal.Part.{Part}
use Rattle.ur_rows.specs.Apart.{Assumptions}
use Rattle.ur_rows.specs.Made.{record_of}
use Rattle.ur_rows.specs.Order.{with_part, joined}
use Rattle.ur_rows.specs.Types.{field_type, without}
use Rattle.ur_tree.specs.declared.exp.Exp.TheVariants as exp
use Rattle.ur_tree.specs.declared.exp.FieldExp.{FieldExp}
use Rattle.ur_tree.specs.Make as make
use Rattle.ur_typed_rules.specs.Scopes.{World, Scope, Mode, finds}
use Rattle.ur_typed_rules.specs.Tests.{are_apart}
use Rattle.ur_typed_rules.specs.Faults.{Fault, twice, not_of_type}
use Rattle.ur_typed_rules.specs.Rules.{if_so, row_of, label_at}
use Rattle.ur_typed_rules.specs.Arguments.{BreaksFields, fields_met}
use Rattle.ur_typed_rules.specs.Repeats.{IsTwiceIn, literal_names}
use Rattle.ur_typed_rules.proofs.Meeting.{meets_false}
use Rattle.ur_typed.specs.Rules.{Sites, Out, Walk, gives, record_out, project_out, cut_out}
use Rattle.ur_typed.specs.Walking.{typed, fields_walk}
use Rattle.ur_typed.specs.Causes.{Breaks, no_record, no_field, nothing_cut, no_field_cut, field_twice, fields_meet_here}
use Rattle.ur_check_scopes.specs.declared.around.Around.{Around}
use Rattle.ur_check_scopes.specs.Views.{Stands, Refuses, StopIs, StopTells, env_in}
use Rattle.ur_check_scopes.proofs.Exits.{told-along}
use Rattle.ur_check_scopes.proofs.Repeating.{twice-past, twice-found}
use Rattle.ur_check_rules.specs.declared.out.Out.{Out as HeldOut}
use Rattle.ur_check_rules.specs.Views.{out_with, row_with, exps_with, fields_with}
use Rattle.ur_check_rules.specs.Fields.{field_in, row_cut, BreaksField, of_no_record, without_field, BreaksRecord, named_twice, met_there}
use Rattle.ur_check_rules.proofs.Sided.{answer-is}

-- ---- one field

pub field-found : (l : Label) (of t u : NormalType) (r : List Part) → row_of of ≡ Some r → field_type l r ≡ Some u → t ≡ u → field_in l of ≡ Some t
field-found l of t u r e f g = ap (option_and_then (field_type l)) e ∙ f ∙ ap Some (sym g)

pub row-cut : (l : Label) (of u : NormalType) (r whole cut : List Part) → row_of of ≡ Some r → field_type l r ≡ Some u → whole ≡ r → cut ≡ without l whole → row_cut l of ≡ Some cut
row-cut l of u r whole cut e f g h = ap (option_and_then (λ z. option_map (λ u. without l z) (field_type l z))) e ∙ ap (option_map (λ u. without l r)) f ∙ ap Some (sym (h ∙ ap (without l) g))

pub no-record-told : (names : List (List ℕ)) (l : Label) (of : NormalType) (s : Stop) → row_of of ≡ None → StopIs names (not_of_type names of (codes "a record")) s → IfRefused {A = Unit {0}} (Err s) (Refuses names (BreaksField names l of))
no-record-told names l of (stop.Refused r) h t = (not_of_type names of (codes "a record"), of_no_record h, t)
no-record-told names l of stop.Memory h t = tt

pub no-field-told : (names : List (List ℕ)) (l : Label) (of : NormalType) (r : List Part) (s : Stop) → row_of of ≡ Some r → field_type l r ≡ None → StopIs names (not_of_type names of (codes "the field")) s → IfRefused {A = Unit {0}} (Err s) (Refuses names (BreaksField names l of))
no-field-told names l of r (stop.Refused x) e h t = (not_of_type names of (codes "the field"), without_field e h, t)
no-field-told names l of r stop.Memory e h t = tt

-- ---- projections and cuts

pub projected-made : (l : Label) (out o : HeldOut) (of : NormalType) → field_in l out.of ≡ Some of → o.of ≡ of → o.exp ≡ make.project out.exp l → (s : Scope) (before after : Sites) (f : FieldName) (a : Walk) → l ≡ label_at s f → a s before finds ≡ Some (out_with out after) →
    project_out s before f a ≡ Some (out_with o after)
projected-made l out o of h eo ee s before after f a is g =
    let rule : Label → Out → Option Out = λ k z. option_and_then (λ r. option_and_then (λ t. gives t (make.project z.exp k) z.sites) (field_type k r)) (row_of z.of) in
    ap (option_and_then (rule (label_at s f))) g ∙ ap (λ k. rule k (out_with out after)) (sym is) ∙ found l of (row_of out.of) h ∙ answer-is o of (make.project out.exp l) eo ee after where
      found : (l : Label) (of : NormalType) (r : Option (List Part)) → option_and_then (field_type l) r ≡ Some of → option_and_then (λ r. option_and_then (λ t. gives t (make.project out.exp l) after) (field_type l r)) r ≡ gives of (make.project out.exp l) after
      found l of (Some r) h = ap (option_and_then (λ t. gives t (make.project out.exp l) after)) h
      found l of None h = cc

pub cut-made : (l : Label) (out o : HeldOut) (row : List Part) → row_cut l out.of ≡ Some row → o.of ≡ record_of row → o.exp ≡ make.cut out.exp l → (s : Scope) (before after : Sites) (f : FieldName) (a : Walk) → l ≡ label_at s f → a s before finds ≡ Some (out_with out after) →
    cut_out s before f a ≡ Some (out_with o after)
cut-made l out o row h eo ee s before after f a is g =
    let rule : Label → Out → Option Out = λ k z. option_and_then (λ r. option_and_then (λ t. gives (record_of (without k r)) (make.cut z.exp k) z.sites) (field_type k r)) (row_of z.of) in
    ap (option_and_then (rule (label_at s f))) g ∙ ap (λ k. rule k (out_with out after)) (sym is) ∙ found l row (row_of out.of) h ∙ answer-is o (record_of row) (make.cut out.exp l) eo ee after where
      one : (l : Label) (row r : List Part) (t : Option NormalType) → option_map (λ u. without l r) t ≡ Some row → option_and_then (λ t. gives (record_of (without l r)) (make.cut out.exp l) after) t ≡ gives (record_of row) (make.cut out.exp l) after
      one l row r (Some t) h = ap (λ z. option_and_then (λ k. gives (record_of k) (make.cut out.exp l) after) z) h
      one l row r None h = cc

      found : (l : Label) (row : List Part) (r : Option (List Part)) → option_and_then (λ r. option_map (λ u. without l r) (field_type l r)) r ≡ Some row →
          option_and_then (λ r. option_and_then (λ t. gives (record_of (without l r)) (make.cut out.exp l) after) (field_type l r)) r ≡ gives (record_of row) (make.cut out.exp l) after
      found l row (Some r) h = one l row r (field_type l r) h
      found l row None h = cc

project-breaks : (names : List (List ℕ)) (w : World) (s : Scope) (before after : Sites) (m : Mode) (p : Span) (x : ExpForm) (g : FieldName) (l : Label) (out : HeldOut) (f : Fault) → l ≡ label_at s g → typed w x s before finds ≡ Some (out_with out after) → BreaksField names l out.of f →
    Breaks names w s before (e.Project' tt (its p x alone) g) m f
project-breaks names w s before after m p x g l out _ is h (of_no_record k) = no_record h k
project-breaks names w s before after m p x g l out _ is h (without_field {r = r} k n) = no_field h k (ap (λ z. field_type z r) (sym is) ∙ n)

pub project-told : (names : List (List ℕ)) (l : Label) (out : HeldOut) (r : Refusal) → Refuses names (BreaksField names l out.of) r → (w : World) (s : Scope) (before after : Sites) (m : Mode) (p : Span) (x : ExpForm) (g : FieldName) → l ≡ label_at s g →
    typed w x s before finds ≡ Some (out_with out after) → Refuses names (Breaks names w s before (e.Project' tt (its p x alone) g) m) r
project-told names l out r (f, b, t) w s before after m p x g is h = (f, project-breaks names w s before after m p x g l out f is h b, t)

cut-breaks : (names : List (List ℕ)) (w : World) (s : Scope) (before after : Sites) (m : Mode) (p : Span) (x : ExpForm) (c : Removed) (l : Label) (out : HeldOut) (f : Fault) → l ≡ label_at s c.name → typed w x s before finds ≡ Some (out_with out after) → BreaksField names l out.of f →
    Breaks names w s before (e.Remove' tt (its p x alone) c) m f
cut-breaks names w s before after m p x c l out _ is h (of_no_record k) = nothing_cut h k
cut-breaks names w s before after m p x c l out _ is h (without_field {r = r} k n) = no_field_cut h k (ap (λ z. field_type z r) (sym is) ∙ n)

pub cut-told : (names : List (List ℕ)) (l : Label) (out : HeldOut) (r : Refusal) → Refuses names (BreaksField names l out.of) r → (w : World) (s : Scope) (before after : Sites) (m : Mode) (p : Span) (x : ExpForm) (c : Removed) → l ≡ label_at s c.name →
    typed w x s before finds ≡ Some (out_with out after) → Refuses names (Breaks names w s before (e.Remove' tt (its p x alone) c) m) r
cut-told names l out r (f, b, t) w s before after m p x c is h = (f, cut-breaks names w s before after m p x c l out f is h b, t)

-- ---- records

-- one step of the search for a name that stands twice
pub ruleset repeating = (twice-past, twice-found)

pub onto-nothing : (ps : List Part) → joined ps [] ≡ row_with ps
onto-nothing [] = refl
onto-nothing (p ∷ ps) = ap (with_part p) (onto-nothing ps)

pub ruleset row_made = (onto-nothing)

pub record-met : (known : Assumptions) (names : List (Option (List ℕ))) (row : List Part) (f : Fault) → BreaksFields known row f → are_apart known row ≡ false
record-met known names row _ (fields_met {a = a} {b = b} m) = meets_false known row a b m

-- a stop that tells that fields met, as it is told of the written names
pub kept-told : (names : List (List ℕ)) (known : Assumptions) (written : List (Option (List ℕ))) (row : List Part) (r : Refusal) → Refuses names (BreaksFields known row) r → Refuses names (BreaksRecord known written row) r
kept-told names known written row r (f, b, t) = (f, met_there b, t)

pub twice-told : (names : List (List ℕ)) (known : Assumptions) (written : List (Option (List ℕ))) (row : List Part) (name : List ℕ) (s : Stop) (r : Refusal) → IsTwiceIn name written → Refuses names (BreaksFields known row) r → StopIs names (twice name) s → StopTells names (BreaksRecord known written row) s
twice-told names known written row name (stop.Refused x) r is (f, b, t) h = (twice name, named_twice is (record-met known written row f b), h)
twice-told names known written row name stop.Memory r is k h = tt

-- a stop that tells that fields met is told again
pub told-again : (names : List (List ℕ)) (known : Assumptions) (written : List (Option (List ℕ))) (row : List Part) (first s : Stop) → IfRefused {A = Unit {0}} (Err first) (Refuses names (BreaksFields known row)) →
    (StopTells names (BreaksFields known row) first → StopTells names (BreaksRecord known written row) s) → IfRefused {A = Unit {0}} (Err s) (Refuses names (BreaksRecord known written row))
told-again names known written row (stop.Refused x) s h f = told-along names (BreaksRecord known written row) (BreaksRecord known written row) s (λ g b. b) (f h)
told-again names known written row stop.Memory s h f = told-along names (BreaksRecord known written row) (BreaksRecord known written row) s (λ g b. b) (f tt)

pub record-answer : (around : Around) (parts : List Part) (fields : List FieldExp) (row : List Part) (o : HeldOut) → row ≡ row_with parts → are_apart (env_in around.scope.cons).known row ≡ true → o.of ≡ record_of row → o.exp ≡ exp.Record' (exps_with fields).0 (exps_with fields).1 →
    (w : World) (s : Scope) (st : Sites) → Stands around w s → record_out s (Some (fields_with parts fields st)) ≡ Some (out_with o st)
record-answer around parts fields row o is ok eo ee w s st stands =
    ap (λ z. if_so z (gives (record_of (row_with parts)) (exp.Record' (exps_with fields).0 (exps_with fields).1) st)) (ap₂ are_apart stands.known (sym is) ∙ ok)
    ∙ answer-is o (record_of (row_with parts)) (exp.Record' (exps_with fields).0 (exps_with fields).1) (eo ∙ ap record_of is) ee st

record-breaks : (names : List (List ℕ)) (w : World) (s : Scope) (before after : Sites) (m : Mode) (q : Shape) (row : Row_of-Field (count q)) (parts : List Part) (fields : List FieldExp) (written : List (Option (List ℕ))) (f : Fault) → literal_names row ≡ written →
    fields_walk w row s before m ≡ Some (fields_with parts fields after) → BreaksRecord s.env.known written (row_with parts) f → Breaks names w s before (e.Record' q row) m f
record-breaks names w s before after m q row parts fields written _ is h (named_twice {name = name} k a) = field_twice (subst (λ z. IsTwiceIn name z) (sym is) k) h a
record-breaks names w s before after m q row parts fields written f is h (met_there b) = fields_meet_here h b

pub record-told : (around : Around) (parts : List Part) (fields : List FieldExp) (row : List Part) (written : List (Option (List ℕ))) (r : Refusal) → row ≡ row_with parts → Refuses around.world.now.datatype_names (BreaksRecord (env_in around.scope.cons).known written row) r →
    (w : World) (s : Scope) (before after : Sites) (m : Mode) (q : Shape) (fs : Row_of-Field (count q)) → Stands around w s → literal_names fs ≡ written → fields_walk w fs s before m ≡ Some (fields_with parts fields after) →
    Refuses around.world.now.datatype_names (Breaks around.world.now.datatype_names w s before (e.Record' q fs) m) r
record-told around parts fields row written r is (f, b, t) w s before after m q fs stands el h =
    (f, record-breaks around.world.now.datatype_names w s before after m q fs parts fields written f el h (subst (λ z. BreaksRecord z written (row_with parts) f) (sym stands.known) (subst (λ z. BreaksRecord (env_in around.scope.cons).known written z f) is b)), t)
