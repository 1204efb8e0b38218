-- Forms with one side and with two.
use Rattle.std.proofs.Common.{◌≡◌, refl, ap, ap₂, sym, ◌∙◌, subst, ℕ, Bool, true, false, List, Option, Some, Err}
use Rattle.std.specs.Prelude.{IsTrue, ◌↔◌, codes, option_and_then}
use Rattle.ur_base.specs.Stopping.{IfRefused}
use Rattle.ur_base.specs.declared.refusal.Refusal.{Refusal}
use Rattle.ur_base.specs.declared.refusal.Span.{Span}
use Rattle.ur_base.specs.declared.refusal.Stop.{Stop}
use Rattle.ur_base.specs.declared.refusal.Stop.TheVariants as stop
use Rattle.ur_syntax.specs.declared.exp.Binary.{Binary as Written}
use Rattle.ur_syntax.specs.declared.exp.Binary.TheVariants as op
use Rattle.ur_syntax.specs.declared.exp.ExpForm.{ExpForm, end_of-Exp as alone, more_of-Exp as its}
use Rattle.ur_syntax.specs.declared.exp.ExpForm.TheVariants as e
use Rattle.ur_rows.specs.declared.normal.NormalType.{NormalType}
use Rattle.ur_rows.specs.declared.normal.NormalType.TheVariants as ty
use Rattle.ur_rows.specs.declared.normal.Part.{Part}
use Rattle.ur_rows.specs.Apart.{Assumptions, Apart}
use Rattle.ur_rows.proofs.Shapes.{option-made, list-made, transaction-made, record-made}
use Rattle.ur_rows.specs.Made.{record_of}
use Rattle.ur_rows.specs.Order.{joined}
use Rattle.ur_rows.specs.Types.{option_of, transaction_of}
use Rattle.ur_tree.specs.declared.exp.Exp.{Exp}
use Rattle.ur_tree.specs.declared.exp.Unary.{Unary}
use Rattle.ur_tree.specs.declared.exp.Unary.TheVariants as unary
use Rattle.ur_tree.specs.declared.exp.Binary.{Binary}
use Rattle.ur_tree.specs.declared.exp.Binary.TheVariants as binary
use Rattle.ur_tree.specs.Make as make
use Rattle.ur_tree.specs.Typing.{Operation, joins, operation}
use Rattle.ur_tree.specs.Scalars.{is_basic}
use Rattle.ur_typed_rules.specs.Scopes.{World, Scope, Mode, finds, wants, of_option, of_transaction}
use Rattle.ur_typed_rules.specs.Tests.{is_apart}
use Rattle.ur_typed_rules.proofs.Rows as rows
use Rattle.ur_typed_rules.specs.Faults.{Fault, not_apart, not_of_type}
use Rattle.ur_typed_rules.specs.Rules.{if_so, row_of}
use Rattle.ur_typed.specs.Rules.{Sites, Out, Walk, gives, one_out, show_out, some_out, return_out, join_types, operation_type, operator_of, left_mode, left_may, right_mode, sides_out}
use Rattle.ur_typed.specs.Walking.{typed}
use Rattle.ur_typed.specs.Causes.{Breaks, not_shown, meets, left_no_record, right_no_record}
use Rattle.ur_check_scopes.specs.declared.around.Around.{Around}
use Rattle.ur_check_scopes.specs.Views.{Stands, Refuses, StopIs, env_in}
use Rattle.ur_check_rules.specs.declared.out.Out.{Out as HeldOut}
use Rattle.ur_check_rules.specs.Views.{out_with}
use Rattle.ur_check_rules.specs.Sides.{BreaksJoined, rows_meet, BreaksJoin, left_none, right_none, both_meet, BreaksOperation}
use Rattle.ur_check_rules.proofs.Settling.{same-bool}

-- what a rule gives of a part, where the answer is made of it
pub answer-is : (o : HeldOut) (t : NormalType) (x : Exp) → o.of ≡ t → o.exp ≡ x → (st : Sites) → gives t x st ≡ Some (out_with o st)
answer-is o t x e f st = ap₂ (λ u y. gives u y st) (sym e) (sym f)

pub one-made : (op : Unary) (of : NormalType) (out o : HeldOut) → o.of ≡ of → o.exp ≡ make.unary op out.exp → (s : Scope) (before after : Sites) (u : NormalType) (a : Walk) → a s before (wants u) ≡ Some (out_with out after) → one_out op u of s before a ≡ Some (out_with o after)
one-made op of out o e f s before after u a h = ap (option_and_then (λ z. gives of (make.unary op z.exp) z.sites)) h ∙ answer-is o of (make.unary op out.exp) e f after

pub shown-made : (out o : HeldOut) → is_basic out.of ≡ true → ((st : Sites) → gives ty.Str (make.unary unary.Show out.exp) st ≡ Some (out_with o st)) → (s : Scope) (before after : Sites) (a : Walk) → a s before finds ≡ Some (out_with out after) → show_out s before a ≡ Some (out_with o after)
shown-made out o b g s before after a h = ap (option_and_then (λ z. if_so (is_basic z.of) (gives ty.Str (make.unary unary.Show z.exp) z.sites))) h ∙ ap (λ z. if_so z (gives ty.Str (make.unary unary.Show out.exp) after)) b ∙ g after

pub shown-told : (names : List (List ℕ)) (out : HeldOut) (stop' : Stop) → is_basic out.of ≡ false → StopIs names (not_of_type names out.of (codes "int, string or bool")) stop' →
    IfRefused {A = Unit {0}} (Err stop') (λ r. (w : World) (s : Scope) (before after : Sites) (m : Mode) (p : Span) (x : ExpForm) → typed w x s before finds ≡ Some (out_with out after) → Refuses names (Breaks names w s before (e.Show' tt (its p x alone)) m) r)
shown-told names out (stop.Refused r) b t = λ w s before after m p x h. (not_of_type names out.of (codes "int, string or bool"), not_shown h b, t)
shown-told names out stop.Memory b t = tt

pub some-made : (out o : HeldOut) → o.of ≡ option_of out.of → o.exp ≡ make.unary unary.Present out.exp → (s : Scope) (before after : Sites) (m : Mode) (a : Walk) → a s before (of_option m) ≡ Some (out_with out after) → some_out s before m a ≡ Some (out_with o after)
some-made out o e f s before after m a h = ap (option_and_then (λ z. gives (option_of z.of) (make.unary unary.Present z.exp) z.sites)) h ∙ answer-is o (option_of out.of) (make.unary unary.Present out.exp) e f after

pub return-made : (out o : HeldOut) → o.of ≡ transaction_of out.of → o.exp ≡ make.unary unary.Return out.exp → (s : Scope) (before after : Sites) (m : Mode) (a : Walk) → a s before (of_transaction m) ≡ Some (out_with out after) → return_out s before m a ≡ Some (out_with o after)
return-made out o e f s before after m a h = ap (option_and_then (λ z. gives (transaction_of z.of) (make.unary unary.Return z.exp) z.sites)) h ∙ answer-is o (transaction_of out.of) (make.unary unary.Return out.exp) e f after

-- the types that the code makes
pub ruleset types = (option-made, list-made, transaction-made, record-made)

-- ---- operators

-- the test that two rows are apart
pub rows-told : (b : Bool) (known : Assumptions) (r t x y : List Part) → x ≡ r → y ≡ t → IsTrue b ↔ Apart known x y → b ≡ is_apart known r t
rows-told b known r t x y e f h = same-bool b (is_apart known x y) (λ k. (rows.two_rows known x y).1 (h.0 k)) (λ k. h.1 ((rows.two_rows known x y).0 k)) ∙ ap₂ (is_apart known) e f

pub joined-made : (known : Assumptions) (r t : List Part) (of : NormalType) → is_apart known r t ≡ true → of ≡ record_of (joined r t) → join_types known (Some r) (Some t) ≡ Some of
joined-made known r t of h e = ap (λ z. if_so z (Some (record_of (joined r t)))) h ∙ ap Some (sym e)

pub joined-told : (names : List (List ℕ)) (known : Assumptions) (r t : List Part) (s : Stop) → is_apart known r t ≡ false → StopIs names (not_apart r t) s → IfRefused {A = Unit {0}} (Err s) (Refuses names (BreaksJoined known r t))
joined-told names known r t (stop.Refused x) h k = (not_apart r t, rows_meet h, k)
joined-told names known r t stop.Memory h k = tt

pub join-made : (known : Assumptions) (a b of : NormalType) (r t : List Part) → row_of a ≡ Some r → row_of b ≡ Some t → join_types known (Some r) (Some t) ≡ Some of → operation_type known joins a b ≡ Some of
join-made known a b of r t e f h = ap₂ (join_types known) e f ∙ h

pub join-met : (names : List (List ℕ)) (known : Assumptions) (a b : NormalType) (r t : List Part) → row_of a ≡ Some r → row_of b ≡ Some t → (f : Fault) → BreaksJoined known r t f → BreaksJoin names known a b f
join-met names known a b r t e g f h = both_meet e g h

pub joined-operation : (known : Assumptions) (o : Operation) (a b of : NormalType) → o ≡ joins → operation_type known joins a b ≡ Some of → operation_type known o a b ≡ Some of
joined-operation known o a b of e h = ap (λ z. operation_type known z a b) e ∙ h

pub broken-operation : (names : List (List ℕ)) (known : Assumptions) (o : Operation) (a b : NormalType) → o ≡ joins → (f : Fault) → BreaksJoin names known a b f → BreaksOperation names known o a b f
broken-operation names known o a b e f h = record { is_join = e; broken = h }

operation-joins : (o : Binary) → operation o ≡ joins → o ≡ binary.Join
operation-joins binary.Join h = refl
operation-joins _ h = cc

written-joins : (o : Written) → operator_of o ≡ binary.Join → o ≡ op.Concat
written-joins op.Concat h = refl
written-joins _ h = cc

join-breaks : (names : List (List ℕ)) (w : World) (s : Scope) (before between after : Sites) (m : Mode) (p q : Span) (x y : ExpForm) (left right : HeldOut) (f : Fault) → typed w x s before finds ≡ Some (out_with left between) → typed w y s between finds ≡ Some (out_with right after) →
    BreaksJoin names s.env.known left.of right.of f → Breaks names w s before (e.Binary' op.Concat tt (its p x alone) tt (its q y alone)) m f
join-breaks names w s before between after m p q x y left right _ g h (left_none a) = left_no_record g h a
join-breaks names w s before between after m p q x y left right _ g h (right_none a b) = right_no_record g h a b
join-breaks names w s before between after m p q x y left right _ g h (both_meet a b (rows_meet c)) = meets g h a b c

pub sides-broken : (a : Around) (o : Binary) (operation' : Operation) (left right : HeldOut) (r : Refusal) → Refuses a.world.now.datatype_names (BreaksOperation a.world.now.datatype_names (env_in a.scope.cons).known operation' left.of right.of) r →
    (w : World) (s : Scope) (before between after : Sites) (m : Mode) (written : Written) (p q : Span) (x y : ExpForm) → Stands a w s → operator_of written ≡ o → operation' ≡ operation o → typed w x s before (left_mode (operation o) m) ≡ Some (out_with left between) →
    typed w y s between (right_mode (operation o) left.of) ≡ Some (out_with right after) → Refuses a.world.now.datatype_names (Breaks a.world.now.datatype_names w s before (e.Binary' written tt (its p x alone) tt (its q y alone)) m) r
sides-broken a o operation' left right r (f, b, t) w s before between after m written p q x y stands is same g h =
    let oj : operation o ≡ joins = sym same ∙ b.is_join in
    let wj : written ≡ op.Concat = written-joins written (is ∙ operation-joins o oj) in
    let broken : BreaksJoin a.world.now.datatype_names s.env.known left.of right.of f = subst (λ z. BreaksJoin a.world.now.datatype_names z left.of right.of f) (sym stands.known) b.broken in (
      f,
      subst (λ z. Breaks a.world.now.datatype_names w s before (e.Binary' z tt (its p x alone) tt (its q y alone)) m f) (sym wj)
          (join-breaks a.world.now.datatype_names w s before between after m p q x y left right f (ap (λ z. typed w x s before (left_mode z m)) (sym oj) ∙ g) (ap (λ z. typed w y s between (right_mode z left.of)) (sym oj) ∙ h) broken),
      t,
    )

pub sides-made : (around : Around) (o : Binary) (operation' : Operation) (left right out : HeldOut) (of : NormalType) (exp' : Exp) → operation_type (env_in around.scope.cons).known operation' left.of right.of ≡ Some of → exp' ≡ make.binary o left.exp right.exp → out.of ≡ of → out.exp ≡ exp' →
    (w : World) (s : Scope) (before between after : Sites) (m : Mode) (a b : Walk) → Stands around w s → operation' ≡ operation o → a s before (left_mode (operation o) m) ≡ Some (out_with left between) → left_may (operation o) left.of ≡ true →
    b s between (right_mode (operation o) left.of) ≡ Some (out_with right after) → sides_out o s before m a b ≡ Some (out_with out after)
sides-made around o operation' left right out of exp' typed' is eo ee w s before between after m a b stands same g may h =
    let whole : Out → Out → Option Out = λ x y. option_and_then (λ t. gives t (make.binary o x.exp y.exp) y.sites) (operation_type s.env.known (operation o) x.of y.of) in
    let rule : operation_type s.env.known (operation o) left.of right.of ≡ Some of = ap₂ (λ k z. operation_type k z left.of right.of) stands.known (sym same) ∙ typed' in
    ap (option_and_then (λ x. if_so (left_may (operation o) x.of) (option_and_then (whole x) (b s x.sites (right_mode (operation o) x.of))))) g
    ∙ ap (λ z. if_so z (option_and_then (whole (out_with left between)) (b s between (right_mode (operation o) left.of)))) may
    ∙ ap (option_and_then (whole (out_with left between))) h
    ∙ ap (option_and_then (λ t. gives t (make.binary o left.exp right.exp) after)) rule
    ∙ answer-is out of (make.binary o left.exp right.exp) eo (ee ∙ is) after
