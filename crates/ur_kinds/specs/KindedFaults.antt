-- The first constructor that lacks the kind that its place wants.
use Rattle.std.specs.Prelude.{◌≡◌, ℕ, List, [], ◌∷◌, ◌++◌, length, take, Option, Some, None, IsTrue, IsFalse}
use Rattle.std.specs.Option.{option_map, option_and_then}
use Rattle.ur_base.specs.Stopping.{Says}
use Rattle.ur_base.specs.declared.refusal.Span.{Span}
use Rattle.ur_base.specs.declared.refusal.Refusal.{Refusal}
use Rattle.ur_syntax.specs.declared.kind.Kind.{Kind}
use Rattle.ur_syntax.specs.declared.kind.Kind.TheVariants as kind
use Rattle.ur_syntax.specs.declared.con.ConForm.{ConForm}
use Rattle.ur_syntax.specs.declared.con.ConName.{ConName}
use Rattle.ur_syntax.specs.declared.con.ConEntry.{ConEntry}
use Rattle.ur_syntax.specs.declared.con.ConEnv.{ConEnv}
use Rattle.ur_syntax.specs.declared.con.ConMeaning.TheVariants as meaning
use Rattle.ur_syntax.specs.declared.exp.ExpForm.{ExpForm, end_of-Exp as alone, more_of-Exp as its}
use Rattle.ur_syntax.specs.declared.exp.ExpForm.TheVariants as e
use Rattle.ur_syntax.specs.declared.decl.Module.{Module}
use Rattle.ur_syntax.specs.declared.decl.Signature.{Signature}
use Rattle.ur_syntax.specs.Kinds.{is_plain}
use Rattle.ur_syntax.specs.Names.{own, member, seen}
use Rattle.ur_syntax.specs.HasKind.{Scope, HasKind, scope_in}
use Rattle.ur_kinds.specs.Texts.{kind_text}
use Rattle.ur_kinds.specs.Unknown.{unknown_in}
use Rattle.ur_kinds.specs.Faults.{HasFault, Misfits}
use Rattle.ur_kinds.specs.declared.state.Value.{Value}
use Rattle.ur_kinds.specs.declared.state.Frame.{Frame}
use Rattle.ur_kinds.specs.declared.state.State.{State}
use Rattle.ur_kinds.specs.Acts.{Act, open_scope, close_scope, enter, variable, constructor, local, function, plain, written, argument}
use Rattle.ur_kinds.specs.Decls.{in_project}

-- what a constructor's name stands for is of no matter to kinds
abbrev pub entry : Option (List ℕ) → List ℕ → Kind → ConEntry
entry m x k = record { name = record { home = m; name = x }; kind = k; meaning = meaning.Variable }

abbrev pub value : Option (List ℕ) → List ℕ → List Kind → Value
value m x ks = record { name = record { home = m; name = x }; kinds = ks }

abbrev pub in_env : ConEnv → List ConEntry → ConEnv
in_env env entries = record { home = env.home; fields = env.fields; entries = entries }

abbrev pub with_entry : ConEntry → State → State
with_entry x s = record { env = in_env s.env (s.env.entries ++ x ∷ []); values = s.values; frames = s.frames }

abbrev pub with_value : Value → State → State
with_value x s = record { env = s.env; values = s.values ++ x ∷ []; frames = s.frames }

-- the scope that is open, where one is
abbrev pub last_frame : List Frame → Option Frame
last_frame [] = None
last_frame (f ∷ []) = Some f
last_frame (f ∷ g ∷ fs) = last_frame (g ∷ fs)

abbrev pub outer : List Frame → List Frame
outer [] = []
outer (f ∷ []) = []
outer (f ∷ g ∷ fs) = f ∷ outer (g ∷ fs)

abbrev pub closed_at : Option Frame → State → State
closed_at None s = s
closed_at (Some f) s = record { env = in_env s.env (take f.entries s.env.entries); values = take f.values s.values; frames = outer s.frames }

-- the scope behind an act
abbrev pub after : State → Act → State
after s open_scope = record { env = s.env; values = s.values; frames = s.frames ++ record { entries = length s.env.entries; values = length s.values } ∷ [] }
after s close_scope = closed_at (last_frame s.frames) s
after s (enter m) = record { env = record { home = m; fields = s.env.fields; entries = s.env.entries }; values = s.values; frames = [] }
after s (variable x k) = with_entry (entry None x k) s
after s (constructor x k) = with_entry (entry (Some s.env.home) x k) s
after s (local x) = with_value (value None x []) s
after s (function x ks) = with_value (value (Some s.env.home) x ks) s
after s _ = s

abbrev pub after_all : State → List Act → State
after_all s [] = s
after_all s (a ∷ more) = after_all (after s a) more

-- the names of variables and functions, the latest first
abbrev pub named_after : List (ConName × List Kind) → List Value → List (ConName × List Kind)
named_after names [] = names
named_after names (v ∷ vs) = named_after ((v.name, v.kinds) ∷ names) vs

abbrev pub kinds_known : ConName → State → Option (List Kind)
kinds_known x s = seen s.env.home x (named_after [] s.values)

abbrev pub behind_first : List Kind → List Kind
behind_first [] = []
behind_first (k ∷ ks) = ks

abbrev pub first_kind : List Kind → Option Kind
first_kind [] = None
first_kind (k ∷ ks) = Some k

-- the kinds of the constructor parameters that an expression has still to be given, where it is a function's name
abbrev pub left_of : State → ExpForm → Option (List Kind)
left_of s (e.Var x) = kinds_known (own x) s
left_of s (e.Member m x) = kinds_known (member m x) s
left_of s (e.ConApp' _ (its q a alone) c) = option_map behind_first (left_of s a)
left_of s _ = None

-- the kind that is wanted of the next argument, where one is
abbrev pub wanted_of : State → ExpForm → Option Kind
wanted_of s f = option_and_then first_kind (left_of s f)

-- The constructor has the kind that is wanted, or any where none is. One with a name that is not in scope is no fault of
-- kinds: names are looked at before.
abbrev pub Fits : Scope → ConForm → Option Kind → Type 0
Fits s c (Some k) = unknown_in s c ≡ None → HasKind s c k
Fits s c None = unknown_in s c ≡ None → (k : Kind) × HasKind s c k

-- its names are in scope, and it has not the kind that is wanted: told is its place, what was found in it, and wanted there
pub record Lacks (s : Scope) (p : Span) (c : ConForm) (k : Kind) (r : Refusal) : Type 0 where
  pub known : unknown_in s c ≡ None
  pub none : HasKind s c k → ⊥
  pub code : r.code ≡ 9
  pub place : r.span ≡ p
  pub told : Misfits s c k r

pub record LacksAny (s : Scope) (p : Span) (c : ConForm) (r : Refusal) : Type 0 where
  pub known : unknown_in s c ≡ None
  pub none : (k : Kind) → HasKind s c k → ⊥
  pub code : r.code ≡ 9
  pub place : r.span ≡ p
  pub told : HasFault s c r

abbrev pub Misplaced : Scope → Span → ConForm → Option Kind → Refusal → Type 0
Misplaced s p c (Some k) r = Lacks s p c k r
Misplaced s p c None r = LacksAny s p c r

-- what is written in an act has its kind; the kind of a parameter is no arrow
abbrev pub IsKinded : State → Act → Type 0
IsKinded s (written c k) = Fits (scope_in s.env) c.form (Some k)
IsKinded s (argument f c) = Fits (scope_in s.env) c.form (wanted_of s f)
IsKinded s (plain p k) = IsTrue (is_plain k)
IsKinded s _ = Unit {0}

abbrev pub Breaks : State → Act → Refusal → Type 0
Breaks s (written c k) r = Misplaced (scope_in s.env) c.span c.form (Some k) r
Breaks s (argument f c) r = Misplaced (scope_in s.env) c.span c.form (wanted_of s f) r
Breaks s (plain p k) r = IsFalse (is_plain k) × Says r 9 (kind_text k) (kind_text kind.Star) × (r.span ≡ p)
Breaks s _ r = ⊥

abbrev pub AreKinded : State → List Act → Type 0
AreKinded s [] = Unit {0}
AreKinded s (a ∷ more) = IsKinded s a × AreKinded (after s a) more

-- the first act that breaks a rule of kinds is told
pub data FirstFault : State → List Act → Refusal → Type 0 where
  here : {s : State} {a : Act} {more : List Act} {r : Refusal} → Breaks s a r → FirstFault s (a ∷ more) r
  later : {s : State} {a : Act} {more : List Act} {r : Refusal} → IsKinded s a → FirstFault (after s a) more r → FirstFault s (a ∷ more) r

abbrev pub start : State
start = record { env = record { home = []; fields = []; entries = [] }; values = []; frames = [] }

-- each constructor that a project writes has the kind that its place wants, in its scope
abbrev pub ProjectIsKinded : List (List ℕ) → List Module → Option Signature → Type 0
ProjectIsKinded names modules signature = AreKinded start (in_project names modules signature)

-- the first constructor of a project, in order of modules and place, that has not
abbrev pub KindFault : List (List ℕ) → List Module → Option Signature → Refusal → Type 0
KindFault names modules signature r = FirstFault start (in_project names modules signature) r
