-- Records and `let`: where the walk has no answer there is a fault.
use Rattle.std.proofs.Common.{inl, inr, ◌⊎◌, ◌≡◌, refl, sym, true, true≢false, Option, Some, None, List, [], ◌∷◌, ℕ}
use Rattle.std.specs.Prelude.{option_map, option_and_then}
use mathlib.Core.Former.{Count}
use Rattle.ur_base.specs.Shape.{Shape, count}
use Rattle.ur_base.specs.declared.refusal.Span.{Span}
use Rattle.ur_syntax.specs.declared.con.Con.{Con}
use Rattle.ur_syntax.specs.declared.con.FieldName.{FieldName}
use Rattle.ur_syntax.specs.declared.exp.Binder.TheVariants as binder
use Rattle.ur_syntax.specs.declared.exp.ExpForm.{ExpForm, end_of-Exp as alone, more_of-Exp as its, Row_of-Field, end_of-Field, more_of-Field, Row_of-LetVal, end_of-LetVal, more_of-LetVal}
use Rattle.ur_syntax.specs.declared.exp.ExpForm.TheVariants as e
use Rattle.ur_rows.specs.declared.normal.NormalType.{NormalType}
use Rattle.ur_rows.specs.Kinded.{label_is_in}
use Rattle.ur_rows.specs.Made.{record_of}
use Rattle.ur_rows.specs.Types.{is_value_type}
use Rattle.ur_tree.specs.declared.exp.Exp.TheVariants as exp
use Rattle.ur_tree.specs.Make as make
use Rattle.ur_tree.specs.Env.{variables}
use Rattle.ur_typed_rules.specs.Scopes.{World, Scope, Mode, wants, within_binder, of_field}
use Rattle.ur_typed_rules.specs.Tests.{are_apart}
use Rattle.ur_typed.specs.Rules.{Sites, Out, Fields, settled, gives, with_field, let_with}
use Rattle.ur_typed.specs.Walking.{typed, fields_walk, vals_walk, let_walk}
use Rattle.ur_typed.specs.Parts.{InFields, this_field, later_field, InVals, this_val, later_val, let_body}
use Rattle.ur_typed.specs.Causes.{BreaksSettled, BreaksVals, HasStrayLabel, this_label, later_label}
use Rattle.ur_typed_faults.specs.Converse.{IsFaulty, Explained}
use Rattle.ur_typed_faults.proofs.Converse.{here_faulty, part_faulty, unsettled, explained_by}
use Rattle.ur_typed_rules.specs.Faults.{Fault}
use Rattle.ur_typed_rules.specs.Arguments.{BreaksType, BreaksFields}
use Rattle.ur_typed_rules.specs.Rules.{if_so, label_at, written_type}
use Rattle.ur_typed_rules.proofs.Options.{some_none, then_none_is, if_none_is, map_none_is}
use Rattle.ur_typed_rules.proofs.Written.{fields_broken, type_broken}
use Rattle.ur_typed.proofs.Shapes.{has_vals}
use Rattle.ur_typed.specs.Parts
use Rattle.ur_typed.specs.Causes

-- ---- records

abbrev pub FieldsExplained : List (List ℕ) → World → {n : _} → Row_of-Field n → Type 0
FieldsExplained names w end_of-Field = Unit {0}
FieldsExplained names w (more_of-Field f p x rest) = Explained names w x × FieldsExplained names w rest

-- a field that is not typed, with its fault
record BadField (names : List (List ℕ)) (w : World) (s : Scope) (m : Mode) (n : Count) (fs : Row_of-Field n) (st : Sites) : Type 0 where
  behind : Sites
  part : ExpForm
  mode : Mode
  stands : InFields w s m n fs st behind part mode
  faulty : IsFaulty names w s behind part mode

field_behind : (names : List (List ℕ)) (w : World) (s : Scope) (m : Mode) (n : Count) (f : FieldName) (p : Span) (x : ExpForm) (rest : Row_of-Field n) (st : Sites) (o : Out) → typed w x s st (of_field (label_at s f) m) ≡ Some o → BadField names w s m n rest o.sites ⊎ HasStrayLabel w s m n rest o.sites →
    BadField names w s m _ (more_of-Field f p x rest) st ⊎ HasStrayLabel w s m _ (more_of-Field f p x rest) st
field_behind names w s m n f p x rest st o eq (inl b) = inl (record { behind = b.behind; part = b.part; mode = b.mode; stands = later_field eq b.stands; faulty = b.faulty })
field_behind names w s m n f p x rest st o eq (inr l) = inr (later_label eq l)

fields_explained : (names : List (List ℕ)) (w : World) (n : Count) (fs : Row_of-Field n) → FieldsExplained names w fs → (s : Scope) (st : Sites) (m : Mode) → fields_walk w fs s st m ≡ None → BadField names w s m n fs st ⊎ HasStrayLabel w s m n fs st
fields_explained names w _ end_of-Field k s st m h = absurd (some_none h)
fields_explained names w _ (more_of-Field {n = n} f p x rest) k s st m h =
    elim (if_none_is (label_is_in (variables s.env) (label_at s f)) (option_and_then (λ o. option_map (with_field (label_at s f) o) (fields_walk w rest s o.sites m)) (typed w x s st (of_field (label_at s f) m))) h) [
      | inl a ↦ inr (this_label a)
      | inr c ↦ elim (then_none_is (λ o. option_map (with_field (label_at s f) o) (fields_walk w rest s o.sites m)) (typed w x s st (of_field (label_at s f) m)) c) [
        | inl v ↦ inl (record { behind = st; part = x; mode = of_field (label_at s f) m; stands = this_field; faulty = k.0 s st (of_field (label_at s f) m) v })
        | inr o ↦ field_behind names w s m n f p x rest st o.0 o.1 (fields_explained names w n rest k.1 s o.0.sites m (map_none_is (with_field (label_at s f) o.0) (fields_walk w rest s o.0.sites m) o.2))
      ]
    ]

abbrev recorded : Scope → Fields → Option Out
recorded s r = gives (record_of r.row) (exp.Record' r.exps.0 r.exps.1) r.sites

pub record_explained : (names : List (List ℕ)) (w : World) (n : Shape) (fs : Row_of-Field (count n)) → FieldsExplained names w fs → Explained names w (e.Record' n fs)
record_explained names w n fs k = explained_by names w (e.Record' n fs) (λ s st m h. elim (then_none_is (λ r. if_so (are_apart s.env.known r.row) (recorded s r)) (fields_walk w fs s st m) h) [
  | inl v ↦ elim (fields_explained names w _ fs k s st m v) [ inl b ↦ part_faulty (Parts.in_record b.stands) b.faulty | inr l ↦ here_faulty _ (Causes.bad_label l) ]
  | inr r ↦ elim (if_none_is (are_apart s.env.known r.0.row) (recorded s r.0) r.2) [
    | inl a ↦ let q : (f : Fault) × BreaksFields s.env.known r.0.row f = fields_broken s.env.known r.0.row a in here_faulty q.0 (Causes.fields_meet_here r.1 q.1)
    | inr z ↦ absurd (some_none z)
  ]
])

-- ---- `let`

abbrev pub ValsExplained : List (List ℕ) → World → {n : _} → Row_of-LetVal n → Type 0
ValsExplained names w end_of-LetVal = Unit {0}
ValsExplained names w (more_of-LetVal p x c q a rest) = Explained names w a × ValsExplained names w rest

record BadVal (names : List (List ℕ)) (w : World) (b : ExpForm) (m : Mode) (n : Count) (vs : Row_of-LetVal n) (s : Scope) (st : Sites) : Type 0 where
  scope : Scope
  behind : Sites
  part : ExpForm
  mode : Mode
  stands : InVals w b m n vs s st scope behind part mode
  faulty : IsFaulty names w scope behind part mode

record BrokenVals (names : List (List ℕ)) (w : World) (b : ExpForm) (m : Mode) (n : Count) (vs : Row_of-LetVal n) (s : Scope) (st : Sites) : Type 0 where
  fault : Fault
  broken : BreaksVals names w b m n vs s st fault

-- a `let` of the further `val`s that is not accepted
record Unaccepted (names : List (List ℕ)) (w : World) (b : ExpForm) (m : Mode) (n : Count) (vs : Row_of-LetVal n) (s : Scope) (st : Sites) : Type 0 where
  out : Out
  fault : Fault
  walked : vals_walk w vs s st m (typed w b) ≡ Some out
  broken : BreaksSettled names w m out fault

abbrev ValFault : List (List ℕ) → World → ExpForm → Mode → (n : Count) → Row_of-LetVal n → Scope → Sites → Type 0
ValFault names w b m n vs s st = BadVal names w b m n vs s st ⊎ BrokenVals names w b m n vs s st

after_explained : (names : List (List ℕ)) (w : World) (b : ExpForm) (m : Mode) → Explained names w b → (n : Count) (vs : Row_of-LetVal n) (s : Scope) (st : Sites) → (has_vals vs ≡ true → vals_walk w vs s st m (typed w b) ≡ None → ValFault names w b m n vs s st) → let_walk w vs s st m (typed w b) ≡ None →
    ValFault names w b m n vs s st ⊎ Unaccepted names w b m n vs s st
after_explained names w b m kb _ end_of-LetVal s st k h = inl (inl (record { scope = s; behind = st; part = b; mode = m; stands = let_body; faulty = kb s st m h }))
after_explained names w b m kb _ (more_of-LetVal p x c q a rest) s st k h =
    elim (then_none_is (settled w.most m) (vals_walk w (more_of-LetVal p x c q a rest) s st m (typed w b)) h) [
      | inl v ↦ inl (k refl v)
      | inr r ↦ let z : (f : Fault) × BreaksSettled names w m r.0 f = unsettled names w m r.0 r.2 in inr (record { out = r.0; fault = z.0; walked = r.1; broken = z.1 })
    ]

val_then : (names : List (List ℕ)) (w : World) (b : ExpForm) (m : Mode) (n : Count) (p q : Span) (x : List ℕ) (c : Con) (a : ExpForm) (rest : Row_of-LetVal n) (s : Scope) (st : Sites) (u : NormalType) (o : Out) → written_type w s c ≡ Some u → typed w a s st (wants u) ≡ Some o →
    ValFault names w b m n rest (within_binder (binder.Named x) u s) o.sites ⊎ Unaccepted names w b m n rest (within_binder (binder.Named x) u s) o.sites → ValFault names w b m _ (more_of-LetVal p x c q a rest) s st
val_then names w b m n p q x c a rest s st u o eu eo (inl (inl v)) = inl (record { scope = v.scope; behind = v.behind; part = v.part; mode = v.mode; stands = later_val eu eo v.stands; faulty = v.faulty })
val_then names w b m n p q x c a rest s st u o eu eo (inl (inr v)) = inr (record { fault = v.fault; broken = Causes.val_behind eu eo v.broken })
val_then names w b m n p q x c a rest s st u o eu eo (inr v) = inr (record { fault = v.fault; broken = Causes.let_unsettled eu eo v.walked v.broken })

abbrev local_out : NormalType → Out → Out → Option Out
local_out u o z = gives z.of (make.local u o.exp z.exp) z.sites

abbrev after_val : World → {n : _} → Row_of-LetVal n → ExpForm → List ℕ → Scope → Mode → NormalType → Out → Option Out
after_val w rest b x s m u o = option_and_then (local_out u o) (let_walk w rest (within_binder (binder.Named x) u s) o.sites m (typed w b))

vals_explained : (names : List (List ℕ)) (w : World) (b : ExpForm) (m : Mode) → Explained names w b → (n : Count) (vs : Row_of-LetVal n) → ValsExplained names w vs → has_vals vs ≡ true → (s : Scope) (st : Sites) → vals_walk w vs s st m (typed w b) ≡ None → ValFault names w b m n vs s st
vals_explained names w b m kb _ end_of-LetVal k i s st h = absurd (true≢false (sym i))
vals_explained names w b m kb _ (more_of-LetVal {n = n} p x c q a rest) k i s st h =
    elim (then_none_is (let_with s st m x (typed w a) (λ s' st' n'. let_walk w rest s' st' n' (typed w b))) (written_type w s c) h) [
      | inl v ↦ let t : (f : Fault) × BreaksType w s c f = type_broken w s c v in inr (record { fault = t.0; broken = Causes.bad_type t.1 })
      | inr u ↦ elim (if_none_is (is_value_type u.0) (option_and_then (after_val w rest b x s m u.0) (typed w a s st (wants u.0))) u.2) [
        | inl v ↦ inr (record { fault = _; broken = Causes.no_value u.1 v })
        | inr d ↦ elim (then_none_is (after_val w rest b x s m u.0) (typed w a s st (wants u.0)) d) [
          | inl v ↦ inl (record { scope = s; behind = st; part = a; mode = wants u.0; stands = this_val u.1; faulty = k.0 s st (wants u.0) v })
          | inr o ↦ elim (then_none_is (local_out u.0 o.0) (let_walk w rest (within_binder (binder.Named x) u.0 s) o.0.sites m (typed w b)) o.2) [
            | inl v ↦ val_then names w b m n p q x c a rest s st u.0 o.0 u.1 o.1
                (after_explained names w b m kb n rest (within_binder (binder.Named x) u.0 s) o.0.sites (λ j t. vals_explained names w b m kb n rest k.1 j (within_binder (binder.Named x) u.0 s) o.0.sites t) v)
            | inr z ↦ absurd (some_none z.2)
          ]
        ]
      ]
    ]

pub let_explained : (names : List (List ℕ)) (w : World) (n : Shape) (vs : Row_of-LetVal (count n)) (r : Span) (b : ExpForm) → ValsExplained names w vs → Explained names w b → Explained names w (e.Let' n vs tt (its r b alone))
let_explained names w [] end_of-LetVal r b k kb = explained_by names w (e.Let' [] end_of-LetVal tt (its r b alone)) (λ s st m h. here_faulty _ Causes.no_val)
let_explained names w (tt ∷ n) (more_of-LetVal p x c q a rest) r b k kb = explained_by names w (e.Let' (tt ∷ n) (more_of-LetVal p x c q a rest) tt (its r b alone)) (λ s st m h.
    elim (vals_explained names w b m kb _ (more_of-LetVal p x c q a rest) k refl s st h) [ inl v ↦ part_faulty (Parts.in_let v.stands) v.faulty | inr v ↦ here_faulty _ (Causes.in_vals v.broken) ])
