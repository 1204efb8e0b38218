-- Where the walk has no answer there is a fault: one lemma for a form, over its parts.
use Rattle.std.proofs.Common.{inl, inr, ◌≡◌, ◌∙◌, refl, sym, ap₂, Bool, true, false, true≢false, Option, Some, None, List, ℕ}
use Rattle.std.specs.Prelude.{◌&&◌, ◌||◌, not, nat_le, option_and_then}
use Rattle.ur_base.specs.declared.refusal.Span.{Span}
use Rattle.ur_syntax.specs.declared.con.FieldName.{FieldName}
use Rattle.ur_syntax.specs.declared.exp.Binary.{Binary as WrittenBinary}
use Rattle.ur_syntax.specs.declared.exp.Binary.TheVariants as op
use Rattle.ur_syntax.specs.declared.exp.Binder.{Binder}
use Rattle.ur_syntax.specs.declared.exp.Binder.TheVariants as binder
use Rattle.ur_syntax.specs.declared.exp.Removed.{Removed}
use Rattle.ur_syntax.specs.declared.exp.ExpForm.{ExpForm, end_of-Exp as alone, more_of-Exp as its}
use Rattle.ur_syntax.specs.declared.exp.ExpForm.TheVariants as e
use Rattle.ur_rows.specs.declared.normal.NormalType.{NormalType}
use Rattle.ur_rows.specs.declared.normal.NormalType.TheVariants as ty
use Rattle.ur_rows.specs.declared.normal.Part.{Part as RowPart}
use Rattle.ur_rows.specs.Apart.{Assumptions}
use Rattle.ur_rows.specs.Made.{record_of}
use Rattle.ur_rows.specs.Nodes.{type_nodes}
use Rattle.ur_rows.specs.Order.{joined}
use Rattle.ur_rows.specs.Types.{field_type, without, holds_arrow, may_run}
use Rattle.ur_tree.specs.Scalars.{is_basic}
use Rattle.ur_tree.specs.declared.exp.Exp.TheVariants as exp
use Rattle.ur_tree.specs.declared.exp.Unary.TheVariants as unary
use Rattle.ur_tree.specs.Make as make
use Rattle.ur_tree.specs.IsStatic.{is_static}
use Rattle.ur_tree.specs.Typing.{joins, operation}
use Rattle.ur_typed_rules.specs.Scopes.{World, Scope, Mode, finds, wants, within_binder, of_option, of_transaction}
use Rattle.ur_typed_rules.specs.Tests.{is_apart}
use Rattle.ur_typed.specs.Rules.{Sites, Out, is_accepted, fits, settled, gives, is_list, operator_of, left_mode, right_mode, left_may, operation_type, join_types, bind_with}
use Rattle.ur_typed.specs.Walking.{typed, walk}
use Rattle.ur_typed.specs.Parts.{Part, itself, within}
use Rattle.ur_typed.specs.Causes.{Breaks, BreaksSettled}
use Rattle.ur_typed_faults.specs.Converse.{IsFaulty, Explained}
use Rattle.ur_typed_rules.specs.Faults.{Fault}
use Rattle.ur_typed_rules.specs.Rules.{if_so, row_of, value_of, label_at}
use Rattle.ur_typed_rules.proofs.Options.{both_false, some_none, then_none_is, if_none_is}
use Rattle.ur_typed.specs.Parts
use Rattle.ur_typed.specs.Causes

-- ---- options without an answer

or_false : (a b : Bool) → (not a || b) ≡ false → (a ≡ true) × (b ≡ false)
or_false true b h = (refl, h)
or_false false b h = absurd (true≢false h)

-- ---- faults of a form and of its parts

pub here_faulty : {names : List (List ℕ)} {w : World} {s : Scope} {st : Sites} {x : ExpForm} {m : Mode} (f : Fault) → Breaks names w s st x m f → IsFaulty names w s st x m
here_faulty {names} {w} {s} {st} {x} {m} f b = record { fault = f; scope = s; behind = st; place = x; mode = m; stands = itself; broken = b }

pub part_faulty : {names : List (List ℕ)} {w : World} {s t : Scope} {st su : Sites} {x y : ExpForm} {m n : Mode} → Part w s st x m t su y n → IsFaulty names w t su y n → IsFaulty names w s st x m
part_faulty p h = record { fault = h.fault; scope = h.scope; behind = h.behind; place = h.place; mode = h.mode; stands = within p h.stands; broken = h.broken }

unfit : (names : List (List ℕ)) (w : World) (m : Mode) (o : Out) → fits m o.of ≡ false → (f : Fault) × BreaksSettled names w m o f
unfit names w finds o h = absurd (true≢false h)
unfit names w (wants t) o h = (_, Causes.other_type h)

unaccepted : (names : List (List ℕ)) (w : World) (m : Mode) (o : Out) → is_accepted w.most o.exp o.of ≡ false → (f : Fault) × BreaksSettled names w m o f
unaccepted names w m o h = elim (both_false (nat_le (type_nodes o.of) w.most) (may_run o.of && (not (holds_arrow o.of) || is_static o.exp)) h) [
  | inl a ↦ (_, Causes.grows a)
  | inr b ↦ elim (both_false (may_run o.of) (not (holds_arrow o.of) || is_static o.exp) b) [
    | inl c ↦ (_, Causes.runs c)
    | inr d ↦ let q : (holds_arrow o.of ≡ true) × (is_static o.exp ≡ false) = or_false (holds_arrow o.of) (is_static o.exp) d in (_, Causes.moves q.0 q.1)
  ]
]

pub unsettled : (names : List (List ℕ)) (w : World) (m : Mode) (o : Out) → settled w.most m o ≡ None → (f : Fault) × BreaksSettled names w m o f
unsettled names w m o h = elim (if_none_is (is_accepted w.most o.exp o.of && fits m o.of) (Some o) h) [
  | inl a ↦ elim (both_false (is_accepted w.most o.exp o.of) (fits m o.of) a) [ inl b ↦ unaccepted names w m o b | inr c ↦ unfit names w m o c ]
  | inr n ↦ absurd (some_none n)
]

-- it is enough to look at the form's rule
pub explained_by : (names : List (List ℕ)) (w : World) (x : ExpForm) → ((s : Scope) (st : Sites) (m : Mode) → walk w x s st m ≡ None → IsFaulty names w s st x m) → Explained names w x
explained_by names w x k s st m h = elim (then_none_is (settled w.most m) (walk w x s st m) h) [
  | inl n ↦ k s st m n
  | inr r ↦ let b : (f : Fault) × BreaksSettled names w m r.0 f = unsettled names w m r.0 r.2 in here_faulty b.0 (Causes.unsettled r.1 b.1)
]

-- ---- forms

pub int_explained : (names : List (List ℕ)) (w : World) (n : ℕ) → Explained names w (e.Int n)
int_explained names w n = explained_by names w (e.Int n) (λ s st m h. absurd (some_none h))

pub string_explained : (names : List (List ℕ)) (w : World) (t : List ℕ) → Explained names w (e.Str t)
string_explained names w t = explained_by names w (e.Str t) (λ s st m h. absurd (some_none h))

pub unit_explained : (names : List (List ℕ)) (w : World) → Explained names w e.Unit
unit_explained names w = explained_by names w e.Unit (λ s st m h. absurd (some_none h))

pub nil_explained : (names : List (List ℕ)) (w : World) → Explained names w e.Nil
nil_explained names w = explained_by names w e.Nil (λ s st m h. by_mode names w s st m h) where
  by_mode : (names : List (List ℕ)) (w : World) (s : Scope) (st : Sites) (m : Mode) → walk w e.Nil s st m ≡ None → IsFaulty names w s st e.Nil m
  by_mode names w s st finds h = here_faulty _ (Causes.unannotated Causes.nil)
  by_mode names w s st (wants t) h = elim (if_none_is (is_list t) (gives t (exp.Empty t) st) h) [ inl a ↦ here_faulty _ (Causes.empty_there a) | inr n ↦ absurd (some_none n) ]

pub negative_explained : (names : List (List ℕ)) (w : World) (p : Span) (x : ExpForm) → Explained names w x → Explained names w (e.Negative' tt (its p x alone))
negative_explained names w p x k = explained_by names w (e.Negative' tt (its p x alone)) (λ s st m h. elim (then_none_is _ (typed w x s st (wants ty.Int)) h) [ inl n ↦ part_faulty Parts.negated (k s st (wants ty.Int) n) | inr r ↦ absurd (some_none r.2) ])

pub not_explained : (names : List (List ℕ)) (w : World) (p : Span) (x : ExpForm) → Explained names w x → Explained names w (e.Not' tt (its p x alone))
not_explained names w p x k = explained_by names w (e.Not' tt (its p x alone)) (λ s st m h. elim (then_none_is _ (typed w x s st (wants ty.Bool)) h) [ inl n ↦ part_faulty Parts.denied (k s st (wants ty.Bool) n) | inr r ↦ absurd (some_none r.2) ])

pub some_explained : (names : List (List ℕ)) (w : World) (p : Span) (x : ExpForm) → Explained names w x → Explained names w (e.Some' tt (its p x alone))
some_explained names w p x k = explained_by names w (e.Some' tt (its p x alone)) (λ s st m h. elim (then_none_is _ (typed w x s st (of_option m)) h) [ inl n ↦ part_faulty Parts.present (k s st (of_option m) n) | inr r ↦ absurd (some_none r.2) ])

pub return_explained : (names : List (List ℕ)) (w : World) (p : Span) (x : ExpForm) → Explained names w x → Explained names w (e.Return' tt (its p x alone))
return_explained names w p x k = explained_by names w (e.Return' tt (its p x alone)) (λ s st m h. elim (then_none_is _ (typed w x s st (of_transaction m)) h) [ inl n ↦ part_faulty Parts.returned (k s st (of_transaction m) n) | inr r ↦ absurd (some_none r.2) ])

abbrev shown_out : Out → Option Out
shown_out z = gives ty.Str (make.unary unary.Show z.exp) z.sites

pub show_explained : (names : List (List ℕ)) (w : World) (p : Span) (x : ExpForm) → Explained names w x → Explained names w (e.Show' tt (its p x alone))
show_explained names w p x k = explained_by names w (e.Show' tt (its p x alone)) (λ s st m h. elim (then_none_is (λ z. if_so (is_basic z.of) (shown_out z)) (typed w x s st finds) h) [
  | inl n ↦ part_faulty Parts.shown (k s st finds n)
  | inr r ↦ elim (if_none_is (is_basic r.0.of) (shown_out r.0) r.2) [ inl b ↦ here_faulty _ (Causes.not_shown r.1 b) | inr n ↦ absurd (some_none n) ]
])

pub error_explained : (names : List (List ℕ)) (w : World) (p : Span) (x : ExpForm) → Explained names w x → Explained names w (e.Error' tt (its p x alone))
error_explained names w p x k = explained_by names w (e.Error' tt (its p x alone)) (λ s st m h. by_mode names w p x k s st m h) where
  by_mode : (names : List (List ℕ)) (w : World) (p : Span) (x : ExpForm) → Explained names w x → (s : Scope) (st : Sites) (m : Mode) → walk w (e.Error' tt (its p x alone)) s st m ≡ None → IsFaulty names w s st (e.Error' tt (its p x alone)) m
  by_mode names w p x k s st finds h = here_faulty _ (Causes.unannotated Causes.error)
  by_mode names w p x k s st (wants t) h = elim (then_none_is _ (typed w x s st (wants ty.Xbody)) h) [ inl n ↦ part_faulty Parts.failed (k s st (wants ty.Xbody) n) | inr r ↦ absurd (some_none r.2) ]

-- operators: what is left is the type of the whole
abbrev Untyped : List (List ℕ) → World → WrittenBinary → Span → Span → ExpForm → ExpForm → Type 0
Untyped names w o p q x y = (s : Scope) (st : Sites) (m : Mode) (i j : Out) → typed w x s st (left_mode (operation (operator_of o)) m) ≡ Some i → typed w y s i.sites (right_mode (operation (operator_of o)) i.of) ≡ Some j → operation_type s.env.known (operation (operator_of o)) i.of j.of ≡ None →
    IsFaulty names w s st (e.Binary' o tt (its p x alone) tt (its q y alone)) m

abbrev sided_out : WrittenBinary → Out → Out → NormalType → Option Out
sided_out o i j t = gives t (make.binary (operator_of o) i.exp j.exp) j.sites

abbrev right_out : World → WrittenBinary → ExpForm → Scope → Out → Option Out
right_out w o y s i = option_and_then (λ j. option_and_then (sided_out o i j) (operation_type s.env.known (operation (operator_of o)) i.of j.of)) (typed w y s i.sites (right_mode (operation (operator_of o)) i.of))

pub operator_explained : (names : List (List ℕ)) (w : World) (o : WrittenBinary) (p q : Span) (x y : ExpForm) → Untyped names w o p q x y → Explained names w x → Explained names w y → Explained names w (e.Binary' o tt (its p x alone) tt (its q y alone))
operator_explained names w o p q x y u kx ky = explained_by names w (e.Binary' o tt (its p x alone) tt (its q y alone)) (λ s st m h.
    elim (then_none_is (λ i. if_so (left_may (operation (operator_of o)) i.of) (right_out w o y s i)) (typed w x s st (left_mode (operation (operator_of o)) m)) h) [
      | inl n ↦ part_faulty Parts.left_side (kx s st (left_mode (operation (operator_of o)) m) n)
      | inr r ↦ elim (if_none_is (left_may (operation (operator_of o)) r.0.of) (right_out w o y s r.0) r.2) [
        | inl b ↦ here_faulty _ (Causes.not_compared r.1 b)
        | inr c ↦ elim (then_none_is (λ j. option_and_then (sided_out o r.0 j) (operation_type s.env.known (operation (operator_of o)) r.0.of j.of)) (typed w y s r.0.sites (right_mode (operation (operator_of o)) r.0.of)) c) [
          | inl n ↦ part_faulty (Parts.right_side r.1) (ky s r.0.sites (right_mode (operation (operator_of o)) r.0.of) n)
          | inr v ↦ elim (then_none_is (sided_out o r.0 v.0) (operation_type s.env.known (operation (operator_of o)) r.0.of v.0.of) v.2) [ inl n ↦ u s st m r.0 v.0 r.1 v.1 n | inr z ↦ absurd (some_none z.2) ]
        ]
      ]
    ])

join_at : (known : Assumptions) (a b : NormalType) (r t : List RowPart) → row_of a ≡ Some r → row_of b ≡ Some t → operation_type known joins a b ≡ if_so (is_apart known r t) (Some (record_of (joined r t)))
join_at known a b r t ea eb = ap₂ (join_types known) ea eb

join_untyped : (names : List (List ℕ)) (w : World) (p q : Span) (x y : ExpForm) → Untyped names w op.Concat p q x y
join_untyped names w p q x y s st m i j ei ej h = by_rows (row_of i.of) (row_of j.of) refl refl h where
  by_rows : (a b : Option (List RowPart)) → row_of i.of ≡ a → row_of j.of ≡ b → operation_type s.env.known joins i.of j.of ≡ None → IsFaulty names w s st (e.Binary' op.Concat tt (its p x alone) tt (its q y alone)) m
  by_rows None b ea eb h = here_faulty _ (Causes.left_no_record ei ej ea)
  by_rows (Some r) None ea eb h = here_faulty _ (Causes.right_no_record ei ej ea eb)
  by_rows (Some r) (Some t) ea eb h = elim (if_none_is (is_apart s.env.known r t) (Some (record_of (joined r t))) (sym (join_at s.env.known i.of j.of r t ea eb) ∙ h)) [ inl a ↦ here_faulty _ (Causes.meets ei ej ea eb a) | inr n ↦ absurd (some_none n) ]

pub any_operator : (names : List (List ℕ)) (w : World) (o : WrittenBinary) (p q : Span) (x y : ExpForm) → Untyped names w o p q x y
any_operator names w op.Concat p q x y = join_untyped names w p q x y
any_operator names w op.Or p q x y = λ s st m i j ei ej h. absurd (some_none h)
any_operator names w op.And p q x y = λ s st m i j ei ej h. absurd (some_none h)
any_operator names w op.Eq p q x y = λ s st m i j ei ej h. absurd (some_none h)
any_operator names w op.Ne p q x y = λ s st m i j ei ej h. absurd (some_none h)
any_operator names w op.Lt p q x y = λ s st m i j ei ej h. absurd (some_none h)
any_operator names w op.Le p q x y = λ s st m i j ei ej h. absurd (some_none h)
any_operator names w op.Gt p q x y = λ s st m i j ei ej h. absurd (some_none h)
any_operator names w op.Ge p q x y = λ s st m i j ei ej h. absurd (some_none h)
any_operator names w op.Cons p q x y = λ s st m i j ei ej h. absurd (some_none h)
any_operator names w op.Append p q x y = λ s st m i j ei ej h. absurd (some_none h)
any_operator names w op.Add p q x y = λ s st m i j ei ej h. absurd (some_none h)
any_operator names w op.Sub p q x y = λ s st m i j ei ej h. absurd (some_none h)
any_operator names w op.Mul p q x y = λ s st m i j ei ej h. absurd (some_none h)
any_operator names w op.Div p q x y = λ s st m i j ei ej h. absurd (some_none h)
any_operator names w op.Rem p q x y = λ s st m i j ei ej h. absurd (some_none h)

abbrev chosen_out : Out → Out → Out → Option Out
chosen_out c y z = gives y.of (make.choice c.exp y.exp z.exp) z.sites

pub if_explained : (names : List (List ℕ)) (w : World) (p q r : Span) (x y z : ExpForm) → Explained names w x → Explained names w y → Explained names w z → Explained names w (e.If' tt (its p x alone) tt (its q y alone) tt (its r z alone))
if_explained names w p q r x y z kx ky kz = explained_by names w (e.If' tt (its p x alone) tt (its q y alone) tt (its r z alone)) (λ s st m h.
    elim (then_none_is (λ c. option_and_then (λ a. option_and_then (λ b. chosen_out c a b) (typed w z s a.sites (wants a.of))) (typed w y s c.sites m)) (typed w x s st (wants ty.Bool)) h) [
      | inl n ↦ part_faulty Parts.condition (kx s st (wants ty.Bool) n)
      | inr c ↦ elim (then_none_is (λ a. option_and_then (λ b. chosen_out c.0 a b) (typed w z s a.sites (wants a.of))) (typed w y s c.0.sites m) c.2) [
        | inl n ↦ part_faulty (Parts.yes_side c.1) (ky s c.0.sites m n)
        | inr a ↦ elim (then_none_is (λ b. chosen_out c.0 a.0 b) (typed w z s a.0.sites (wants a.0.of)) a.2) [ inl n ↦ part_faulty (Parts.no_side c.1 a.1) (kz s a.0.sites (wants a.0.of) n) | inr b ↦ absurd (some_none b.2) ]
      ]
    ])

abbrev bound_out : Out → Out → NormalType → Option Out
bound_out i z v = gives z.of (make.bind i.exp z.exp) z.sites

pub bind_explained : (names : List (List ℕ)) (w : World) (x : Binder) (p q : Span) (y z : ExpForm) → Explained names w y → Explained names w z → Explained names w (e.Bind' x tt (its p y alone) tt (its q z alone))
bind_explained names w x p q y z ky kz = explained_by names w (e.Bind' x tt (its p y alone) tt (its q z alone)) (λ s st m h.
    elim (then_none_is (λ i. option_and_then (bind_with s m x (typed w z) i) (value_of i.of)) (typed w y s st finds) h) [
      | inl n ↦ part_faulty Parts.first (ky s st finds n)
      | inr i ↦ elim (then_none_is (bind_with s m x (typed w z) i.0) (value_of i.0.of) i.2) [
        | inl n ↦ here_faulty _ (Causes.not_run i.1 n)
        | inr u ↦ elim (then_none_is (λ j. option_and_then (bound_out i.0 j) (value_of j.of)) (typed w z (within_binder x u.0 s) i.0.sites m) u.2) [
          | inl n ↦ part_faulty (Parts.second i.1 u.1) (kz (within_binder x u.0 s) i.0.sites m n)
          | inr j ↦ elim (then_none_is (bound_out i.0 j.0) (value_of j.0.of) j.2) [ inl n ↦ here_faulty _ (Causes.not_run_last i.1 u.1 j.1 n) | inr v ↦ absurd (some_none v.2) ]
        ]
      ]
    ])

pub sequence_explained : (names : List (List ℕ)) (w : World) (p q : Span) (y z : ExpForm) → Explained names w y → Explained names w z → Explained names w (e.Seq' tt (its p y alone) tt (its q z alone))
sequence_explained names w p q y z ky kz = explained_by names w (e.Seq' tt (its p y alone) tt (its q z alone)) (λ s st m h.
    elim (then_none_is (λ i. option_and_then (bind_with s m binder.Ignored (typed w z) i) (value_of i.of)) (typed w y s st finds) h) [
      | inl n ↦ part_faulty Parts.first_alone (ky s st finds n)
      | inr i ↦ elim (then_none_is (bind_with s m binder.Ignored (typed w z) i.0) (value_of i.0.of) i.2) [
        | inl n ↦ here_faulty _ (Causes.not_run_alone i.1 n)
        | inr u ↦ elim (then_none_is (λ j. option_and_then (bound_out i.0 j) (value_of j.of)) (typed w z (within_binder binder.Ignored u.0 s) i.0.sites m) u.2) [
          | inl n ↦ part_faulty (Parts.second_alone i.1 u.1) (kz (within_binder binder.Ignored u.0 s) i.0.sites m n)
          | inr j ↦ elim (then_none_is (bound_out i.0 j.0) (value_of j.0.of) j.2) [ inl n ↦ here_faulty _ (Causes.not_run_last_alone i.1 u.1 j.1 n) | inr v ↦ absurd (some_none v.2) ]
        ]
      ]
    ])

abbrev projected_out : Scope → FieldName → Out → NormalType → Option Out
projected_out s f i t = gives t (make.project i.exp (label_at s f)) i.sites

pub project_explained : (names : List (List ℕ)) (w : World) (p : Span) (x : ExpForm) (f : FieldName) → Explained names w x → Explained names w (e.Project' tt (its p x alone) f)
project_explained names w p x f k = explained_by names w (e.Project' tt (its p x alone) f) (λ s st m h.
    elim (then_none_is (λ i. option_and_then (λ r. option_and_then (projected_out s f i) (field_type (label_at s f) r)) (row_of i.of)) (typed w x s st finds) h) [
      | inl n ↦ part_faulty Parts.projected (k s st finds n)
      | inr i ↦ elim (then_none_is (λ r. option_and_then (projected_out s f i.0) (field_type (label_at s f) r)) (row_of i.0.of) i.2) [
        | inl n ↦ here_faulty _ (Causes.no_record i.1 n)
        | inr r ↦ elim (then_none_is (projected_out s f i.0) (field_type (label_at s f) r.0) r.2) [ inl n ↦ here_faulty _ (Causes.no_field i.1 r.1 n) | inr t ↦ absurd (some_none t.2) ]
      ]
    ])

abbrev cut_out : Scope → FieldName → Out → List RowPart → NormalType → Option Out
cut_out s f i r t = gives (record_of (without (label_at s f) r)) (make.cut i.exp (label_at s f)) i.sites

pub cut_explained : (names : List (List ℕ)) (w : World) (p : Span) (x : ExpForm) (f : Removed) → Explained names w x → Explained names w (e.Remove' tt (its p x alone) f)
cut_explained names w p x f k = explained_by names w (e.Remove' tt (its p x alone) f) (λ s st m h.
    elim (then_none_is (λ i. option_and_then (λ r. option_and_then (cut_out s f.name i r) (field_type (label_at s f.name) r)) (row_of i.of)) (typed w x s st finds) h) [
      | inl n ↦ part_faulty Parts.cut_from (k s st finds n)
      | inr i ↦ elim (then_none_is (λ r. option_and_then (cut_out s f.name i.0 r) (field_type (label_at s f.name) r)) (row_of i.0.of) i.2) [
        | inl n ↦ here_faulty _ (Causes.nothing_cut i.1 n)
        | inr r ↦ elim (then_none_is (cut_out s f.name i.0 r.0) (field_type (label_at s f.name) r.0) r.2) [ inl n ↦ here_faulty _ (Causes.no_field_cut i.1 r.1 n) | inr t ↦ absurd (some_none t.2) ]
      ]
    ])
