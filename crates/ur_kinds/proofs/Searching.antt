-- The first act that breaks a rule of kinds.
use Rattle.std.proofs.Common.{◌≡◌, ◌≢◌, refl, ap, ap₂, sym, ◌∙◌, subst, ℕ, suc, ◌+◌, ◌<◌, ◌≤◌, arith, List, [], ◌∷◌, length, drop, get_or, Option, Some, None, Result, Ok, Err, OnOk, true≢false}
use Rattle.std.specs.Result.{IsErrAnd}
use Rattle.std.proofs.Math.Seq.{drop-cons, drop-length}
use Rattle.ur_base.specs.Stopping.{IfRefused, Says}
use Rattle.ur_base.specs.declared.refusal.Span.{Span}
use Rattle.ur_base.specs.declared.refusal.Refusal.{Refusal}
use Rattle.ur_base.specs.declared.refusal.Stop.{Stop}
use Rattle.ur_base.specs.declared.refusal.Stop.TheVariants as stop
use Rattle.ur_syntax.specs.declared.kind.Kind.{Kind}
use Rattle.ur_syntax.specs.declared.con.ConForm.{ConForm}
use Rattle.ur_syntax.specs.HasKind.{Scope}
use Rattle.ur_kinds.specs.Unknown.{unknown_in}
use Rattle.ur_kinds.specs.Faults.{Fault, unknown, bad_kind, TellsKind, HasFault, Misfits, faulty, other_kind}
use Rattle.ur_kinds.specs.Kindless.{Told, HasNoKind, HasNotKind}
use Rattle.ur_kinds.specs.declared.event.Event.{Event}
use Rattle.ur_kinds.specs.declared.state.State.{State}
use Rattle.ur_kinds.specs.Acts.{Act, act_of, acts, plain, written, argument}
use Rattle.ur_kinds.specs.Keys.{ButNames}
use Rattle.ur_kinds.specs.KindedFaults.{Fits, Lacks, LacksAny, Misplaced, IsKinded, Breaks, AreKinded, FirstFault, here, later, after, wanted_of}
use Rattle.ur_kinds.specs.KindedLaws.{FaultyIsNotKinded, OneFaultOfKinds, EachHasItsKind}

-- ---- refusals for names

apart : {A : Type 0} (n : ℕ) → n ≡ 7 → n ≡ 9 → A
apart n e f = absurd (two n e f) where
  two : (n : ℕ) → n ≡ 7 → n ≡ 9 → ⊥
  two n e f = omega arith

-- where the names are known, the refusal is one of kinds
kinds-told : (P : Type 0) (o : Option (List ℕ)) (r : Refusal) → o ≡ None → Told o r P → (r.code ≡ 9) × P
kinds-told P o r e t = subst (λ z. Told z r P) e t

-- where it is no refusal for a name, the names are known
names-known : (P : Type 0) (o : Option (List ℕ)) (r : Refusal) → r.code ≢ 7 → Told o r P → o ≡ None
names-known P None r n t = refl
names-known P (Some x) r n t = absurd (n t.0)

-- what is told of a fault is its code and texts, and not the place
tells-again : (r q : Refusal) (f : Fault) → Says q r.code r.left r.right → TellsKind r f → TellsKind q f
tells-again r q (unknown x) e t = (e.0 ∙ t.0, e.1 ∙ t.1, e.2 ∙ t.2)
tells-again r q (bad_kind found wanted) e t = (e.0 ∙ t.0, e.1 ∙ t.1, e.2 ∙ t.2)

fault-again : {s : Scope} {c : ConForm} (r q : Refusal) → Says q r.code r.left r.right → HasFault s c r → HasFault s c q
fault-again r q e f =
    record { fault = f.fault; scope = f.scope; place = f.place; stands = f.stands; broken = f.broken; told = tells-again r q f.fault e f.told }

misfit-again : {s : Scope} {c : ConForm} {k : Kind} (r q : Refusal) → Says q r.code r.left r.right → Misfits s c k r → Misfits s c k q
misfit-again r q e (faulty f) = faulty (fault-again r q e f)
misfit-again r q e (other_kind {found = found} {wanted = wanted} h n t) = other_kind h n (tells-again r q (bad_kind found wanted) e t)

pub passed-kinded : (s : Scope) (p : Span) (c : ConForm) (k : Kind) (e : Stop) (r : Result (Unit {0}) Stop) → ButNames p e r → IfRefused {A = Unit {0}} (Err e) (HasNotKind s c k) → OnOk r (Fits s c (Some k))
passed-kinded s p c k (stop.Refused x) (Ok a) b h = λ known. apart x.code b (kinds-told _ (unknown_in s c) x known h.told).0
passed-kinded s p c k stop.Memory (Ok a) b h = absurd b
passed-kinded s p c k e (Err y) b h = tt

pub passed-refused : (s : Scope) (p : Span) (c : ConForm) (k : Kind) (e : Stop) (r : Result (Unit {0}) Stop) → ButNames p e r → IfRefused {A = Unit {0}} (Err e) (HasNotKind s c k) → IfRefused r (Misplaced s p c (Some k))
passed-refused s p c k e (Ok a) b h = tt
passed-refused s p c k e (Err stop.Memory) b h = tt
passed-refused s p c k stop.Memory (Err (stop.Refused q)) b h = absurd b
passed-refused s p c k (stop.Refused x) (Err (stop.Refused q)) b h = lacks (names-known _ (unknown_in s c) x b.2 h.told) where
  lacks : unknown_in s c ≡ None → Lacks s p c k q
  lacks known = let told = kinds-told _ (unknown_in s c) x known h.told in record {
    known = known;
    none = h.none;
    code = b.0.0 ∙ told.0;
    place = b.1;
    told = misfit-again x q b.0 told.1;
  }

pub any-kinded : (s : Scope) (p : Span) (c : ConForm) (e : Stop) (r : Result (Unit {0}) Stop) → ButNames p e r → IfRefused {A = Unit {0}} (Err e) (HasNoKind s c) → OnOk r (Fits s c None)
any-kinded s p c (stop.Refused x) (Ok a) b h = λ known. apart x.code b (kinds-told _ (unknown_in s c) x known h.told).0
any-kinded s p c stop.Memory (Ok a) b h = absurd b
any-kinded s p c e (Err y) b h = tt

pub any-refused : (s : Scope) (p : Span) (c : ConForm) (e : Stop) (r : Result (Unit {0}) Stop) → ButNames p e r → IfRefused {A = Unit {0}} (Err e) (HasNoKind s c) → IfRefused r (Misplaced s p c None)
any-refused s p c e (Ok a) b h = tt
any-refused s p c e (Err stop.Memory) b h = tt
any-refused s p c stop.Memory (Err (stop.Refused q)) b h = absurd b
any-refused s p c (stop.Refused x) (Err (stop.Refused q)) b h = lacks (names-known _ (unknown_in s c) x b.2 h.told) where
  lacks : unknown_in s c ≡ None → LacksAny s p c q
  lacks known = let told = kinds-told _ (unknown_in s c) x known h.told in record {
    known = known;
    none = h.none;
    code = b.0.0 ∙ told.0;
    place = b.1;
    told = fault-again x q b.0 told.1;
  }

-- ---- along the acts

-- what holds of the acts that are left holds of all
pub record Leads (s : State) (all : List Act) (t : State) (left : List Act) : Type 0 where
  pub sound : AreKinded t left → AreKinded s all
  pub first : (r : Refusal) → FirstFault t left r → FirstFault s all r

leads-from : (s : State) (all : List Act) → Leads s all s all
leads-from s all = record { sound = λ k. k; first = λ r f. f }

pub leads-start : (s t : State) (es : List Event) → t ≡ s → Leads s (acts es) t (acts (drop 0 es))
leads-start s t [] e = subst (λ z. Leads s [] z []) (sym e) (leads-from s [])
leads-start s t (x ∷ es) e = subst (λ z. Leads s (acts (x ∷ es)) z (acts (x ∷ es))) (sym e) (leads-from s (acts (x ∷ es)))

next-drop : {A : Type 0} (xs : List A) (i : ℕ) (x : A) → i < length xs → x ≡ get_or xs i x → drop i xs ≡ x ∷ drop (i + 1) xs
next-drop xs i x h g = drop-cons xs i x h ∙ ap₂ (λ y n. y ∷ drop n xs) (sym g) (more i) where
  more : (i : ℕ) → suc i ≡ i + 1
  more i = omega arith

leads-along : {s : State} {all : List Act} {t : State} {a : Act} {more : List Act} → Leads s all t (a ∷ more) → IsKinded t a → Leads s all (after t a) more
leads-along l k = record { sound = λ m. l.sound (k, m); first = λ r f. l.first r (later k f) }

pub leads-next : {s : State} {all : List Act} {t u : State} (es : List Event) (i : ℕ) (e : Event) → i < length es → e ≡ get_or es i e → Leads s all t (acts (drop i es)) → IsKinded t (act_of e) → u ≡ after t (act_of e) →
    Leads s all u (acts (drop (i + 1) es))
leads-next {s = s} {all = all} {t = t} es i e h g l k q =
    subst (λ z. Leads s all z (acts (drop (i + 1) es))) (sym q) (leads-along (subst (λ z. Leads s all t (acts z)) (next-drop es i e h g) l) k)

-- the first fault is the refusal's
pub first-here : {s : State} {all : List Act} {t : State} (es : List Event) (i : ℕ) (e : Event) → i < length es → e ≡ get_or es i e → Leads s all t (acts (drop i es)) →
    (r : Refusal) → Breaks t (act_of e) r → FirstFault s all r
first-here {s = s} {all = all} {t = t} es i e h g l r b = (subst (λ z. Leads s all t (acts z)) (next-drop es i e h g) l).first r (here b)

meet : (i n : ℕ) → n ≤ i → i ≤ n → i ≡ n
meet i n h k = omega arith

pub leads-end : {s : State} {all : List Act} {t : State} (es : List Event) (i : ℕ) → length es ≤ i → i ≤ length es → Leads s all t (acts (drop i es)) → AreKinded s all
leads-end {s = s} {all = all} {t = t} es i h k l = (subst (λ z. Leads s all t (acts z)) (ap (λ j. drop j es) (meet i (length es) h k) ∙ drop-length es) l).sound tt

pub refused-exit : {B : Type 0} (r : Result B Stop) (e : Stop) {P Q : Refusal → Type 0} → IsErrAnd r (λ y. y ≡ e) → ((x : Refusal) → P x → Q x) → IfRefused {A = Unit {0}} (Err e) P → IfRefused r Q
refused-exit (Ok b) e i f h = absurd i
refused-exit (Err (stop.Refused x)) e {P = P} i f h = f x (subst (λ z. IfRefused {A = Unit {0}} (Err z) P) (sym i) h)
refused-exit (Err stop.Memory) e i f h = tt

-- ---- laws

misplaced-fits : (s : Scope) (p : Span) (c : ConForm) (o : Option Kind) (r : Refusal) → Misplaced s p c o r → Fits s c o → ⊥
misplaced-fits s p c (Some k) r m f = m.none (f m.known)
misplaced-fits s p c None r m f = m.none (f m.known).0 (f m.known).1

breaks-kinded : (s : State) (a : Act) (r : Refusal) → Breaks s a r → IsKinded s a → ⊥
breaks-kinded s (written c k) r b h = b.none (h b.known)
breaks-kinded s (argument f c) r b h = misplaced-fits _ c.span c.form (wanted_of s f) r b h
breaks-kinded s (plain p k) r b h = true≢false (sym h ∙ b.0)
breaks-kinded s _ r b h = b

pub fault-unkinded : FaultyIsNotKinded
fault-unkinded s [] r x k = elim x [ ]
fault-unkinded s (a ∷ more) r (here b) k = breaks-kinded s a r b k.0
fault-unkinded s (a ∷ more) r (later i f) k = fault-unkinded (after s a) more r f k.1

one-misplaced : (s : Scope) (p : Span) (c : ConForm) (o : Option Kind) (q r : Refusal) → Misplaced s p c o q → Misplaced s p c o r
    → (q.code ≡ r.code) × (q.span ≡ r.span)
one-misplaced s p c (Some k) q r m n = (m.code ∙ sym n.code, m.place ∙ sym n.place)
one-misplaced s p c None q r m n = (m.code ∙ sym n.code, m.place ∙ sym n.place)

one-break : (s : State) (a : Act) (q r : Refusal) → Breaks s a q → Breaks s a r → (q.code ≡ r.code) × (q.span ≡ r.span)
one-break s (written c k) q r b d = (b.code ∙ sym d.code, b.place ∙ sym d.place)
one-break s (argument f c) q r b d = one-misplaced _ c.span c.form (wanted_of s f) q r b d
one-break s (plain p k) q r b d = (b.1.0 ∙ sym d.1.0, b.2 ∙ sym d.2)
one-break s _ q r b d = absurd b

pub one-fault : OneFaultOfKinds
one-fault s [] q r x y = elim x [ ]
one-fault s (a ∷ more) q r (here b) (here d) = one-break s a q r b d
one-fault s (a ∷ more) q r (here b) (later i f) = absurd (breaks-kinded s a q b i)
one-fault s (a ∷ more) q r (later i f) (here d) = absurd (breaks-kinded s a r d i)
one-fault s (a ∷ more) q r (later i f) (later j g) = one-fault (after s a) more q r f g

pub each : EachHasItsKind
each s [] behind c k h e = h.0 e
each s (a ∷ before) behind c k h e = each (after s a) before behind c k h.1 e
