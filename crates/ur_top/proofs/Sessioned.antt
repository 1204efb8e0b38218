-- One connection's session, at what is told.
use Rattle.std.proofs.Common.{◌≡◌, ℕ, suc, ◌≤◌, min, Bool, true, false, if◌then◌else◌, List, [], ◌∷◌, Option, Some, None, Any, refl, sym, ap, subst, ◌∙◌, arith}
use Rattle.std.specs.List.{list_any}
use Rattle.ur_base.specs.Counts.{Rose, RoseBy}
use Rattle.ur_base.specs.Told.{WhereTold, Tells}
use Rattle.ur_io.specs.declared.session.SessionEnd.{SessionEnd}
use Rattle.ur_io.specs.declared.session.Mark.{Mark}
use Rattle.ur_io.specs.declared.session.Mark.TheVariants as mark
use Rattle.ur_io.specs.declared.session.Why.{Why}
use Rattle.ur_io.specs.declared.session.Why.TheVariants as why
use Rattle.ur_io.specs.Calls.{count_after}
use Rattle.ur_io.specs.Traffic.{Traffic, Opens, opened}
use Rattle.ur_serve.specs.Faults.{count_at_end}
use Rattle.ur_serve.specs.Programs.{IsSessionOn}
use Rattle.ur_serve.specs.Program.{Holding, ServedProgram, ServedAnswers, ServedReaches}
use Rattle.ur_headline.specs.Counting.{is_keeper, keeper_fault, is_wire}
use Rattle.ur_headline.proofs.Counting.{rose_none}
use Rattle.ur_top.specs.Serving.{IsNext, HasNext, IsTaken}

-- ---- the session

abbrev pub HasSession : ServedProgram → ℕ → Option Traffic → Option Holding → SessionEnd → Option Traffic → Option Holding → Type 0
HasSession p most told held s told' held' = WhereTold told (λ t. WhereTold held (λ now. Tells told' (λ u. Tells held' (λ after.
    IsSessionOn (ServedAnswers p) (ServedReaches p) (λ (h : Holding). h.store) most now t s after u))))

pub next_session : (p : ServedProgram) (left : ℕ) (told0 told1 told2 told3 : Option Traffic) (held0 held1 : Option Holding) (s s' : SessionEnd) →
    WhereTold told0 (λ t. Opens t true told1)
    → HasSession p (min 1000 left) told1 held0 s told2 held1 → told3 ≡ told2 → s' ≡ s → HasNext p left told0 held0 s' told3 held1
next_session p left None told1 told2 told3 held0 held1 s s' opens session same is = tt
next_session p left (Some t) told1 told2 told3 None held1 s s' opens session same is = tt
next_session p left (Some t) None told2 told3 (Some now) held1 s s' (first, rest, comes, none) session same is = absurd (cc)
next_session p left (Some t) (Some v) None told3 (Some now) held1 s s' opens session same is = absurd session
next_session p left (Some t) (Some v) (Some u) told3 (Some now) None s s' opens session same is = absurd session
next_session p left (Some t) (Some v) (Some u) told3 (Some now) (Some after) s s' opens session same is =
    subst (λ o. HasNext p left (Some t) (Some now) s' o (Some after)) (sym same)
    (subst (λ e. IsNext p left now t e after u) (sym is) (record { opened = v; opens = opens; session = session }))

opened_coming : (t v : Traffic) (first : List ℕ) (rest : List (List ℕ)) → Some v ≡ Some (opened t first rest) → v.coming ≡ rest
opened_coming t v first rest e = let same : v ≡ opened t first rest = cc in ap (λ (x : Traffic). x.coming) same

pub next_taken : (told0 told1 told2 told3 : Option Traffic) → WhereTold told0 (λ t. Opens t true told1) →
    WhereTold told1 (λ t. Tells told2 (λ u. u.coming ≡ t.coming)) → told3 ≡ told2 → IsTaken told0 told3
next_taken None told1 told2 told3 opens coming same = tt
next_taken (Some t) None told2 told3 (first, rest, comes, none) coming same = absurd (cc)
next_taken (Some t) (Some v) None told3 opens coming same = absurd coming
next_taken (Some t) (Some v) (Some u) told3 (first, rest, comes, is) coming same =
    subst (λ o. IsTaken (Some t) o) (sym same) (first, comes ∙ ap (λ r. first ∷ r) (sym (coming ∙ opened_coming t v first rest is)))

-- ---- faults

any_here : {A : Type 0} {P : A → Type 0} (x : A) (xs : List A) → P x → Any P (x ∷ xs)
any_here x xs p = (0, x, omega arith, refl, p)

any_later : {A : Type 0} {P : A → Type 0} (x : A) (xs : List A) → Any P xs → Any P (x ∷ xs)
any_later x xs (k, y, within, is, p) = (suc k, y, omega (arith, within), is, p)

keeper_any : (marks : List Mark) → list_any is_keeper marks ≡ true → Any (λ m. m ≡ mark.Keeper) marks
keeper_any [] e = cc
keeper_any (mark.Keeper ∷ marks) e = any_here mark.Keeper marks refl
keeper_any (mark.Done ∷ marks) e = any_later mark.Done marks (keeper_any marks e)
keeper_any (mark.Memory ∷ marks) e = any_later mark.Memory marks (keeper_any marks e)

one_if : (b : Bool) (old new : ℕ) → (b ≡ true → Rose old new) → old ≤ new → RoseBy (if b then 1 else 0) old new
one_if true old new h le = h refl
one_if false old new h le = rose_none old new le

pub keeper_rose : (s : SessionEnd) (old new : ℕ) → (Any (λ m. m ≡ mark.Keeper) s.marks → Rose old new) → old ≤ new → RoseBy (keeper_fault s) old new
keeper_rose s old new h le = one_if (list_any is_keeper s.marks) old new (λ e. h (keeper_any s.marks e)) le

pub wire_counted : (w : Why) (old : ℕ) → count_at_end w old ≡ count_after (is_wire w) old
wire_counted why.Wire old = refl
wire_counted why.End old = refl
wire_counted why.Truncated old = refl
wire_counted why.Closed old = refl
wire_counted why.Full old = refl

pub rose_before : (n old mid new : ℕ) → old ≤ mid → RoseBy n mid new → RoseBy n old new
rose_before n old mid new le h = grind arith
