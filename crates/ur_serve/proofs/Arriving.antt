-- What comes on a connection, read after read.
use Rattle.std.proofs.Common.{◌≡◌, ◌≢◌, ℕ, Bool, true, false, IsTrue, nat_lt, List, [], ◌∷◌, ◌++◌, length, Option, Some, None, inl, inr, refl, sym}
use Rattle.std.proofs.Common.{ap, subst, ◌∙◌, append-nil}
use Rattle.std.specs.Prelude.{⊤}
use Rattle.std.specs.Option.{is_none}
use Rattle.ur_base.specs.Told.{WhereTold, Tells}
use Rattle.ur_io.specs.Traffic.{Traffic}
use Rattle.ur_io.specs.declared.session.Why.{Why}
use Rattle.ur_io.specs.declared.session.Why.TheVariants.{End, Truncated, Wire}
use Rattle.httparse.specs.Grammar.{RequestHead}
use Rattle.ur_http.specs.declared.request.HttpRequest.{HttpRequest}
use Rattle.ur_http.specs.declared.request.Item.TheVariants as http
use Rattle.ur_http.specs.Answers.{is_sent, phrases}
use Rattle.ur_http.specs.Fields.{target_path}
use Rattle.ur_http.specs.Requests.{fault_of, fault_where, or_else, length_fault, length_in, fields_of, lacks_host, is_coded}
use Rattle.ur_http.specs.Items.{Begins, Step, more, fault, request as whole, SplitterState, Gives}
use Rattle.ur_http.proofs.Once.{stays_decided}
use Rattle.ur_serve.specs.declared.arrivals.Arrival.{Arrival}
use Rattle.ur_serve.specs.declared.arrivals.Arrival.TheVariants.{Request, Bad, Ended}
use Rattle.ur_serve.specs.Faults.{count_at_end}
use Rattle.ur_serve.specs.Arrivals.{HasGiven, InputEnds, Comes, ComesOn, IsFed}

-- ---- statuses

abbrev OfSent : Option ℕ → Type 0
OfSent None = ⊤
OfSent (Some status) = IsTrue (is_sent phrases status)

or_sent : (a b : Option ℕ) → OfSent a → OfSent b → OfSent (or_else a b)
or_sent None b x y = y
or_sent (Some status) b x y = x

where_sent : (b : Bool) (status : ℕ) → IsTrue (is_sent phrases status) → OfSent (fault_where b status)
where_sent true status x = x
where_sent false status x = tt

large_sent : (large : Bool) → OfSent (fault_where large 413)
large_sent large = where_sent large 413 refl

length_sent : (o : Option ℕ) → OfSent (length_fault o)
length_sent None = refl
length_sent (Some n) = large_sent (nat_lt 1048576 n)

head_sent : (h : RequestHead) → OfSent (fault_of h)
unfolding fault_of
head_sent h =
    let path = fault_where (is_none (target_path h.target)) 400 in
    let long = length_fault (length_in (fields_of h)) in
    let coded = fault_where (is_coded (fields_of h)) 501 in
    let host = fault_where (lacks_host h.minor (fields_of h)) 400 in
    let many = nat_lt 64 (length (fields_of h)) in
    or_sent (fault_where many 431) (or_else host (or_else coded (or_else long path))) (where_sent many 431 refl)
    (or_sent host (or_else coded (or_else long path)) (where_sent (lacks_host h.minor (fields_of h)) 400 refl)
    (or_sent coded (or_else long path) (where_sent (is_coded (fields_of h)) 501 refl)
    (or_sent long path (length_sent (length_in (fields_of h))) (where_sent (is_none (target_path h.target)) 400 refl))))

-- the status with which bytes are refused is one that is sent
step_sent : (bytes : List ℕ) (s : Step) (status : ℕ) → Begins bytes s → s ≡ fault status → IsTrue (is_sent phrases status)
step_sent bytes _ status (Begins.whole h rest b good fits) e = absurd (cc)
step_sent bytes _ status (Begins.refused h rest other b is) e =
    let same : other ≡ status = cc in subst OfSent (is ∙ ap Some same) (head_sent h)
step_sent bytes _ status (Begins.no_body h rest b good short) e = absurd (cc)
step_sent bytes _ status (Begins.malformed never) e = let same : 400 ≡ status = cc in subst (λ s. IsTrue (is_sent phrases s)) same refl
step_sent bytes _ status (Begins.too_long may full) e = let same : 431 ≡ status = cc in subst (λ s. IsTrue (is_sent phrases s)) same refl
step_sent bytes _ status (Begins.no_head may short) e = absurd (cc)

refused_now : (s t : SplitterState) (status : ℕ) → s.refused ≡ None → Gives s (http.Bad status) t → Begins s.left (fault status)
refused_now s t status unrefused (a, b, inl e) = absurd (cc)
refused_now s t status unrefused (a, b, inr (e, x)) = x

pub bad_answerable : (s t : SplitterState) (status : ℕ) → s.refused ≡ None → Gives s (http.Bad status) t → IsTrue (is_sent phrases status)
bad_answerable s t status unrefused gives = step_sent s.left (fault status) status (refused_now s t status unrefused gives) refl

-- ---- bytes that went from the wire to the splitter

abbrev pub Moved : Option Traffic → List ℕ → Option Traffic → List ℕ → Type 0
Moved told0 held0 told held = WhereTold told0 (λ t. Tells told (λ u. HasGiven t u × (held ++ u.left ≡ held0 ++ t.left)))

pub moved_none : (told : Option Traffic) (held : List ℕ) → Moved told held told held
moved_none None held = tt
moved_none (Some t) held = ((refl, refl), refl)

pub moved_more : (told0 told1 told2 : Option Traffic) (held0 held1 held2 : List ℕ) (n : ℕ) → Moved told0 held0 told1 held1
    → WhereTold told1 (λ t. Tells told2 (IsFed t n held1 held2)) → Moved told0 held0 told2 held2
moved_more None told1 told2 held0 held1 held2 n moved fed = tt
moved_more (Some t) None told2 held0 held1 held2 n moved fed = absurd moved
moved_more (Some t) (Some u) None held0 held1 held2 n moved fed = absurd fed
moved_more (Some t) (Some u) (Some v) held0 held1 held2 n ((given, coming), joined) fed =
    let (given', coming') = fed.same in ((given' ∙ given, coming' ∙ coming), fed.joined ∙ joined)

-- ---- what came

pub came : (told0 told : Option Traffic) (held0 held held' : List ℕ) (a : Arrival) → Moved told0 held0 told held
    → ((left : List ℕ) → Comes (held ++ left) (held' ++ left) left a) → WhereTold told0 (λ t. ComesOn held0 held' a t told)
came None told held0 held held' a moved comes = tt
came (Some t) None held0 held held' a moved comes = moved
came (Some t) (Some u) held0 held held' a (same, joined) comes = (same, subst (λ old. Comes old (held' ++ u.left) u.left a) joined (comes u.left))

pub request_comes : (s t : SplitterState) (q : HttpRequest) → Gives s (http.Request q) t → (left : List ℕ) → Comes (s.left ++ left) (t.left ++ left) left (Request q)
request_comes s t q (unrefused, (rest, begins, is)) left =
    let same : t.left ≡ rest = ap (λ (x : SplitterState). x.left) is in
    subst (λ r. Begins (s.left ++ left) (whole q (r ++ left))) (sym same) ((stays_decided s.left left).1 q rest begins)

pub bad_comes : (s t : SplitterState) (status : ℕ) → s.refused ≡ None → Gives s (http.Bad status) t → (left : List ℕ) → Comes (s.left ++ left) (t.left ++ left) left (Bad status)
bad_comes s t status unrefused gives left = (stays_decided s.left left).0 status (refused_now s t status unrefused gives)

-- nothing more comes
pub ended_comes : (told0 told1 told2 : Option Traffic) (held0 held1 held2 : List ℕ) (n : ℕ) (why : Why) → Moved told0 held0 told1 held1 → Begins held1 more
    → WhereTold told1 (λ t. Tells told2 (IsFed t n held1 held2)) → n ≡ 0 → held2 ≡ held1 → (held2 ≡ [] → why ≡ End) → (held2 ≢ [] → why ≡ Truncated)
    → WhereTold told0 (λ t. ComesOn held0 held2 (Ended why) t told2)
ended_comes None told1 told2 held0 held1 held2 n why moved begins fed none same at_end cut = tt
ended_comes (Some t) None told2 held0 held1 held2 n why moved begins fed none same at_end cut = absurd moved
ended_comes (Some t) (Some u) None held0 held1 held2 n why moved begins fed none same at_end cut = absurd fed
ended_comes (Some t) (Some u) (Some v) held0 held1 held2 n why ((given, coming), joined) begins fed none same at_end cut =
    let (given', coming') = fed.same in
    let all : v.left ≡ [] = fed.ended none in
    let rest : held2 ≡ held0 ++ t.left = sym (append-nil held2) ∙ ap (λ l. held2 ++ l) (sym all) ∙ fed.joined ∙ joined in
    ((given' ∙ given, coming' ∙ coming), subst (λ r. InputEnds r v.left why) rest (ends held2 (subst (λ h. Begins h more) (sym same) begins) at_end cut all)) where
      ends : (held : List ℕ) → Begins held more → (held ≡ [] → why ≡ End) → (held ≢ [] → why ≡ Truncated) → v.left ≡ [] → InputEnds held v.left why
      ends [] begins at_end cut all = subst (λ w. InputEnds [] v.left w) (sym (at_end refl)) (refl, all)
      ends (b ∷ held) begins at_end cut all = let some : b ∷ held ≢ [] = λ e. absurd (cc) in
          subst (λ w. InputEnds (b ∷ held) v.left w) (sym (cut some)) ((some, begins), all)

-- nor did the count rise
pub ended_counted : (held : List ℕ) (why : Why) (new old : ℕ) → (held ≡ [] → why ≡ End) → (held ≢ [] → why ≡ Truncated) → new ≡ old → new ≡ count_at_end why old
ended_counted [] why new old at_end cut same = subst (λ w. new ≡ count_at_end w old) (sym (at_end refl)) same
ended_counted (b ∷ held) why new old at_end cut same =
    let some : b ∷ held ≢ [] = λ e. absurd (cc) in
    subst (λ w. new ≡ count_at_end w old) (sym (cut some)) same

-- the wire failed
pub failed_comes : (told0 told1 told2 : Option Traffic) (held0 held1 : List ℕ) → Moved told0 held0 told1 held1 → told2 ≡ told1
    → WhereTold told0 (λ t. ComesOn held0 held1 (Ended Wire) t told2)
failed_comes None told1 told2 held0 held1 moved same = tt
failed_comes (Some t) told1 told2 held0 held1 moved same = subst (λ o. ComesOn held0 held1 (Ended Wire) t o) (sym same) (told told1 moved) where
  told : (o : Option Traffic) → Tells o (λ u. HasGiven t u × (held1 ++ u.left ≡ held0 ++ t.left)) → ComesOn held0 held1 (Ended Wire) t o
  told None h = h
  told (Some u) (same, joined) = (same, tt)
