-- A run, connection by connection: what is a run from here is a run from the start with these sessions before it.
use Rattle.std.proofs.Common.{◌≡◌, ℕ, zero, suc, ◌-◌, ◌<◌, min, Bool, true, List, [], ◌∷◌, ◌++◌, length, drop, Some, refl, sym, ap, subst, ◌∙◌, arith}
use Rattle.std.proofs.Common.{append-nil, append_assoc}
use Rattle.ur_io.specs.declared.session.SessionEnd.{SessionEnd}
use Rattle.ur_io.specs.Traffic.{Traffic, Opens, opened, onto_last}
use Rattle.ur_http.specs.declared.request.HttpRequest.{HttpRequest}
use Rattle.ur_serve.specs.Sessions.{Answer}
use Rattle.ur_serve.specs.Programs.{IsSession, IsSessionOn}
use Rattle.ur_headline.specs.Continuing.{RunsFrom, Continues, RunSofar}

-- what is put onto a list's new last item
onto_new : (lists : List (List ℕ)) (bytes : List ℕ) → onto_last (lists ++ [] ∷ []) bytes ≡ lists ++ bytes ∷ []
onto_new [] bytes = refl
onto_new (x ∷ []) bytes = refl
onto_new (x ∷ y ∷ lists) bytes = ap (λ z. x ∷ z) (onto_new (y ∷ lists) bytes)

-- one list further
drop_one : {A : Type 0} (done : List SessionEnd) (e : SessionEnd) (xs : List A) (first : A) (rest : List A) → drop (length done) xs ≡ first ∷ rest →
    drop (length (done ++ e ∷ [])) xs ≡ rest
drop_one [] e [] first rest is = cc
drop_one [] e (x ∷ xs) first rest is = cc
drop_one (d ∷ done) e [] first rest is = cc
drop_one (d ∷ done) e (x ∷ xs) first rest is = drop_one done e xs first rest is

module _ {S T : Type 0} (Answers : S → HttpRequest → Bool → Answer S → Type 0) (Reaches : HttpRequest → Type 0) (kept : S → T) where
  -- nothing was served yet
  pub run_begins : (requests : ℕ) (start : S) (t : Traffic) → RunSofar Answers Reaches kept requests start t [] requests start t
  run_begins requests start t = record {
    given = [];
    same_given = sym (append-nil t.given);
    same_coming = refl;
    continues = λ more others after h. h;
  }

  -- one more connection
  pub continues_on : (requests : ℕ) (start : S) (connections : List (List ℕ)) (done : List SessionEnd) (given : List (List ℕ)) (left : ℕ) (now : S) (bytes : List ℕ) (rest : List (List ℕ))
      (e : SessionEnd) (first : List ℕ) (after : S) → 0 < left → Continues Answers Reaches kept requests start connections done given left now (bytes ∷ rest)
      → IsSession Answers Reaches kept (min 1000 left) now bytes e first after
      → Continues Answers Reaches kept requests start connections (done ++ e ∷ []) (given ++ first ∷ []) (left - length e.marks) after rest
  continues_on requests start connections done given zero now bytes rest e first after some on session more others end h = absurd (omega (arith, some))
  continues_on requests start connections done given (suc left) now bytes rest e first after some on session more others end h =
      subst (λ es. RunsFrom Answers Reaches kept requests start connections es ((given ++ first ∷ []) ++ others) end) (sym (append_assoc done (e ∷ []) more))
      (subst (λ gs. RunsFrom Answers Reaches kept requests start connections (done ++ e ∷ more) gs end) (sym (append_assoc given (first ∷ []) others))
      (on (e ∷ more) (first ∷ others) end (after, session, h)))

  pub run_goes_on : (requests left : ℕ) (start now after : S) (t u v w : Traffic) (done : List SessionEnd) (e : SessionEnd) → 0 < left
      → RunSofar Answers Reaches kept requests start t done left now u → Opens u true (Some v) → IsSessionOn Answers Reaches kept (min 1000 left) now v e after w
      → RunSofar Answers Reaches kept requests start t (done ++ e ∷ []) (left - length e.marks) after w
  run_goes_on requests left start now after t u v w done e some sofar (first, rest, comes, opens) (bytes, same_given, same_coming, session) =
      let is : v ≡ opened u first rest = some_is opens in
      let at : drop (length done) t.coming ≡ first ∷ rest = sym sofar.same_coming ∙ comes in
      record {
        given = sofar.given ++ bytes ∷ [];
        same_given = same_given ∙ ap (λ (z : Traffic). onto_last z.given bytes) is ∙ onto_new u.given bytes ∙ ap (λ gs. gs ++ bytes ∷ []) sofar.same_given ∙ append_assoc t.given sofar.given (bytes ∷ []);
        same_coming = same_coming ∙ ap (λ (z : Traffic). z.coming) is ∙ sym (drop_one done e t.coming first rest at);
        continues = subst (λ cs. Continues Answers Reaches kept requests start t.coming (done ++ e ∷ []) (sofar.given ++ bytes ∷ []) (left - length e.marks) after cs)
            (sym (same_coming ∙ ap (λ (z : Traffic). z.coming) is))
            (continues_on requests start t.coming done sofar.given left now first rest e bytes after some
            (subst (λ cs. Continues Answers Reaches kept requests start t.coming done sofar.given left now cs) comes sofar.continues)
            (subst (λ bs. IsSession Answers Reaches kept (min 1000 left) now bs e bytes after) (ap (λ (z : Traffic). z.left) is) session));
      }
    where
      some_is : {a b : Traffic} → Some a ≡ Some b → a ≡ b
      some_is e = cc

  -- the whole run
  pub run_ends : (requests left : ℕ) (start now : S) (t u : Traffic) (done : List SessionEnd) (sofar : RunSofar Answers Reaches kept requests start t done left now u)
      → RunsFrom Answers Reaches kept requests start t.coming done sofar.given now
  run_ends requests left start now t u done sofar =
      subst (λ es. RunsFrom Answers Reaches kept requests start t.coming es sofar.given now) (append-nil done)
      (subst (λ gs. RunsFrom Answers Reaches kept requests start t.coming (done ++ []) gs now) (append-nil sofar.given)
      (sofar.continues [] [] now (nothing left u.coming now)))
    where
      nothing : (left : ℕ) (coming : List (List ℕ)) (now : S) → RunsFrom Answers Reaches kept left now coming [] [] now
      nothing left coming now = (refl, refl)
