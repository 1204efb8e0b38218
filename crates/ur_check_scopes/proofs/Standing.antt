-- From where the code stands to where the definitions do.
use Rattle.std.proofs.Common.{arith, ◌≡◌, ap, ap₂, sym, ◌∙◌, subst, ℕ, ◌≤◌, ◌<◌, nat_le, Bool, true, false, ◌&&◌, List, [], map, Some}
use Rattle.std.proofs.lemmas.Bool.Decides.{nat_tests}
use Rattle.ur_base.specs.declared.refusal.Refusal.{Refusal}
use Rattle.ur_syntax.specs.declared.kind.Kind.{Kind}
use Rattle.ur_syntax.specs.declared.con.Con.{Con}
use Rattle.ur_syntax.specs.declared.con.ConEnv.{ConEnv}
use Rattle.ur_rows.specs.declared.normal.Normal.{Normal}
use Rattle.ur_rows.specs.declared.normal.NormalType.{NormalType}
use Rattle.ur_rows.specs.declared.normal.Part.{Part}
use Rattle.ur_rows.specs.Apart.{Assumptions}
use Rattle.ur_rows.specs.Kinded.{type_is_in, row_is_in}
use Rattle.ur_rows.specs.Nodes.{nodes, most_nodes}
use Rattle.ur_rows.specs.Normal.{nf}
use Rattle.ur_rows.specs.Put.{as_type, as_row}
use Rattle.ur_disjoint.specs.Tests.{pair}
use Rattle.ur_rows_normal.specs.Preparing.{Reads}
use Rattle.ur_tree.specs.Env.{Env}
use Rattle.ur_typed_rules.specs.Scopes.{World, Scope}
use Rattle.ur_typed_rules.specs.Tests.{is_type, is_row}
use Rattle.ur_typed_rules.specs.Faults.{Fault, too_large}
use Rattle.ur_typed_rules.specs.Rules.{if_so, written_type, written_row}
use Rattle.ur_typed_rules.specs.Arguments.{BreaksPlace, type_of_other_kind, type_not_apart, BreaksRowPlace, row_of_other_kind, row_not_apart, BreaksApart, BreaksRowApart, BreaksType, large_type, type_out_of_place, BreaksRow, large_row, row_out_of_place}
use Rattle.ur_check_scopes.specs.declared.around.Around.{Around}
use Rattle.ur_check_scopes.specs.Views.{Stands, env_in, Refuses, IsLarge}

abbrev env_with : List Kind → Assumptions → Env
env_with ks known = record { kinds = ks; known = known; values = []; fixed = [] }

-- what is read there
abbrev Read : Around → Con → Normal → Type 0
Read a c n = (env : ConEnv) → Reads a.scope.cons.names env → n ≡ nf env c

abbrev Small : Around → Normal → Type 0
Small a n = (env : ConEnv) → Reads a.scope.cons.names env → nodes n ≤ most_nodes

abbrev Large : Around → Con → Type 0
Large a c = (env : ConEnv) → Reads a.scope.cons.names env → most_nodes < nodes (nf env c)

is-small : (n m : ℕ) → n ≤ m → nat_le n m ≡ true
is-small n m h = grind (arith, nat_tests)

is-large : (n m : ℕ) → m < n → nat_le n m ≡ false
is-large n m h = grind (arith, nat_tests)

so-both : {A : Type 0} (a b : Bool) (x : A) → a ≡ true → b ≡ true → if_so (a && b) (Some x) ≡ Some x
so-both a b x e h = ap₂ (λ z w. if_so (z && w) (Some x)) e h

same-type : (a : Around) (s : Scope) (t : NormalType) → s.env.kinds ≡ a.scope.cons.kinds.now → s.env.known ≡ map pair a.scope.cons.known.now → is_type s.env t ≡ is_type (env_in a.scope.cons) t
same-type a s t e h = ap₂ (λ k n. is_type (env_with k n) t) e h

same-row : (a : Around) (s : Scope) (r : List Part) → s.env.kinds ≡ a.scope.cons.kinds.now → s.env.known ≡ map pair a.scope.cons.known.now → is_row s.env r ≡ is_row (env_in a.scope.cons) r
same-row a s r e h = ap₂ (λ k n. is_row (env_with k n) r) e h

most-is : (a : Around) (w : World) (s : Scope) → Stands a w s → w.most ≡ most_nodes
most-is a w s st = ap (λ z. z.most) st.world

pub type-written : (a : Around) (c : Con) (n : Normal) (t : NormalType) → Read a c n → Small a n → t ≡ as_type n → is_type (env_in a.scope.cons) t ≡ true → (w : World) (s : Scope) → Stands a w s → written_type w s c ≡ Some t
type-written a c n t read small is ok w s st =
    let e : n ≡ nf s.names.cons c = read s.names.cons st.cons in
    let le : nat_le (nodes n) w.most ≡ true = ap (nat_le (nodes n)) (most-is a w s st) ∙ is-small (nodes n) most_nodes (small s.names.cons st.cons) in
    let typed : is_type s.env (as_type n) ≡ true = ap (is_type s.env) (sym is) ∙ same-type a s t st.kinds st.known ∙ ok in
    ap (λ z. if_so (nat_le (nodes z) w.most && is_type s.env (as_type z)) (Some (as_type z))) (sym e) ∙ so-both (nat_le (nodes n) w.most) (is_type s.env (as_type n)) (as_type n) le typed ∙ ap Some (sym is)

pub row-written : (a : Around) (c : Con) (n : Normal) (r : List Part) → Read a c n → Small a n → r ≡ as_row n → is_row (env_in a.scope.cons) r ≡ true → (w : World) (s : Scope) → Stands a w s → written_row w s c ≡ Some r
row-written a c n r read small is ok w s st =
    let e : n ≡ nf s.names.cons c = read s.names.cons st.cons in
    let le : nat_le (nodes n) w.most ≡ true = ap (nat_le (nodes n)) (most-is a w s st) ∙ is-small (nodes n) most_nodes (small s.names.cons st.cons) in
    let typed : is_row s.env (as_row n) ≡ true = ap (is_row s.env) (sym is) ∙ same-row a s r st.kinds st.known ∙ ok in
    ap (λ z. if_so (nat_le (nodes z) w.most && is_row s.env (as_row z)) (Some (as_row z))) (sym e) ∙ so-both (nat_le (nodes n) w.most) (is_row s.env (as_row n)) (as_row n) le typed ∙ ap Some (sym is)

-- ---- refusals

place-there : (e d : Env) (c : Con) (t : NormalType) (f : Fault) → d.kinds ≡ e.kinds → d.known ≡ e.known → BreaksPlace e c t f → BreaksPlace d c t f
place-there e d c t _ k n (type_of_other_kind h) = type_of_other_kind (ap (λ z. type_is_in (record { free = z; bound = [] }) t) k ∙ h)
place-there e d c t f k n (type_not_apart h) = type_not_apart (subst (λ z. BreaksApart z c t f) (sym n) h)

row-there : (e d : Env) (c : Con) (r : List Part) (f : Fault) → d.kinds ≡ e.kinds → d.known ≡ e.known → BreaksRowPlace e c r f → BreaksRowPlace d c r f
row-there e d c r _ k n (row_of_other_kind h) = row_of_other_kind (ap (λ z. row_is_in (record { free = z; bound = [] }) r) k ∙ h)
row-there e d c r f k n (row_not_apart h) = row_not_apart (subst (λ z. BreaksRowApart z c r f) (sym n) h)

pub type-large : (a : Around) (c : Con) (names : List (List ℕ)) (r : Refusal) → IsLarge r → Large a c → (w : World) (s : Scope) → Stands a w s → Refuses names (BreaksType w s c) r
type-large a c names r says large w s st =
    (too_large, large_type (ap (nat_le (nodes (nf s.names.cons c))) (most-is a w s st) ∙ is-large (nodes (nf s.names.cons c)) most_nodes (large s.names.cons st.cons)), says)

pub row-large : (a : Around) (c : Con) (names : List (List ℕ)) (r : Refusal) → IsLarge r → Large a c → (w : World) (s : Scope) → Stands a w s → Refuses names (BreaksRow w s c) r
row-large a c names r says large w s st =
    (too_large, large_row (ap (nat_le (nodes (nf s.names.cons c))) (most-is a w s st) ∙ is-large (nodes (nf s.names.cons c)) most_nodes (large s.names.cons st.cons)), says)

pub type-misplaced : (a : Around) (c : Con) (n : Normal) (t : NormalType) (names : List (List ℕ)) (r : Refusal) → Read a c n → t ≡ as_type n → Refuses names (BreaksPlace (env_in a.scope.cons) c t) r → (w : World) (s : Scope) → Stands a w s →
    Refuses names (BreaksType w s c) r
type-misplaced a c n t names r read is h w s st = (
  h.0,
  type_out_of_place (place-there (env_in a.scope.cons) s.env c (as_type (nf s.names.cons c)) h.0 st.kinds st.known
      (subst (λ z. BreaksPlace (env_in a.scope.cons) c z h.0) (is ∙ ap as_type (read s.names.cons st.cons)) h.1)),
  h.2,
)

pub row-misplaced : (a : Around) (c : Con) (n : Normal) (t : List Part) (names : List (List ℕ)) (r : Refusal) → Read a c n → t ≡ as_row n → Refuses names (BreaksRowPlace (env_in a.scope.cons) c t) r → (w : World) (s : Scope) → Stands a w s →
    Refuses names (BreaksRow w s c) r
row-misplaced a c n t names r read is h w s st = (
  h.0,
  row_out_of_place (row-there (env_in a.scope.cons) s.env c (as_row (nf s.names.cons c)) h.0 st.kinds st.known
      (subst (λ z. BreaksRowPlace (env_in a.scope.cons) c z h.0) (is ∙ ap as_row (read s.names.cons st.cons)) h.1)),
  h.2,
)
