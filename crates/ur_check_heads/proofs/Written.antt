-- Heads as they are written, one parameter after the other.
use Rattle.std.proofs.Common.{◌≡◌, refl, ap, ap₂, sym, ◌∙◌, subst, subst₂, ℕ, ◌≤◌, ◌<◌, false, nat_le, List, [], ◌∷◌, ◌++◌, map, append-nil, append_assoc, Option, Some}
use Rattle.std.specs.Prelude.{option_map, option_and_then, if◌then◌else◌}
use Rattle.std.proofs.lemmas.Bool.{le-leb, lt-leb}
use Rattle.ur_syntax.specs.declared.con.Con.{Con}
use Rattle.ur_syntax.specs.declared.con.ConEnv.{ConEnv}
use Rattle.ur_syntax.specs.declared.con.ConParam.{ConParam as WrittenConParam}
use Rattle.ur_syntax.specs.declared.con.ConParam.TheVariants as written_con
use Rattle.ur_syntax.specs.declared.decl.FunDef.{FunDef}
use Rattle.ur_syntax.specs.declared.exp.Param.{Param as WrittenParam}
use Rattle.ur_syntax.specs.declared.exp.Param.TheVariants as written_param
use Rattle.ur_rows.specs.declared.normal.Normal.{Normal}
use Rattle.ur_rows.specs.declared.normal.NormalType.{NormalType}
use Rattle.ur_rows.specs.declared.normal.Part.{Part}
use Rattle.ur_rows.specs.Nodes.{nodes, most_nodes}
use Rattle.ur_rows.specs.Normal.{nf}
use Rattle.ur_rows.specs.Put.{as_type, as_row}
use Rattle.ur_rows_normal.specs.declared.environment.Place.{Place as Reading}
use Rattle.ur_rows_normal.specs.declared.environment.Layer.{Layer}
use Rattle.ur_rows_normal.specs.Preparing.{Reads, Covers}
use Rattle.ur_tree.specs.declared.exp.Param.{Param}
use Rattle.ur_tree.specs.declared.typed.ConParam.{ConParam}
use Rattle.ur_tree.specs.declared.typed.ConParam.TheVariants as con_param
use Rattle.ur_tree.specs.Env.{value_types, fixed_types}
use Rattle.ur_typed_rules.specs.Names.{Local, Names, with_con, bound_name, local_of, param_of}
use Rattle.ur_typed_rules.specs.Rules.{if_so, small_type, param_out, Params, and_params}
use Rattle.ur_typed_rules.specs.Arguments.{HasLarge}
use Rattle.ur_typed_rules.proofs.Options.{some_of, opened, mapped, then_some}
use Rattle.ur_check_scopes.specs.declared.locals.Local.{Local as HeldLocal}
use Rattle.ur_check_scopes.specs.Views.{local_in, param_in, of_variables, of_fixed}
use Rattle.ur_typed.specs.Declaring.{ConParams, and_con, small_row, con_params_out, all_params_out, Heading, heading, resulting, written_heading}
use Rattle.ur_typed.specs.DeclFaults.{HasLargeSide, large_left, large_right, behind_kinded, behind_apart, HasLargeParam, this_large, later_large}
use Rattle.ur_check_heads.specs.Views.{names_after, written_local, written_locals}

-- ---- sizes

small-row : (most : ℕ) (n : Normal) (r : List Part) → nodes n ≤ most → r ≡ as_row n → small_row most n ≡ Some r
small-row most n r h e = ap (λ b. if_so b (Some (as_row n))) (le-leb (nodes n) most h) ∙ ap Some (sym e)

small-type : (most : ℕ) (n : Normal) (t : NormalType) → nodes n ≤ most → t ≡ as_type n → small_type most n ≡ Some t
small-type most n t h e = ap (λ b. if_so b (Some (as_type n))) (le-leb (nodes n) most h) ∙ ap Some (sym e)

pub row-read : (env : ConEnv) (c : Con) (n : Normal) (r : List Part) → n ≡ nf env c → nodes n ≤ most_nodes → r ≡ as_row n → small_row 65536 (nf env c) ≡ Some r
row-read env c n r e h k = ap (small_row 65536) (sym e) ∙ small-row 65536 n r h k

pub type-read : (env : ConEnv) (c : Con) (n : Normal) (t : NormalType) → n ≡ nf env c → nodes n ≤ most_nodes → t ≡ as_type n → small_type 65536 (nf env c) ≡ Some t
type-read env c n t e h k = ap (small_type 65536) (sym e) ∙ small-type 65536 n t h k

pub large-read : (env : ConEnv) (c : Con) → most_nodes < nodes (nf env c) → nat_le (nodes (nf env c)) 65536 ≡ false
large-read env c h = lt-leb (nodes (nf env c)) most_nodes h

-- ---- constructor parameters

pub sides-out : (most : ℕ) (names : Names) (c d : Con) (r s : List Part) → small_row most (nf names.cons c) ≡ Some r → small_row most (nf names.cons d) ≡ Some s →
    con_params_out most names (written_con.Disjoint c d ∷ []) ≡ Some (names, con_param.Apart r s ∷ [])
sides-out most names c d r s e h =
    then_some (λ (r : List Part). option_and_then (λ (s : List Part). option_map (and_con (con_param.Apart r s)) (con_params_out most names [])) (small_row most (nf names.cons d))) (small_row most (nf names.cons c)) r (Some (names, con_param.Apart r s ∷ [])) e
    (then_some (λ (s : List Part). option_map (and_con (con_param.Apart r s)) (con_params_out most names [])) (small_row most (nf names.cons d)) s (Some (names, con_param.Apart r s ∷ [])) h refl)

sole-is : {A : Type 0} (x y : A) → x ∷ [] ≡ y ∷ [] → x ≡ y
sole-is x y h = cc

abbrev come : Names → List ConParam → Option ConParams
come names ps = Some (names, ps)

last-con : (names after : Names) (p q : ConParam) → come names (p ∷ []) ≡ come after (q ∷ []) → p ≡ q
last-con names after p q h = sole-is p q (ap (λ (x : ConParams). x.1) (some_of h))

pub names-past : (p : WrittenConParam) (ps : List WrittenConParam) (names : Names) → names_after (p ∷ ps) names ≡ names_after ps (names_after (p ∷ []) names)
names-past (written_con.Kinded x k) ps names = refl
names-past (written_con.Disjoint c d) ps names = refl

next-con : (most : ℕ) (names : Names) (p : WrittenConParam) (ps : List WrittenConParam) (q : ConParam) (rest : List ConParam) → con_params_out most names (p ∷ []) ≡ Some (names_after (p ∷ []) names, q ∷ []) →
    con_params_out most (names_after (p ∷ []) names) ps ≡ Some (names_after ps (names_after (p ∷ []) names), rest) → con_params_out most names (p ∷ ps) ≡ Some (names_after (p ∷ ps) names, q ∷ rest)
next-con most names (written_con.Kinded x k) ps q rest h e =
    ap (option_map (and_con (con_param.Kinded k))) e ∙ ap (λ z. Some (names_after ps (with_con x k names), z ∷ rest)) (last-con (with_con x k names) (with_con x k names) (con_param.Kinded k) q h)
next-con most names (written_con.Disjoint c d) ps q rest h e =
    let o : (r : List Part) × (small_row most (nf names.cons c) ≡ Some r) × (option_and_then (λ (s : List Part). option_map (and_con (con_param.Apart r s)) (con_params_out most names [])) (small_row most (nf names.cons d)) ≡ Some (names, q ∷ [])) =
    opened (λ (r : List Part). option_and_then (λ (s : List Part). option_map (and_con (con_param.Apart r s)) (con_params_out most names [])) (small_row most (nf names.cons d))) (small_row most (nf names.cons c)) (names, q ∷ []) h in
    let u : (s : List Part) × (small_row most (nf names.cons d) ≡ Some s) × (option_map (and_con (con_param.Apart o.0 s)) (con_params_out most names []) ≡ Some (names, q ∷ [])) =
    opened (λ (s : List Part). option_map (and_con (con_param.Apart o.0 s)) (con_params_out most names [])) (small_row most (nf names.cons d)) (names, q ∷ []) o.2 in
    then_some (λ (r : List Part). option_and_then (λ (s : List Part). option_map (and_con (con_param.Apart r s)) (con_params_out most names ps)) (small_row most (nf names.cons d))) (small_row most (nf names.cons c)) o.0 (Some (names_after ps names, q ∷ rest)) o.1
    (then_some (λ (s : List Part). option_map (and_con (con_param.Apart o.0 s)) (con_params_out most names ps)) (small_row most (nf names.cons d)) u.0 (Some (names_after ps names, q ∷ rest)) u.1
    (ap (option_map (and_con (con_param.Apart o.0 u.0))) e ∙ ap (λ z. Some (names_after ps names, z ∷ rest)) (last-con names names (con_param.Apart o.0 u.0) q u.2)))

nothing-large : (most : ℕ) (names : Names) → HasLargeSide most names [] → ⊥
nothing-large most names h = elim h [ ]

large-alone : (most : ℕ) (names : Names) (p : WrittenConParam) (ps : List WrittenConParam) → HasLargeSide most names (p ∷ []) → HasLargeSide most names (p ∷ ps)
large-alone most names _ ps (large_left h) = large_left h
large-alone most names _ ps (large_right h) = large_right h
large-alone most names _ ps (behind_kinded {x = x} {k = k} h) = absurd (nothing-large most (with_con x k names) h)
large-alone most names _ ps (behind_apart h) = absurd (nothing-large most names h)

large-behind : (most : ℕ) (names : Names) (p : WrittenConParam) (ps : List WrittenConParam) → HasLargeSide most (names_after (p ∷ []) names) ps → HasLargeSide most names (p ∷ ps)
large-behind most names (written_con.Kinded x k) ps h = behind_kinded h
large-behind most names (written_con.Disjoint c d) ps h = behind_apart h

-- what the parameters that are left come to, all come to with those before
pub record ConsCome (most : ℕ) (all : List WrittenConParam) (start : Names) (cons : List ConParam) (now : Names) (left : List WrittenConParam) : Type 0 where
  pub after : names_after all start ≡ names_after left now
  pub out : (rest : List ConParam) → con_params_out most now left ≡ Some (names_after left now, rest) → con_params_out most start all ≡ Some (names_after all start, cons ++ rest)
  pub large : HasLargeSide most now left → HasLargeSide most start all

cons-start : (most : ℕ) (all : List WrittenConParam) (start : Names) → ConsCome most all start [] start all
cons-start most all start = record { after = refl; out = λ rest h. h; large = λ h. h }

cons-past : (most : ℕ) (all : List WrittenConParam) (start : Names) (cons : List ConParam) (now : Names) (p : WrittenConParam) (left : List WrittenConParam) (q : ConParam) → ConsCome most all start cons now (p ∷ left) →
    con_params_out most now (p ∷ []) ≡ Some (names_after (p ∷ []) now, q ∷ []) → ConsCome most all start (cons ++ q ∷ []) (names_after (p ∷ []) now) left
cons-past most all start cons now p left q c h = record {
  after = c.after ∙ names-past p left now;
  out = λ rest e. c.out (q ∷ rest) (next-con most now p left q rest h e) ∙ ap (λ z. Some (names_after all start, z)) (sym (append_assoc cons (q ∷ []) rest));
  large = λ l. c.large (large-behind most now p left l);
}

cons-large : (most : ℕ) (all : List WrittenConParam) (start : Names) (cons : List ConParam) (now : Names) (p : WrittenConParam) (left : List WrittenConParam) → ConsCome most all start cons now (p ∷ left) → HasLargeSide most now (p ∷ []) → HasLargeSide most start all
cons-large most all start cons now p left c h = c.large (large-alone most now p left h)

cons-end : (most : ℕ) (all : List WrittenConParam) (start : Names) (cons : List ConParam) (now : Names) → ConsCome most all start cons now [] → con_params_out most start all ≡ Some (names_after all start, cons)
cons-end most all start cons now c = c.out [] refl ∙ ap (λ z. Some (names_after all start, z)) (append-nil cons)

-- the names behind them do not hang on their forms
pub cons-after : (most : ℕ) (names : Names) (ps : List WrittenConParam) (c : ConParams) → con_params_out most names ps ≡ Some c → c.0 ≡ names_after ps names
cons-after most names [] c h = ap (λ (x : ConParams). x.0) (sym (some_of h))
cons-after most names (written_con.Kinded x k ∷ ps) c h =
    let m : (d : ConParams) × (con_params_out most (with_con x k names) ps ≡ Some d) × (and_con (con_param.Kinded k) d ≡ c) = mapped (and_con (con_param.Kinded k)) (con_params_out most (with_con x k names) ps) c h in
    ap (λ (x : ConParams). x.0) (sym m.2) ∙ cons-after most (with_con x k names) ps m.0 m.1
cons-after most names (written_con.Disjoint a b ∷ ps) c h =
    let o : (r : List Part) × (small_row most (nf names.cons a) ≡ Some r) × (option_and_then (λ (s : List Part). option_map (and_con (con_param.Apart r s)) (con_params_out most names ps)) (small_row most (nf names.cons b)) ≡ Some c) =
    opened (λ (r : List Part). option_and_then (λ (s : List Part). option_map (and_con (con_param.Apart r s)) (con_params_out most names ps)) (small_row most (nf names.cons b))) (small_row most (nf names.cons a)) c h in
    let u : (s : List Part) × (small_row most (nf names.cons b) ≡ Some s) × (option_map (and_con (con_param.Apart o.0 s)) (con_params_out most names ps) ≡ Some c) =
    opened (λ (s : List Part). option_map (and_con (con_param.Apart o.0 s)) (con_params_out most names ps)) (small_row most (nf names.cons b)) c o.2 in
    let m : (d : ConParams) × (con_params_out most names ps ≡ Some d) × (and_con (con_param.Apart o.0 u.0) d ≡ c) = mapped (and_con (con_param.Apart o.0 u.0)) (con_params_out most names ps) c u.2 in
    ap (λ (x : ConParams). x.0) (sym m.2) ∙ cons-after most names ps m.0 m.1

-- ---- parameters

abbrev both_in : List HeldLocal → Option Params
both_in ls = Some (map local_in ls, map param_in ls)

pub record ParamsCome (most : ℕ) (names : Names) (all : List WrittenParam) (so_far : List HeldLocal) (left : List WrittenParam) : Type 0 where
  pub out : (rest : List HeldLocal) → all_params_out most names left ≡ Some (map local_in rest, map param_in rest) → all_params_out most names all ≡ Some (map local_in (so_far ++ rest), map param_in (so_far ++ rest))
  pub large : HasLargeParam most names left → HasLargeParam most names all

pub params-start : (most : ℕ) (names : Names) (all : List WrittenParam) → ParamsCome most names all [] all
params-start most names all = record { out = λ rest h. h; large = λ h. h }

pub params-past : (most : ℕ) (names : Names) (all : List WrittenParam) (so_far : List HeldLocal) (p : WrittenParam) (l : HeldLocal) (left : List WrittenParam) → ParamsCome most names all so_far (p ∷ left) →
    param_out most names p ≡ Some (local_in l, param_in l) → ParamsCome most names all (so_far ++ l ∷ []) left
params-past most names all so_far p l left c h = record {
  out = λ rest e.
      c.out (l ∷ rest) (then_some (λ (q : Local × Param). option_map (and_params q) (all_params_out most names left)) (param_out most names p) (local_in l, param_in l) (both_in (l ∷ rest)) h (ap (option_map (and_params (local_in l, param_in l))) e))
      ∙ ap both_in (sym (append_assoc so_far (l ∷ []) rest));
  large = λ b. c.large (later_large b);
}

pub params-large : (most : ℕ) (names : Names) (all : List WrittenParam) (so_far : List HeldLocal) (p : WrittenParam) (left : List WrittenParam) → ParamsCome most names all so_far (p ∷ left) → HasLarge most names p → HasLargeParam most names all
params-large most names all so_far p left c h = c.large (this_large h)

pub params-end : (most : ℕ) (names : Names) (all : List WrittenParam) (so_far : List HeldLocal) → ParamsCome most names all so_far [] → all_params_out most names all ≡ Some (map local_in so_far, map param_in so_far)
params-end most names all so_far c = c.out [] refl ∙ ap both_in (append-nil so_far)

-- ---- the whole

head-written : (most : ℕ) (names after : Names) (f : FunDef) (cons : List ConParam) (ls : List Local) (qs : List Param) (t : NormalType) → con_params_out most names f.con_params ≡ Some (after, cons) → all_params_out most after f.params ≡ Some (ls, qs) →
    small_type most (nf after.cons f.result) ≡ Some t → written_heading most names f ≡ Some (heading (after, cons) (ls, qs) t)
head-written most names after f cons ls qs t e h k =
    then_some (λ (c : ConParams). option_and_then (resulting most f c) (all_params_out most c.0 f.params)) (con_params_out most names f.con_params) (after, cons) (Some (heading (after, cons) (ls, qs) t)) e
    (then_some (resulting most f (after, cons)) (all_params_out most after f.params) (ls, qs) (Some (heading (after, cons) (ls, qs) t)) h (ap (option_map (heading (after, cons) (ls, qs))) k))

pub head-behind : (names after : Names) (f : FunDef) (cons : List ConParam) (ls : List HeldLocal) (ps : List Param) (t : NormalType) → con_params_out 65536 names f.con_params ≡ Some (after, cons) →
    all_params_out 65536 after f.params ≡ Some (map local_in ls, map param_in ls) → ps ≡ map param_in ls → small_type 65536 (nf after.cons f.result) ≡ Some t →
    (w : Heading) × (written_heading 65536 names f ≡ Some w) × (w.head ≡ record { cons = cons; params = ps; result = t })
head-behind names after f cons ls ps t e h k i = (
  heading (after, cons) (map local_in ls, map param_in ls) t,
  head-written 65536 names after f cons (map local_in ls) (map param_in ls) t e h i,
  λ j. record { cons = cons; params = sym k j; result = t },
)

-- the parts of a head
pub record Parts (most : ℕ) (names : Names) (f : FunDef) (w : Heading) : Type 0 where
  pub cons : ConParams
  pub params : Params
  pub result : NormalType
  pub are_cons : con_params_out most names f.con_params ≡ Some cons
  pub are_params : all_params_out most cons.0 f.params ≡ Some params
  pub whole : heading cons params result ≡ w

pub head-parts : (most : ℕ) (names : Names) (f : FunDef) (w : Heading) → written_heading most names f ≡ Some w → Parts most names f w
head-parts most names f w h =
    let o : (c : ConParams) × (con_params_out most names f.con_params ≡ Some c) × (option_and_then (resulting most f c) (all_params_out most c.0 f.params) ≡ Some w) =
    opened (λ (c : ConParams). option_and_then (resulting most f c) (all_params_out most c.0 f.params)) (con_params_out most names f.con_params) w h in
    let u : (ps : Params) × (all_params_out most o.0.0 f.params ≡ Some ps) × (resulting most f o.0 ps ≡ Some w) = opened (resulting most f o.0) (all_params_out most o.0.0 f.params) w o.2 in
    let m : (t : NormalType) × (small_type most (nf o.0.0.cons f.result) ≡ Some t) × (heading o.0 u.0 t ≡ w) = mapped (heading o.0 u.0) (small_type most (nf o.0.0.cons f.result)) w u.2 in
    record { cons = o.0; params = u.0; result = m.0; are_cons = o.1; are_params = u.1; whole = m.2 }

-- ---- what the parameters bind

param-bound : (most : ℕ) (names : Names) (p : WrittenParam) (q : Local × Param) → param_out most names p ≡ Some q → q.0 ≡ local_in (written_local p q.1)
param-bound most names (written_param.Value x c) q h =
    let m : (t : NormalType) × (small_type most (nf names.cons c) ≡ Some t) × ((local_of (bound_name x) t, param_of t) ≡ q) = mapped (λ t. (local_of (bound_name x) t, param_of t)) (small_type most (nf names.cons c)) q h in
    subst (λ (z : Local × Param). z.0 ≡ local_in (written_local (written_param.Value x c) z.1)) m.2 refl
param-bound most names written_param.Unit q h = subst (λ (z : Local × Param). z.0 ≡ local_in (written_local written_param.Unit z.1)) (some_of h) refl

pub record AreBound (ws : List WrittenParam) (ls : List Local) (qs : List Param) : Type 0 where
  pub locals : ls ≡ map local_in (written_locals ws qs)
  pub values : value_types qs ≡ of_variables (written_locals ws qs)
  pub fixed : fixed_types qs ≡ of_fixed (written_locals ws qs)

bound-more : (w : WrittenParam) (ws : List WrittenParam) (l : Local) (ls : List Local) (q : Param) (qs : List Param) → l ≡ local_in (written_local w q) → AreBound ws ls qs → AreBound (w ∷ ws) (l ∷ ls) (q ∷ qs)
bound-more w ws l ls q qs e b = record {
  locals = ap₂ (λ x xs. x ∷ xs) e b.locals;
  values = ap (λ ts. if q.fixed then ts else q.of ∷ ts) b.values;
  fixed = ap (λ ts. if q.fixed then q.of ∷ ts else ts) b.fixed;
}

pub params-bound : (most : ℕ) (names : Names) (ws : List WrittenParam) (ps : Params) → all_params_out most names ws ≡ Some ps → AreBound ws ps.0 ps.1
params-bound most names [] ps h = subst (λ (z : Params). AreBound [] z.0 z.1) (some_of h) (record { locals = refl; values = refl; fixed = refl })
params-bound most names (w ∷ ws) ps h =
    let o : (q : Local × Param) × (param_out most names w ≡ Some q) × (option_map (and_params q) (all_params_out most names ws) ≡ Some ps) = opened (λ (q : Local × Param). option_map (and_params q) (all_params_out most names ws)) (param_out most names w) ps h in
    let m : (x : Params) × (all_params_out most names ws ≡ Some x) × (and_params o.0 x ≡ ps) = mapped (and_params o.0) (all_params_out most names ws) ps o.2 in
    subst (λ (z : Params). AreBound (w ∷ ws) z.0 z.1) m.2 (bound-more w ws o.0.0 m.0.0 o.0.1 m.0.1 (param-bound most names w o.0 o.1) (params-bound most names ws m.0 m.1))

-- ---- constructor parameters, with their variables over a place

abbrev pub ConsSo : Reading → List WrittenConParam → Layer → List ConParam → List WrittenConParam → Type 0
ConsSo place all names cons left = (known : Names) → Reads place known.cons → (now : Names) × Covers names place now.cons × ConsCome 65536 all known cons now left

pub so-start : (place : Reading) (all left : List WrittenConParam) (names : Layer) (cons : List ConParam) → ((env : ConEnv) → Reads place env → Covers names place env) → cons ≡ [] → left ≡ all → ConsSo place all names cons left
so-start place all left names cons f e k = λ known reads. (known, f known.cons reads, subst₂ (λ c l. ConsCome 65536 all known c known l) (sym e) (sym k) (cons-start 65536 all known))

pub so-past : (place : Reading) (all left rest : List WrittenConParam) (a b : Layer) (cons next : List ConParam) (p : WrittenConParam) (q : ConParam) → left ≡ p ∷ rest →
    ((known : Names) → Covers a place known.cons → con_params_out 65536 known (p ∷ []) ≡ Some (names_after (p ∷ []) known, q ∷ [])) → ((at : Reading) (known : Names) → Covers a at known.cons → Covers b at (names_after (p ∷ []) known).cons) →
    next ≡ cons ++ q ∷ [] → ConsSo place all a cons left → ConsSo place all b next rest
so-past place all left rest a b cons next p q e out step k so = λ known reads.
    let h = so known reads in (
      names_after (p ∷ []) h.0,
      step place h.0 h.1,
      subst (λ c. ConsCome 65536 all known c (names_after (p ∷ []) h.0) rest) (sym k) (cons-past 65536 all known cons h.0 p rest q (subst (ConsCome 65536 all known cons h.0) e h.2) (out h.0 h.1)),
    )

pub so-large : (place : Reading) (all left rest : List WrittenConParam) (a : Layer) (cons : List ConParam) (p : WrittenConParam) → left ≡ p ∷ rest → ConsSo place all a cons left →
    ((known : Names) → Covers a place known.cons → HasLargeSide 65536 known (p ∷ [])) → (known : Names) → Reads place known.cons → HasLargeSide 65536 known all
so-large place all left rest a cons p e so f = λ known reads.
    let h = so known reads in
    cons-large 65536 all known cons h.0 p rest (subst (ConsCome 65536 all known cons h.0) e h.2) (f h.0 h.1)

pub so-names : (place : Reading) (all left : List WrittenConParam) (a : Layer) (cons : List ConParam) → left ≡ [] → ConsSo place all a cons left → (known : Names) → Reads place known.cons → Covers a place (names_after all known).cons
so-names place all left a cons e so = λ known reads.
    let h = so known reads in
    subst (λ (z : Names). Covers a place z.cons) (sym (h.2.after ∙ ap (λ ps. names_after ps h.0) e)) h.1

pub so-end : (place : Reading) (all left : List WrittenConParam) (a : Layer) (cons : List ConParam) → left ≡ [] → ConsSo place all a cons left → (known : Names) → Reads place known.cons → con_params_out 65536 known all ≡ Some (names_after all known, cons)
so-end place all left a cons e so = λ known reads. let h = so known reads in cons-end 65536 all known cons h.0 (subst (ConsCome 65536 all known cons h.0) e h.2)
