-- The entries of a project: what a name of the signature stands for, and whether that may be an entry.
use Rattle.std.proofs.Common.{inl, inr, ◌≡◌, ◌∙◌, refl, sym, ap, ap₂, subst, subst₂, ℕ, zero, suc, ◌+◌, ◌<◌, ◌≤◌, ◌⊎◌, Bool, true, false, true≢false, ◌&&◌, if◌then◌else◌, List, [], ◌∷◌, ◌++◌, map, length, drop, get_or, Option, Some, None, Err, arith, append-nil, append_assoc}
use Rattle.std.specs.Prelude.{◌↔◌, IsTrue, IfOk, nat_le, nat_eq, slice_get, option_map, option_and_then, codes}
use Rattle.std.proofs.lemmas.Option.{slice_get-map}
use Rattle.ur_base.specs.declared.refusal.Refusal.{Refusal}
use Rattle.ur_base.specs.Stopping.{IfRefused}
use Rattle.ur_base.specs.declared.refusal.Stop.{Stop}
use Rattle.ur_base.specs.declared.refusal.Stop.TheVariants as stop
use Rattle.ur_syntax.specs.declared.con.Con.{Con}
use Rattle.ur_syntax.specs.declared.con.ConName.{ConName}
use Rattle.ur_syntax.specs.declared.decl.ValDecl.{ValDecl}
use Rattle.ur_syntax.specs.Names.{own, member, same_con, looked_up, or_own, seen}
use Rattle.ur_rows.specs.declared.normal.NormalType.{NormalType}
use Rattle.ur_rows.specs.Nodes.{nodes}
use Rattle.ur_rows.specs.Types.{arrows_of, arrow_of}
use Rattle.ur_rows.proofs.Shapes.{arrow-made}
use Rattle.ur_sqltype.specs.Lists.{all_of}
use Rattle.ur_tree.specs.declared.exp.Param.{Param}
use Rattle.ur_tree.specs.Heads.{Head, function_type}
use Rattle.ur_tree.specs.Typing.{are_linkable, types_of}
use Rattle.ur_typed_rules.specs.Names.{Declared as DeclaredAs, function, val}
use Rattle.ur_typed_rules.specs.Tests.{same_type, is_page}
use Rattle.ur_typed_rules.specs.Faults.{Fault, too_large, types_differ, not_so, unknown}
use Rattle.ur_typed_rules.specs.Rules.{if_so}
use Rattle.ur_typed_rules.proofs.Options.{some_of, opened, mapped}
use Rattle.ur_check_scopes.specs.declared.names.Means.{Means}
use Rattle.ur_check_scopes.specs.declared.names.Means.TheVariants as means
use Rattle.ur_check_scopes.specs.declared.names.Named.{Named}
use Rattle.ur_check_scopes.specs.declared.world.World.{World as Held}
use Rattle.ur_check_scopes.specs.declared.world.FunctionHead.{FunctionHead as HeldFunction}
use Rattle.ur_check_scopes.specs.declared.world.Head.{Head as HeldHead}
use Rattle.ur_check_scopes.specs.Views.{Refuses, StopIs, head_in, means_in, name_in, names_onto, names_in, itself, declared_in}
use Rattle.ur_check_scopes.proofs.Naming.{none-bare}
use Rattle.ur_check_scopes.proofs.Loops.{drop-here, drop-none, left-end}
use Rattle.ur_typed.specs.Project.{at}
use Rattle.ur_typed.specs.Declaring.{Sofar, FunctionHead, datatype_names, is_entry, is_signed, entry_by, entry_out, if_entry, entries_of}
use Rattle.ur_typed.specs.DeclFaults.{form_of, type_of, BreaksEntry, unknown_entry, val_entry, large_entry, other_entry, no_page, no_link, EntriesHaveFault, this_entry, later_entry}
use Rattle.ur_check_heads.specs.declared.project.Project.{Project}
use Rattle.ur_check_heads.specs.Views.{Sees, function_in}
use Rattle.ur_check_heads.proofs.Seeing.{names-seen}
use Rattle.ur_check_heads.specs.Entries.{is_own, OtherType, is_large, differs, NoEntry, Unfit, by_type, by_form}
use Rattle.ur_check_heads.specs.Entries as unfit

-- ---- types of functions

arrows-last : (ps : List Param) (p : Param) (t : NormalType) → arrows_of (types_of (ps ++ p ∷ [])) t ≡ arrows_of (types_of ps) (arrow_of p.of t)
arrows-last [] p t = refl
arrows-last (q ∷ ps) p t = ap (arrow_of q.of) (arrows-last ps p t)

pub arrow-past : (left rest : List Param) (p : Param) (of made whole : NormalType) → left ≡ rest ++ p ∷ [] → made ≡ arrow_of p.of of → arrows_of (types_of left) of ≡ whole → arrows_of (types_of rest) made ≡ whole
arrow-past left rest p of made whole e g h = ap (arrows_of (types_of rest)) g ∙ sym (arrows-last rest p of) ∙ ap (λ z. arrows_of (types_of z) of) (sym e) ∙ h

pub ruleset arrows = (arrow-made)

-- ---- what a name stands for

abbrev as_declared : ConName × Means → ConName × DeclaredAs
as_declared e = (e.0, means_in e.1)

onto-as : (ns : List (Named Means)) (names : List (ConName × Means)) (others : List (ConName × DeclaredAs)) → others ≡ map as_declared names → names_onto means_in ns others ≡ map as_declared (names_onto itself ns names)
onto-as [] names others e = e
onto-as (n ∷ ns) names others e = onto-as ns ((name_in n, n.of) ∷ names) ((name_in n, means_in n.of) ∷ others) (ap (λ l. (name_in n, means_in n.of) ∷ l) e)

if-as : (b : Bool) (m : Means) (o : Option Means) → (if b then Some (means_in m) else option_map means_in o) ≡ option_map means_in (if b then Some m else o)
if-as true m o = refl
if-as false m o = refl

looked-as : (k : ConName) (names : List (ConName × Means)) → looked_up k (map as_declared names) ≡ option_map means_in (looked_up k names)
looked-as k [] = refl
looked-as k (e ∷ names) = ap (λ o. if same_con k e.0 then Some (means_in e.1) else o) (looked-as k names) ∙ if-as (same_con k e.0) e.1 (looked_up k names)

seen-own : (m x : List ℕ) (ns : List (Named Means)) → seen m (own x) (names_in itself ns) ≡ looked_up (member m x) (names_in itself ns)
seen-own m x ns = ap (or_own m (own x) (names_in itself ns)) (none-bare x ns)

-- what the code finds of a name is what it is looked up as
pub meaning-is : (p : Project) (m : List ℕ) (ns : List (Named Means)) (x : List ℕ) (o : Option Means) → o ≡ seen m (own x) (names_in itself ns) → m ≡ p.world.env.home → ns ≡ p.world.values → (home : ℕ) (z : Sofar) → Sees p home z →
    option_map means_in o ≡ looked_up (at z.place x) z.place.globals.values
meaning-is p m ns x o e em en home z s =
    ap (option_map means_in) (e ∙ seen-own m x ns) ∙ sym (looked-as (member m x) (names_in itself ns)) ∙ ap (looked_up (member m x)) (sym (onto-as ns [] [] refl))
    ∙ ap₂ (λ h l. looked_up (member h x) (names_in means_in l)) em en ∙ ap (λ (y : Sofar). looked_up (at y.place x) y.place.globals.values) (sym s.held)

-- ---- one entry

-- the head that the code has of a function is the one that is declared
pub function-there : (p : Project) (home : ℕ) (z : Sofar) → Sees p home z → (n : ℕ) (h : HeldHead) → slice_get (declared_in p.world).functions n ≡ Some (head_in h) → (g : FunctionHead) × (slice_get z.functions n ≡ Some g) × (g.head ≡ head_in h)
function-there p home z s n h e =
    let r : (f : HeldFunction) × (slice_get p.world.functions n ≡ Some f) × (head_in f.head ≡ head_in h) =
    mapped (λ (f : HeldFunction). head_in f.head) (slice_get p.world.functions n) (head_in h) (sym (slice_get-map (λ (f : HeldFunction). head_in f.head) p.world.functions n) ∙ e) in
    (function_in r.0, ap (λ (y : Sofar). slice_get y.functions n) s.held ∙ slice_get-map function_in p.world.functions n ∙ ap (option_map function_in) r.1, r.2)

both-so : (a b : Bool) → a ≡ true → b ≡ true → (a && b) ≡ true
both-so true b e h = h
both-so false b e h = absurd (true≢false (sym e))

pub may-so : (h : Head) (b c : Bool) → b ≡ is_page h → b ≡ true → c ≡ are_linkable (types_of h.params) → c ≡ true → is_entry h ≡ true
may-so h b c eb tb ec tc = both-so (is_page h) (are_linkable (types_of h.params)) (sym eb ∙ tb) (sym ec ∙ tc)

pub signed-so : (z : Sofar) (c : Con) (h : Head) → same_type (function_type h) (type_of z c) ≡ true → is_entry h ≡ true → is_signed z c h ≡ true
signed-so z c h e i = both-so (same_type (function_type h) (type_of z c)) (is_entry h) e i

-- the types that the code compares
pub compared : (z : Sofar) (c : Con) (h : Head) (of wanted : NormalType) (b d : Bool) → b ≡ same_type of wanted → b ≡ d → of ≡ function_type h → wanted ≡ type_of z c → same_type (function_type h) (type_of z c) ≡ d
compared z c h of wanted b d e k eo ew = ap₂ same_type (sym eo) (sym ew) ∙ sym e ∙ k

pub told-types : (p : Project) (home : ℕ) (z : Sofar) (c : Con) (h : Head) (of wanted : NormalType) (b : Bool) → Sees p home z → b ≡ same_type of wanted → b ≡ false → of ≡ function_type h → wanted ≡ type_of z c → OtherType z c h (types_differ p.world.datatype_names of wanted)
told-types p home z c h of wanted b s e k eo ew =
    subst (λ ns. OtherType z c h (types_differ ns of wanted)) (names-seen p home z s)
    (subst₂ (λ t u. OtherType z c h (types_differ (datatype_names z) t u)) (sym eo) (sym ew) (differs (compared z c h of wanted b false e k eo ew)))

-- one fault, by whatever names types are told
pub told-anyhow : (s : Stop) (f : Fault) (P : Fault → Type 0) → P f → ((names : List (List ℕ)) → StopIs names f s) → IfRefused {A = Unit {0}} (Err s) (λ r. (names : List (List ℕ)) → Refuses names P r)
told-anyhow (stop.Refused r) f P b t = λ names. (f, b, t names)
told-anyhow stop.Memory f P b t = tt

-- the same by those of a project
pub told-here : (p : Project) (s : Stop) (f : Fault) (P : Sofar → Fault → Type 0) → ((home : ℕ) (z : Sofar) → Sees p home z → P z f) → ((names : List (List ℕ)) → StopIs names f s) →
    IfRefused {A = Unit {0}} (Err s) (λ r. (home : ℕ) (z : Sofar) → Sees p home z → Refuses (datatype_names z) (P z) r)
told-here p (stop.Refused r) f P b t = λ home z s. (f, b home z s, t (datatype_names z))
told-here p stop.Memory f P b t = tt

pub unfit-breaks : (z : Sofar) (v : ValDecl) (n : ℕ) (g : FunctionHead) (h : Head) (f : Fault) → looked_up (at z.place v.name) z.place.globals.values ≡ Some (function n) → slice_get z.functions n ≡ Some g → g.head ≡ h → Unfit z v.con h f → BreaksEntry 65536 z v f
unfit-breaks z v n g h f e k i b = go f (subst (λ x. Unfit z v.con x f) (sym i) b)
  where
    go : (f : Fault) → Unfit z v.con g.head f → BreaksEntry 65536 z v f
    go _ (by_type (is_large l)) = large_entry e l
    go _ (by_type (differs l)) = other_entry e k l
    go _ (by_form (unfit.no_page l)) = no_page e k l
    go _ (by_form (unfit.no_link l)) = no_link e k l

pub entry-so : (z : Sofar) (v : ValDecl) (n : ℕ) (g : FunctionHead) (h : Head) → looked_up (at z.place v.name) z.place.globals.values ≡ Some (function n) → slice_get z.functions n ≡ Some g → g.head ≡ h → nat_le (nodes (form_of z v.con)) 65536 ≡ true → is_signed z v.con h ≡ true →
    entry_out 65536 z v ≡ Some n
entry-so z v n g h e k i small signed =
    ap (entry_by 65536 z v.con) e ∙ ap (λ b. if_so b (option_and_then (λ (g : FunctionHead). if_so (is_signed z v.con g.head) (Some n)) (slice_get z.functions n))) small
    ∙ ap (option_and_then (λ (g : FunctionHead). if_so (is_signed z v.con g.head) (Some n))) k ∙ ap (λ b. if_so b (Some n)) (ap (is_signed z v.con) i ∙ signed)

abbrev pub IsMeaning : Project → List ℕ → Option Means → Type 0
IsMeaning p x o = (home : ℕ) (z : Sofar) → Sees p home z → option_map means_in o ≡ looked_up (at z.place x) z.place.globals.values

pub looked-to : (p : Project) (v : ValDecl) (x : List ℕ) (o : Option Means) (m n : Means) (d : DeclaredAs) → x ≡ v.name → o ≡ Some m → m ≡ n → means_in n ≡ d → IsMeaning p x o → (home : ℕ) (z : Sofar) → Sees p home z → looked_up (at z.place v.name) z.place.globals.values ≡ Some d
looked-to p v x o m n d ex e k i h = λ home z s. ap (λ y. looked_up (at z.place y) z.place.globals.values) (sym ex) ∙ sym (h home z s) ∙ ap (option_map means_in) e ∙ ap (λ y. Some (means_in y)) k ∙ ap (λ y. Some y) i

pub looked-none : (p : Project) (v : ValDecl) (x : List ℕ) (o : Option Means) → x ≡ v.name → o ≡ None → IsMeaning p x o → (home : ℕ) (z : Sofar) → Sees p home z → looked_up (at z.place v.name) z.place.globals.values ≡ None
looked-none p v x o ex e h = λ home z s. ap (λ y. looked_up (at z.place y) z.place.globals.values) (sym ex) ∙ sym (h home z s) ∙ ap (option_map means_in) e

-- ---- the names of the signature, one after another

pub record Signed (p : Project) (all left : List ValDecl) (list : List ℕ) : Type 0 where
  pub out : (home : ℕ) (z : Sofar) → Sees p home z → (rest : List ℕ) → all_of (entry_out 65536 z) left ≡ Some rest → all_of (entry_out 65536 z) all ≡ Some (list ++ rest)
  pub broken : (home : ℕ) (z : Sofar) → Sees p home z → (r : Refusal) → EntriesHaveFault 65536 z r left → EntriesHaveFault 65536 z r all

pub signed-start : (p : Project) (all left : List ValDecl) (list : List ℕ) → left ≡ all → list ≡ [] → Signed p all left list
signed-start p all left list e k = record {
  out = λ home z s rest h. ap (all_of (entry_out 65536 z)) (sym e) ∙ h ∙ ap (λ l. Some (l ++ rest)) (sym k);
  broken = λ home z s r h. subst (EntriesHaveFault 65536 z r) e h;
}

pub signed-past : (p : Project) (all left others : List ValDecl) (list more : List ℕ) (v : ValDecl) (n : ℕ) → left ≡ v ∷ others → more ≡ list ++ n ∷ [] → ((home : ℕ) (z : Sofar) → Sees p home z → entry_out 65536 z v ≡ Some n) → Signed p all left list → Signed p all others more
signed-past p all left others list more v n e k so g = record {
  out = λ home z s rest h.
      g.out home z s (n ∷ rest) (ap (all_of (entry_out 65536 z)) e ∙ ap (option_and_then (λ a. option_map (λ l. a ∷ l) (all_of (entry_out 65536 z) others))) (so home z s) ∙ ap (option_map (λ l. n ∷ l)) h)
      ∙ ap (λ l. Some l) (sym (append_assoc list (n ∷ []) rest) ∙ ap (λ l. l ++ rest) (sym k));
  broken = λ home z s r h. g.broken home z s r (subst (EntriesHaveFault 65536 z r) (sym e) (later_entry (so home z s) h));
}

pub signed-broken : (p : Project) (all left others : List ValDecl) (list : List ℕ) (v : ValDecl) (r : Refusal) → left ≡ v ∷ others → Signed p all left list → ((home : ℕ) (z : Sofar) → Sees p home z → Refuses (datatype_names z) (BreaksEntry 65536 z v) r) →
    (home : ℕ) (z : Sofar) → Sees p home z → EntriesHaveFault 65536 z r all
signed-broken p all left others list v r e g h = λ home z s. let t = h home z s in g.broken home z s r (subst (EntriesHaveFault 65536 z r) (sym e) (this_entry t.1 t.2))

pub signed-end : (p : Project) (all left : List ValDecl) (list : List ℕ) → left ≡ [] → Signed p all left list → (home : ℕ) (z : Sofar) → Sees p home z → all_of (entry_out 65536 z) all ≡ Some list
signed-end p all left list e g = λ home z s. g.out home z s [] (ap (all_of (entry_out 65536 z)) e) ∙ ap (λ l. Some l) (append-nil list)

-- ---- the entries without a signature

abbrev pub own_from : ℕ → ℕ → List HeldFunction → List ℕ
own_from home n fs = entries_of home n (map function_in fs)

pub own-start : (home : ℕ) (fs : List HeldFunction) → [] ++ own_from home 0 (drop 0 fs) ≡ own_from home 0 fs
own-start home fs = ap (own_from home 0) (drop-none fs)

pub own-past : (home : ℕ) (fs : List HeldFunction) (i : ℕ) (f : HeldFunction) (b : Bool) (list more : List ℕ) → i < length fs → f ≡ get_or fs i f → b ≡ is_own home (function_in f) → more ≡ list ++ if_entry b i [] → list ++ own_from home i (drop i fs) ≡ own_from home 0 fs →
    more ++ own_from home (i + 1) (drop (i + 1) fs) ≡ own_from home 0 fs
own-past home fs i f b list more h e k m inv =
    ap (λ l. l ++ own_from home (i + 1) (drop (i + 1) fs)) m ∙ append_assoc list (if_entry b i []) (own_from home (i + 1) (drop (i + 1) fs))
    ∙ ap (λ l. list ++ l) (either b i (own_from home (i + 1) (drop (i + 1) fs)) ∙ ap (λ c. if_entry c i (own_from home (i + 1) (drop (i + 1) fs))) k) ∙ ap (λ l. list ++ own_from home i l) (sym (drop-here fs i f h e)) ∙ inv
  where
    either : (b : Bool) (i : ℕ) (rest : List ℕ) → if_entry b i [] ++ rest ≡ if_entry b i rest
    either true i rest = refl
    either false i rest = refl

pub own-end : (home : ℕ) (fs : List HeldFunction) (i : ℕ) (list : List ℕ) → length fs ≤ i → list ++ own_from home i (drop i fs) ≡ own_from home 0 fs → list ≡ own_from home 0 fs
own-end home fs i list h inv = sym (append-nil list) ∙ sym (ap (λ l. list ++ l) (left-end (own_from home i) fs i h)) ∙ inv
