-- What a project has, one declaration further.
use Rattle.std.proofs.Common.{◌≡◌, refl, ap, ap₂, sym, ◌∙◌, subst, subst₂, ℕ, ◌+◌, suc, List, [], ◌∷◌, ◌++◌, map, length, length-append, Option, Some, arith}
use Rattle.std.proofs.lemmas.List.{map-append}
use Rattle.ur_syntax.specs.Names.{member}
use Rattle.ur_syntax.specs.declared.kind.Kind.{Kind}
use Rattle.ur_syntax.specs.declared.con.Con.{Con}
use Rattle.ur_syntax.specs.declared.con.ConName.{ConName}
use Rattle.ur_syntax.specs.declared.con.ConEntry.{ConEntry}
use Rattle.ur_syntax.specs.declared.con.ConEnv.{ConEnv}
use Rattle.ur_syntax.specs.declared.con.ConMeaning.TheVariants as meaning
use Rattle.ur_syntax.specs.declared.kind.Kind.TheVariants as kind
use Rattle.ur_syntax.specs.declared.decl.FunDef.{FunDef}
use Rattle.ur_values.specs.declared.schema.ColumnKind.{ColumnKind}
use Rattle.ur_values.specs.declared.schema.TableShape.{TableShape}
use Rattle.ur_rows.specs.declared.normal.NormalType.{NormalType}
use Rattle.ur_rows_normal.specs.declared.environment.Prepared.{Prepared}
use Rattle.ur_rows_normal.specs.Preparing.{Prepares, definition}
use Rattle.ur_rows_normal.specs.Preparing as preparing
use Rattle.ur_tree.specs.declared.typed.Datatype.{Datatype}
use Rattle.ur_tree.specs.declared.typed.Variant.{Variant}
use Rattle.ur_check_scopes.specs.declared.names.Named.{Named}
use Rattle.ur_check_scopes.specs.declared.names.Means.{Means}
use Rattle.ur_check_scopes.specs.declared.names.Means.TheVariants as means
use Rattle.ur_check_scopes.specs.declared.world.World.{World as Held}
use Rattle.ur_check_scopes.specs.declared.world.FunctionHead.{FunctionHead as HeldFunction}
use Rattle.ur_check_scopes.specs.Views.{means_in, name_in, names_onto, names_in, itself, globals_in, head_in}
use Rattle.ur_typed.specs.Declaring.{Sofar, Heading, datatype_names, with_defined, with_constructor, with_datatype, with_shape, with_named_sequence, with_named_cookie, with_head, with_val_of, full_name}
use Rattle.ur_check_heads.specs.declared.project.Project.{Project}
use Rattle.ur_check_heads.specs.Views.{place_in, function_in, sofar_in, env_over, HasHome, HaveHomes, Sees, Comes}

-- ---- lists

names-onto-more : {A B : Type 0} (f : A → B) (ns : List (Named A)) (n : Named A) (names : List (ConName × B)) → names_onto f (ns ++ n ∷ []) names ≡ (name_in n, f n.of) ∷ names_onto f ns names
names-onto-more f [] n names = refl
names-onto-more f (m ∷ ns) n names = names-onto-more f ns n ((name_in m, f m.of) ∷ names)

names-more : {A B : Type 0} (f : A → B) (ns : List (Named A)) (n : Named A) (x : ConName) (a : A) → name_in n ≡ x → n.of ≡ a → names_in f (ns ++ n ∷ []) ≡ (x, f a) ∷ names_in f ns
names-more f ns n x a e k = names-onto-more f ns n [] ∙ ap₂ (λ y b. (y, f b) ∷ names_in f ns) e k

names-onto-length : {A B : Type 0} (f : A → B) (ns : List (Named A)) (names : List (ConName × B)) → length (names_onto f ns names) ≡ length ns + length names
names-onto-length f [] names = omega arith
names-onto-length f (n ∷ ns) names = names-onto-length f ns ((name_in n, f n.of) ∷ names) ∙ one (length ns) (length names)
  where
    one : (a b : ℕ) → a + suc b ≡ suc a + b
    one a b = omega arith

names-length : {A B : Type 0} (f : A → B) (ns : List (Named A)) → length (names_in f ns) ≡ length ns
names-length f ns = names-onto-length f ns [] ∙ none (length ns)
  where
    none : (a : ℕ) → a + 0 ≡ a
    none a = omega arith

length-more : {A : Type 0} (xs : List A) (x : A) → length (xs ++ x ∷ []) ≡ length xs + 1
length-more xs x = length-append xs (x ∷ [])

homes-more : (es : List ConEntry) (e : ConEntry) → HaveHomes es → HasHome e → HaveHomes (es ++ e ∷ [])
homes-more [] e h k = (k, tt)
homes-more (x ∷ es) e h k = (h.0, homes-more es e h.1 k)

-- ---- the names of datatypes

pub names-seen : (p : Project) (home : ℕ) (z : Sofar) → Sees p home z → datatype_names z ≡ p.world.datatype_names
names-seen p home z s = ap datatype_names s.held ∙ sym s.named

pub comes : (p : Project) (home : ℕ) (o : Option Sofar) (z : Sofar) → o ≡ Some z → Sees p home z → Comes p home o
comes p home o z e s = subst (Comes p home) (sym e) s

-- ---- types

define-seen : (p : Project) (names : Prepared) (home : ℕ) (z : Sofar) (x : List ℕ) (k : Kind) (c : Con) →
    ((env : ConEnv) (j : Kind) → Prepares p.names env → Prepares names (preparing.with_entry (definition p.world.env.home x j c) env)) → Sees p home z → Sees (record p { names = names }) home (with_defined x k c z)
define-seen p names home z x k c f s = record {
  entries = s.entries ++ definition p.world.env.home x k c ∷ [];
  held = ap (with_defined x k c) s.held;
  prepared = f (env_over s.entries p.world) k s.prepared;
  homes = homes-more s.entries (definition p.world.env.home x k c) s.homes (p.world.env.home, refl);
  named = s.named;
  number = s.number;
}

pub define-at : (p : Project) (names : Prepared) (m : List ℕ) (home : ℕ) (z : Sofar) (x : List ℕ) (k : Kind) (c : Con) → m ≡ p.world.env.home →
    ((env : ConEnv) (j : Kind) → Prepares p.names env → Prepares names (preparing.with_entry (definition m x j c) env)) → Sees p home z → Sees (record p { names = names }) home (with_defined x k c z)
define-at p names m home z x k c e f s = define-seen p names home z x k c (λ env j h. subst (λ y. Prepares names (preparing.with_entry (definition y x j c) env)) e (f env j h)) s

-- ---- datatypes

abbrev datatype_entry : List ℕ → List ℕ → ℕ → ConEntry
datatype_entry m x n = record { name = member m x; kind = kind.Star; meaning = meaning.Datatype n }

abbrev datatype : ℕ → List ℕ → Datatype
datatype m x = record { «module» = m; name = x }

abbrev and_datatype : Project → Prepared → ℕ → List ℕ → Project
and_datatype p names m x = record p { names = names; world = record p.world { datatypes = p.world.datatypes ++ datatype m x ∷ []; datatype_names = p.world.datatype_names ++ x ∷ [] } }

datatype-held : (es : List ConEntry) (w : Held) (x : List ℕ) (m : ℕ) →
    with_datatype m x (sofar_in es w) ≡ sofar_in (es ++ datatype_entry w.env.home x (length w.datatypes) ∷ []) (record w { datatypes = w.datatypes ++ datatype m x ∷ []; datatype_names = w.datatype_names ++ x ∷ [] })
datatype-held es w x m =
    ap (λ n. record (sofar_in (es ++ datatype_entry w.env.home x (length w.datatypes) ∷ []) w) { place = record (place_in (es ++ datatype_entry w.env.home x (length w.datatypes) ∷ []) w) { datatypes = n }; datatypes = w.datatypes ++ datatype m x ∷ [] })
    (sym (length-more w.datatypes (datatype m x)))

datatype-seen : (p : Project) (names : Prepared) (home : ℕ) (z : Sofar) (x : List ℕ) (e : ConEntry) → e ≡ datatype_entry p.world.env.home x (length p.world.datatypes) →
    ((env : ConEnv) → Prepares p.names env → Prepares names (preparing.with_entry e env)) → Sees p home z → Sees (and_datatype p names p.world.«module» x) home (with_datatype home x z)
datatype-seen p names home z x e is f s = record {
  entries = s.entries ++ datatype_entry p.world.env.home x (length p.world.datatypes) ∷ [];
  held = ap (with_datatype home x) s.held ∙ datatype-held s.entries p.world x home ∙ ap (λ m. sofar_in (s.entries ++ datatype_entry p.world.env.home x (length p.world.datatypes) ∷ []) (and_datatype p names m x).world) (sym s.number);
  prepared = subst (λ d. Prepares names (preparing.with_entry d (env_over s.entries p.world))) is (f (env_over s.entries p.world) s.prepared);
  homes = homes-more s.entries (datatype_entry p.world.env.home x (length p.world.datatypes)) s.homes (p.world.env.home, refl);
  named = ap (λ ns. ns ++ x ∷ []) s.named ∙ sym (map-append (λ (d : Datatype). d.name) p.world.datatypes (datatype p.world.«module» x ∷ []));
  number = s.number;
}

-- the same with copies of its name
pub datatype-at : (p : Project) (names : Prepared) (home : ℕ) (z : Sofar) (x a b : List ℕ) (n : ℕ) (e : ConEntry) (ds : List Datatype) (ns : List (List ℕ)) → n ≡ length p.world.datatypes → e ≡ datatype_entry p.world.env.home x n → a ≡ x → b ≡ x →
    ds ≡ p.world.datatypes ++ datatype p.world.«module» a ∷ [] → ns ≡ p.world.datatype_names ++ b ∷ [] → ((env : ConEnv) → Prepares p.names env → Prepares names (preparing.with_entry e env)) → Sees p home z →
    Sees (record p { names = names; world = record p.world { datatypes = ds; datatype_names = ns } }) home (with_datatype home x z)
datatype-at p names home z x a b n e ds ns is entry k l dk nk f s =
    subst₂ (λ c d. Sees (record p { names = names; world = record p.world { datatypes = c; datatype_names = d } }) home (with_datatype home x z))
    (sym (dk ∙ ap (λ y. p.world.datatypes ++ datatype p.world.«module» y ∷ []) k)) (sym (nk ∙ ap (λ y. p.world.datatype_names ++ y ∷ []) l))
    (datatype-seen p names home z x e (entry ∙ ap (datatype_entry p.world.env.home x) is) f s)

pub datatypes-counted : (p : Project) (home : ℕ) (z : Sofar) → Sees p home z → z.place.datatypes ≡ length p.world.datatypes
datatypes-counted p home z s = ap (λ (y : Sofar). y.place.datatypes) s.held

-- ---- constructors

abbrev and_variant : Project → Named ℕ → Variant → Project
and_variant p n v = record p { world = record p.world { constructors = p.world.constructors ++ n ∷ []; variants = p.world.variants ++ v ∷ [] } }

abbrev variant : ℕ → List ℕ → Option NormalType → Variant
variant d x a = record { datatype = d; name = x; arg = a }

variant-held : (es : List ConEntry) (w : Held) (n : Named ℕ) (d : ℕ) (x : List ℕ) (a : Option NormalType) → name_in n ≡ member w.env.home x → n.of ≡ length w.variants →
    with_constructor d x a (sofar_in es w) ≡ sofar_in es (record w { constructors = w.constructors ++ n ∷ []; variants = w.variants ++ variant d x a ∷ [] })
variant-held es w n d x a e k =
    ap₂ (λ cs c. record (sofar_in es w) { place = record (place_in es w) { globals = record (globals_in w) { constructors = cs }; variants = c }; variants = w.variants ++ variant d x a ∷ [] })
    (sym (names-more itself w.constructors n (member w.env.home x) (length w.variants) e k)) (sym (length-more w.variants (variant d x a)))

variant-seen : (p : Project) (home : ℕ) (z : Sofar) (n : Named ℕ) (d : ℕ) (x : List ℕ) (a : Option NormalType) → name_in n ≡ member p.world.env.home x → n.of ≡ length p.world.variants →
    Sees p home z → Sees (and_variant p n (variant d x a)) home (with_constructor d x a z)
variant-seen p home z n d x a e k s = record {
  entries = s.entries;
  held = ap (with_constructor d x a) s.held ∙ variant-held s.entries p.world n d x a e k;
  prepared = s.prepared;
  homes = s.homes;
  named = s.named;
  number = s.number;
}

pub variant-at : (p : Project) (home : ℕ) (z : Sofar) (n : Named ℕ) (d : ℕ) (x y : List ℕ) (a : Option NormalType) (cs : List (Named ℕ)) (vs : List Variant) → name_in n ≡ member p.world.env.home x → n.of ≡ length p.world.variants → y ≡ x →
    cs ≡ p.world.constructors ++ n ∷ [] → vs ≡ p.world.variants ++ variant d y a ∷ [] → Sees p home z → Sees (record p { world = record p.world { constructors = cs; variants = vs } }) home (with_constructor d x a z)
variant-at p home z n d x y a cs vs e k l i j s =
    subst₂ (λ u v. Sees (record p { world = record p.world { constructors = u; variants = v } }) home (with_constructor d x a z)) (sym i) (sym (j ∙ ap (λ u. p.world.variants ++ variant d u a ∷ []) l)) (variant-seen p home z n d x a e k s)

-- ---- tables, sequences and cookies

table-seen : (p : Project) (home : ℕ) (z : Sofar) (shape : TableShape) → Sees p home z → Sees (record p { world = record p.world { schema = record p.world.schema { tables = p.world.schema.tables ++ shape ∷ [] } } }) home (with_shape z shape)
table-seen p home z shape s = record { entries = s.entries; held = ap (λ y. with_shape y shape) s.held; prepared = s.prepared; homes = s.homes; named = s.named; number = s.number }

pub table-at : (p : Project) (home : ℕ) (z : Sofar) (shape : TableShape) (ts : List TableShape) → ts ≡ p.world.schema.tables ++ shape ∷ [] → Sees p home z →
    Sees (record p { world = record p.world { schema = record p.world.schema { tables = ts } } }) home (with_shape z shape)
table-at p home z shape ts e s = subst (λ u. Sees (record p { world = record p.world { schema = record p.world.schema { tables = u } } }) home (with_shape z shape)) (sym e) (table-seen p home z shape s)

pub full-seen : (p : Project) (home : ℕ) (z : Sofar) (x : List ℕ) → Sees p home z → full_name z x ≡ full_name (sofar_in [] p.world) x
full-seen p home z x s = ap (λ (y : Sofar). full_name y x) s.held

abbrev and_sequence : Project → Named ℕ → List ℕ → Project
and_sequence p n full = record p { world = record p.world { sequences = p.world.sequences ++ n ∷ []; schema = record p.world.schema { sequences = p.world.schema.sequences ++ full ∷ [] } } }

sequence-held : (es : List ConEntry) (w : Held) (n : Named ℕ) (x full : List ℕ) → name_in n ≡ member w.env.home x → n.of ≡ length w.sequences → full ≡ full_name (sofar_in es w) x →
    with_named_sequence x (sofar_in es w) ≡ sofar_in es (record w { sequences = w.sequences ++ n ∷ []; schema = record w.schema { sequences = w.schema.sequences ++ full ∷ [] } })
sequence-held es w n x full e k f =
    ap₂ (λ ns t. record (sofar_in es w) { place = record (place_in es w) { globals = record (globals_in w) { sequences = ns } }; sequences = w.schema.sequences ++ t ∷ [] })
    (sym (names-more itself w.sequences n (member w.env.home x) (length (names_in itself w.sequences)) e (k ∙ sym (names-length itself w.sequences)))) (sym f)

sequence-seen : (p : Project) (home : ℕ) (z : Sofar) (n : Named ℕ) (x full : List ℕ) → name_in n ≡ member p.world.env.home x → n.of ≡ length p.world.sequences → full ≡ full_name (sofar_in [] p.world) x →
    Sees p home z → Sees (and_sequence p n full) home (with_named_sequence x z)
sequence-seen p home z n x full e k f s = record {
  entries = s.entries;
  held = ap (with_named_sequence x) s.held ∙ sequence-held s.entries p.world n x full e k f;
  prepared = s.prepared;
  homes = s.homes;
  named = s.named;
  number = s.number;
}

pub sequence-at : (p : Project) (home : ℕ) (z : Sofar) (n : Named ℕ) (x full : List ℕ) (ss : List (Named ℕ)) (fs : List (List ℕ)) → name_in n ≡ member p.world.env.home x → n.of ≡ length p.world.sequences → full ≡ full_name (sofar_in [] p.world) x →
    ss ≡ p.world.sequences ++ n ∷ [] → fs ≡ p.world.schema.sequences ++ full ∷ [] → Sees p home z →
    Sees (record p { world = record p.world { sequences = ss; schema = record p.world.schema { sequences = fs } } }) home (with_named_sequence x z)
sequence-at p home z n x full ss fs e k f i j s =
    subst₂ (λ u v. Sees (record p { world = record p.world { sequences = u; schema = record p.world.schema { sequences = v } } }) home (with_named_sequence x z)) (sym i) (sym j) (sequence-seen p home z n x full e k f s)

abbrev and_cookie : Project → Named ℕ → List ℕ → ColumnKind → Project
and_cookie p n full k = record p { world = record p.world { cookies = p.world.cookies ++ n ∷ []; cookie_kinds = p.world.cookie_kinds ++ (full, k) ∷ [] } }

cookie-held : (es : List ConEntry) (w : Held) (n : Named ℕ) (x full : List ℕ) (c : ColumnKind) → name_in n ≡ member w.env.home x → n.of ≡ length w.cookies → full ≡ full_name (sofar_in es w) x →
    with_named_cookie x (sofar_in es w) c ≡ sofar_in es (record w { cookies = w.cookies ++ n ∷ []; cookie_kinds = w.cookie_kinds ++ (full, c) ∷ [] })
cookie-held es w n x full c e k f =
    ap₂ (λ ns t. record (sofar_in es w) { place = record (place_in es w) { globals = record (globals_in w) { cookies = ns } }; cookies = w.cookie_kinds ++ (t, c) ∷ [] })
    (sym (names-more itself w.cookies n (member w.env.home x) (length (names_in itself w.cookies)) e (k ∙ sym (names-length itself w.cookies)))) (sym f)

cookie-seen : (p : Project) (home : ℕ) (z : Sofar) (n : Named ℕ) (x full : List ℕ) (c : ColumnKind) → name_in n ≡ member p.world.env.home x → n.of ≡ length p.world.cookies → full ≡ full_name (sofar_in [] p.world) x →
    Sees p home z → Sees (and_cookie p n full c) home (with_named_cookie x z c)
cookie-seen p home z n x full c e k f s = record {
  entries = s.entries;
  held = ap (λ y. with_named_cookie x y c) s.held ∙ cookie-held s.entries p.world n x full c e k f;
  prepared = s.prepared;
  homes = s.homes;
  named = s.named;
  number = s.number;
}

pub cookie-at : (p : Project) (home : ℕ) (z : Sofar) (n : Named ℕ) (x full : List ℕ) (c : ColumnKind) (ss : List (Named ℕ)) (ks : List (List ℕ × ColumnKind)) → name_in n ≡ member p.world.env.home x → n.of ≡ length p.world.cookies →
    full ≡ full_name (sofar_in [] p.world) x → ss ≡ p.world.cookies ++ n ∷ [] → ks ≡ p.world.cookie_kinds ++ (full, c) ∷ [] → Sees p home z → Sees (record p { world = record p.world { cookies = ss; cookie_kinds = ks } }) home (with_named_cookie x z c)
cookie-at p home z n x full c ss ks e k f i j s =
    subst₂ (λ u v. Sees (record p { world = record p.world { cookies = u; cookie_kinds = v } }) home (with_named_cookie x z c)) (sym i) (sym j) (cookie-seen p home z n x full c e k f s)

-- ---- functions and `val`s

abbrev and_function : Project → Named Means → HeldFunction → Project
and_function p n f = record p { world = record p.world { values = p.world.values ++ n ∷ []; functions = p.world.functions ++ f ∷ [] } }

function-held : (es : List ConEntry) (w : Held) (n : Named Means) (g : HeldFunction) (m : ℕ) (f : FunDef) (h : Heading) → name_in n ≡ member w.env.home f.name → n.of ≡ means.Function (length w.functions) →
    function_in g ≡ record { «module» = m; name = f.name; head = h.head } → with_head m f (sofar_in es w) h ≡ sofar_in es (record w { values = w.values ++ n ∷ []; functions = w.functions ++ g ∷ [] })
function-held es w n g m f h e k i =
    ap₂ (λ vs c. record (sofar_in es w) { place = record (place_in es w) { globals = record (globals_in w) { values = vs }; functions = c }; functions = map function_in w.functions ++ record { «module» = m; name = f.name; head = h.head } ∷ [] })
    (sym (names-more means_in w.values n (member w.env.home f.name) (means.Function (length w.functions)) e k)) (sym (length-more w.functions g))
    ∙ ap (λ fs. record (sofar_in es (record w { values = w.values ++ n ∷ []; functions = w.functions ++ g ∷ [] })) { functions = fs })
    (ap (λ y. map function_in w.functions ++ y ∷ []) (sym i) ∙ sym (map-append function_in w.functions (g ∷ [])))

function-seen : (p : Project) (home : ℕ) (z : Sofar) (n : Named Means) (g : HeldFunction) (f : FunDef) (h : Heading) → name_in n ≡ member p.world.env.home f.name → n.of ≡ means.Function (length p.world.functions) →
    g.«module» ≡ p.world.«module» → g.name ≡ f.name → head_in g.head ≡ h.head → Sees p home z → Sees (and_function p n g) home (with_head home f z h)
function-seen p home z n g f h e k m x j s = record {
  entries = s.entries;
  held = ap (λ y. with_head home f y h) s.held ∙ function-held s.entries p.world n g home f h e k (λ i. record { «module» = (m ∙ s.number) i; name = x i; head = j i });
  prepared = s.prepared;
  homes = s.homes;
  named = s.named;
  number = s.number;
}

pub function-at : (p : Project) (home : ℕ) (z : Sofar) (n : Named Means) (g : HeldFunction) (x : List ℕ) (f : FunDef) (h : Heading) (vs : List (Named Means)) (gs : List HeldFunction) → f.name ≡ x → name_in n ≡ member p.world.env.home x →
    n.of ≡ means.Function (length p.world.functions) → g.«module» ≡ p.world.«module» → g.name ≡ x → head_in g.head ≡ h.head → vs ≡ p.world.values ++ n ∷ [] → gs ≡ p.world.functions ++ g ∷ [] → Sees p home z →
    Sees (record p { world = record p.world { values = vs; functions = gs } }) home (with_head home f z h)
function-at p home z n g x f h vs gs i e k m j l a b s =
    subst₂ (λ u v. Sees (record p { world = record p.world { values = u; functions = v } }) home (with_head home f z h)) (sym a) (sym b)
    (function-seen p home z n g f h (e ∙ ap (member p.world.env.home) (sym i)) k m (j ∙ sym i) l s)

abbrev and_val : Project → Named Means → NormalType → Project
and_val p n t = record p { world = record p.world { values = p.world.values ++ n ∷ []; vals = p.world.vals ++ t ∷ [] } }

val-held : (es : List ConEntry) (w : Held) (n : Named Means) (x : List ℕ) (t : NormalType) → name_in n ≡ member w.env.home x → n.of ≡ means.Val (length w.vals) →
    with_val_of x (sofar_in es w) t ≡ sofar_in es (record w { values = w.values ++ n ∷ []; vals = w.vals ++ t ∷ [] })
val-held es w n x t e k =
    ap₂ (λ vs c. record (sofar_in es w) { place = record (place_in es w) { globals = record (globals_in w) { values = vs }; vals = c }; vals = w.vals ++ t ∷ [] })
    (sym (names-more means_in w.values n (member w.env.home x) (means.Val (length w.vals)) e k)) (sym (length-more w.vals t))

val-seen : (p : Project) (home : ℕ) (z : Sofar) (n : Named Means) (x : List ℕ) (t : NormalType) → name_in n ≡ member p.world.env.home x → n.of ≡ means.Val (length p.world.vals) → Sees p home z → Sees (and_val p n t) home (with_val_of x z t)
val-seen p home z n x t e k s = record {
  entries = s.entries;
  held = ap (λ y. with_val_of x y t) s.held ∙ val-held s.entries p.world n x t e k;
  prepared = s.prepared;
  homes = s.homes;
  named = s.named;
  number = s.number;
}

pub val-at : (p : Project) (home : ℕ) (z : Sofar) (n : Named Means) (x : List ℕ) (t : NormalType) (vs : List (Named Means)) (ts : List NormalType) → name_in n ≡ member p.world.env.home x → n.of ≡ means.Val (length p.world.vals) →
    vs ≡ p.world.values ++ n ∷ [] → ts ≡ p.world.vals ++ t ∷ [] → Sees p home z → Sees (record p { world = record p.world { values = vs; vals = ts } }) home (with_val_of x z t)
val-at p home z n x t vs ts e k i j s = subst₂ (λ u v. Sees (record p { world = record p.world { values = u; vals = v } }) home (with_val_of x z t)) (sym i) (sym j) (val-seen p home z n x t e k s)
