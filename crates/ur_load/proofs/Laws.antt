-- The files of a project spell its trees in one way at most, and no refusal of them holds where they do.
use Rattle.std.proofs.Common.{◌≡◌, ℕ, suc, ◌≤◌, List, [], ◌∷◌, ◌++◌, length, Option, Some, None, refl, sym, ap, subst, ◌∙◌, arith}
use Rattle.ur_base.specs.declared.refusal.Refusal.{Refusal}
use Rattle.ur_io.specs.Files.{Files}
use Rattle.ur_lex.proofs.Derivations.{one_list}
use Rattle.ur_lex.specs.declared.token.Lexeme.{Lexeme}
use Rattle.ur_lex.specs.Lexing.{IsTokens}
use Rattle.ur_parse_rules.specs.Rules.{part, Spells}
use Rattle.ur_syntax.specs.declared.decl.Module.{Module as Tree}
use Rattle.ur_syntax.specs.declared.decl.Signature.{Signature}
use Rattle.ur_parse_rules.specs.DeclParts.{DeclPart, whole, signature}
use Rattle.ur_parse_rules.specs.Language.{language, IsModule, IsSignature, max_nesting}
use Rattle.ur_parse_rules.specs.Parts.{of_decl, Tree as AnyTree}
use Rattle.ur_parse_rules.proofs.AllDecided.{one_of}
use Rattle.ur_parse.specs.Wholes.{RefusesWhole}
use Rattle.ur_load.specs.Project.{IsProject, RefusesProject}
use Rattle.ur_load.proofs.ProjectLaws.{one_project_of, no_project}
use Rattle.ur_load.specs.Names.{project_file, module_file, signature_file, main_of}
use Rattle.ur_load.specs.Sources.{HasFile, IsThere, IsTooLong, Lacks, NamesModules, IsSource, AreSources, HasSignature, HasSources, HasTree, HaveTrees, HasSignatureTree, IsSignatureTree, AreSpelled, file_limit}
use Rattle.ur_load.specs.Refuses.{RefusesTokens, RefusesSource, RefusesSources, RefusesFiles}
use Rattle.ur_load.specs.Loaded.{IsLoaded, IsLoadedFrom}
use Rattle.ur_load.specs.declared.loaded.Loaded.{Loaded}
use Rattle.ur_load.specs.declared.source.Source.{Source}
use Rattle.ur_load.specs.declared.source.Sources.{Sources}

-- ---- one project

pub one_file : (files : Files) (file xs ys : List ℕ) → files file ≡ Some xs → files file ≡ Some ys → xs ≡ ys
one_file files file xs ys e f = let both : Some xs ≡ Some ys = sym e ∙ f in cc

pub not_there : (files : Files) (file xs : List ℕ) → files file ≡ Some xs → files file ≡ None → ⊥
not_there files file xs e f = let both : Some xs ≡ None = sym e ∙ f in cc

pub one_names : (files : Files) (project : List ℕ) (a b : List (List ℕ)) → NamesModules files project a → NamesModules files project b → a ≡ b
one_names files project a b ((bytes, file, is), few) ((bytes', file', is'), few') =
    one_project_of bytes a b is (subst (λ z. IsProject z b) (one_file files (project_file project) bytes' bytes file'.0 file.0) is')

same_source : (s t : Source) → s.number ≡ t.number → s.name ≡ t.name → s.file ≡ t.file → s.bytes ≡ t.bytes → s ≡ t
same_source s t n m f b =
    ap (λ z. record { number = z; name = s.name; file = s.file; bytes = s.bytes }) n ∙ ap (λ z. record { number = t.number; name = z; file = s.file; bytes = s.bytes }) m
    ∙ ap (λ z. record { number = t.number; name = t.name; file = z; bytes = s.bytes }) f ∙ ap (λ z. record { number = t.number; name = t.name; file = t.file; bytes = z }) b

same_bytes : (files : Files) (file : List ℕ) (s t : Source) → s.file ≡ file → t.file ≡ file → HasFile files s.file s.bytes → HasFile files t.file t.bytes → s.bytes ≡ t.bytes
same_bytes files file s t e f h k = one_file files file s.bytes t.bytes (subst (λ z. files z ≡ Some s.bytes) e h.0) (subst (λ z. files z ≡ Some t.bytes) f k.0)

source_once : (files : Files) (project : List ℕ) (k : ℕ) (name : List ℕ) (s t : Source) → IsSource files project k name s → IsSource files project k name t → s ≡ t
source_once files project k name s t a b = same_source s t (a.number_is ∙ sym b.number_is) (a.name_is ∙ sym b.name_is) (a.file_is ∙ sym b.file_is)
    (same_bytes files (module_file project name) s t a.file_is b.file_is a.has b.has)

sources_once : (files : Files) (project : List ℕ) (k : ℕ) (names : List (List ℕ)) (ss ts : List Source) → AreSources files project k names ss → AreSources files project k names ts → ss ≡ ts
sources_once files project k [] [] [] a b = refl
sources_once files project k [] [] (t ∷ ts) a b = absurd b
sources_once files project k [] (s ∷ ss) ts a b = absurd a
sources_once files project k (name ∷ names) [] ts a b = absurd a
sources_once files project k (name ∷ names) (s ∷ ss) [] a b = absurd b
sources_once files project k (name ∷ names) (s ∷ ss) (t ∷ ts) (a, as_) (b, bs) =
    ap (λ z. z ∷ ss) (source_once files project k name s t a b) ∙ ap (λ z. t ∷ z) (sources_once files project (suc k) names ss ts as_ bs)

signature_once : (files : Files) (project : List ℕ) (names : List (List ℕ)) (x y : Option Source) → HasSignature files project names x → HasSignature files project names y → x ≡ y
signature_once files project names None None a b = refl
signature_once files project names None (Some t) a (number, name, file, has) = absurd (not_there files (signature_file project (main_of names)) t.bytes (subst (λ z. files z ≡ Some t.bytes) file has.0) a)
signature_once files project names (Some s) None (number, name, file, has) b = absurd (not_there files (signature_file project (main_of names)) s.bytes (subst (λ z. files z ≡ Some s.bytes) file has.0) b)
signature_once files project names (Some s) (Some t) (n, m, f, h) (n', m', f', h') = ap Some (same_source s t (n ∙ sym n') (m ∙ sym m') (f ∙ sym f')
    (same_bytes files (signature_file project (main_of names)) s t f f' h h'))

pub all_once : (files : Files) (project : List ℕ) (a b : Sources) → HasSources files project a → HasSources files project b → a ≡ b
all_once files project a b h k =
    let names : k.names ≡ h.names = one_names files project k.names h.names k.named h.named in
    let modules : a.modules ≡ b.modules = sources_once files project 1 h.names a.modules b.modules h.modules (subst (λ z. AreSources files project 1 z b.modules) names k.modules) in
    let signature' : a.signature ≡ b.signature = signature_once files project h.names a.signature b.signature h.signature (subst (λ z. HasSignature files project z b.signature) names k.signature) in
    ap (λ (z : List Source). record { modules = z; signature = a.signature }) modules ∙ ap (λ (z : Option Source). record { modules = b.modules; signature = z }) signature'

-- ---- one tree each

pub one_tokens : (s : Source) (a b : List Lexeme) → IsTokens s.number s.bytes a → IsTokens s.number s.bytes b → a ≡ b
one_tokens s a b x y = one_list x.1 y.1

tree_once : (s : Source) (t u : Tree) → HasTree s t → HasTree s u → t ≡ u
tree_once s t u a b = one_of (of_decl whole) max_nesting max_nesting t u a.tokens a.spelled (subst (λ z. IsModule max_nesting z u) (one_tokens s b.tokens a.tokens b.cut a.cut) b.spelled)

trees_once : (ss : List Source) (ts us : List Tree) → HaveTrees ss ts → HaveTrees ss us → ts ≡ us
trees_once [] [] [] a b = refl
trees_once [] [] (u ∷ us) a b = absurd b
trees_once [] (t ∷ ts) us a b = absurd a
trees_once (s ∷ ss) [] us a b = absurd a
trees_once (s ∷ ss) (t ∷ ts) [] a b = absurd b
trees_once (s ∷ ss) (t ∷ ts) (u ∷ us) (a, as_) (b, bs) = ap (λ z. z ∷ ts) (tree_once s t u a b) ∙ ap (λ z. u ∷ z) (trees_once ss ts us as_ bs)

signed_once : (s : Source) (t u : Signature) → HasSignatureTree s t → HasSignatureTree s u → t ≡ u
signed_once s t u a b = one_of (of_decl signature) max_nesting max_nesting t u a.tokens a.spelled (subst (λ z. IsSignature max_nesting z u) (one_tokens s b.tokens a.tokens b.cut a.cut) b.spelled)

signature_tree_once : (found : Option Source) (x y : Option Signature) → IsSignatureTree found x → IsSignatureTree found y → x ≡ y
signature_tree_once None None None a b = refl
signature_tree_once None None (Some u) a b = absurd b
signature_tree_once None (Some t) y a b = absurd a
signature_tree_once (Some s) None y a b = absurd a
signature_tree_once (Some s) (Some t) None a b = absurd b
signature_tree_once (Some s) (Some t) (Some u) a b = ap Some (signed_once s t u a b)

-- ---- what is loaded

same_loaded : (l m : Loaded) → l.project ≡ m.project → l.files ≡ m.files → l.names ≡ m.names → l.modules ≡ m.modules → l.signature ≡ m.signature → l ≡ m
same_loaded l m p f n t s =
    ap (λ z. record { project = z; files = l.files; names = l.names; modules = l.modules; signature = l.signature }) p
    ∙ ap (λ z. record { project = m.project; files = z; names = l.names; modules = l.modules; signature = l.signature }) f
    ∙ ap (λ z. record { project = m.project; files = m.files; names = z; modules = l.modules; signature = l.signature }) n
    ∙ ap (λ z. record { project = m.project; files = m.files; names = m.names; modules = z; signature = l.signature }) t
    ∙ ap (λ z. record { project = m.project; files = m.files; names = m.names; modules = m.modules; signature = z }) s

loaded_once : (project : List ℕ) (sources : Sources) (l m : Loaded) → IsLoadedFrom project sources l → IsLoadedFrom project sources m → l ≡ m
loaded_once project sources l m a b = same_loaded l m (a.own ∙ sym b.own) (a.files ∙ sym b.files) (a.names ∙ sym b.names)
    (trees_once sources.modules l.modules m.modules a.spelled.modules b.spelled.modules) (signature_tree_once sources.signature l.signature m.signature a.spelled.signed b.spelled.signed)

pub one_project : (files : Files) (project : List ℕ) (l m : Loaded) → IsLoaded files project l → IsLoaded files project m → l ≡ m
one_project files project l m a b =
    loaded_once project a.sources l m a.from_sources (subst (λ z. IsLoadedFrom project z m) (all_once files project b.sources a.sources b.has a.has) b.from_sources)

-- ---- no refusal of what is loaded

pub there_lacks : (files : Files) (file : List ℕ) (r : Refusal) → IsThere files file → Lacks files file r → ⊥
there_lacks files file r (bytes, has) (Lacks.missing none says) = not_there files file bytes has.0 none
there_lacks files file r (bytes, has) (Lacks.long ((other, is, long), says)) =
    let same : length bytes ≡ length other = ap length (one_file files file bytes other has.0 is) in
    let within : length bytes ≤ file_limit = has.1 in omega (arith, same, within, long)

pub named_refused : (files : Files) (project : List ℕ) (names : List (List ℕ)) (bytes : List ℕ) (r : Refusal) → NamesModules files project names
    → HasFile files (project_file project) bytes
    → RefusesProject (project_file project) bytes r → ⊥
named_refused files project names bytes r ((bytes', file, is), few) has refuses =
    of (subst (λ z. IsProject z names) (one_file files (project_file project) bytes' bytes file.0 has.0) is) refuses where
      of : IsProject bytes names → RefusesProject (project_file project) bytes r → ⊥
      of p (RefusesProject.not_text none says) = none p.text
      of p (RefusesProject.bad_line number line text bad says) = no_project bytes number line names bad p
      of p (RefusesProject.too_many modules q many says) =
          let same : length names ≡ length modules = ap length (one_project_of bytes names modules p q) in omega (arith, same, few, many)

pub there_in : (files : Files) (project : List ℕ) (k : ℕ) (before behind : List (List ℕ)) (name : List ℕ) (ss : List Source)
    → AreSources files project k (before ++ name ∷ behind) ss
    → IsThere files (module_file project name)
there_in files project k [] behind name [] h = absurd h
there_in files project k [] behind name (s ∷ ss) (h, rest) = (s.bytes, subst (λ z. HasFile files z s.bytes) h.file_is h.has)
there_in files project k (n ∷ before) behind name [] h = absurd h
there_in files project k (n ∷ before) behind name (s ∷ ss) (h, rest) = there_in files project (suc k) before behind name ss rest

pub signature_fits : (files : Files) (project : List ℕ) (names : List (List ℕ)) (x : Option Source) (r : Refusal) → HasSignature files project names x
    → IsTooLong files (signature_file project (main_of names)) r → ⊥
signature_fits files project names None r h ((bytes, is, long), says) = not_there files (signature_file project (main_of names)) bytes is h
signature_fits files project names (Some s) r (number, name, file, has) ((bytes, is, long), says) =
    let same : length s.bytes ≡ length bytes = ap length (one_file files (signature_file project (main_of names)) s.bytes bytes (subst (λ z. files z ≡ Some s.bytes) file has.0) is) in
    let within : length s.bytes ≤ file_limit = has.1 in omega (arith, same, within, long)

whole_refused : (p : DeclPart) (tokens : List Lexeme) (tree : AnyTree (of_decl p)) (r : Refusal) → Spells language max_nesting (part (of_decl p) tree ∷ []) tokens
    → RefusesWhole max_nesting (of_decl p) tokens r → ⊥
whole_refused p tokens tree r is (RefusesWhole.syntax says none) = none max_nesting tree is
whole_refused p tokens tree r is (RefusesWhole.nested taken rest says none cut opened) = none tree is

-- the tokens of a source being spelled, it is not refused
pub source_refused : (p : DeclPart) (s : Source) (tokens : List Lexeme) (tree : AnyTree (of_decl p)) (r : Refusal) → IsTokens s.number s.bytes tokens
    → Spells language max_nesting (part (of_decl p) tree ∷ []) tokens → RefusesSource p s r → ⊥
source_refused p s tokens tree r cut is (RefusesSource.no_tokens (RefusesTokens.not_text none number says)) = none cut.0
source_refused p s tokens tree r cut is (RefusesSource.no_tokens (RefusesTokens.no_token text none says)) = none tokens cut
source_refused p s tokens tree r cut is (RefusesSource.no_tree others cut' refuses) =
    whole_refused p others tree r (subst (λ z. Spells language max_nesting (part (of_decl p) tree ∷ []) z) (one_tokens s tokens others cut cut') is) refuses

pub tree_in : (before behind : List Source) (s : Source) (trees : List Tree) → HaveTrees (before ++ s ∷ behind) trees → (tree : Tree) × HasTree s tree
tree_in [] behind s [] h = absurd h
tree_in [] behind s (tree ∷ trees) (h, rest) = (tree, h)
tree_in (b ∷ before) behind s [] h = absurd h
tree_in (b ∷ before) behind s (tree ∷ trees) (h, rest) = tree_in before behind s trees rest

signed_refused : (found : Option Source) (s : Source) (x : Option Signature) (r : Refusal) → found ≡ Some s → IsSignatureTree found x → RefusesSource signature s r → ⊥
signed_refused None s x r e h why = absurd (cc)
signed_refused (Some q) s None r e h why = absurd h
signed_refused (Some q) s (Some tree) r e h why =
    let same : q ≡ s = cc in
    let is : HasSignatureTree s tree = subst (λ z. HasSignatureTree z tree) same h in source_refused signature s is.tokens tree r is.cut is.spelled why

sources_refused : (sources : Sources) (trees : List Tree) (x : Option Signature) (file : List ℕ) (r : Refusal) → AreSpelled sources trees x → RefusesSources sources file r → ⊥
sources_refused sources trees x _ r is (RefusesSources.no_module before behind s front _ cut spelled why) =
    let found = tree_in before behind s trees (subst (λ z. HaveTrees z trees) cut is.modules) in source_refused whole s found.1.tokens found.0 r found.1.cut found.1.spelled why
sources_refused sources trees x _ r is (RefusesSources.no_signature s front _ signed spelled why) = signed_refused sources.signature s x r signed is.signed why

-- files that spell trees are not refused as files
spelled_refused : (files : Files) (project file : List ℕ) (r : Refusal) (sources : Sources) (trees : List Tree) (x : Option Signature) → RefusesFiles files project file r
    → HasSources files project sources → AreSpelled sources trees x → ⊥
spelled_refused files project _ r sources trees x (RefusesFiles.no_project _ lacks) has is = there_lacks files (project_file project) r (has.named.0.0, has.named.0.1) lacks
spelled_refused files project _ r sources trees x (RefusesFiles.bad_project bytes _ there refuses) has is = named_refused files project has.names bytes r has.named there refuses
spelled_refused files project _ r sources trees x (RefusesFiles.no_file before behind name _ named there lacks) has is =
    let same : has.names ≡ before ++ name ∷ behind = one_names files project has.names (before ++ name ∷ behind) has.named named in
    there_lacks files (module_file project name) r (there_in files project 1 before behind name sources.modules (subst (λ z. AreSources files project 1 z sources.modules) same has.modules)) lacks
spelled_refused files project _ r sources trees x (RefusesFiles.long_signature names _ named there long) has is =
    signature_fits files project names sources.signature r (subst (λ z. HasSignature files project z sources.signature) (one_names files project has.names names has.named named) has.signature) long
spelled_refused files project _ r sources trees x (RefusesFiles.of_sources others file _ has' refuses) has is =
    sources_refused sources trees x file r is (subst (λ z. RefusesSources z file r) (all_once files project others sources has' has) refuses)

pub refused_is_not_loaded : (files : Files) (project file : List ℕ) (r : Refusal) (l : Loaded) → RefusesFiles files project file r → IsLoaded files project l → ⊥
refused_is_not_loaded files project file r l refuses is = spelled_refused files project file r is.sources l.modules l.signature refuses is.has is.from_sources.spelled
