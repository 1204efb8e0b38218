-- Two refusals of the same files are one: of the same file, with the same code and texts, or each is E05 or E06.
use Rattle.std.proofs.Common.{◌≡◌, ◌∙◌, inl, inr, ℕ, List, [], ◌∷◌, ◌++◌}
use Rattle.std.proofs.Common.{Some, Contains, codes, refl, sym, ap, subst, arith}
use Rattle.ur_base.specs.declared.refusal.Refusal.{Refusal}
use Rattle.ur_base.specs.Stopping.{Says}
use Rattle.ur_io.specs.Files.{Files}
use Rattle.ur_lex.specs.declared.token.Lexeme.{Lexeme}
use Rattle.ur_syntax.specs.declared.decl.Module.{Module as Tree}
use Rattle.ur_parse_rules.specs.DeclParts.{DeclPart, whole, signature}
use Rattle.ur_parse_rules.specs.Language.{max_nesting}
use Rattle.ur_parse_rules.specs.Parts.{of_decl}
use Rattle.ur_parse.specs.Wholes.{RefusesWhole}
use Rattle.ur_load.specs.Project.{RefusesProject}
use Rattle.ur_load.specs.Lines.{project_lines}
use Rattle.ur_load.specs.Names.{project_file, module_file, signature_file, main_of}
use Rattle.ur_load.specs.Sources.{IsThere, IsTooLong, Lacks, NamesModules, AreThere, AreSources, HasSignature, HasSources, HaveTrees}
use Rattle.ur_load.specs.Refuses.{RefusesTokens, RefusesSource, RefusesSources, RefusesFiles}
use Rattle.ur_load.specs.Loads.{IsOneRefusal, OneRefusal}
use Rattle.ur_load.specs.declared.source.Source.{Source}
use Rattle.ur_load.specs.declared.source.Sources.{Sources}
use Rattle.ur_load.proofs.Facing.{Cuts, two_cuts}
use Rattle.ur_load.proofs.ProjectLaws.{no_project, one_wrong}
use Rattle.ur_load.proofs.Laws.{one_file, not_there, one_names, all_once}
use Rattle.ur_load.proofs.Laws.{there_lacks, named_refused, there_in, signature_fits, source_refused, tree_in}

-- two refusals of one file that say the same
both_say : (file : List ℕ) (q r : Refusal) (code : ℕ) (left right : List ℕ) → Says q code left right → Says r code left right → IsOneRefusal file file q r
both_say file q r code left right (c, l, t) (c', l', t') = (refl, inl (c ∙ sym c', l ∙ sym l', t ∙ sym t'))

other_way : (f g : List ℕ) (q r : Refusal) → IsOneRefusal f g q r → IsOneRefusal g f r q
other_way f g q r (e, inl (c, l, t)) = (sym e, inl (sym c, sym l, sym t))
other_way f g q r (e, inr (a, b)) = (sym e, inr (b, a))

in_files : (file f g : List ℕ) (q r : Refusal) → f ≡ file → g ≡ file → IsOneRefusal file file q r → IsOneRefusal f g q r
in_files file f g q r e h (_, same) = (e ∙ sym h, same)

-- ---- a file that is not there or is too long

one_long : (files : Files) (file : List ℕ) (q r : Refusal) → IsTooLong files file q → IsTooLong files file r → IsOneRefusal file file q r
one_long files file q r (_, (says, _)) (_, (says', _)) = both_say file q r 20 (codes "bytes of a source or project file") (codes "1048576") says says'

one_lack : (files : Files) (file : List ℕ) (q r : Refusal) → Lacks files file q → Lacks files file r → IsOneRefusal file file q r
one_lack files file q r (Lacks.missing none (says, _)) (Lacks.missing none' (says', _)) = both_say file q r 2 file [] says says'
one_lack files file q r (Lacks.missing none says) (Lacks.long ((bytes, is, long), says')) = absurd (not_there files file bytes is none)
one_lack files file q r (Lacks.long ((bytes, is, long), says)) (Lacks.missing none says') = absurd (not_there files file bytes is none)
one_lack files file q r (Lacks.long long) (Lacks.long long') = one_long files file q r long long'

-- ---- a project file that names no modules

one_bad_project : (file bytes : List ℕ) (q r : Refusal) → RefusesProject file bytes q → RefusesProject file bytes r → IsOneRefusal file file q r
one_bad_project file bytes q r (RefusesProject.not_text none (says, _)) (RefusesProject.not_text none' (says', _)) = both_say file q r 3 file [] says says'
one_bad_project file bytes q r (RefusesProject.not_text none says) (RefusesProject.bad_line number line text bad says') = absurd (none text)
one_bad_project file bytes q r (RefusesProject.not_text none says) (RefusesProject.too_many modules is many says') = absurd (none is.text)
one_bad_project file bytes q r (RefusesProject.bad_line number line text bad says) (RefusesProject.not_text none says') = absurd (none text)
one_bad_project file bytes q r (RefusesProject.bad_line m a text bad says) (RefusesProject.bad_line n b text' bad' says') =
    both_say file q r 1 a [] says.says (subst (λ z. Says r 1 z []) (sym (one_wrong (project_lines bytes) m n a b bad bad').1) says'.says)
one_bad_project file bytes q r (RefusesProject.bad_line number line text bad says) (RefusesProject.too_many modules is many says') =
    absurd (no_project bytes number line modules bad is)
one_bad_project file bytes q r (RefusesProject.too_many modules is many says) (RefusesProject.not_text none says') = absurd (none is.text)
one_bad_project file bytes q r (RefusesProject.too_many modules is many says) (RefusesProject.bad_line number line text bad says') =
    absurd (no_project bytes number line modules bad is)
one_bad_project file bytes q r (RefusesProject.too_many modules is many (says, _)) (RefusesProject.too_many modules' is' many' (says', _)) =
    both_say file q r 20 (codes "modules") (codes "64") says says'

-- ---- the first of the modules' files that is not there

there_before : (files : Files) (project : List ℕ) (before behind : List (List ℕ)) (name : List ℕ) → AreThere files project (before ++ name ∷ behind)
    → IsThere files (module_file project name)
there_before files project [] behind name (is, rest) = is
there_before files project (n ∷ before) behind name (is, rest) = there_before files project before behind name rest

-- no file of these modules that is there is not there or too long
none_lacks : (files : Files) (project : List ℕ) (names before behind : List (List ℕ)) (name : List ℕ) (r : Refusal) → names ≡ before ++ name ∷ behind
    → AreThere files project names → Lacks files (module_file project name) r → ⊥
none_lacks files project names before behind name r e there lacks =
    there_lacks files (module_file project name) r (there_before files project before behind name (subst (AreThere files project) e there)) lacks

one_module_lack : (files : Files) (project : List ℕ) (xs ys us vs : List (List ℕ)) (a b : List ℕ) (q r : Refusal) → xs ++ a ∷ us ≡ ys ++ b ∷ vs
    → AreThere files project xs → AreThere files project ys → Lacks files (module_file project a) q → Lacks files (module_file project b) r
    → IsOneRefusal (module_file project a) (module_file project b) q r
one_module_lack files project xs ys us vs a b q r e there there' lacks lacks' = by (two_cuts xs ys us vs e) where
  by : Cuts xs ys a b → IsOneRefusal (module_file project a) (module_file project b) q r
  by (Cuts.same h same) =
      let file : module_file project b ≡ module_file project a = ap (module_file project) (sym same) in
      in_files (module_file project a) (module_file project a) (module_file project b) q r refl file
      (one_lack files (module_file project a) q r lacks (subst (λ z. Lacks files z r) file lacks'))
  by (Cuts.earlier more h) = absurd (none_lacks files project ys xs more a q h there' lacks)
  by (Cuts.later more h) = absurd (none_lacks files project xs ys more b r h there lacks')

-- ---- a source that no tree spells

is_05 : {code : ℕ} → code ≡ 5 → Contains (5 ∷ 6 ∷ []) code
is_05 e = (0, omega arith, sym e)

is_06 : {code : ℕ} → code ≡ 6 → Contains (5 ∷ 6 ∷ []) code
is_06 e = (1, omega arith, sym e)

of_whole : (p : DeclPart) (tokens : List Lexeme) (r : Refusal) → RefusesWhole max_nesting (of_decl p) tokens r → Contains (5 ∷ 6 ∷ []) r.code
of_whole p tokens r (RefusesWhole.syntax says none) = is_05 says.0
of_whole p tokens r (RefusesWhole.nested taken rest says none split opened) = is_06 says.0

one_source : (p : DeclPart) (s : Source) (q r : Refusal) → RefusesSource p s q → RefusesSource p s r → IsOneRefusal s.file s.file q r
one_source p s q r (RefusesSource.no_tokens (RefusesTokens.not_text none number (says, _)))
    (RefusesSource.no_tokens (RefusesTokens.not_text none' number' (says', _))) =
    both_say s.file q r 3 s.file [] says says'
one_source p s q r (RefusesSource.no_tokens (RefusesTokens.not_text none number says))
    (RefusesSource.no_tokens (RefusesTokens.no_token text none' says')) = absurd (none text)
one_source p s q r (RefusesSource.no_tokens (RefusesTokens.not_text none number says)) (RefusesSource.no_tree tokens cut why) = absurd (none cut.0)
one_source p s q r (RefusesSource.no_tokens (RefusesTokens.no_token text none says))
    (RefusesSource.no_tokens (RefusesTokens.not_text none' number says')) = absurd (none' text)
one_source p s q r (RefusesSource.no_tokens (RefusesTokens.no_token text none says))
    (RefusesSource.no_tokens (RefusesTokens.no_token text' none' says')) = both_say s.file q r 4 [] [] says says'
one_source p s q r (RefusesSource.no_tokens (RefusesTokens.no_token text none says)) (RefusesSource.no_tree tokens cut why) = absurd (none tokens cut)
one_source p s q r (RefusesSource.no_tree tokens cut why) (RefusesSource.no_tokens (RefusesTokens.not_text none number says)) = absurd (none cut.0)
one_source p s q r (RefusesSource.no_tree tokens cut why) (RefusesSource.no_tokens (RefusesTokens.no_token text none says)) = absurd (none tokens cut)
one_source p s q r (RefusesSource.no_tree tokens cut why) (RefusesSource.no_tree tokens' cut' why') =
    (refl, inr (of_whole p tokens q why, of_whole p tokens' r why'))

-- no source among those with trees is refused
none_refused : (sources before behind : List Source) (s : Source) (trees : List Tree) (r : Refusal) → sources ≡ before ++ s ∷ behind
    → HaveTrees sources trees → RefusesSource whole s r → ⊥
none_refused sources before behind s trees r e have why =
    let found = tree_in before behind s trees
    (subst (λ z. HaveTrees z trees) e have) in source_refused whole s found.1.tokens found.0 r found.1.cut found.1.spelled why

one_module_source : (xs ys us vs : List Source) (a b : Source) (ts ts' : List Tree) (q r : Refusal) → xs ++ a ∷ us ≡ ys ++ b ∷ vs → HaveTrees xs ts
    → HaveTrees ys ts'
    → RefusesSource whole a q → RefusesSource whole b r → IsOneRefusal a.file b.file q r
one_module_source xs ys us vs a b ts ts' q r e have have' why why' = by (two_cuts xs ys us vs e) where
  by : Cuts xs ys a b → IsOneRefusal a.file b.file q r
  by (Cuts.same h same) =
      in_files a.file a.file b.file q r refl (ap (λ (z : Source). z.file) (sym same))
      (one_source whole a q r why (subst (λ z. RefusesSource whole z r) (sym same) why'))
  by (Cuts.earlier more h) = absurd (none_refused ys xs more a ts' q h have' why)
  by (Cuts.later more h) = absurd (none_refused xs ys more b ts r h have why')

one_of_sources : (sources : Sources) (f g : List ℕ) (q r : Refusal) → RefusesSources sources f q → RefusesSources sources g r → IsOneRefusal f g q r
one_of_sources sources _ _ q r (RefusesSources.no_module xs us a ts _ is have why) (RefusesSources.no_module ys vs b ts' _ is' have' why') =
    one_module_source xs ys us vs a b ts ts' q r (sym is ∙ is') have have' why why'
one_of_sources sources _ _ q r (RefusesSources.no_module xs us a ts _ is have why) (RefusesSources.no_signature s ts' _ is' have' why') =
    absurd (none_refused sources.modules xs us a ts' q is have' why)
one_of_sources sources _ _ q r (RefusesSources.no_signature s ts _ is have why) (RefusesSources.no_module ys vs b ts' _ is' have' why') =
    absurd (none_refused sources.modules ys vs b ts r is' have why')
one_of_sources sources _ _ q r (RefusesSources.no_signature s ts _ is have why) (RefusesSources.no_signature s' ts' _ is' have' why') =
    let both : Some s ≡ Some s' = sym is ∙ is' in
    let same : s' ≡ s = cc in
    in_files s.file s.file s'.file q r refl (ap (λ (z : Source). z.file) same)
    (one_source signature s q r why (subst (λ z. RefusesSource signature z r) same why'))

-- ---- two steps of which only one can refuse

project_named : (files : Files) (project : List ℕ) (names : List (List ℕ)) (r : Refusal) → NamesModules files project names
    → Lacks files (project_file project) r → ⊥
project_named files project names r ((bytes, file, is), few) lacks = there_lacks files (project_file project) r (bytes, file) lacks

module_has : (files : Files) (project : List ℕ) (before behind : List (List ℕ)) (name : List ℕ) (sources : Sources) (r : Refusal)
    → NamesModules files project (before ++ name ∷ behind)
    → HasSources files project sources → Lacks files (module_file project name) r → ⊥
module_has files project before behind name sources r named has lacks =
    let same : has.names ≡ before ++ name ∷ behind = one_names files project has.names (before ++ name ∷ behind) has.named named in
    there_lacks files (module_file project name) r
    (there_in files project 1 before behind name sources.modules (subst (λ z. AreSources files project 1 z sources.modules) same has.modules)) lacks

signature_has : (files : Files) (project : List ℕ) (names : List (List ℕ)) (sources : Sources) (r : Refusal) → NamesModules files project names
    → HasSources files project sources
    → IsTooLong files (signature_file project (main_of names)) r → ⊥
signature_has files project names sources r named has long =
    signature_fits files project names sources.signature r
    (subst (λ z. HasSignature files project z sources.signature) (one_names files project has.names names has.named named) has.signature) long

-- ---- the files

pub one_refusal : OneRefusal
-- the project file is not there
one_refusal files project _ _ q r (RefusesFiles.no_project _ lacks) (RefusesFiles.no_project _ lacks') = one_lack files (project_file project) q r lacks lacks'
one_refusal files project _ _ q r (RefusesFiles.no_project _ lacks) (RefusesFiles.bad_project bytes _ has refuses) =
    absurd (there_lacks files (project_file project) q (bytes, has) lacks)
one_refusal files project _ _ q r (RefusesFiles.no_project _ lacks) (RefusesFiles.no_file before behind name _ named there lacks') =
    absurd (project_named files project (before ++ name ∷ behind) q named lacks)
one_refusal files project _ _ q r (RefusesFiles.no_project _ lacks) (RefusesFiles.long_signature names _ named there long) =
    absurd (project_named files project names q named lacks)
one_refusal files project _ g q r (RefusesFiles.no_project _ lacks) (RefusesFiles.of_sources sources _ _ has refuses) =
    absurd (project_named files project has.names q has.named lacks)
-- it names no modules
one_refusal files project _ _ q r (RefusesFiles.bad_project bytes _ has refuses) (RefusesFiles.no_project _ lacks) =
    absurd (there_lacks files (project_file project) r (bytes, has) lacks)
one_refusal files project _ _ q r (RefusesFiles.bad_project bytes _ has refuses) (RefusesFiles.bad_project bytes' _ has' refuses') =
    one_bad_project (project_file project) bytes q r refuses
    (subst (λ z. RefusesProject (project_file project) z r) (one_file files (project_file project) bytes' bytes has'.0 has.0) refuses')
one_refusal files project _ _ q r (RefusesFiles.bad_project bytes _ has refuses) (RefusesFiles.no_file before behind name _ named there lacks) =
    absurd (named_refused files project (before ++ name ∷ behind) bytes q named has refuses)
one_refusal files project _ _ q r (RefusesFiles.bad_project bytes _ has refuses) (RefusesFiles.long_signature names _ named there long) =
    absurd (named_refused files project names bytes q named has refuses)
one_refusal files project _ g q r (RefusesFiles.bad_project bytes _ has refuses) (RefusesFiles.of_sources sources _ _ has' refuses') =
    absurd (named_refused files project has'.names bytes q has'.named has refuses)
-- a file of a module is not there
one_refusal files project _ _ q r (RefusesFiles.no_file before behind name _ named there lacks) (RefusesFiles.no_project _ lacks') =
    absurd (project_named files project (before ++ name ∷ behind) r named lacks')
one_refusal files project _ _ q r (RefusesFiles.no_file before behind name _ named there lacks) (RefusesFiles.bad_project bytes _ has refuses) =
    absurd (named_refused files project (before ++ name ∷ behind) bytes r named has refuses)
one_refusal files project _ _ q r (RefusesFiles.no_file xs us a _ named there lacks) (RefusesFiles.no_file ys vs b _ named' there' lacks') =
    one_module_lack files project xs ys us vs a b q r (one_names files project (xs ++ a ∷ us) (ys ++ b ∷ vs) named named') there there' lacks lacks'
one_refusal files project _ _ q r (RefusesFiles.no_file xs us a _ named there lacks) (RefusesFiles.long_signature names _ named' there' long) =
    absurd (none_lacks files project names xs us a q (one_names files project names (xs ++ a ∷ us) named' named) there' lacks)
one_refusal files project _ g q r (RefusesFiles.no_file xs us a _ named there lacks) (RefusesFiles.of_sources sources _ _ has refuses) =
    absurd (module_has files project xs us a sources q named has lacks)
-- the signature is too long
one_refusal files project _ _ q r (RefusesFiles.long_signature names _ named there long) (RefusesFiles.no_project _ lacks) =
    absurd (project_named files project names r named lacks)
one_refusal files project _ _ q r (RefusesFiles.long_signature names _ named there long) (RefusesFiles.bad_project bytes _ has refuses) =
    absurd (named_refused files project names bytes r named has refuses)
one_refusal files project _ _ q r (RefusesFiles.long_signature names _ named there long) (RefusesFiles.no_file ys vs b _ named' there' lacks) =
    absurd (none_lacks files project names ys vs b r (one_names files project names (ys ++ b ∷ vs) named named') there lacks)
one_refusal files project _ _ q r (RefusesFiles.long_signature names _ named there long) (RefusesFiles.long_signature names' _ named' there' long') =
    let file : signature_file project (main_of names') ≡ signature_file project (main_of names) =
    ap (λ z. signature_file project (main_of z)) (one_names files project names' names named' named) in
    in_files (signature_file project (main_of names)) (signature_file project (main_of names)) (signature_file project (main_of names')) q r refl file
    (one_long files (signature_file project (main_of names)) q r long (subst (λ z. IsTooLong files z r) file long'))
one_refusal files project _ g q r (RefusesFiles.long_signature names _ named there long) (RefusesFiles.of_sources sources _ _ has refuses) =
    absurd (signature_has files project names sources q named has long)
-- the sources have no trees
one_refusal files project f _ q r (RefusesFiles.of_sources sources _ _ has refuses) (RefusesFiles.no_project _ lacks) =
    absurd (project_named files project has.names r has.named lacks)
one_refusal files project f _ q r (RefusesFiles.of_sources sources _ _ has refuses) (RefusesFiles.bad_project bytes _ has' refuses') =
    absurd (named_refused files project has.names bytes r has.named has' refuses')
one_refusal files project f _ q r (RefusesFiles.of_sources sources _ _ has refuses) (RefusesFiles.no_file ys vs b _ named there lacks) =
    absurd (module_has files project ys vs b sources r named has lacks)
one_refusal files project f _ q r (RefusesFiles.of_sources sources _ _ has refuses) (RefusesFiles.long_signature names _ named there long) =
    absurd (signature_has files project names sources r named has long)
one_refusal files project f g q r (RefusesFiles.of_sources sources _ _ has refuses) (RefusesFiles.of_sources others _ _ has' refuses') =
    one_of_sources sources f g q r refuses (subst (λ z. RefusesSources z g r) (all_once files project others sources has' has) refuses')
