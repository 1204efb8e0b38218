-- What is read of the sources.
use Rattle.std.proofs.Common.{◌≡◌, ℕ, zero, ◌+◌, suc, ◌≤◌, ◌<◌, List, [], ◌∷◌, ◌++◌, length, take, drop, get_or, Some, Result, Ok, Err, IfOk, IsUtf8, sym, ap, subst, ◌∙◌, inl, inr, arith, codes}
use Rattle.std.proofs.lemmas.List.{take-append-drop, take_more}
use Rattle.std.proofs.Math.Seq.{drop-cons, take-length}
use Rattle.ur_base.specs.Stopping as stopping
use Rattle.ur_base.specs.declared.refusal.Refusal.{Refusal}
use Rattle.ur_base.specs.declared.refusal.Span.{Span}
use Rattle.ur_base.specs.declared.refusal.Stop.{Stop}
use Rattle.ur_base.specs.declared.refusal.Stop.TheVariants as stop
use Rattle.ur_parse_rules.specs.Places.{IfRefused}
use Rattle.ur_lex.specs.declared.token.Lexeme.{Lexeme}
use Rattle.ur_lex.specs.Lexing.{IsTokens, ExplainsNoTokens}
use Rattle.ur_syntax.specs.declared.decl.Module.{Module}
use Rattle.ur_syntax.specs.declared.decl.Signature.{Signature}
use Rattle.ur_parse_rules.specs.DeclParts.{DeclPart, whole, signature}
use Rattle.ur_parse_rules.specs.Language.{IsModule, IsSignature, max_nesting}
use Rattle.ur_parse_rules.specs.Parts.{of_decl}
use Rattle.ur_parse.specs.Wholes.{RefusesWhole}
use Rattle.ur_load.specs.Sources.{SaysOfFile, HasTree, HaveTrees, HasSignatureTree, file_limit}
use Rattle.ur_load.specs.Refuses.{RefusesTokens, RefusesSource}
use Rattle.ur_load.specs.Loads.{IfRefusedIn, OnShelf, IsStopAt, TellsOf, SaysTheSame, SaysText, RefusesModules, RefusesSignature, AreSmall}
use Rattle.ur_load.specs.declared.load_end.LoadEnd.{LoadEnd}
use Rattle.ur_load.specs.declared.load_end.LoadEnd.TheVariants.{Refused, Shelf, Memory}
use Rattle.ur_load.specs.declared.source.Source.{Source}

-- ---- tokens

pub not_text : (A : Type 0) (s : Source) (x : Stop) → (IsUtf8 s.bytes → ⊥) → SaysText s x → IfRefused {A = A} (Err x) (RefusesTokens s)
not_text A s (stop.Refused r) none (number, says) = RefusesTokens.not_text none number says
not_text A s stop.Memory none says = tt

pub no_tokens : {A : Type 0} (s : Source) (r : Result A Stop) → IsUtf8 s.bytes → stopping.IfRefused r (ExplainsNoTokens s.number s.bytes) → IfRefused r (RefusesTokens s)
no_tokens s (Ok a) text h = tt
no_tokens s (Err stop.Memory) text h = tt
no_tokens s (Err (stop.Refused r)) text (inl (code, right, none)) = absurd (none text)
no_tokens s (Err (stop.Refused r)) text (inr (says, text', none)) = RefusesTokens.no_token text none says

-- ---- trees

pub cut_refused : (A B : Type 0) (p : DeclPart) (s : Source) (x : Stop) → IfRefused {A = A} (Err x) (RefusesTokens s) → IfRefused {A = B} (Err x) (RefusesSource p s)
cut_refused A B p s (stop.Refused r) h = RefusesSource.no_tokens h
cut_refused A B p s stop.Memory h = tt

pub tree_refused : {A : Type 0} (p : DeclPart) (s : Source) (tokens : List Lexeme) (r : Result A Stop) → IsTokens s.number s.bytes tokens
    → IfRefused r (RefusesWhole max_nesting (of_decl p) tokens) → IfRefused r (RefusesSource p s)
tree_refused p s tokens (Ok a) cut h = tt
tree_refused p s tokens (Err stop.Memory) cut h = tt
tree_refused p s tokens (Err (stop.Refused r)) cut h = RefusesSource.no_tree tokens cut h

pub tree_is : (s : Source) (tokens : List Lexeme) (r : Result Module Stop) → IsTokens s.number s.bytes tokens → IfOk r (IsModule max_nesting tokens) → IfOk r (HasTree s)
tree_is s tokens (Ok tree) cut h = record { tokens = tokens; cut = cut; spelled = h }
tree_is s tokens (Err x) cut h = tt

pub signature_is : (s : Source) (tokens : List Lexeme) (r : Result Signature Stop) → IsTokens s.number s.bytes tokens → IfOk r (IsSignature max_nesting tokens) → IfOk r (HasSignatureTree s)
signature_is s tokens (Ok tree) cut h = record { tokens = tokens; cut = cut; spelled = h }
signature_is s tokens (Err x) cut h = tt

same_says : (r q : Refusal) (code : ℕ) (left right : List ℕ) → SaysTheSame q r → stopping.Says r code left right → stopping.Says q code left right
same_says r q code left right (c, l, t) (c', l', t') = (c ∙ c', l ∙ l', t ∙ t')

same_file : (s : Source) (r q : Refusal) (code : ℕ) (left right : List ℕ) → TellsOf s r q → r.span.file ≡ s.number → SaysOfFile r code left right → (q.span.file ≡ s.number) × SaysOfFile q code left right
same_file s r q code left right one number (says, («from», to)) = let kept : q.span ≡ r.span = one.place number in
    (ap (λ (p : Span). p.file) kept ∙ number, (same_says r q code left right one.says says, (ap (λ (p : Span). p.«from») kept ∙ «from», ap (λ (p : Span). p.to) kept ∙ to)))

same_why : (p : DeclPart) (s : Source) (r q : Refusal) → TellsOf s r q → RefusesSource p s r → RefusesSource p s q
same_why p s r q one (RefusesSource.no_tokens (RefusesTokens.not_text none number says)) = let same = same_file s r q 3 s.file [] one number says in RefusesSource.no_tokens (RefusesTokens.not_text none same.0 same.1)
same_why p s r q one (RefusesSource.no_tokens (RefusesTokens.no_token text none says)) = RefusesSource.no_tokens (RefusesTokens.no_token text none (same_says r q 4 [] [] one.says says))
same_why p s r q one (RefusesSource.no_tree tokens cut (RefusesWhole.syntax says none)) = RefusesSource.no_tree tokens cut (RefusesWhole.syntax (same_says r q 5 [] [] one.says says) none)
same_why p s r q one (RefusesSource.no_tree tokens cut (RefusesWhole.nested taken rest says none split opened)) =
    RefusesSource.no_tree tokens cut (RefusesWhole.nested taken rest (same_says r q 6 (codes "257") (codes "256") one.says says) none split opened)

-- ---- all modules

trees_more : (sources : List Source) (trees : List Module) (s : Source) (tree : Module) → HaveTrees sources trees → HasTree s tree → HaveTrees (sources ++ s ∷ []) (trees ++ tree ∷ [])
trees_more [] [] s tree h one = (one, tt)
trees_more [] (t ∷ trees) s tree h one = absurd h
trees_more (q ∷ sources) [] s tree h one = absurd h
trees_more (q ∷ sources) (t ∷ trees) s tree (h, rest) one = (h, trees_more sources trees s tree rest one)

pub one_more : (sources : List Source) (i : ℕ) (s : Source) (trees : List Module) (tree : Module) → i < length sources → s ≡ get_or sources i s
    → HaveTrees (take i sources) trees → HasTree s tree → HaveTrees (take (i + 1) sources) (trees ++ tree ∷ [])
one_more sources i s trees tree below at' so_far one =
    subst (λ z. HaveTrees z (trees ++ tree ∷ [])) (sym (take_more sources i s below ∙ ap (λ z. take i sources ++ z ∷ []) (sym at'))) (trees_more (take i sources) trees s tree so_far one)

pub all_read : (sources : List Source) (i : ℕ) (trees : List Module) → length sources ≤ i → i ≤ length sources → HaveTrees (take i sources) trees → HaveTrees sources trees
all_read sources i trees past within h =
    let same : i ≡ length sources = omega (arith, past, within) in
    subst (λ z. HaveTrees z trees) (ap (λ z. take z sources) same ∙ take-length sources) h

small_in : (sources : List Source) (i : ℕ) (d : Source) → i < length sources → AreSmall sources → length (get_or sources i d).bytes ≤ file_limit
small_in [] i d below h = absurd (omega (arith, below))
small_in (s ∷ sources) zero d below (h, rest) = h
small_in (s ∷ sources) (suc i) d below (h, rest) = small_in sources i d (omega (arith, below)) rest

pub small_at : (sources : List Source) (i : ℕ) (s : Source) → i < length sources → s ≡ get_or sources i s → AreSmall sources → length s.bytes ≤ file_limit
small_at sources i s below at' h = subst (λ (z : Source). length z.bytes ≤ file_limit) (sym at') (small_in sources i s below h)

pub module_refused : (A B : Type 0) (sources : List Source) (i : ℕ) (s : Source) (trees : List Module) (x : Stop) (end : LoadEnd) → i < length sources → s ≡ get_or sources i s
    → HaveTrees (take i sources) trees → IfRefused {A = A} (Err x) (RefusesSource whole s) → IsStopAt s x end → IfRefusedIn {A = B} (Err end) (RefusesModules sources)
module_refused A B sources i s trees (stop.Refused r) (Refused at' q) below place so_far why (here, one) = record {
  before = take i sources;
  behind = drop (suc i) sources;
  s = s;
  trees = trees;
  stands = sym (take-append-drop i sources) ∙ ap (λ z. take i sources ++ z) (drop-cons sources i s below ∙ ap (λ z. z ∷ drop (suc i) sources) (sym place));
  spelled = so_far;
  file_is = here;
  why = same_why whole s r q one why;
}
module_refused A B sources i s trees stop.Memory (Refused at' q) below place so_far why says = absurd says
module_refused A B sources i s trees x Shelf below place so_far why says = tt
module_refused A B sources i s trees x Memory below place so_far why says = tt

-- ---- the signature

pub signature_refused : (A B : Type 0) (s : Source) (x : Stop) (end : LoadEnd) → IfRefused {A = A} (Err x) (RefusesSource signature s) → IsStopAt s x end
    → IfRefusedIn {A = B} (Err end) (RefusesSignature (Some s))
signature_refused A B s (stop.Refused r) (Refused at' q) why (here, one) = (here, same_why signature s r q one why)
signature_refused A B s stop.Memory (Refused at' q) why says = absurd says
signature_refused A B s x Shelf why says = tt
signature_refused A B s x Memory why says = tt

-- a stop of a file is no fault of the shelf
pub no_fault_in : (A : Type 0) (P : Type 0) (s : Source) (x : Stop) (end : LoadEnd) → IsStopAt s x end → OnShelf {A = A} (Err end) P
no_fault_in A P s x (Refused at' q) says = tt
no_fault_in A P s x Memory says = tt
no_fault_in A P s (stop.Refused r) Shelf says = absurd says
no_fault_in A P s stop.Memory Shelf says = absurd says
